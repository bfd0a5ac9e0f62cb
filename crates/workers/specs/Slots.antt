-- What a slot holds after its request was computed, and the answers to a list of requests.
use Rattle.std.specs.Prelude.{◌≡◌, ◌≢◌, ℕ, ◌<◌, List, length, slice_index_or}
use Rattle.input_lines.specs.declared.request.Request.{Request}
use Rattle.input_lines.specs.declared.answers.Answer.{Answer}
use Rattle.input_lines.specs.Answers.{IsAnswer}
use Rattle.workers.specs.declared.slot.Slot.{Slot}
use Rattle.workers.specs.declared.slot.Content.{Content}
use Rattle.workers.specs.declared.slot.Content.TheVariants.{Empty, Done, NoMemory}

-- this is the answer to a request: that of its kernel on its part
abbrev pub Answers : Request → Answer → Type 0
Answers request answer = IsAnswer request.kernel request.part answer

-- the content of the slot of a request that was computed: its answer, or `NoMemory`
abbrev pub Computes : Request → Content → Type 0
Computes request Empty = ⊥
Computes request (Done answer) = Answers request answer
Computes request NoMemory = Unit {0}

-- the slot of a request that was computed
abbrev pub IsComputed : Request → Slot → Type 0
IsComputed request slot = Computes request slot.content

-- the slot of each request holds its result
abbrev pub AreComputed : List Request → List Slot → Type 0
AreComputed requests row = (i : ℕ) (q : Request) (s : Slot) → i < length row →
    IsComputed (slice_index_or requests i q) (slice_index_or row i s)

-- there are as many answers as requests, and the answer at each index is that of the request there
pub record AreAnswers (requests : List Request) (answers : List Answer) : Type 0 where
  pub count : length answers ≡ length requests
  pub each : (i : ℕ) (q : Request) (a : Answer) → i < length requests → Answers (slice_index_or requests i q) (slice_index_or answers i a)

-- an empty slot
abbrev pub empty_slot : Slot
empty_slot = record { content = Empty }

-- the slot of an answer
abbrev pub slot_of : Answer → Slot
slot_of answer = record { content = Done answer }

-- something was put into the slot
abbrev pub IsFilled : Slot → Type 0
IsFilled slot = slot.content ≢ Empty
