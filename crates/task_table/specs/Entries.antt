-- Entries of batches: which requests they make, and why their tasks continue after answers are placed.
use Rattle.std.specs.Prelude.{◌≡◌, ⊤, ℕ, Option, Some, None, IsSome, List, [], ◌∷◌, drop, slice_get}
use Rattle.std.specs.Option.{option_map}
use Rattle.std.specs.List.{All, filter_map}
use Rattle.input_lines.specs.declared.request.Request.{Request}
use Rattle.input_lines.specs.declared.answers.Answer.{Answer}
use Rattle.task_machine.specs.declared.stop.Wake.{Wake}
use Rattle.task_machine.specs.declared.stop.Wake.TheVariants as wakes
use Rattle.task_table.specs.declared.entry.Call.{Call}
use Rattle.task_table.specs.declared.entry.Call.TheVariants.{Begin, Due, Seen, Settled, Granted, Ask}
use Rattle.task_table.specs.declared.entry.Entry.{Entry}

-- what was added of an entry: its task, and why the task is ready
abbrev pub Added : Type 0
Added = ℕ × Call

abbrev pub added_of : Entry → Added
added_of e = (e.task, e.call)

-- the entry that was added so, with no answer placed
abbrev pub without_answer : Added → Entry
without_answer added = record { task = added.0; call = added.1; answer = None }

-- the request of a call that makes one
abbrev pub request_in : Call → Option Request
request_in Begin = None
request_in Due = None
request_in Seen = None
request_in Settled = None
request_in (Granted grant) = None
request_in (Ask r) = Some r

-- the requests that entries make, in order
abbrev pub requests_of : List Entry → List Request
requests_of es = filter_map (λ e. request_in e.call) es

-- the answer of an entry with this request, if it makes one, after answers are placed from it on: an Ask has the
-- first
abbrev pub answer_placed : Option Request → List Answer → Option Answer → Option Answer
answer_placed None answers old = old
answer_placed (Some r) answers old = slice_get answers 0

-- the answers that are left for the entries after it
abbrev pub answers_after : Option Request → List Answer → List Answer
answers_after None answers = answers
answers_after (Some r) answers = drop 1 answers

-- an entry after answers are placed from it on
abbrev pub with_placed : List Answer → Entry → Entry
with_placed answers e =
    record { task = e.task; call = e.call; answer = answer_placed (request_in e.call) answers e.answer }

-- entries after the i-th answer is placed for the i-th Ask
abbrev pub answers_placed : List Entry → List Answer → List Entry
answers_placed [] answers = []
answers_placed (e ∷ es) answers = with_placed answers e ∷ answers_placed es (answers_after (request_in e.call) answers)

-- if there is a request, there is an answer
abbrev pub HasAnswer : Option Request → Option Answer → Type 0
HasAnswer None answer = ⊤
HasAnswer (Some r) answer = IsSome answer

-- each Ask has an answer
abbrev pub AllPlaced : List Entry → Type 0
AllPlaced es = All (λ e. HasAnswer (request_in e.call) e.answer) es

-- no entry has an answer
abbrev pub NonePlaced : List Entry → Type 0
NonePlaced es = All (λ e. e.answer ≡ None) es

-- why a task that was ready by this call continues, with the answer that was placed for it
abbrev pub wake_of : Call → Option Answer → Option Wake
wake_of Begin answer = Some wakes.Begin
wake_of Due answer = Some wakes.Due
wake_of Seen answer = Some wakes.Seen
wake_of Settled answer = Some wakes.Settled
wake_of (Granted grant) answer = Some (wakes.Granted grant)
wake_of (Ask r) answer = option_map wakes.Answer answer
