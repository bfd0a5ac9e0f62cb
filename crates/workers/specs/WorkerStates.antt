-- The workers, and the answers that they return.
use Rattle.std.specs.Prelude.{◌≡◌, ℕ, ◌<◌, true, false, List, [], ◌∷◌, ◌++◌, length, map, All, sum_by, count_by, nat_eq, slice_index_or}
use Rattle.input_lines.specs.declared.request.Request.{Request}
use Rattle.input_lines.specs.declared.answers.Answer.{Answer}
use Rattle.workers.specs.declared.batch.Claims.{Claims}
use Rattle.workers.specs.declared.worker.Pass.{Pass}
use Rattle.workers.specs.Claims.{IsPassOf, drawn_by, is_spent}
use Rattle.workers.specs.declared.worker_state.WorkerState.{WorkerState}
use Rattle.workers.specs.declared.worker_state.Numbered.{Numbered}
use Rattle.workers.specs.Slots.{Answers}

-- the number of the request that was answered
abbrev pub number : Numbered → ℕ
number numbered = numbered.number

-- the answer is that of the request with its number
abbrev pub IsRight : List Request → Numbered → Type 0
IsRight requests numbered = (numbered.number < length requests)
    × ((q : Request) → Answers (slice_index_or requests numbered.number q) numbered.answer)

-- each number drawn has its answer, in the same order
pub record AreDrawn (requests : List Request) (drawn : List ℕ) (answered : List Numbered) : Type 0 where
  pub numbers : map number answered ≡ drawn
  pub right : All (IsRight requests) answered

-- the worker's ticket is one of these claims, and the worker has drawn and answered nothing
pub record IsFresh (claims : Claims) (worker_state : WorkerState) : Type 0 where
  pub pass : IsPassOf claims worker_state.pass
  pub unspent : is_spent worker_state.pass ≡ false
  pub drawn : drawn_by worker_state.pass ≡ []
  pub answered : worker_state.answered.items ≡ []

-- the worker's ticket got `None`, and unless memory ran out for the worker, each number that it drew has its answer
pub record IsFinished (requests : List Request) (claims : Claims) (worker_state : WorkerState) : Type 0 where
  pub pass : IsPassOf claims worker_state.pass
  pub spent : is_spent worker_state.pass ≡ true
  pub answered : worker_state.refused ≡ false → AreDrawn requests (drawn_by worker_state.pass) worker_state.answered.items

-- the worker has answered one more request, or memory ran out for it
pub record IsNoted (request : Request) (i : ℕ) (before after : WorkerState) : Type 0 where
  pub pass : after.pass ≡ before.pass
  pub kept : after.refused ≡ false → before.refused ≡ false
  pub more : after.refused ≡ false → (answer : Answer) × Answers request answer
      × (after.answered.items ≡ before.answered.items ++ record { number = i; answer = answer } ∷ [])

-- the answers are right, and each request has as many answers as the number of times that the tickets drew it
pub record AreGathered (requests : List Request) (passes : List Pass) (answered : List Numbered) : Type 0 where
  pub right : All (IsRight requests) answered
  pub each : (i : ℕ) → count_by (nat_eq i) (map number answered) ≡ sum_by (λ pass. count_by (nat_eq i) (drawn_by pass)) passes

-- the answers are right, and each request has at least one
pub record HaveAnswers (requests : List Request) (answered : List Numbered) : Type 0 where
  pub right : All (IsRight requests) answered
  pub each : (i : ℕ) → i < length requests → 0 < count_by (nat_eq i) (map number answered)
