-- What an event cancels, and the end of a task with an exception.
use Rattle.std.proofs.Common.{◌≡◌, ℕ, refl, ap}
use Rattle.std.specs.Prelude.{Bool, true, false, Some, None, if◌then◌else◌}
use Rattle.exceptions.specs.Exceptions.{Label, Exc}
use Rattle.job_story.specs.Causes.{Cause, cause_by, cause_if}

-- an end with no exception cancels nothing
pub no_sign : (b : Bool) (task : Label) (t : ℕ) → None ≡ cause_if b None task t
no_sign true task t = refl
no_sign false task t = refl

-- an end with an exception cancels the label
pub some_sign : (b : Bool) (e : Exc) (task : Label) (t : ℕ) (c : Cause) → c ≡ cause_by e task t →
    (if b then Some c else None) ≡ cause_if b (Some e) task t
some_sign true e task t c same = ap Some same
some_sign false e task t c same = refl
