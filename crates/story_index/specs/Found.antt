-- The enterings and causes of the code, as the definitions see them.
use Rattle.std.specs.Prelude.{ℕ, Bool, false, Option, Some, None, if◌then◌else◌}
use Rattle.std.specs.Borrow.{Bor}
use Rattle.indexmap.specs.IndexMap.{IndexMap, get_by}
use Rattle.exceptions.specs.Exceptions.{Label}
use Rattle.job_meaning.specs.Log.{same_label}
use Rattle.block_exits.specs.Held.{kind_of}
use Rattle.job_story.specs.Tell.{is_from}
use Rattle.job_story.specs.Causes as why
use Rattle.story_index.specs.declared.causes.Entering.{Entering}
use Rattle.story_index.specs.declared.sign.Cause.{Cause}
use Rattle.story_index.specs.declared.sign.Cause.TheVariants.{Deadline, Task, Set, Failure, Cancellation}
use Rattle.story_index.specs.declared.sign.Sign.{Sign}

-- how a scope or nursery was entered
abbrev pub entering_in_code : Entering → why.Entering
entering_in_code e = record { kind = kind_of e.kind; deadline = e.deadline }

-- why a scope or nursery is cancelled, or an event is set
abbrev pub cause_in_code : Cause → why.Cause
cause_in_code Deadline = why.by_deadline
cause_in_code (Task task tick) = why.by_task task.now tick
cause_in_code (Set task tick) = why.by_set task.now tick
cause_in_code (Failure task tick) = why.by_failure task.now tick
cause_in_code (Cancellation task tick) = why.by_cancellation task.now tick

-- the cause that a sign is for the cancellation of a label, or for its being set, if it is one
abbrev pub sign_at : Label → Option Sign → Option why.Cause
sign_at l None = None
sign_at l (Some sign) = if same_label l sign.label.now then Some (cause_in_code sign.cause) else None

-- whether the label was entered with a deadline at this moment
abbrev pub is_due_at : Option why.Entering → ℕ → Bool
is_due_at None t = false
is_due_at (Some entering) t = is_from entering.deadline t

-- the value of a map from labels at this label
abbrev pub value_at : {V S : Type 0} → IndexMap (Bor Label) V S → Label → Option V
value_at map l = get_by (λ k. same_label l k.now) map
