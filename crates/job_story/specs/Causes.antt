-- Why a scope or nursery is cancelled.
use Rattle.std.specs.Prelude.{ℕ, ◌+◌, ◌==◌, Bool, true, false, Option, Some, None, is_none, List, [], ◌∷◌, if◌then◌else◌}
use Rattle.exceptions.specs.Exceptions.{Label, Exc}
use Rattle.exceptions.specs.Split.{is_cancelled as by_cancelled, drop}
use Rattle.cancel_scopes.specs.Sight.{Tick}
use Rattle.job_meaning.specs.Log.{Table, same_label}
use Rattle.job_meaning.specs.Walk.{Kind}
use Rattle.job_story.specs.Story.{enters, cancels, sets, waits}
use Rattle.job_story.specs.Tell.{is_from}
use Rattle.job_story.specs.Events.{What, happens, ends, Event}

-- The cause of a cancellation: the deadline; a task that cancelled it; a member of the nursery, or its own body, that ended with an
-- exception, or with an exception of which every leaf is `Cancelled`. The cause of an event that is set: a task that set it.
pub data Cause : Type 0 where
  by_deadline : Cause
  by_task : (task : Label) → (tick : ℕ) → Cause
  by_set : (task : Label) → (tick : ℕ) → Cause
  by_failure : (task : Label) → (tick : ℕ) → Cause
  by_cancellation : (task : Label) → (tick : ℕ) → Cause

-- ---- how a label was entered

pub record Entering : Type 0 where
  pub kind : Kind
  pub deadline : Tick

abbrev pub entering_by : Label → What → Option Entering → Option Entering
entering_by l (happens (enters kind label deadline shield)) other =
    if same_label l label then Some (record { kind = kind; deadline = deadline }) else other
entering_by l _ other = other

-- how the label was first entered, or `None` where it never was
abbrev pub entering_of : Label → List Event → Option Entering
entering_of l [] = None
entering_of l (e ∷ es) = entering_by l e.what (entering_of l es)

-- ---- who cancelled it, or set it

abbrev pub is_label : Label → Option Label → Bool
is_label l None = false
is_label l (Some m) = same_label l m

-- the cause that an end with this exception is: a cancellation where every leaf is `Cancelled`, and a failure otherwise
abbrev pub cause_by : Exc → Label → ℕ → Cause
cause_by e task t = if is_none (drop by_cancelled e) then by_cancellation task t else by_failure task t

abbrev pub cause_if : Bool → Option Exc → Label → ℕ → Option Cause
cause_if false e task t = None
cause_if true None task t = None
cause_if true (Some e) task t = Some (cause_by e task t)

-- the cause that an event is for the cancellation of a label, or for its being set, if it is one
abbrev pub cause_in : Label → ℕ → Label → What → Option Cause
cause_in l t task (happens (cancels label)) = if is_label l label then Some (by_task task t) else None
cause_in l t task (happens (sets label)) = if is_label l label then Some (by_set task t) else None
cause_in l t task (happens (waits label exc)) = cause_if (same_label l label) exc task t
cause_in l t task (ends home exc) = cause_if (is_label l home) exc task t
cause_in l t task _ = None

abbrev pub or_later : Option Cause → Option Cause → Option Cause
or_later None other = other
or_later (Some c) other = Some c

-- the first event that cancelled or set the label in the moment before the one from which it is cancelled or set
abbrev pub signed_by : Label → ℕ → List Event → Option Cause
signed_by l from [] = None
signed_by l from (e ∷ es) =
    or_later (if e.tick + 1 == from then cause_in l e.tick e.task e.what else None) (signed_by l from es)

-- the deadline, if the label is cancelled from that moment on, and the event otherwise
abbrev pub cause_by_entering : Option Entering → Label → ℕ → List Event → Option Cause
cause_by_entering None l from es = signed_by l from es
cause_by_entering (Some entered) l from es = if is_from entered.deadline from then Some by_deadline else signed_by l from es

abbrev pub cause_from : Tick → Label → List Event → Option Cause
cause_from None l es = None
cause_from (Some from) l es = cause_by_entering (entering_of l es) l from es

-- why a label is cancelled, or set, by the events in order, or `None` where it never is
abbrev pub cause_of : Table → List Event → Label → Option Cause
cause_of table es l = cause_from (table l) l es
