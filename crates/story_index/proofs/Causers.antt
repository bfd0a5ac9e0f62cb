-- A task that caused a cancellation has an event of its own.
use Rattle.std.proofs.Common.{◌≡◌, ℕ}
use Rattle.std.specs.Prelude.{◌+◌, ◌==◌, Bool, true, false, ◌||◌, Option, Some, None, List, [], ◌∷◌, is_none, if◌then◌else◌}
use Rattle.exceptions.specs.Exceptions.{Label, Exc}
use Rattle.exceptions.specs.Split.{is_cancelled as by_cancelled, drop}
use Rattle.cancel_scopes.specs.Sight.{Tick}
use Rattle.job_meaning.specs.Log.{Table, same_label}
use Rattle.job_story.specs.Story.{Happening, is_cancelled, cancels, sets, waits}
use Rattle.job_story.specs.Events.{What, starts, happens, ends, Event}
use Rattle.job_story.specs.Tell.{is_from}
use Rattle.job_story.specs.Causes.{Cause, by_deadline, by_task, by_set, by_failure, by_cancellation, Entering, entering_of, is_label, cause_if, cause_in, or_later, signed_by, cause_by_entering, cause_from}
use Rattle.job_story.specs.Focus.{task_of, cause_by, causer_of, is_some_label}
use Rattle.story_index.proofs.Bools.{or_left, or_right}

-- whether an event is of this task
abbrev pub is_task : Label → List Event → Bool
is_task l [] = false
is_task l (e ∷ es) = same_label l e.task || is_task l es

-- whether a cause is this task
abbrev is_by : Label → Option Cause → Bool
is_by l cause = is_some_label l (task_of cause)

-- ---- an event is a cause by its own task alone

by_step : (b : Bool) (l task : Label) (t : ℕ) → is_by l (if b then Some (by_task task t) else None) ≡ true → same_label l task ≡ true
by_step true l task t h = h
by_step false l task t h = let clash : false ≡ true = h in cc

by_set_step : (b : Bool) (l task : Label) (t : ℕ) → is_by l (if b then Some (by_set task t) else None) ≡ true → same_label l task ≡ true
by_set_step true l task t h = h
by_set_step false l task t h = let clash : false ≡ true = h in cc

by_kind : (b : Bool) (l task : Label) (t : ℕ) →
    is_by l (Some (if b then by_cancellation task t else by_failure task t)) ≡ true → same_label l task ≡ true
by_kind true l task t h = h
by_kind false l task t h = h

by_end : (b : Bool) (exc : Option Exc) (l task : Label) (t : ℕ) → is_by l (cause_if b exc task t) ≡ true → same_label l task ≡ true
by_end true (Some e) l task t h = by_kind (is_none (drop by_cancelled e)) l task t h
by_end true None l task t h = let clash : false ≡ true = h in cc
by_end false exc l task t h = let clash : false ≡ true = h in cc

in_happening : (k l task : Label) (t : ℕ) (h : Happening) → is_by l (cause_in k t task (happens h)) ≡ true → same_label l task ≡ true
in_happening k l task t (cancels label) h = by_step (is_label k label) l task t h
in_happening k l task t (sets label) h = by_set_step (is_label k label) l task t h
in_happening k l task t (waits label exc) h = by_end (same_label k label) exc l task t h
in_happening k l task t _ h = let clash : false ≡ true = h in cc

in_event : (k l task : Label) (t : ℕ) (w : What) → is_by l (cause_in k t task w) ≡ true → same_label l task ≡ true
in_event k l task t (starts home part) h = let clash : false ≡ true = h in cc
in_event k l task t (happens what) h = in_happening k l task t what h
in_event k l task t (ends home exc) h = by_end (is_label k home) exc l task t h

-- ---- so a cause is the task of some event

tested : (b : Bool) (l : Label) (o : Option Cause) → is_by l (if b then o else None) ≡ true → is_by l o ≡ true
tested true l o h = h
tested false l o h = let clash : false ≡ true = h in cc

first_or_later : (o p : Option Cause) (l : Label) (a b : Bool) → (is_by l o ≡ true → a ≡ true) → (is_by l p ≡ true → b ≡ true) →
    is_by l (or_later o p) ≡ true → (a || b) ≡ true
first_or_later None p l a b f g h = or_right a b (g h)
first_or_later (Some c) p l a b f g h = or_left a b (f h)

in_signed : (k l : Label) (from : ℕ) (es : List Event) → is_by l (signed_by k from es) ≡ true → is_task l es ≡ true
in_signed k l from [] h = let clash : false ≡ true = h in cc
in_signed k l from (e ∷ es) h =
    first_or_later (if e.tick + 1 == from then cause_in k e.tick e.task e.what else None) (signed_by k from es) l
    (same_label l e.task) (is_task l es)
    (λ due. in_event k l e.task e.tick e.what (tested (e.tick + 1 == from) l (cause_in k e.tick e.task e.what) due))
    (in_signed k l from es) h

unless_due : (b : Bool) (l : Label) (o : Option Cause) → is_by l (if b then Some by_deadline else o) ≡ true → is_by l o ≡ true
unless_due true l o h = let clash : false ≡ true = h in cc
unless_due false l o h = h

in_entered : (entered : Option Entering) (k l : Label) (from : ℕ) (es : List Event) →
    is_by l (cause_by_entering entered k from es) ≡ true → is_task l es ≡ true
in_entered None k l from es h = in_signed k l from es h
in_entered (Some entered) k l from es h =
    in_signed k l from es (unless_due (is_from entered.deadline from) l (signed_by k from es) h)

in_from : (from : Tick) (k l : Label) (es : List Event) → is_by l (cause_from from k es) ≡ true → is_task l es ≡ true
in_from None k l es h = let clash : false ≡ true = h in cc
in_from (Some from) k l es h = in_entered (entering_of k es) k l from es h

in_cause : (table : Table) (all : List Event) (l : Label) (by : Option Label) → is_some_label l (cause_by table all by) ≡ true → is_task l all ≡ true
in_cause table all l None h = let clash : false ≡ true = h in cc
in_cause table all l (Some k) h = in_from (table k) k l all h

in_cancelled : (table : Table) (all : List Event) (l : Label) (what : Happening) →
    is_some_label l (causer_of table all (happens what)) ≡ true → is_task l all ≡ true
in_cancelled table all l (is_cancelled by during in_cleanup) h = in_cause table all l by h
in_cancelled table all l _ h = let clash : false ≡ true = h in cc

-- a task that caused a cancellation is the task of some event
pub causer_is_task : (table : Table) (all : List Event) (l : Label) (w : What) →
    is_some_label l (causer_of table all w) ≡ true → is_task l all ≡ true
causer_is_task table all l (starts home part) h = let clash : false ≡ true = h in cc
causer_is_task table all l (happens what) h = in_cancelled table all l what h
causer_is_task table all l (ends home exc) h = let clash : false ≡ true = h in cc
