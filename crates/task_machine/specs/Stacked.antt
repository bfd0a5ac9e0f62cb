-- The open scopes of a world, each with its label, and the places of a task (the scopes, nurseries and events that enclose it)
-- among them.
use Rattle.std.specs.Prelude.{◌≡◌, ◌⊎◌, ℕ, true, false, Option, Some, None, List, [], ◌∷◌}
use Rattle.exceptions.specs.Exceptions.{Label}
use Rattle.cancel_scopes.specs.Sight.{Tick, Level}
use Rattle.cancel_scopes.specs.Tree as scopes
use Rattle.job_meaning.specs.Log.{Table}
use Rattle.job_meaning.specs.Rest.{Stopped, waiting_for, queued}
use Rattle.turn_semantics.specs.Midway.{Place, label_among}
use Rattle.task_machine.specs.declared.stop.TaskState.{TaskState}
use Rattle.task_machine.specs.declared.stop.TaskState.TheVariants.{Waiting, Queued}
use Rattle.task_machine.specs.Labels.{Labels, Events}

-- A level is cancelled from the moment that the table has for the label of a place, which is no event; or it is an event, which is set
-- from that moment, is never cancelled and hides nothing.
abbrev pub IsLevelOf : Option Tick → Level ℕ → Table → Place → Type 0
IsLevelOf None l cancelled_from p = (p.is_event ≡ false) × (l.from ≡ cancelled_from p.label)
IsLevelOf (Some set) l cancelled_from p = (p.is_event ≡ true) × (l.shield ≡ false) × (l.from ≡ None) × (set ≡ cancelled_from p.label)

-- A stack of open scopes corresponds to these places with the moments of cancellation of a table: each scope has the place's
-- label and shield, and is cancelled, or set, from the moment that the table has for its label.
abbrev pub AreAt : Labels → Events → Table → scopes.Stack → List Place → Type 0
AreAt labels events cancelled_from [] [] = Unit {0}
AreAt labels events cancelled_from [] (p ∷ ps) = ⊥
AreAt labels events cancelled_from (l ∷ ls) [] = ⊥
AreAt labels events cancelled_from (l ∷ ls) (p ∷ ps) =
    (labels l.label ≡ Some p.label) × (l.shield ≡ p.shield) × IsLevelOf (events l.label) l cancelled_from p × AreAt labels events cancelled_from ls ps

-- a scope is one of a stack
abbrev pub IsKey : ℕ → scopes.Stack → Type 0
IsKey key [] = ⊥
IsKey key (l ∷ ls) = (key ≡ l.label) ⊎ IsKey key ls

-- no other scope of a stack has this label
abbrev pub Alone : Labels → ℕ → Label → scopes.Stack → Type 0
Alone labels key label [] = Unit {0}
Alone labels key label (l ∷ ls) = (labels l.label ≡ Some label → l.label ≡ key) × Alone labels key label ls

-- both have the same of each scope of a stack: the same labels, or the same events
abbrev pub SameOn : {A : Type 0} → (ℕ → Option A) → (ℕ → Option A) → scopes.Stack → Type 0
SameOn old new [] = Unit {0}
SameOn old new (l ∷ ls) = (old l.label ≡ new l.label) × SameOn old new ls

-- a scope was found, and a label among places: neither, or the scope has that label
abbrev pub FoundAs : Labels → Option ℕ → Option Label → Type 0
FoundAs labels None found = found ≡ None
FoundAs labels (Some key) found = (labels key ≡ found) × ((label : Label) × (found ≡ Some label))

-- the event for which a task waits, or the limiter or channel that it asked, if there is one, is one of the stack, and has the label
-- that the name finds among the places
abbrev pub IsEventNamed : Labels → scopes.Stack → TaskState → List ℕ → List Place → Type 0
IsEventNamed labels st (Waiting key since) name ps = IsKey key st × (labels key ≡ label_among true name ps)
IsEventNamed labels st (Queued key ask since body) name ps = IsKey key st × (labels key ≡ label_among true name ps)
IsEventNamed labels st _ name ps = Unit {0}

-- the event for which a task stopped to wait, or the limiter or channel that it asked, if it did, is one of the stack, and has the label
-- that its name finds among the places
abbrev pub AwaitsEvent : Labels → scopes.Stack → Option Stopped → TaskState → List Place → Type 0
AwaitsEvent labels st None task_state ps = Unit {0}
AwaitsEvent labels st (Some (waiting_for name u)) task_state ps = IsEventNamed labels st task_state name ps
AwaitsEvent labels st (Some (queued name ask u body)) task_state ps = IsEventNamed labels st task_state name ps
AwaitsEvent labels st (Some _) task_state ps = Unit {0}
