-- What the open scopes of a world show is what the places of a task (the scopes, nurseries and events that enclose it) show with
-- the world's moments of cancellation, and stays so.
use Rattle.std.specs.Prelude.{◌≡◌, ℕ, Bool, true, false, None, Some, List, ◌∷◌}
use Rattle.turn_semantics.specs.Lists.{IsAmong}
use Rattle.exceptions.specs.Exceptions.{Label}
use Rattle.cancel_scopes.specs.Sight.{Tick, Level, seen, catches}
use Rattle.cancel_scopes.specs.Tree as scopes
use Rattle.job_meaning.specs.Log.{Table}
use Rattle.turn_semantics.specs.Midway.{Place, label_among, stack_at}
use Rattle.turn_semantics.specs.Names.{names_at, OwnNames}
use Rattle.turn_semantics.specs.Steps.{cancelled_from_after_sign, cancelled_from_after_entry}
use Rattle.task_machine.specs.Labels.{Labels, Events, scope_named}
use Rattle.task_machine.specs.Acts.{SetsKey, set_at_entry}
use Rattle.task_machine.specs.Stacked.{AreAt, IsKey, SameOn, FoundAs}

-- a stack and its places show the same cancellations
abbrev pub SeenAlike : Type 0
SeenAlike = (labels : Labels) (events : Events) (cancelled_from : Table) (st : scopes.Stack) (ps : List Place) (t : ℕ) → AreAt labels events cancelled_from st ps →
    seen st t ≡ seen (stack_at cancelled_from ps).scopes t

-- the innermost scope, which is no event, catches as its place does
abbrev pub CatchAlike : Type 0
CatchAlike =
    (labels : Labels) (events : Events) (cancelled_from : Table) (l : Level ℕ) (ls : scopes.Stack) (p : Place) (ps : List Place) (t : ℕ) →
    p.is_event ≡ false → AreAt labels events cancelled_from (l ∷ ls) (p ∷ ps) →
    scopes.catches (l ∷ ls) t ≡ catches (cancelled_from p.label) p.shield (stack_at cancelled_from ps).scopes t

-- a name finds the scope, or the event, of the label that it finds among the places, and that is one of the stack
abbrev pub FoundAlike : Type 0
FoundAlike =
    (sought : Bool) (labels : Labels) (events : Events) (cancelled_from : Table) (name : List ℕ) (st : scopes.Stack) (ps : List Place) →
    AreAt labels events cancelled_from st ps →
    FoundAs labels (scope_named sought labels events name st) (label_among sought name ps)
    × ((key : ℕ) → scope_named sought labels events name st ≡ Some key → IsKey key st)

-- A scope of the stack that is signed lowers the from of its label, if the places have different names: so no other scope
-- has its label.
abbrev pub SignedAlike : Type 0
SignedAlike =
    (labels : Labels) (events : Events) (cancelled_from : Table) (st : scopes.Stack) (ps : List Place) (key t : ℕ) (label : Label) →
    labels key ≡ Some label → events key ≡ None → IsKey key st → OwnNames (names_at ps) → AreAt labels events cancelled_from st ps →
    AreAt labels events (cancelled_from_after_sign cancelled_from label t) (scopes.after_cancel key t st) ps

-- an event of the stack that is set lowers the from of its label, if the places have different names
abbrev pub SetAlike : Type 0
SetAlike =
    (labels : Labels) (events more : Events) (cancelled_from : Table) (st : scopes.Stack) (ps : List Place) (key t : ℕ) (label : Label) (set : List ℕ) (all : List ℕ) →
    labels key ≡ Some label → SetsKey key t events more set all → IsKey key st → OwnNames (names_at ps) → AreAt labels events cancelled_from st ps →
    AreAt labels more (cancelled_from_after_sign cancelled_from label t) st ps

-- an event has neither a deadline nor a shield
abbrev pub FitsEntry : Place → Tick → Type 0
FitsEntry p d = p.is_event ≡ true → (p.shield ≡ false) × (d ≡ None)

-- a scope or event that is entered opens its label, if no enclosing one has its name
abbrev pub EnteredAlike : Type 0
EnteredAlike =
    (labels more : Labels) (events others : Events) (cancelled_from : Table) (st : scopes.Stack) (ps : List Place) (key : ℕ) (p : Place) (d : Tick) →
    more key ≡ Some p.label → others key ≡ set_at_entry p.is_event → FitsEntry p d → SameOn labels more st → SameOn events others st →
    (IsAmong p.label.name (names_at ps) → ⊥) → AreAt labels events cancelled_from st ps →
    AreAt more others (cancelled_from_after_entry cancelled_from p.label d) (record { label = key; shield = p.shield; from = d } ∷ st) (p ∷ ps)
