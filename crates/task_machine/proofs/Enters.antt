-- A scope or event that is entered inside the scopes, nurseries and events that enclose a task.
use Rattle.std.proofs.Common.{◌≡◌, ◌≢◌, ℕ, Bool, true, false, Option, Some, None, List, [], ◌∷◌, ◌++◌, append_assoc, refl, ap, sym, ◌∙◌, subst}
use Rattle.std.specs.Option.{unwrap_or}
use Rattle.turn_semantics.specs.Lists.{IsAmong}
use Rattle.exceptions.specs.Exceptions.{Label}
use Rattle.cancel_scopes.specs.Sight.{Tick, Level}
use Rattle.cancel_scopes.specs.Tree.{Stack, Tree, stack_of, outer_of, IsChain}
use Rattle.job_meaning.specs.Log.{Table}
use Rattle.turn_semantics.specs.Midway.{Place}
use Rattle.turn_semantics.specs.Names.{names_at}
use Rattle.turn_semantics.specs.Steps.{cancelled_from_after_entry}
use Rattle.task_machine.specs.Acts.{set_at_entry}
use Rattle.task_machine.specs.Entered.{a_scope_at, an_event_at}
use Rattle.task_machine.specs.Labels.{Labels, Events, Updates}
use Rattle.task_machine.specs.Laws.{FitsEntry}
use Rattle.task_machine.specs.Stacked.{AreAt, SameOn}
use Rattle.task_machine.proofs.Stacked.{entered_alike}

-- a key that is not open is in no stack, so what is kept of it may change
same_on : {A : Type 0} (old new : ℕ → Option A) (tree : Tree) (key : ℕ) (value : Option A) → stack_of tree key ≡ None →
    Updates old new key value →
    (before st : Stack) →
    ((front : Stack) (l : Level ℕ) (following : Stack) → before ++ st ≡ front ++ l ∷ following → stack_of tree l.label ≡ Some (l ∷ following)) →
    SameOn old new st
same_on old new tree key value closed u before [] chain = tt
same_on old new tree key value closed u before (l ∷ ls) chain = (
  sym (u.others l.label other),
  same_on old new tree key value closed u (before ++ l ∷ []) ls
      (λ front m following e. chain front m following (sym (append_assoc before (l ∷ []) ls) ∙ e)),
)
  where
    other : l.label ≢ key
    other e = let f : Some (l ∷ ls) ≡ None = sym (chain before l ls refl) ∙ ap (stack_of tree) e ∙ closed in cc

-- the stack of a scope that is open, or of none
same_around : {A : Type 0} (old new : ℕ → Option A) (tree : Tree) (key : ℕ) (value : Option A) → IsChain tree →
    stack_of tree key ≡ None → Updates old new key value → (outer : Option ℕ) → SameOn old new (outer_of tree outer)
same_around old new tree key value chain closed u None = tt
same_around old new tree key value chain closed u (Some p) = by_stack (stack_of tree p) refl
  where
    by_stack : (o : Option Stack) → stack_of tree p ≡ o → SameOn old new (unwrap_or o [])
    by_stack None e = tt
    by_stack (Some st) e = same_on old new tree key value closed u [] st (λ front l following f. chain p st e front l following f)

-- a scope or event that is opened inside a stack has its place inside the others, with its deadline as its from
pub enters_at : (labels more : Labels) (events others : Events) (old new : Tree) (outer inner : Option ℕ) (key : ℕ) (p : Place) (d : Tick) →
    IsChain old → stack_of old key ≡ None →
    stack_of new key ≡ Some (record { label = key; shield = p.shield; from = d } ∷ outer_of old outer) →
    Updates labels more key (Some p.label) → Updates events others key (set_at_entry p.is_event) → FitsEntry p d → inner ≡ Some key →
    (cancelled_from : Table) (ps : List Place) → (IsAmong p.label.name (names_at ps) → ⊥) → AreAt labels events cancelled_from (outer_of old outer) ps →
    AreAt more others (cancelled_from_after_entry cancelled_from p.label d) (outer_of new inner) (p ∷ ps)
enters_at labels more events others old new outer inner key p d chain closed top u v entry within cancelled_from ps named a =
    subst (λ (st : Stack). AreAt more others (cancelled_from_after_entry cancelled_from p.label d) st (p ∷ ps))
    (sym (ap (outer_of new) within ∙ ap (λ (o : Option Stack). unwrap_or o []) top))
    (entered_alike labels more events others cancelled_from (outer_of old outer) ps key p d u.changed v.changed entry
    (same_around labels more old key (Some p.label) chain closed u outer)
    (same_around events others old key (set_at_entry p.is_event) chain closed v outer) named a)

-- a scope or nursery is no event, and an event has neither a deadline nor a shield
pub scope_entry : (label : Label) (shield : Bool) (d : Tick) → FitsEntry (a_scope_at label shield) d
scope_entry label shield d e = absurd (let f : false ≡ true = e in cc)

pub event_entry : (label : Label) → FitsEntry (an_event_at label) None
event_entry label e = (refl, refl)
