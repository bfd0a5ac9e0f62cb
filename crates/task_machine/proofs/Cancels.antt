-- A scope that encloses a task and is cancelled by its name, or an event that is set.
use Rattle.std.proofs.Common.{◌≡◌, inl, inr, ℕ, Bool, true, false, ◌&&◌, Option, Some, None, List, [], ◌∷◌, ◌++◌, append_assoc, refl, ap, sym, ◌∙◌, subst}
use Rattle.std.specs.Prelude.{IsSome}
use Rattle.std.specs.Option.{option_map, unwrap_or}
use Rattle.exceptions.specs.Exceptions.{Label}
use Rattle.cancel_scopes.specs.Sight.{Tick, Level}
use Rattle.cancel_scopes.specs.Tree.{Stack, Tree, stack_of, IsOpen, outer_of, IsChain, after_cancel}
use Rattle.job_meaning.specs.Log.{Table}
use Rattle.job_meaning.specs.declared.clock.Clock.{Clock}
use Rattle.job_meaning.specs.declared.clock.Clock.TheVariants.{ByTicks as by_ticks, ByRounds as by_rounds}
use Rattle.job_meaning.specs.Walk.{with_own}
use Rattle.turn_semantics.specs.Midway.{Place, label_among}
use Rattle.turn_semantics.specs.Names.{names_at, OwnNames}
use Rattle.turn_semantics.specs.Steps.{signs_to, cancelled_from_after, cancelled_from_after_sign}
use Rattle.task_machine.specs.Acts.{SetsKey}
use Rattle.task_machine.specs.Labels.{Labels, Events, is_named, key_if, is_sought, scope_named}
use Rattle.task_machine.specs.Stacked.{AreAt, IsKey, FoundAs}
use Rattle.task_machine.proofs.Stacked.{one_of, named_at, named_is_in, named_sought, no_event, signed_alike, set_alike}

some_is : (o : Option Stack) (st : Stack) → o ≡ Some st → IsSome o
some_is o st e = subst IsSome (sym e) refl

-- a scope of a stack is open
open_in : (tree : Tree) (key : ℕ) (before st : Stack) →
    ((front : Stack) (l : Level ℕ) (following : Stack) → before ++ st ≡ front ++ l ∷ following → stack_of tree l.label ≡ Some (l ∷ following)) →
    IsKey key st → IsOpen tree key
open_in tree key before [] chain i = absurd i
open_in tree key before (l ∷ ls) chain (inl e) = subst (IsOpen tree) (sym e) (some_is _ _ (chain before l ls refl))
open_in tree key before (l ∷ ls) chain (inr i) =
    open_in tree key (before ++ l ∷ []) ls (λ front m following e. chain front m following (sym (append_assoc before (l ∷ []) ls) ∙ e)) i

-- each scope of a stack is open
pub open_around : (tree : Tree) → IsChain tree → (scope : Option ℕ) (key : ℕ) → IsKey key (outer_of tree scope) → IsOpen tree key
open_around tree chain None key i = absurd i
open_around tree chain (Some p) key i = by_stack (stack_of tree p) refl i
  where
    by_stack : (o : Option Stack) → stack_of tree p ≡ o → IsKey key (unwrap_or o []) → IsOpen tree key
    by_stack None e i = absurd i
    by_stack (Some st) e i = open_in tree key [] st (λ front l following f. chain p st e front l following f) i

-- a scope or event that is found in a stack by its name is open
pub found_open : (sought : Bool) (labels : Labels) (events : Events) (tree : Tree) (name : List ℕ) (scope : Option ℕ) (key : ℕ) →
    IsChain tree → scope_named sought labels events name (outer_of tree scope) ≡ Some key → IsOpen tree key
found_open sought labels events tree name scope key chain e =
    open_around tree chain scope key (named_is_in sought labels events name (outer_of tree scope) key e)

-- the stacks after a cancellation
pub around_after : (old new : Tree) (key t : ℕ) (scope : Option ℕ) →
    ((at : ℕ) → stack_of new at ≡ option_map (after_cancel key t) (stack_of old at)) →
    outer_of new scope ≡ after_cancel key t (outer_of old scope)
around_after old new key t None h = refl
around_after old new key t (Some p) h = ap (λ (o : Option Stack). unwrap_or o []) (h p) ∙ by_stack (stack_of old p)
  where
    by_stack : (o : Option Stack) → unwrap_or (option_map (after_cancel key t) o) [] ≡ after_cancel key t (unwrap_or o [])
    by_stack None = refl
    by_stack (Some st) = refl

-- if a scope that was found is signed, the moments of cancellation of the enclosing scopes are lowered by the sign of its label
pub signs_at : (labels more : Labels) (events others : Events) (old new : Tree) (scope : Option ℕ) (key t : ℕ) (cancelled_from : Table)
    (ps : List Place) (label : Option Label) → more ≡ labels → others ≡ events →
    ((at : ℕ) → stack_of new at ≡ option_map (after_cancel key t) (stack_of old at)) → FoundAs labels (Some key) label →
    IsKey key (outer_of old scope) → events key ≡ None → OwnNames (names_at ps) → AreAt labels events cancelled_from (outer_of old scope) ps →
    AreAt more others (cancelled_from_after cancelled_from (signs_to label t)) (outer_of new scope) ps
signs_at labels more events others old new scope key t cancelled_from ps label same alike after at within scope_key own a =
    let signed : AreAt labels events (cancelled_from_after_sign cancelled_from at.1.0 t) (after_cancel key t (outer_of old scope)) ps =
    signed_alike labels events cancelled_from (outer_of old scope) ps key t at.1.0 (at.0 ∙ at.1.1) scope_key within own a in
    subst (λ (ls : Labels). AreAt ls others (cancelled_from_after cancelled_from (signs_to label t)) (outer_of new scope) ps) (sym same)
    (subst (λ (es : Events). AreAt labels es (cancelled_from_after cancelled_from (signs_to label t)) (outer_of new scope) ps) (sym alike)
    (subst (λ (st : Stack). AreAt labels events (cancelled_from_after cancelled_from (signs_to label t)) st ps) (sym (around_after old new key t scope after))
    (subst (λ (o : Option Label). AreAt labels events (cancelled_from_after cancelled_from (signs_to o t)) (after_cancel key t (outer_of old scope)) ps)
    (sym at.1.1) signed)))

-- if nothing was found, nothing is signed and the enclosing scopes and events stay as they are
pub signs_none : (labels : Labels) (events : Events) (cancelled_from : Table) (st : Stack) (ps : List Place) (t : ℕ) (label : Option Label) →
    FoundAs labels None label → AreAt labels events cancelled_from st ps → AreAt labels events (cancelled_from_after cancelled_from (signs_to label t)) st ps
signs_none labels events cancelled_from st ps t label found a =
    subst (λ (o : Option Label). AreAt labels events (cancelled_from_after cancelled_from (signs_to o t)) st ps) (sym found) a

-- what a name finds among the places, by the scope or event that it finds
pub found_as : (sought : Bool) (labels : Labels) (events : Events) (cancelled_from : Table) (name : List ℕ) (st : Stack) (ps : List Place)
    (found : Option ℕ) → scope_named sought labels events name st ≡ found → AreAt labels events cancelled_from st ps →
    FoundAs labels found (label_among sought name ps)
found_as sought labels events cancelled_from name st ps found e a =
    subst (λ (o : Option ℕ). FoundAs labels o (label_among sought name ps)) e (named_at sought labels events cancelled_from name st ps a)

-- so it is where the scope was found by its name
pub cancels_at : (labels more : Labels) (events others : Events) (old new : Tree) (scope : Option ℕ) (name : List ℕ) (key t : ℕ) →
    more ≡ labels → others ≡ events → ((at : ℕ) → stack_of new at ≡ option_map (after_cancel key t) (stack_of old at)) →
    scope_named false labels events name (outer_of old scope) ≡ Some key →
    (cancelled_from : Table) (ps : List Place) → OwnNames (names_at ps) → AreAt labels events cancelled_from (outer_of old scope) ps →
    AreAt more others (cancelled_from_after cancelled_from (signs_to (label_among false name ps) t)) (outer_of new scope) ps
cancels_at labels more events others old new scope name key t same alike after found cancelled_from ps own a =
    signs_at labels more events others old new scope key t cancelled_from ps (label_among false name ps) same alike after
    (found_as false labels events cancelled_from name (outer_of old scope) ps (Some key) found a)
    (named_is_in false labels events name (outer_of old scope) key found)
    (no_event (events key) (named_sought false labels events name (outer_of old scope) key found)) own a

-- if an event of the name was found and set, its from is lowered by the sign of its label
pub sets_at : (labels : Labels) (events more : Events) (st : Stack) (name : List ℕ) (key t : ℕ) (set all : List ℕ) →
    SetsKey key t events more set all → scope_named true labels events name st ≡ Some key →
    (cancelled_from : Table) (ps : List Place) → OwnNames (names_at ps) → AreAt labels events cancelled_from st ps →
    AreAt labels more (cancelled_from_after cancelled_from (signs_to (label_among true name ps) t)) st ps
sets_at labels events more st name key t set all sets found cancelled_from ps own a =
    let at : FoundAs labels (Some key) (label_among true name ps) = found_as true labels events cancelled_from name st ps (Some key) found a in
    subst (λ (o : Option Label). AreAt labels more (cancelled_from_after cancelled_from (signs_to o t)) st ps) (sym at.1.1)
    (set_alike labels events more cancelled_from st ps key t at.1.0 set all (at.0 ∙ at.1.1) sets
    (named_is_in true labels events name st key found) own a)

-- if none has the name, nothing is signed and the enclosing scopes and events stay as they are
pub cancels_none : (sought : Bool) (labels : Labels) (events : Events) (st : Stack) (name : List ℕ) (t : ℕ) →
    scope_named sought labels events name st ≡ None → (cancelled_from : Table) (ps : List Place) →
    AreAt labels events cancelled_from st ps → AreAt labels events (cancelled_from_after cancelled_from (signs_to (label_among sought name ps) t)) st ps
cancels_none sought labels events st name t none cancelled_from ps a =
    signs_none labels events cancelled_from st ps t (label_among sought name ps) (found_as sought labels events cancelled_from name st ps None none a) a

-- ---- what the task has cancelled or set itself

-- what is found by its name has a label
pub found_labelled : (sought : Bool) (labels : Labels) (events : Events) (name : List ℕ) (st : Stack) (key : ℕ) →
    scope_named sought labels events name st ≡ Some key → IsSome (labels key)
found_labelled sought labels events name [] key e = absurd (let f : None ≡ Some key = e in cc)
found_labelled sought labels events name (l ∷ ls) key e =
    by_label (λ f. found_labelled sought labels events name ls key f) (is_sought sought (events l.label)) (labels l.label) refl e
  where
    by_label : (scope_named sought labels events name ls ≡ Some key → IsSome (labels key)) → (b : Bool) (o : Option Label) →
        labels l.label ≡ o → key_if (b && is_named name o) l.label (scope_named sought labels events name ls) ≡ Some key → IsSome (labels key)
    by_label further false o f g = further g
    by_label further true None f g = further g
    by_label further true (Some label) f g = by_name (is_named name (Some label)) g
      where
        by_name : (b : Bool) → key_if b l.label (scope_named sought labels events name ls) ≡ Some key → IsSome (labels key)
        by_name true h = subst (λ (k : ℕ). IsSome (labels k)) (one_of l.label key h) (subst IsSome (sym f) refl)
        by_name false h = further h

-- an event that is found by its name is one
pub found_event_is : (labels : Labels) (events : Events) (name : List ℕ) (st : Stack) (key : ℕ) →
    scope_named true labels events name st ≡ Some key → IsSome (events key)
found_event_is labels events name st key e = by_event (events key) (named_sought true labels events name st key e)
  where
    by_event : (o : Option Tick) → is_sought true o ≡ true → IsSome o
    by_event None f = absurd (let g : false ≡ true = f in cc)
    by_event (Some set) f = refl

-- it is the label among the places that the name finds
pub cancels_kept : (sought : Bool) (clock : Clock) (labels : Labels) (events : Events) (cancelled_from : Table) (st : Stack) (ps : List Place)
    (name : List ℕ) (key : ℕ) (own : List Label) → scope_named sought labels events name st ≡ Some key → AreAt labels events cancelled_from st ps →
    with_own clock (labels key) own ≡ with_own clock (label_among sought name ps) own
cancels_kept sought clock labels events cancelled_from st ps name key own found a =
    ap (λ (o : Option Label). with_own clock o own) (found_as sought labels events cancelled_from name st ps (Some key) found a).0

own_none : (clock : Clock) (own : List Label) → own ≡ with_own clock None own
own_none by_ticks own = refl
own_none by_rounds own = refl

-- a task that finds nothing of a name has cancelled or set nothing more
pub cancels_no_more : (sought : Bool) (clock : Clock) (labels : Labels) (events : Events) (cancelled_from : Table) (st : Stack) (ps : List Place)
    (name : List ℕ) (own : List Label) → scope_named sought labels events name st ≡ None → AreAt labels events cancelled_from st ps →
    own ≡ with_own clock (label_among sought name ps) own
cancels_no_more sought clock labels events cancelled_from st ps name own none a =
    own_none clock own
    ∙ ap (λ (o : Option Label). with_own clock o own) (sym (found_as sought labels events cancelled_from name st ps None none a))
