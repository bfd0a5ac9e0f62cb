-- A block that is left, and the sign of a task or body that fails.
use Rattle.std.proofs.Common.{◌≡◌, ℕ, Bool, not, Option, Some, None, List, [], ◌∷◌, ap, ◌∙◌, subst}
use Rattle.std.proofs.lemmas.List.Elements.{All-nil, All-cons}
use Rattle.std.specs.Prelude.{true, false}
use Rattle.std.specs.Option.{option_map, is_some}
use Rattle.exceptions.specs.declared.exc.Exc as held
use Rattle.exceptions.specs.Held.{exc_of}
use Rattle.exceptions.specs.Exceptions.{Label, Exc}
use Rattle.cancel_scopes.specs.Tree.{Stack, Tree, stack_of, outer_of, IsOpen, IsChain, after_cancel}
use Rattle.job_meaning.specs.Log.{Table}
use Rattle.job_meaning.specs.Moments.{tick_of}
use Rattle.job_meaning.specs.declared.clock.Clock.{Clock}
use Rattle.job_meaning.specs.Shown.{shown_at}
use Rattle.job_meaning.specs.Walk.{Kind, Left, left_as, left_with, exc_after}
use Rattle.job_meaning.specs.Rest.{noted}
use Rattle.task_machine.specs.declared.entry.Entry.{Entry}
use Rattle.task_machine.specs.Noted.{entry_of, IsSlice, AreNoted}
use Rattle.turn_semantics.specs.Midway.{Place}
use Rattle.turn_semantics.specs.Names.{names_at, OwnNames}
use Rattle.turn_semantics.specs.Steps.{home_among, signs_home, cancelled_from_after}
use Rattle.task_machine.specs.Acts.{key_failed}
use Rattle.task_machine.specs.Labels.{Labels, Events, home_key}
use Rattle.task_machine.specs.Stacked.{AreAt, FoundAs}
use Rattle.task_machine.proofs.Cancels.{open_around, signs_at, signs_none}
use Rattle.task_machine.proofs.Stacked.{home_at, home_is_in, home_no_event}

-- the exception that propagates after a block, by what was read of its place
pub exc_goes_on : (kind : Kind) (l p : Label) (t u : ℕ) (b c : Bool) (left : Left) (e after : Option Exc) →
    after ≡ exc_after kind l t left → left ≡ left_with b e → l ≡ p →
    b ≡ c → t ≡ u → after ≡ exc_after kind p u (left_with c e)
exc_goes_on kind l p t u b c left e after h i j k m = cc

-- and what is noted
pub leaving_noted : (clock : Clock) (input : List ℕ) (entry : Entry) (kind : Kind) (l p : Label) (t u : ℕ) (b c : Bool) (left : Left)
    (e : Option Exc) →
    entry_of entry ≡ shown_at input t (left_as kind l left.caught) → IsSlice input entry → left ≡ left_with b e → l ≡ p → b ≡ c →
    t ≡ tick_of clock u → AreNoted clock input (entry ∷ []) (noted u (left_as kind p (left_with c e).caught) ∷ [])
leaving_noted clock input entry kind l p t u b c left e h s i j k m =
    record {
      shown = ap (λ x. x ∷ []) (h ∙ by_left left (left_with b e) (left_with c e) i (ap (λ x. left_with x e) k) ∙ by_label ∙ by_tick);
      slices = All-cons (IsSlice input) entry [] s (All-nil (IsSlice input));
    }
  where
    by_left : (x y z : Left) → x ≡ y → y ≡ z → shown_at input t (left_as kind l x.caught) ≡ shown_at input t (left_as kind l z.caught)
    by_left x y z f g = cc

    by_label : shown_at input t (left_as kind l (left_with c e).caught) ≡ shown_at input t (left_as kind p (left_with c e).caught)
    by_label = ap (λ x. shown_at input t (left_as kind x (left_with c e).caught)) j

    by_tick : shown_at input t (left_as kind p (left_with c e).caught) ≡ shown_at input (tick_of clock u)
        (left_as kind p (left_with c e).caught)
    by_tick = ap (λ x. shown_at input x (left_as kind p (left_with c e).caught)) m

-- ---- a task or body that fails

-- it signs for the innermost scope that is no event
pub failed_key : (events : Events) (st : Stack) (found : Option ℕ) (o : Option held.Exc) (b : Bool) → is_some o ≡ not b → b ≡ false →
    home_key events st ≡ found → key_failed (option_map exc_of o) events st ≡ found
failed_key events st found None b h i e = absurd (let f : false ≡ true = h ∙ ap not i in cc)
failed_key events st found (Some exc) b h i e = e

-- that is open
pub home_open : (events : Events) (tree : Tree) (scope : Option ℕ) (key : ℕ) → IsChain tree →
    home_key events (outer_of tree scope) ≡ Some key → IsOpen tree key
home_open events tree scope key chain e = open_around tree chain scope key (home_is_in events (outer_of tree scope) key e)

-- what is found among the places, by the scope that is found
home_as : (labels : Labels) (events : Events) (cancelled_from : Table) (st : Stack) (ps : List Place) (found : Option ℕ) → home_key events st ≡ found →
    AreAt labels events cancelled_from st ps → FoundAs labels found (home_among ps)
home_as labels events cancelled_from st ps found e a =
    subst (λ (o : Option ℕ). FoundAs labels o (home_among ps)) e (home_at labels events cancelled_from st ps a)

-- if a test says that the task or body failed, the from of the innermost place that is no event is lowered by the sign
pub fails_if : (labels more : Labels) (events others : Events) (old new : Tree) (scope : Option ℕ) (key t : ℕ) (o : Option held.Exc)
    (b : Bool) → is_some o ≡ not b → b ≡ false → more ≡ labels → others ≡ events → home_key events (outer_of old scope) ≡ Some key →
    ((at : ℕ) → stack_of new at ≡ option_map (after_cancel key t) (stack_of old at)) →
    (cancelled_from : Table) (ps : List Place) → OwnNames (names_at ps) → AreAt labels events cancelled_from (outer_of old scope) ps →
    AreAt more others (cancelled_from_after cancelled_from (signs_home (option_map exc_of o) ps t)) (outer_of new scope) ps
fails_if labels more events others old new scope key t None b h i same alike found after cancelled_from ps own a =
    absurd (let f : false ≡ true = h ∙ ap not i in cc)
fails_if labels more events others old new scope key t (Some e) b h i same alike found after cancelled_from ps own a =
    signs_at labels more events others old new scope key t cancelled_from ps (home_among ps) same alike after
    (home_as labels events cancelled_from (outer_of old scope) ps (Some key) found a) (home_is_in events (outer_of old scope) key found)
    (home_no_event events (outer_of old scope) key found) own a

-- where no scope encloses it, nothing is signed
pub fails_none : (labels : Labels) (events : Events) (st : Stack) (t : ℕ) (o : Option Exc) → home_key events st ≡ None →
    (cancelled_from : Table) (ps : List Place) → AreAt labels events cancelled_from st ps → AreAt labels events (cancelled_from_after cancelled_from (signs_home o ps t)) st ps
fails_none labels events st t None none cancelled_from ps a = a
fails_none labels events st t (Some e) none cancelled_from ps a =
    signs_none labels events cancelled_from st ps t (home_among ps) (home_as labels events cancelled_from st ps None none a) a
