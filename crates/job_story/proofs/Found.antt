-- A cause that a story names is shown by its events.
use Rattle.std.proofs.Common.{◌≡◌, ℕ, ◌+◌, true≢false, Bool, true, false, Option, Some, None, is_none, List, [], ◌∷◌, refl, ap, sym, ◌∙◌, subst, inl, inr, arith}
use Rattle.std.proofs.lemmas.Bool.Decides.{nat_tests}
use Rattle.std.specs.Prelude.{◌==◌, if◌then◌else◌}
use Rattle.exceptions.specs.Exceptions.{Label, Exc}
use Rattle.exceptions.specs.Split.{is_cancelled as by_cancelled, drop}
use Rattle.cancel_scopes.specs.Sight.{Tick}
use Rattle.job_meaning.specs.Log.{Table, same_label}
use Rattle.job_meaning.proofs.Distinct.{same_label_equal}
use Rattle.job_story.specs.Story.{enters, cancels, sets, waits}
use Rattle.job_story.specs.Tell.{is_from}
use Rattle.job_story.specs.Events.{What, happens, ends, Event, event}
use Rattle.job_story.specs.Causes.{Cause, by_deadline, by_task, by_set, by_failure, by_cancellation, Entering, entering_by, entering_of, is_label, cause_if, cause_in, or_later, signed_by, cause_by_entering, cause_from}
use Rattle.job_story.specs.Shown.{IsIn, IsEntered, IsEndIn, IsShownFrom, IsShown}
use Rattle.job_story.specs.LawsOfCauses.{CausesAreShown}
use Rattle.job_story.proofs.Blamed.{is_from_at}

pub some_is : {A : Type 0} (a b : A) → Some a ≡ Some b → a ≡ b
some_is a b e = cc

-- ---- how a label was entered

entered_more : (l : Label) (d : Tick) (e : Event) (es : List Event) → IsEntered l d es → IsEntered l d (e ∷ es)
entered_more l d e es h = record { tick = h.tick; task = h.task; kind = h.kind; shield = h.shield; entered = inr h.entered }

entered_by : (l : Label) (e : Event) (es : List Event) (other : Option Entering) (x : Entering) (w : What) → e.what ≡ w →
    (other ≡ Some x → IsEntered l x.deadline es) → entering_by l w other ≡ Some x → IsEntered l x.deadline (e ∷ es)
entered_by l e es other x (happens (enters kind label d shield)) is more h = by_test (same_label l label) refl h
  where
    by_test : (b : Bool) → same_label l label ≡ b →
        (if b then Some (let y : Entering = record { kind = kind; deadline = d } in y) else other) ≡ Some x → IsEntered l x.deadline (e ∷ es)
    by_test true same k =
        let deadline : d ≡ x.deadline = ap (λ (y : Entering). y.deadline) (some_is (record { kind = kind; deadline = d }) x k) in
        subst (λ (y : Tick). IsEntered l y (e ∷ es)) deadline
        (subst (λ (m : Label). IsEntered m d (e ∷ es)) (sym (same_label_equal l label same))
        (record { tick = e.tick; task = e.task; kind = kind; shield = shield; entered = inl (ap (λ (w : What). event e.tick e.task w) (sym is)) }))
    by_test false differs k = entered_more l x.deadline e es (more k)
entered_by l e es other x _ is more h = entered_more l x.deadline e es (more h)

-- a label that is found to be entered was entered with that deadline
pub entering_is : (l : Label) (es : List Event) (x : Entering) → entering_of l es ≡ Some x → IsEntered l x.deadline es
entering_is l [] x h = absurd (cc)
entering_is l (e ∷ es) x h = entered_by l e es (entering_of l es) x e.what refl (entering_is l es x) h

-- ---- who cancelled it

shown_more : (from : ℕ) (l : Label) (e : Event) (es : List Event) (c : Cause) → IsShownFrom from l es c → IsShownFrom from l (e ∷ es) c
shown_more from l e es by_deadline h = entered_more l (Some from) e es h
shown_more from l e es (by_task task t) h = (h.0, inr h.1)
shown_more from l e es (by_set task t) h = (h.0, inr h.1)
shown_more from l e es (by_failure task t) h = (h.0, h.1, h.2, either h.3)
  where
    either : IsEndIn l t task h.1 es → IsEndIn l t task h.1 (e ∷ es)
    either (inl i) = inl (inr i)
    either (inr i) = inr (inr i)
shown_more from l e es (by_cancellation task t) h = (h.0, h.1, h.2, either h.3)
  where
    either : IsEndIn l t task h.1 es → IsEndIn l t task h.1 (e ∷ es)
    either (inl i) = inl (inr i)
    either (inr i) = inr (inr i)

module _ (from t : ℕ) (l task : Label) (all : List Event) (at : from ≡ t + 1) where
  -- an end with an exception
  end_shown : (b : Bool) (exc : Option Exc) (c : Cause) → ((e : Exc) → b ≡ true → exc ≡ Some e → IsEndIn l t task e all) →
      cause_if b exc task t ≡ Some c → IsShownFrom from l all c
  end_shown false exc c k h = absurd (cc)
  end_shown true None c k h = absurd (cc)
  end_shown true (Some e) c k h = subst (IsShownFrom from l all) (some_is _ c h) (by_leaves (is_none (drop by_cancelled e)) refl)
    where
      none_is : (o : Option Exc) → is_none o ≡ true → o ≡ None
      none_is None n = refl
      none_is (Some x) n = absurd (true≢false (sym n))

      none_at : (o : Option Exc) → o ≡ None → is_none o ≡ true
      none_at None n = refl
      none_at (Some x) n = absurd (cc)

      by_leaves : (d : Bool) → is_none (drop by_cancelled e) ≡ d →
          IsShownFrom from l all (if d then by_cancellation task t else by_failure task t)
      by_leaves true none = (at, e, none_is (drop by_cancelled e) none, k e refl refl)
      by_leaves false some =
          (at, e, (λ n. true≢false (sym (none_at (drop by_cancelled e) n) ∙ some)), k e refl refl)

  step_shown : (label : Option Label) (c : Cause) → IsIn (event t task (happens (cancels label))) all →
      (if is_label l label then Some (by_task task t) else None) ≡ Some c → IsShownFrom from l all c
  step_shown None c i h = absurd (cc)
  step_shown (Some m) c i h = by_test (same_label l m) refl h
    where
      by_test : (b : Bool) → same_label l m ≡ b → (if b then Some (by_task task t) else None) ≡ Some c → IsShownFrom from l all c
      by_test false differs k = absurd (cc)
      by_test true same k =
          subst (IsShownFrom from l all) (some_is (by_task task t) c k)
          (at, subst (λ (x : Label). IsIn (event t task (happens (cancels (Some x)))) all) (sym (same_label_equal l m same)) i)

  set_shown : (label : Option Label) (c : Cause) → IsIn (event t task (happens (sets label))) all →
      (if is_label l label then Some (by_set task t) else None) ≡ Some c → IsShownFrom from l all c
  set_shown None c i h = absurd (cc)
  set_shown (Some m) c i h = by_test (same_label l m) refl h
    where
      by_test : (b : Bool) → same_label l m ≡ b → (if b then Some (by_set task t) else None) ≡ Some c → IsShownFrom from l all c
      by_test false differs k = absurd (cc)
      by_test true same k =
          subst (IsShownFrom from l all) (some_is (by_set task t) c k)
          (at, subst (λ (x : Label). IsIn (event t task (happens (sets (Some x)))) all) (sym (same_label_equal l m same)) i)

  -- the end of a member, by its home
  home_shown : (home : Option Label) (exc : Option Exc) (c : Cause) → IsIn (event t task (ends home exc)) all →
      cause_if (is_label l home) exc task t ≡ Some c → IsShownFrom from l all c
  home_shown None exc c i h = absurd (cc)
  home_shown (Some m) exc c i h =
      end_shown (same_label l m) exc c
      (λ e same is. inr (subst (λ (x : Label). IsIn (event t task (ends (Some x) (Some e))) all) (sym (same_label_equal l m same))
      (subst (λ (o : Option Exc). IsIn (event t task (ends (Some m) o)) all) is i))) h

  -- what an event is a cause of
  cause_shown : (w : What) (c : Cause) → IsIn (event t task w) all → cause_in l t task w ≡ Some c → IsShownFrom from l all c
  cause_shown (happens (cancels label)) c i h = step_shown label c i h
  cause_shown (happens (sets label)) c i h = set_shown label c i h
  cause_shown (happens (waits label exc)) c i h =
      end_shown (same_label l label) exc c
      (λ e same is. inl (subst (λ (x : Label). IsIn (event t task (happens (waits x (Some e)))) all) (sym (same_label_equal l label same))
      (subst (λ (o : Option Exc). IsIn (event t task (happens (waits label o))) all) is i))) h
  cause_shown (ends home exc) c i h = home_shown home exc c i h
  cause_shown _ c i h = absurd (cc)

signed_is : (l : Label) (from : ℕ) (es : List Event) (c : Cause) → signed_by l from es ≡ Some c → IsShownFrom from l es c
signed_is l from [] c h = absurd (cc)
signed_is l from (e ∷ es) c h = by_tick (e.tick + 1 == from) refl (signed_is l from es c) h
  where
    by_first : (o : Option Cause) → cause_in l e.tick e.task e.what ≡ o → from ≡ e.tick + 1 → (signed_by l from es ≡ Some c → IsShownFrom from l es c) →
        or_later o (signed_by l from es) ≡ Some c → IsShownFrom from l (e ∷ es) c
    by_first None is at more k = shown_more from l e es c (more k)
    by_first (Some d) is at more k = cause_shown from e.tick l e.task (e ∷ es) at e.what c (inl refl) (is ∙ k)

    same_tick : (e.tick + 1 == from) ≡ true → from ≡ e.tick + 1
    same_tick is = grind (arith, nat_tests)

    by_tick : (b : Bool) → (e.tick + 1 == from) ≡ b → (signed_by l from es ≡ Some c → IsShownFrom from l es c) →
        or_later (if b then cause_in l e.tick e.task e.what else None) (signed_by l from es) ≡ Some c → IsShownFrom from l (e ∷ es) c
    by_tick true is more k = by_first (cause_in l e.tick e.task e.what) refl (same_tick is) more k
    by_tick false is more k = shown_more from l e es c (more k)

-- ---- both

entered_is : (entered : Option Entering) (l : Label) (from : ℕ) (es : List Event) (c : Cause) → entering_of l es ≡ entered →
    cause_by_entering entered l from es ≡ Some c → IsShownFrom from l es c
entered_is None l from es c is h = signed_is l from es c h
entered_is (Some x) l from es c is h = by_test (is_from x.deadline from) refl h
  where
    by_test : (b : Bool) → is_from x.deadline from ≡ b → (if b then Some by_deadline else signed_by l from es) ≡ Some c → IsShownFrom from l es c
    by_test true due k =
        subst (IsShownFrom from l es) (some_is by_deadline c k)
        (subst (λ (d : Tick). IsEntered l d es) (is_from_at x.deadline from due) (entering_is l es x is))
    by_test false not_due k = signed_is l from es c k

from_is : (from : Tick) (table : Table) (l : Label) (es : List Event) (c : Cause) → table l ≡ from → cause_from from l es ≡ Some c → IsShown table es l c
from_is None table l es c is h = absurd (cc)
from_is (Some from) table l es c is h = (from, is, entered_is (entering_of l es) l from es c refl h)

pub causes_are_shown : CausesAreShown
causes_are_shown table all l c h = from_is (table l) table l all c refl h
