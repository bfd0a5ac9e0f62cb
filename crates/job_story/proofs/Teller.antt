-- How walks of the code correspond to tales.
use Rattle.std.proofs.Common.{◌≡◌, ℕ, max, true, false, Option, Some, None, List, [], ◌∷◌, ◌++◌, refl, ap, sym, subst, ◌∙◌, arith}
use Rattle.std.specs.Prelude.{map}
use Rattle.std.specs.Option.{option_map, is_some}
use Rattle.std.proofs.lemmas.List.{map-append}
use Rattle.exceptions.specs.Exceptions.{Label, Exc, Excs, part, parts_of, group_of, by_nursery}
use Rattle.exceptions.specs.Held as held
use Rattle.exceptions.specs.declared.exc.Exc as held_exc
use Rattle.job_meaning.specs.Log.{Member}
use Rattle.job_meaning.specs.Moments.{a_round_after}
use Rattle.job_meaning.specs.declared.clock.Clock.{Clock}
use Rattle.job_meaning.specs.Walk.{latest, with_exc, excs_of}
use Rattle.job_story.specs.Story.{Story, Tale}
use Rattle.job_story.specs.Tell.{Scene, ended_at, failed_at, and_tale, with_exc_of, tell_gathered, tell_child}
use Rattle.job_story.specs.declared.event.Event as held_event
use Rattle.job_story.specs.declared.progress.Progress.{Progress}
use Rattle.job_story.specs.declared.stretch.Stretch.{Stretch}
use Rattle.job_story.specs.Tales.{IsStretchOf, Tells}
use Rattle.job_story.proofs.Adding.{adds_then}

-- the story does not matter for the end
pub stretch_like : (w : Stretch) (a b : Tale) → IsStretchOf w a → a.end ≡ b.end → a.exc ≡ b.exc → a.members ≡ b.members → IsStretchOf w b
stretch_like w a b h e x m =
    record {
      end = h.end ∙ e;
      exc = h.exc ∙ x;
      open_until = subst (λ (ms : List Member). (t : ℕ) → latest t ms ≡ max t w.open_until) m h.open_until;
      open_excs = h.open_excs ∙ ap excs_of m;
    }

-- nothing is open
pub is_at : (w : Stretch) (t : ℕ) (own : List Label) (s : Story) → w.end ≡ t → w.exc ≡ None → w.open_until ≡ 0 → w.open_excs.items ≡ [] →
    IsStretchOf w (ended_at (record { at = t; own = own }) s)
is_at w t own s end exc until excs =
    record {
      end = end;
      exc = ap (option_map held.exc_of) exc;
      open_until = λ u. omega (arith, until);
      open_excs = ap
          (map held.exc_of) excs;
    }

pub is_failed : (w : Stretch) (e : held_exc.Exc) (t : ℕ) (own : List Label) (s : Story) → w.end ≡ t → w.exc ≡ Some e → w.open_until ≡ 0 →
    w.open_excs.items ≡ [] → IsStretchOf w (failed_at (held.exc_of e) (record { at = t; own = own }) s)
is_failed w e t own s end exc until excs =
    record {
      end = end;
      exc = ap (option_map held.exc_of) exc;
      open_until = λ u. omega (arith, until);
      open_excs = ap
          (map held.exc_of) excs;
    }

-- one after another
latest_append : (t : ℕ) (ms ns : List Member) → latest t (ms ++ ns) ≡ latest (latest t ms) ns
latest_append t [] ns = refl
latest_append t (m ∷ ms) ns = latest_append (max t m.end) ms ns

with_append : (o : Option Exc) (es fs : List Exc) → with_exc o (es ++ fs) ≡ with_exc o es ++ fs
with_append None es fs = refl
with_append (Some e) es fs = refl

excs_append : (ms ns : List Member) → excs_of (ms ++ ns) ≡ excs_of ms ++ excs_of ns
excs_append [] ns = refl
excs_append (m ∷ ms) ns = ap (with_exc m.exc) (excs_append ms ns) ∙ with_append m.exc (excs_of ms) (excs_of ns)

pub is_joined : (w v x : Stretch) (a b : Tale) → IsStretchOf w a → IsStretchOf v b → x.end ≡ v.end → x.exc ≡ v.exc →
    x.open_until ≡ max w.open_until v.open_until → x.open_excs.items ≡ w.open_excs.items ++ v.open_excs.items → IsStretchOf x (and_tale a b)
is_joined w v x a b h k end exc until excs =
    record {
      end = end ∙ k.end;
      exc = ap (option_map held.exc_of) exc ∙ k.exc;
      open_until = λ t.
          latest_append t a.members b.members ∙ ap (λ (u : ℕ). latest u b.members) (h.open_until t) ∙ k.open_until (max t w.open_until)
          ∙ omega (arith, until);
      open_excs =
          ap (map held.exc_of) excs ∙ map-append held.exc_of w.open_excs.items v.open_excs.items
          ∙ ap (λ (es : List Exc). es ++ map held.exc_of v.open_excs.items) h.open_excs
          ∙ ap (λ (es : List Exc). excs_of a.members ++ es) k.open_excs ∙ sym (excs_append a.members b.members);
    }

-- with another exception
pub is_outcome : (w x : Stretch) (b : Tale) (e : Option Exc) → IsStretchOf w b → x ≡ record w { exc = x.exc } → option_map held.exc_of x.exc ≡ e →
    IsStretchOf x (with_exc_of e b)
is_outcome w x b e h same exc =
    record {
      end = ap (λ (y : Stretch). y.end) same ∙ h.end;
      exc = exc;
      open_until = λ t. h.open_until t ∙ ap (λ (y : Stretch). max t y.open_until) (sym same);
      open_excs = ap (λ (y : Stretch). map held.exc_of y.open_excs.items) same ∙ h.open_excs;
    }

-- a list of exceptions as parts
held_parts : (es : List held_exc.Exc) → held.excs_of es ≡ parts_of (map held.exc_of es)
held_parts [] = refl
held_parts (e ∷ es) = ap (λ (x : Excs). part (held.exc_of e) x) (held_parts es)

pub is_gathered : (clock : Clock) (w x : Stretch) (label : Label) (a : Tale) (all : List held_exc.Exc) → IsStretchOf w a →
    x.end ≡ a_round_after clock (max w.end w.open_until) →
    option_map held.exc_of x.exc ≡ group_of (by_nursery label) (held.excs_of all) →
    map held.exc_of all ≡ with_exc (option_map held.exc_of w.exc) (map held.exc_of w.open_excs.items) →
    x.open_until ≡ 0 → x.open_excs.items ≡ [] → IsStretchOf x (tell_gathered clock label a)
unfolding tell_gathered
is_gathered clock w x label a all h end exc parts until excs =
    record {
      end = end ∙ ap (a_round_after clock) (ap (λ (t : ℕ). max t w.open_until) h.end ∙ sym (h.open_until a.end));
      exc =
          exc ∙ ap (group_of (by_nursery label)) (held_parts all
          ∙ ap parts_of (parts ∙ ap (λ (o : Option Exc). with_exc o (map held.exc_of w.open_excs.items)) h.exc
          ∙ ap (with_exc a.exc) h.open_excs));
      open_until = λ t. omega (arith, until);
      open_excs = ap (map held.exc_of) excs;
    }

pub is_child : (w x : Stretch) (label : Label) (home : Option Label) (scene : Scene) (begins t : ℕ) (own : List Label) (a : Tale) →
    IsStretchOf w a →
    x.end ≡ t → x.exc ≡ None → x.open_until ≡ w.end → map held.exc_of x.open_excs.items ≡ with_exc (option_map held.exc_of w.exc) [] →
    IsStretchOf x (tell_child label home scene begins a (record { at = t; own = own }))
unfolding tell_child
is_child w x label home scene begins t own a h end exc until excs =
    record {
      end = end;
      exc = ap (option_map held.exc_of) exc;
      open_until = λ u. ap (λ (v : ℕ). max u v) (sym h.end ∙ sym until);
      open_excs = excs ∙ ap (λ (o : Option Exc). with_exc o []) h.exc;
    }

-- a tale and then another
pub tells_joined : (me : Label) (start : List held_event.Event) (mid now : Progress) (w v x : Stretch) (a b : Tale) → Tells me start w mid a →
    Tells me mid.events.items v now b → ((p q : Tale) → IsStretchOf w p → IsStretchOf v q → IsStretchOf x (and_tale p q)) →
    Tells me start x now (and_tale a b)
tells_joined me start mid now w v x a b h k join =
    record {
      stretch = join a b h.stretch k.stretch;
      events = adds_then me start mid.events.items now.events.items a.story b.story h.events k.events;
      own = k.own;
    }

pub none_fails : (o : Option held_exc.Exc) → option_map held.exc_of o ≡ None → is_some o ≡ true → ⊥
none_fails None e f = cc
none_fails (Some x) e f = cc

pub none_well : (o : Option held_exc.Exc) → is_some o ≡ false → option_map held.exc_of o ≡ None
none_well None f = refl
none_well (Some x) f = absurd (cc)
