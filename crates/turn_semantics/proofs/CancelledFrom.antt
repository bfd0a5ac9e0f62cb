-- The moments of cancellation of the world after a turn: lowered by just the signs made, and of a label entered in it, from its
-- deadline.
use Rattle.std.proofs.Common.{◌≡◌, inl, inr, ℕ, ◌+◌, Bool, true, false, Some, None, List, [], ◌∷◌, refl, ap, sym, ◌∙◌, subst, nat_lt, if◌then◌else◌, arith}
use Rattle.std.proofs.lemmas.Bool.Decides.{nat_tests}
use Rattle.turn_semantics.specs.Lists.{IsAmong}
use Rattle.exceptions.specs.Exceptions.{Label}
use Rattle.cancel_scopes.specs.Sight.{Tick, earlier, next}
use Rattle.job_meaning.specs.Log.{Table, same_label, tick_if, from_by}
use Rattle.job_meaning.specs.declared.clock.Clock.{Clock}
use Rattle.job_meaning.specs.Rest.{Event, noted, signs, enters, acts, starts}
use Rattle.job_meaning.proofs.Touched.{earlier_never}
use Rattle.job_meaning.proofs.Distinct.{same_label_equal, same_label_itself}
use Rattle.turn_semantics.specs.Steps.{cancelled_from_after_sign, from_lowered_if, cancelled_from_after_entry, from_entered_if, cancelled_from_after}
use Rattle.turn_semantics.specs.Turned.{MadeAt, made_sign, EntersIn, EntersOnceWith}

-- the earliest of three ticks
pub earlier_assoc : (a b c : Tick) → earlier (earlier a b) c ≡ earlier a (earlier b c)
earlier_assoc None b c = refl
earlier_assoc (Some x) None c = refl
earlier_assoc (Some x) (Some y) None = refl
earlier_assoc (Some x) (Some y) (Some z) = ap (λ (n : ℕ). Some n) (least x y z)
  where
    least : (x y z : ℕ) → (if nat_lt z (if nat_lt y x then y else x) then z else (if nat_lt y x then y else x))
        ≡ (if nat_lt (if nat_lt z y then z else y) x then (if nat_lt z y then z else y) else x)
    least x y z = grind (arith, nat_tests)

next_earlier : (a b : Tick) → next (earlier a b) ≡ earlier (next a) (next b)
next_earlier None b = refl
next_earlier (Some x) None = refl
next_earlier (Some x) (Some y) = ap (λ (n : ℕ). Some n) (one_more x y)
  where
    one_more : (x y : ℕ) → (if nat_lt y x then y else x) + 1 ≡ (if nat_lt (y + 1) (x + 1) then y + 1 else x + 1)
    one_more x y = grind (arith, nat_tests)

-- a from that is lowered by a sign, and then by others
one_sign : (b : Bool) (u : ℕ) (d s : Tick) → from_by (from_lowered_if b u d) s ≡ from_by d (earlier (tick_if b u) s)
one_sign true u d s = earlier_assoc d (next (Some u)) (next s) ∙ ap (λ (x : Tick). earlier d x) (sym (next_earlier (Some u) s))
one_sign false u d s = refl

same_differs : (l m : Label) → ((l ≡ m) → ⊥) → same_label l m ≡ false
same_differs l m h = by_test (same_label l m) refl
  where
    by_test : (b : Bool) → same_label l m ≡ b → b ≡ false
    by_test true e = absurd (h (same_label_equal l m e))
    by_test false e = refl

-- the from of a label that was not entered is lowered by just the signs made
pub from_lowered : (es : List Event) (cancelled_from : Table) (l : Label) → (EntersIn l es → ⊥) →
    cancelled_from_after cancelled_from es l ≡ from_by (cancelled_from l) (made_sign l es)
from_lowered [] cancelled_from l h = sym (earlier_never (cancelled_from l))
from_lowered (noted t e ∷ es) cancelled_from l h = from_lowered es cancelled_from l h
from_lowered (signs m t ∷ es) cancelled_from l h = from_lowered es (cancelled_from_after_sign cancelled_from m t) l h ∙ one_sign (same_label l m) t (cancelled_from l) (made_sign l es)
from_lowered (enters m t d ∷ es) cancelled_from l h =
    from_lowered es (cancelled_from_after_entry cancelled_from m d) l (λ i. h (inr i))
    ∙ ap (λ (b : Bool). from_by (from_entered_if b d (cancelled_from l)) (made_sign l es)) (same_differs l m (λ e. h (inl e)))
from_lowered (acts m t done ∷ es) cancelled_from l h = from_lowered es cancelled_from l h
from_lowered (starts i m t ∷ es) cancelled_from l h = from_lowered es cancelled_from l h

-- the from of a label that was entered once, and was not known before, is its deadline, lowered likewise
pub from_opened : (clock : Clock) (t : ℕ) (es : List Event) (ls : List Label) (cancelled_from : Table) (l : Label) (d : Tick) → MadeAt clock t ls es → (IsAmong l ls → ⊥) →
    EntersOnceWith l d es →
    cancelled_from_after cancelled_from es l ≡ from_by d (made_sign l es)
from_opened clock t [] ls cancelled_from l d a k o = absurd o
from_opened clock t (noted u e ∷ es) ls cancelled_from l d a k o = from_opened clock t es ls cancelled_from l d a.1 k o
from_opened clock t (signs m u ∷ es) ls cancelled_from l d a k o =
    from_opened clock t es ls (cancelled_from_after_sign cancelled_from m u) l d a.2 k o
    ∙ ap (λ (b : Bool). from_by d (earlier (tick_if b u) (made_sign l es))) (sym (same_differs l m differs))
  where
    differs : (l ≡ m) → ⊥
    differs e = k (subst (λ (x : Label). IsAmong x ls) (sym e) a.1)
from_opened clock t (enters m u c ∷ es) ls cancelled_from l d a k (inl o) =
    from_lowered es (cancelled_from_after_entry cancelled_from m c) l o.2
    ∙ (ap (λ (b : Bool). from_by (from_entered_if b c (cancelled_from l)) (made_sign l es))
    (ap (λ (x : Label). same_label l x) (sym o.0) ∙ same_label_itself l)
    ∙ ap (λ (x : Tick). from_by x (made_sign l es)) (sym o.1))
from_opened clock t (enters m u c ∷ es) ls cancelled_from l d a k (inr o) = from_opened clock t es (m ∷ ls) (cancelled_from_after_entry cancelled_from m c) l d a.1 new o.1
  where
    new : IsAmong l (m ∷ ls) → ⊥
    new (inl e) = o.0 e
    new (inr i) = k i
from_opened clock t (acts m u done ∷ es) ls cancelled_from l d a k o = from_opened clock t es ls cancelled_from l d a.1 k o
from_opened clock t (starts i m u ∷ es) ls cancelled_from l d a k o = from_opened clock t es ls cancelled_from l d a.1 k o

-- a sign that was made now is of this moment
pub signed_now : (clock : Clock) (t : ℕ) (es : List Event) (ls : List Label) (l : Label) (u : ℕ) → MadeAt clock t ls es → made_sign l es ≡ Some u → u ≡ t
signed_now clock t [] ls l u a e = cc
signed_now clock t (noted v x ∷ es) ls l u a e = signed_now clock t es ls l u a.1 e
signed_now clock t (signs m v ∷ es) ls l u a e = by_sign (same_label l m) (made_sign l es) (λ w f. signed_now clock t es ls l w a.2 f) e
  where
    by_sign : (b : Bool) (s : Tick) → ((w : ℕ) → s ≡ Some w → w ≡ t) → earlier (tick_if b v) s ≡ Some u → u ≡ t
    by_sign false s h e = h u e
    by_sign true None h e = let f : v ≡ u = cc in sym f ∙ a.0
    by_sign true (Some w) h e = let i = h w refl in let j = a.0 in grind (arith, nat_tests)
signed_now clock t (enters m v d ∷ es) ls l u a e = signed_now clock t es (m ∷ ls) l u a.1 e
signed_now clock t (acts m v done ∷ es) ls l u a e = signed_now clock t es ls l u a.1 e
signed_now clock t (starts i m v ∷ es) ls l u a e = signed_now clock t es ls l u a.1 e

-- and there is one only for a label that was known, or was entered
pub unsigned : (clock : Clock) (t : ℕ) (es : List Event) (ls : List Label) (l : Label) → MadeAt clock t ls es → (IsAmong l ls → ⊥) → (EntersIn l es → ⊥) →
    made_sign l es ≡ None
unsigned clock t [] ls l a k h = refl
unsigned clock t (noted v x ∷ es) ls l a k h = unsigned clock t es ls l a.1 k h
unsigned clock t (signs m v ∷ es) ls l a k h =
    ap (λ (b : Bool). earlier (tick_if b v) (made_sign l es)) (same_differs l m (λ e. k (subst (λ (x : Label). IsAmong x ls) (sym e) a.1)))
    ∙ unsigned clock t es ls l a.2 k h
unsigned clock t (enters m v d ∷ es) ls l a k h = unsigned clock t es (m ∷ ls) l a.1 new (λ i. h (inr i))
  where
    new : IsAmong l (m ∷ ls) → ⊥
    new (inl e) = h (inl e)
    new (inr i) = k i
unsigned clock t (acts m v done ∷ es) ls l a k h = unsigned clock t es ls l a.1 k h
unsigned clock t (starts i m v ∷ es) ls l a k h = unsigned clock t es ls l a.1 k h
