-- Ticks that may never come, and what a stack sees.
use Rattle.std.proofs.Common.{◌≡◌, ℕ, ◌≤◌, Bool, true, false, ◌||◌, ◌&&◌, not, Some, None, [], ◌∷◌, refl, IsTrue, arith, nat_le, if◌then◌else◌}
use Rattle.std.proofs.lemmas.Bool.Decides.{nat_tests}
use Rattle.exceptions.specs.Exceptions.{Label}
use Rattle.cancel_scopes.specs.Sight.{Tick, earlier, is_reached, Level, sight, seen}
use Rattle.job_meaning.specs.Walk.{Levels}
use Rattle.job_meaning.specs.Laws.{AtMost, StaysSeen, LoweringShows}

-- the earlier of two has come where one of them has
pub reached_earlier : (a b : Tick) (t : ℕ) → is_reached (earlier a b) t ≡ (is_reached a t || is_reached b t)
reached_earlier None b t = refl
reached_earlier (Some x) None t = or_false (nat_le x t)
  where
    or_false : (b : Bool) → b ≡ (b || false)
    or_false true = refl
    or_false false = refl
reached_earlier (Some x) (Some y) t = grind (arith, nat_tests)

-- what has come stays
pub reached_later : (a : Tick) (t u : ℕ) → t ≤ u → IsTrue (is_reached a t) → IsTrue (is_reached a u)
reached_later None t u le h = h
reached_later (Some x) t u le h = grind (arith, nat_tests)

-- an earlier tick has come where a later one has
pub reached_at_most : (a b : Tick) (t : ℕ) → AtMost b a → IsTrue (is_reached a t) → IsTrue (is_reached b t)
reached_at_most None b t le h = absurd (cc)
reached_at_most (Some x) None t le h = absurd le
reached_at_most (Some x) (Some y) t le h = grind (arith, nat_tests)

-- what a stack sees, by its innermost level
pub seen_cons : (l : Level Label) (ls : Levels) (t : ℕ) → seen (l ∷ ls) t ≡ (is_reached l.from t || (not l.shield && seen ls t))
seen_cons l ls t = by_shield l.shield
  where
    or_false : (b : Bool) → b ≡ (b || false)
    or_false true = refl
    or_false false = refl

    by_shield : (s : Bool) → is_reached (if s then l.from else earlier l.from (sight ls)) t ≡ (is_reached l.from t || (not s && seen ls t))
    by_shield true = or_false (is_reached l.from t)
    by_shield false = reached_earlier l.from (sight ls) t

-- what is seen at a tick is seen at every later one
pub stays_seen : StaysSeen
stays_seen stack t u le h = reached_later (sight stack) t u le h

-- lowering a from hides nothing
pub lowering_shows : LoweringShows
lowering_shows [] [] t low h = h
lowering_shows [] (k ∷ ks) t low h = absurd low
lowering_shows (l ∷ ls) [] t low h = absurd low
lowering_shows (l ∷ ls) (k ∷ ks) t low h =
    rw (seen_cons k ks t) (lowered_or (is_reached l.from t) (is_reached k.from t) l.shield k.shield (seen ls t) (seen ks t)
    low.1 (reached_at_most l.from k.from t low.2) (lowering_shows ls ks t low.3) (rw (seen_cons l ls t) at h))
  where
    lowered_or : (a b s r x y : Bool) → s ≡ r → (IsTrue a → IsTrue b) → (IsTrue x → IsTrue y) → IsTrue (a || (not s && x)) →
        IsTrue (b || (not r && y))
    lowered_or a b s r x y e f g h = grind arith
