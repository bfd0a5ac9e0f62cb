-- Which exceptions hold a `Cancelled`, when they are split, grouped or left.
use Rattle.std.proofs.Common.{◌≡◌, ℕ, Bool, true, false, ◌||◌, ◌&&◌, not, Option, Some, None, List, refl, sym, ◌∙◌, IsTrue, arith}
use Rattle.std.proofs.lemmas.Bool.{false≢true}
use Rattle.exceptions.specs.Exceptions.{Label, Whose, Exc, cancelled, raised, too_slow, group, Excs, no_parts, part, parts_of, group_of, holds_cancelled, hold_cancelled}
use Rattle.exceptions.specs.Split.{is_cancelled, matches, drop, pruned_exc, pruned_parts, with_part, leaf_if}
use Rattle.job_meaning.specs.Walk.{Kind, a_scope, a_nursery, left_with, slow_if, exc_after, with_exc}
use Rattle.job_meaning.specs.Laws.{some_cancelled}

-- a group holds what its parts hold
pub group_holds : (whose : Whose) (es : Excs) → some_cancelled (group_of whose es) ≡ hold_cancelled es
group_holds whose no_parts = refl
group_holds whose (part e es) = refl

-- parts with one more in front, or none more, hold a `Cancelled` where that one or the others do
pub with_part_holds : (o : Option Exc) (es : Excs) → hold_cancelled (with_part o es) ≡ (some_cancelled o || hold_cancelled es)
with_part_holds None es = refl
with_part_holds (Some e) es = refl

-- so do the parts of a list with one more exception in front, or none more
pub with_exc_holds : (o : Option Exc) (es : List Exc) → hold_cancelled (parts_of (with_exc o es))
    ≡ (some_cancelled o || hold_cancelled (parts_of es))
with_exc_holds None es = refl
with_exc_holds (Some e) es = refl

or_both : (a b c d : Bool) → (IsTrue a → IsTrue c) → (IsTrue b → IsTrue d) → IsTrue (a || b) → IsTrue (c || d)
or_both a b c d f g h = grind arith

or_neither : (a b : Bool) → a ≡ false → b ≡ false → (a || b) ≡ false
or_neither a b f g = grind arith

mutual
  -- what is left of a split holds no more than what was split
  pub pruned_holds : (e : Exc) (test : Exc → Bool) → IsTrue (some_cancelled (pruned_exc test e)) → IsTrue (holds_cancelled e)
  pruned_holds cancelled test h = refl
  pruned_holds (raised name task tick) test h = by_test (test (raised name task tick)) h
    where
      by_test : (b : Bool) → IsTrue (some_cancelled (leaf_if b (raised name task tick))) → IsTrue false
      by_test true k = k
      by_test false k = k
  pruned_holds (too_slow scope tick) test h = by_test (test (too_slow scope tick)) h
    where
      by_test : (b : Bool) → IsTrue (some_cancelled (leaf_if b (too_slow scope tick))) → IsTrue false
      by_test true k = k
      by_test false k = k
  pruned_holds (group whose parts) test h = pruned_parts_hold parts test (sym (group_holds whose (pruned_parts test parts)) ∙ h)

  -- the same of the parts of a group
  pub pruned_parts_hold : (es : Excs) (test : Exc → Bool) → IsTrue (hold_cancelled (pruned_parts test es)) → IsTrue (hold_cancelled es)
  pruned_parts_hold no_parts test h = h
  pruned_parts_hold (part e es) test h =
      or_both _ _ _ _ (pruned_holds e test) (pruned_parts_hold es test) (sym (with_part_holds (pruned_exc test e) (pruned_parts test es)) ∙ h)

mutual
  -- without its `Cancelled` leaves an exception holds none
  pub drop_holds_none : (e : Exc) → some_cancelled (drop is_cancelled e) ≡ false
  drop_holds_none cancelled = refl
  drop_holds_none (raised name task tick) = refl
  drop_holds_none (too_slow scope tick) = refl
  drop_holds_none (group whose parts) =
      group_holds whose (pruned_parts (λ leaf. not (matches is_cancelled leaf)) parts) ∙ drop_parts_hold_none parts

  -- the same of the parts of a group
  pub drop_parts_hold_none : (es : Excs) → hold_cancelled (pruned_parts (λ leaf. not (matches is_cancelled leaf)) es) ≡ false
  drop_parts_hold_none no_parts = refl
  drop_parts_hold_none (part e es) =
      with_part_holds (drop is_cancelled e) (pruned_parts (λ leaf. not (matches is_cancelled leaf)) es)
      ∙ or_neither _ _ (drop_holds_none e) (drop_parts_hold_none es)

-- `TooSlow` is no `Cancelled`
pub slow_holds : (b : Bool) (label : Label) (t : ℕ) (o : Option Exc) → IsTrue (some_cancelled (slow_if b label t o)) →
    IsTrue (some_cancelled o)
slow_holds true label t None h = h
slow_holds true label t (Some e) h = h
slow_holds false label t o h = h

-- what leaves a block holds a `Cancelled` only where the block did not catch, and its inside held one
pub left_holds : (kind : Kind) (label : Label) (t : ℕ) (b : Bool) (o : Option Exc) →
    IsTrue (some_cancelled (exc_after kind label t (left_with b o))) → (b ≡ false) × IsTrue (some_cancelled o)
left_holds (a_scope fail) label t b o h = of_left b o (slow_holds (fail && (left_with b o).caught) label t (left_with b o).exc h)
  where
    of_left : (c : Bool) (p : Option Exc) → IsTrue (some_cancelled (left_with c p).exc) → (c ≡ false) × IsTrue (some_cancelled p)
    of_left c None k = absurd (false≢true k)
    of_left true (Some e) k = absurd (false≢true (sym (drop_holds_none e) ∙ k))
    of_left false (Some e) k = (refl, k)
left_holds a_nursery label t b o h = of_left b o h
  where
    of_left : (c : Bool) (p : Option Exc) → IsTrue (some_cancelled (left_with c p).exc) → (c ≡ false) × IsTrue (some_cancelled p)
    of_left c None k = absurd (false≢true k)
    of_left true (Some e) k = absurd (false≢true (sym (drop_holds_none e) ∙ k))
    of_left false (Some e) k = (refl, k)
