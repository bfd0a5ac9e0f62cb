-- A scope has fewer enclosing scopes than there are open scopes.
use Rattle.std.proofs.Common.{◌≡◌, ℕ, zero, suc, ◌+◌, ◌<◌, ◌≤◌, Bool, true, false, cond, [], ◌∷◌, Option, Some, None, is_some, refl, ap, subst, arith, count_by, slice_index_or}
use Rattle.std.proofs.lemmas.Bool.{lt-ltb, le-ltb, ltb-true}
use Rattle.std.proofs.lemmas.List.Sums.{sum_by-cons}
use Rattle.std.specs.Prelude.{nat_lt}
use Rattle.cancel_scopes.specs.Kept.{Outline, Slots, scope_in, find_in, outline_of, IsTree, IsUnder}
use Rattle.cancel_scopes.proofs.StackLemmas.{scope_at, found_at}
use Rattle.cancel_scopes.specs.declared.store.Scope.{Scope}

-- a scope is open, with fewer than the given number of enclosing scopes
abbrev pub is_above : ℕ → Option Scope → Bool
is_above n None = false
is_above n (Some s) = nat_lt s.depth n

-- what fits the first test fits the second
abbrev pub Implies : (Option Scope → Bool) → (Option Scope → Bool) → Type 0
Implies p q = (o : Option Scope) → p o ≡ true → q o ≡ true

cond_le : (a b : Bool) → (a ≡ true → b ≡ true) → cond a 1 0 ≤ cond b 1 0
cond_le false b h = omega arith
cond_le true b h = rw (h refl) (omega arith)

-- a count over a first slot and the rest
pub counts : (p : Option Scope → Bool) (o : Option Scope) (os : Slots) → count_by p (o ∷ os) ≡ cond (p o) 1 0 + count_by p os
counts p o os = sum_by-cons (λ x. cond (p x) 1 0) o os

-- no more fit the narrower test
pub count_le : (p q : Option Scope → Bool) (slots : Slots) → Implies p q → count_by p slots ≤ count_by q slots
count_le p q [] h = omega arith
count_le p q (o ∷ os) h = rw (counts p o os, counts q o os) (omega (arith, count_le p q os h, cond_le (p o) (q o) (h o)))

-- one more fits the second test
pub count_more : (p q : Option Scope → Bool) (slots : Slots) (key : ℕ) (s : Scope) → Implies p q → slice_index_or slots key None ≡ Some s →
    p (Some s) ≡ false → q (Some s) ≡ true → count_by p slots + 1 ≤ count_by q slots
count_more p q [] key s h kept misses fits = absurd (let e : None ≡ Some s = kept in cc)
count_more p q (o ∷ os) zero s h kept misses fits =
    let first : o ≡ Some s = kept in
    let none : p o ≡ false = rw first misses in
    let one : q o ≡ true = rw first fits in
    rw (counts p o os, counts q o os, none, one) (omega (arith, count_le p q os h))
count_more p q (o ∷ os) (suc key) s h kept misses fits =
    rw (counts p o os, counts q o os) (omega (arith, count_more p q os key s h kept misses fits, cond_le (p o) (q o) (h o)))

above_more : (n : ℕ) → Implies (is_above n) (is_above (suc n))
above_more n None h = h
above_more n (Some s) h = lt-ltb s.depth (suc n) (omega (arith, ltb-true s.depth n h))

above_some : (n : ℕ) → Implies (is_above n) is_some
above_some n None h = h
above_some n (Some s) h = refl

rises : (slots : Slots) (key : ℕ) (s : Scope) (d : ℕ) → scope_in slots key ≡ Some s → s.depth ≡ d →
    count_by (is_above d) slots + 1 ≤ count_by (is_above (suc d)) slots
rises slots key s d kept deep =
    count_more (is_above d) (is_above (suc d)) slots key s (above_more d) kept (le-ltb s.depth d (omega arith))
    (lt-ltb s.depth (suc d) (omega arith))

counted : (slots : Slots) → IsTree (find_in slots) → (d key : ℕ) (s : Scope) → scope_in slots key ≡ Some s → s.depth ≡ d →
    suc d ≤ count_by (is_above (suc d)) slots
counted slots tree zero key s kept deep = omega (arith, rises slots key s zero kept deep)
counted slots tree (suc d) key s kept deep =
    let under = tree.placed key (outline_of s) (found_at slots key s kept) in
    omega (
      arith,
      rises slots key s (suc d) kept deep,
      by_parent s.parent (subst (λ (n : ℕ). IsUnder (find_in slots) n s.parent) deep under)
          (counted slots tree d),
    )
  where
    by_parent : (o : Option ℕ) → IsUnder (find_in slots) (suc d) o →
        ((key : ℕ) (s : Scope) → scope_in slots key ≡ Some s → s.depth ≡ d → suc d ≤ count_by (is_above (suc d)) slots) →
        suc d ≤ count_by (is_above (suc d)) slots
    by_parent None under before = absurd (omega (arith, under))
    by_parent (Some parent) under before =
        let above = scope_at slots parent under.0 under.1 in
        before parent above.0 above.1 (let e : above.0.depth ≡ under.0.depth = ap (λ (o : Outline). o.depth) above.2 in
        omega (arith, under.2))

-- a scope has fewer enclosing scopes than there are open scopes
pub depth_fits : (slots : Slots) (key : ℕ) (s : Scope) → IsTree (find_in slots) → scope_in slots key ≡ Some s →
    s.depth < count_by is_some slots
depth_fits slots key s tree kept =
    omega (arith, counted slots tree s.depth key s kept refl, count_le (is_above (suc s.depth)) is_some slots (above_some (suc s.depth)))
