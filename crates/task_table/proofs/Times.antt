-- How often a number occurs in a list.
use Rattle.std.proofs.Common.{◌≡◌, ◌≢◌, ℕ, zero, suc, ◌+◌, ◌≤◌, Bool, cond, inl, inr, List, [], ◌∷◌, ◌++◌, Some, map, refl, ap, arith}
use Rattle.std.specs.Prelude.{All, ◌==◌, reverse, slice_get}
use Rattle.std.specs.List.{remove}
use Rattle.std.proofs.lemmas.Bool.{cases_lt, eq-eqb, ne_eqb}
use Rattle.std.proofs.lemmas.Bool.Decides.{eqb_tells}
use Rattle.std.proofs.lemmas.List.Elements.{All-cons, All-head, All-nil, All-tail}
use Rattle.std.proofs.lemmas.List.Sorted.{sum_by-IsPermutation, IsPermutation-reverse}
use Rattle.std.proofs.lemmas.List.Sums.{sum_by-append, sum_by-cons, sum_by_push}
use Rattle.std.proofs.lemmas.Option.{none-some, same_Some}
use Rattle.task_table.specs.Rows.{times}

-- 1 or 0, as a test says
abbrev pub one_if : Bool → ℕ
one_if b = cond b 1 0

-- a number is counted where it is the same
pub one_same : (k c : ℕ) → k ≡ c → one_if (k == c) ≡ 1
one_same k c e = ap one_if (eq-eqb k c e)

-- and not where it is another
pub one_else : (k c : ℕ) → k ≢ c → one_if (k == c) ≡ 0
one_else k c differs = ap one_if (ne_eqb k c differs)

-- ---- lists put together

pub times_cons : (c k : ℕ) (ks : List ℕ) → times c (k ∷ ks) ≡ one_if (k == c) + times c ks
times_cons c k ks = sum_by-cons (λ (n : ℕ). one_if (n == c)) k ks

pub times_push : (c : ℕ) (ks : List ℕ) (k : ℕ) → times c (ks ++ k ∷ []) ≡ times c ks + one_if (k == c)
times_push c ks k = sum_by_push (λ (n : ℕ). one_if (n == c)) ks k

pub times_append : (c : ℕ) (ks ls : List ℕ) → times c (ks ++ ls) ≡ times c ks + times c ls
times_append c ks ls = sum_by-append (λ (n : ℕ). one_if (n == c)) ks ls

pub times_reverse : (c : ℕ) (ks : List ℕ) → times c (reverse ks) ≡ times c ks
times_reverse c ks = sum_by-IsPermutation _ ks (reverse ks) (IsPermutation-reverse ks)

-- ---- a number that occurs

-- a number that is at a place occurs
pub times_there : (c : ℕ) (ks : List ℕ) (i : ℕ) → slice_get ks i ≡ Some c → 1 ≤ times c ks
times_there c [] i is = absurd (none-some c is)
times_there c (k ∷ ks) zero is =
    let step = times_cons c k ks in
    let one = one_same k c (same_Some k c is) in
    omega (arith, step, one)
times_there c (k ∷ ks) (suc i) is =
    let step = times_cons c k ks in
    let more = times_there c ks i is in
    omega (arith, step, more)

-- a number that occurs is at a place
pub place_of : (c : ℕ) (ks : List ℕ) → 1 ≤ times c ks → (i : ℕ) × (slice_get ks i ≡ Some c)
place_of c [] some = absurd (let none : times c [] ≡ 0 = refl in omega (arith, some, none))
place_of c (k ∷ ks) some =
    elim (eqb_tells k c) [
      | inl same ↦ (zero, ap (λ (n : ℕ). Some n) same.1)
      | inr other ↦
          let step = times_cons c k ks in
          let none = one_else k c other.1 in
          let later = place_of c ks (omega (arith, some, step, none)) in
          (suc later.0, later.1)
    ]

-- a number occurs not at all if it is at no place
pub times_none : (c : ℕ) (ks : List ℕ) → ((i : ℕ) → slice_get ks i ≡ Some c → ⊥) → times c ks ≡ 0
times_none c ks nowhere =
    elim (cases_lt 0 (times c ks)) [
      | inl some ↦ absurd (let at = place_of c ks (omega (arith, some)) in nowhere at.0 at.1)
      | inr none ↦ omega (arith, none)
    ]

-- what holds of all values whose number is another one holds of all, if that one does not occur
pub all_others : {X : Type 0} (key : X → ℕ) (c : ℕ) (xs : List X) → times c (map key xs) ≡ 0 → (P Q : X → Type 0) → All P xs →
    ((x : X) → key x ≢ c → P x → Q x) → All Q xs
all_others key c [] none P Q all more = All-nil Q
all_others key c (x ∷ xs) none P Q all more =
    let step = times_cons c (key x) (map key xs) in
    let differs : key x ≢ c = λ e. (let one = one_same (key x) c e in omega (arith, step, one, none)) in
    All-cons Q x xs (more x differs (All-head P x xs all))
    (all_others key c xs (omega (arith, step, none)) P Q (All-tail P x xs all) more)

-- a value that is removed from a list occurs once less
pub times_without : {X : Type 0} (key : X → ℕ) (c : ℕ) (xs : List X) (k : ℕ) (x : X) → slice_get xs k ≡ Some x →
    times c (map key xs) ≡ one_if (key x == c) + times c (map key (remove xs k))
times_without key c [] k x is = absurd (none-some x is)
times_without key c (y ∷ xs) zero x is =
    let same = same_Some y x is in
    rw same (times_cons c (key x) (map key xs))
times_without key c (y ∷ xs) (suc k) x is =
    let here = times_cons c (key y) (map key xs) in
    let later = times_without key c xs k x is in
    let left = times_cons c (key y) (map key (remove xs k)) in
    omega (arith, here, later, left)
