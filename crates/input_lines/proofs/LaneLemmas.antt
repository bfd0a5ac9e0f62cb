-- Lanes that count newlines.
use Rattle.std.proofs.Common.{◌≡◌, ℕ, zero, suc, ◌+◌, ◌-◌, ◌*◌, ◌<◌, ◌≤◌, Bool, true, false, eqb, cond, List, [], ◌∷◌, length, map, slice_range, Fits, w8, refl, sym, ap, subst, ◌∙◌, ⊎_elim, arith}
use lib.Lanes.{Each1, Each2, zip2, sum_l, sel_l}
use lib.ListN.{replicate}
use Rattle.std.proofs.lemmas.Bool.{cases_Bool}
use Rattle.std.proofs.lemmas.Simd.{sum-zip2, length-zip2, Each1-weaker, Each2-of, sum_bound}
use Rattle.std.proofs.lemmas.List.{length-map}
use Rattle.std.proofs.lemmas.List.Sums.{sum_by-cons, sum_by-append}
use Rattle.input_lines.proofs.RangeLemmas.{length-slice_range, slice_range-split}
use Rattle.input_lines.specs.declared.newlines.TheConstants.{RUN}
use Rattle.input_lines.proofs.CountLemmas.{newlines}

abbrev pub hit : ℕ → ℕ
hit b = cond (eqb b 10) 1 0

-- the hits of bytes add up to the number of their newlines
pub hits-sum : (xs : List ℕ) → sum_l (map hit xs) ≡ newlines xs
hits-sum [] = refl
hits-sum (b ∷ bs) = ap (λ n. hit b + n) (hits-sum bs) ∙ sym (sum_by-cons hit b bs)

hit-le : (b : ℕ) → hit b ≤ 1
hit-le b = ⊎_elim (λ (yes_is : eqb b 10 ≡ true). rw yes_is (omega arith)) (λ (no_is : eqb b 10 ≡ false). rw no_is (omega arith))
    (cases_Bool (eqb b 10))

-- each hit of bytes is at most 1
pub hits-low : (xs : List ℕ) → Each1 (λ x. x ≤ 1) (map hit xs)
hits-low [] = _
hits-low (b ∷ bs) = (hit-le b, hits-low bs)

-- lanes of at most n, with hits of at most 1 added, are at most n + 1
pub added-low : (n : ℕ) (xs ys : List ℕ) → Each1 (λ x. x ≤ n) xs → Each1 (λ y. y ≤ 1) ys →
    Each1 (λ x. x ≤ n + 1) (zip2 (λ a b. a + b) xs ys)
added-low n [] ys low one = _
added-low n (x ∷ xs) [] low one = _
added-low n (x ∷ xs) (y ∷ ys) (a, low) (b, one) = (omega arith, added-low n xs ys low one)

-- lanes of at most n, where n is below 255, with hits of at most 1 added, are still bytes
pub added-fit : (n : ℕ) (xs ys : List ℕ) → n < 255 → Each1 (λ x. x ≤ n) xs → Each1 (λ y. y ≤ 1) ys → Each2 (λ a b. Fits w8 (a + b)) xs ys
added-fit n xs ys few low one =
    Each2-of (λ x. x ≤ n) (λ y. y ≤ 1) (λ a b. Fits w8 (a + b)) (λ a b le one. record { fits = omega arith }) xs ys low one

-- two ranges that meet have as many newlines as both in one
pub newlines-joined : (bytes : List ℕ) (a b c : ℕ) → a ≤ b → b ≤ c →
    newlines (slice_range bytes a b) + newlines (slice_range bytes b c) ≡ newlines (slice_range bytes a c)
newlines-joined bytes a b c ab bc =
    sym (ap newlines (slice_range-split bytes a b c ab bc) ∙ sum_by-append hit (slice_range bytes a b) (slice_range bytes b c))

-- one or nothing by a test
pub selected : (n : ℕ) (ms : List Bool) → length ms ≡ n → sel_l {A = ℕ} ms (replicate n 1) (replicate n 0) ≡ map (λ m. cond m 1 0) ms
selected n [] long = refl
selected zero (m ∷ ms) long = absurd (omega arith)
selected (suc n) (m ∷ ms) long = ap (λ ns. cond m 1 0 ∷ ns) (selected n ms (omega arith))

-- lanes that are the hits of some bytes are at most 1 each
pub low-hits : (ys zs : List ℕ) → ys ≡ map hit zs → Each1 (λ y. y ≤ 1) ys
low-hits ys zs is = subst (Each1 (λ y. y ≤ 1)) (sym is) (hits-low zs)

-- one block more
pub lanes-next : (bytes : List ℕ) (at seen : ℕ) (lanes hits : List ℕ) → at + 64 * seen + 64 ≤ length bytes → length lanes ≡ 64 →
    sum_l lanes ≡ newlines (slice_range bytes at (at + 64 * seen))
    → hits ≡ map hit (slice_range bytes (at + 64 * seen) (at + 64 * seen + 64)) → (length (zip2 (λ a b. a + b) lanes hits) ≡ 64)
    × (sum_l (zip2 (λ a b. a + b) lanes hits) ≡ newlines (slice_range bytes at (at + 64 * (seen + 1))))
lanes-next bytes at seen lanes hits within long counted is =
    let end : at + 64 * seen + 64 ≡ at + 64 * (seen + 1) = omega arith in
    let width : at + 64 * seen + 64 - (at + 64 * seen) ≡ 64 = omega arith in
    let size : length hits ≡ 64 = ap length is ∙ length-map _ hit ∙ length-slice_range bytes (at + 64 * seen) (at + 64 * seen + 64) within
    ∙ width in
    let joined = newlines-joined bytes at (at + 64 * seen) (at + 64 * seen + 64) (omega arith) (omega arith) in
    let here : sum_l hits ≡ newlines (slice_range bytes (at + 64 * seen) (at + 64 * seen + 64)) = ap sum_l is ∙ hits-sum _ in
    let sum : sum_l lanes + sum_l hits ≡ newlines (slice_range bytes at (at + 64 * seen + 64)) = omega (arith, counted, here, joined) in (
      length-zip2 (λ a b. a + b) lanes hits (long ∙ sym size) ∙ long,
      sum-zip2 lanes hits (long ∙ sym size) ∙ sum ∙ ap (λ n. newlines (slice_range bytes at n)) end,
    )

-- a list of which each element is kept is the same list
pub same : (xs : List ℕ) → map (λ x. x) xs ≡ xs
same [] = refl
same (x ∷ xs) = ap (λ ys. x ∷ ys) (same xs)

-- 64 lanes of at most 255 each add up to at most the bytes of a run
pub lanes-sum-le : (n : ℕ) (xs : List ℕ) → n ≤ 255 → length xs ≡ 64 → Each1 (λ x. x ≤ n) xs → sum_l xs ≤ RUN
lanes-sum-le n xs few long low =
    omega (arith, sum_bound 255 xs (Each1-weaker (λ x. x ≤ n) (λ x. x ≤ 255) (λ a le. omega arith) xs low), long)
