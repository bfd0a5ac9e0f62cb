-- The bytes of a range: their number, their parts, and each of them.
use Rattle.std.proofs.Common.{◌≡◌, ℕ, ◌+◌, ◌-◌, ◌<◌, ◌≤◌, List, ◌++◌, length, get_or, take, drop, ap, ◌∙◌, arith, slice_range}
use Rattle.std.proofs.lemmas.List.{take-take, drop-drop, drop-take, get_or-take, get_or-drop}
use Rattle.std.proofs.Math.Seq.{take-add}
use Rattle.std.proofs.lemmas.List.Edits.{length-between}

-- a range that ends within the buffer has as many bytes as it has places
pub length-slice_range : (xs : List ℕ) (a c : ℕ) → c ≤ length xs → length (slice_range xs a c) ≡ c - a
length-slice_range xs a c within = length-between xs a c within

-- a range cut in two
pub slice_range-split : (xs : List ℕ) (a b c : ℕ) → a ≤ b → b ≤ c → slice_range xs a c ≡ slice_range xs a b ++ slice_range xs b c
slice_range-split xs a b c ab bc =
    let sum : c - a ≡ (b - a) + (c - b) = omega arith in
    let back : a + (b - a) ≡ b = omega arith in
    ap (λ n. take n (drop a xs)) sum ∙ take-add (b - a) (c - b) (drop a xs)
    ∙ ap (λ ys. take (b - a) (drop a xs) ++ take (c - b) ys) (drop-drop (b - a) a xs ∙ ap (λ n. drop n xs) back)

-- a range without its first k bytes is the range that starts k places later
pub drop-slice_range : (xs : List ℕ) (a c k : ℕ) → a + k ≤ c → drop k (slice_range xs a c) ≡ slice_range xs (a + k) c
drop-slice_range xs a c k fits =
    let sum : c - a ≡ k + (c - (a + k)) = omega arith in
    ap (λ n. drop k (take n (drop a xs))) sum ∙ drop-take k (c - (a + k)) (drop a xs)
    ∙ ap (take (c - (a + k))) (drop-drop k a xs)

-- the first k bytes of a range are the range that ends k places after its start
pub take-slice_range : (xs : List ℕ) (a c k : ℕ) → a + k ≤ c → take k (slice_range xs a c) ≡ slice_range xs a (a + k)
take-slice_range xs a c k fits =
    let same : k ≡ a + k - a = omega arith in
    take-take k (c - a) (drop a xs) (omega arith) ∙ ap (λ n. take n (drop a xs)) same

-- byte j of a range is the buffer's byte j places after the range's start
pub get_or-slice_range : (xs : List ℕ) (a c j : ℕ) → a + j < c → get_or (slice_range xs a c) j 0 ≡ get_or xs (a + j) 0
get_or-slice_range xs a c j below = get_or-take (c - a) (drop a xs) j 0 (omega arith) ∙ get_or-drop a xs j 0
