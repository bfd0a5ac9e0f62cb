-- What is at an index of two lists.
use Rattle.std.proofs.Common.{◌≡◌, ◌⊎◌, inl, inr, ℕ, zero, suc, ◌+◌, Some, List, [], ◌∷◌, ◌++◌, length, ap, arith}
use Rattle.std.proofs.lemmas.Option.{none-some}
use Rattle.std.specs.List.{slice_get}

-- what is in the second of two lists
pub got_after : {A : Type 0} (xs ys : List A) (i j : ℕ) → j ≡ length xs + i → slice_get (xs ++ ys) j ≡ slice_get ys i
got_after [] ys i j e = ap (slice_get ys) (let f : j ≡ i = omega (arith, e) in f)
got_after (x ∷ xs) ys i zero e = absurd (omega (arith, e))
got_after (x ∷ xs) ys i (suc j) e = got_after xs ys i j (omega (arith, e))

-- what is in the first
pub got_first : {A : Type 0} (xs ys : List A) (i : ℕ) (x : A) → slice_get xs i ≡ Some x → slice_get (xs ++ ys) i ≡ Some x
got_first [] ys i x e = absurd (none-some x e)
got_first (y ∷ xs) ys zero x e = e
got_first (y ∷ xs) ys (suc i) x e = got_first xs ys i x e

-- an index after the first ones, and what is there
pub record GotAfter {A : Type 0} (first : ℕ) (ys : List A) (at : ℕ) (x : A) : Type 0 where
  pub index : ℕ
  pub following : at ≡ first + index
  pub got : slice_get ys index ≡ Some x

-- what is in two lists is in one of them
pub got_either : {A : Type 0} (xs ys : List A) (at : ℕ) (x : A) → slice_get (xs ++ ys) at ≡ Some x →
    (slice_get xs at ≡ Some x) ⊎ GotAfter (length xs) ys at x
got_either [] ys at x e = inr (record { index = at; following = omega arith; got = e })
got_either (y ∷ xs) ys zero x e = inl e
got_either {A} (y ∷ xs) ys (suc at) x e = by_rest (got_either xs ys at x e)
  where
    by_rest : (slice_get xs at ≡ Some x) ⊎ GotAfter (length xs) ys at x → (slice_get xs at ≡ Some x) ⊎ GotAfter (suc (length xs)) ys (suc at) x
    by_rest (inl g) = inl g
    by_rest (inr g) = inr (record { index = g.index; following = (let f = g.following in omega (arith, f)); got = g.got })
