-- The elements of a list that pass a test.
use Rattle.std.proofs.Common.{◌≡◌, suc, Bool, true, false, cond, List, [], ◌∷◌, map, length, refl, ap, sym, ◌∙◌, arith}
use Rattle.std.specs.Prelude.{All}
use Rattle.std.specs.List.{filter}
use Rattle.std.proofs.lemmas.List.Elements.{All-cons, All-head, All-nil, All-tail}

pub filter_again : {X : Type 0} (p : X → Bool) (xs : List X) → filter p (filter p xs) ≡ filter p xs
filter_again p [] = refl
filter_again {X} p (x ∷ xs) = by_test (p x) refl (filter_again p xs)
  where
    by_test : (b : Bool) → p x ≡ b → filter p (filter p xs) ≡ filter p xs → filter p (cond b (x ∷ filter p xs) (filter p xs)) ≡ cond b (x ∷ filter p xs) (filter p xs)
    by_test true e h = ap (λ (c : Bool). cond c (x ∷ filter p (filter p xs)) (filter p (filter p xs))) e ∙ ap (λ (ys : List X). x ∷ ys) h
    by_test false e h = h

module _ {X : Type 0} where
  pub filter_as : (p q : X → Bool) (xs : List X) → All (λ (x : X). p x ≡ q x) xs → filter p xs ≡ filter q xs
  filter_as p q [] all = refl
  filter_as p q (x ∷ xs) all =
      ap (λ (b : Bool). cond b (x ∷ filter p xs) (filter p xs)) (All-head (λ (y : X). p y ≡ q y) x xs all)
      ∙ ap (λ (ys : List X). cond (q x) (x ∷ ys) ys) (filter_as p q xs (All-tail (λ (y : X). p y ≡ q y) x xs all))

  pub none_left : (p : X → Bool) (xs : List X) → All (λ (x : X). p x ≡ false) xs → filter p xs ≡ []
  none_left p [] all = refl
  none_left p (x ∷ xs) all =
      ap (λ (b : Bool). cond b (x ∷ filter p xs) (filter p xs)) (All-head (λ (y : X). p y ≡ false) x xs all)
      ∙ none_left p xs (All-tail (λ (y : X). p y ≡ false) x xs all)

  -- where none passes a test, each fails it
  pub none_pass : (p : X → Bool) (xs : List X) → filter p xs ≡ [] → All (λ (x : X). p x ≡ false) xs
  none_pass p [] e = All-nil (λ (x : X). p x ≡ false)
  none_pass p (x ∷ xs) e = by_test (p x) refl (none_pass p xs)
    where
      by_test : (b : Bool) → p x ≡ b → (filter p xs ≡ [] → All (λ (y : X). p y ≡ false) xs) → All (λ (y : X). p y ≡ false) (x ∷ xs)
      by_test true f more =
          absurd (let g : x ∷ filter p xs ≡ [] = sym (ap (λ (b : Bool). cond b (x ∷ filter p xs) (filter p xs)) f) ∙ e in
          let n : suc (length (filter p xs)) ≡ 0 = ap length g in omega (arith, n))
      by_test false f more =
          All-cons (λ (y : X). p y ≡ false) x xs f
          (more (sym (ap (λ (b : Bool). cond b (x ∷ filter p xs) (filter p xs)) f) ∙ e))

  -- one that passes it has what each has
  pub one_passes : (P : X → Type 0) (p : X → Bool) (xs ys : List X) (y : X) → All P xs → filter p xs ≡ y ∷ ys → (x : X) × P x × (p x ≡ true)
  one_passes P p [] ys y all e = absurd (let n : 0 ≡ suc (length ys) = ap length e in omega (arith, n))
  one_passes P p (x ∷ xs) ys y all e = by_test (p x) refl (one_passes P p xs ys y (All-tail P x xs all))
    where
      by_test : (b : Bool) → p x ≡ b → (filter p xs ≡ y ∷ ys → (z : X) × P z × (p z ≡ true)) → (z : X) × P z × (p z ≡ true)
      by_test true f more = (x, All-head P x xs all, f)
      by_test false f more =
          more (sym (ap (λ (b : Bool). cond b (x ∷ filter p xs) (filter p xs)) f) ∙ e)

  -- each is left where each passes
  pub all_left : (xs : List X) → filter (λ (x : X). true) xs ≡ xs
  all_left [] = refl
  all_left (x ∷ xs) = ap (λ (ys : List X). x ∷ ys) (all_left xs)

-- what holds of all that a function makes of some
pub all_of_map : {X Y : Type 0} (P : Y → Type 0) (f : X → Y) (xs : List X) → All P (map f xs) → All (λ (x : X). P (f x)) xs
all_of_map {X} P f [] h = All-nil (λ (x : X). P (f x))
all_of_map {X} P f (x ∷ xs) h =
    All-cons (λ (y : X). P (f y)) x xs (All-head P (f x) (map f xs) h) (all_of_map P f xs (All-tail P (f x) (map f xs) h))
