-- A stable sort by a number is the sort by insertion.
use Rattle.std.proofs.Common.{◌≡◌, ℕ, zero, suc, ◌<◌, ◌≤◌, Bool, true, false, cond, List, [], ◌∷◌, length, get_or, filter, nat_cmp, is_lt, refl, sym, ap, ◌∙◌, subst, arith, inl, inr, suc-le-suc, zero-le}
use Rattle.std.proofs.lemmas.Bool.{cond-true, cond-false, cases_Bool}
use Rattle.std.proofs.lemmas.Bool.Decides.{nat_tests}
use Rattle.std.specs.Prelude.{nat_le, map}
use Rattle.std.specs.List.Sorted.{ties, IsNonDecreasingBy, IsStableByKey}
use Rattle.basics.specs.Sorting.{put_by, sorted_by}

ties_at : (m n : ℕ) →
    (ties (λ x y. is_lt (nat_cmp x y)) m n ≡ true → m ≡ n) × (m ≡ n → ties (λ x y. is_lt (nat_cmp x y)) m n ≡ true)
ties_at m n = (λ h. grind (arith, nat_tests), λ h. grind (arith, nat_tests))

le_of_test : (m n : ℕ) → nat_le m n ≡ true → m ≤ n
le_of_test m n h = grind (arith, nat_tests)

lt_of_test : (m n : ℕ) → nat_le m n ≡ false → n < m
lt_of_test m n h = grind (arith, nat_tests)

module _ {X : Type 0} (key : X → ℕ) where
  pub put_by-stays : (c d : X) (ds : List X) → nat_le (key c) (key d) ≡ true → put_by key c (d ∷ ds) ≡ c ∷ d ∷ ds
  put_by-stays c d ds h = cond-true _ _ _ h

  pub put_by-past : (c d : X) (ds : List X) → nat_le (key c) (key d) ≡ false → put_by key c (d ∷ ds) ≡ d ∷ put_by key c ds
  put_by-past c d ds h = cond-false _ _ _ h

  -- ---- the same elements in the same order among equals

  abbrev ties_with : X → X → Bool
  ties_with x y = ties (λ a b. is_lt (nat_cmp (key a) (key b))) x y

  ties_with-true : (x y : X) → ties_with x y ≡ true → key x ≡ key y
  ties_with-true x y = (ties_at (key x) (key y)).0

  ties_with_from : (x y : X) → key x ≡ key y → ties_with x y ≡ true
  ties_with_from x y = (ties_at (key x) (key y)).1

  filter-kept : (p : X → Bool) (y : X) (ys : List X) → p y ≡ true → filter p (y ∷ ys) ≡ y ∷ filter p ys
  filter-kept p y ys h = cond-true _ _ _ h

  filter-dropped : (p : X → Bool) (y : X) (ys : List X) → p y ≡ false → filter p (y ∷ ys) ≡ filter p ys
  filter-dropped p y ys h = cond-false _ _ _ h

  filter-put_by : (x c : X) (ds : List X) → filter (ties_with x) (put_by key c ds) ≡ filter (ties_with x) (c ∷ ds)
  filter-put_by x c [] = refl
  filter-put_by x c (d ∷ ds) =
      let p = ties_with x in
      elim (cases_Bool (nat_le (key c) (key d))) [
        | inl stays ↦ ap (filter p) (put_by-stays c d ds stays)
        | inr past ↦
            let later = lt_of_test (key c) (key d) past in
            ap (filter p) (put_by-past c d ds past)
            ∙ elim (cases_Bool (p d)) [
              | inr without ↦
                  filter-dropped p d (put_by key c ds) without ∙ filter-put_by x c ds
                  ∙ ap (λ l. cond (p c) (c ∷ l) l) (sym (filter-dropped p d ds without))
              | inl with ↦
                  elim (cases_Bool (p c)) [
                    | inl both ↦ absurd (omega (arith, later, ties_with-true x c both, ties_with-true x d with))
                    | inr only ↦
                        filter-kept p d (put_by key c ds) with ∙ ap (λ l. d ∷ l) (filter-put_by x c ds ∙ filter-dropped p c ds only)
                        ∙ sym (filter-dropped p c (d ∷ ds) only ∙ filter-kept p d ds with)
                  ]
            ]
      ]

  filter-sorted_by : (x : X) (cs : List X) → filter (ties_with x) (sorted_by key cs) ≡ filter (ties_with x) cs
  filter-sorted_by x [] = refl
  filter-sorted_by x (c ∷ cs) = filter-put_by x c (sorted_by key cs) ∙ ap (λ l. cond (ties_with x c) (c ∷ l) l) (filter-sorted_by x cs)

  -- ---- in order

  abbrev AreAtLeast : ℕ → List X → Type 0
  AreAtLeast n [] = Unit {0}
  AreAtLeast n (y ∷ ys) = (n ≤ key y) × AreAtLeast n ys

  abbrev Rises : List X → Type 0
  Rises [] = Unit {0}
  Rises (y ∷ ys) = AreAtLeast (key y) ys × Rises ys

  AreAtLeast-le : (n m : ℕ) (ys : List X) → n ≤ m → AreAtLeast m ys → AreAtLeast n ys
  AreAtLeast-le n m [] le h = tt
  AreAtLeast-le n m (y ∷ ys) le h = let first = h.0 in (omega arith, AreAtLeast-le n m ys le h.1)

  AreAtLeast-at : (n : ℕ) (ys : List X) → ((j : ℕ) (d : X) → j < length ys → n ≤ key (get_or ys j d)) → AreAtLeast n ys
  AreAtLeast-at n [] h = tt
  AreAtLeast-at n (y ∷ ys) h = (h zero y (suc-le-suc zero-le), AreAtLeast-at n ys (λ j d lt. h (suc j) d (suc-le-suc lt)))

  AreAtLeast-put_by : (n : ℕ) (c : X) (ds : List X) → n ≤ key c → AreAtLeast n ds → AreAtLeast n (put_by key c ds)
  AreAtLeast-put_by n c [] le h = (le, tt)
  AreAtLeast-put_by n c (d ∷ ds) le h =
      elim (cases_Bool (nat_le (key c) (key d))) [
        | inl stays ↦ subst (AreAtLeast n) (sym (put_by-stays c d ds stays)) (le, h)
        | inr past ↦ subst (AreAtLeast n) (sym (put_by-past c d ds past)) (h.0, AreAtLeast-put_by n c ds le h.1)
      ]

  Rises-put_by : (c : X) (ds : List X) → Rises ds → Rises (put_by key c ds)
  Rises-put_by c [] h = (tt, tt)
  Rises-put_by c (d ∷ ds) h =
      elim (cases_Bool (nat_le (key c) (key d))) [
        | inl stays ↦
            let le = le_of_test (key c) (key d) stays in
            subst Rises (sym (put_by-stays c d ds stays)) ((le, AreAtLeast-le (key c) (key d) ds le h.0), h)
        | inr past ↦
            let lt = lt_of_test (key c) (key d) past in
            subst Rises (sym (put_by-past c d ds past)) (AreAtLeast-put_by (key d) c ds (omega arith) h.0, Rises-put_by c ds h.1)
      ]

  Rises-sorted_by : (cs : List X) → Rises (sorted_by key cs)
  Rises-sorted_by [] = tt
  Rises-sorted_by (c ∷ cs) = Rises-put_by c (sorted_by key cs) (Rises-sorted_by cs)

  Rises-from_sort : (ys : List X) → IsNonDecreasingBy key ys → Rises ys
  Rises-from_sort [] h = tt
  Rises-from_sort (y ∷ ys) h = (
    AreAtLeast-at (key y) ys (λ j d lt. h zero (suc j) d zero-le (suc-le-suc lt)),
    Rises-from_sort ys (λ i j d le lt. h (suc i) (suc j) d (suc-le-suc le) (suc-le-suc lt)),
  )

  -- ---- both together

  -- one element is as late as another
  AreAtLeast-found : (n : ℕ) (x : X) (ys : List X) (w : X) (ws : List X) → AreAtLeast n ys → filter (ties_with x) ys ≡ w ∷ ws → n ≤ key x
  AreAtLeast-found n x [] w ws h e = cc
  AreAtLeast-found n x (y ∷ ys) w ws h e =
      elim (cases_Bool (ties_with x y)) [
        | inl with ↦ omega (arith, h.0, ties_with-true x y with)
        | inr without ↦ AreAtLeast-found n x ys w ws h.1 (sym (filter-dropped (ties_with x) y ys without) ∙ e)
      ]

  same_lists : (ys zs : List X) → Rises ys → Rises zs → ((x : X) → filter (ties_with x) ys ≡ filter (ties_with x) zs) → ys ≡ zs
  same_lists [] [] left right alike = refl
  same_lists [] (z ∷ zs) left right alike =
      let clash = alike z ∙ filter-kept (ties_with z) z zs (ties_with_from z z refl) in cc
  same_lists (y ∷ ys) [] left right alike =
      let clash = sym (alike y) ∙ filter-kept (ties_with y) y ys (ties_with_from y y refl) in cc
  same_lists (y ∷ ys) (z ∷ zs) left right alike =
      let at_y = filter-kept (ties_with y) y ys (ties_with_from y y refl) in
      let at_z = filter-kept (ties_with z) z zs (ties_with_from z z refl) in
      let up = AreAtLeast-found (key z) y (z ∷ zs) y _ (omega arith, right.0) (sym (alike y) ∙ at_y) in
      let down = AreAtLeast-found (key y) z (y ∷ ys) z _ (omega arith, left.0) (alike z ∙ at_z) in
      let heads = sym at_y ∙ alike y ∙ filter-kept (ties_with y) z zs (ties_with_from y z (omega arith)) in
      let head : y ≡ z = cc in
      let tails : (x : X) → filter (ties_with x) ys ≡ filter (ties_with x) zs =
      λ x. elim (cases_Bool (ties_with x y)) [
        | inl with ↦
            let both = sym (filter-kept (ties_with x) y ys with) ∙ alike x ∙ filter-kept (ties_with x) z zs (ap (ties_with x) (sym head) ∙ with) in cc
        | inr without ↦
            sym (filter-dropped (ties_with x) y ys without) ∙ alike x ∙ filter-dropped (ties_with x) z zs (ap (ties_with x) (sym head) ∙ without)
      ] in
      ap (λ w. w ∷ ys) head ∙ ap (λ l. z ∷ l) (same_lists ys zs left.1 right.1 tails)

  pub sorted_by_from_sort : (xs ys : List X) → IsNonDecreasingBy key ys → IsStableByKey key nat_cmp xs ys → ys ≡ sorted_by key xs
  sorted_by_from_sort xs ys sorted stable =
      same_lists ys (sorted_by key xs) (Rises-from_sort ys sorted) (Rises-sorted_by xs) (λ x. stable x ∙ sym (filter-sorted_by x xs))

-- what is sorted through a view is the view's list, sorted
module _ {X Y : Type 0} (key : Y → ℕ) (view : X → Y) where
  abbrev key_of : X → ℕ
  key_of x = key (view x)

  map-put_by : (c : X) (ds : List X) → map view (put_by key_of c ds) ≡ put_by key (view c) (map view ds)
  map-put_by c [] = refl
  map-put_by c (d ∷ ds) =
      elim (cases_Bool (nat_le (key_of c) (key_of d))) [
        | inl stays ↦
            ap (map view) (put_by-stays key_of c d ds stays) ∙ sym (put_by-stays key (view c) (view d) (map view ds) stays)
        | inr past ↦
            ap (map view) (put_by-past key_of c d ds past) ∙ ap (λ l. view d ∷ l) (map-put_by c ds)
            ∙ sym (put_by-past key (view c) (view d) (map view ds) past)
      ]

  map-sorted_by : (xs : List X) → map view (sorted_by key_of xs) ≡ sorted_by key (map view xs)
  map-sorted_by [] = refl
  map-sorted_by (x ∷ xs) = map-put_by x (sorted_by key_of xs) ∙ ap (put_by key (view x)) (map-sorted_by xs)

  pub viewed_from_sort : (xs ys : List X) → IsNonDecreasingBy key_of ys → IsStableByKey key_of nat_cmp xs ys →
      map view ys ≡ sorted_by key (map view xs)
  viewed_from_sort xs ys sorted stable = ap (map view) (sorted_by_from_sort key_of xs ys sorted stable) ∙ map-sorted_by xs
