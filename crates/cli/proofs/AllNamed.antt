-- A test of all items of a list, and of one item more.
use Rattle.std.proofs.Common.{◌≡◌, Bool, true, false, ◌&&◌, IsTrue, List, [], ◌∷◌, ◌++◌, refl}
use Rattle.std.specs.List.{list_all}

and_more : (a b c : Bool) → (a && b) ≡ true → (b ≡ true → c ≡ true) → (a && c) ≡ true
and_more true b c both more = more both
and_more false b c both more = both

pub all_more : {A : Type 0} (test : A → Bool) (xs : List A) (x : A) → IsTrue (list_all test xs) → IsTrue (test x) →
    IsTrue (list_all test (xs ++ x ∷ []))
all_more test [] x all one = rw one refl
all_more test (y ∷ ys) x all one =
    and_more (test y) (list_all test ys) (list_all test (ys ++ x ∷ [])) all (λ some. all_more test ys x some one)
