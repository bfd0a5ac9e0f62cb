-- Sorting by a number: elements of the same number keep their order.
use Rattle.std.specs.Prelude.{ℕ, List, [], ◌∷◌, nat_le, if◌then◌else◌}

module _ {X : Type 0} (key : X → ℕ) where
  -- inserts an element before those with the same number or a greater one
  abbrev pub put_by : X → List X → List X
  put_by e [] = e ∷ []
  put_by e (x ∷ xs) = if nat_le (key e) (key x) then e ∷ x ∷ xs else x ∷ put_by e xs

  abbrev pub sorted_by : List X → List X
  sorted_by [] = []
  sorted_by (e ∷ es) = put_by e (sorted_by es)
