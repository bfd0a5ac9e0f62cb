-- The first of a list.
use Rattle.std.proofs.Common.{◌≡◌, ℕ, List, length, map, take, ap, sym, ◌∙◌}
use Rattle.std.specs.Prelude.{min}
use Rattle.std.proofs.lemmas.List.{take_min, take-map}

-- what is cut off at a place that may lie after the end
pub front_of : {X Y : Type 0} (f : X → Y) (n m : ℕ) (xs front : List X) → m ≡ min n (length xs) → front ≡ take m xs →
    map f front ≡ take n (map f xs)
front_of f n m xs front p q = ap (map f) (q ∙ ap (λ k. take k xs) p ∙ take_min n xs) ∙ sym (take-map f n xs)
