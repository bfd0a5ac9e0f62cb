-- Slots, of which some are empty. No public clause cites this module.
use Rattle.std.specs.Prelude.{ℕ, ◌+◌, Option, Some, None, List, [], ◌∷◌}
use Rattle.std.specs.List.{filter_map}

module _ {T : Type 0} where
  -- the values in slots, in order
  abbrev pub values_in : List (Option T) → List T
  values_in slots = filter_map (λ slot. slot) slots

  -- the indices of the slots that are not empty, where the first slot has this index
  abbrev pub places_from : ℕ → List (Option T) → List ℕ
  places_from place [] = []
  places_from place (None ∷ slots) = places_from (place + 1) slots
  places_from place (Some value ∷ slots) = place ∷ places_from (place + 1) slots
