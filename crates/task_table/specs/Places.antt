-- What clauses state about the places of a batch. No public clause cites this module.
use Rattle.std.specs.Prelude.{◌≡◌, ℕ, ◌+◌, ◌≤◌, Bool, true, false, List, take, length}
use Rattle.task_table.specs.Halves.{inner_nodes, places_by_counts, numbers, IsTree}

-- the places that are left, in order, whether they are counted by halves, and for how many counts there is
-- space
pub record PlacesLeft : Type 0 where
  pub left : List ℕ
  pub counted : Bool
  pub room : ℕ

-- consecutive places, or, after they are counted, those that the counts determine
abbrev pub places_left : Bool → ℕ → ℕ → ℕ → List ℕ → ℕ → List ℕ
places_left false depth span first counts left = numbers first left
places_left true depth span first counts left = places_by_counts depth first (take span counts) left

-- there is space for the counts, or, after the places are counted, the counts determine this many
abbrev pub IsCounted : Bool → ℕ → ℕ → ℕ → List ℕ → ℕ → Type 0
IsCounted false depth span first counts left = (first + left) + (first + left) ≤ length counts
IsCounted true depth span first counts left =
    (span ≡ inner_nodes depth) × (first + span ≤ length counts) × IsTree depth (take span counts) left
