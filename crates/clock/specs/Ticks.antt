-- What contracts see of a queue: a map from keys to ticks, as a list with the tick of each key at the key's index.
use Rattle.std.specs.Prelude.{◌≡◌, ◌≢◌, ℕ, ◌≤◌, List, Option, Some, None}
use Rattle.std.specs.Prelude.{slice_index_or}

-- the tick of a key, if it has one
abbrev pub tick_in : List (Option ℕ) → ℕ → Option ℕ
tick_in q key = slice_index_or q key None

-- no key has a tick
abbrev pub HasNone : List (Option ℕ) → Type 0
HasNone q = (key : ℕ) → tick_in q key ≡ None

-- every key keeps its tick
abbrev pub IsSame : List (Option ℕ) → List (Option ℕ) → Type 0
IsSame old new = (key : ℕ) → tick_in new key ≡ tick_in old key

-- the key now has this tick, or none, and every other key keeps its own
pub record Puts (old new : List (Option ℕ)) (key : ℕ) (tick : Option ℕ) : Type 0 where
  pub changed : tick_in new key ≡ tick
  pub others : (other : ℕ) → other ≢ key → tick_in new other ≡ tick_in old other

-- the key has this tick, no key has an earlier one, and no key that has the same tick is less
pub record IsFirst (q : List (Option ℕ)) (tick key : ℕ) : Type 0 where
  pub has : tick_in q key ≡ Some tick
  pub earliest : (other later : ℕ) → tick_in q other ≡ Some later → tick ≤ later
  pub least : (other later : ℕ) → tick_in q other ≡ Some later → later ≤ tick → key ≤ other
