-- What clauses state about a `Live`: a map from the keys of ids to values.
use Rattle.std.specs.Prelude.{◌≡◌, ◌≢◌, ℕ, Option}
use Rattle.slab.specs.Slab.{get}
use Rattle.task_table.specs.declared.live.Live.{Live}

module _ {T : Type 0} where
  -- the value under the key, if there is one
  abbrev pub live_at : Live T → ℕ → Option T
  live_at live key = get live.slots key

  -- every key keeps its value
  abbrev pub SameLive : Live T → Live T → Type 0
  SameLive old new = (key : ℕ) → live_at new key ≡ live_at old key

  -- the key has this value now, or none, and every other key keeps its value
  pub record UpdatesLive (old new : Live T) (key : ℕ) (value : Option T) : Type 0 where
    pub changed : live_at new key ≡ value
    pub others : (other : ℕ) → other ≢ key → live_at new other ≡ live_at old other
