-- How a queue stores its map. No public clause cites this module.
use Rattle.std.specs.Prelude.{◌≡◌, ℕ, Bool, false, ◌==◌, List, Option, Some, None}
use Rattle.std.specs.declared.cmp.Ordering.{Ordering}
use Rattle.std.specs.Ordering.{nat_cmp, ordering_then}
use Rattle.std.specs.BTreeSet.{BTreeSet, contains}
use Rattle.clock.specs.Ticks.{tick_in}

-- whether there is a tick and it is this one
abbrev pub is_tick : Option ℕ → ℕ → Bool
is_tick None tick = false
is_tick (Some own) tick = own == tick

-- the order of ticks with keys: by the tick, and then by the key
abbrev pub pair_cmp : ℕ × ℕ → ℕ × ℕ → Ordering
pair_cmp x y = ordering_then (nat_cmp x.0 y.0) (nat_cmp x.1 y.1)

-- the sorted set has each key's tick with its key, and nothing else
abbrev pub Agree : List (Option ℕ) → BTreeSet (ℕ × ℕ) → Type 0
Agree ticks order = (key tick : ℕ) → contains pair_cmp order (tick, key) ≡ is_tick (tick_in ticks key) tick
