-- The state after a mutable borrow of a value.
use Rattle.std.specs.Prelude.{ℕ, Option}
use Rattle.std.specs.Borrow.{LendsIf, RattleType, MutBor, Fml}
use Rattle.slab.specs.Slab.{with_value}
use Rattle.task_table.specs.declared.live.Live.{Live}
use Rattle.task_table.specs.contracts.live.Live.{the_row}

-- the map with this value under the key
abbrev pub with_live : {T : Type 0} → Live T → ℕ → T → Live T
with_live live key value = record live { slots = with_value live.slots key value }

-- after the borrow ends, the last value written is under the key; with no borrow, nothing changed
abbrev pub lends_live : (T : RattleType) → MutBor (Live T.Denot) → ℕ → Option (MutBor T.Denot) → Fml
lends_live T live key lent = LendsIf (the_row T) T live lent (with_live live.now key) live.now
