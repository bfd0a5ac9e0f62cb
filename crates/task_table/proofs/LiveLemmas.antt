-- A map of which a value was written through a borrow.
use Rattle.std.proofs.Common.{ℕ, Some}
use Rattle.std.specs.Prelude.{IsSome}
use Rattle.slab.proofs.SlabLemmas.{Updates-with_value}
use Rattle.task_table.specs.declared.live.Live.{Live}
use Rattle.task_table.specs.Live.{live_at, UpdatesLive}
use Rattle.task_table.specs.Lending.{with_live}

module _ {T : Type 0} where
  -- a write through `get_mut` changes what is under that id alone
  pub UpdatesLive-with_live : (live : Live T) (id : ℕ) (value : T) → IsSome (live_at live id) →
      UpdatesLive live (with_live live id value) id (Some value)
  UpdatesLive-with_live live id value there =
      let u = Updates-with_value live.slots id value there in
      record { changed = u.changed; others = u.others }
