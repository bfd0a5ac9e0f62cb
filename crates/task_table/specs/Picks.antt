-- How picking in turn works.
use Rattle.std.specs.Prelude.{◌≡◌, ℕ, ◌+◌, ◌%◌, ◌^◌}
use Rattle.task_table.specs.declared.pick.Turn.{Turn}

-- the calls so far modulo those left, and one call more
pub record TurnPicks (old : Turn) (left place : ℕ) (new : Turn) : Type 0 where
  pub picked : place ≡ old.calls % left
  pub counted : new.calls ≡ (old.calls + 1) % 2 ^ 64
