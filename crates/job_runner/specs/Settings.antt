-- How a job is run.
use Rattle.std.specs.Prelude.{ℕ}

-- the number of workers, and the last tick at which the job may end
pub record Chosen : Type 0 where
  pub workers : ℕ
  pub limit : ℕ
