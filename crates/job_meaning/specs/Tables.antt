-- The tables that a walk follows.
use Rattle.std.specs.Prelude.{ℕ, List}
use Rattle.job_tree.specs.Tree.{Tree}
use Rattle.job_meaning.specs.Log.{Table}
use Rattle.job_meaning.specs.Sharing.{Grants}
use Rattle.job_meaning.specs.Walk.{Mode, by_table}
use Rattle.job_meaning.specs.Meaning.{meaning_table, meaning_grants}

-- from which moment each label is cancelled, or set, and what limiters and channels grant
pub record Tables : Type 0 where
  pub cancelled_from : Table
  pub granted : Grants

abbrev pub by_tables : Tables → Mode
by_tables tables = by_table tables.cancelled_from tables.granted

-- those of the meaning of a job
abbrev pub meaning_tables : Tree → List ℕ → Tables
meaning_tables job input = record { cancelled_from = meaning_table job input; granted = meaning_grants job input }
