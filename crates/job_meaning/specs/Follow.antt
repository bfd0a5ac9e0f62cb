-- Following a table, and when a table is settled.
use Rattle.std.specs.Prelude.{◌≡◌, ℕ, List}
use Rattle.job_tree.specs.Tree.{Tree}
use Rattle.exceptions.specs.Exceptions.{Label}
use Rattle.job_meaning.specs.Log.{Result, Table, table_of}
use Rattle.job_meaning.specs.Sharing.{Grants, grants_of}
use Rattle.job_meaning.specs.Walk.{by_table}
use Rattle.job_meaning.specs.Meaning.{root_walk, root_log}

-- the walk of a job in which every from is read from a table, and every grant from another
unfoldable pub follow : Table → Grants → Tree → List ℕ → Result
follow table grants job input = root_walk (by_table table grants) job input

-- two tables are settled if they are the tables of following them
pub record IsSettled (table : Table) (grants : Grants) (job : Tree) (input : List ℕ) : Type 0 where
  pub froms : (l : Label) → table l ≡ table_of (follow table grants job input).log l
  pub granted : (object asker : Label) (m : ℕ) → grants object asker m ≡ grants_of (root_log job (follow table grants job input)) object asker m
