-- Which trees are jobs.
use Rattle.job_tree.specs.Tree.{Tree}
use Rattle.job_reader.specs.Refusals.{Spells}
use Rattle.job_reader.specs.Canon.{canon}

-- a tree that a text spells: its canonical text spells it
abbrev pub IsReadable : Tree → Type 0
IsReadable job = Spells (canon job) job
