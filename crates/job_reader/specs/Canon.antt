-- The canonical text of a job.
use Rattle.std.specs.Prelude.{ℕ, List, ◌++◌}
use Rattle.job_tree.specs.Tree.{Tree}
use Rattle.job_tokens.specs.Canon.{canon_of}
use Rattle.job_syntax.specs.Pieces.{shapes_in, job_pieces}
use Rattle.job_reader.specs.Refusals.{first_line}

-- the first line, and then the tokens in as few bytes as possible
abbrev pub canon : Tree → List ℕ
canon job = first_line job.format ++ canon_of (shapes_in (job_pieces job))
