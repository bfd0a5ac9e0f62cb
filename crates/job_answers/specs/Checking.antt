-- What `check` and `upgrade` write: the canonical text of a job, or its refusal.
use Rattle.std.specs.Prelude.{◌≡◌, ℕ, List, ◌++◌, codes}
use Rattle.job_tree.specs.Tree.{Tree}
use Rattle.job_reader.specs.Refusals.{Spells, IsRefused}
use Rattle.job_reader.specs.Canon.{canon}
use Rattle.job_answers.specs.declared.verdict.CheckVerdict.{CheckVerdict}
use Rattle.job_answers.specs.declared.verdict.CheckVerdict.TheVariants.{Fine, JobRefused}
use Rattle.job_answers.specs.Verdict.{refusal_line}

-- A verdict and its bytes: the canonical text of the job, shown so, and a newline, or the refusal's line.
abbrev pub IsAnswer : (Tree → Tree) → List ℕ → CheckVerdict → List ℕ → Type 0
IsAnswer shown text Fine bytes = (job : Tree) × Spells text job × (bytes ≡ canon (shown job) ++ codes "\n")
IsAnswer shown text (JobRefused fault) bytes = IsRefused text fault.kind fault.at × (bytes ≡ refusal_line fault)

-- What `check` shows: the job as it is.
abbrev pub as_it_is : Tree → Tree
as_it_is job = job
