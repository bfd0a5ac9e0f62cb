-- Comparisons of runs in the code are those of the definitions.
use Rattle.std.proofs.Common.{◌≡◌, ℕ, List, ap, ◌∙◌}
use Rattle.std.specs.Prelude.{nat_le}
use Rattle.job_tree.specs.Tree.{Tree}
use Rattle.job_meaning.specs.Shown.{Row, meaning_rows}
use Rattle.job_runner.specs.Runs.{root_end}
use Rattle.race_text.specs.Lines.{Found}
use Rattle.trials.specs.TextRuns.{TextRun, ran, text_run_of, found_between}

-- what the rows of a job's run show is what those of its meaning show
pub in_job : (scope : List ℕ) (job : Tree) (input : List ℕ) (limit : ℕ) (rows : List Row) (before : TextRun) (found : Found) → rows ≡ meaning_rows job input →
    found ≡ found_between scope before (ran (nat_le (root_end rows) limit) rows) → found ≡ found_between scope before (text_run_of limit job input)
in_job scope job input limit rows before found same is =
    is ∙ ap (λ (rs : List Row). found_between scope before (ran (nat_le (root_end rs) limit) rs)) same
