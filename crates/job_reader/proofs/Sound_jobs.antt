-- What holds of a job that a text spells.
use Rattle.std.proofs.Common.{ℕ, List, [], false, refl, ap, sym, ◌∙◌}
use Rattle.job_tree.specs.declared.format.Format.{Format}
use Rattle.job_tree.specs.Tree.{Tree}
use Rattle.job_tree.specs.Names.{GivesNamesOnce, size_of}
use Rattle.job_tree.specs.Starting.{StartsInNurseries}
use Rattle.job_tree.specs.InRange.{IsInRange}
use Rattle.job_tree.specs.Formats.{most_steps}
use Rattle.job_syntax.specs.Ranges.{number_fault}
use Rattle.job_syntax.proofs.InRange.{in_range_numbers}
use Rattle.job_syntax.proofs.Starting.{starts_in}
use Rattle.job_reader.specs.Given.{twice_in}
use Rattle.job_reader.specs.Reserved.{reserved_in}
use Rattle.job_reader.proofs.Distinct_names.{names_once}
use Rattle.job_reader.proofs.Free_names.{names_free}
use Rattle.job_reader.specs.declared.fault.JobKind.TheVariants as kind
use Rattle.job_reader.specs.Refusals.{roles_of, Spells}
use Rattle.job_reader.proofs.Passing.{none_of, small_enough}

-- no name is given twice
pub gives_names_once : (text : List ℕ) (job : Tree) → Spells text job → GivesNamesOnce job
gives_names_once text job (ts, is_of, none) =
    names_once job ts is_of.1.0 is_of.1.1 (none_of (twice_in [] ts (roles_of job)) (λ at e. none kind.Twice at (ts, job, is_of, e)))

-- each start is directly in the body of a nursery, or in a `repeat` there
pub starts_in_nurseries : (text : List ℕ) (job : Tree) → Spells text job → StartsInNurseries job
starts_in_nurseries text job (ts, is_of, none) = starts_in job.format false job.steps is_of.1.0

-- its numbers are in their ranges, and it has no more steps than its format allows
pub numbers_in_range : (text : List ℕ) (job : Tree) → Spells text job → IsInRange job
numbers_in_range text job (ts, is_of, none) = record {
  numbers = in_range_numbers job ts is_of.1.0 (names_free job ts is_of.1.0 is_of.1.1 (none_of (reserved_in ts (roles_of job))
      (λ at e. none kind.Reserved at (ts, job, is_of, e)))) is_of.1.1 (none_of (number_fault job.format ts)
      (λ at e. none kind.Number at (ts, is_of.0, ap (λ (format : Format). number_fault format ts) (sym is_of.2) ∙ e)));
  size = small_enough (most_steps job.format) (size_of job.steps) (λ lt. none kind.TooLarge 0 (ts, job, is_of, lt, refl));
}
