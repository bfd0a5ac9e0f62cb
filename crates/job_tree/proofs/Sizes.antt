-- The maximum number of step instances of a job.
use Rattle.std.proofs.Common.{◌≤◌, arith}
use Rattle.job_tree.specs.declared.format.Format.{Format}
use Rattle.job_tree.specs.declared.format.Format.TheVariants.{One, Two, Three}
use Rattle.job_tree.specs.Formats.{most_steps}

-- a job of any format has at most a million step instances
pub few_steps : (format : Format) → most_steps format ≤ 1000000
few_steps One = omega arith
few_steps Two = omega arith
few_steps Three = omega arith
