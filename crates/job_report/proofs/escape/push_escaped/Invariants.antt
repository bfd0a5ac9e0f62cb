use Rattle.std.proofs.Common.{◌≡◌, ◌++◌, length}
use Rattle.std.specs.List.{flat_map}
use Rattle.job_report.specs.Text.{byte_text}
use Rattle.job_report.proofs.escape.push_escaped.Given as goal

abbrev pub invariant-runs : goal.invariant-runs
invariant-runs l = l.out.items ++ flat_map byte_text l.rest ≡ l.fn.out.items ++ flat_map byte_text l.text

abbrev pub decreases-runs : goal.decreases-runs
decreases-runs l = length l.rest
