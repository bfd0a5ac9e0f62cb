use Rattle.std.proofs.Common.{◌≡◌, ◌≤◌, ◌+◌, ◌++◌, [], drop}
use Rattle.std.specs.Prelude.{map}
use Rattle.page.specs.Lines.{job_lines}
use Rattle.page.specs.Views.{warned_held}
use Rattle.page.proofs.job.push_job.Given as goal

abbrev pub invariant-bytes : goal.invariant-bytes
invariant-bytes l =
    (l.out.items ++ job_lines (map warned_held l.warned) l.number l.line.items (drop l.byte-index l.job)
    ≡ l.fn.out.items ++ job_lines (map warned_held l.warned) 1 [] l.job)
    × (l.number ≤ l.byte-index + 1)
