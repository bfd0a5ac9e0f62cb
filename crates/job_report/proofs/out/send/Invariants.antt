use Rattle.std.proofs.Common.{◌≡◌, ◌-◌, ◌≤◌, length, take}
use Rattle.std.specs.Io.KnownBytes.{Appends}
use Rattle.job_report.proofs.out.send.Given as goal

abbrev pub invariant-puts : goal.invariant-puts
invariant-puts g l = (l.sent ≤ length l.bytes) × Appends (g.W.Out.contents l.fn.out) (g.W.Out.contents l.out) (take l.sent l.bytes)
    × (g.W.Out.failed l.out ≡ g.W.Out.failed l.fn.out)

abbrev pub decreases-puts : goal.decreases-puts
decreases-puts g l = length l.bytes - l.sent
