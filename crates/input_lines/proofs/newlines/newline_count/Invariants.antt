use Rattle.std.proofs.Common.{◌≡◌, ◌-◌, ◌≤◌, ◌==◌, length, take, count_by}
use Rattle.input_lines.proofs.newlines.newline_count.Given as goal

abbrev pub invariant-runs : goal.invariant-runs
invariant-runs l = (l.at ≤ length l.bytes) × (l.count ≤ l.at) × (l.count ≡ count_by (λ b. b == 10) (take l.at l.bytes))

abbrev pub decreases-runs : goal.decreases-runs
decreases-runs l = length l.bytes - l.at
