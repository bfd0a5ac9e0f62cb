use Rattle.std.proofs.Common.{◌≡◌, ◌-◌, ◌≤◌, ◌==◌, length, take, count_by}
use Rattle.input_lines.proofs.newlines.newlines_by_block.Given as goal

abbrev pub invariant-blocks-2 : goal.invariant-blocks-2
invariant-blocks-2 l = (l.at ≤ length l.bytes) × (l.count ≤ l.at) × (l.count ≡ count_by (λ b. b == 10) (take l.at l.bytes))

abbrev pub decreases-blocks-2 : goal.decreases-blocks-2
decreases-blocks-2 l = length l.bytes - l.at
