use Rattle.std.proofs.Common.{◌≡◌, ◌≤◌, ◌==◌, take, count_by}
use Rattle.input_lines.proofs.newlines.newlines_one_by_one.Given as goal

abbrev pub invariant-loop-byte : goal.invariant-loop-byte
invariant-loop-byte l = (l.count ≡ count_by (λ b. b == 10) (take l.byte-index l.bytes)) × (l.count ≤ l.byte-index)
