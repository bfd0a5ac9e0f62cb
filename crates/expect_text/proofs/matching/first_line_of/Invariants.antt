use Rattle.std.proofs.Common.{◌≡◌, ◌+◌, ◌≤◌, length}
use Rattle.expect_text.specs.Lines.{ended_lines}
use Rattle.expect_text.specs.Patterns.{first_from, matches, squeezed_text}
use Rattle.expect_text.proofs.matching.first_line_of.Given as goal

abbrev pub invariant-lines : goal.invariant-lines
invariant-lines l = (first_from (λ line. matches l.wanted (squeezed_text line)) l.number (ended_lines l.left) ≡ first_from (λ line. matches l.wanted (squeezed_text line)) 1 (ended_lines l.text))
    × (l.number + length l.left ≤ 1 + length l.text)

abbrev pub decreases-lines : goal.decreases-lines
decreases-lines l = length l.left
