use Rattle.std.proofs.Common.{◌≡◌, ◌+◌, ◌-◌, ◌*◌, ◌≤◌, ◌==◌, length, slice_range, count_by}
use lib.Lanes.{Each1, sum_l}
use Rattle.input_lines.proofs.newlines.newlines_in_run.Given as goal

abbrev pub invariant-blocks-2 : goal.invariant-blocks-2
invariant-blocks-2 l =
    (l.seen ≤ 255) × (length l.lanes ≡ 64) × Each1 (λ x. x ≤ l.seen) l.lanes
    × (sum_l l.lanes ≡ count_by (λ b. b == 10) (slice_range l.bytes l.at (l.at + 64 * l.seen)))

abbrev pub decreases-blocks-2 : goal.decreases-blocks-2
decreases-blocks-2 l = 255 - l.seen
