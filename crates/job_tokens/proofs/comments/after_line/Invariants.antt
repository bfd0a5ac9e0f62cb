use Rattle.std.proofs.Common.{◌≡◌, ◌≤◌, length}
use Rattle.job_tokens.specs.Comments.{after_line}
use Rattle.job_tokens.proofs.comments.after_line.Given as goal

abbrev pub invariant-bytes : goal.invariant-bytes
invariant-bytes l = record {
  within : length l.rest ≤ length l.bytes;
  after : after_line l.rest ≡ after_line l.bytes;
}

abbrev pub decreases-bytes : goal.decreases-bytes
decreases-bytes l = length l.rest
