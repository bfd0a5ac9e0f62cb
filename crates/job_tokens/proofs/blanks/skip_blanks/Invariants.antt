use Rattle.std.proofs.Common.{◌≡◌, ◌≤◌, false, length}
use Rattle.job_tokens.specs.Lexing.{has_comments, skipped}
use Rattle.job_tokens.proofs.blanks.skip_blanks.Given as goal

abbrev pub invariant-bytes : goal.invariant-bytes
invariant-bytes l = record {
  left : skipped (has_comments l.fn.format) l.inside l.rest ≡ skipped (has_comments l.fn.format) false l.bytes;
  shorter : length l.rest ≤ length l.bytes;
}

abbrev pub decreases-bytes : goal.decreases-bytes
decreases-bytes l = length l.rest
