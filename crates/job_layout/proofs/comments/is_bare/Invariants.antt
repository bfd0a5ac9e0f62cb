use Rattle.std.proofs.Common.{◌≡◌, true, false, length}
use Rattle.job_tokens.specs.Comments.{comments_in}
use Rattle.job_layout.proofs.comments.is_bare.Given as goal

abbrev pub invariant-bytes : goal.invariant-bytes
invariant-bytes l = comments_in true false l.rest ≡ comments_in true false l.separator

abbrev pub decreases-bytes : goal.decreases-bytes
decreases-bytes l = length l.rest
