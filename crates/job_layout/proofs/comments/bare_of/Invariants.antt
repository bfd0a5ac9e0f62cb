use Rattle.std.proofs.Common.{◌≡◌, ◌++◌, true}
use Rattle.job_tokens.specs.Comments.{comments_along}
use Rattle.job_layout.specs.Layout.{bare_of}
use Rattle.job_layout.proofs.comments.bare_of.Given as goal

abbrev pub invariant-tokens : goal.invariant-tokens
invariant-tokens l = l.bare.items ++ bare_of (comments_along true l.left l.bytes) ≡ bare_of (comments_along true l.count l.body)

abbrev pub decreases-tokens : goal.decreases-tokens
decreases-tokens l = l.left
