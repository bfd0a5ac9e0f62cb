use Rattle.std.proofs.Common.{◌≡◌, ◌++◌, false, length}
use Rattle.job_tokens.specs.Comments.{comments_along}
use Rattle.job_layout.specs.Commented.{commented_text}
use Rattle.job_layout.proofs.spaced.push_tokens.Given as goal

abbrev pub invariant-tokens : goal.invariant-tokens
invariant-tokens l = l.out.items ++ commented_text l.level l.rest (comments_along false (length l.rest) l.bytes)
    ≡ l.fn.out.items ++ commented_text l.fn.level l.fn.tokens (comments_along false (length l.fn.tokens) l.fn.body)

abbrev pub decreases-tokens : goal.decreases-tokens
decreases-tokens l = length l.rest
