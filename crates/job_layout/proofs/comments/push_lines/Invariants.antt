use Rattle.std.proofs.Common.{◌≡◌, ◌++◌, true, false, length}
use Rattle.job_tokens.specs.Comments.{comments_in}
use Rattle.job_layout.specs.Commented.{lines_of}
use Rattle.job_layout.proofs.comments.push_lines.Given as goal

abbrev pub invariant-bytes : goal.invariant-bytes
invariant-bytes l = l.out.items ++ lines_of (comments_in true false l.rest)
    ≡ l.fn.out.items ++ lines_of (comments_in true false l.separator)

abbrev pub decreases-bytes : goal.decreases-bytes
decreases-bytes l = length l.rest
