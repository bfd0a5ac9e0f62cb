use Rattle.std.proofs.Common.{◌≡◌, ◌++◌, false, length}
use Rattle.job_tokens.specs.Comments.{comments_in}
use Rattle.job_layout.specs.Commented.{comments_text}
use Rattle.job_layout.specs.Columns.{line_level}
use Rattle.job_layout.proofs.comments.push_comments.Given as goal

abbrev pub invariant-bytes : goal.invariant-bytes
invariant-bytes l = l.out.items ++ comments_text (line_level l.level l.deeper) (comments_in l.alone false l.rest)
    ≡ l.fn.out.items ++ comments_text (line_level l.level l.deeper) (comments_in false false l.separator)

abbrev pub decreases-bytes : goal.decreases-bytes
decreases-bytes l = length l.rest
