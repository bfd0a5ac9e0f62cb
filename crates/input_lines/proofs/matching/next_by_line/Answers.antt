use Rattle.input_lines.proofs.MatchLemmas.{skipped_none}
use Rattle.input_lines.proofs.matching.next_by_line.Goals as goal

pub lines-init : goal.lines-init
lines-init c = skipped_none c.args.needle.now c.args.left.now
