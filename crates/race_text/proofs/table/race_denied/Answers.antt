use Rattle.race_text.proofs.Shown.{denied_by}
use Rattle.race_text.proofs.table.race_denied.Goals as goal

pub returns : goal.returns
returns c =
    denied_by c.args.lines.now c.lines.line-index c.in_ok-widths.widths c.lines.out.items c.lines-test.false c.in_ok-widths.ensures c.lines.invariant
