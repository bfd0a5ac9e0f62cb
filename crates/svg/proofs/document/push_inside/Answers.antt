use Rattle.std.proofs.Common.{map}
use Rattle.chart.specs.HeldBars.{bar_of}
use Rattle.svg.specs.Held.{sheet_held}
use Rattle.svg.proofs.Drawn.{inside_drawn}
use Rattle.svg.proofs.document.push_inside.Goals as goal

pub returns : goal.returns
returns c =
    inside_drawn c.push_legend.result (sheet_held c.args.sheet.now) c.args.until (map bar_of c.args.bars.now) _ _ _ _ _ _ _ _
    c.shown_rows.ensures c.bottom_of.ensures.value c.in_ok-push_head.ensures c.in_ok-push_lines.ensures c.in_ok-push_shown.ensures
    c.in_ok-push_noted.ensures c.push_legend.ensures
