use Rattle.std.proofs.Common.{map}
use Rattle.chart.specs.HeldBars.{bar_of}
use Rattle.svg.specs.Held.{sheet_held}
use Rattle.svg.proofs.Drawn.{document_drawn}
use Rattle.svg.proofs.WellFormed.{is_document}
use Rattle.svg.proofs.document.document.Goals as goal

pub returns-clause-well_formed : goal.returns-clause-well_formed
returns-clause-well_formed c =
    let sheet = sheet_held c.args.sheet.now in
    let bars = map bar_of c.args.bars.now in
    is_document sheet c.args.until bars _
    (document_drawn sheet c.args.until bars c.in_ok-width.width c.height_of.result _ _ _ _ c.new-out.ensures.items
    c.in_ok-width.ensures c.height_of.ensures c.in_ok-begin_svg.ensures c.in_ok-push_inside.ensures c.in_ok-end.ensures)
