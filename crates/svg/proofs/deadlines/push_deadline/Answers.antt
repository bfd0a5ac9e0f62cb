use Rattle.std.specs.Prelude.{codes}
use Rattle.svg.specs.declared.names.Tag.TheVariants as tags
use Rattle.svg.specs.Sheets.{x_by, middle_of}
use Rattle.svg.specs.Rows.{used}
use Rattle.svg.specs.Arrows.{deadline_title}
use Rattle.svg.specs.Held.{sheet_held}
use Rattle.svg.proofs.Elements.{element_ok, at_place}
use Rattle.svg.proofs.deadlines.push_deadline.Goals as goal

pub returns : goal.returns
returns c =
    let sheet = sheet_held c.args.sheet.now in
    let x = x_by sheet c.args.moment in
    element_ok c.end.result tags.Use (used (codes "#deadline") x (middle_of c.args.row)) (deadline_title sheet.clock c.args.moment) _ _ _ _
    (at_place (used (codes "#deadline")) tags.Use _ _ c.x_by.result x c.middle_of.result (middle_of c.args.row) c.in_ok-begin_use.ensures
    c.x_by.ensures c.middle_of.ensures) c.in_ok-push_deadline_title.ensures c.end.ensures
