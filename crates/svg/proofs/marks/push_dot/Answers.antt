use Rattle.std.proofs.Common.{[], ◌∷◌}
use Rattle.job_story.specs.Held.{event_of}
use Rattle.svg.specs.declared.names.Tag.TheVariants as tags
use Rattle.svg.specs.Sheets.{x_of, middle_of, events_title}
use Rattle.svg.specs.Rows.{dot}
use Rattle.svg.specs.Held.{sheet_held}
use Rattle.svg.proofs.Elements.{element_ok, at_place}
use Rattle.svg.proofs.marks.push_dot.Goals as goal

pub returns : goal.returns
returns c =
    let sheet = sheet_held c.args.sheet.now in
    let x = x_of sheet c.args.event.now.tick in
    element_ok c.end.result tags.Circle (dot x (middle_of c.args.row)) (events_title sheet (event_of c.args.event.now ∷ [])) _ _ _ _
    (at_place dot tags.Circle _ _ c.x_of.result x c.middle_of.result (middle_of c.args.row) c.in_ok-begin_dot.ensures c.x_of.ensures.value
    c.middle_of.ensures) c.in_ok-push_title.ensures c.end.ensures
