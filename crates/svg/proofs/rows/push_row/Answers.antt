use Rattle.std.proofs.Common.{◌∙◌, ◌+◌}
use Rattle.std.specs.Prelude.{codes}
use Rattle.std.proofs.lemmas.Result.{on_ok_weaker}
use Rattle.chart.specs.HeldBars.{bar_of}
use Rattle.chart.specs.Text.{outcome_of}
use Rattle.svg.specs.Content.{text, element}
use Rattle.svg.specs.declared.names.Tag.TheVariants as tags
use Rattle.svg.specs.Sheets.{outcome_x, y_of}
use Rattle.svg.specs.Rows.{size_of, class_of, bar_title, start_x, end_x, rectangle, words, cancelled_part, marks}
use Rattle.svg.specs.Held.{sheet_held}
use Rattle.svg.proofs.Elements.{text_before}
use Rattle.svg.proofs.rows.push_row.Goals as goal

pub returns : goal.returns
returns c =
    on_ok_weaker c.text.result
    (λ h rest.
    let sheet = sheet_held c.args.sheet.now in
    let bar = bar_of c.args.bar.now in
    let i = c.args.row in
    let line = text (codes "\n") rest in
    let outcome = words (codes "outcome") (outcome_x sheet) (y_of i + 16) (outcome_of bar) line in
    let marked = marks sheet i bar.own outcome in
    let part = cancelled_part sheet i bar bar.cancelled marked in
    let box = element tags.Rect (rectangle i (size_of bar) (class_of bar) (start_x sheet bar) (end_x sheet bar)) (bar_title sheet bar) part in
    text_before _ (codes "\n") _ h rest
    ∙ c.in_ok-push_row_outcome.ensures line
    ∙ c.in_ok-push_marks.ensures outcome
    ∙ c.in_ok-push_cancelled.ensures marked
    ∙ c.in_ok-push_row_bar.ensures part
    ∙ c.in_ok-push_row_name.ensures box)
    c.text.ensures
