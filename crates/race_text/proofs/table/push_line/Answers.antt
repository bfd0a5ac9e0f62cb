use Rattle.std.proofs.Common.{◌∙◌}
use Rattle.std.proofs.lemmas.Result.{on_ok_weaker}
use Rattle.outcomes.proofs.Joined.{extended}
use Rattle.race_text.specs.LineViews.{line_held}
use Rattle.race_text.proofs.Joined.{columned, lined}
use Rattle.race_text.proofs.table.push_line.Goals as goal

pub returns : goal.returns
returns c =
    let columns =
    columned c.args.widths (line_held c.args.line.now) c.args.out.now.items _ _ _ _ _ _ _ _ _ (c.as_slice.ensures.value ∙ c.in_ok-place_of.ensures)
    (c.as_slice-2.ensures.value ∙ c.in_ok-step_of.ensures) c.hair_of.ensures c.in_ok-push_right.ensures c.in_ok-extend_from_slice.ensures.items
    c.in_ok-push_left.ensures c.in_ok-extend_from_slice-2.ensures.items c.in_ok-push_left-2.ensures c.in_ok-extend_from_slice-3.ensures.items in
    on_ok_weaker c.extend_from_slice-4.result
    (λ h. lined c.args.widths (line_held c.args.line.now) c.args.out.now.items _ _ _ columns c.in_ok-push_finding.ensures h)
    (extended c.extend_from_slice-4.result _ _ _ c.extend_from_slice-4.ensures.items)
