use Rattle.std.proofs.Common.{◌∙◌, arith}
use Rattle.outcomes.specs.Table.{place_text, step_text, kind_text}
use Rattle.outcomes.proofs.Widest.{at_least, at_next, at_end, same_widths}
use Rattle.outcomes.proofs.columns.widths_of.Goals as goal

pub lines-init : goal.lines-init
lines-init c = (at_least place_text 0 _, at_least step_text 0 _, at_least kind_text 8 _, omega arith)

pub lines-preserved : goal.lines-preserved
lines-preserved c = (
  at_next place_text 0 _ _ _ _ c.args.lines.now c.line-item.result c.as_slice.result.now c.lines-test.true c.line-item.is
      c.wider.ensures (c.as_slice.ensures.value ∙ c.in_ok-place_of.ensures) c.lines.invariant.0,
  at_next step_text 0 _ _ _ _ c.args.lines.now c.line-item.result c.as_slice-in-lines.result.now c.lines-test.true c.line-item.is
      c.wider-in-lines.ensures (c.as_slice-in-lines.ensures.value ∙ c.in_ok-step_of.ensures) c.lines.invariant.1,
  at_next kind_text 8 _ _ _ _ c.args.lines.now c.line-item.result c.as_slice-in-lines-2.result.now c.lines-test.true c.line-item.is
      c.wider-in-lines-2.ensures (c.as_slice-in-lines-2.ensures.value ∙ c.in_ok-kind_of.ensures) c.lines.invariant.2,
  omega (arith, c.lines.invariant.3, c.wider-in-lines-2.ensures),
)

pub returns : goal.returns
returns c =
    same_widths _ _ _ _
    (at_end place_text 0 _ _ _ _ c.lines-test.false (omega arith) c.lines.invariant.0)
    (at_end step_text 0 _ _ _ _ c.lines-test.false (omega arith) c.lines.invariant.1)
    (at_end kind_text 8 _ _ _ _ c.lines-test.false c.lines.invariant.3 c.lines.invariant.2)
