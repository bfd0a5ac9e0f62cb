use Rattle.std.proofs.Common.{sym, ◌∙◌}
use Rattle.job_story.proofs.Owned.{from_own, from_others}
use Rattle.job_story.proofs.own.from_for.Goals as goal

pub returns-then-is_among : goal.returns-then-is_among
returns-then-is_among c = c.earlier.ensures ∙ sym (from_own c.args.label.now c.args.cancelled.now c.args.moment c.args.from
    (sym c.is_among.ensures ∙ c.if-is_among.true))

pub returns-else-is_among : goal.returns-else-is_among
returns-else-is_among c = sym (from_others c.args.label.now c.args.cancelled.now c.args.moment c.args.from
    (sym c.is_among.ensures ∙ c.if-is_among.false))
