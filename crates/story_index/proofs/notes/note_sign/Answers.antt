use Rattle.std.proofs.Common.{◌+◌, sym, ap, ◌∙◌}
use Rattle.job_story.specs.CancelledFrom.{table_in}
use Rattle.job_story.specs.Tell.{is_from}
use Rattle.story_index.specs.Found.{cause_in_code}
use Rattle.story_index.proofs.Dues.{none_due, one_due}
use Rattle.story_index.proofs.notes.note_sign.Goals as goal

pub returns-then-not-is_next : goal.returns-then-not-is_next
returns-then-not-is_next c = λ l from is.
    none_due (table_in c.args.cancelled_from.now) l c.in-Some.sign.label.now from (c.args.event.now.tick + 1) (cause_in_code c.in-Some.sign.cause) _ _
    (c.in-Some.ensures l) (ap (λ o. is_from o (c.args.event.now.tick + 1)) (sym c.of.ensures) ∙ sym c.is_next.ensures ∙ c.if-not-is_next.true) is

pub returns : goal.returns
returns c = λ l from is.
    one_due cause_in_code (table_in c.args.cancelled_from.now) l c.in-Some.sign.label.now from (c.args.event.now.tick + 1) c.in-Some.sign.cause _ _ _
    (c.in-Some.ensures l) (ap (λ o. is_from o (c.args.event.now.tick + 1)) (sym c.of.ensures) ∙ sym c.is_next.ensures ∙ c.if-not-is_next.false) is
    (c.in_ok-put_first.ensures.put l)
