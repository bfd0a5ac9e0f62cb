use Rattle.std.proofs.Common.{sym, ◌∙◌}
use Rattle.job_story.specs.Held.{what_of}
use Rattle.chart.specs.Bars.{is_left}
use Rattle.chart.proofs.Noted.{left_more}
use Rattle.chart.proofs.indexing.note_leaving.Goals as goal

pub returns : goal.returns
returns c =
    left_more c.args.left.now c.insert.new.self c.in-Some.label c.args.event (λ l. is_left l (what_of c.args.event.now.what))
    c.in_ok-insert.ensures.updates (sym c.contains_key.ensures ∙ c.if-contains_key.false) c.in-Some.ensures
