use Rattle.std.proofs.Common.{sym, refl, ◌∙◌}
use Rattle.job_story.proofs.Waited.{set_failed, set_well}
use Rattle.job_story.proofs.waits.check_event.Goals as goal

pub returns-then-has_failed : goal.returns-then-has_failed
returns-then-has_failed c = set_failed _ _ _ _ _ _ (sym c.has_failed.ensures ∙ c.if-has_failed.true) c.in_ok-stretch.ensures

pub returns : goal.returns
returns c =
    set_well _ _ _ _ _ _ _ _ (sym c.has_failed.ensures ∙ c.if-has_failed.false) c.in_ok-stretch.ensures c.end.ensures
    c.in_ok-note_set.ensures refl
