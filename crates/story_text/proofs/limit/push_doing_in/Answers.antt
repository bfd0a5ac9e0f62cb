use Rattle.story_text.proofs.Joined.{two}
use Rattle.story_text.proofs.limit.push_doing_in.Goals as goal

pub returns-in_ok-push_waiting-in-Awaits : goal.returns-in_ok-push_waiting-in-Awaits
returns-in_ok-push_waiting-in-Awaits c =
    rw (c.in-Awaits.is, ← c.of.ensures)
    (two c.push_unset.result _ _ _ _ _ c.in_ok-push_waiting-in-Awaits.ensures c.push_unset.ensures)
