use Rattle.story_text.proofs.Joined.{two}
use Rattle.story_text.proofs.sentences.push_leaving.Goals as goal

pub returns-then-caught : goal.returns-then-caught
returns-then-caught c =
    rw (c.in-Some.is, c.if-caught.true, ← c.deref.ensures)
    (two c.push_caught.result _ _ _ _ _ c.in_ok-extend_from_slice.ensures.items c.push_caught.ensures)
