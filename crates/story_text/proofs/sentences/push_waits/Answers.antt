use Rattle.story_text.proofs.Joined.{four}
use Rattle.story_text.proofs.sentences.push_waits.Goals as goal

pub returns : goal.returns
returns c =
    four c.push_sign.result _ _ _ _ _ _ _ _ _ c.in_ok-extend_from_slice.ensures.items c.in_ok-push_label.ensures
    c.in_ok-push_after.ensures c.push_sign.ensures
