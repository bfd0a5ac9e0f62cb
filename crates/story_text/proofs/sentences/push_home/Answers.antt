use Rattle.story_text.proofs.Joined.{two}
use Rattle.story_text.proofs.sentences.push_home.Goals as goal

pub returns : goal.returns
returns c =
    rw c.in-Some.is (two c.push_label.result _ _ _ _ _ c.in_ok-extend_from_slice.ensures.items c.push_label.ensures)
