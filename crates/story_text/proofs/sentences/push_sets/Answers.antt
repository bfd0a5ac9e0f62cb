use Rattle.story_text.proofs.Joined.{extended, two}
use Rattle.story_text.proofs.sentences.push_sets.Goals as goal

pub returns-in_default-next_from : goal.returns-in_default-next_from
returns-in_default-next_from c =
    let last = extended c.extend_from_slice.result _ _ _ c.extend_from_slice.ensures.items in
    rw (c.in-Some.is, ← c.in_default-next_from.ensures.some)
    (two c.extend_from_slice.result _ _ _ _ _ c.in_ok-push_labelled.ensures last)
