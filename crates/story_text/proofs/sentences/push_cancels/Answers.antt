use Rattle.story_text.proofs.Joined.{extended, three}
use Rattle.story_text.proofs.sentences.push_cancels.Goals as goal

pub returns-in_default-next_from : goal.returns-in_default-next_from
returns-in_default-next_from c =
    let last = extended c.extend_from_slice-in_default-next_from.result _ _ _ c.extend_from_slice-in_default-next_from.ensures.items in
    rw (c.in-Some.is, ← c.in_default-next_from.ensures.some, ← c.entering_of.ensures)
    (three c.extend_from_slice-in_default-next_from.result _ _ _ _ _ _ _ c.in_ok-extend_from_slice.ensures.items
    c.in_ok-push_entered.ensures last)
