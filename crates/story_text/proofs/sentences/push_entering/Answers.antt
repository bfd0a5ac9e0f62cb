use Rattle.std.proofs.lemmas.Result.{on_ok_weaker}
use Rattle.story_text.proofs.Joined.{extended, three}
use Rattle.story_text.proofs.sentences.push_entering.Goals as goal

pub returns-in_default : goal.returns-in_default
returns-in_default c =
    rw c.in_default.is (on_ok_weaker c.push_shield.result (λ shown. shown c.args.clock) c.push_shield.ensures)

pub returns-then-shield : goal.returns-then-shield
returns-then-shield c =
    let last = extended c.extend_from_slice-then-shield.result _ _ _ c.extend_from_slice-then-shield.ensures.items in
    rw (c.in-Some.is, c.if-shield.true, ← c.tick_of.ensures)
    (three c.extend_from_slice-then-shield.result _ _ _ _ _ _ _ c.in_ok-extend_from_slice.ensures.items c.in_ok-push_number.ensures last)
