use Rattle.workers.proofs.SlotLemmas.{taken-one_more, filled-rest}
use Rattle.workers.proofs.working.answers.Goals as goal

pub loop-slot-preserved : goal.loop-slot-preserved
loop-slot-preserved c =
    let before = c.loop-slot.invariant in
    let rest = c.loop-slot.slot-iterator.rest.items in
    let left = c.next.new.self.rest.items in
    let slot = c.in-Some.slot in
    record {
      taken = taken-one_more c.loop-slot.answers.items c.push.new.self.items rest left c.args.row.items slot c.in-Done.answer _ before.taken
          c.in-Some.ensures.steps.0 c.in-Done.is c.in-Done.answer-is c.in_ok-push-in-Done.ensures.items;
      filled = filled-rest rest left slot c.in-Some.ensures.steps.0 before.filled;
    }
