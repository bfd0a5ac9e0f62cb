use Rattle.std.proofs.Common.{arith}
use Rattle.job_tree.specs.Blocks.{step_of, steps_of}
use Rattle.job_syntax.specs.Pieces.{steps_pieces}
use Rattle.job_tree.proofs.Weights.{weight_at}
use Rattle.job_reader.proofs.Tails.{step_appended}
use Rattle.job_reader.proofs.Writing_blocks.{closed}
use Rattle.job_reader.proofs.writing.+writing.Goals as goal

pub push_steps-push_step-requires : goal.push_steps-push_step-requires
push_steps-push_step-requires t c =
    let weight = weight_at c.args.steps.now c.steps.step-index c.step-item.result c.steps-test.true c.step-item.is in
    (omega (arith, weight, c.decreases), tt)

pub push_steps-returns : goal.push_steps-returns
push_steps-returns t c = closed (steps_pieces (steps_of c.args.steps.now)) c.args.shapes.now.items c.steps.shapes.items
    c.push.new.self.items c.args.steps.now c.steps.step-index (omega (arith, c.steps-test.false)) c.steps.invariant
    c.in_ok-push.ensures.items

pub push_step-returns : goal.push_step-returns
push_step-returns t c =
    step_appended (step_of c.args.step.now) c.args.shapes.now.items c.push_head.new.shapes.items c.push_tail.new.shapes.items
    c.in_ok-push_head.ensures c.in_ok-push_tail.ensures
