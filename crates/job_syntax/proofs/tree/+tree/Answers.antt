use Rattle.std.proofs.Common.{length}
use Rattle.std.proofs.Common.{arith}
use Rattle.std.proofs.lemmas.List.{length-map}
use Rattle.job_tokens.specs.Shapes.{shapes_of}
use Rattle.job_syntax.specs.Reading.{steps_with, blocks_at}
use Rattle.job_syntax.proofs.Steps.{ends, fails, goes_on, is_over, one_level}
use Rattle.job_syntax.proofs.tree.+tree.Goals as goal

pub steps_with-returns-in-Some : goal.steps_with-returns-in-Some
steps_with-returns-in-Some t c =
    rw c.new.ensures (ends (blocks_at c.args.depth) c.steps.steps.items (length c.args.tokens.now) c.steps.counter
    (shapes_of c.steps.rest.now) (shapes_of c.in-Some.after.now)
    (steps_with (blocks_at c.args.depth) (length c.args.tokens.now) (shapes_of c.args.tokens.now)) c.steps-test.true c.in-Some.ensures
    c.steps.invariant)

pub steps_with-returns-in_default-2 : goal.steps_with-returns-in_default-2
steps_with-returns-in_default-2 t c = fails (blocks_at c.args.depth) c.steps.steps.items (length c.args.tokens.now) c.steps.counter
    (shapes_of c.steps.rest.now) (steps_with (blocks_at c.args.depth) (length c.args.tokens.now) (shapes_of c.args.tokens.now))
    c.steps-test.true c.in_default.ensures (rw c.in_default-2.is at c.in_ok-step.ensures) c.steps.invariant

pub steps_with-steps-preserved : goal.steps_with-steps-preserved
steps_with-steps-preserved t c = rw c.in_ok-push.ensures.items
    (goes_on (blocks_at c.args.depth) c.steps.steps.items (length c.args.tokens.now) c.steps.counter (shapes_of c.steps.rest.now)
    c.in-Some-2.step (shapes_of c.in-Some-2.after.now) (steps_with (blocks_at c.args.depth) (length c.args.tokens.now)
    (shapes_of c.args.tokens.now)) c.steps-test.true c.in_default.ensures (rw c.in-Some-2.is at c.in_ok-step.ensures) c.steps.invariant)

pub steps_with-returns : goal.steps_with-returns
steps_with-returns t c = is_over (blocks_at c.args.depth) c.steps.steps.items (length c.args.tokens.now) c.steps.counter
    (shapes_of c.steps.rest.now) (steps_with (blocks_at c.args.depth) (length c.args.tokens.now) (shapes_of c.args.tokens.now))
    c.steps-test.false c.steps.invariant

pub blocks_at-returns : goal.blocks_at-returns
blocks_at-returns t c = rw (one_level c.args.depth (length c.args.tokens.now) (shapes_of c.args.tokens.now) (λ e. omega arith)
    (length-map c.args.tokens.now (λ x. x.shape))) c.steps_with.ensures
