use Rattle.std.proofs.Common.{◌≡◌, ℕ, None, sym, subst, arith}
use Rattle.std.proofs.lemmas.Grind.{common_steps}
use Rattle.cancel_scopes.specs.Tree.{stack_of}
use Rattle.task_machine.specs.declared.world.World.{World}
use Rattle.layer_tests.proofs.RootTasks.{root_fits, root_sleeps}
use Rattle.layer_tests.proofs.tasks.first_turn.Goals as goal

pub turn-requires-clause-fits : goal.turn-requires-clause-fits
turn-requires-clause-fits c =
    root_fits c.args.job.now c.in_ok-task.task c.in_ok-task.ensures.home c.in_ok-task.ensures.own c.in_ok-task.ensures.task_state
    c.in_ok-task.ensures.frames c.set_now.new.self c.steps-steps.ensures.in_range.numbers
    (c.spelled_jobs_are_sound.ensures.starts _ c.args.job.now c.steps-steps.ensures.spelled)
    (grind (arith, common_steps, c.in_ok-task.ensures.part))
    (subst (λ (w : World). (key : ℕ) → stack_of w.scopes key ≡ None) (sym c.set_now.ensures) c.new-world.ensures.scopes)

pub returns-clause-asleep : goal.returns-clause-asleep
returns-clause-asleep c =
    λ due is. root_sleeps c.args.job.now c.in_ok-task.task c.in_ok-task.ensures.home c.in_ok-task.ensures.own c.in_ok-task.ensures.task_state
    c.in_ok-task.ensures.frames c.set_now.new.self c.turn.new.world c.turn.new.self c.in_ok-stop.stop
    (c.spelled_jobs_are_sound.ensures.starts _ c.args.job.now c.steps-steps.ensures.spelled)
    (c.spelled_jobs_are_sound.ensures.names _ c.args.job.now c.steps-steps.ensures.spelled)
    c.in_ok-stop.ensures.turn due is _
