use Rattle.std.proofs.Common.{sym, subst}
use Rattle.task_machine.specs.States.{state_of}
use Rattle.task_machine.specs.Tasks.{lent_of}
use Rattle.task_machine.specs.declared.world.World.{World}
use Rattle.task_machine.specs.declared.stop.Wake.TheVariants.{Due}
use Rattle.task_machine.specs.Fitting.{Fits, waits_of}
use Rattle.task_machine.specs.Waking.{WakesFrom}
use Rattle.layer_tests.proofs.tasks.stop_when_due.Goals as goal

pub turn-requires-clause-fits : goal.turn-requires-clause-fits
turn-requires-clause-fits c =
    subst (λ (w : World). Fits (state_of c.args.task.now w) (waits_of c.args.task.now.task_state)) (sym c.set_now.ensures) c.requires.fits

pub turn-requires-clause-wake : goal.turn-requires-clause-wake
turn-requires-clause-wake c =
    subst (λ (w : World). WakesFrom c.args.task.now.task_state (lent_of c.args.task.now) w.book Due) (sym c.set_now.ensures) c.requires.asleep
