use Rattle.task_machine.proofs.Bodies.{Searches}
use Rattle.task_machine.proofs.task.Task.nursery.Given as goal

abbrev pub invariant-outwards : goal.invariant-outwards
invariant-outwards l = Searches l.self.frames.items l.at

abbrev pub decreases-outwards : goal.decreases-outwards
decreases-outwards l = l.at
