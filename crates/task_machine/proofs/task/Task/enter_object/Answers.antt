use Rattle.std.proofs.Common.{None, OnOk, subst}
use Rattle.task_machine.specs.declared.world.World.{World}
use Rattle.task_machine.specs.Entered.{EntersAt, an_event_at, label_in}
use Rattle.task_machine.specs.States.{state_of}
use Rattle.task_machine.proofs.task.Task.enter_object.Goals as goal

pub returns-clause-at : goal.returns-clause-at
returns-clause-at c =
    let self = c.args.self.now in
    subst (λ (w : World). OnOk c.enter_event.result (EntersAt (state_of self w) (state_of c.enter_event.new.self c.enter_event.new.world)
    (an_event_at (label_in self c.args.name)) None)) c.in_ok-note_act.ensures.rest c.enter_event.ensures.at
