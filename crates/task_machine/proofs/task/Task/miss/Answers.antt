use Rattle.std.proofs.Common.{ap}
use Rattle.job_meaning.specs.Asking as ask
use Rattle.turn_semantics.specs.Wakes.{goes_on_with}
use Rattle.task_machine.specs.declared.stop.Purpose.{Purpose}
use Rattle.task_machine.specs.Standing.{here_of}
use Rattle.task_machine.specs.States.{state_of}
use Rattle.task_machine.specs.Stops.{purpose_in}
use Rattle.task_machine.proofs.Wakens.{wakes_answered, wakes_missing}
use Rattle.task_machine.proofs.task.Task.miss.Goals as goal

pub returns-in_ok-moved-in-Needs-clause-wakes : goal.returns-in_ok-moved-in-Needs-clause-wakes
returns-in_ok-moved-in-Needs-clause-wakes c =
    let self = c.args.self.now in
    λ kernel asked.
    wakes_missing (state_of self c.args.world.now) kernel c.args.purpose asked c.in_ok-moved-in-Needs.moved c.in-Needs.name
    (ap purpose_in c.in-Needs.is) c.in_ok-moved-in-Needs.ensures.raises

pub returns-in-Shows-clause-wakes : goal.returns-in-Shows-clause-wakes
returns-in-Shows-clause-wakes c =
    let self = c.args.self.now in
    λ kernel asked.
    wakes_answered (state_of self c.args.world.now) kernel c.args.purpose asked ask.missing
    (λ cancelled_from fs ps. ap (λ (p : Purpose). goes_on_with cancelled_from c.args.world.now.tick (here_of c.args.world.now.clock self) ask.missing
    (purpose_in p) fs ps)
    c.in-Shows.is)

pub returns-in-Paces-clause-wakes : goal.returns-in-Paces-clause-wakes
returns-in-Paces-clause-wakes c =
    let self = c.args.self.now in
    λ kernel asked.
    wakes_answered (state_of self c.args.world.now) kernel c.args.purpose asked ask.missing
    (λ cancelled_from fs ps. ap (λ (p : Purpose). goes_on_with cancelled_from c.args.world.now.tick (here_of c.args.world.now.clock self) ask.missing
    (purpose_in p) fs ps)
    c.in-Paces.is)
