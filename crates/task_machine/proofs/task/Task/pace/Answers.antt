use Rattle.std.proofs.Common.{ap, subst}
use Rattle.job_meaning.specs.Asking as ask
use Rattle.turn_semantics.specs.Wakes.{goes_on_with}
use Rattle.task_machine.specs.declared.stop.Purpose.{Purpose}
use Rattle.task_machine.specs.Standing.{here_of}
use Rattle.task_machine.specs.States.{state_of}
use Rattle.task_machine.specs.declared.task.Task.{Task}
use Rattle.task_machine.specs.Stops.{purpose_in}
use Rattle.task_machine.specs.Waking.{IsInRangePurpose}
use Rattle.task_machine.proofs.Wakens.{wakes_answered, wakes_counted}
use Rattle.task_machine.proofs.Wakes.{paced_is}
use Rattle.task_machine.proofs.task.Task.pace.Goals as goal

pub returns-in-Paces-clause-wakes : goal.returns-in-Paces-clause-wakes
returns-in-Paces-clause-wakes c =
    let self = c.args.self.now in
    let k = c.in-Paces.per_tick in
    λ kernel asked.
    wakes_counted (state_of self c.args.world.now) kernel c.args.purpose asked (state_of c.sleep.new.self c.args.world.now) c.sleep.result k
    c.args.count _ (ap purpose_in c.in-Paces.is)
    (paced_is c.args.count k (subst IsInRangePurpose c.in-Paces.is c.requires.purpose).0)
    (ap (λ (t : Task). state_of t c.args.world.now) c.sleep.ensures.stays) c.sleep.ensures.sleeps

pub returns-in-Shows-clause-wakes : goal.returns-in-Shows-clause-wakes
returns-in-Shows-clause-wakes c =
    let self = c.args.self.now in
    λ kernel asked.
    wakes_answered (state_of self c.args.world.now) kernel c.args.purpose asked (ask.counted c.args.count)
    (λ cancelled_from fs ps. ap (λ (p : Purpose). goes_on_with cancelled_from c.args.world.now.tick (here_of c.args.world.now.clock self)
    (ask.counted c.args.count) (purpose_in p)
    fs ps) c.in-Shows.is)

pub returns-in-Needs-clause-wakes : goal.returns-in-Needs-clause-wakes
returns-in-Needs-clause-wakes c =
    let self = c.args.self.now in
    λ kernel asked.
    wakes_answered (state_of self c.args.world.now) kernel c.args.purpose asked (ask.counted c.args.count)
    (λ cancelled_from fs ps. ap (λ (p : Purpose). goes_on_with cancelled_from c.args.world.now.tick (here_of c.args.world.now.clock self)
    (ask.counted c.args.count) (purpose_in p)
    fs ps) c.in-Needs.is)
