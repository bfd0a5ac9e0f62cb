use Rattle.std.proofs.Common.{Some, ap, ◌∙◌, subst}
use Rattle.task_machine.specs.Tasks.{lent_of}
use Rattle.task_machine.specs.declared.stop.Moved.{Moved}
use Rattle.task_machine.specs.declared.task.Task.{Task}
use Rattle.task_machine.specs.declared.world.World.{World}
use Rattle.task_machine.specs.Standing.{Took, Wakens, wake_at, woken_at}
use Rattle.task_machine.specs.States.{State, state_of}
use Rattle.task_machine.specs.Waking.{wake_in}
use Rattle.task_machine.proofs.WholeTurn.{can_wake, woken_stands, turns_at_once, turns_later}
use Rattle.task_machine.proofs.Waiters.{keeps_then, keeps_woken}
use Rattle.task_machine.proofs.task.Task.turn.Goals as goal

pub returns-in_ok-stop-in-On-clause-turn : goal.returns-in_ok-stop-in-On-clause-turn
returns-in_ok-stop-in-On-clause-turn c =
    let self = c.args.self.now in
    let world = c.args.world.now in
    let wake = c.args.wake in
    let s : State = state_of self world in
    let m : State = state_of c.wake.new.self c.wake.new.world in
    let forgot = c.forget_cancelled.ensures in
    let woke = c.in_ok-exc.ensures in
    let wakens = subst (λ (x : State). Wakens x m c.in_ok-exc.field-0 (wake_in world.book x.task_state wake))
    (forgot.state world) woke.wakes in
    λ cancelled_from numbers ps count stopped task_state stands.
    turns_later s m (state_of c.go_to_stop.new.self c.go_to_stop.new.world) wake c.in-On.exc c.in_ok-stop-in-On.stop cancelled_from numbers ps count
    stopped (ap (λ (t : Task). t.part) woke.stays ∙ ap (λ (t : Task). t.part) forgot.stays)
    (ap (λ (t : Task). t.label) woke.stays ∙ ap (λ (t : Task). t.label) forgot.stays) (ap (λ (w : World). w.clock) woke.world)
    (ap (λ (w : World). w.tick) woke.world)
    (can_wake self.task_state (lent_of self) world.book numbers wake stopped c.requires.wake task_state) stands
    (subst (λ (x : Moved). Took (woken_at wake s) m x cancelled_from numbers
    (wake_at (woken_at wake s) (wake_in world.book self.task_state wake) stopped cancelled_from numbers ps)) c.in-On.is
    (wakens cancelled_from numbers stopped ps (woken_stands wake s cancelled_from numbers (Some stopped) ps stands) task_state))
    c.in_ok-stop-in-On.ensures.steps

pub returns-in-Stops-clause-turn : goal.returns-in-Stops-clause-turn
returns-in-Stops-clause-turn c =
    let self = c.args.self.now in
    let world = c.args.world.now in
    let wake = c.args.wake in
    let s : State = state_of self world in
    let m : State = state_of c.wake.new.self c.wake.new.world in
    let wakens =
    subst (λ (x : State). Wakens x m c.in_ok-exc.field-0 (wake_in world.book x.task_state wake)) (c.forget_cancelled.ensures.state world)
    c.in_ok-exc.ensures.wakes in
    λ cancelled_from numbers ps count stopped task_state stands.
    turns_at_once s m wake c.in-Stops.stop cancelled_from numbers ps count stopped
    (subst (λ (x : Moved). Took (woken_at wake s) m x cancelled_from numbers
    (wake_at (woken_at wake s) (wake_in world.book self.task_state wake) stopped cancelled_from numbers ps)) c.in-Stops.is
    (wakens cancelled_from numbers stopped ps (woken_stands wake s cancelled_from numbers (Some stopped) ps stands) task_state))

pub returns-in_ok-stop-in-On-clause-keeps : goal.returns-in_ok-stop-in-On-clause-keeps
returns-in_ok-stop-in-On-clause-keeps c =
    let woke = c.in_ok-exc.ensures in
    keeps_then c.args.me c.args.self.now c.wake.new.self c.go_to_stop.new.self c.args.world.now c.wake.new.world c.go_to_stop.new.world
    (keeps_woken c.args.me c.args.self.now c.forget_cancelled.new.self c.wake.new.self c.args.world.now c.wake.new.world
    c.forget_cancelled.ensures.stays woke.stays woke.world woke.task_state woke.waiters)
    c.in_ok-stop-in-On.ensures.keeps

pub returns-in-Stops-clause-keeps : goal.returns-in-Stops-clause-keeps
returns-in-Stops-clause-keeps c =
    let woke = c.in_ok-exc.ensures in
    keeps_woken c.args.me c.args.self.now c.forget_cancelled.new.self c.wake.new.self c.args.world.now c.wake.new.world
    c.forget_cancelled.ensures.stays woke.stays woke.world woke.task_state woke.waiters
