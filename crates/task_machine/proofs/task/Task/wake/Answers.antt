use Rattle.std.proofs.Common.{None, refl, sym, subst}
use Rattle.task_machine.specs.declared.stop.Moved.TheVariants.{On}
use Rattle.task_machine.specs.declared.stop.Wake as held
use Rattle.task_machine.specs.Standing.{Wakens}
use Rattle.task_machine.specs.States.{state_of}
use Rattle.task_machine.specs.Waking.{wake_in}
use Rattle.task_machine.proofs.Wakens.{wakes_begin}
use Rattle.task_machine.proofs.Waiters.{same_book}
use Rattle.task_machine.proofs.task.Task.wake.Goals as goal

pub returns-in-Begin-clause-wakes : goal.returns-in-Begin-clause-wakes
returns-in-Begin-clause-wakes c =
    let self = c.args.self.now in
    let world = c.args.world.now in
    subst (λ (w : held.Wake). Wakens (state_of self world) (state_of self world) (On None) (wake_in world.book self.task_state w)) (sym c.in-Begin.is)
    (wakes_begin (state_of self world))

pub returns-in_ok-moved-in-Due-clause-wakes : goal.returns-in_ok-moved-in-Due-clause-wakes
returns-in_ok-moved-in-Due-clause-wakes c =
    let self = c.args.self.now in
    let world = c.args.world.now in
    subst (λ (w : held.Wake). Wakens (state_of self world) (state_of c.come_due.new.self c.come_due.new.world) c.in_ok-moved-in-Due.moved
    (wake_in world.book self.task_state w)) (sym c.in-Due.is) (c.in_ok-moved-in-Due.ensures.wakes)

pub returns-in-Seen-clause-wakes : goal.returns-in-Seen-clause-wakes
returns-in-Seen-clause-wakes c =
    let self = c.args.self.now in
    let world = c.args.world.now in
    subst (λ (w : held.Wake). Wakens (state_of self world) (state_of c.see.new.self world) c.see.result
    (wake_in world.book self.task_state w))
    (sym c.in-Seen.is) c.see.ensures.wakes

pub returns-in_ok-moved-in-Answer-clause-wakes : goal.returns-in_ok-moved-in-Answer-clause-wakes
returns-in_ok-moved-in-Answer-clause-wakes c =
    let self = c.args.self.now in
    let world = c.args.world.now in
    subst (λ (w : held.Wake). Wakens (state_of self world) (state_of c.take_answer.new.self world) c.in_ok-moved-in-Answer.moved (wake_in world.book self.task_state w))
    (sym c.in-Answer.is) (c.in_ok-moved-in-Answer.ensures.wakes)

pub returns-in_ok-moved-in-Settled-clause-wakes : goal.returns-in_ok-moved-in-Settled-clause-wakes
returns-in_ok-moved-in-Settled-clause-wakes c =
    let self = c.args.self.now in
    let world = c.args.world.now in
    subst (λ (w : held.Wake). Wakens (state_of self world) (state_of c.settle.new.self c.settle.new.world) c.in_ok-moved-in-Settled.moved
    (wake_in world.book self.task_state w)) (sym c.in-Settled.is) (c.in_ok-moved-in-Settled.ensures.wakes)

pub returns-in-Begin-clause-waiters : goal.returns-in-Begin-clause-waiters
returns-in-Begin-clause-waiters c = same_book c.args.world.now.book c.args.world.now.book refl

pub returns-in-Seen-clause-waiters : goal.returns-in-Seen-clause-waiters
returns-in-Seen-clause-waiters c = same_book c.args.world.now.book c.args.world.now.book refl

pub returns-in_ok-moved-in-Answer-clause-waiters : goal.returns-in_ok-moved-in-Answer-clause-waiters
returns-in_ok-moved-in-Answer-clause-waiters c = same_book c.args.world.now.book c.args.world.now.book refl

pub returns-in_ok-moved-in-Granted-clause-wakes : goal.returns-in_ok-moved-in-Granted-clause-wakes
returns-in_ok-moved-in-Granted-clause-wakes c =
    let self = c.args.self.now in
    let world = c.args.world.now in
    subst (λ (w : held.Wake). Wakens (state_of self world) (state_of c.take_grant.new.self world) c.in_ok-moved-in-Granted.moved (wake_in world.book self.task_state w))
    (sym c.in-Granted.is) (c.in_ok-moved-in-Granted.ensures.wakes)

pub returns-in_ok-moved-in-Granted-clause-waiters : goal.returns-in_ok-moved-in-Granted-clause-waiters
returns-in_ok-moved-in-Granted-clause-waiters c = same_book c.args.world.now.book c.args.world.now.book refl
