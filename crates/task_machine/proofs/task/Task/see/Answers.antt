use Rattle.std.proofs.Common.{◌≡◌, ℕ, suc, ◌+◌, Some, refl, ap, sym, ◌∙◌, arith}
use Rattle.exceptions.specs.declared.exc.Exc.TheVariants.{Cancelled}
use Rattle.task_machine.specs.declared.stop.TaskState.TheVariants.{GivingUp}
use Rattle.task_machine.specs.States.{State, state_of}
use Rattle.task_machine.proofs.Wakens.{wakes_seen, wakes_at_checkpoint}
use Rattle.task_machine.proofs.task.Task.see.Goals as goal

pub returns-then-not-is_at_checkpoint-clause-wakes : goal.returns-then-not-is_at_checkpoint-clause-wakes
returns-then-not-is_at_checkpoint-clause-wakes c =
    wakes_seen (state_of c.args.self.now c.args.world.now) c.requires.wake (Some Cancelled) refl
    (sym c.is_at_checkpoint.ensures ∙ c.if-not-is_at_checkpoint.true)

pub returns-clause-wakes : goal.returns-clause-wakes
returns-clause-wakes c =
    let s : State = state_of c.args.self.now c.args.world.now in
    let since = c.now-since.result in
    let is : since ≡ c.args.world.now.tick = c.now-since.ensures in
    let later : since + 1 ≡ suc c.args.world.now.tick = omega (arith, is) in
    wakes_at_checkpoint s c.requires.wake (record s { task_state = GivingUp since }) _ (since + 1)
    (sym c.is_at_checkpoint.ensures ∙ c.if-not-is_at_checkpoint.false) later (ap (λ (t : ℕ). record s { task_state = GivingUp t }) is) refl
