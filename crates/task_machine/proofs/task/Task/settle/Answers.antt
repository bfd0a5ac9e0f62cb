use Rattle.std.proofs.Common.{ap, sym, ◌∙◌}
use Rattle.task_machine.proofs.TaskFits.{ready_awaits, settled_fits}
use Rattle.std.proofs.Common.{Option, Some, inr, refl, subst}
use Rattle.std.specs.Option.{option_map}
use Rattle.exceptions.specs.Exceptions.{Exc}
use Rattle.exceptions.specs.Held.{exc_of}
use Rattle.nursery_book.specs.Book.{nursery_at}
use Rattle.turn_semantics.specs.Wakes.{settles}
use Rattle.task_machine.specs.declared.stop.TaskState.{TaskState}
use Rattle.task_machine.specs.declared.stop.Moved.TheVariants.{On}
use Rattle.task_machine.specs.Fitting.{blocks_of, Fits, waits_of}
use Rattle.task_machine.specs.Standing.{Wakens}
use Rattle.task_machine.specs.States.{state_of}
use Rattle.task_machine.specs.Tasks.{home_scope}
use Rattle.task_machine.specs.Waking.{settled_exc}
use Rattle.task_machine.specs.Worlds.{label_at}
use Rattle.task_machine.proofs.Apart.{apart_awaited, has_scope}
use Rattle.task_machine.proofs.StateLemmas.{state_eq}
use Rattle.task_machine.proofs.Wakens.{wakes_settled}
use Rattle.task_machine.proofs.Wakes.{raised_is}
use Rattle.nursery_book.specs.declared.book.NurseryBook.{NurseryBook}
use Rattle.task_machine.specs.declared.world.World.{World}
use Rattle.task_machine.specs.Waiters.{SameWaiters}
use Rattle.task_machine.proofs.Waiters.{closed_waiters}
use Rattle.task_machine.proofs.task.Task.settle.Goals as goal

pub exit-requires-clause-some : goal.exit-requires-clause-some
exit-requires-clause-some c =
    (ready_awaits (state_of c.args.self.now c.args.world.now) c.in-Awaits.nursery c.in-Awaits.since
    (record { chain = c.stacks_are_chains.ensures.chain; own = c.stacks_are_chains.ensures.own; apart = c.stacks_are_chains.ensures.apart })
    c.in-Awaits.is c.requires.wake c.requires.fits).some

pub exit-requires-clause-innermost : goal.exit-requires-clause-innermost
exit-requires-clause-innermost c =
    (ready_awaits (state_of c.args.self.now c.args.world.now) c.in-Awaits.nursery c.in-Awaits.since
    (record { chain = c.stacks_are_chains.ensures.chain; own = c.stacks_are_chains.ensures.own; apart = c.stacks_are_chains.ensures.apart })
    c.in-Awaits.is c.requires.wake c.requires.fits).innermost

pub exit-requires-clause-labelled : goal.exit-requires-clause-labelled
exit-requires-clause-labelled c =
    (ready_awaits (state_of c.args.self.now c.args.world.now) c.in-Awaits.nursery c.in-Awaits.since
    (record { chain = c.stacks_are_chains.ensures.chain; own = c.stacks_are_chains.ensures.own; apart = c.stacks_are_chains.ensures.apart })
    c.in-Awaits.is c.requires.wake c.requires.fits).labelled

pub returns-clause-fits : goal.returns-clause-fits
returns-clause-fits c =
    let exited = c.in_ok-exc-2.ensures in
    settled_fits (state_of c.args.self.now c.args.world.now) (state_of c.exit.new.self c.exit.new.world) c.close.new.self c.in-Awaits.nursery c.in-Awaits.since
    (record { chain = c.stacks_are_chains.ensures.chain; own = c.stacks_are_chains.ensures.own; apart = c.stacks_are_chains.ensures.apart })
    c.in-Awaits.is c.requires.wake c.requires.fits c.in_ok-exc.ensures.closed exited.left exited.own
    (state_eq _ _ _ _ exited.stays exited.world)

pub returns-clause-wakes : goal.returns-clause-wakes
returns-clause-wakes c =
    let self = c.args.self.now in
    let world = c.args.world.now in
    let exited = c.in_ok-exc-2.ensures in
    subst (λ (e : Option Exc). Wakens (state_of self world) (state_of c.exit.new.self c.exit.new.world) (On c.in_ok-exc-2.exc) (settles e))
    (sym (ap (settled_exc world.book) c.in-Awaits.is ∙ raised_is (nursery_at world.book c.in-Awaits.nursery)
    (option_map exc_of c.in_ok-exc.exc) c.in_ok-exc.ensures.raised))
    (wakes_settled (state_of self world) (state_of c.exit.new.self c.exit.new.world) c.close.new.self c.in-Awaits.nursery c.in-Awaits.since
    c.in_ok-exc.exc c.in_ok-exc-2.exc c.in-Awaits.is
    (apart_awaited self.frames.items self.part (home_scope self) self.own.items _ world.scopes (label_at world) world.book
    c.in-Awaits.nursery waits) c.in_ok-exc.ensures.closed (state_eq _ _ _ _ exited.stays exited.world) exited.at exited.left
    (λ n at other.
    has_scope (label_at world) world.book (blocks_of self.frames.items) self.own.items (Some c.in-Awaits.nursery) c.in-Awaits.nursery n
    waits.runs.opened (inr refl) at other.1))
  where
    waits : Fits (state_of c.args.self.now c.args.world.now) (Some c.in-Awaits.nursery)
    waits = subst (λ (h : TaskState). Fits (state_of c.args.self.now c.args.world.now) (waits_of h)) c.in-Awaits.is c.requires.fits

pub returns-clause-waiters : goal.returns-clause-waiters
returns-clause-waiters c =
    let closed = closed_waiters c.args.world.now.book c.close.new.self c.in-Awaits.nursery c.in_ok-exc.ensures.closed in
    subst (λ (b : NurseryBook). SameWaiters c.args.world.now.book b) (sym (ap (λ (w : World). w.book) c.in_ok-exc-2.ensures.world)) closed
