use Rattle.std.proofs.Common.{ℕ, Option, ap, sym, ◌∙◌}
use Rattle.task_machine.specs.Tasks.{lent_of}
use Rattle.cancel_scopes.specs.Sight.{seen}
use Rattle.cancel_scopes.specs.Tree.{outer_of}
use Rattle.task_machine.specs.declared.task.Task.{Task}
use Rattle.task_machine.specs.Worlds.{label_at, event_at}
use Rattle.task_machine.proofs.Moves.{sleeps_seen, sleeps_on, sleeps_off}
use Rattle.task_machine.proofs.task.Task.sleep.Goals as goal

pub returns-then-sees-clause-sleeps : goal.returns-then-sees-clause-sleeps
returns-then-sees-clause-sleeps c =
    let world = c.args.world.now in
    λ cancelled_from numbers book fs ps a.
    sleeps_seen world.clock (label_at world) (event_at world) cancelled_from _ ps c.args.paced c.args.ticks world.tick fs (sym c.clock.ensures ∙ c.in-ByTicks.is) a
    (sym c.if-sees.true ∙ c.sees.ensures ∙ ap (λ (s : Option ℕ). seen (outer_of world.scopes s) world.tick) c.scope.ensures)

pub returns-then-ticks-eq0-clause-sleeps : goal.returns-then-ticks-eq0-clause-sleeps
returns-then-ticks-eq0-clause-sleeps c =
    let world = c.args.world.now in
    λ cancelled_from numbers book fs ps a.
    sleeps_on world.clock (label_at world) (event_at world) cancelled_from _ ps c.args.paced c.args.ticks world.tick fs (sym c.clock.ensures ∙ c.in-ByTicks.is) a
    (sym c.if-sees.false ∙ c.sees.ensures ∙ ap (λ (s : Option ℕ). seen (outer_of world.scopes s) world.tick) c.scope.ensures)
    c.if-ticks-eq0.true

pub returns-else-ticks-eq0-clause-sleeps : goal.returns-else-ticks-eq0-clause-sleeps
returns-else-ticks-eq0-clause-sleeps c =
    let world = c.args.world.now in
    λ cancelled_from numbers book fs ps a.
    sleeps_off world.clock (label_at world) (event_at world) cancelled_from _ ps c.args.paced c.args.ticks world.tick fs numbers book (lent_of c.args.self.now)
    c.fall_asleep.result _ c.fall_asleep.ensures.stops (ap (λ (t : Task). t.task_state) c.fall_asleep.ensures.stays)
    (sym c.clock.ensures ∙ c.in-ByTicks.is) a
    (sym c.if-sees.false ∙ c.sees.ensures ∙ ap (λ (s : Option ℕ). seen (outer_of world.scopes s) world.tick) c.scope.ensures)
    c.if-ticks-eq0.false
