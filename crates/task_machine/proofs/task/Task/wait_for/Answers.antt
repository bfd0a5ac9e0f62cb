use Rattle.std.proofs.Common.{ℕ, true, Option, refl, ap, sym, ◌∙◌}
use Rattle.task_machine.specs.Tasks.{lent_of}
use Rattle.cancel_scopes.specs.Tree.{outer_of}
use Rattle.task_machine.specs.Labels.{scope_named}
use Rattle.task_machine.specs.Worlds.{label_at, event_at}
use Rattle.task_machine.proofs.Waits.{waits_none, waits_some}
use Rattle.task_machine.proofs.task.Task.wait_for.Goals as goal

pub returns-in_default-clause-moves : goal.returns-in_default-clause-moves
returns-in_default-clause-moves c =
    let world = c.args.world.now in
    let none = ap (λ (s : Option ℕ). scope_named true (label_at world) (event_at world) c.args.name (outer_of world.scopes s))
    (sym c.scope.ensures) ∙ sym c.find.ensures ∙ c.in_default.is in
    λ cancelled_from numbers book fs ps a.
    waits_none world.clock (label_at world) (event_at world) c.args.name _ world.tick numbers book (lent_of c.args.self.now) cancelled_from fs ps a
    c.args.self.now.task_state none

pub returns-clause-moves : goal.returns-clause-moves
returns-clause-moves c =
    let world = c.args.world.now in
    let found = ap (λ (s : Option ℕ). scope_named true (label_at world) (event_at world) c.args.name (outer_of world.scopes s))
    (sym c.scope.ensures) ∙ sym c.find.ensures ∙ c.in-Some.is in
    λ cancelled_from numbers book fs ps a.
    waits_some world.clock (label_at world) (event_at world) c.args.name _ world.tick numbers book (lent_of c.args.self.now) cancelled_from fs ps a
    c.in-Some.event _ _ found c.now.ensures refl
