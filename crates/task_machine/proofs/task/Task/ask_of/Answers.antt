use Rattle.std.proofs.Common.{ℕ, true, Option, ap, sym, ◌∙◌}
use Rattle.cancel_scopes.specs.Sight.{seen}
use Rattle.cancel_scopes.specs.Tree.{outer_of}
use Rattle.task_machine.specs.declared.task.Task.{Task}
use Rattle.task_machine.specs.Labels.{scope_named, seen_levels}
use Rattle.task_machine.specs.Tasks.{lent_of}
use Rattle.task_machine.specs.Worlds.{label_at, event_at}
use Rattle.task_machine.proofs.Asks.{asks_none, asks_refused, asks_some}
use Rattle.task_machine.proofs.task.Task.ask_of.Goals as goal

pub returns-in_default-clause-moves : goal.returns-in_default-clause-moves
returns-in_default-clause-moves c =
    let world = c.args.world.now in
    let self = c.args.self.now in
    let none = ap (λ (s : Option ℕ). scope_named true (label_at world) (event_at world) c.args.name (outer_of world.scopes s))
    (sym c.scope.ensures) ∙ sym c.find.ensures ∙ c.in_default.is in
    λ cancelled_from numbers book fs ps at.
    asks_none world.clock (label_at world) (event_at world) self.cancelled.items c.args.name c.args.ask _ world.tick c.args.body.now numbers book
    (lent_of self) cancelled_from fs ps at self.task_state none

pub returns-then-sees_own-clause-moves : goal.returns-then-sees_own-clause-moves
returns-then-sees_own-clause-moves c =
    let world = c.args.world.now in
    let self = c.args.self.now in
    let found = ap (λ (s : Option ℕ). scope_named true (label_at world) (event_at world) c.args.name (outer_of world.scopes s))
    (sym c.scope.ensures) ∙ sym c.find.ensures ∙ c.in-Some.is in
    let seen_now = ap (λ (s : Option ℕ). seen (seen_levels (label_at world) (event_at world) self.cancelled.items world.tick
    (outer_of world.scopes s)) world.tick) (sym c.scope-2.ensures) ∙ sym c.sees_own.ensures ∙ c.if-sees_own.true in
    λ cancelled_from numbers book fs ps at.
    asks_refused world.clock (label_at world) (event_at world) self.cancelled.items c.args.name c.args.ask _ world.tick c.args.body.now numbers book
    (lent_of self) cancelled_from fs ps at c.in-Some.object c.refuse_to_ask.result c.refuse_to_ask.new.self.task_state found seen_now
    (c.refuse_to_ask.ensures.moves numbers book c.args.name c.args.ask c.args.body.now fs ps)

pub returns-clause-moves : goal.returns-clause-moves
returns-clause-moves c =
    let world = c.args.world.now in
    let self = c.args.self.now in
    let found = ap (λ (s : Option ℕ). scope_named true (label_at world) (event_at world) c.args.name (outer_of world.scopes s))
    (sym c.scope.ensures) ∙ sym c.find.ensures ∙ c.in-Some.is in
    let seen_now = ap (λ (s : Option ℕ). seen (seen_levels (label_at world) (event_at world) self.cancelled.items world.tick
    (outer_of world.scopes s)) world.tick) (sym c.scope-2.ensures) ∙ sym c.sees_own.ensures ∙ c.if-sees_own.false in
    λ cancelled_from numbers book fs ps at.
    asks_some world.clock (label_at world) (event_at world) self.cancelled.items c.args.name c.args.ask _ world.tick c.args.body.now numbers book
    (lent_of self) cancelled_from fs ps at c.in-Some.object world.tick c.args.body c.enter_queue.result c.enter_queue.new.self.task_state found seen_now
    (ap (λ (t : Task). t.task_state) c.enter_queue.ensures.stays) (c.enter_queue.ensures.moves numbers book c.args.name fs ps)
