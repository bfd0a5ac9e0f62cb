use Rattle.std.proofs.Common.{ℕ, ◌<◌, Option, length, sym, ap, subst, ◌∙◌}
use Rattle.cancel_scopes.specs.Tree.{outer_of}
use Rattle.task_machine.specs.Labels.{scope_named}
use Rattle.task_machine.specs.Worlds.{label_at, event_at}
use Rattle.task_machine.proofs.FindLemmas.{found_here, found_outwards, shorter}
use Rattle.task_machine.proofs.world.World.find.Goals as goal

pub returns-then-is_sought : goal.returns-then-is_sought
returns-then-is_sought c =
    let world = c.args.self.now in
    sym (c.outwards.invariant.same
    ∙ ap (λ (o : Option ℕ). scope_named c.args.events (label_at world) (event_at world) c.args.name (outer_of world.scopes o)) c.in-Some.is
    ∙ found_here c.args.events (label_at world) (event_at world) c.args.name world.scopes c.in-Some.id c.stacks_are_chains.ensures.own
    (c.outwards.invariant.lives c.in-Some.id c.in-Some.is) (sym c.is_sought.ensures ∙ c.if-is_sought.true))

pub outwards-smaller : goal.outwards-smaller
outwards-smaller c =
    let world = c.args.self.now in
    subst (λ (o : Option ℕ). length (outer_of world.scopes c.parent-at.result) < length (outer_of world.scopes o)) (sym c.in-Some.is)
    (shorter world.scopes c.in-Some.id c.parent-at.result c.stacks_are_chains.ensures.own
    (c.outwards.invariant.lives c.in-Some.id c.in-Some.is) c.parent-at.ensures.around)

pub outwards-preserved : goal.outwards-preserved
outwards-preserved c =
    let world = c.args.self.now in
    record {
      lives = c.parent-at.ensures.parent_open;
      same =
          c.outwards.invariant.same
          ∙ ap (λ (o : Option ℕ). scope_named c.args.events (label_at world) (event_at world) c.args.name (outer_of world.scopes o)) c.in-Some.is
          ∙ found_outwards c.args.events (label_at world) (event_at world) c.args.name world.scopes c.in-Some.id c.parent-at.result c.stacks_are_chains.ensures.own
          (c.outwards.invariant.lives c.in-Some.id c.in-Some.is) (sym c.is_sought.ensures ∙ c.if-is_sought.false) c.parent-at.ensures.around;
    }
