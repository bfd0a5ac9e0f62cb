use Rattle.std.proofs.Common.{ℕ, ◌<◌, Option, length, sym, ap, subst, ◌∙◌}
use Rattle.cancel_scopes.specs.Tree.{outer_of}
use Rattle.task_machine.specs.Worlds.{label_at, event_at}
use Rattle.task_machine.proofs.Catching.{seen_in, seen_here, seen_nowhere, seen_outwards}
use Rattle.task_machine.proofs.FindLemmas.{shorter}
use Rattle.task_machine.proofs.world.World.sees_with.Goals as goal

pub returns-then-is_cancelled : goal.returns-then-is_cancelled
returns-then-is_cancelled c =
    let world = c.args.self.now in
    let own = c.args.cancelled.now.items in
    sym (c.outwards.invariant.same
    ∙ ap (λ (o : Option ℕ). seen_in
    (label_at world) (event_at world) own world.tick world.scopes c.stacks_are_chains.ensures.own c.in-Some.id o) c.in-Some.is
    ∙ seen_here (label_at world) (event_at world) own world.tick world.scopes c.stacks_are_chains.ensures.own c.in-Some.id
    (c.outwards.invariant.lives c.in-Some.id c.in-Some.is)
    (λ st e. sym c.if-is_cancelled.true ∙ c.is_cancelled.ensures st e))

pub returns-then-is_shielded : goal.returns-then-is_shielded
returns-then-is_shielded c =
    let world = c.args.self.now in
    let own = c.args.cancelled.now.items in
    sym (c.outwards.invariant.same
    ∙ ap (λ (o : Option ℕ). seen_in
    (label_at world) (event_at world) own world.tick world.scopes c.stacks_are_chains.ensures.own c.in-Some.id o) c.in-Some.is
    ∙ seen_nowhere (label_at world) (event_at world) own world.tick world.scopes c.stacks_are_chains.ensures.own c.in-Some.id
    (c.outwards.invariant.lives c.in-Some.id c.in-Some.is)
    (λ st e. sym c.if-is_cancelled.false ∙ c.is_cancelled.ensures st e)
    (λ st e. sym c.if-is_shielded.true ∙ c.is_shielded.ensures st e))

pub outwards-smaller : goal.outwards-smaller
outwards-smaller c =
    let world = c.args.self.now in
    subst (λ (o : Option ℕ). length (outer_of world.scopes c.parent-inside.result) < length (outer_of world.scopes o)) (sym c.in-Some.is)
    (shorter world.scopes c.in-Some.id c.parent-inside.result c.stacks_are_chains.ensures.own
    (c.outwards.invariant.lives c.in-Some.id c.in-Some.is) c.parent-inside.ensures.around)

pub outwards-preserved : goal.outwards-preserved
outwards-preserved c =
    let world = c.args.self.now in
    let own = c.args.cancelled.now.items in
    record {
      lives = c.parent-inside.ensures.parent_open;
      same =
          c.outwards.invariant.same
          ∙ ap (λ (o : Option ℕ). seen_in (label_at world) (event_at world) own world.tick world.scopes c.stacks_are_chains.ensures.own c.in-Some.id o)
          c.in-Some.is
          ∙ seen_outwards (label_at world) (event_at world) own world.tick world.scopes c.stacks_are_chains.ensures.own c.in-Some.id
          (c.outwards.invariant.lives c.in-Some.id c.in-Some.is) c.parent-inside.result
          (λ st e. sym c.if-is_cancelled.false ∙ c.is_cancelled.ensures st e)
          (λ st e. sym c.if-is_shielded.false ∙ c.is_shielded.ensures st e) c.parent-inside.ensures.around;
    }
