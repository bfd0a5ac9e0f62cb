use Rattle.std.proofs.Common.{ℕ, ◌<◌, not, Option, length, sym, ap, subst, ◌∙◌}
use Rattle.cancel_scopes.specs.Tree.{outer_of}
use Rattle.task_machine.specs.Labels.{home_key}
use Rattle.task_machine.specs.Worlds.{event_at}
use Rattle.task_machine.proofs.FindLemmas.{home_here, home_outwards, shorter, not_sought}
use Rattle.task_machine.proofs.world.World.home.Goals as goal

pub returns-then-not-is_event : goal.returns-then-not-is_event
returns-then-not-is_event c =
    let world = c.args.self.now in
    sym (c.outwards.invariant.same
    ∙ ap (λ (o : Option ℕ). home_key (event_at world) (outer_of world.scopes o)) c.in-Some.is
    ∙ home_here (event_at world) world.scopes c.in-Some.id c.stacks_are_chains.ensures.own
    (c.outwards.invariant.lives c.in-Some.id c.in-Some.is)
    (not_sought (event_at world c.in-Some.id) ∙ ap not (sym c.is_event.ensures ∙ c.if-not-is_event.true)))

pub outwards-smaller : goal.outwards-smaller
outwards-smaller c =
    let world = c.args.self.now in
    subst (λ (o : Option ℕ). length (outer_of world.scopes c.parent-at.result) < length (outer_of world.scopes o)) (sym c.in-Some.is)
    (shorter world.scopes c.in-Some.id c.parent-at.result c.stacks_are_chains.ensures.own
    (c.outwards.invariant.lives c.in-Some.id c.in-Some.is) c.parent-at.ensures.around)

pub outwards-preserved : goal.outwards-preserved
outwards-preserved c =
    let world = c.args.self.now in
    record {
      lives = c.parent-at.ensures.parent_open;
      same =
          c.outwards.invariant.same
          ∙ ap (λ (o : Option ℕ). home_key (event_at world) (outer_of world.scopes o)) c.in-Some.is
          ∙ home_outwards (event_at world) world.scopes c.in-Some.id c.parent-at.result c.stacks_are_chains.ensures.own
          (c.outwards.invariant.lives c.in-Some.id c.in-Some.is)
          (not_sought (event_at world c.in-Some.id) ∙ ap not (sym c.is_event.ensures ∙ c.if-not-is_event.false)) c.parent-at.ensures.around;
    }
