use Rattle.std.proofs.Common.{ℕ, Option, Some, None, refl, ap, sym, ◌∙◌, subst}
use Rattle.std.specs.Option.{option_map}
use Rattle.exceptions.specs.Held.{exc_of}
use Rattle.cancel_scopes.specs.Tree.{outer_of}
use Rattle.task_machine.specs.Acts.{Signed}
use Rattle.task_machine.specs.Labels.{home_key}
use Rattle.task_machine.specs.Worlds.{label_at, event_at}
use Rattle.task_machine.proofs.Exits.{home_open, failed_key, fails_if, fails_none}
use Rattle.task_machine.proofs.Kept.{signed_keys}
use Rattle.task_machine.proofs.task.Task.fail.Goals as goal

pub sign-requires-clause-id : goal.sign-requires-clause-id
sign-requires-clause-id c =
    let world = c.args.world.now in
    home_open (event_at world) world.scopes c.scope.result c.in-Some.id c.stacks_are_chains.ensures.chain (sym c.home.ensures ∙ c.in-Some.is)

pub returns-in-Some-clause-at : goal.returns-in-Some-clause-at
returns-in-Some-clause-at c =
    let world = c.args.world.now in
    let found = ap (λ (s : Option ℕ). home_key (event_at world) (outer_of world.scopes s)) (sym c.scope.ensures)
    ∙ sym c.home.ensures ∙ c.in-Some.is in (
      subst (λ (o : Option ℕ). Signed world.tick world.scopes c.sign.new.self.scopes o)
          (sym (failed_key (event_at world) _ (Some c.in-Some.id) c.args.exc.now c.is_none.result c.is_none.ensures c.if-is_none.false found))
          (record { stacks = c.sign.ensures.stacks; marks = c.sign.ensures.marks }),
      fails_if (label_at world) (label_at c.sign.new.self) (event_at world) (event_at c.sign.new.self) world.scopes c.sign.new.self.scopes _
          c.in-Some.id world.tick c.args.exc.now c.is_none.result c.is_none.ensures c.if-is_none.false (ap label_at c.sign.ensures.rest)
          (ap event_at c.sign.ensures.rest) found c.sign.ensures.stacks,
    )

pub returns-in_default-clause-at : goal.returns-in_default-clause-at
returns-in_default-clause-at c =
    let world = c.args.world.now in
    let none = ap (λ (s : Option ℕ). home_key (event_at world) (outer_of world.scopes s)) (sym c.scope.ensures)
    ∙ sym c.home.ensures ∙ c.in_default.is in (
      subst (λ (o : Option ℕ). Signed world.tick world.scopes world.scopes o)
          (sym (failed_key (event_at world) _ None c.args.exc.now c.is_none.result c.is_none.ensures c.if-is_none.false none)) refl,
      λ cancelled_from ps own a. fails_none (label_at world) (event_at world) _ world.tick (option_map exc_of c.args.exc.now) none cancelled_from ps a,
    )

pub returns-in-Some-clause-keys : goal.returns-in-Some-clause-keys
returns-in-Some-clause-keys c =
    signed_keys c.args.world.now.scopes c.sign.new.self.scopes c.in-Some.id c.args.world.now.tick c.sign.ensures.stacks
