use Rattle.std.proofs.Common.{ℕ, false, Option, refl, ap, sym, ◌∙◌, subst}
use Rattle.cancel_scopes.specs.Tree.{outer_of}
use Rattle.task_machine.specs.Acts.{Signed}
use Rattle.task_machine.specs.declared.task.Task.{Task}
use Rattle.task_machine.specs.Entered.{CancelsAt}
use Rattle.task_machine.specs.Labels.{scope_named}
use Rattle.task_machine.specs.States.{state_of}
use Rattle.task_machine.specs.Worlds.{label_at, event_at}
use Rattle.task_machine.proofs.Cancels.{found_open, found_labelled, cancels_at, cancels_none, cancels_kept, cancels_no_more}
use Rattle.task_machine.proofs.Kept.{signed_keys}
use Rattle.task_machine.proofs.task.Task.cancel.Goals as goal

pub sign-requires-clause-id : goal.sign-requires-clause-id
sign-requires-clause-id c =
    let world = c.args.world.now in
    found_open false (label_at world) (event_at world) world.scopes c.args.name c.scope.result c.in-Some.id c.stacks_are_chains.ensures.chain
    (sym c.find.ensures ∙ c.in-Some.is)

pub keep_label-requires : goal.keep_label-requires
keep_label-requires c =
    let world = c.args.world.now in
    record {
      label =
          found_labelled false (label_at world) (event_at world) c.args.name (outer_of world.scopes c.scope.result) c.in-Some.id
          (sym c.find.ensures ∙ c.in-Some.is);
    }

pub returns-in_ok-keep_label-clause-at : goal.returns-in_ok-keep_label-clause-at
returns-in_ok-keep_label-clause-at c =
    let world = c.args.world.now in
    let self = c.args.self.now in
    let kept = c.keep_label.new.self in
    let found = ap (λ (s : Option ℕ). scope_named false (label_at world) (event_at world) c.args.name (outer_of world.scopes s)) (sym c.scope.ensures)
    ∙ sym c.find.ensures ∙ c.in-Some.is in
    subst (λ (t : Task). CancelsAt (state_of self world) (state_of t c.sign.new.self) c.args.name) (sym c.in_ok-keep_label.ensures.stays) (
      subst (λ (o : Option ℕ). Signed world.tick world.scopes c.sign.new.self.scopes o) (sym found)
          (record { stacks = c.sign.ensures.stacks; marks = c.sign.ensures.marks }),
      λ cancelled_from ps own a. (
        cancels_at (label_at world) (label_at c.sign.new.self) (event_at world) (event_at c.sign.new.self) world.scopes c.sign.new.self.scopes _ c.args.name c.in-Some.id world.tick
            (ap label_at c.sign.ensures.rest) (ap event_at c.sign.ensures.rest) c.sign.ensures.stacks found cancelled_from ps own a,
        c.in_ok-keep_label.ensures.kept
            ∙ cancels_kept false world.clock (label_at world) (event_at world) cancelled_from _ ps c.args.name c.in-Some.id self.cancelled.items found a,
      ),
    )

pub returns-in_default-clause-at : goal.returns-in_default-clause-at
returns-in_default-clause-at c =
    let world = c.args.world.now in
    let none = ap (λ (s : Option ℕ). scope_named false (label_at world) (event_at world) c.args.name (outer_of world.scopes s)) (sym c.scope.ensures)
    ∙ sym c.find.ensures ∙ c.in_default.is in (
      subst (λ (o : Option ℕ). Signed world.tick world.scopes world.scopes o) (sym none) refl,
      λ cancelled_from ps own a. (
        cancels_none false (label_at world) (event_at world) _ c.args.name world.tick none cancelled_from ps a,
        cancels_no_more false world.clock (label_at world) (event_at world) cancelled_from _ ps c.args.name c.args.self.now.cancelled.items none a,
      ),
    )

pub returns-in_ok-keep_label-clause-keys : goal.returns-in_ok-keep_label-clause-keys
returns-in_ok-keep_label-clause-keys c =
    signed_keys c.args.world.now.scopes c.sign.new.self.scopes c.in-Some.id c.args.world.now.tick c.sign.ensures.stacks
