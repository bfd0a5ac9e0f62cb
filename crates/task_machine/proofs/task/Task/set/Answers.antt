use Rattle.std.proofs.Common.{ℕ, true, Option, refl, ap, sym, ◌∙◌, subst}
use Rattle.cancel_scopes.specs.Tree.{outer_of}
use Rattle.turn_semantics.specs.Midway.{label_among}
use Rattle.turn_semantics.specs.Steps.{signs_to, cancelled_from_after}
use Rattle.task_machine.specs.declared.task.Task.{Task}
use Rattle.task_machine.specs.declared.world.World.{World}
use Rattle.task_machine.specs.Entered.{SetAt, SetsAt}
use Rattle.task_machine.specs.Labels.{scope_named}
use Rattle.task_machine.specs.Stacked.{AreAt}
use Rattle.task_machine.specs.States.{state_of}
use Rattle.task_machine.specs.Tasks.{scope_of}
use Rattle.task_machine.specs.Worlds.{label_at, event_at}
use Rattle.task_machine.proofs.Cancels.{found_labelled, found_event_is, sets_at, cancels_none, cancels_kept, cancels_no_more}
use Rattle.task_machine.proofs.task.Task.set.Goals as goal

pub keep_label-requires : goal.keep_label-requires
keep_label-requires c =
    let world = c.args.world.now in
    record {
      label =
          found_labelled true (label_at world) (event_at world) c.args.name (outer_of world.scopes c.scope.result) c.in-Some.id
          (sym c.find.ensures ∙ c.in-Some.is);
    }

pub set-requires-clause-event : goal.set-requires-clause-event
set-requires-clause-event c =
    let world = c.args.world.now in
    found_event_is (label_at world) (event_at world) c.args.name (outer_of world.scopes c.scope.result) c.in-Some.id
    (sym c.find.ensures ∙ c.in-Some.is)

pub returns-in_ok-set-clause-at : goal.returns-in_ok-set-clause-at
returns-in_ok-set-clause-at c =
    let world = c.args.world.now in
    let self = c.args.self.now in
    let found = ap (λ (s : Option ℕ). scope_named true (label_at world) (event_at world) c.args.name (outer_of world.scopes s))
    (sym c.scope.ensures) ∙ sym c.find.ensures ∙ c.in-Some.is in
    let sets = c.in_ok-set.ensures.sets in
    subst (λ (t : Task). SetsAt (state_of self world) (state_of t c.set.new.self) c.args.name) (sym c.in_ok-keep_label.ensures.stays) (
      subst (λ (o : Option ℕ). SetAt (state_of self world)
          (state_of (record self { cancelled = c.keep_label.new.self.cancelled }) c.set.new.self) o) (sym found) sets,
      λ cancelled_from ps own a. (
        subst (λ (w : World). AreAt (label_at w) (event_at c.set.new.self)
            (cancelled_from_after cancelled_from (signs_to (label_among true c.args.name ps) world.tick)) (outer_of w.scopes (scope_of self)) ps)
            (sym c.in_ok-set.ensures.rest)
            (sets_at (label_at world) (event_at world) (event_at c.set.new.self) _ c.args.name c.in-Some.id world.tick _ _ sets found cancelled_from ps
            own a),
        c.in_ok-keep_label.ensures.kept
            ∙ cancels_kept true world.clock (label_at world) (event_at world) cancelled_from _ ps c.args.name c.in-Some.id self.cancelled.items found a,
      ),
    )

pub returns-in_default-clause-at : goal.returns-in_default-clause-at
returns-in_default-clause-at c =
    let world = c.args.world.now in
    let self = c.args.self.now in
    let none = ap (λ (s : Option ℕ). scope_named true (label_at world) (event_at world) c.args.name (outer_of world.scopes s))
    (sym c.scope.ensures) ∙ sym c.find.ensures ∙ c.in_default.is in (
      subst (λ (o : Option ℕ). SetAt (state_of self world) (state_of self world) o) (sym none) (refl, refl),
      λ cancelled_from ps own a. (
        cancels_none true (label_at world) (event_at world) _ c.args.name world.tick none cancelled_from ps a,
        cancels_no_more true world.clock (label_at world) (event_at world) cancelled_from _ ps c.args.name self.cancelled.items none a,
      ),
    )
