use Rattle.std.proofs.Common.{◌≡◌, ℕ, Option, Some, None, [], ◌∷◌, ◌++◌, true, false, refl, ap, ◌∙◌}
use Rattle.exceptions.specs.Exceptions.{Label}
use Rattle.cancel_scopes.specs.Tree.{outer_of}
use Rattle.task_machine.specs.Entered.{a_scope_at}
use Rattle.task_machine.specs.declared.world.World.{World}
use Rattle.task_machine.specs.Worlds.{label_at, event_at}
use Rattle.task_machine.proofs.Enters.{enters_at, scope_entry}
use Rattle.task_machine.proofs.OwnLemmas.{last_pushed}
use Rattle.task_machine.proofs.task.Task.enter.Goals as goal

pub returns-clause-at : goal.returns-clause-at
returns-clause-at c =
    let world = c.args.world.now in
    let entered = c.in_ok-id.ensures in
    λ cancelled_from ps named a.
    enters_at (label_at world) (label_at c.enter.new.self) (event_at world) (event_at c.enter.new.self) world.scopes c.enter.new.self.scopes _ _
    c.in_ok-id.id (a_scope_at c.args.label c.args.shield) c.args.deadline c.stacks_are_chains.ensures.chain entered.fresh
    (entered.opened ∙ ap (λ (s : Option ℕ). Some (record { label = c.in_ok-id.id; shield = c.args.shield; from = c.args.deadline }
    ∷ outer_of world.scopes s)) c.scope.ensures)
    entered.label entered.no_event (scope_entry c.args.label c.args.shield c.args.deadline)
    (last_pushed _ _ _ _ c.in_ok-push-2.ensures.items) cancelled_from ps named a

pub returns-clause-inner : goal.returns-clause-inner
returns-clause-inner c = last_pushed _ _ _ _ c.in_ok-push-2.ensures.items

pub returns-clause-own : goal.returns-clause-own
returns-clause-own c =
    let world = c.args.world.now in
    let entered = c.in_ok-id.ensures in
    record {
      scope = record { id = c.in_ok-id.id; at = c.len-at.result };
      opened = c.in_ok-push-2.ensures.items;
      index = (let e = c.len-at.ensures in let f = c.args.self.now.cancelled_from.ok in cc);
      cancelled_from = c.in_ok-push.ensures.items ∙ ap (λ (l : Label). c.args.self.now.cancelled_from.items ++ record { label = l; seen = None } ∷ []) c.in_ok-kept.ensures;
      fresh = entered.fresh;
      level = record { label = c.in_ok-id.id; shield = c.args.shield; from = c.args.deadline };
      stack = entered.opened ∙ ap (λ (s : Option ℕ). Some (record { label = c.in_ok-id.id; shield = c.args.shield; from = c.args.deadline }
          ∷ outer_of world.scopes s)) c.scope.ensures;
      named = refl;
      from = refl;
      others = entered.others;
      marks = c.enter.ensures.marks;
      labelled = entered.label;
      kind = entered.no_event;
      set = ap (λ (w : World). w.set.items) c.enter.ensures.rest;
      undated = λ e. absurd (let f : false ≡ true = e in cc);
    }
