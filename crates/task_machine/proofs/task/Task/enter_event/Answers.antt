use Rattle.std.proofs.Common.{ℕ, Option, Some, None, List, [], ◌∷◌, ◌++◌, false, append_assoc, refl, ap, ◌∙◌, subst}
use Rattle.exceptions.specs.Exceptions.{Label}
use Rattle.cancel_scopes.specs.Tree.{outer_of}
use Rattle.task_machine.specs.declared.frame.Frame.{Frame}
use Rattle.task_machine.specs.declared.frame.Frame.TheVariants.{Event, Steps}
use Rattle.task_machine.specs.declared.task.Task.{Task}
use Rattle.task_machine.specs.declared.world.World.{World}
use Rattle.task_machine.specs.Entered.{an_event_at, label_in}
use Rattle.task_machine.specs.Labels.{Updates}
use Rattle.task_machine.specs.Tasks.{scope_of}
use Rattle.task_machine.specs.Worlds.{label_at, event_at}
use Rattle.task_machine.proofs.Enters.{enters_at, event_entry}
use Rattle.task_machine.proofs.OwnLemmas.{last_pushed}
use Rattle.task_machine.proofs.task.Task.enter_event.Goals as goal

pub returns-clause-at : goal.returns-clause-at
returns-clause-at c =
    let world = c.args.world.now in
    let entered = c.in_ok-id.ensures in
    let label : Label = label_in c.args.self.now c.args.name in
    λ cancelled_from ps named a.
    enters_at (label_at world) (label_at c.enter_event.new.self) (event_at world) (event_at c.enter_event.new.self) world.scopes
    c.enter_event.new.self.scopes _ _ c.in_ok-id.id (an_event_at label) None c.stacks_are_chains.ensures.chain entered.fresh
    (entered.opened ∙ ap (λ (s : Option ℕ). Some (record { label = c.in_ok-id.id; shield = false; from = None } ∷ outer_of world.scopes s))
    c.scope.ensures)
    (subst (λ (l : Label). Updates (label_at world) (label_at c.enter_event.new.self) c.in_ok-id.id (Some l)) c.in_ok-label.ensures entered.label)
    entered.event (event_entry label)
    (ap scope_of c.in_ok-push-4.ensures.stays ∙ ap scope_of c.in_ok-push-3.ensures.stays
    ∙ last_pushed _ _ _ _ c.in_ok-push-2.ensures.items) cancelled_from ps named a

pub returns-clause-own : goal.returns-clause-own
returns-clause-own c =
    let world = c.args.world.now in
    let entered = c.in_ok-id.ensures in
    let label : Label = label_in c.args.self.now c.args.name in
    record {
      scope = record { id = c.in_ok-id.id; at = c.len-at.result };
      opened = ap (λ (t : Task). t.own.items) c.in_ok-push-4.ensures.stays ∙ ap (λ (t : Task). t.own.items) c.in_ok-push-3.ensures.stays ∙ c.in_ok-push-2.ensures.items;
      index = (let e = c.len-at.ensures in let f = c.args.self.now.cancelled_from.ok in cc);
      cancelled_from =
          ap (λ (t : Task). t.cancelled_from.items) c.in_ok-push-4.ensures.stays ∙ ap (λ (t : Task). t.cancelled_from.items) c.in_ok-push-3.ensures.stays
          ∙ c.in_ok-push.ensures.items
          ∙ ap (λ (l : Label). c.args.self.now.cancelled_from.items ++ record { label = l; seen = None } ∷ [])
          (c.in_ok-kept.ensures ∙ c.in_ok-label.ensures);
      fresh = entered.fresh;
      level = record { label = c.in_ok-id.id; shield = false; from = None };
      stack = entered.opened ∙ ap (λ (s : Option ℕ). Some (record { label = c.in_ok-id.id; shield = false; from = None }
          ∷ outer_of world.scopes s)) c.scope.ensures;
      named = refl;
      from = refl;
      others = entered.others;
      marks = c.enter_event.ensures.marks;
      labelled =
          subst (λ (l : Label). Updates (label_at world) (label_at c.enter_event.new.self) c.in_ok-id.id (Some l)) c.in_ok-label.ensures
          entered.label;
      kind = entered.event;
      set = ap (λ (w : World). w.set.items) c.enter_event.ensures.rest;
      undated = λ e. refl;
    }

pub returns-clause-frames : goal.returns-clause-frames
returns-clause-frames c = record {
  top = Steps c.as_slice.result;
  block = c.as_slice.ensures;
  frames =
      c.in_ok-push-4.ensures.items ∙ ap (λ (fs : List Frame). fs ++ Steps c.as_slice.result ∷ [])
      c.in_ok-push-3.ensures.items
      ∙ append_assoc c.args.self.now.frames.items (Event ∷ []) (Steps c.as_slice.result ∷ []);
}
