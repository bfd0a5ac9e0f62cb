use Rattle.std.proofs.Common.{◌≡◌, ◌<◌, Some, List, ◌∷◌, length, refl, ap, sym, ◌∙◌, subst}
use Rattle.task_machine.specs.Tasks.{home_scope}
use Rattle.task_machine.specs.Worlds.{label_at, event_at}
use Rattle.task_machine.specs.Stacked.{AreAt}
use Rattle.task_machine.proofs.Stacked.{one_of, catches_for}
use Rattle.std.proofs.lemmas.Option.{slice_get-get_or}
use Rattle.std.specs.List.{All}
use Rattle.task_machine.specs.declared.entry.ScopeFrom.{ScopeFrom}
use Rattle.task_machine.specs.declared.task.Own.{Own}
use Rattle.task_machine.specs.declared.world.World.{World}
use Rattle.task_machine.proofs.OwnLemmas.{last_pushed}
use Rattle.task_machine.proofs.Leaves.{last_below, Top, top_of, first_after, places_after, left_from}
use Rattle.task_machine.proofs.task.Task.leave.Goals as goal

pub catches-catches-requires : goal.catches-catches-requires
catches-catches-requires c = c.requires.«open» c.in-Some.own.id (last_pushed _ _ _ _ c.in-Some.ensures.items)

pub leave-label-requires-clause-id : goal.leave-label-requires-clause-id
leave-label-requires-clause-id c = c.requires.«open» c.in-Some.own.id (last_pushed _ _ _ _ c.in-Some.ensures.items)

pub leave-label-requires-clause-innermost : goal.leave-label-requires-clause-innermost
leave-label-requires-clause-innermost c = c.requires.innermost c.in-Some.own.id (last_pushed _ _ _ _ c.in-Some.ensures.items)

pub leave-label-requires-clause-label : goal.leave-label-requires-clause-label
leave-label-requires-clause-label c = c.requires.labelled c.in-Some.own.id (last_pushed _ _ _ _ c.in-Some.ensures.items)

pub returns-clause-left : goal.returns-clause-left
returns-clause-left c =
    let cancelled_from = c.args.self.now.cancelled_from.items in
    let at = c.in-Some.own.at in
    let below = last_below (length cancelled_from) c.pop.new.self.items c.in-Some.own
    (subst (λ (own : List Own). All (λ (o : Own). o.at < length cancelled_from) own) c.in-Some.ensures.items c.requires.cancelled_from) in
    record {
      scope = c.in-Some.own;
      taken = c.in-Some.ensures.items;
      innermost = c.requires.innermost c.in-Some.own.id (last_pushed _ _ _ _ c.in-Some.ensures.items);
      from = c.leave-label.result.1;
      seen = c.leave-label.ensures.from;
      entry = c.index_mut.result.now;
      was = slice_get-get_or cancelled_from at c.index_mut.result.now below ∙ ap (λ (f : ScopeFrom). Some f) (sym c.index_mut.ensures.value);
      cancelled_from = refl;
      closed = c.leave-label.ensures.closed;
      others = c.leave-label.ensures.others;
      marks = c.leave-label.ensures.marks;
      unlabelled = c.leave-label.ensures.taken;
      no_event = c.leave-label.ensures.no_event;
      set = ap (λ (w : World). w.set.items) c.leave-label.ensures.rest;
    }

pub returns-clause-own : goal.returns-clause-own
returns-clause-own c =
    let self = c.args.self.now in
    let last = last_pushed (home_scope self) _ _ _ c.in-Some.ensures.items in
    first_after c.args.world.now.scopes c.leave-label.new.self.scopes (home_scope self) c.pop.new.self.items c.in-Some.own
    c.leave-label.ensures.others
    (top_of c.args.world.now.scopes c.stacks_are_chains.ensures.chain c.stacks_are_chains.ensures.own (home_scope self) self.own.items
    c.pop.new.self.items c.in-Some.own
    c.in-Some.ensures.items (c.requires.«open» c.in-Some.own.id last) c.requires.own last)

pub returns-clause-at : goal.returns-clause-at
returns-clause-at c =
    let self = c.args.self.now in
    let world = c.args.world.now in
    let last = last_pushed (home_scope self) _ _ _ c.in-Some.ensures.items in
    let top : Top world.scopes (home_scope self) c.pop.new.self.items c.in-Some.own =
    top_of world.scopes c.stacks_are_chains.ensures.chain c.stacks_are_chains.ensures.own (home_scope self) self.own.items
    c.pop.new.self.items c.in-Some.own
    c.in-Some.ensures.items (c.requires.«open» c.in-Some.own.id last) c.requires.own last in
    λ cancelled_from p ps a.
    let at : AreAt (label_at world) (event_at world) cancelled_from (top.level ∷ top.following) (p ∷ ps) =
    left_from (label_at world) (event_at world) cancelled_from world.scopes (home_scope self) _ c.pop.new.self.items c.in-Some.own p ps top last a in
    let named : top.level.label ≡ c.in-Some.own.id =
    one_of _ _ (c.stacks_are_chains.ensures.own c.in-Some.own.id (top.level ∷ top.following) top.at) in
    record {
      label = one_of _ _ (sym c.leave-label.ensures.label ∙ ap (label_at world) (sym named) ∙ at.0);
      caught = λ scope.
          c.catches-catches.ensures (top.level ∷ top.following) top.at
          ∙ catches_for (label_at world) (event_at world) self.cancelled.items cancelled_from top.level top.following p ps world.tick scope at;
      around =
          places_after (label_at world) (label_at c.leave-label.new.self) (event_at world) (event_at c.leave-label.new.self) world.scopes
          c.leave-label.new.self.scopes (home_scope self) c.pop.new.self.items c.in-Some.own c.stacks_are_chains.ensures.chain
          c.leave-label.ensures.others c.leave-label.ensures.taken c.leave-label.ensures.no_event top cancelled_from ps at.3;
    }
