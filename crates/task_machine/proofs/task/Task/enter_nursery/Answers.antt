use Rattle.std.proofs.Common.{◌≡◌, ℕ, Option, Some, List, [], ◌∷◌, ◌++◌, append_assoc, ap, sym, ◌∙◌, subst}
use Rattle.exceptions.specs.Exceptions.{Label}
use Rattle.cancel_scopes.specs.Sight.{Tick}
use Rattle.cancel_scopes.specs.Tree.{outer_of}
use Rattle.job_meaning.specs.Moments.{due}
use Rattle.job_meaning.specs.declared.clock.Clock.{Clock}
use Rattle.turn_semantics.specs.Midway.{Place}
use Rattle.turn_semantics.specs.Steps.{cancelled_from_after_entry}
use Rattle.task_machine.specs.Stacked.{AreAt}
use Rattle.task_machine.specs.Worlds.{label_at, event_at}
use Rattle.nursery_book.specs.Nursery.{new_nursery as opens}
use Rattle.nursery_book.specs.Book.{nursery_at, Updates}
use Rattle.nursery_book.specs.declared.book.NurseryBook.{NurseryBook}
use Rattle.task_machine.specs.declared.frame.Frame.{Frame}
use Rattle.task_machine.specs.declared.frame.Frame.TheVariants.{Nursery, Steps}
use Rattle.task_machine.specs.declared.task.Task.{Task}
use Rattle.task_machine.specs.declared.world.World.{World}
use Rattle.task_machine.specs.Entered.{EntersAt, a_scope_at, label_in}
use Rattle.task_machine.specs.States.{state_of}
use Rattle.task_machine.specs.Tasks.{scope_of}
use Rattle.task_machine.proofs.task.Task.enter_nursery.Goals as goal

pub returns-clause-nursery : goal.returns-clause-nursery
returns-clause-nursery c =
    let book : c.enter.new.world.book ≡ c.args.world.now.book = ap (λ (w : World). w.book) c.in_ok-scope.ensures.world in
    let label : Label = label_in c.args.self.now c.args.name in
    record {
      id = c.in_ok-id.id;
      scope = c.in_ok-scope.scope;
      inner = ap scope_of c.in_ok-push-2.ensures.stays ∙ ap scope_of c.in_ok-push.ensures.stays ∙ c.in_ok-scope.ensures.inner;
      fresh = sym (ap (λ (b : NurseryBook). nursery_at b c.in_ok-id.id) book) ∙ c.in_ok-id.ensures.fresh;
      stands =
          subst (λ (b : NurseryBook). Updates b c.open.new.self c.in_ok-id.id (Some (opens c.in_ok-scope.scope c.args.me label))) book
          (subst (λ (l : Label). Updates c.enter.new.world.book c.open.new.self c.in_ok-id.id
          (Some (opens c.in_ok-scope.scope c.args.me l)))
          c.in_ok-label.ensures c.in_ok-id.ensures.opened);
      frames =
          record {
            top = Steps c.as_slice.result;
            block = c.as_slice.ensures;
            frames =
                c.in_ok-push-2.ensures.items ∙ ap (λ (fs : List Frame). fs ++ Steps c.as_slice.result ∷ [])
                (c.in_ok-push.ensures.items ∙ ap (λ (t : Task). t.frames.items ++ Nursery c.in_ok-id.id ∷ [])
                c.in_ok-scope.ensures.stays)
                ∙ append_assoc c.args.self.now.frames.items (Nursery c.in_ok-id.id ∷ []) (Steps c.as_slice.result ∷ []);
          };
    }

pub returns-clause-at : goal.returns-clause-at
returns-clause-at c =
    let scopes = c.enter.new.world.scopes in
    let labels = label_at c.enter.new.world in
    let label : Label = label_in c.args.self.now c.args.name in
    let events = event_at c.enter.new.world in
    let index : Place = a_scope_at label c.args.shield in
    let scope : scope_of c.push-2.new.self ≡ scope_of c.enter.new.self =
    ap scope_of c.in_ok-push-2.ensures.stays ∙ ap scope_of c.in_ok-push.ensures.stays in
    let world = c.args.world.now in
    let deadline : c.due-until.result ≡ due world.clock c.args.deadline world.tick =
    c.due-until.ensures.due ∙ ap (λ (k : Clock). due k c.args.deadline c.now.result) c.clock.ensures
    ∙ ap (λ (t : ℕ). due world.clock c.args.deadline t) c.now.ensures in
    let entered =
    subst (λ (l : Label). EntersAt (state_of c.args.self.now c.args.world.now) (state_of c.enter.new.self c.enter.new.world)
    (a_scope_at l c.args.shield) c.due-until.result) (c.in_ok-kept.ensures ∙ c.in_ok-label.ensures) c.in_ok-scope.ensures.at in
    λ cancelled_from ps new at.
    subst (λ (s : Option ℕ). AreAt labels events (cancelled_from_after_entry cancelled_from label (due world.clock c.args.deadline world.tick)) (outer_of scopes s)
    (index ∷ ps)) (sym scope)
    (subst (λ (d : Tick). AreAt labels events (cancelled_from_after_entry cancelled_from label d) (outer_of scopes (scope_of c.enter.new.self)) (index ∷ ps)) deadline
    (entered cancelled_from ps new at))
