use Rattle.std.proofs.Common.{[], refl, ap, ◌∙◌, sym, subst, arith}
use Rattle.job_tree.specs.Blocks.{step_of}
use Rattle.job_tree.specs.InRange.{IsInRangeStep}
use Rattle.job_tree.specs.Starting.{StartsAt}
use Rattle.job_tree.specs.declared.step.Step.{Step}
use Rattle.turn_semantics.specs.Bound.{step_length}
use Rattle.turn_semantics.specs.Placed.{in_body}
use Rattle.task_machine.specs.declared.frame.Frame.TheVariants.{Scope, Event, Nursery}
use Rattle.task_machine.specs.declared.task.Task.{Task}
use Rattle.task_machine.specs.declared.world.World.{World}
use Rattle.task_machine.specs.Entered.{label_in}
use Rattle.task_machine.specs.Frames.{frames_of}
use Rattle.task_machine.specs.States.{state_of}
use Rattle.task_machine.proofs.AdvancesSteps.{takes_scope, takes_nursery, takes_event, takes_object, takes_repeat, takes_attempt}
use Rattle.task_machine.proofs.Children.{takes_children}
use Rattle.task_machine.proofs.TaskFits.{scope_fits, nursery_fits, block_length, repeat_fits, repeat_length}
use Rattle.task_machine.proofs.Waiters.{same_book, opened_none, opened_one, started_waiters, keeps_entered, keeps_opened}
use Rattle.task_machine.proofs.task.Task.run_block.Goals as goal

pub returns-in_ok-enter_scope-in-Scope-clause-fits : goal.returns-in_ok-enter_scope-in-Scope-clause-fits
returns-in_ok-enter_scope-in-Scope-clause-fits c =
    let laws = c.stacks_are_chains.ensures in
    let e = c.in_ok-enter_scope-in-Scope.ensures in
    let in_range = subst (λ (s : Step). IsInRangeStep (step_of s)) c.in-Scope.is c.requires.in_range in
    let starts = subst (λ (s : Step). StartsAt (in_body (frames_of (λ id. []) c.args.self.now.frames.items)) (step_of s))
    c.in-Scope.is c.requires.starts in
    scope_fits (Scope c.in-Scope.fail) tt c.in-Scope.body (label_in c.args.self.now c.in-Scope.name) (state_of c.args.self.now c.args.world.now)
    (state_of c.enter_scope.new.self c.enter_scope.new.world) (record { chain = laws.chain; own = laws.own; apart = laws.apart }) c.requires.fits e.own e.frames in_range.1 starts
    (ap (λ (w : World). w.book) e.world) (ap (λ (t : Task). t.part) e.stays) (ap (λ (t : Task). t.home) e.stays)

pub returns-in_ok-enter_scope-in-Scope-clause-length : goal.returns-in_ok-enter_scope-in-Scope-clause-length
returns-in_ok-enter_scope-in-Scope-clause-length c =
    let e = block_length c.args.self.now.frames.items c.enter_scope.new.self.frames.items (Scope c.in-Scope.fail) c.in-Scope.body
    c.in_ok-enter_scope-in-Scope.ensures.frames in
    let f = ap (λ (s : Step). step_length (step_of s)) c.in-Scope.is in
    omega (arith, e, f)

pub returns-in_ok-enter_scope-in-Scope-clause-step : goal.returns-in_ok-enter_scope-in-Scope-clause-step
returns-in_ok-enter_scope-in-Scope-clause-step c = λ a.
    let e = c.in_ok-enter_scope-in-Scope.ensures in
    takes_scope (state_of c.args.self.now c.args.world.now) c.args.step.now a (state_of c.enter_scope.new.self c.enter_scope.new.world) c.in-Scope.name c.in-Scope.deadline
    c.in-Scope.shield c.in-Scope.body (ap (λ (w : World). w.started.items) e.world) (ap (λ (t : Task). t.entries.items) e.stays)
    (ap (λ (t : Task). t.cancelled.items) e.stays) (ap (λ (w : World). w.acts.items) e.world) e.at e.own
    c.in-Scope.fail c.in-Scope.is (ap (λ (w : World). w.book) e.world) e.frames

pub returns-in_ok-enter_scope-in-Scope-clause-keeps : goal.returns-in_ok-enter_scope-in-Scope-clause-keeps
returns-in_ok-enter_scope-in-Scope-clause-keeps c =
    let e = c.in_ok-enter_scope-in-Scope.ensures in
    keeps_entered c.args.me c.args.self.now c.enter_scope.new.self c.args.world.now c.enter_scope.new.world e.stays
    (e.world ∙ ap (λ (w : World). record c.args.world.now {
      scopes = c.enter_scope.new.world.scopes;
      labels = c.enter_scope.new.world.labels;
      events = c.enter_scope.new.world.events;
      book = w.book;
    }) (sym e.world)) c.requires.task_state
    (opened_none c.args.me c.args.world.now.book c.enter_scope.new.world.book (same_book _ _ (ap (λ (w : World). w.book) e.world)))

pub returns-in_ok-enter_nursery-in-Nursery-clause-fits : goal.returns-in_ok-enter_nursery-in-Nursery-clause-fits
returns-in_ok-enter_nursery-in-Nursery-clause-fits c =
    let laws = c.stacks_are_chains.ensures in
    let e = c.in_ok-enter_nursery-in-Nursery.ensures in
    let in_range = subst (λ (s : Step). IsInRangeStep (step_of s)) c.in-Nursery.is c.requires.in_range in
    let starts = subst (λ (s : Step). StartsAt (in_body (frames_of (λ id. []) c.args.self.now.frames.items)) (step_of s))
    c.in-Nursery.is c.requires.starts in
    nursery_fits c.args.me c.in-Nursery.body (label_in c.args.self.now c.in-Nursery.name) (state_of c.args.self.now c.args.world.now)
    (state_of c.enter_nursery.new.self c.enter_nursery.new.world) (record { chain = laws.chain; own = laws.own; apart = laws.apart }) c.requires.fits e.own e.nursery in_range.1 starts
    (ap (λ (t : Task). t.part) e.stays) (ap (λ (t : Task). t.home) e.stays)

pub returns-in_ok-enter_nursery-in-Nursery-clause-length : goal.returns-in_ok-enter_nursery-in-Nursery-clause-length
returns-in_ok-enter_nursery-in-Nursery-clause-length c =
    let n = c.in_ok-enter_nursery-in-Nursery.ensures.nursery in
    let e = block_length c.args.self.now.frames.items c.enter_nursery.new.self.frames.items (Nursery n.id) c.in-Nursery.body n.frames in
    let f = ap (λ (s : Step). step_length (step_of s)) c.in-Nursery.is in
    omega (arith, e, f)

pub returns-in_ok-enter_nursery-in-Nursery-clause-step : goal.returns-in_ok-enter_nursery-in-Nursery-clause-step
returns-in_ok-enter_nursery-in-Nursery-clause-step c = λ a.
    let e = c.in_ok-enter_nursery-in-Nursery.ensures in
    takes_nursery (state_of c.args.self.now c.args.world.now) c.args.step.now a (state_of c.enter_nursery.new.self c.enter_nursery.new.world) c.in-Nursery.name
    c.in-Nursery.deadline c.in-Nursery.shield c.in-Nursery.body (ap (λ (w : World). w.started.items) e.world)
    (ap (λ (t : Task). t.entries.items) e.stays)
    (ap (λ (t : Task). t.cancelled.items) e.stays) (ap (λ (w : World). w.acts.items) e.world) e.at e.own c.args.me c.in-Nursery.is e.nursery

pub returns-in_ok-enter_nursery-in-Nursery-clause-keeps : goal.returns-in_ok-enter_nursery-in-Nursery-clause-keeps
returns-in_ok-enter_nursery-in-Nursery-clause-keeps c =
    let e = c.in_ok-enter_nursery-in-Nursery.ensures in
    keeps_entered c.args.me c.args.self.now c.enter_nursery.new.self c.args.world.now c.enter_nursery.new.world e.stays e.world
    c.requires.task_state (opened_one c.args.me (state_of c.args.self.now c.args.world.now) (state_of c.enter_nursery.new.self c.enter_nursery.new.world) _ _ e.nursery)

pub returns-in_ok-enter_event-in-Event-clause-fits : goal.returns-in_ok-enter_event-in-Event-clause-fits
returns-in_ok-enter_event-in-Event-clause-fits c =
    let laws = c.stacks_are_chains.ensures in
    let e = c.in_ok-enter_event-in-Event.ensures in
    let in_range = subst (λ (s : Step). IsInRangeStep (step_of s)) c.in-Event.is c.requires.in_range in
    let starts = subst (λ (s : Step). StartsAt (in_body (frames_of (λ id. []) c.args.self.now.frames.items)) (step_of s))
    c.in-Event.is c.requires.starts in
    scope_fits Event tt c.in-Event.body (label_in c.args.self.now c.in-Event.name) (state_of c.args.self.now c.args.world.now)
    (state_of c.enter_event.new.self c.enter_event.new.world) (record { chain = laws.chain; own = laws.own; apart = laws.apart })
    c.requires.fits e.own e.frames in_range starts
    (ap (λ (w : World). w.book) e.world) (ap (λ (t : Task). t.part) e.stays) (ap (λ (t : Task). t.home) e.stays)

pub returns-in_ok-enter_event-in-Event-clause-length : goal.returns-in_ok-enter_event-in-Event-clause-length
returns-in_ok-enter_event-in-Event-clause-length c =
    let e = block_length c.args.self.now.frames.items c.enter_event.new.self.frames.items Event c.in-Event.body
    c.in_ok-enter_event-in-Event.ensures.frames in
    let f = ap (λ (s : Step). step_length (step_of s)) c.in-Event.is in
    omega (arith, e, f)

pub returns-in_ok-enter_event-in-Event-clause-step : goal.returns-in_ok-enter_event-in-Event-clause-step
returns-in_ok-enter_event-in-Event-clause-step c = λ a.
    let e = c.in_ok-enter_event-in-Event.ensures in
    takes_event (state_of c.args.self.now c.args.world.now) c.args.step.now a (state_of c.enter_event.new.self c.enter_event.new.world)
    c.in-Event.name c.in-Event.body c.in-Event.is (ap (λ (w : World). w.started.items) e.world) (ap (λ (t : Task). t.entries.items) e.stays)
    (ap (λ (t : Task). t.cancelled.items) e.stays) (ap (λ (w : World). w.acts.items) e.world) (ap (λ (w : World). w.book) e.world) e.at e.own
    e.frames

pub returns-in_ok-enter_event-in-Event-clause-keeps : goal.returns-in_ok-enter_event-in-Event-clause-keeps
returns-in_ok-enter_event-in-Event-clause-keeps c =
    let e = c.in_ok-enter_event-in-Event.ensures in
    keeps_entered c.args.me c.args.self.now c.enter_event.new.self c.args.world.now c.enter_event.new.world e.stays
    (e.world ∙ ap (λ (w : World). record c.args.world.now {
      scopes = c.enter_event.new.world.scopes;
      labels = c.enter_event.new.world.labels;
      events = c.enter_event.new.world.events;
      book = w.book;
    }) (sym e.world)) c.requires.task_state
    (opened_none c.args.me c.args.world.now.book c.enter_event.new.world.book (same_book _ _ (ap (λ (w : World). w.book) e.world)))

pub returns-in_ok-enter_object-in-Object-clause-fits : goal.returns-in_ok-enter_object-in-Object-clause-fits
returns-in_ok-enter_object-in-Object-clause-fits c =
    let laws = c.stacks_are_chains.ensures in
    let e = c.in_ok-enter_object-in-Object.ensures in
    let in_range = subst (λ (s : Step). IsInRangeStep (step_of s)) c.in-Object.is c.requires.in_range in
    let starts = subst (λ (s : Step). StartsAt (in_body (frames_of (λ id. []) c.args.self.now.frames.items)) (step_of s))
    c.in-Object.is c.requires.starts in
    scope_fits Event tt c.in-Object.body (label_in c.args.self.now c.in-Object.name) (state_of c.args.self.now c.args.world.now)
    (state_of c.enter_object.new.self c.enter_object.new.world) (record { chain = laws.chain; own = laws.own; apart = laws.apart })
    c.requires.fits e.own e.frames in_range.1 starts
    (ap (λ (w : World). w.book) e.world) (ap (λ (t : Task). t.part) e.stays) (ap (λ (t : Task). t.home) e.stays)

pub returns-in_ok-enter_object-in-Object-clause-length : goal.returns-in_ok-enter_object-in-Object-clause-length
returns-in_ok-enter_object-in-Object-clause-length c =
    let e = block_length c.args.self.now.frames.items c.enter_object.new.self.frames.items Event c.in-Object.body
    c.in_ok-enter_object-in-Object.ensures.frames in
    let f = ap (λ (s : Step). step_length (step_of s)) c.in-Object.is in
    omega (arith, e, f)

pub returns-in_ok-enter_object-in-Object-clause-step : goal.returns-in_ok-enter_object-in-Object-clause-step
returns-in_ok-enter_object-in-Object-clause-step c = λ a.
    let e = c.in_ok-enter_object-in-Object.ensures in
    takes_object (state_of c.args.self.now c.args.world.now) c.args.step.now a (state_of c.enter_object.new.self c.enter_object.new.world)
    c.in-Object.name c.in-Object.kind c.in-Object.body c.in-Object.is (ap (λ (w : World). w.started.items) e.world)
    (ap (λ (t : Task). t.entries.items) e.stays) (ap (λ (t : Task). t.cancelled.items) e.stays) (ap (λ (w : World). w.book) e.world) e.opened
    e.at e.own e.frames

pub returns-in_ok-enter_object-in-Object-clause-keeps : goal.returns-in_ok-enter_object-in-Object-clause-keeps
returns-in_ok-enter_object-in-Object-clause-keeps c =
    let e = c.in_ok-enter_object-in-Object.ensures in
    keeps_opened c.args.me c.args.self.now c.enter_object.new.self c.args.world.now c.enter_object.new.world e.stays e.world c.requires.task_state

pub returns-in_ok-begin_children-in-Start-clause-step : goal.returns-in_ok-begin_children-in-Start-clause-step
returns-in_ok-begin_children-in-Start-clause-step c = λ a.
    let e = c.in_ok-begin_children-in-Start.ensures in
    takes_children (state_of c.args.self.now c.args.world.now) (state_of c.args.self.now c.begin_children.new.world) c.args.step.now c.in-Start.name c.in-Start.over
    c.in-Start.body c.requires.fits a c.in-Start.is (ap (λ (w : World). state_of c.args.self.now w) e.rest) e.children
    (subst (λ (s : Step). IsInRangeStep (step_of s)) c.in-Start.is c.requires.in_range).1

pub returns-in_ok-begin_children-in-Start-clause-keeps : goal.returns-in_ok-begin_children-in-Start-clause-keeps
returns-in_ok-begin_children-in-Start-clause-keeps c =
    let e = c.in_ok-begin_children-in-Start.ensures in
    record {
      task = refl;
      world = e.rest ∙ ap (λ (w : World). record c.args.world.now {
        scopes = w.scopes;
        labels = w.labels;
        events = w.events;
        set = w.set;
        acts = w.acts;
        book = c.begin_children.new.world.book;
        started = c.begin_children.new.world.started;
      }) (sym e.rest);
      in_range = c.requires.task_state;
      waiters = opened_none c.args.me c.args.world.now.book c.begin_children.new.world.book
          (started_waiters (state_of c.args.self.now c.args.world.now) (state_of c.args.self.now c.begin_children.new.world) c.in-Start.name c.in-Start.over _ e.children);
    }

pub returns-in_ok-begin_passes-in-Repeat-clause-fits : goal.returns-in_ok-begin_passes-in-Repeat-clause-fits
returns-in_ok-begin_passes-in-Repeat-clause-fits c =
    let e = c.in_ok-begin_passes-in-Repeat.ensures in
    let in_range = subst (λ (s : Step). IsInRangeStep (step_of s)) c.in-Repeat.is c.requires.in_range in
    let starts = subst (λ (s : Step). StartsAt (in_body (frames_of (λ id. []) c.args.self.now.frames.items)) (step_of s))
    c.in-Repeat.is c.requires.starts in
    repeat_fits c.in-Repeat.count c.in-Repeat.over c.in-Repeat.body (state_of c.args.self.now c.args.world.now) (state_of c.begin_passes.new.self c.args.world.now) c.requires.fits
    in_range.0 in_range.1 starts e.blocks e.received (e.step (λ id. []) []) (ap (λ (t : Task). state_of t c.args.world.now) e.stays)

pub returns-in_ok-begin_passes-in-Repeat-clause-length : goal.returns-in_ok-begin_passes-in-Repeat-clause-length
returns-in_ok-begin_passes-in-Repeat-clause-length c =
    let e = repeat_length c.in-Repeat.count c.in-Repeat.over c.in-Repeat.body c.args.self.now.frames.items c.begin_passes.new.self.frames.items
    (c.in_ok-begin_passes-in-Repeat.ensures.step (λ id. []) []) in
    let f = ap (λ (s : Step). step_length (step_of s)) c.in-Repeat.is in
    omega (arith, e, f)

pub returns-in_ok-begin_passes-in-Repeat-clause-step : goal.returns-in_ok-begin_passes-in-Repeat-clause-step
returns-in_ok-begin_passes-in-Repeat-clause-step c = λ a.
    let e = c.in_ok-begin_passes-in-Repeat.ensures in
    takes_repeat (state_of c.args.self.now c.args.world.now) c.args.step.now a (state_of c.begin_passes.new.self c.args.world.now) c.in-Repeat.count c.in-Repeat.over c.in-Repeat.body
    c.in-Repeat.is (ap (λ (t : Task). state_of t c.args.world.now) e.stays) e.blocks e.step

pub returns-in_ok-begin_try-in-Try-clause-step : goal.returns-in_ok-begin_try-in-Try-clause-step
returns-in_ok-begin_try-in-Try-clause-step c = λ a.
    let e = c.in_ok-begin_try-in-Try.ensures in
    takes_attempt (state_of c.args.self.now c.args.world.now) c.args.step.now a (state_of c.begin_try.new.self c.args.world.now) c.in-Try.body c.in-Try.handler c.in-Try.cleanup
    c.in-Try.is (ap (λ (t : Task). state_of t c.args.world.now) e.stays) e.frames
