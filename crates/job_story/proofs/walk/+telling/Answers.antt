use Rattle.std.proofs.Common.{◌≡◌, ℕ, Option, Some, None, List, [], ◌∷◌, ◌++◌, reverse, refl, add-one, drop, Bor, subst, sym, ap, ◌∙◌, arith}
use Rattle.std.specs.Prelude.{IfOk}
use Rattle.std.specs.Option.{option_copied, option_map}
use Rattle.std.specs.Global.{Vec}
use Rattle.std.proofs.lemmas.List.{drop_all}
use Rattle.input_lines.specs.Lines.{Range}
use Rattle.input_lines.specs.Part.{range_of}
use Rattle.exceptions.specs.Exceptions.{Label, Exc, raised}
use Rattle.exceptions.specs.Held.{exc_of}
use Rattle.job_tree.specs.declared.object.Ask.TheVariants.{Send, Receive}
use Rattle.job_tree.specs.declared.step.Step.{Step}
use Rattle.job_tree.specs.Tree.{Steps}
use Rattle.job_tree.specs.Blocks.{step_of, steps_of, handled_of}
use Rattle.job_tree.specs.Names.{size_of, size_in}
use Rattle.job_tree.proofs.Weights.{weight_at}
use Rattle.cancel_scopes.specs.Sight.{sight, seen}
use Rattle.job_meaning.specs.GrantTable.{granted_of}
use Rattle.job_meaning.specs.Moments.{Now, only_at, tick_of}
use Rattle.job_meaning.specs.Walk.{stack_inside, stack_for, last_grant, leaves_queue, home_of, label_over}
use Rattle.block_exits.specs.Held.{kind_of}
use Rattle.job_story.specs.Held.{asked_of, unboxed_exc}
use Rattle.job_story.specs.Story.{Tale, enters, enters_event, enters_object, finds_closed, handles, cleans}
use Rattle.job_story.specs.Tell.{now_of, failed_at, story_of_one, tell, tell_block, tell_each, replacement}
use Rattle.job_story.specs.declared.block.Block.{Block}
use Rattle.job_story.specs.declared.stack.Level.{Level}
use Rattle.job_story.specs.Stacks.{level_of}
use Rattle.job_story.specs.Heres.{CanWalk, block_of_ask, grants_of, table_of, tables_of, scene_of, scene_in, scopes_of, stack_of, here_of, label_in, inside, inside_event, started_tale, started_over}
use Rattle.job_story.specs.Tales.{Tells, now_in}
use Rattle.job_story.proofs.Adding.{adds_like, adds_nothing}
use Rattle.job_story.proofs.Teller.{tells_joined}
use Rattle.job_story.proofs.Blocks.{tells_block, tells_event, tells_object, tells_child, tells_in, tells_on, tells_at, same_now}
use Rattle.job_story.proofs.Slept.{none_own}
use Rattle.job_story.proofs.Queued.{nobody_asked, unasked_told, asked_told, granted_in_time, room_left, got_told, told_before, with_token}
use Rattle.job_story.proofs.Trying.{not_raised, not_wanted, is_wanted, tells_handled, tells_cleaned}
use Rattle.job_story.proofs.Steps.{AtStep, at_start, at_item, at_failed, at_next, at_stop, room_step, ends_small, ends_handled, start_is, each_own}
use Rattle.job_story.proofs.Passing.{at_first, room_pass, pass_failed, pass_next, pass_stop}
use Rattle.job_story.proofs.walk.+telling.Goals as goal

pub tell_steps-steps-init : goal.tell_steps-steps-init
tell_steps-steps-init t c = at_start _ _ _ _ _ c.at-stretch.ensures c.requires.in_range c.requires.room

pub tell_steps-tell_step-requires : goal.tell_steps-tell_step-requires
tell_steps-tell_step-requires t c =
    let at = at_item _ _ _ c.args.steps.now c.steps.step-index c.step-item.result _ _ _ c.steps.invariant c.steps-test.true c.step-item.is
    in
    let weight = weight_at c.args.steps.now c.steps.step-index c.step-item.result c.steps-test.true c.step-item.is in (
      omega (arith, weight, c.decreases),
      (
        at.in_range.0,
        subst (λ (u : ℕ). CanWalk (size_in (step_of c.step-item.result)) c.args.here u) (sym c.end.ensures) (room_step _ _ _ _ _ _ _ _ at),
      ),
    )

pub tell_steps-returns-then-has_failed : goal.tell_steps-returns-then-has_failed
tell_steps-returns-then-has_failed t c =
    let at = at_item _ _ _ c.args.steps.now c.steps.step-index c.step-item.result _ _ _ c.steps.invariant c.steps-test.true c.step-item.is
    in
    at_failed _ _ _ _ _ _ _ _ _ _ _ at _ c.end.ensures c.in_ok-next.ensures c.in_ok-stretch.ensures
    (sym c.has_failed.ensures ∙ c.if-has_failed.true)

pub tell_steps-steps-preserved : goal.tell_steps-steps-preserved
tell_steps-steps-preserved t c =
    let at = at_item _ _ _ c.args.steps.now c.steps.step-index c.step-item.result _ _ _ c.steps.invariant c.steps-test.true c.step-item.is
    in
    at_next _ _ _ _ _ _ _ _ _ _ _ at _ c.end.ensures c.in_ok-next.ensures c.in_ok-stretch.ensures
    (sym c.has_failed.ensures ∙ c.if-has_failed.false)

pub tell_steps-returns : goal.tell_steps-returns
tell_steps-returns t c =
    let done : drop c.steps.step-index c.args.steps.now ≡ [] = drop_all c.steps.step-index c.args.steps.now c.steps-test.false in
    at_stop _ _ _ _ _ _
    (subst (λ (ss : List Step). AtStep c.args.here (now_in c.args.moment c.args.progress.now) (steps_of c.args.steps.now)
    (steps_of ss) c.args.progress.now.events.items c.steps.stretch
    c.steps.progress) done c.steps.invariant)

pub tell_block-returns : goal.tell_block-returns
tell_block-returns t c =
    let here = c.args.here in
    let block = c.args.block.now in
    let kind = kind_of block.kind in
    let m = c.args.moment in
    let body = inside kind block.label block.shield c.args.body.now here (now_in m c.args.progress.now) in
    let entering = adds_like _ _ _ _ _ c.in_ok-note.ensures
    (ap (λ (l : Label). story_of_one m (enters kind l block.deadline block.shield)) c.in_ok-label.ensures) in
    tells_block here.clock here.task.now _ _ _ _ (table_of here) kind block.label m block.deadline block.shield (scopes_of here)
    body c.in_ok-inner.inner c.in_ok-stretch.stretch block.from c.requires.known entering c.in_ok-inner.ensures c.in_ok-stretch.ensures

pub tell_inside-wait-requires : goal.tell_inside-wait-requires
tell_inside-wait-requires t c =
    let here = c.args.here in
    let now = now_in c.args.moment c.args.progress.now in
    let body = tells_at _ _ _ c.in_ok-stretch.stretch _ _ c.args.body.now _ _ now now c.as_slice.ensures refl c.in_ok-stretch.ensures in
    let small = ends_small c.in_ok-stretch.stretch _ c.args.body.now _ _ now c.requires.in_range c.requires.room.small body.stretch in
    omega (arith, small, c.requires.room.room)

pub tell_inside-returns-in-Scope : goal.tell_inside-returns-in-Scope
tell_inside-returns-in-Scope t c =
    let here = c.args.here in
    let now = now_in c.args.moment c.args.progress.now in
    let body = tells_at _ _ _ c.in_ok-stretch.stretch _ _ c.args.body.now _ _ now now c.as_slice.ensures refl c.in_ok-stretch.ensures in
    rw c.in-Scope.is
    (subst (λ (l : Label). Tells here.task.now c.args.progress.now.events.items c.in_ok-stretch.stretch c.tell_steps.new.progress
    (tell (tables_of here) c.args.body.now (scene_of here) (stack_inside l c.args.block.now.shield c.args.block.now.from
    (stack_of here)) now))
    c.in_ok-copy.ensures body)

pub tell_inside-returns : goal.tell_inside-returns
tell_inside-returns t c =
    let here = c.args.here in
    let now = now_in c.args.moment c.args.progress.now in
    let body = tells_at _ _ _ c.in_ok-stretch.stretch _ _ c.args.body.now _ _ now now c.as_slice.ensures refl c.in_ok-stretch.ensures in
    let inner = subst (λ (l : Label). Tells here.task.now c.args.progress.now.events.items c.in_ok-stretch.stretch c.tell_steps.new.progress
    (tell (tables_of here) c.args.body.now (scene_of here) (stack_inside l c.args.block.now.shield c.args.block.now.from
    (stack_of here)) now))
    c.in_ok-copy.ensures body in
    rw c.in-Nursery.is (c.in_ok-stretch-in-Nursery.ensures _ _ inner)

pub tell_event-returns : goal.tell_event-returns
tell_event-returns t c =
    let here = c.args.here in
    let now = now_in c.args.moment c.args.progress.now in
    let label = label_in c.args.name.now here in
    let entering = adds_like _ _ _ _ _ c.in_ok-note.ensures
    (ap (λ (l : Label). story_of_one c.args.moment (enters_event l))
    (c.in_ok-label.ensures ∙ ap (λ (e : Level). e.label) c.in_ok-event.ensures)) in
    let body = tells_at _ _ _ c.in_ok-stretch.stretch _ _ c.args.body.now _ _ now now c.as_slice.ensures refl c.in_ok-stretch.ensures in
    let inner = subst (λ (e : Level). Tells here.task.now c.note.new.events.items c.in_ok-stretch.stretch c.tell_steps.new.progress
    (tell (tables_of here) c.args.body.now (scene_of here)
    (let outer = (stack_of here).events in record (stack_of here) { events = level_of e ∷ outer }) now)) c.in_ok-event.ensures body in
    tells_event here.task.now _ _ _ (table_of here) label c.args.moment (inside_event label c.args.body.now here now)
    c.in_ok-stretch.stretch entering inner

pub tell_object-returns : goal.tell_object-returns
tell_object-returns t c =
    let here = c.args.here in
    let now = now_in c.args.moment c.args.progress.now in
    let label = label_in c.args.name.now here in
    let entering = adds_like _ _ _ _ _ c.in_ok-note.ensures
    (ap (λ (l : Label). story_of_one c.args.moment (enters_object c.args.kind l))
    (c.in_ok-label.ensures ∙ ap (λ (e : Level). e.label) c.in_ok-object.ensures)) in
    let body = tells_at _ _ _ c.in_ok-stretch.stretch _ _ c.args.body.now _ _ now now c.as_slice.ensures refl c.in_ok-stretch.ensures in
    let inner = subst (λ (e : Level). Tells here.task.now c.note.new.events.items c.in_ok-stretch.stretch c.tell_steps.new.progress
    (tell (tables_of here) c.args.body.now (scene_of here)
    (let outer = (stack_of here).events in record (stack_of here) { events = level_of e ∷ outer }) now)) c.in_ok-object.ensures body in
    tells_object here.task.now _ _ _ (table_of here) c.args.kind label c.args.moment (inside_event label c.args.body.now here now)
    c.in_ok-stretch.stretch entering inner

pub tell_child-returns : goal.tell_child-returns
tell_child-returns t c =
    let here = c.args.here in
    let home = home_of (scopes_of here) in
    let scene = scene_in c.args.label (range_of c.args.part) here in
    let now = now_in c.args.moment c.args.progress.now in
    let inner = subst (λ (x : Now). Tells c.args.label c.note_start.new.events.items c.in_ok-stretch.stretch c.tell_steps.new.progress
    (tell (tables_of here) (steps_of c.args.steps.now) scene (stack_of here) x))
    (same_now c.args.begins c.replace-own.new.dest.items c.args.begins [] refl
    (none_own c.replace-own.new.dest.items (ap (λ (v : Vec Label). v.items) c.replace-own.ensures.after ∙ c.new.ensures.items)))
    (tells_in _ _ _ c.in_ok-stretch.stretch _ _ _ _ _ _ _ _ _ _ c.requires.same c.in_ok-stretch.ensures) in
    tells_child here.task.now c.args.label home scene c.args.begins _ now _ _ _ _ c.in_ok-stretch.stretch _ c.in_ok-note_start.ensures
    inner c.in_ok-note_end.ensures (ap (λ (v : Vec Label). reverse v.items) c.replace-own.ensures.value)
    (c.in_ok-stretch-2.ensures c.args.label home scene c.args.begins now.own _ inner.stretch)

pub tell_children-copies-init : goal.tell_children-copies-init
tell_children-copies-init t c = record { stretch = c.at-stretch.ensures _ _; events = adds_nothing _ _; own = refl }

pub tell_children-copies-preserved : goal.tell_children-copies-preserved
tell_children-copies-preserved t c =
    let here = c.args.here in
    let now = now_in c.args.moment c.args.progress.now in
    let begins = c.args.begins in
    let start = c.copies.progress.events.items in
    let after = c.tell_child.new.progress in
    let own : now_in c.args.moment c.copies.progress ≡ now =
    same_now c.args.moment c.copies.progress.cancelled.items c.args.moment now.own refl
    (c.copies.invariant.own ∙ each_own c.copies.i c.args.name.now c.args.copies c.args.body.now here begins now) in
    let body = subst (λ (ss : Steps). Tells here.task.now start c.in_ok-child.child after
    (started_tale c.in_ok-label.label (range_of c.cut-part.result) ss here begins (now_in c.args.moment c.copies.progress)))
    c.as_slice.ensures c.in_ok-child.ensures in
    let labelled = subst (λ (l : Label). Tells here.task.now start c.in_ok-child.child after
    (started_tale l (range_of c.cut-part.result) c.args.body.now here begins (now_in c.args.moment c.copies.progress)))
    c.in_ok-label.ensures body in
    let lent = subst (λ (x : Range). Tells here.task.now start c.in_ok-child.child after
    (started_tale (label_over c.args.name.now (here_of here) c.copies.i) x c.args.body.now here begins
    (now_in c.args.moment c.copies.progress))) c.cut-part.ensures.range labelled in
    let child = subst (λ (x : Now). Tells here.task.now start c.in_ok-child.child after
    (started_over c.args.name.now c.args.copies c.args.body.now here begins x c.copies.i)) own lent in
    rw (add-one c.copies.i) (tells_joined _ _ _ _ _ _ _ _ _ c.copies.invariant child c.in_ok-stretch.ensures)

pub tell_children-returns : goal.tell_children-returns
tell_children-returns t c =
    let here = c.args.here in
    let now = now_in c.args.moment c.args.progress.now in
    let last : c.copies.i ≡ c.args.copies = omega (arith, c.copies-test.false, c.copies.auto.i-end) in
    subst (λ (k : ℕ). Tells here.task.now c.args.progress.now.events.items c.copies.stretch c.copies.progress
    (tell_each k (started_over c.args.name.now c.args.copies c.args.body.now here c.args.begins now) now)) last c.copies.invariant

pub tell_passes-passes-init : goal.tell_passes-passes-init
tell_passes-passes-init t c = at_first _ _ _ _ _ _ _ c.at-stretch.ensures c.requires.in_range c.requires.room

pub tell_passes-tell_pass-requires : goal.tell_passes-tell_pass-requires
tell_passes-tell_pass-requires t c = (
  omega (arith, c.decreases),
  (
    c.requires.passes,
    (
      c.passes-test.true,
      (
        c.requires.in_range,
        subst (λ (u : ℕ). CanWalk (size_of c.args.body.now) c.args.here u) (sym c.end.ensures)
            (room_pass _ _ _ _ _ _ _ _ _ c.passes.invariant c.passes-test.true),
      ),
    ),
  ),
)

pub tell_passes-returns-then-has_failed : goal.tell_passes-returns-then-has_failed
tell_passes-returns-then-has_failed t c =
    pass_failed _ _ _ _ _ _ _ _ _ _ _ _ c.passes.invariant c.passes-test.true _ c.end.ensures c.in_ok-next.ensures c.in_ok-stretch.ensures
    (sym c.has_failed.ensures ∙ c.if-has_failed.true)

pub tell_passes-passes-preserved : goal.tell_passes-passes-preserved
tell_passes-passes-preserved t c =
    pass_next _ _ _ _ _ _ _ _ _ _ _ _ c.passes.invariant c.passes-test.true _ c.end.ensures c.in_ok-next.ensures c.in_ok-stretch.ensures
    (sym c.has_failed.ensures ∙ c.if-has_failed.false)

pub tell_passes-returns : goal.tell_passes-returns
tell_passes-returns t c = pass_stop _ _ _ _ _ _ _ _ _ c.passes.invariant (omega (arith, c.passes-test.false))

pub tell_pass-returns : goal.tell_pass-returns
tell_pass-returns t c =
    let here = c.args.here in
    let now = now_in c.args.moment c.args.progress.now in
    let body = tells_at _ _ _ c.in_ok-stretch.stretch _ _ c.args.body.now _ _ now now c.as_slice.ensures refl c.in_ok-stretch.ensures in
    let path = ap (λ (l : Label). l.indices) c.in_ok-place.ensures
    ∙ ap (λ (l : Label). l.indices ++ c.args.number ∷ []) c.in_ok-copy.ensures in
    tells_on _ _ _ _ _ _ _ _ _ _ _ _ _ _ _ _ _ c.part_in_pass.ensures.buffer c.part_in_pass.ensures.range path body

pub tell_try-tell_handler-requires : goal.tell_try-tell_handler-requires
tell_try-tell_handler-requires t c =
    let now = now_in c.args.moment c.args.progress.now in
    let inner = tells_at _ _ _ c.in_ok-stretch.stretch _ _ c.args.body.now _ _ now now c.as_slice.ensures refl c.in_ok-stretch.ensures in
    let small = ends_small c.in_ok-stretch.stretch _ c.args.body.now _ _ now c.requires.in_range c.requires.room.small inner.stretch in (
      omega (arith, c.decreases),
      (
        c.requires.in_range_handler,
        record { room = omega (arith, small, c.requires.room.room); small = c.requires.room.small; lent = c.requires.room.lent },
      ),
    )

pub tell_try-tell_cleanup-requires : goal.tell_try-tell_cleanup-requires
tell_try-tell_cleanup-requires t c =
    let now = now_in c.args.moment c.args.progress.now in
    let inner = tells_at _ _ _ c.in_ok-stretch.stretch _ _ c.args.body.now _ _ now now c.as_slice.ensures refl c.in_ok-stretch.ensures in
    let handled = c.in_ok-stretch-2.ensures _ _ inner in
    let small = ends_handled c.in_ok-stretch-2.stretch _ (handled_of c.args.handler.now) c.args.body.now _ _ now c.requires.in_range
    c.requires.in_range_handler c.requires.room.small handled.stretch in (
      omega (arith, c.decreases),
      (
        c.requires.in_range_cleanup,
        record { room = omega (arith, small, c.requires.room.room); small = c.requires.room.small; lent = c.requires.room.lent },
      ),
    )

pub tell_try-returns : goal.tell_try-returns
tell_try-returns t c =
    let now = now_in c.args.moment c.args.progress.now in
    let inner = tells_at _ _ _ c.in_ok-stretch.stretch _ _ c.args.body.now _ _ now now c.as_slice.ensures refl c.in_ok-stretch.ensures in
    c.in_ok-stretch-3.ensures _ _ (c.in_ok-stretch-2.ensures _ _ inner)

pub tell_handler-returns-in_default : goal.tell_handler-returns-in_default
unfolding tell
tell_handler-returns-in_default t c = λ start (a : Tale) h. rw c.in_default.is h

pub tell_handler-returns-in_default-2 : goal.tell_handler-returns-in_default-2
unfolding tell
tell_handler-returns-in_default-2 t c = λ start (a : Tale) h.
    let e : a.exc ≡ None = sym h.stretch.exc ∙ (sym c.in_ok-exc.ensures ∙ ap (option_map exc_of) c.in_default-2.is) in
    rw c.in-Some.is (not_raised _ _ _ c.args.stretch _ a _ e h)

pub tell_handler-returns-in_default-kept : goal.tell_handler-returns-in_default-kept
unfolding tell
tell_handler-returns-in_default-kept t c = λ start (a : Tale) h.
    let e : a.exc ≡ Some (exc_of c.in-Some-2.exc) = sym h.stretch.exc ∙ (sym c.in_ok-exc.ensures ∙ ap (option_map exc_of) c.in-Some-2.is) in
    rw c.in-Some.is
    (not_wanted _ _ _ c.args.stretch _ a _ _ e (sym c.in_ok-kept.ensures.kept ∙ ap (option_map exc_of) c.in_default-kept.is) h)

pub tell_handler-returns : goal.tell_handler-returns
unfolding tell
tell_handler-returns t c = λ start (a : Tale) h.
    let e : a.exc ≡ Some (exc_of c.in-Some-2.exc) = sym h.stretch.exc ∙ (sym c.in_ok-exc.ensures ∙ ap (option_map exc_of) c.in-Some-2.is) in
    let matched = exc_of c.in-Some-kept.matched in
    let handling = adds_like _ _ _ _ _ c.in_ok-note_handled.ensures
    (ap (λ (n : ℕ). story_of_one n (handles matched (option_map exc_of c.in_ok-kept.rest))) c.end.ensures) in
    let next = tells_at _ _ _ c.in_ok-next.next _ _ _ _ _ _ (now_of a) c.as_slice.ensures
    (same_now _ c.args.progress.now.cancelled.items a.end a.own (c.end-2.ensures ∙ h.stretch.end) h.own) c.in_ok-next.ensures in
    rw c.in-Some.is
    (is_wanted _ start _ _ _ a _ _ matched _ e (sym (ap (option_map exc_of) c.in-Some-kept.is) ∙ c.in_ok-kept.ensures.kept)
    c.in_ok-kept.ensures.dropped
    (tells_handled _ start _ _ _ c.args.stretch c.in_ok-next.next _ matched _ a _ h handling next c.in_ok-stretch.ensures))

pub tell_cleanup-returns-in_default : goal.tell_cleanup-returns-in_default
unfolding tell
tell_cleanup-returns-in_default t c = λ start (a : Tale) h. rw c.in_default.is h

pub tell_cleanup-returns : goal.tell_cleanup-returns
unfolding tell
tell_cleanup-returns t c = λ start (a : Tale) h.
    let stretch = c.args.stretch in
    let cleaning = adds_like _ _ _ _ _ c.in_ok-note.ensures
    (ap (λ (n : ℕ). story_of_one n (cleans (unboxed_exc c.in_ok-exc.exc))) c.end.ensures
    ∙ ap (λ (o : Option Exc). story_of_one stretch.end (cleans o)) c.in_ok-exc.ensures) in
    let next = tells_at _ _ _ c.in_ok-next.next _ _ _ _ _ _ (now_of a) c.as_slice.ensures
    (same_now _ c.args.progress.now.cancelled.items a.end a.own (c.end-2.ensures ∙ h.stretch.end) h.own) c.in_ok-next.ensures in
    let replacing = adds_like _ _ _ _ _ c.in_ok-note_replaced.ensures
    (ap (λ (n : ℕ). replacement (option_map exc_of stretch.exc) (option_map exc_of c.in_ok-next.next.exc) n) c.end-3.ensures) in
    rw c.in-Some.is (tells_cleaned _ start _ _ _ _ stretch c.in_ok-next.next _ a _ h cleaning next replacing refl c.in_ok-stretch.ensures)

pub tell_step-returns-in_ok-block-in-Scope : goal.tell_step-returns-in_ok-block-in-Scope
unfolding tell
tell_step-returns-in_ok-block-in-Scope t c =
    let here = c.args.here in
    let stretch = c.tell_block in
    rw (c.in-Scope.is, ← c.due.ensures.due)
    (subst (λ (b : Block). IfOk stretch.result (λ w. Tells here.task.now c.args.progress.now.events.items w stretch.new.progress
    (tell_block here.clock (table_of here) (kind_of b.kind) b.label c.args.moment b.deadline b.shield (scopes_of here)
    (inside (kind_of b.kind) b.label b.shield c.in-Scope.body here (now_in c.args.moment c.args.progress.now)))))
    c.in_ok-block-in-Scope.ensures stretch.ensures)

pub tell_step-returns-in_ok-block-in-Nursery : goal.tell_step-returns-in_ok-block-in-Nursery
unfolding tell
tell_step-returns-in_ok-block-in-Nursery t c =
    let here = c.args.here in
    let stretch = c.tell_block-in-Nursery in
    rw (c.in-Nursery.is, ← c.due-in-Nursery.ensures.due)
    (subst (λ (b : Block). IfOk stretch.result (λ w. Tells here.task.now c.args.progress.now.events.items w stretch.new.progress
    (tell_block here.clock (table_of here) (kind_of b.kind) b.label c.args.moment b.deadline b.shield (scopes_of here)
    (inside (kind_of b.kind) b.label b.shield c.in-Nursery.body here (now_in c.args.moment c.args.progress.now)))))
    c.in_ok-block-in-Nursery.ensures stretch.ensures)

pub tell_step-returns-in-Event : goal.tell_step-returns-in-Event
unfolding tell
tell_step-returns-in-Event t c = rw c.in-Event.is c.tell_event.ensures

pub tell_step-returns-in-Start : goal.tell_step-returns-in-Start
tell_step-returns-in-Start t c =
    let here = c.args.here in
    rw c.in-Start.is
    (subst (λ (a : Tale). IfOk c.tell_start.result (λ w. Tells here.task.now c.args.progress.now.events.items w c.tell_start.new.progress
    a))
    (start_is here c.in-Start.name c.in-Start.over c.in-Start.body (now_in c.args.moment c.args.progress.now)) c.tell_start.ensures)

pub tell_start-returns-in_ok-label-in-None : goal.tell_start-returns-in_ok-label-in-None
tell_start-returns-in_ok-label-in-None t c =
    let here = c.args.here in
    let now = now_in c.args.moment c.args.progress.now in
    let begins = c.a_round_after-begins.result in
    rw (c.in-None.is, ← c.a_round_after-begins.ensures)
    (subst (λ (l : Label). IfOk c.tell_child.result (λ w. Tells here.task.now c.args.progress.now.events.items w c.tell_child.new.progress
    (started_tale l (range_of here.part) c.args.body.now here begins now))) c.in_ok-label-in-None.ensures
    (subst (λ (ss : Steps). IfOk c.tell_child.result (λ w. Tells here.task.now c.args.progress.now.events.items w c.tell_child.new.progress
    (started_tale c.in_ok-label-in-None.label (range_of here.part) ss here begins now))) c.as_slice-steps.ensures c.tell_child.ensures))

pub tell_start-returns-in-Some : goal.tell_start-returns-in-Some
tell_start-returns-in-Some t c = rw (c.in-Some.is, ← c.a_round_after-begins.ensures) c.tell_children.ensures

pub tell_step-returns-in-Repeat : goal.tell_step-returns-in-Repeat
unfolding tell
tell_step-returns-in-Repeat t c = rw c.in-Repeat.is c.tell_passes.ensures

pub tell_step-returns-in-Try : goal.tell_step-returns-in-Try
unfolding tell
tell_step-returns-in-Try t c = rw c.in-Try.is c.tell_try.ensures

pub tell_step-returns-in-Object : goal.tell_step-returns-in-Object
unfolding tell
tell_step-returns-in-Object t c = rw c.in-Object.is c.tell_object.ensures

pub tell_step-returns-in-Ask : goal.tell_step-returns-in-Ask
unfolding tell
tell_step-returns-in-Ask t c = rw c.in-Ask.is c.tell_ask.ensures

pub tell_ask-returns-in_default : goal.tell_ask-returns-in_default
tell_ask-returns-in_default t c =
    let here = c.args.here in
    let now = now_in c.args.moment c.args.progress.now in
    subst (λ (a : Tale). Tells here.task.now c.args.progress.now.events.items c.at.result c.args.progress.now a)
    (nobody_asked (tables_of here) c.args.ask _ (scene_of here) (scopes_of here) now (block_of_ask c.args.body.now here)
    (sym c.label_on.ensures ∙ ap (λ (o : Option (Bor Label)). option_copied o) c.in_default.is))
    (record { stretch = c.at.ensures _ _; events = adds_nothing _ _; own = refl })

pub tell_ask-returns-then-sees : goal.tell_ask-returns-then-sees
tell_ask-returns-then-sees t c =
    let here = c.args.here in
    let m = c.args.moment in
    let now = now_in m c.args.progress.now in
    subst (λ (a : Tale). IfOk c.unasked.result (λ w. Tells here.task.now c.args.progress.now.events.items w c.unasked.new.progress a))
    (unasked_told (tables_of here) c.args.ask _ (scene_of here) (scopes_of here) now (block_of_ask c.args.body.now here) c.in-Some.object.now
    (sym c.label_on.ensures ∙ ap (λ (o : Option (Bor Label)). option_copied o) c.in-Some.is)
    (ap (λ (ls : List Label). seen (stack_for (reverse ls) m (scopes_of here)) m) (sym c.as_slice.ensures.value)
    ∙ (sym c.sees.ensures ∙ c.if-sees.true))) c.unasked.ensures

pub tell_ask-returns-in-None : goal.tell_ask-returns-in-None
tell_ask-returns-in-None t c =
    let here = c.args.here in
    let m = c.args.moment in
    let now = now_in m c.args.progress.now in
    subst (λ (a : Tale). IfOk c.leave_queue.result (λ w. Tells here.task.now c.args.progress.now.events.items w c.leave_queue.new.progress a))
    (asked_told (tables_of here) c.args.ask _ (scene_of here) (scopes_of here) now (block_of_ask c.args.body.now here) c.in-Some.object.now
    (sym c.label_on.ensures ∙ ap (λ (o : Option (Bor Label)). option_copied o) c.in-Some.is) None
    (ap (λ (ls : List Label). seen (stack_for (reverse ls) m (scopes_of here)) m) (sym c.as_slice.ensures.value)
    ∙ (sym c.sees.ensures ∙ c.if-sees.false))
    (sym (ap (option_map granted_of) c.in-None.is) ∙ c.in_ok-granted.ensures.granted)) c.leave_queue.ensures

pub tell_ask-tell_got-requires : goal.tell_ask-tell_got-requires
tell_ask-tell_got-requires t c =
    let here = c.args.here in
    let m = c.args.moment in
    let g = c.in-Some-2.granted in
    let left = leaves_queue (sight (scopes_of here)) (last_grant here.clock m) in
    let is = sym (ap (option_map granted_of) c.in-Some-2.is) ∙ c.in_ok-granted.ensures.granted in
    let when = granted_in_time m left (grants_of here c.in-Some.object.now here.task.now m) (granted_of g) is in (
      omega (arith, c.decreases),
      (
        c.requires.in_range,
        (
          when.0,
          (
            record {
              room = room_left here.clock (sight (scopes_of here)) m g.at (size_of c.args.body.now) when.1 c.requires.room.room;
              small = c.requires.room.small;
              lent = c.requires.room.lent;
            },
            c.in_ok-granted.ensures.lent g c.in-Some-2.is,
          ),
        ),
      ),
    )

pub tell_ask-returns-in-Some-2 : goal.tell_ask-returns-in-Some-2
tell_ask-returns-in-Some-2 t c =
    let here = c.args.here in
    let m = c.args.moment in
    let now = now_in m c.args.progress.now in
    let g = c.in-Some-2.granted in
    subst (λ (a : Tale). IfOk c.tell_got.result (λ w. Tells here.task.now c.args.progress.now.events.items w c.tell_got.new.progress a))
    (asked_told (tables_of here) c.args.ask _ (scene_of here) (scopes_of here) now (block_of_ask c.args.body.now here) c.in-Some.object.now
    (sym c.label_on.ensures ∙ ap (λ (o : Option (Bor Label)). option_copied o) c.in-Some.is) (Some (granted_of g))
    (ap (λ (ls : List Label). seen (stack_for (reverse ls) m (scopes_of here)) m) (sym c.as_slice.ensures.value)
    ∙ (sym c.sees.ensures ∙ c.if-sees.false))
    (sym (ap (option_map granted_of) c.in-Some-2.is) ∙ c.in_ok-granted.ensures.granted)) c.tell_got.ensures

pub tell_got-returns : goal.tell_got-returns
tell_got-returns t c =
    let here = c.args.here in
    got_told here.task.now _ _ _ c.in_ok-stretch.stretch c.args.ask c.args.object.now (here_of here) c.args.moment (granted_of c.args.granted)
    (option_map asked_of c.in_ok-at_once.at_once) (block_of_ask c.args.body.now here) c.in_ok-at_once.ensures.events
    c.in_ok-at_once.ensures.at_once c.in_ok-stretch.ensures

pub tell_granted-returns-in-Token : goal.tell_granted-returns-in-Token
tell_granted-returns-in-Token t c = rw c.in-Token.is c.tell_with_token.ensures

pub tell_granted-returns-in-Sent : goal.tell_granted-returns-in-Sent
tell_granted-returns-in-Sent t c = rw c.in-Sent.is c.tell_sent.ensures

pub tell_granted-returns-in-Received : goal.tell_granted-returns-in-Received
tell_granted-returns-in-Received t c = rw c.in-Received.is c.tell_received.ensures

pub tell_granted-returns-in-ClosedResource : goal.tell_granted-returns-in-ClosedResource
tell_granted-returns-in-ClosedResource t c =
    let here = c.args.here in
    let at = c.args.granted.at in
    let story = story_of_one at (finds_closed Send c.args.object.now (option_map asked_of c.args.at_once)) in
    rw c.in-ClosedResource.is
    (subst (λ (name : List ℕ). IfOk c.find_closed.result (λ w. Tells here.task.now c.args.progress.now.events.items w
    c.find_closed.new.progress (failed_at (raised name here.task.now (tick_of here.clock at)) (only_at at) story))) c.closed_resource-name.ensures
    c.find_closed.ensures)

pub tell_granted-returns-in-EndOfChannel : goal.tell_granted-returns-in-EndOfChannel
tell_granted-returns-in-EndOfChannel t c =
    let here = c.args.here in
    let at = c.args.granted.at in
    let story = story_of_one at (finds_closed Receive c.args.object.now (option_map asked_of c.args.at_once)) in
    rw c.in-EndOfChannel.is
    (subst (λ (name : List ℕ). IfOk c.find_closed-in-EndOfChannel.result (λ w. Tells here.task.now c.args.progress.now.events.items w
    c.find_closed-in-EndOfChannel.new.progress (failed_at (raised name here.task.now (tick_of here.clock at)) (only_at at) story)))
    c.end_of_channel-name.ensures
    c.find_closed-in-EndOfChannel.ensures)

pub tell_with_token-returns : goal.tell_with_token-returns
tell_with_token-returns t c =
    let m = c.args.moment in
    let body = tells_at _ _ _ c.in_ok-stretch.stretch _ _ c.args.body.now _ _ _ (only_at m) c.as_slice.ensures
    (same_now m c.args.progress.now.cancelled.items m [] refl (none_own _ c.requires.clear)) c.in_ok-stretch.ensures in
    with_token _ _ _ _ _ c.in_ok-stretch.stretch m c.args.object.now _ _ c.end.result c.in_ok-note_got.ensures body c.end.ensures
    c.in_ok-note_token_back.ensures refl

pub tell_sent-returns : goal.tell_sent-returns
tell_sent-returns t c =
    let m = c.args.moment in
    let body = tells_at _ _ _ c.in_ok-stretch.stretch _ _ c.args.body.now _ _ _ (only_at m) c.as_slice.ensures
    (same_now m c.args.progress.now.cancelled.items m [] refl (none_own _ c.requires.clear)) c.in_ok-stretch.ensures in
    told_before _ _ _ _ c.in_ok-stretch.stretch _ _ c.in_ok-note_got.ensures body

pub tell_received-returns : goal.tell_received-returns
tell_received-returns t c =
    let m = c.args.moment in
    let body = tells_at _ _ _ c.in_ok-stretch.stretch _ _ c.args.body.now _ _ _ (only_at m) c.as_slice.ensures
    (same_now m c.args.progress.now.cancelled.items m [] refl (none_own _ c.requires.clear)) c.in_ok-stretch.ensures in
    told_before _ _ _ _ c.in_ok-stretch.stretch _ _ c.in_ok-note_got.ensures
    (tells_on _ _ _ _ _ _ _ _ _ _ _ _ _ _ _ _ _ c.requires.same refl refl body)
