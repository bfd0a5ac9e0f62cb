use Rattle.std.proofs.Common.{◌≡◌, ◌<◌, None, length, refl, sym, ap, ◌∙◌, arith}
use Rattle.std.proofs.lemmas.Result.{err_from_is_err_and}
use Rattle.clock.specs.Sleeping.{scope_at}
use Rattle.clock.specs.KeptSleepers.{scope_of, sleep_slot_at}
use Rattle.clock.proofs.SleepSlotLemmas.{scope_seen, same_seen, placed_grown, placed_added, puts_added, tasks_again, then_same}
use Rattle.clock.proofs.sleep_slots.SleepSlots.add.Goals as goal

pub invariant_of-self : goal.invariant_of-self
invariant_of-self c =
    placed_grown c.self.inside.by_task.items c.grow_to_task.new.sleep_slots.items c.self.inside.by_scope.items c.self.inside.by_scope.items
    c.self.invariant c.grow_to_task.ensures.same (λ scope. refl)

pub returns-in_err-grow_to_task-clause-err : goal.returns-in_err-grow_to_task-clause-err
returns-in_err-grow_to_task-clause-err c =
    let p = err_from_is_err_and c.from_residual.result c.from_residual.ensures.1 in
    rw (p.1, ← c.self.view_is) (same_seen c.self.inside.by_task.items c.grow_to_task.new.sleep_slots.items c.grow_to_task.ensures.same)

pub invariant_of-self-in_err-grow_to_scope : goal.invariant_of-self-in_err-grow_to_scope
invariant_of-self-in_err-grow_to_scope c =
    placed_grown c.self.inside.by_task.items c.grow_to_task.new.sleep_slots.items c.self.inside.by_scope.items c.grow_to_scope.new.lists.items
    c.self.invariant c.grow_to_task.ensures.same c.grow_to_scope.ensures.same

pub returns-in_err-grow_to_scope-clause-err : goal.returns-in_err-grow_to_scope-clause-err
returns-in_err-grow_to_scope-clause-err c =
    let p = err_from_is_err_and c.from_residual-in_err-grow_to_scope.result c.from_residual-in_err-grow_to_scope.ensures.1 in
    rw (p.1, ← c.self.view_is) (same_seen c.self.inside.by_task.items c.grow_to_task.new.sleep_slots.items c.grow_to_task.ensures.same)

pub invariant_of-self-in_err-push : goal.invariant_of-self-in_err-push
invariant_of-self-in_err-push c =
    let lists = c.grow_to_scope.new.lists in
    let kept : c.args.scope < length lists.items = omega (arith, c.in_ok-grow_to_scope.ensures.long, lists.ok.0) in
    placed_grown c.self.inside.by_task.items c.grow_to_task.new.sleep_slots.items c.self.inside.by_scope.items _ c.self.invariant
    c.grow_to_task.ensures.same
    (then_same c.self.inside.by_scope.items lists.items _ c.grow_to_scope.ensures.same
    (tasks_again lists.items c.args.scope c.index_mut-tasks.result.now c.push.new.self kept c.index_mut-tasks.ensures.value
    c.in_err-push.ensures.items))

pub returns-in_err-push-clause-err : goal.returns-in_err-push-clause-err
returns-in_err-push-clause-err c =
    let p = err_from_is_err_and c.from_residual-in_err-push.result c.from_residual-in_err-push.ensures.1 in
    rw (p.1, ← c.self.view_is) (same_seen c.self.inside.by_task.items c.grow_to_task.new.sleep_slots.items c.grow_to_task.ensures.same)

pub invariant_of-self-2 : goal.invariant_of-self-2
invariant_of-self-2 c =
    let sleep_slots = c.grow_to_task.new.sleep_slots in
    let lists = c.grow_to_scope.new.lists in
    let v = c.index_mut-tasks.result.now in
    let within : c.args.task < length sleep_slots.items = omega (arith, c.in_ok-grow_to_task.ensures.long, sleep_slots.ok.0) in
    let kept : c.args.scope < length lists.items = omega (arith, c.in_ok-grow_to_scope.ensures.long, lists.ok.0) in
    let placed = placed_grown c.self.inside.by_task.items sleep_slots.items c.self.inside.by_scope.items lists.items c.self.invariant
    c.grow_to_task.ensures.same c.grow_to_scope.ensures.same in
    let awake : scope_at c.args.self.now c.args.task ≡ None = c.requires in
    let was = rw (← c.self.view_is) at awake in
    let free : scope_of (sleep_slot_at sleep_slots.items c.args.task) ≡ None =
    ap scope_of (c.grow_to_task.ensures.same c.args.task) ∙ sym (scope_seen c.self.inside.by_task.items c.args.task) ∙ was in
    placed_added sleep_slots.items lists.items c.args.task _ v c.push.new.self placed free within kept c.index_mut-tasks.ensures.value
    c.in_ok-push.ensures.items (c.len-index.ensures ∙ v.ok.0)

pub returns-clause-ok : goal.returns-clause-ok
returns-clause-ok c =
    let sleep_slots = c.grow_to_task.new.sleep_slots in
    let within : c.args.task < length sleep_slots.items = omega (arith, c.in_ok-grow_to_task.ensures.long, sleep_slots.ok.0) in
    rw (← c.self.view_is) (puts_added c.self.inside.by_task.items sleep_slots.items c.args.task _ c.grow_to_task.ensures.same within)
