use Rattle.std.proofs.Common.{◌<◌, ◌≤◌, ap, arith, length}
use Rattle.std.proofs.lemmas.List.{get_or_read}
use Rattle.clock.proofs.SleepSlotLemmas.{slept_at, scope_within, index_within, tasks_read, leaves, moved_within, clears_last, clears_moved, placed_left, puts_left}
use Rattle.clock.proofs.sleep_slots.SleepSlots.remove.Goals as goal

pub index_mut-tasks-requires : goal.index_mut-tasks-requires
index_mut-tasks-requires c =
    let sleep_slots = c.self.inside.by_task in
    let lists = c.self.inside.by_scope in
    let within : c.args.task < length sleep_slots.items = omega (arith, c.if-task-len.false, c.len.ensures, sleep_slots.ok.0) in
    let slept = slept_at sleep_slots.items c.args.task c.index.result.now c.in-Some.sleep_slot within c.index.ensures c.in-Some.is in
    omega (arith, lists.ok.0, scope_within sleep_slots.items lists.items c.args.task c.in-Some.sleep_slot c.self.invariant slept)

pub swap_remove-requires : goal.swap_remove-requires
swap_remove-requires c =
    let sleep_slots = c.self.inside.by_task in
    let lists = c.self.inside.by_scope in
    let v = c.index_mut-tasks.result.now in
    let within : c.args.task < length sleep_slots.items = omega (arith, c.if-task-len.false, c.len.ensures, sleep_slots.ok.0) in
    let slept = slept_at sleep_slots.items c.args.task c.index.result.now c.in-Some.sleep_slot within c.index.ensures c.in-Some.is in
    let kept = scope_within sleep_slots.items lists.items c.args.task c.in-Some.sleep_slot c.self.invariant slept in
    omega (
      arith,
      v.ok.0,
      ap length (tasks_read lists.items c.in-Some.sleep_slot.scope v kept c.index_mut-tasks.ensures.value),
      index_within sleep_slots.items lists.items c.args.task c.in-Some.sleep_slot c.self.invariant slept,
    )

pub index_mut-requires-then-sleep_slot-len : goal.index_mut-requires-then-sleep_slot-len
index_mut-requires-then-sleep_slot-len c =
    let sleep_slots = c.self.inside.by_task in
    let lists = c.self.inside.by_scope in
    let v = c.index_mut-tasks.result.now in
    let w = c.swap_remove.new.self in
    let within : c.args.task < length sleep_slots.items = omega (arith, c.if-task-len.false, c.len.ensures, sleep_slots.ok.0) in
    let slept = slept_at sleep_slots.items c.args.task c.index.result.now c.in-Some.sleep_slot within c.index.ensures c.in-Some.is in
    let left = leaves sleep_slots.items lists.items c.args.task c.in-Some.sleep_slot v w c.self.invariant slept c.index_mut-tasks.ensures.value
    c.swap_remove.ensures.len c.swap_remove.ensures.by_index in
    let inside : c.in-Some.sleep_slot.index < length w.items = omega (arith, c.if-sleep_slot-len.true, c.len-2.ensures, w.ok.0) in
    omega (
      arith,
      sleep_slots.ok.0,
      moved_within sleep_slots.items lists.items c.args.task c.in-Some.sleep_slot v w left c.index-moved.result.now inside
          (get_or_read w.items c.in-Some.sleep_slot.index _ inside c.index-moved.ensures 0),
    )

pub invariant_of-self : goal.invariant_of-self
invariant_of-self c =
    let sleep_slots = c.self.inside.by_task in
    let lists = c.self.inside.by_scope in
    let v = c.index_mut-tasks.result.now in
    let w = c.swap_remove.new.self in
    let within : c.args.task < length sleep_slots.items = omega (arith, c.if-task-len.false, c.len.ensures, sleep_slots.ok.0) in
    let slept = slept_at sleep_slots.items c.args.task c.index.result.now c.in-Some.sleep_slot within c.index.ensures c.in-Some.is in
    let left = leaves sleep_slots.items lists.items c.args.task c.in-Some.sleep_slot v w c.self.invariant slept c.index_mut-tasks.ensures.value
    c.swap_remove.ensures.len c.swap_remove.ensures.by_index in
    let inside : c.in-Some.sleep_slot.index < length w.items = omega (arith, c.if-sleep_slot-len.true, c.len-2.ensures, w.ok.0) in
    placed_left sleep_slots.items lists.items c.args.task c.in-Some.sleep_slot v w _ left
    (clears_moved sleep_slots.items lists.items c.args.task c.in-Some.sleep_slot v w left c.index-moved.result.now inside
    (get_or_read w.items c.in-Some.sleep_slot.index _ inside c.index-moved.ensures 0))

pub invariant_of-self-else-sleep_slot-len : goal.invariant_of-self-else-sleep_slot-len
invariant_of-self-else-sleep_slot-len c =
    let sleep_slots = c.self.inside.by_task in
    let lists = c.self.inside.by_scope in
    let v = c.index_mut-tasks.result.now in
    let w = c.swap_remove.new.self in
    let within : c.args.task < length sleep_slots.items = omega (arith, c.if-task-len.false, c.len.ensures, sleep_slots.ok.0) in
    let slept = slept_at sleep_slots.items c.args.task c.index.result.now c.in-Some.sleep_slot within c.index.ensures c.in-Some.is in
    let left = leaves sleep_slots.items lists.items c.args.task c.in-Some.sleep_slot v w c.self.invariant slept c.index_mut-tasks.ensures.value
    c.swap_remove.ensures.len c.swap_remove.ensures.by_index in
    let out : length w.items ≤ c.in-Some.sleep_slot.index = omega (arith, c.if-sleep_slot-len.false, c.len-2.ensures, w.ok.0) in
    placed_left sleep_slots.items lists.items c.args.task c.in-Some.sleep_slot v w _ left
    (clears_last sleep_slots.items lists.items c.args.task c.in-Some.sleep_slot v w left out)

pub returns-then-sleep_slot-len-clause-moves : goal.returns-then-sleep_slot-len-clause-moves
returns-then-sleep_slot-len-clause-moves c =
    let sleep_slots = c.self.inside.by_task in
    let lists = c.self.inside.by_scope in
    let v = c.index_mut-tasks.result.now in
    let w = c.swap_remove.new.self in
    let within : c.args.task < length sleep_slots.items = omega (arith, c.if-task-len.false, c.len.ensures, sleep_slots.ok.0) in
    let slept = slept_at sleep_slots.items c.args.task c.index.result.now c.in-Some.sleep_slot within c.index.ensures c.in-Some.is in
    let left = leaves sleep_slots.items lists.items c.args.task c.in-Some.sleep_slot v w c.self.invariant slept c.index_mut-tasks.ensures.value
    c.swap_remove.ensures.len c.swap_remove.ensures.by_index in
    let inside : c.in-Some.sleep_slot.index < length w.items = omega (arith, c.if-sleep_slot-len.true, c.len-2.ensures, w.ok.0) in
    rw (← c.self.view_is)
    (puts_left sleep_slots.items lists.items c.args.task c.in-Some.sleep_slot v w _ left
    (clears_moved sleep_slots.items lists.items c.args.task c.in-Some.sleep_slot v w left c.index-moved.result.now inside
    (get_or_read w.items c.in-Some.sleep_slot.index _ inside c.index-moved.ensures 0)))

pub returns-else-sleep_slot-len-clause-moves : goal.returns-else-sleep_slot-len-clause-moves
returns-else-sleep_slot-len-clause-moves c =
    let sleep_slots = c.self.inside.by_task in
    let lists = c.self.inside.by_scope in
    let v = c.index_mut-tasks.result.now in
    let w = c.swap_remove.new.self in
    let within : c.args.task < length sleep_slots.items = omega (arith, c.if-task-len.false, c.len.ensures, sleep_slots.ok.0) in
    let slept = slept_at sleep_slots.items c.args.task c.index.result.now c.in-Some.sleep_slot within c.index.ensures c.in-Some.is in
    let left = leaves sleep_slots.items lists.items c.args.task c.in-Some.sleep_slot v w c.self.invariant slept c.index_mut-tasks.ensures.value
    c.swap_remove.ensures.len c.swap_remove.ensures.by_index in
    let out : length w.items ≤ c.in-Some.sleep_slot.index = omega (arith, c.if-sleep_slot-len.false, c.len-2.ensures, w.ok.0) in
    rw (← c.self.view_is)
    (puts_left sleep_slots.items lists.items c.args.task c.in-Some.sleep_slot v w _ left
    (clears_last sleep_slots.items lists.items c.args.task c.in-Some.sleep_slot v w left out))
