use Rattle.std.proofs.Common.{◌≡◌, ◌<◌, ◌≤◌, length, get_or, sym, ◌∙◌}
use Rattle.clock.specs.KeptSleepers.{tasks_at}
use Rattle.clock.proofs.SleepSlotLemmas.{last_seen, none_past, tasks_read}
use Rattle.clock.proofs.sleep_slots.SleepSlots.sleeper_in.Goals as goal

pub returns-in_default : goal.returns-in_default
returns-in_default c =
    let lists = c.self.inside.by_scope in
    let past : length lists.items ≤ c.args.scope = rw c.deref.ensures.value at c.in_default.ensures.lookup.3 in
    rw (← c.self.view_is) (none_past c.self.inside.by_task.items lists.items c.args.scope c.self.invariant past)

pub returns : goal.returns
returns c =
    let lists = c.self.inside.by_scope in
    let inside : c.args.scope < length lists.items = rw c.deref.ensures.value at c.in-Some.ensures.lookup.3.0 in
    let read : c.in-Some.tasks.now ≡ get_or lists.items c.args.scope c.in-Some.tasks.now =
    rw c.deref.ensures.value at c.in-Some.ensures.lookup.1 in
    let are : tasks_at lists.items c.args.scope ≡ c.deref-2.result.now =
    tasks_read lists.items c.args.scope c.in-Some.tasks.now inside read ∙ sym c.deref-2.ensures.value in
    rw (← c.self.view_is)
    (last_seen c.self.inside.by_task.items lists.items c.args.scope c.deref-2.result.now c.copied.result c.self.invariant are
    (c.copied.ensures ∙ c.last.ensures.value))
