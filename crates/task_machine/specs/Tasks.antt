-- What clauses state about a task.
use Rattle.std.specs.Prelude.{ℕ, Option, List, map}
use Rattle.std.specs.Option.{option_map}
use Rattle.std.specs.List.{last_or}
use Rattle.task_machine.specs.declared.task.Own.{Own}
use Rattle.task_machine.specs.declared.task.Home.{Home}
use Rattle.task_machine.specs.declared.task.Task.{Task}
use Rattle.task_machine.specs.Frames.{passes_onto, Lent, lent_by}

-- the scope of the nursery in which a task was started
abbrev pub home_scope : Task → Option ℕ
home_scope task = option_map (λ (h : Home). h.scope) task.home

-- the innermost scope that encloses a task: the last that it opened itself, or else that of its home nursery
abbrev pub scope_of : Task → Option ℕ
scope_of task = last_or (home_scope task) (map (λ (o : Own). o.id) task.own.items)

-- the nursery in which it was started, and its index among the children there
abbrev pub home_of : Task → Option (ℕ × ℕ)
home_of task = option_map (λ (h : Home). (h.nursery, h.index)) task.home

-- the path of indices of what it enters or starts: its own, followed by the numbers of the passes that it is in
abbrev pub path_of : Task → List ℕ
path_of task = passes_onto task.frames.items task.label.indices

-- the part of the input that it has: its own, cut for each pass of a `repeat over` that it is in
abbrev pub lent_of : Task → Lent
lent_of task = lent_by task.part task.frames.items
