-- What a runner holds of limiters and channels, as the tasks of the program have it.
use Rattle.std.specs.Prelude.{◌≡◌, ◌==◌, ℕ, Bool, true, false, Option, Some, None, List, [], ◌∷◌, ◌++◌, map}
use Rattle.exceptions.specs.Exceptions.{Label}
use Rattle.indexmap.specs.IndexMap.{get}
use Rattle.input_lines.specs.Part.{buffer_of, range_of}
use Rattle.objects.specs.Held.{what_in, IsGrantOf}
use Rattle.objects.specs.Whats.{What}
use Rattle.objects.specs.declared.object.Object.{Object}
use Rattle.job_meaning.specs.GrantTable.{grants_made}
use Rattle.job_meaning.specs.Log.{Act, opens, asks, gives_back, closes, same_label}
use Rattle.run_refinement.specs.Sharing.{RoundAct}
use Rattle.task_table.specs.declared.entry.Call.{Call}
use Rattle.task_table.specs.declared.entry.Call.TheVariants.{Begin, Granted}
use Rattle.task_machine.specs.declared.stop.Wake.{Wake}
use Rattle.task_machine.specs.declared.stop.Wake.TheVariants as wakes
use Rattle.task_table.specs.declared.task_table.Running.{Running}
use Rattle.task_table.specs.declared.task_table.TaskTable.{TaskTable}
use Rattle.task_table.specs.Entries.{Added, added_of}
use Rattle.task_table.specs.TaskTable.{Sharing, running_at, id_of}
use Rattle.job_runner.specs.declared.objects_by_label.ObjectTable.{ObjectTable}
use Rattle.job_runner.specs.declared.serving.RoundAct as held
use Rattle.job_runner.specs.declared.serving.Done.{Done}
use Rattle.job_runner.specs.declared.serving.Done.TheVariants.{Opens, Asks, GivesBack, Closes}
use Rattle.job_runner.specs.declared.runner.Runner.{Runner}

-- the limiter or channel of a label, if it was opened
abbrev pub object_at : ObjectTable → Label → Option Object
object_at objects label = get same_label objects.by_label label

-- what is done, in the terms of the definitions
abbrev pub act_of : Done → Act
act_of (Opens kind) = opens kind
act_of (Asks ask part) = asks ask (range_of part) None
act_of GivesBack = gives_back
act_of Closes = closes

abbrev pub round_act_of : held.RoundAct → RoundAct
round_act_of a = record { serial = a.row; object = a.object; act = act_of a.done }

-- the tasks that continue in the next moment, each with its call
abbrev pub later_calls : Runner → List Added
later_calls r = r.later.next

-- the tasks that are ready, in this moment or in the next one, each with its call
abbrev pub ready_calls : Runner → List Added
ready_calls r = map added_of r.batch.current ++ (r.batch.next ++ later_calls r)

abbrev pub what_of : Call → Option What
what_of (Granted grant) = Some (what_in grant)
what_of _ = None

-- this, if something was granted, and else the other
abbrev pub what_or : Option What → Option What → Option What
what_or (Some what) other = Some what
what_or None other = other

abbrev pub what_if : Bool → Option What → Option What
what_if true what = what
what_if false what = None

-- what the task with an id continues with, if it is ready
abbrev pub granted_among : ℕ → List Added → Option What
granted_among id [] = None
granted_among id (a ∷ added) = what_or (what_if (a.0 == id) (what_of a.1)) (granted_among id added)

-- and the task of a row, if it has not ended
abbrev pub granted_if : ℕ → List Added → ℕ → Option Running → Option What
granted_if id calls p None = None
granted_if id calls p (Some x) = what_if (x.row == p) (granted_among id calls)

abbrev pub granted_of : TaskTable → List Added → ℕ → Option What
granted_of table calls p = granted_if (id_of table p) calls p (running_at table (id_of table p))

-- what a runner holds, where these tasks are ready
abbrev pub sharing_of : Runner → List Added → Sharing
sharing_of r calls =
    record { through = r.through; object = object_at r.objects; round = map round_act_of r.round.items; granted = granted_of r.task_table calls; grants = grants_made r.grants }

abbrev pub sharing_in : Runner → Sharing
sharing_in r = sharing_of r (ready_calls r)

-- the call by which a task that something was granted to continues; that of every other one grants nothing
abbrev pub call_by : Wake → Call
call_by (wakes.Granted grant) = Granted grant
call_by _ = Begin

-- ---- of which input the parts are

abbrev pub IsDoneOf : List ℕ → Done → Type 0
IsDoneOf input (Asks ask part) = buffer_of part ≡ input
IsDoneOf input _ = Unit {0}

abbrev pub IsCallOf : List ℕ → Call → Type 0
IsCallOf input (Granted grant) = IsGrantOf input grant
IsCallOf input _ = Unit {0}
