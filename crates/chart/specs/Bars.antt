-- The rows of a chart: a bar for each task, and below it one for each scope and nursery that the task entered.
use Rattle.std.specs.Prelude.{ℕ, Bool, true, false, ◌&&◌, Option, Some, None, List, [], ◌∷◌, ◌++◌, nat_le, if◌then◌else◌}
use Rattle.exceptions.specs.Exceptions.{Label}
use Rattle.cancel_scopes.specs.Sight.{Tick}
use Rattle.job_meaning.specs.Log.{Table, same_label}
use Rattle.job_meaning.specs.Moments.{tick_of}
use Rattle.job_meaning.specs.declared.clock.Clock.{Clock}
use Rattle.job_story.specs.Story.{enters, leaves}
use Rattle.job_story.specs.Events.{What, happens, Event}
use Rattle.job_story.specs.Limit.{is_start, is_end}

-- The bar of a task begins with its start and ends with its end, and the events of the task are its own. The bar of a scope or
-- nursery begins where it is entered and ends where it is left, and has no events of its own. A bar has no end if the events do
-- not contain it. The bar of a scope or nursery has the moment from which it is cancelled, if that comes between entering and
-- leaving.
pub record Bar : Type 0 where
  pub first : Event
  pub last : Option Event
  pub own : List Event
  pub cancelled : Option ℕ

-- ---- tasks

-- the events of a task
abbrev pub of_task : Label → List Event → List Event
of_task l [] = []
of_task l (e ∷ es) = if same_label l e.task then e ∷ of_task l es else of_task l es

-- the first event that is the end of a task
abbrev pub end_in : List Event → Option Event
end_in [] = None
end_in (e ∷ es) = if is_end e.what then Some e else end_in es

-- the bar of a task that starts with this event
abbrev pub task_bar : List Event → Event → Bar
task_bar all e = record { first = e; last = end_in (of_task e.task all); own = of_task e.task all; cancelled = None }

-- ---- scopes and nurseries

-- whether the scope or nursery with this label is left
abbrev pub is_left : Label → What → Bool
is_left l (happens (leaves kind label inside caught outside)) = same_label l label
is_left l _ = false

-- the first event with which it is left
abbrev pub left_in : Label → List Event → Option Event
left_in l [] = None
left_in l (e ∷ es) = if is_left l e.what then Some e else left_in l es

-- whether a moment is not after an event, or, where there is no event, its tick is not after the limit
abbrev pub is_by : Clock → Tick → Option Event → ℕ → Bool
is_by clock until (Some e) m = nat_le m e.tick
is_by clock (Some limit) None m = nat_le (tick_of clock m) limit
is_by clock None None m = true

-- a moment, if it is not before the first event and not after the last one or the limit
abbrev pub moment_between : Clock → Tick → Event → Option Event → Option ℕ → Option ℕ
moment_between clock until e last None = None
moment_between clock until e last (Some m) = if nat_le e.tick m && is_by clock until last m then Some m else None

abbrev pub block_bar : Clock → Table → Tick → List Event → Label → Event → Bar
block_bar clock table until all l e =
    record { first = e; last = left_in l all; own = []; cancelled = moment_between clock until e (left_in l all) (table l) }

-- The bar of the scope or nursery that is entered with this event, if one is. An event of the job is no scope, and has no bar.
abbrev pub with_block : Clock → Table → Tick → List Event → Event → What → List Bar → List Bar
with_block clock table until all e (happens (enters kind label deadline shield)) others =
    block_bar clock table until all label e ∷ others
with_block clock table until all e _ others = others

abbrev pub block_bars : Clock → Table → Tick → List Event → List Event → List Bar
block_bars clock table until all [] = []
block_bars clock table until all (e ∷ es) = with_block clock table until all e e.what (block_bars clock table until all es)

-- ---- all of them

-- the bars of a task that starts with this event: its own, and below it those of the scopes and nurseries that it entered
abbrev pub bars_at : Clock → Table → Tick → List Event → Event → List Bar
bars_at clock table until all e =
    if is_start e.what then task_bar all e ∷ block_bars clock table until all (of_task e.task all) else []

abbrev pub bars_from : Clock → Table → Tick → List Event → List Event → List Bar
bars_from clock table until all [] = []
bars_from clock table until all (e ∷ es) = bars_at clock table until all e ++ bars_from clock table until all es

-- the bars of a story, whole or up to a limit, from its events in the order of the walk: tasks in the order in which the walk
-- starts them
abbrev pub bars_of : Clock → Table → Tick → List Event → List Bar
bars_of clock table until es = bars_from clock table until es es
