-- The part of a story that concerns one task: its own events, those of each task that caused one of its cancellations, and so on.
use Rattle.std.specs.Prelude.{ℕ, zero, suc, Bool, true, false, ◌&&◌, ◌||◌, not, Option, Some, None, List, [], ◌∷◌, length, if◌then◌else◌}
use Rattle.std.specs.Str.{bytes_eq}
use Rattle.job_tree.specs.Tree.{Tree}
use Rattle.exceptions.specs.Exceptions.{Label}
use Rattle.job_meaning.specs.Log.{Table, same_label}
use Rattle.job_meaning.specs.Moments.{clock_of}
use Rattle.job_meaning.specs.Tables.{Tables}
use Rattle.job_story.specs.Story.{is_cancelled}
use Rattle.job_story.specs.Events.{What, starts, happens, ends, Event, in_order}
use Rattle.job_story.specs.Notes.{notes_in}
use Rattle.job_story.specs.Causes.{Cause, by_deadline, by_task, by_set, by_failure, by_cancellation, cause_of}
use Rattle.job_story.specs.Sentences.{kept_text, job_events, job_notes}
use Rattle.exceptions.specs.Texts.{label_text}
use Rattle.job_story.specs.Limit.{kept_text_to, walked_to}

-- the task of a cause, or `None` where the cause is a deadline
abbrev pub task_of : Option Cause → Option Label
task_of None = None
task_of (Some by_deadline) = None
task_of (Some (by_task task t)) = Some task
task_of (Some (by_set task t)) = Some task
task_of (Some (by_failure task t)) = Some task
task_of (Some (by_cancellation task t)) = Some task

abbrev pub cause_by : Table → List Event → Option Label → Option Label
cause_by table all None = None
cause_by table all (Some l) = task_of (cause_of table all l)

-- the task that caused an event, where the event is a cancellation
abbrev pub causer_of : Table → List Event → What → Option Label
causer_of table all (happens (is_cancelled by during in_cleanup)) = cause_by table all by
causer_of table all _ = None

abbrev pub is_some_label : Label → Option Label → Bool
is_some_label l None = false
is_some_label l (Some m) = same_label l m

-- whether an event of the task `whose` is a cancellation that the task `l` caused
abbrev pub is_causer_of : Table → List Event → Label → Label → List Event → Bool
is_causer_of table all l whose [] = false
is_causer_of table all l whose (e ∷ es) =
    (if same_label whose e.task then is_some_label l (causer_of table all e.what) else false) || is_causer_of table all l whose es

-- these tasks, and each task of an event that caused a cancellation of one of them
abbrev pub is_among : Label → List Label → Bool
is_among l [] = false
is_among l (m ∷ ms) = same_label l m || is_among l ms

abbrev pub is_causer_of_some : Table → List Event → Label → List Label → Bool
is_causer_of_some table all l [] = false
is_causer_of_some table all l (m ∷ ms) = is_causer_of table all l m all || is_causer_of_some table all l ms

abbrev pub add_if : Bool → Label → List Label → List Label
add_if true l ls = l ∷ ls
add_if false l ls = ls

abbrev pub with_causers : Table → List Event → List Label → List Event → List Label
with_causers table all kept [] = kept
with_causers table all kept (e ∷ es) =
    let rest = with_causers table all kept es in
    add_if (is_causer_of_some table all e.task kept && not (is_among e.task rest)) e.task rest

-- the labels with their causers, and the causers of those, n times
abbrev pub causers_in : ℕ → Table → List Event → List Label → List Label
causers_in zero table all kept = kept
causers_in (suc n) table all kept = causers_in n table all (with_causers table all kept all)

abbrev pub of_tasks : List Label → List Event → List Event
of_tasks kept [] = []
of_tasks kept (e ∷ es) = if is_among e.task kept then e ∷ of_tasks kept es else of_tasks kept es

-- the tasks that concern a task: itself, each that caused one of its cancellations, and so on
abbrev pub concerned_tasks : Table → List Event → Label → List Label
concerned_tasks table all l = causers_in (length all) table all (l ∷ [])

-- the text of the story of a job by two tables that concerns a task
abbrev pub story_of_task : Tables → Tree → List ℕ → Label → List ℕ
story_of_task k job input l =
    let all = job_events k job input in
    kept_text (clock_of job.format) k.cancelled_from (job_notes k job input) all (of_tasks (concerned_tasks k.cancelled_from all l) all)

-- the text of the part of a story that concerns a task, up to a limit, with what the tasks do that have not ended by then
abbrev pub story_of_task_to : Tables → ℕ → Tree → List ℕ → Label → List ℕ
story_of_task_to k limit job input l =
    let walked = walked_to k limit job input in
    let all = in_order walked in
    let tasks = concerned_tasks k.cancelled_from all l in
    kept_text_to (clock_of job.format) k.cancelled_from (notes_in walked) limit all (of_tasks tasks all) (of_tasks tasks walked)

-- ---- a task by its label's text

abbrev pub if_text : List ℕ → Label → Option Label → Option Label
if_text text l other = if bytes_eq (label_text l) text then Some l else other

abbrev pub task_at : List ℕ → Label → What → Option Label → Option Label
task_at text l (starts home lent) other = if_text text l other
task_at text l (happens what) other = other
task_at text l (ends home exc) other = other

-- the first task whose label has this text
abbrev pub task_named : List ℕ → List Event → Option Label
task_named text [] = None
task_named text (e ∷ es) = task_at text e.task e.what (task_named text es)
