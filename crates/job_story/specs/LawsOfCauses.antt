-- The laws about the causes that stories name. They are the contracts of functions that do nothing.
use Rattle.std.specs.Prelude.{◌≡◌, ℕ, true, Some, is_some, List, []}
use Rattle.job_tree.specs.Tree.{Tree}
use Rattle.job_tree.specs.Names.{GivesNamesOnce}
use Rattle.exceptions.specs.Exceptions.{Label}
use Rattle.job_meaning.specs.Log.{Table}
use Rattle.job_meaning.specs.Moments.{clock_of, only_at}
use Rattle.job_meaning.specs.Follow.{IsSettled}
use Rattle.job_meaning.specs.Tables.{Tables}
use Rattle.job_story.specs.Tell.{story_by}
use Rattle.job_story.specs.Events.{Event, in_order}
use Rattle.job_story.specs.Causes.{Cause, cause_of}
use Rattle.job_story.specs.Sentences.{job_events}
use Rattle.job_story.specs.Limit.{walked_to}
use Rattle.job_story.specs.Focus.{is_among, concerned_tasks}
use Rattle.job_story.specs.Blame.{AllBlamed}
use Rattle.job_story.specs.Nesting.{AllNested}
use Rattle.job_story.specs.Waking.{awake, AllInTime}
use Rattle.job_story.specs.Shown.{IsIn, IsShown, HasACause}
use Rattle.job_story.specs.Closed.{IsClosed}

-- Where a story says by which scope or nursery a task is cancelled, that one encloses the task, no shield hides it, and it is the
-- innermost that is cancelled from the effective deadline of the task on. Of a task that does not ask a limiter or channel it may name none.
abbrev pub CancellationsAreSeen : Type 0
CancellationsAreSeen = (k : Tables) (job : Tree) (input : List ℕ) → AllBlamed k.cancelled_from [] (story_by k job input)

-- The scopes and nurseries of a story are nested, and are left as the language says. So the stack by which `AllBlamed` reads a
-- cancellation is that of the scopes and nurseries that enclose the task.
abbrev pub BlocksAreNested : Type 0
BlocksAreNested =
    (k : Tables) (job : Tree) (input : List ℕ) → AllNested (clock_of job.format) k.cancelled_from (only_at 0) [] [] (story_by k job input)

-- The time of a task passes only while it sleeps, or waits for a nursery, for an event or in the queue of a limiter or channel, and by rounds
-- at a checkpoint too. So a task that falls asleep until a moment goes on in that moment, or is cancelled by then; and one that waits for an
-- event goes on in the moment from which the event is set by the table, or is cancelled before. One that waits in a queue goes on in a later
-- moment, and one that is granted something without a wait asked in the moment before. The root task is started in moment 0, and nothing
-- follows it.
abbrev pub TimePassesAsleep : Type 0
TimePassesAsleep =
    (k : Tables) (job : Tree) (input : List ℕ) → AllInTime (clock_of job.format) k.cancelled_from (awake 0) 0 (story_by k job input)

-- The cause of a cancellation that a story names is in its events: the deadline, or an event of the moment before.
abbrev pub CausesAreShown : Type 0
CausesAreShown = (table : Table) (all : List Event) (l : Label) (c : Cause) → cause_of table all l ≡ Some c → IsShown table all l c

-- The tasks that concern a task are that task, and every task that caused a cancellation of one of them.
abbrev pub ConcernedTasksAreClosed : Type 0
ConcernedTasksAreClosed =
    (table : Table) (all : List Event) (l : Label) →
    (is_among l (concerned_tasks table all l) ≡ true) × IsClosed table all (concerned_tasks table all l)

-- By settled tables, where names are given once, each cancellation of a job's story names a scope or nursery, and that one has a cause
-- among the events of the story. Only that of a task that does not ask may name none.
abbrev pub CancellationsHaveCauses : Type 0
CancellationsHaveCauses =
    (k : Tables) (job : Tree) (input : List ℕ) → GivesNamesOnce job → IsSettled k.cancelled_from k.granted job input →
    (e : Event) → IsIn e (job_events k job input) → HasACause k.cancelled_from (job_events k job input) e.what

-- By such tables, each scope or nursery that is cancelled, and each event that is set, has a cause among the events of the story.
abbrev pub CancelledFromHasCauses : Type 0
CancelledFromHasCauses =
    (k : Tables) (job : Tree) (input : List ℕ) (l : Label) (from : ℕ) → GivesNamesOnce job → IsSettled k.cancelled_from k.granted job input →
    k.cancelled_from l ≡ Some from → is_some (cause_of k.cancelled_from (job_events k job input) l) ≡ true

-- What holds of the cancellations of a story holds of the story up to a limit, whose causes are read in the events up to it.
abbrev pub CancellationsHaveCausesByLimit : Type 0
CancellationsHaveCausesByLimit =
    (k : Tables) (limit : ℕ) (job : Tree) (input : List ℕ) → GivesNamesOnce job → IsSettled k.cancelled_from k.granted job input →
    (e : Event) → IsIn e (walked_to k limit job input) → HasACause k.cancelled_from (in_order (walked_to k limit job input)) e.what
