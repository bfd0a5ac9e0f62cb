-- The story up to a limit, of a job that does not end by then.
use Rattle.std.specs.Prelude.{ℕ, Bool, true, false, ◌&&◌, ◌||◌, not, Option, Some, None, List, [], ◌∷◌, ◌++◌, codes, decimal, nat_le, if◌then◌else◌}
use Rattle.exceptions.specs.Exceptions.{Label}
use Rattle.job_tree.specs.Tree.{Tree}
use Rattle.job_meaning.specs.Log.{Table, same_label}
use Rattle.job_meaning.specs.Meaning.{root_label}
use Rattle.job_meaning.specs.Tables.{Tables}
use Rattle.job_meaning.specs.Moments.{clock_of, tick_of}
use Rattle.job_meaning.specs.declared.clock.Clock.{Clock}
use Rattle.job_story.specs.Story.{sleeps, awaits, queues, waits}
use Rattle.job_story.specs.Tell.{story_by}
pub use Rattle.job_story.specs.Events.{is_start}
pub use Rattle.job_story.specs.Deadlock.{last_event}
use Rattle.job_story.specs.Deadlock.{first_cycle, cycle_text}
use Rattle.job_story.specs.Events.{What, starts, happens, ends, Event, events_of, in_order}
use Rattle.job_story.specs.Sentences.{until_text, ask_text, padded_text, label_width, kept_text}
use Rattle.job_story.specs.Notes.{Notes, notes_in}
use Rattle.exceptions.specs.Texts.{label_text}

-- the events up to a tick
abbrev pub by_limit : Clock → ℕ → List Event → List Event
by_limit clock limit [] = []
by_limit clock limit (e ∷ es) = if nat_le (tick_of clock e.tick) limit then e ∷ by_limit clock limit es else by_limit clock limit es

-- ---- which tasks still run

abbrev pub is_end : What → Bool
is_end (starts home lent) = false
is_end (happens what) = false
is_end (ends home exc) = true

-- whether a task has ended in these events
abbrev pub has_ended : Label → List Event → Bool
has_ended l [] = false
has_ended l (e ∷ es) = (is_end e.what && same_label l e.task) || has_ended l es

abbrev pub start_if : Bool → Label → List Label → List Label
start_if true l ls = l ∷ ls
start_if false l ls = ls

-- the tasks that were started and have not ended, in the order of the events
abbrev pub running_in : List Event → List Event → List Label
running_in all [] = []
running_in all (e ∷ es) = start_if (is_start e.what && not (has_ended e.task all)) e.task (running_in all es)

-- ---- what they do

-- whether an event is never set, by the moment from which it is set
abbrev pub unset_text : Option ℕ → List ℕ
unset_text None = codes "; nothing sets it"
unset_text (Some t) = []

-- What a task does after this event: a task that has not ended sleeps, or waits for a nursery or an event, or in a queue.
abbrev pub doing_text : Clock → Table → ℕ → What → List ℕ
doing_text clock table t (happens (sleeps until)) = codes "sleeping " ++ until_text clock until ++ codes " since " ++ decimal (tick_of clock t)
doing_text clock table t (happens (waits nursery exc)) =
    codes "waiting for nursery " ++ label_text nursery ++ codes " since " ++ decimal (tick_of clock t)
doing_text clock table t (happens (awaits event)) =
    codes "waiting for event " ++ label_text event ++ codes " since " ++ decimal (tick_of clock t) ++ unset_text (table event)
doing_text clock table t (happens (queues ask object lent left)) =
    codes "waiting " ++ ask_text ask object ++ codes " since " ++ decimal (tick_of clock t)
doing_text clock table t _ = []

-- what a task does after the last event of its own
abbrev pub last_text : Clock → Table → Option Event → List ℕ
last_text clock table None = []
last_text clock table (Some e) = doing_text clock table e.tick e.what

abbrev pub running_text : Clock → Table → ℕ → List Event → List Label → List ℕ
running_text clock table width es [] = []
running_text clock table width es (l ∷ ls) =
    codes "  " ++ padded_text width (label_text l) ++ codes "  " ++ last_text clock table (last_event l es None) ++ codes "\n"
    ++ running_text clock table width es ls

-- what the tasks of some events do that have not ended in them, given in order and in the order of the walk, and the deadlock in which some
-- are, by all events up to the limit
abbrev pub standing_text : Clock → Table → List Event → List Event → List Event → List ℕ
standing_text clock table all sorted walked =
    running_text clock table (label_width sorted) sorted (running_in walked walked) ++ cycle_text (first_cycle all (running_in all all))

-- ---- the text

-- the text of selected events of a story up to a limit, given in order and in the order of the walk; `all` has all events up to it
abbrev pub kept_text_to : Clock → Table → Notes → ℕ → List Event → List Event → List Event → List ℕ
kept_text_to clock table notes limit all sorted walked =
    kept_text clock table notes all sorted ++ codes "limit " ++ decimal limit ++ codes "\n"
    ++ standing_text clock table all sorted walked

-- the events of a job by two tables up to a limit, in the order of the walk
abbrev pub walked_to : Tables → ℕ → Tree → List ℕ → List Event
walked_to k limit job input = by_limit (clock_of job.format) limit (events_of (root_label job.name) (story_by k job input))

-- the text of the story of a job by two tables up to a limit, and what the tasks do that have not ended by then
abbrev pub story_to : Tables → ℕ → Tree → List ℕ → List ℕ
story_to k limit job input =
    let walked = walked_to k limit job input in
    kept_text_to (clock_of job.format) k.cancelled_from (notes_in walked) limit (in_order walked) (in_order walked) walked
