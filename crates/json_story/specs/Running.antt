-- The tasks of a story that have not ended, as JSON objects.
use Rattle.std.specs.Prelude.{ℕ, Option, Some, None, List, codes}
use Rattle.serde_json.specs.Data.{Data, null, object, Members, no_members, put}
use Rattle.exceptions.specs.Exceptions.{Label}
use Rattle.job_meaning.specs.Moments.{tick_of}
use Rattle.job_meaning.specs.declared.clock.Clock.{Clock}
use Rattle.job_story.specs.Story.{sleeps, awaits, queues, waits}
use Rattle.job_story.specs.Events.{What, happens, Event}
use Rattle.json_story.specs.Values.{integer, word, label_json}
use Rattle.json_story.specs.Events.{with_ask, moment_json}
use Rattle.job_story.specs.Limit.{last_event}

-- nothing that a task waits for
abbrev pub with_idle : Members → Members
with_idle ms = put (codes "doing") null ms

-- what a task is doing after this has happened in a moment: it sleeps, or waits for a nursery or an event, or in a queue
abbrev pub with_doing : Clock → ℕ → What → Members → Members
with_doing clock t (happens (sleeps until)) ms =
    put (codes "until") (moment_json clock until) (put (codes "since") (integer (tick_of clock t))
    (put (codes "doing") (word (codes "sleeping")) ms))
with_doing clock t (happens (waits nursery exc)) ms =
    put (codes "nursery") (label_json nursery) (put (codes "since") (integer (tick_of clock t))
    (put (codes "doing") (word (codes "waiting")) ms))
with_doing clock t (happens (awaits event)) ms =
    put (codes "event") (label_json event) (put (codes "since") (integer (tick_of clock t))
    (put (codes "doing") (word (codes "waiting")) ms))
with_doing clock t (happens (queues ask label part left)) ms =
    with_ask ask (codes "object") label (put (codes "since") (integer (tick_of clock t)) (put (codes "doing") (word (codes "waiting")) ms))
with_doing clock t _ ms = with_idle ms

abbrev pub with_last : Clock → Option Event → Members → Members
with_last clock None ms = with_idle ms
with_last clock (Some e) ms = with_doing clock e.tick e.what ms

-- a task, by the last of these events that is its own
abbrev pub task_json : Clock → List Event → Label → Data
task_json clock es l = object (with_last clock (last_event l es None) (put (codes "task") (label_json l) no_members))
