-- The events of which a story has most, as objects whose members are written in the order of their keys.
use Rattle.std.specs.Prelude.{ℕ, Option, codes}
use Rattle.serde_json.specs.Data.{Data, object, member, no_members}
use Rattle.exceptions.specs.Exceptions.{Label, Exc}
use Rattle.cancel_scopes.specs.Sight.{Tick}
use Rattle.job_meaning.specs.declared.clock.Clock.{Clock}
use Rattle.json_story.specs.Values.{integer, word, label_json}
use Rattle.json_story.specs.Events.{exc_or_null, label_or_null, moment_json}

-- a task begins in a tick
abbrev pub start_json : Label → ℕ → Option Label → Data
start_json task t home =
    object (member (codes "event") (word (codes "starts")) (member (codes "nursery") (label_or_null home)
    (member (codes "task") (label_json task) (member (codes "tick") (integer t) no_members))))

-- it falls asleep in a tick, until a moment
abbrev pub sleep_json : Clock → Label → ℕ → Tick → Data
sleep_json clock task t until =
    object (member (codes "event") (word (codes "sleeps")) (member (codes "task") (label_json task)
    (member (codes "tick") (integer t) (member (codes "until") (moment_json clock until) no_members))))

-- it ends in a tick, and its exception cancels its nursery from a moment on
abbrev pub end_json : Clock → Label → ℕ → Option Label → Option Exc → Tick → Data
end_json clock task t home exc from =
    object (member (codes "event") (word (codes "ends")) (member (codes "exception") (exc_or_null exc)
    (member (codes "from") (moment_json clock from) (member (codes "nursery") (label_or_null home)
    (member (codes "task") (label_json task) (member (codes "tick") (integer t) no_members))))))
