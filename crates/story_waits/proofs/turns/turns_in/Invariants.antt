use Rattle.std.proofs.Common.{◌≡◌, drop}
use Rattle.std.specs.Prelude.{◌++◌, map}
use Rattle.job_story.specs.Notes as notes
use Rattle.story_waits.specs.Moves.{turn_in}
use Rattle.story_waits.specs.Records.{KnowsStarts}
use Rattle.story_index.specs.Seen.{event_in}
use Rattle.story_waits.proofs.turns.turns_in.Given as goal

abbrev pub invariant-events : goal.invariant-events
invariant-events l =
    KnowsStarts l.records (map event_in l.walked)
    × (map turn_in l.turns.items ++ notes.turns_in (map event_in l.walked) l.i l.joined (map event_in (drop l.i l.walked))
    ≡ notes.turns_in (map event_in l.walked) 0 0 (map event_in l.walked))
