use Rattle.std.proofs.Common.{◌≡◌, drop, max}
use Rattle.std.specs.Prelude.{map}
use Rattle.story_index.specs.Seen.{event_in}
use Rattle.job_story.specs.Sentences.{label_width}
use Rattle.story_text.proofs.lines.label_width.Given as goal

abbrev pub invariant-events : goal.invariant-events
invariant-events l = max l.width (label_width (map event_in (drop l.event-index l.events))) ≡ label_width (map event_in l.events)
