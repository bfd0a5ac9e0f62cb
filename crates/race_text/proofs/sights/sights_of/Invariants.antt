use Rattle.std.proofs.Common.{◌≡◌, ◌++◌, drop}
use Rattle.std.specs.Prelude.{map}
use Rattle.story_index.specs.Seen.{event_in}
use Rattle.race_text.specs.Copies.{sights_from, sights_of}
use Rattle.race_text.specs.CopyViews.{label_seen, sight_held}
use Rattle.race_text.proofs.sights.sights_of.Given as goal

abbrev pub invariant-events : goal.invariant-events
invariant-events l =
    map sight_held l.sights.items ++ sights_from l.clock l.name (label_seen l.current) (map event_in (drop l.event-index l.walked))
    ≡ sights_of l.clock l.name (map event_in l.walked)
