use Rattle.std.proofs.Common.{◌≡◌, map, drop}
use Rattle.std.specs.Prelude.{None}
use Rattle.story_index.specs.Seen.{event_in}
use Rattle.svg.specs.Arrows.{canceller}
use Rattle.svg.specs.Held.{label_seen}
use Rattle.svg.proofs.culprits.canceller.Given as goal

abbrev pub invariant-events : goal.invariant-events
invariant-events l =
    canceller l.moment (label_seen l.found) (map event_in (drop l.event-index l.events)) ≡ canceller l.moment None (map event_in l.events)
