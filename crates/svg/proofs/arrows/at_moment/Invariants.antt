use Rattle.std.proofs.Common.{◌≡◌, ◌++◌, drop, map}
use Rattle.story_index.specs.Seen.{event_in}
use Rattle.svg.specs.Arrows.{at_moment}
use Rattle.svg.proofs.arrows.at_moment.Given as goal

abbrev pub invariant-events : goal.invariant-events
invariant-events l =
    map event_in l.found.items ++ at_moment l.moment (map event_in (drop l.event-index l.events)) ≡ at_moment l.moment (map event_in l.events)
