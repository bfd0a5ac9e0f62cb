use Rattle.std.proofs.Common.{◌≡◌, drop}
use Rattle.std.specs.Prelude.{map}
use Rattle.story_index.specs.Seen.{event_in}
use Rattle.outcomes.specs.Notes.{replaces_it, some_event}
use Rattle.outcomes.proofs.lost.is_replaced.Given as goal

abbrev pub invariant-events : goal.invariant-events
invariant-events l =
    some_event (replaces_it l.name) (map event_in (drop l.event-index l.events)) ≡ some_event (replaces_it l.name) (map event_in l.events)
