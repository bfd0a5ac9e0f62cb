use Rattle.std.proofs.Common.{◌≡◌, drop}
use Rattle.std.specs.Prelude.{map}
use Rattle.story_index.specs.Seen.{event_in}
use Rattle.story_waits.specs.Moves.{some_may_move}
use Rattle.story_waits.proofs.turns.has_moves.Given as goal

abbrev pub invariant-events : goal.invariant-events
invariant-events l = some_may_move (map event_in (drop l.event-index l.walked)) ≡ some_may_move (map event_in l.walked)
