use Rattle.std.proofs.Common.{◌≡◌, drop, map}
use Rattle.race_text.specs.Copies.{first_meeting}
use Rattle.race_text.specs.CopyViews.{sight_held}
use Rattle.race_text.proofs.meeting.first_meeting.Given as goal

abbrev pub invariant-sights : goal.invariant-sights
invariant-sights l =
    first_meeting l.hair (sight_held l.one) (map sight_held (drop l.other-index l.sights)) ≡ first_meeting l.hair (sight_held l.one) (map sight_held l.sights)
