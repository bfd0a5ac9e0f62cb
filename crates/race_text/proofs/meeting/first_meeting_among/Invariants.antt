use Rattle.std.proofs.Common.{◌≡◌, ◌≤◌, drop, length, map}
use Rattle.std.specs.Option.{option_map}
use Rattle.race_text.specs.Copies.{first_meeting_among}
use Rattle.race_text.specs.CopyViews.{sight_held, met_held}
use Rattle.race_text.proofs.meeting.first_meeting_among.Given as goal

abbrev pub invariant-sights : goal.invariant-sights
invariant-sights l = record {
  within : l.left ≤ length l.sights;
  found : option_map met_held l.found ≡ first_meeting_among l.hair (map sight_held l.sights) (map sight_held (drop l.left l.sights));
}

abbrev pub decreases-sights : goal.decreases-sights
decreases-sights l = l.left
