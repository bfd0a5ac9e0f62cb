use Rattle.std.specs.Prelude.{map}
use Rattle.race_text.specs.CopyViews.{sight_held}
use Rattle.race_text.proofs.Nothing.{meets_none_by}
use Rattle.race_text.proofs.meeting.first_meeting.Goals as goal

pub returns-then-not-may_meet : goal.returns-then-not-may_meet
returns-then-not-may_meet c =
    meets_none_by c.args.hair (sight_held c.args.one) (map sight_held c.args.sights.now) _ c.may_meet.ensures c.if-not-may_meet.true
