use Rattle.std.proofs.Common.{◌∙◌}
use Rattle.std.specs.Prelude.{codes}
use Rattle.serde_json.specs.Data.{member, no_members}
use Rattle.json_story.specs.Values.{integer, label_json}
use Rattle.json_story.specs.Events.{moment_json}
use Rattle.json_story.proofs.frequent.push_sleep.Goals as goal

pub returns : goal.returns
returns c =
    let until = member (codes "until") (moment_json c.args.clock c.args.until) no_members in
    let tick = member (codes "tick") (integer c.args.tick) until in
    let task = member (codes "task") (label_json c.args.task.now) tick in
    c.in_ok-push.ensures.items
    ∙ rw c.moment_value.ensures at (c.in_ok-push_member-3.ensures no_members)
    ∙ rw c.from.ensures at (c.in_ok-push_member-2.ensures until)
    ∙ rw c.in_ok-label_value.ensures at (c.in_ok-push_member.ensures tick)
    ∙ rw c.in_ok-try_from_str.ensures at (c.in_ok-push_first_member.ensures task)
