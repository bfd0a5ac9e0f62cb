use Rattle.std.proofs.Common.{◌∙◌}
use Rattle.std.specs.Prelude.{codes}
use Rattle.serde_json.specs.Data.{member, no_members}
use Rattle.json_story.specs.Values.{integer, label_json}
use Rattle.json_story.specs.Events.{label_or_null}
use Rattle.json_story.proofs.frequent.push_start.Goals as goal

pub returns : goal.returns
returns c =
    let tick = member (codes "tick") (integer c.args.tick) no_members in
    let task = member (codes "task") (label_json c.args.task.now) tick in
    let nursery = member (codes "nursery") (label_or_null c.args.nursery.now) task in
    c.in_ok-push.ensures.items
    ∙ rw c.from.ensures at (c.in_ok-push_member-3.ensures no_members)
    ∙ rw c.in_ok-label_value.ensures at (c.in_ok-push_member-2.ensures tick)
    ∙ rw c.in_ok-label_or_null.ensures at (c.in_ok-push_member.ensures task)
    ∙ rw c.in_ok-try_from_str.ensures at (c.in_ok-push_first_member.ensures nursery)
