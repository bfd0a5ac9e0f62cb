use Rattle.std.proofs.Common.{◌∙◌}
use Rattle.std.specs.Prelude.{codes}
use Rattle.serde_json.specs.Data.{member, no_members}
use Rattle.job_story.specs.Held.{unboxed_exc}
use Rattle.json_story.specs.Values.{integer, label_json}
use Rattle.json_story.specs.Events.{exc_or_null, label_or_null, moment_json}
use Rattle.json_story.proofs.Integers.{exc_has_no_float}
use Rattle.json_story.proofs.frequent.push_end.Goals as goal

pub push_member-requires : goal.push_member-requires
push_member-requires c = exc_has_no_float _ (unboxed_exc c.args.ending.exc.now) c.in_ok-exc_or_null.ensures

pub returns : goal.returns
returns c =
    let tick = member (codes "tick") (integer c.args.tick) no_members in
    let task = member (codes "task") (label_json c.args.task.now) tick in
    let nursery = member (codes "nursery") (label_or_null c.args.ending.nursery.now) task in
    let from = member (codes "from") (moment_json c.args.clock c.args.ending.from) nursery in
    let exception = member (codes "exception") (exc_or_null (unboxed_exc c.args.ending.exc.now)) from in
    c.in_ok-push.ensures.items
    ∙ rw c.from.ensures at (c.in_ok-push_member-5.ensures no_members)
    ∙ rw c.in_ok-label_value.ensures at (c.in_ok-push_member-4.ensures tick)
    ∙ rw c.in_ok-label_or_null.ensures at (c.in_ok-push_member-3.ensures task)
    ∙ rw c.moment_value.ensures at (c.in_ok-push_member-2.ensures nursery)
    ∙ rw c.in_ok-exc_or_null.ensures at (c.in_ok-push_member.ensures from)
    ∙ rw c.in_ok-try_from_str.ensures at (c.in_ok-push_first_member.ensures exception)
