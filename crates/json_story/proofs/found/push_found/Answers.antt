use Rattle.std.proofs.Common.{◌∙◌, map}
use Rattle.std.specs.Prelude.{codes}
use Rattle.serde_json.specs.Data.{member, no_members}
use Rattle.job_story.specs.Held.{span_in}
use Rattle.json_story.specs.Values.{integer, label_json, list_of}
use Rattle.json_story.specs.Events.{span_json}
use Rattle.json_story.proofs.found.push_found.Goals as goal

pub returns : goal.returns
returns c =
    let tick = member (codes "tick") (integer c.args.tick) no_members in
    let task = member (codes "task") (label_json c.args.task.now) tick in
    let lines = member (codes "lines") (list_of (map span_json (map span_in c.args.lines.now))) task in
    c.in_ok-push.ensures.items
    ∙ rw c.from.ensures at (c.in_ok-push_member-2.ensures no_members)
    ∙ rw c.in_ok-label_value.ensures at (c.in_ok-push_member.ensures tick)
    ∙ c.in_ok-push_lines.ensures task
    ∙ rw c.in_ok-try_from_str.ensures at (c.in_ok-push_first_member.ensures lines)
