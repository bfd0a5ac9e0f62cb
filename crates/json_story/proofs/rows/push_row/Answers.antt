use Rattle.std.proofs.Common.{◌∙◌, map}
use Rattle.std.specs.Prelude.{codes}
use Rattle.serde_json.specs.Data.{member, no_members}
use Rattle.task_table.specs.Records.{row_in}
use Rattle.json_story.specs.Values.{entry_json, exception_json, integer, label_json, list_of, outcome_json}
use Rattle.json_story.proofs.rows.push_row.Goals as goal

pub returns : goal.returns
returns c =
    let row = row_in c.args.row.now in
    let task = member (codes "task") (label_json row.label) no_members in
    let start = member (codes "start") (integer row.start) task in
    let outcome = member (codes "outcome") (outcome_json row.ending) start in
    let exception = member (codes "exception") (exception_json row.ending) outcome in
    let entries = member (codes "entries") (list_of (map entry_json row.entries)) exception in
    c.in_ok-push.ensures.items
    ∙ rw c.in_ok-label_value.ensures at (c.in_ok-push_member-2.ensures no_members)
    ∙ rw c.from-2.ensures at (c.in_ok-push_member.ensures task)
    ∙ c.in_ok-push_outcome.ensures start
    ∙ c.in_ok-push_exception.ensures outcome
    ∙ rw c.as_slice.ensures.value at (c.in_ok-push_entries_member.ensures exception)
    ∙ rw c.from.ensures at (c.in_ok-push_first_member.ensures entries)
