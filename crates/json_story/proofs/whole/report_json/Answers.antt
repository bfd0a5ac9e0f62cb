use Rattle.std.proofs.Common.{◌≡◌, [], ◌∷◌, ◌++◌, ◌∙◌, ap, sym, map, append_assoc}
use Rattle.std.specs.Prelude.{codes}
use Rattle.serde_json.specs.Data.{member, no_members}
use Rattle.serde_json.specs.Written.{compact_text}
use Rattle.job_runner.specs.Runs.{name_of, rows_of}
use Rattle.json_story.specs.Values.{list_of, report_json, row_json, text_json}
use Rattle.json_story.proofs.whole.report_json.Goals as goal

pub returns : goal.returns
returns c =
    let rows = rows_of c.args.run.now in
    let tasks = member (codes "tasks") (list_of (map row_json rows)) no_members in
    let job = member (codes "job") (text_json (name_of c.args.run.now)) tasks in
    let last = c.push_tasks.new.out.items in
    let all : last ++ 125 ∷ [] ≡ compact_text (report_json (name_of c.args.run.now) rows) =
    rw c.records.ensures at (c.in_ok-push_tasks.ensures no_members)
    ∙ rw (c.in_ok-text_value.ensures, c.bytes.ensures, c.name-name.ensures) at (c.in_ok-push_member.ensures tasks)
    ∙ rw (c.from.ensures, c.end.ensures, c.new-out.ensures.items) at (c.in_ok-push_first_member.ensures job) in
    c.in_ok-extend_from_slice.ensures.items ∙ sym (append_assoc last (125 ∷ []) (10 ∷ [])) ∙ ap (λ text. text ++ codes "\n") all
