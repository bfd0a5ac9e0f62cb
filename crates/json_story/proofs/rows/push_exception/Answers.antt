use Rattle.std.proofs.Common.{◌≡◌, ◌++◌, subst}
use Rattle.std.specs.Prelude.{OnOk, codes, true}
use Rattle.serde_json.specs.Data.{Members, member}
use Rattle.serde_json.specs.Written.{members_text}
use Rattle.task_table.specs.Records.{ending_in}
use Rattle.json_story.proofs.ReportIntegers.{exception_has_no_float}
use Rattle.json_story.proofs.rows.push_exception.Goals as goal

pub push_member-requires : goal.push_member-requires
push_member-requires c = exception_has_no_float _ (ending_in c.args.outcome.now) c.in_ok-exception.ensures

pub returns : goal.returns
returns c =
    subst (λ d. OnOk c.push_member.result ((later : Members) → c.push_member.new.out.items ++ members_text true later
    ≡ c.args.out.now.items ++ members_text true (member (codes "exception") d later))) c.in_ok-exception.ensures c.push_member.ensures
