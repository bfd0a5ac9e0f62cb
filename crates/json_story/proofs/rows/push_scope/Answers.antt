use Rattle.std.proofs.Common.{◌≡◌, ◌++◌, subst}
use Rattle.std.specs.Prelude.{OnOk}
use Rattle.serde_json.specs.Written.{compact_text}
use Rattle.job_meaning.specs.Shown.{scope_shown}
use Rattle.json_story.proofs.ReportIntegers.{entry_has_no_float}
use Rattle.json_story.proofs.rows.push_scope.Goals as goal

pub push_value-requires : goal.push_value-requires
push_value-requires c = entry_has_no_float _ (scope_shown c.args.label.now c.args.tick c.args.caught) c.in_ok-value.ensures

pub returns : goal.returns
returns c =
    subst (λ d. OnOk c.push_value.result (c.push_value.new.out.items ≡ c.args.out.now.items ++ compact_text d)) c.in_ok-value.ensures c.push_value.ensures
