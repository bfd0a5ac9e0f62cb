use Rattle.std.proofs.Common.{◌≡◌, ◌++◌, subst}
use Rattle.std.specs.Prelude.{OnOk, codes, true}
use Rattle.serde_json.specs.Data.{Members, member}
use Rattle.serde_json.specs.Written.{members_text}
use Rattle.json_story.proofs.Integers.{tick_has_no_float}
use Rattle.json_story.proofs.story.push_limit.Goals as goal

pub push_member-requires : goal.push_member-requires
push_member-requires c = tick_has_no_float _ c.args.until c.tick_value-limit.ensures

pub returns : goal.returns
returns c =
    subst (λ d. OnOk c.push_member.result ((later : Members) → c.push_member.new.out.items ++ members_text true later
    ≡ c.args.out.now.items ++ members_text true (member (codes "limit") d later))) c.tick_value-limit.ensures c.push_member.ensures
