use Rattle.std.proofs.Common.{◌≡◌, ◌++◌, map, subst}
use Rattle.std.specs.Prelude.{OnOk, codes, true}
use Rattle.serde_json.specs.Data.{Members, member}
use Rattle.serde_json.specs.Written.{members_text}
use Rattle.story_index.specs.Seen.{event_in}
use Rattle.json_story.proofs.Integers.{running_has_no_float}
use Rattle.json_story.proofs.story.push_running.Goals as goal

pub push_member-requires : goal.push_member-requires
push_member-requires c =
    running_has_no_float _ c.args.clock c.args.until (map event_in c.args.sorted.now) (map event_in c.args.walked.now)
    c.in_ok-value.ensures

pub returns : goal.returns
returns c =
    subst (λ d. OnOk c.push_member.result ((later : Members) → c.push_member.new.out.items ++ members_text true later
    ≡ c.args.out.now.items ++ members_text true (member (codes "running") d later))) c.in_ok-value.ensures c.push_member.ensures
