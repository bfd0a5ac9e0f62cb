use Rattle.std.proofs.Common.{◌≡◌, ◌++◌, ◌∙◌, subst}
use Rattle.std.specs.Prelude.{OnOk, codes, true}
use Rattle.serde_json.specs.Data.{Members, member}
use Rattle.serde_json.specs.Written.{members_text}
use Rattle.json_story.proofs.rows.push_outcome.Goals as goal

pub returns : goal.returns
returns c =
    subst (λ d. OnOk c.push_member.result ((later : Members) → c.push_member.new.out.items ++ members_text true later
    ≡ c.args.out.now.items ++ members_text true (member (codes "outcome") d later))) (c.in_ok-word.ensures ∙ c.outcome_word.ensures) c.push_member.ensures
