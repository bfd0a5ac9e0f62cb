use Rattle.std.proofs.Common.{◌++◌, [], ◌∷◌, ◌∙◌, ap, map, append_assoc}
use Rattle.std.specs.Prelude.{codes, true}
use Rattle.json.specs.Print.{quoted}
use Rattle.serde_json.specs.Written.{compact_text, members_text}
use Rattle.job_story.specs.Held.{span_in}
use Rattle.json_story.specs.Values.{list_of}
use Rattle.json_story.specs.Events.{span_json}
use Rattle.json_story.proofs.found.push_lines.Goals as goal

pub returns : goal.returns
returns c = λ later.
    let text = compact_text (list_of (map span_json (map span_in c.args.lines.now))) in
    let rest = quoted (codes "lines") ++ 58 ∷ (text ++ members_text true later) in
    ap (λ all. all ++ members_text true later) c.in_ok-push_spans.ensures
    ∙ append_assoc c.push_key.new.out.items text (members_text true later)
    ∙ c.in_ok-push_key.ensures (text ++ members_text true later)
    ∙ ap (λ all. all ++ rest) c.in_ok-push.ensures.items ∙ append_assoc c.args.out.now.items (44 ∷ []) rest
