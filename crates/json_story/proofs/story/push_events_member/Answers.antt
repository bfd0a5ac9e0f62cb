use Rattle.std.proofs.Common.{◌++◌, [], ◌∷◌, ◌∙◌, ap, map, append_assoc}
use Rattle.std.specs.Prelude.{codes, true}
use Rattle.json.specs.Print.{quoted}
use Rattle.serde_json.specs.Written.{compact_text, members_text}
use Rattle.story_index.specs.Seen.{event_in}
use Rattle.json_story.specs.Values.{list_of}
use Rattle.json_story.specs.Events.{event_json}
use Rattle.json_story.specs.Known.{clock_in, events_in, cancelled_from_in, notes_held}
use Rattle.json_story.proofs.story.push_events_member.Goals as goal

pub returns : goal.returns
returns c = λ later.
    let shown = event_json (clock_in c.args.known.now) (cancelled_from_in c.args.known.now) (notes_held c.args.known.now) (events_in c.args.known.now) in
    let text = compact_text (list_of (map shown (map event_in c.args.sorted.now))) in
    let rest = quoted (codes "events") ++ 58 ∷ (text ++ members_text true later) in
    ap (λ all. all ++ members_text true later) c.in_ok-push_events.ensures
    ∙ append_assoc c.push_key.new.out.items text (members_text true later)
    ∙ c.in_ok-push_key.ensures (text ++ members_text true later)
    ∙ ap (λ all. all ++ rest) c.in_ok-push.ensures.items ∙ append_assoc c.args.out.now.items (123 ∷ []) rest
