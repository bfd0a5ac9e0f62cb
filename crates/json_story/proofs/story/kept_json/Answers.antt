use Rattle.std.proofs.Common.{◌≡◌, [], ◌∷◌, ◌++◌, ◌∙◌, ap, sym, map, append_assoc}
use Rattle.std.specs.Prelude.{codes}
use Rattle.serde_json.specs.Data.{member, no_members}
use Rattle.serde_json.specs.Written.{compact_text}
use Rattle.story_index.specs.Seen.{event_in}
use Rattle.json_story.specs.Values.{list_of, text_json}
use Rattle.json_story.specs.Events.{tick_json}
use Rattle.json_story.specs.Known.{clock_in, events_in, cancelled_from_in, notes_held}
use Rattle.json_story.specs.Stories.{kept_json, running_json}
use Rattle.json_story.proofs.story.kept_json.Goals as goal

pub returns : goal.returns
returns c =
    let sorted = map event_in c.args.sorted.now in
    let walked = map event_in c.args.walked.now in
    let table = cancelled_from_in c.args.known.now in
    let clock = clock_in c.args.known.now in
    let notes = notes_held c.args.known.now in
    let events = events_in c.args.known.now in
    let running = member (codes "running") (list_of (running_json clock c.args.until sorted walked)) no_members in
    let limit = member (codes "limit") (tick_json c.args.until) running in
    let job = member (codes "job") (text_json c.args.job) limit in
    let last = c.push_running.new.out.items in
    let all : last ++ 125 ∷ [] ≡ compact_text (kept_json clock c.args.job c.args.until table notes events sorted walked) =
    c.in_ok-push_running.ensures no_members
    ∙ c.in_ok-push_limit.ensures running
    ∙ rw (c.in_ok-text_value.ensures, c.bytes.ensures) at (c.in_ok-push_member.ensures limit)
    ∙ rw c.new-out.ensures.items at (c.in_ok-push_events_member.ensures job) in
    c.in_ok-extend_from_slice.ensures.items ∙ sym (append_assoc last (125 ∷ []) (10 ∷ [])) ∙ ap (λ text. text ++ codes "\n") all
