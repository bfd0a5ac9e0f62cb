use Rattle.std.proofs.Common.{◌≡◌, ◌++◌, subst}
use Rattle.std.specs.Prelude.{OnOk}
use Rattle.serde_json.specs.Written.{compact_text}
use Rattle.job_story.specs.Held.{event_of}
use Rattle.json_story.specs.Known.{clock_in, events_in, cancelled_from_in, notes_held}
use Rattle.json_story.proofs.Integers.{event_has_no_float}
use Rattle.json_story.proofs.event.push_other.Goals as goal

pub push_value-requires : goal.push_value-requires
push_value-requires c =
    event_has_no_float _ (clock_in c.args.known.now) (cancelled_from_in c.args.known.now) (notes_held c.args.known.now) (events_in c.args.known.now)
    (event_of c.args.event.now) c.in_ok-value.ensures

pub returns : goal.returns
returns c =
    subst (λ d. OnOk c.push_value.result (c.push_value.new.out.items ≡ c.args.out.now.items ++ compact_text d)) c.in_ok-value.ensures c.push_value.ensures
