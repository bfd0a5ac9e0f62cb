use Rattle.std.proofs.Common.{ap, ◌∙◌}
use Rattle.std.specs.Prelude.{map}
use Rattle.story_index.specs.Seen.{event_in}
use Rattle.story_index.specs.Holds.{holds}
use Rattle.story_index.specs.Added.{is_added}
use Rattle.story_index.proofs.Adds.{one_more_added}
use Rattle.story_index.proofs.SeenMore.{all_read}
use Rattle.story_index.proofs.rounds.causers.Goals as goal

pub events-preserved : goal.events-preserved
events-preserved c = λ table all known l.
    one_more_added (holds c.args.tasks.now) table all l c.args.events.now c.events.event-index c.event-item.result
    (holds c.events.added l) (holds c.note_causer.new.added l) c.events-test.true c.event-item.is (c.events.invariant table all known l)
    (c.in_ok-note_causer.ensures table all known l)

pub returns : goal.returns
returns c = λ table all known l.
    c.events.invariant table all known l
    ∙ ap (λ es. is_added (holds c.args.tasks.now) table all l (map event_in es))
    (all_read c.args.events.now c.events.event-index c.events-test.false c.events.auto.event-index-end)
