use Rattle.std.proofs.Common.{sym, ap, ◌∙◌}
use Rattle.std.specs.Prelude.{map}
use Rattle.story_index.specs.Seen.{event_in}
use Rattle.story_index.proofs.Keeps.{kept_more, kept_same}
use Rattle.story_index.proofs.kept.of_tasks.Goals as goal
use Rattle.story_index.proofs.kept.of_tasks.Goals.{then-holds+in_ok-push, else-holds}

pub events-preserved : goal.events-preserved
events-preserved c = λ ls same.
    let x = c.event-item.result in
    let among = sym (same (event_in x).task) ∙ sym c.holds.ensures in
    let before = c.events.invariant ls same in
    elim c.if-holds.branch [
      | then-holds+in_ok-push w ↦ ap (λ v. map event_in v.items) w.kept-is ∙ ap (map event_in) w.in_ok-push.ensures.items
          ∙ kept_more ls c.args.events.now c.events.event-index x c.events.kept.items c.events-test.true c.event-item.is
          (among ∙ w.if-holds.true) before
      | else-holds w ↦ ap (λ v. map event_in v.items) w.kept-is
          ∙ kept_same ls c.args.events.now c.events.event-index x c.events.kept.items c.events-test.true c.event-item.is
          (among ∙ w.if-holds.false) before
    ]
