use Rattle.std.proofs.Common.{rules}
use Rattle.std.proofs.lemmas.List.Sorted.{answers_always, IsNonDecreasingBy-from_sort}
use Rattle.std.proofs.lemmas.Result.{on_ok_weaker}
use Rattle.std.specs.Borrow.{Bor}
use Rattle.job_story.specs.Events.{moment_of}
use Rattle.job_story.specs.declared.event.Event.{Event}
use Rattle.basics.proofs.Ranks.{viewed_from_sort}
use Rattle.story_index.specs.Seen.{event_in}
use Rattle.story_text.proofs.order.sort_by_tick.Goals as goal

pub returns : goal.returns
returns c =
    let key = λ (event : Bor Event). event.now.tick in
    let keys = answers_always _ _ _ (λ f a r next called. search rules) in
    let stable = c.sort_by_key.ensures.stable key keys in
    on_ok_weaker c.sort_by_key.result
    (λ sorted. viewed_from_sort moment_of event_in _ _ (IsNonDecreasingBy-from_sort key _ (sorted key keys)) stable)
    c.sort_by_key.ensures.sorted
