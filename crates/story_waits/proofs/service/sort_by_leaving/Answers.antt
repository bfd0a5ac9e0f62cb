use Rattle.std.proofs.Common.{rules}
use Rattle.std.proofs.lemmas.List.Sorted.{answers_always, IsNonDecreasingBy-from_sort}
use Rattle.std.proofs.lemmas.Result.{on_ok_weaker}
use Rattle.basics.proofs.Ranks.{viewed_from_sort}
use Rattle.job_story.specs.Notes.{after_leaving}
use Rattle.job_story.specs.Notes as notes
use Rattle.story_waits.specs.Moves.{move_in, turn_in}
use Rattle.story_waits.specs.declared.moves.Turn.{Turn}
use Rattle.story_waits.proofs.service.sort_by_leaving.Goals as goal

pub returns : goal.returns
returns c =
    let key = λ (turn : Turn). after_leaving (move_in turn.made) in
    let keys = answers_always _ _ _ (λ f a r next called. search rules) in
    let stable = c.sort_by_key.ensures.stable key keys in
    on_ok_weaker c.sort_by_key.result
    (λ sorted. viewed_from_sort notes.leaving_of turn_in _ _ (IsNonDecreasingBy-from_sort key _ (sorted key keys)) stable)
    c.sort_by_key.ensures.sorted
