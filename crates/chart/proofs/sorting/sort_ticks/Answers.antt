use Rattle.std.proofs.Common.{rules}
use Rattle.std.proofs.lemmas.List.Sorted.{answers_always, IsNonDecreasingBy-from_sort}
use Rattle.std.proofs.lemmas.Result.{on_ok_weaker}
use Rattle.chart.specs.Columns.{identity}
use Rattle.basics.proofs.Ranks.{sorted_by_from_sort}
use Rattle.chart.proofs.sorting.sort_ticks.Goals as goal

pub returns : goal.returns
returns c =
    let keys = answers_always _ _ _ (λ f a r next called. search rules) in
    let stable = c.sort_by_key.ensures.stable identity keys in
    on_ok_weaker c.sort_by_key.result
    (λ sorted. sorted_by_from_sort identity _ _ (IsNonDecreasingBy-from_sort identity _ (sorted identity keys)) stable) c.sort_by_key.ensures.sorted
