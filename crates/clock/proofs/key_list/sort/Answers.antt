use Rattle.std.proofs.Common.{rules}
use Rattle.clock.proofs.KeyListLemmas.{falls_sorted}
use Rattle.clock.proofs.key_list.sort.Goals as goal

pub returns-clause-sorted : goal.returns-clause-sorted
returns-clause-sorted c = falls_sorted _ c.sort_unstable_by.ensures.sorted (λ a r q k. search rules)
