use Rattle.std.proofs.Common.{ap, map, sym, subst, ◌∙◌}
use Rattle.task_table.specs.Halves.{numbers}
use Rattle.task_table.specs.Batch.{Batches}
use Rattle.task_table.specs.Slots.{values_in}
use Rattle.task_table.specs.Entries.{without_answer, NonePlaced}
use Rattle.task_table.proofs.EntryLemmas.{none_placed}
use Rattle.task_table.proofs.BatchLemmas.{ready_turn, held_turn}
use Rattle.task_table.proofs.batch.ReadyBatch.turn_over.Goals as goal

pub invariant_of-self : goal.invariant_of-self
invariant_of-self c =
    let b = c.self.inside in
    let count = c.len.ensures ∙ ap (λ v. v.len) c.swap.ensures.x_after ∙ b.next.ok.0 in
    let next = ap (λ v. v.items) c.swap.ensures.x_after in
    let emptied = ap (λ v. v.items) c.swap.ensures.y_after ∙ c.clear.ensures.items in
    rw (next, emptied)
    (ready_turn b.current.items b.next.items b.places c.restart.new.self c.self.invariant
    (c.restart.ensures.left ∙ ap (numbers 0) count))

pub returns-clause-current : goal.returns-clause-current
returns-clause-current c =
    let b = c.self.inside in
    ap (λ v. values_in v.items) c.swap.ensures.x_after ∙ held_turn b.current.items b.next.items b.places c.self.invariant
    ∙ ap (λ (v : Batches). map without_answer v.next) c.self.view_is

pub returns-clause-unplaced : goal.returns-clause-unplaced
returns-clause-unplaced c =
    let b = c.self.inside in
    let current = ap (λ v. values_in v.items) c.swap.ensures.x_after ∙ held_turn b.current.items b.next.items b.places c.self.invariant
    ∙ ap (λ (v : Batches). map without_answer v.next) c.self.view_is in
    subst NonePlaced (sym current) (none_placed c.args.self.now.next)
