use Rattle.std.proofs.Common.{ap, subst, sym, ◌∙◌}
use Rattle.std.proofs.lemmas.List.{with_items_is}
use Rattle.task_table.specs.Batch.{Batches}
use Rattle.task_table.specs.Slots.{values_in}
use Rattle.task_table.specs.Entries.{answers_placed, AllPlaced}
use Rattle.task_table.specs.Placing.{slots_placed}
use Rattle.task_table.proofs.EntryLemmas.{held-placed, all_placed}
use Rattle.task_table.proofs.BatchLemmas.{ready_placed}
use Rattle.task_table.proofs.batch.ReadyBatch.place.Goals as goal

pub invariant_of-self : goal.invariant_of-self
invariant_of-self c =
    let b = c.self.inside in
    let items = with_items_is b.current c.place_all.new.slots (c.place_all.auto.slots ∙ c.as_mut_slice.ensures.len) in
    let slots = items ∙ c.place_all.ensures ∙ ap (λ xs. slots_placed xs c.args.answers.items) c.as_mut_slice.ensures.value in
    ready_placed b.current.items _ b.next.items b.places c.args.answers.items c.self.invariant slots

pub returns-clause-placed : goal.returns-clause-placed
returns-clause-placed c =
    let b = c.self.inside in
    let items = with_items_is b.current c.place_all.new.slots (c.place_all.auto.slots ∙ c.as_mut_slice.ensures.len) in
    let slots = items ∙ c.place_all.ensures ∙ ap (λ xs. slots_placed xs c.args.answers.items) c.as_mut_slice.ensures.value in
    ap values_in slots ∙ held-placed b.current.items c.args.answers.items
    ∙ ap (λ (v : Batches). answers_placed v.current c.args.answers.items) c.self.view_is

pub returns-clause-all : goal.returns-clause-all
returns-clause-all c =
    let b = c.self.inside in
    let items = with_items_is b.current c.place_all.new.slots (c.place_all.auto.slots ∙ c.as_mut_slice.ensures.len) in
    let slots = items ∙ c.place_all.ensures ∙ ap (λ xs. slots_placed xs c.args.answers.items) c.as_mut_slice.ensures.value in
    let current = ap values_in slots ∙ held-placed b.current.items c.args.answers.items
    ∙ ap (λ (v : Batches). answers_placed v.current c.args.answers.items) c.self.view_is in
    subst AllPlaced (sym current) (all_placed c.args.self.now.current c.args.answers.items c.requires.as_many)
