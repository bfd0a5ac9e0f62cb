use Rattle.std.proofs.Common.{ap, sym, ◌∙◌}
use Rattle.std.specs.Prelude.{slice_get, slice_set, None}
use Rattle.std.specs.List.{remove}
use Rattle.std.proofs.lemmas.List.{with_items_is}
use Rattle.task_table.specs.Batch.{Batches}
use Rattle.task_table.specs.Slots.{values_in}
use Rattle.task_table.proofs.BatchLemmas.{k_left, taken_at, ready_taken}
use Rattle.task_table.proofs.batch.ReadyBatch.take.Goals as goal

pub take-place-requires : goal.take-place-requires
take-place-requires c =
    let b = c.self.inside in
    k_left b.current.items b.next.items b.places _ c.args.k c.self.invariant (ap (λ (v : Batches). v.current) c.self.view_is) c.requires

pub take_at-requires-clause-within : goal.take_at-requires-clause-within
take_at-requires-clause-within c =
    let b = c.self.inside in
    let taken = taken_at b.current.items b.next.items b.places _ c.args.k c.take-place.result c.self.invariant
    (ap (λ (v : Batches). v.current) c.self.view_is) c.requires c.take-place.ensures.place in
    rw c.as_mut_slice.ensures.value taken.within

pub take_at-requires-clause-some : goal.take_at-requires-clause-some
take_at-requires-clause-some c =
    let b = c.self.inside in
    let taken = taken_at b.current.items b.next.items b.places _ c.args.k c.take-place.result c.self.invariant
    (ap (λ (v : Batches). v.current) c.self.view_is) c.requires c.take-place.ensures.place in
    rw c.as_mut_slice.ensures.value taken.some

pub invariant_of-self : goal.invariant_of-self
invariant_of-self c =
    let b = c.self.inside in
    let taken = taken_at b.current.items b.next.items b.places _ c.args.k c.take-place.result c.self.invariant
    (ap (λ (v : Batches). v.current) c.self.view_is) c.requires c.take-place.ensures.place in
    let items = with_items_is b.current c.take_at.new.slots (c.take_at.auto.slots ∙ c.as_mut_slice.ensures.len) in
    let slots = items ∙ c.take_at.ensures.emptied ∙ ap (λ xs. slice_set xs c.take-place.result None) c.as_mut_slice.ensures.value in
    ready_taken b.current.items _ b.next.items b.places c.take-place.new.self c.args.k c.take-place.result c.self.invariant taken slots
    c.take-place.ensures.rest c.take-place.ensures.room

pub returns-clause-entry : goal.returns-clause-entry
returns-clause-entry c =
    let b = c.self.inside in
    let taken = taken_at b.current.items b.next.items b.places _ c.args.k c.take-place.result c.self.invariant
    (ap (λ (v : Batches). v.current) c.self.view_is) c.requires c.take-place.ensures.place in
    ap (λ (v : Batches). slice_get v.current c.args.k) (sym c.self.view_is)
    ∙ taken.at_k c.take_at.result (rw c.as_mut_slice.ensures.value at c.take_at.ensures.value)

pub returns-clause-rest : goal.returns-clause-rest
returns-clause-rest c =
    let b = c.self.inside in
    let taken = taken_at b.current.items b.next.items b.places _ c.args.k c.take-place.result c.self.invariant
    (ap (λ (v : Batches). v.current) c.self.view_is) c.requires c.take-place.ensures.place in
    let items = with_items_is b.current c.take_at.new.slots (c.take_at.auto.slots ∙ c.as_mut_slice.ensures.len) in
    let slots = items ∙ c.take_at.ensures.emptied ∙ ap (λ xs. slice_set xs c.take-place.result None) c.as_mut_slice.ensures.value in
    ap values_in slots ∙ taken.rest ∙ ap (λ (v : Batches). remove v.current c.args.k) c.self.view_is
