use Rattle.std.proofs.Common.{ap, [], ◌∷◌, ◌++◌, ◌∙◌}
use Rattle.task_table.specs.Batch.{Batches, added_in}
use Rattle.task_table.proofs.BatchLemmas.{ready_push, added_in-push}
use Rattle.task_table.proofs.batch.ReadyBatch.add.Goals as goal

pub make_room-requires : goal.make_room-requires
make_room-requires c =
    let b = c.self.inside in
    rw (c.len.ensures ∙ b.next.ok.0) c.self.invariant.room

pub invariant_of-self-2 : goal.invariant_of-self-2
invariant_of-self-2 c =
    let b = c.self.inside in
    ready_push b.current.items b.next.items c.push.new.self.items b.places c.make_room.new.self (c.args.task, c.args.call)
    c.self.invariant c.in_ok-push.ensures.items c.in_ok-make_room.ensures.left
    (rw (c.len.ensures ∙ b.next.ok.0) at c.in_ok-make_room.ensures.room)

pub returns-clause-added : goal.returns-clause-added
returns-clause-added c =
    let b = c.self.inside in
    ap added_in c.in_ok-push.ensures.items ∙ added_in-push b.next.items (c.args.task, c.args.call)
    ∙ ap (λ (v : Batches). v.next ++ (c.args.task, c.args.call) ∷ []) c.self.view_is
