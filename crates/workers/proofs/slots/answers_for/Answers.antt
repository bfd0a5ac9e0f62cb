use Rattle.std.proofs.Common.{◌∙◌, rules}
use Rattle.std.proofs.lemmas.Result.{IfOk-weaker}
use Rattle.workers.proofs.SlotLemmas.{written-whole}
use Rattle.workers.proofs.Filled.{answers_of_slots}
use Rattle.workers.proofs.slots.answers_for.Goals as goal

pub returns : goal.returns
returns g c =
    let filled = c.fill_all.new.slots in
    IfOk-weaker c.answers_in.result _ _
    (λ all taken. answers_of_slots (g.W.Work.answers c.args.work.now) c.args.items.now filled all.items
    (taken ∙ written-whole _ filled _ (search rules)) (search rules) c.fill_all.ensures.filled) c.answers_in.ensures
