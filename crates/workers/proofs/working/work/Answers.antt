use Rattle.std.proofs.Common.{◌∙◌, All, length, drop, ap, sym, subst}
use Rattle.std.proofs.lemmas.List.{length-replicate}
use Rattle.std.proofs.lemmas.Result.{IfOk-weaker}
use Rattle.workers.specs.Slots.{AreAnswers, IsFilled, empty_slot}
use Rattle.workers.proofs.SlotLemmas.{computed-filled-all, written-whole, answers-computed}
use Rattle.workers.proofs.working.work.Goals as goal

pub answers-requires : goal.answers-requires
answers-requires g c =
    let requests = c.args.requests.now in
    let row = c.place.new.row in
    let paired = c.place.ensures.count ∙ ap length c.as_mut_slice.ensures.value ∙ ap length c.in_ok-row.ensures
    ∙ length-replicate (length requests) empty_slot in
    let whole = written-whole c.in_ok-row.row.len row (drop (length row) c.in_ok-row.row.items)
    (c.place.ensures.count ∙ c.as_mut_slice.ensures.len) in
    subst (All IsFilled) (sym whole) (computed-filled-all requests row paired c.place.ensures.computed)

pub returns : goal.returns
returns g c =
    let requests = c.args.requests.now in
    let row = c.place.new.row in
    let paired = c.place.ensures.count ∙ ap length c.as_mut_slice.ensures.value ∙ ap length c.in_ok-row.ensures
    ∙ length-replicate (length requests) empty_slot in
    let whole = written-whole c.in_ok-row.row.len row (drop (length row) c.in_ok-row.row.items)
    (c.place.ensures.count ∙ c.as_mut_slice.ensures.len) in
    IfOk-weaker c.answers.result _ (λ answers. AreAnswers requests answers.items)
    (λ answers taken. answers-computed requests answers.items row (taken ∙ whole) paired c.place.ensures.computed)
    c.answers.ensures
