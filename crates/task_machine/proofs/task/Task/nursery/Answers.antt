use Rattle.std.proofs.Common.{◌≡◌, ℕ, suc, ◌-◌, List, ap, subst, ◌∙◌, arith}
use Rattle.std.specs.Prelude.{get_or}
use Rattle.task_machine.specs.declared.frame.Frame.{Frame}
use Rattle.task_machine.proofs.Bodies.{Searches, searches_next}
use Rattle.task_machine.proofs.task.Task.nursery.Goals as goal

pub outwards-preserved : goal.outwards-preserved
outwards-preserved c =
    let fs = c.args.self.now.frames.items in
    let at : c.outwards.at ≡ suc (c.outwards.at - 1) = omega (arith, c.outwards-test.true) in
    searches_next fs (c.outwards.at - 1) (subst (λ (n : ℕ). Searches fs n) at c.outwards.invariant) c.index-frames-at.result
    (c.index-frames-at.is
    ∙ ap (λ (xs : List Frame). get_or xs (c.outwards.at - 1) c.index-frames-at.result) c.as_slice-frames.ensures) c.in_default.not-Nursery
