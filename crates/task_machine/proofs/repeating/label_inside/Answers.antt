use Rattle.std.proofs.Common.{◌≡◌, ℕ, ◌+◌, [], ◌∷◌, ◌++◌, List, take, length, refl, ap, sym, ◌∙◌, arith}
use Rattle.std.proofs.Math.Seq.{take-length}
use Rattle.std.proofs.lemmas.List.{take_more}
use Rattle.exceptions.specs.Exceptions.{Label}
use Rattle.task_machine.specs.Frames.{passes_onto}
use Rattle.task_machine.specs.declared.frame.Frame.{Frame}
use Rattle.task_machine.proofs.FrameLemmas.{path_append}
use Rattle.task_machine.proofs.repeating.label_inside.Goals as goal

pub frames-init : goal.frames-init
frames-init c = refl

pub frames-preserved : goal.frames-preserved
frames-preserved c =
    let fs = c.args.frames.now in
    let i = c.frames.frame-index in
    let f = c.frame-item.result in
    let path = c.args.label.indices in
    let first : List Frame = take i fs in
    let one : take (i + 1) fs ≡ first ++ f ∷ [] =
    take_more fs i f (omega (arith, c.frames-test.true)) ∙ ap (λ (g : Frame). first ++ g ∷ []) (sym c.frame-item.is) in
    c.in_ok-inner.ensures
    ∙ ap (λ (l : Label). record { name = l.name; indices = passes_onto (f ∷ []) l.indices }) c.frames.invariant
    ∙ ap (λ (p : List ℕ). record { name = c.args.label.name; indices = p })
    (sym (path_append first (f ∷ []) path) ∙ ap (λ (gs : List Frame). passes_onto gs path) (sym one))

pub returns : goal.returns
returns c =
    let fs = c.args.frames.now in
    let i = c.frames.frame-index in
    let all : i ≡ length fs = omega (arith, c.frames-test.false, c.frames.auto.frame-index-end) in
    c.frames.invariant
    ∙ ap (λ (gs : List Frame). record { name = c.args.label.name; indices = passes_onto gs c.args.label.indices })
    (ap (λ (n : ℕ). take n fs) all ∙ take-length fs)
