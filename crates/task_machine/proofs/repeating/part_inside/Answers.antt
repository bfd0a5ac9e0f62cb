use Rattle.std.proofs.Common.{◌≡◌, ℕ, ◌+◌, [], ◌∷◌, ◌++◌, List, take, length, refl, ap, sym, ◌∙◌, subst, arith}
use Rattle.std.proofs.Math.Seq.{take-length}
use Rattle.std.proofs.lemmas.List.{take_more}
use Rattle.input_lines.specs.Lines.{Range}
use Rattle.input_lines.specs.Part.{buffer_of, range_of}
use Rattle.task_machine.specs.Fitting.{AreOf, received_in}
use Rattle.task_machine.specs.Frames.{cuts_onto}
use Rattle.task_machine.specs.declared.frame.Frame.{Frame}
use Rattle.task_machine.proofs.FrameLemmas.{cuts_append, lent_at}
use Rattle.task_machine.proofs.repeating.part_inside.Goals as goal

pub frames-init : goal.frames-init
frames-init c = (refl, refl)

pub part_in_frame-inner-requires-clause-lent : goal.part_in_frame-inner-requires-clause-lent
part_in_frame-inner-requires-clause-lent c =
    let fs = c.args.frames.now in
    let i = c.frames.frame-index in
    subst (λ (b : List ℕ). AreOf b (received_in (c.frame-item.result ∷ []))) (sym c.frames.invariant.0)
    (subst (λ (f : Frame). AreOf (buffer_of c.args.part) (received_in (f ∷ []))) (sym c.frame-item.is)
    (lent_at (buffer_of c.args.part) fs i _ (omega (arith, c.frames-test.true)) c.requires.lent))

pub frames-preserved : goal.frames-preserved
frames-preserved c =
    let fs = c.args.frames.now in
    let i = c.frames.frame-index in
    let f = c.frame-item.result in
    let input = buffer_of c.args.part in
    let lent = range_of c.args.part in
    let first : List Frame = take i fs in
    let one : take (i + 1) fs ≡ first ++ f ∷ [] =
    take_more fs i f (omega (arith, c.frames-test.true)) ∙ ap (λ (g : Frame). first ++ g ∷ []) (sym c.frame-item.is) in
    let inner = c.part_in_frame-inner.ensures in (
      inner.buffer ∙ c.frames.invariant.0,
      inner.range
          ∙ ap (λ (b : List ℕ). cuts_onto b (f ∷ []) (range_of c.frames.inner)) c.frames.invariant.0
          ∙ ap (λ (r : Range). cuts_onto input (f ∷ []) r) c.frames.invariant.1
          ∙ sym (cuts_append first (f ∷ []) input lent) ∙ ap (λ (gs : List Frame). cuts_onto input gs lent) (sym one),
    )

pub returns-clause-range : goal.returns-clause-range
returns-clause-range c =
    let fs = c.args.frames.now in
    let i = c.frames.frame-index in
    let all : i ≡ length fs = omega (arith, c.frames-test.false, c.frames.auto.frame-index-end) in
    c.frames.invariant.1
    ∙ ap (λ (gs : List Frame). cuts_onto (buffer_of c.args.part) gs (range_of c.args.part))
    (ap (λ (n : ℕ). take n fs) all ∙ take-length fs)
