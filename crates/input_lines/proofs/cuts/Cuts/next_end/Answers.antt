use Rattle.std.proofs.Common.{◌+◌, ◌≤◌, sym, ◌∙◌, arith}
use Rattle.input_lines.specs.Cuts.{cut_point}
use Rattle.input_lines.specs.Part.{buffer_of, range_of}
use Rattle.input_lines.proofs.CutLemmas.{target_of, target-le}
use Rattle.input_lines.proofs.NextCut.{same_end}
use Rattle.input_lines.proofs.cuts.Cuts.next_end.Goals as goal

pub returns-then-place-self : goal.returns-then-place-self
returns-then-place-self c =
    let cuts = c.args.self.now in
    let part = cuts.part in
    let here = cuts.here in
    let reached : target_of (range_of part) cuts.count (cuts.given + 1) ≤ cut_point (buffer_of part) (range_of part) cuts.count cuts.given =
    omega (arith, here, c.steps.ensures, c.if-place-self.true) in
    here ∙ sym (same_end (buffer_of part) (range_of part) cuts.count cuts.given part.ordered part.aligned
    (omega (arith, c.requires, c.if-self.false)) reached)

pub next_start-requires : goal.next_start-requires
next_start-requires c =
    let cuts = c.args.self.now in
    let target = target-le (range_of cuts.part) cuts.count (cuts.given + 1) cuts.part.ordered (omega arith) (omega arith) in
    omega (arith, target, c.steps.ensures)
