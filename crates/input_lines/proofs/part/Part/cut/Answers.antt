use Rattle.std.proofs.Common.{◌≤◌, ◌+◌, arith}
use Rattle.input_lines.specs.Cuts.{cut_point}
use Rattle.input_lines.specs.Part.{buffer_of, range_of}
use Rattle.input_lines.proofs.CutLemmas.{IsCutPoint, cut_point-lies, cut_point-ordered, cut-aligned}
use Rattle.input_lines.proofs.part.Part.cut.Goals as goal

pub invariant_of-result : goal.invariant_of-result
invariant_of-result c =
    let p = c.args.self in
    let b = buffer_of p in
    let r = range_of p in
    let step : cut_point b r c.args.k c.args.i ≤ cut_point b r c.args.k (c.args.i + 1) =
    cut_point-ordered b r c.args.k c.args.i p.ordered c.requires.below in
    let next : IsCutPoint b r (c.args.i + 1) (cut_point b r c.args.k (c.args.i + 1)) =
    cut_point-lies b r c.args.k (c.args.i + 1) p.ordered (omega arith) (omega arith) in
    record {
      ordered = omega (arith, step, c.cut_point.ensures, c.cut_point-2.ensures);
      within = omega (arith, next.high, c.cut_point-2.ensures);
      aligned = rw (c.cut_point.ensures, c.cut_point-2.ensures) (cut-aligned b r c.args.k c.args.i p.ordered c.requires.below p.aligned);
    }
