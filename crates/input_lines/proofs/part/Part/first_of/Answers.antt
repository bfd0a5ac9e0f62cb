use Rattle.std.proofs.Common.{◌≡◌, ap, arith}
use Rattle.input_lines.specs.Cuts.{cut_point}
use Rattle.input_lines.specs.Lines.{Range}
use Rattle.input_lines.specs.Part.{buffer_of, range_of}
use Rattle.input_lines.proofs.CutLemmas.{IsCutPoint, cut_point-lies, rest-aligned}
use Rattle.input_lines.proofs.part.Part.first_of.Goals as goal

pub invariant_of-result : goal.invariant_of-result
invariant_of-result c =
    let p = c.args.self in
    let b = buffer_of p in
    let r = range_of p in
    let end : c.cut-first.result.end ≡ cut_point b r c.args.k 1 = ap (λ (x : Range). x.to) c.cut-first.ensures.range in
    let lies : IsCutPoint b r 1 (cut_point b r c.args.k 1) = cut_point-lies b r c.args.k 1 p.ordered c.requires.some c.requires.some in
    record {
      ordered = omega (arith, lies.high, end);
      within = p.within;
      aligned = rw end (rest-aligned b r c.args.k 1 p.ordered (omega arith) c.requires.some);
    }
