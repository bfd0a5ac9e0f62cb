use Rattle.std.proofs.Common.{◌≤◌, ◌+◌, arith}
use Rattle.input_lines.specs.Cuts.{cut_point}
use Rattle.input_lines.specs.Part.{buffer_of, range_of}
use Rattle.input_lines.proofs.CutLemmas.{IsCutPoint, cut_point-lies, cut_point-ordered, cut-aligned}
use Rattle.input_lines.proofs.cuts.Cuts.next_cut.Goals as goal

pub invariant_of-cut : goal.invariant_of-cut
invariant_of-cut c =
    let cuts = c.args.self.now in
    let p = cuts.part in
    let b = buffer_of p in
    let r = range_of p in
    let here = cuts.here in
    let step : cut_point b r cuts.count cuts.given ≤ cut_point b r cuts.count (cuts.given + 1) =
    cut_point-ordered b r cuts.count cuts.given p.ordered c.requires in
    let next : IsCutPoint b r (cuts.given + 1) (cut_point b r cuts.count (cuts.given + 1)) =
    cut_point-lies b r cuts.count (cuts.given + 1) p.ordered (omega arith) (omega (arith, c.requires)) in
    record {
      ordered = omega (arith, step, here, c.next_end-end.ensures);
      within = omega (arith, next.high, p.within, c.next_end-end.ensures);
      aligned = rw (here, c.next_end-end.ensures) (cut-aligned b r cuts.count cuts.given p.ordered c.requires p.aligned);
    }
