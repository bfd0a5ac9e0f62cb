use Rattle.std.proofs.Common.{◌≡◌, ℕ, ◌+◌, ◌-◌, eqb, cond, map, take, drop, ap, ◌∙◌, arith, w8}
use lib.Lanes.{chunk, sel_l}
use lib.ListN.{replicate}
use Rattle.std.proofs.lemmas.List.{length-map}
use Rattle.std.proofs.lemmas.Simd.{length-chunk, tops_compared, zip2_splat, map-map}
use Rattle.input_lines.proofs.LaneLemmas.{hit, selected}
use Rattle.input_lines.proofs.newlines.newline_lanes.Goals as goal

pub returns : goal.returns
returns c =
    let v = chunk c.args.at 64 c.args.bytes.now in
    let long = length-chunk c.args.at 64 c.args.bytes.now c.requires in
    let size : 64 ≡ c.args.at + 64 - c.args.at = omega arith in
    ap (λ ms. sel_l {A = ℕ} ms (replicate 64 1) (replicate 64 0)) (tops_compared w8 eqb v (replicate 64 10) ∙ zip2_splat eqb v 64 10 long)
    ∙ selected 64 (map (λ x. eqb x 10) v) (length-map v (λ x. eqb x 10) ∙ long)
    ∙ map-map (λ m. cond m 1 0) (λ x. eqb x 10) v
    ∙ ap (λ n. map hit (take n (drop c.args.at c.args.bytes.now))) size
