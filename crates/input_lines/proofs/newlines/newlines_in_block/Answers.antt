use Rattle.std.proofs.Common.{count_by, ◌≡◌, ◌+◌, ◌-◌, eqb, take, drop, ap, ◌∙◌, arith, w8}
use lib.Count.{ones}
use lib.Lanes.{chunk}
use Rattle.std.proofs.lemmas.Simd.{length-chunk, bitmask_splat, ones-mask_l}
use Rattle.input_lines.proofs.newlines.newlines_in_block.Goals as goal

pub returns : goal.returns
returns c =
    let v = chunk c.args.at 64 c.args.bytes.now in
    let long = length-chunk c.args.at 64 c.args.bytes.now c.requires in
    let size : 64 ≡ c.args.at + 64 - c.args.at = omega arith in
    ap ones (bitmask_splat w8 eqb v 64 10 long (omega arith)) ∙ ones-mask_l (λ x. eqb x 10) v
    ∙ ap (λ n. count_by (λ b. eqb b 10) (take n (drop c.args.at c.args.bytes.now))) size
