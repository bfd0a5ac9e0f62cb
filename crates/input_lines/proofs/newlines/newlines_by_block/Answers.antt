use Rattle.std.proofs.Common.{◌+◌, arith}
use Rattle.input_lines.proofs.CountLemmas.{newlines-more, newlines-rest, newlines-few}
use Rattle.input_lines.proofs.newlines.newlines_by_block.Goals as goal

pub blocks-2-preserved : goal.blocks-2-preserved
blocks-2-preserved c =
    let more = newlines-more c.args.bytes.now c.blocks-2.at 64 in
    let few = newlines-few c.args.bytes.now (c.blocks-2.at + 64) in
    (omega arith, omega arith, omega arith)

pub returns : goal.returns
returns c = omega (arith, newlines-rest c.args.bytes.now c.blocks-2.at)
