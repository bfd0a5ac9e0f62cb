use Rattle.std.proofs.Common.{◌+◌, arith}
use Rattle.input_lines.specs.declared.newlines.TheConstants.{RUN}
use Rattle.input_lines.proofs.CountLemmas.{newlines-more, newlines-rest, newlines-few}
use Rattle.input_lines.proofs.newlines.newline_count.Goals as goal

pub runs-preserved : goal.runs-preserved
runs-preserved c =
    let more = newlines-more c.args.bytes.now c.runs.at RUN in
    let few = newlines-few c.args.bytes.now (c.runs.at + RUN) in
    (omega arith, omega arith, omega arith)

pub returns : goal.returns
returns c = omega (arith, newlines-rest c.args.bytes.now c.runs.at)
