use Rattle.std.proofs.Common.{arith}
use Rattle.job_edits.proofs.Taken.{still_short}
use Rattle.job_edits.proofs.Parted.{next_part}
use Rattle.job_edits.proofs.each.push_in_block.Goals as goal

pub parts-preserved : goal.parts-preserved
parts-preserved c = (
  next_part _ _ c.args.block.now _ _ _ _ _ _ _ _ c.parts-test.true c.part_of-part.ensures c.in_ok-push_in_part.ensures c.parts.invariant.0,
  still_short _ _ _ c.in_ok-push_in_part.ensures,
  omega (arith, c.parts-test.true),
)
