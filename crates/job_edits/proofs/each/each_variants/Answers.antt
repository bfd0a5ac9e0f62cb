use Rattle.std.proofs.Common.{◌∙◌}
use Rattle.job_edits.proofs.Taken.{still_short}
use Rattle.job_edits.proofs.Parted.{next_step}
use Rattle.job_edits.proofs.each.each_variants.Goals as goal

pub steps-preserved : goal.steps-preserved
steps-preserved c = (
  next_step _ _ _ _ _ _ _ _ _ _ _ _ c.steps-test.true c.step-item.is
      (c.as_slice.ensures.value ∙ c.in_ok-faults.ensures) c.as_slice-in-steps.ensures.value c.in_ok-push_in_blocks.ensures
      c.steps.invariant.0,
  still_short _ _ _ c.in_ok-push_in_blocks.ensures,
)
