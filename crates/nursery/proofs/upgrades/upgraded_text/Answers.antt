use Rattle.std.proofs.Common.{subst}
use Rattle.job_reader.specs.Refusals.{Spells}
use Rattle.nursery.proofs.upgrades.upgraded_text.Goals as goal

pub returns : goal.returns
returns c = (
  c.in_ok-job.job,
  c.in_ok-job.ensures.found,
  subst (Spells c.in_ok-write_job.field-0.items) c.in_format.ensures c.in_ok-write_job.ensures.again,
)
