use Rattle.std.proofs.Common.{subst}
use Rattle.job_reader.specs.Canon.{canon}
use Rattle.job_reader.specs.Jobs.{IsReadable}
use Rattle.job_reader.proofs.Sound_jobs.{numbers_in_range}
use Rattle.job_reader.proofs.job.Job.steps.Goals as goal

pub returns-clause-in_range : goal.returns-clause-in_range
returns-clause-in_range c = numbers_in_range (canon c.args.self.now) c.args.self.now (subst IsReadable c.self.view_is c.self.invariant)

pub returns-clause-spelled : goal.returns-clause-spelled
returns-clause-spelled c = subst IsReadable c.self.view_is c.self.invariant
