use Rattle.job_reader.proofs.Passing.{only_spelled, exact_refusal}
use Rattle.job_reader.proofs.reading.read_job.Goals as goal

pub returns-clause-only : goal.returns-clause-only
returns-clause-only c = λ job spells. only_spelled c.args.text.now c.read.result job c.read.ensures spells

pub returns-clause-exact : goal.returns-clause-exact
returns-clause-exact c = λ kind at refused. exact_refusal c.args.text.now c.read.result kind at c.read.ensures refused
