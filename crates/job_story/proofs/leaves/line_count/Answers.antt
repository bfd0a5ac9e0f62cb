use Rattle.job_story.proofs.Shows.{counts, counts_few}
use Rattle.job_story.proofs.leaves.line_count.Goals as goal

pub returns-clause-count : goal.returns-clause-count
returns-clause-count c = counts c.args.here.part _ _ c.in_ok-count.ensures.answer c.in-Count.is

pub returns-clause-few : goal.returns-clause-few
returns-clause-few c = counts_few c.args.here.part _ _ c.in_ok-count.ensures.answer c.in-Count.is c.requires
