use Rattle.job_story.proofs.Shows.{shows_longest}
use Rattle.job_story.proofs.leaves.longest.Goals as goal

pub returns : goal.returns
returns c = shows_longest _ _ _ c.args.here.part _ _ _ _ c.in_ok-lines.ensures.answer c.in-Lines.is c.in_ok-stretch.ensures
