use Rattle.job_story.proofs.Shows.{shows_head}
use Rattle.job_story.proofs.leaves.head.Goals as goal

pub returns : goal.returns
returns c = shows_head _ _ _ c.args.here.part _ _ _ _ _ c.in_ok-lines.ensures.answer c.in-Lines.is c.in_ok-stretch.ensures
