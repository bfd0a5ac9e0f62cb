use Rattle.job_story.proofs.Shows.{shows_found}
use Rattle.job_story.proofs.leaves.find.Goals as goal

pub returns : goal.returns
returns c =
    shows_found _ _ _ c.args.here.part c.bytes.result _ _ _ _ _ c.in_ok-lines.ensures.answer c.in-Lines.is c.bytes.ensures
    c.in_ok-stretch.ensures
