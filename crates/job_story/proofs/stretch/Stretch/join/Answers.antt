use Rattle.std.proofs.Common.{refl}
use Rattle.job_story.specs.Story.{Tale}
use Rattle.job_story.proofs.Teller.{is_joined}
use Rattle.job_story.proofs.stretch.Stretch.join.Goals as goal

pub returns : goal.returns
returns c = λ (a : Tale) (b : Tale) h k. is_joined c.args.self c.args.next _ a b h k refl refl c.max.ensures c.in_ok-move_all.ensures
