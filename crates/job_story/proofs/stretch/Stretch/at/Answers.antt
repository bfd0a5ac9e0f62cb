use Rattle.std.proofs.Common.{refl}
use Rattle.job_story.proofs.Teller.{is_at}
use Rattle.job_story.proofs.stretch.Stretch.at.Goals as goal

pub returns : goal.returns
returns c = λ own story. is_at _ _ own story refl refl refl c.new.ensures.items
