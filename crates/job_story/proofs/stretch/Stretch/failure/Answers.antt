use Rattle.std.proofs.Common.{refl}
use Rattle.job_story.proofs.Teller.{is_failed}
use Rattle.job_story.proofs.stretch.Stretch.failure.Goals as goal

pub returns : goal.returns
returns c = λ own story. is_failed _ _ _ own story refl refl refl c.new.ensures.items
