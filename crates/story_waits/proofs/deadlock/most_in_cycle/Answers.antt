use Rattle.std.proofs.Common.{refl}
use Rattle.job_story.specs.Deadlock.{most_in_cycle}
use Rattle.story_waits.proofs.deadlock.most_in_cycle.Goals as goal

pub returns : goal.returns
unfolding most_in_cycle
returns c = refl
