use Rattle.job_story.specs.Tell.{tell_sleep}
use Rattle.job_story.proofs.leaves.sleep.Goals as goal

pub returns : goal.returns
unfolding tell_sleep
returns c = rw (← c.gives_up_at-gives_up.ensures) c.in_ok-stretch.ensures
