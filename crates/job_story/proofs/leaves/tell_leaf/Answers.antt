use Rattle.job_story.specs.Tell.{tell_step}
use Rattle.job_story.proofs.leaves.tell_leaf.Goals as goal

pub returns-in-Sleep : goal.returns-in-Sleep
unfolding tell_step
returns-in-Sleep c = rw (c.in-Sleep.is, ← c.wakes_at-until.ensures.wakes) c.sleep.ensures

pub returns-in-Checkpoint : goal.returns-in-Checkpoint
unfolding tell_step
returns-in-Checkpoint c = rw c.in-Checkpoint.is c.sleep-in-Checkpoint.ensures

pub returns-in-Forever : goal.returns-in-Forever
unfolding tell_step
returns-in-Forever c = rw (c.in-Forever.is, ← c.tick_of.ensures, ← c.saturating_sub-ticks.ensures) c.sleep-in-Forever.ensures

pub returns-in-Pace : goal.returns-in-Pace
unfolding tell_step
returns-in-Pace c = rw c.in-Pace.is c.pace.ensures

pub returns-in-Find : goal.returns-in-Find
unfolding tell_step
returns-in-Find c = rw c.in-Find.is c.find.ensures

pub returns-in-Head : goal.returns-in-Head
unfolding tell_step
returns-in-Head c = rw c.in-Head.is c.head.ensures

pub returns-in-Longest : goal.returns-in-Longest
unfolding tell_step
returns-in-Longest c = rw c.in-Longest.is c.longest.ensures

pub returns-in-Need : goal.returns-in-Need
unfolding tell_step
returns-in-Need c = rw c.in-Need.is c.need.ensures

pub returns-in-Raise : goal.returns-in-Raise
unfolding tell_step
returns-in-Raise c = rw c.in-Raise.is c.raise.ensures

pub returns-in-Cancel : goal.returns-in-Cancel
unfolding tell_step
returns-in-Cancel c = rw c.in-Cancel.is c.cancel.ensures

pub returns-in-Set : goal.returns-in-Set
unfolding tell_step
returns-in-Set c = rw c.in-Set.is c.set.ensures

pub returns-in-Wait : goal.returns-in-Wait
unfolding tell_step
returns-in-Wait c = rw c.in-Wait.is c.wait_for.ensures

pub returns-in-Close : goal.returns-in-Close
unfolding tell_step
returns-in-Close c = rw c.in-Close.is c.close.ensures
