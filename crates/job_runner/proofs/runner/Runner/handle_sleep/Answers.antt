use Rattle.job_runner.proofs.Stopped.{not_timed, not_sleeping, stopping_lives, stopping_scope, asleep_going}
use Rattle.job_runner.proofs.runner.Runner.handle_sleep.Goals as goal

pub put_to_sleep-requires-clause-awake : goal.put_to_sleep-requires-clause-awake
put_to_sleep-requires-clause-awake c = not_timed c.requires

pub put_to_sleep-requires-clause-asleep : goal.put_to_sleep-requires-clause-asleep
put_to_sleep-requires-clause-asleep c = not_sleeping c.requires

pub put_to_sleep-requires-clause-lives : goal.put_to_sleep-requires-clause-lives
put_to_sleep-requires-clause-lives c = stopping_lives c.requires

pub put_to_sleep-requires-clause-opened : goal.put_to_sleep-requires-clause-opened
put_to_sleep-requires-clause-opened c = stopping_scope c.requires

pub returns-clause-going : goal.returns-clause-going
returns-clause-going c = asleep_going c.requires c.in_ok-put_to_sleep.ensures
