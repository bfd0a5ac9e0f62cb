use Rattle.job_runner.proofs.Stopped.{not_timed, gives_up_going}
use Rattle.job_runner.proofs.runner.Runner.handle_give_up.Goals as goal

pub sleep_until-requires-clause-awake : goal.sleep_until-requires-clause-awake
sleep_until-requires-clause-awake c = not_timed c.requires

pub returns-clause-going : goal.returns-clause-going
returns-clause-going c = gives_up_going c.requires c.in_ok-sleep_until.ensures.timers c.in_ok-sleep_until.ensures.time
