use Rattle.job_runner.proofs.Stopped.{asks_going}
use Rattle.job_runner.proofs.runner.Runner.handle_ask.Goals as goal

pub returns-clause-going : goal.returns-clause-going
returns-clause-going c = asks_going c.add.new.self c.requires c.in_ok-add.ensures.current c.in_ok-add.ensures.added
