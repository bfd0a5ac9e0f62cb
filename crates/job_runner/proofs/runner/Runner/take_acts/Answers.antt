use Rattle.job_runner.proofs.TakenActs.{taking_first, taking_last}
use Rattle.job_runner.proofs.runner.Runner.take_acts.Goals as goal

pub acts-init : goal.acts-init
acts-init c = taking_first c.args.self.now c.args.row

pub returns : goal.returns
returns c = taking_last c.acts.invariant c.take_act.new.self c.in_default.ensures.act.0 c.in_default.ensures.act.1 c.in_default.ensures.rest
