use Rattle.job_runner.proofs.ServedRunner.{IsServing}
use Rattle.job_runner.proofs.runner.Runner.serve_acts.Given as goal

abbrev pub invariant-acts : goal.invariant-acts
invariant-acts l = IsServing l.fn.self l.self l.fn.ordered.items l.placed-iterator.rest.items l.given.items
