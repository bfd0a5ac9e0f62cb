use Rattle.job_runner.proofs.GrantsMade.{IsGranting}
use Rattle.job_runner.proofs.runner.Runner.grant_all.Given as goal

abbrev pub invariant-given : goal.invariant-given
invariant-given l = IsGranting l.fn.self l.self l.fn.given.items l.one-iterator.rest.items
