use Rattle.std.specs.Prelude.{length}
use Rattle.job_runner.specs.Turns.{TakesTurns, with_answers}
use Rattle.job_runner.proofs.Committing.{IsCommitting}
use Rattle.job_runner.proofs.runner.Runner.commit_batch.Given as goal

abbrev pub invariant-turns : goal.invariant-turns
invariant-turns g l = IsCommitting l.fn.self l.self
    × TakesTurns g.P.Pick.picks (with_answers l.fn.self l.fn.answers.items) l.fn.picker l.self l.picker

abbrev pub decreases-turns : goal.decreases-turns
decreases-turns g l = length l.self.batch.current
