use Rattle.std.specs.Prelude.{suc, length}
use Rattle.job_runner.proofs.WokenWaiters.{IsWakingFor, waiting_count}
use Rattle.job_runner.proofs.runner.Runner.wake_waiters.Given as goal

abbrev pub invariant-waiters : goal.invariant-waiters
invariant-waiters l = IsWakingFor l.fn.event (suc l.fn.self.world.tick) l.fn.self l.self

abbrev pub decreases-waiters : goal.decreases-waiters
decreases-waiters l = waiting_count (length l.fn.self.waiters) l.self.waiters
