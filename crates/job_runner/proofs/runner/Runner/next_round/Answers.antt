use Rattle.std.proofs.Common.{inr}
use Rattle.job_runner.proofs.Landing.{none_next}
use Rattle.job_runner.proofs.runner.Runner.next_round.Goals as goal

pub returns-then-not-has_next : goal.returns-then-not-has_next
returns-then-not-has_next c =
    inr (none_next c.has_next.result c.args.self.now.later.next c.has_next.ensures.1 c.if-not-has_next.true, c.next_cancel.ensures)
