use Rattle.std.proofs.Common.{rules}
use Rattle.objects.proofs.QueueLemmas.{passes_rest}
use Rattle.objects.proofs.limiter.next_waiting.Goals as goal

pub returns-then-waits-clause-queued : goal.returns-then-waits-clause-queued
returns-then-waits-clause-queued g c test old = passes_rest test _ _ _ c.in-Some.ensures.items (c.tickets.invariant.1 test old)

pub tickets-preserved : goal.tickets-preserved
tickets-preserved g c = (
  search (rules, c.tickets.invariant.0),
  λ test old. passes_rest test _ _ _ c.in-Some.ensures.items (c.tickets.invariant.1 test old),
)
