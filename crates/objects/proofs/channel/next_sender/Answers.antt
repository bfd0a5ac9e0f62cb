use Rattle.std.proofs.Common.{rules}
use Rattle.objects.proofs.LentLemmas.{lent_rest, lent_first}
use Rattle.objects.proofs.QueueLemmas.{passes_later}
use Rattle.objects.proofs.channel.next_sender.Goals as goal

pub returns-then-waits-clause-lent : goal.returns-then-waits-clause-lent
returns-then-waits-clause-lent g c = lent_first _ _ _ _ c.in-Some.ensures.items c.senders.invariant.1

pub returns-then-waits-clause-queued : goal.returns-then-waits-clause-queued
returns-then-waits-clause-queued g c test old = passes_later test _ _ _ c.in-Some.ensures.items (c.senders.invariant.2 test old)

pub senders-preserved : goal.senders-preserved
senders-preserved g c = (
  search (rules, c.senders.invariant.0),
  lent_rest _ _ _ _ c.in-Some.ensures.items c.senders.invariant.1,
  λ test old. passes_later test _ _ _ c.in-Some.ensures.items (c.senders.invariant.2 test old),
)
