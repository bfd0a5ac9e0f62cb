use Rattle.std.proofs.Common.{ap, map}
use Rattle.objects.specs.Channels.{refuse_senders}
use Rattle.objects.specs.Held.{gets_in, gets_by}
use Rattle.objects.proofs.Waiting.{granted_next}
use Rattle.objects.proofs.LentLemmas.{given_more}
use Rattle.objects.proofs.channel.refuse_senders.Goals as goal

pub senders-preserved : goal.senders-preserved
senders-preserved g c = (
  granted_next gets_in _ _ _ _ _ _ c.in_ok-give.ensures (ap (λ ss. map gets_by (refuse_senders ss)) c.in-Some.ensures.first) c.senders.invariant.0,
  λ input old given. let are = c.senders.invariant.1 input old given in
      ((c.in-Some.ensures.lent input are.0).0, given_more input _ _ _ c.in_ok-give.ensures tt are.1),
  λ test old. c.in-Some.ensures.queued test (c.senders.invariant.2 test old),
)

pub returns-clause-lent : goal.returns-clause-lent
returns-clause-lent g c input old given =
    let are = c.senders.invariant.1 input old given in
    ((c.next_sender.ensures.lent input are.0).0, are.1)

pub returns-clause-queued : goal.returns-clause-queued
returns-clause-queued g c test old = c.next_sender.ensures.queued test (c.senders.invariant.2 test old)
