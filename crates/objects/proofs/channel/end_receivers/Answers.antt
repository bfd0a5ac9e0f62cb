use Rattle.std.proofs.Common.{ap, map}
use Rattle.objects.specs.Channels.{end_receivers}
use Rattle.objects.specs.Held.{gets_in, gets_by}
use Rattle.objects.proofs.Waiting.{granted_next}
use Rattle.objects.proofs.LentLemmas.{given_more}
use Rattle.objects.proofs.channel.end_receivers.Goals as goal

pub receivers-preserved : goal.receivers-preserved
receivers-preserved g c = (
  granted_next gets_in _ _ _ _ _ _ c.in_ok-give.ensures (ap (λ ws. map gets_by (end_receivers ws)) c.in-Some.ensures.first) c.receivers.invariant.0,
  λ input given. given_more input _ _ _ c.in_ok-give.ensures tt (c.receivers.invariant.1 input given),
  λ test old. c.in-Some.ensures.queued test (c.receivers.invariant.2 test old),
)

pub returns-clause-queued : goal.returns-clause-queued
returns-clause-queued g c test old = c.next_waiting.ensures.queued test (c.receivers.invariant.2 test old)
