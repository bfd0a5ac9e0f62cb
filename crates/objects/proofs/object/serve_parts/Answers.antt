use Rattle.std.proofs.Common.{refl, subst}
use Rattle.std.proofs.lemmas.Result.{on_ok_weaker}
use Rattle.objects.specs.Held.{to_channel, IsAskedBy}
use Rattle.objects.proofs.PartLemmas.{parts_untouched}
use Rattle.objects.proofs.object.serve_parts.Goals as goal

pub returns-in-Acquire-clause-serves : goal.returns-in-Acquire-clause-serves
returns-in-Acquire-clause-serves g c =
    parts_untouched (g.Q.Queues.waits c.args.queues.now) c.args.channel.now (to_channel c.args.operation) _ (rw (c.in-Asks.is, c.in-Acquire.is) refl)

pub returns-in-Receive-clause-lent : goal.returns-in-Receive-clause-lent
returns-in-Receive-clause-lent g c = on_ok_weaker c.receive.result (λ stays input operation. stays input tt) c.receive.ensures.lent

pub returns-in-GivesBack-clause-serves : goal.returns-in-GivesBack-clause-serves
returns-in-GivesBack-clause-serves g c =
    parts_untouched (g.Q.Queues.waits c.args.queues.now) c.args.channel.now (to_channel c.args.operation) _ (rw c.in-GivesBack.is refl)

pub returns-in-Closes-clause-lent : goal.returns-in-Closes-clause-lent
returns-in-Closes-clause-lent g c = on_ok_weaker c.close.result (λ stays input operation. stays input tt) c.close.ensures.lent

pub returns-in-Send-clause-queued : goal.returns-in-Send-clause-queued
returns-in-Send-clause-queued g c =
    on_ok_weaker c.send.result (λ queued test old asked. queued test old (subst (IsAskedBy test) c.in-Asks.is asked)) c.send.ensures.queued

pub returns-in-Receive-clause-queued : goal.returns-in-Receive-clause-queued
returns-in-Receive-clause-queued g c =
    on_ok_weaker c.receive.result (λ queued test old asked. queued test old (subst (IsAskedBy test) c.in-Asks.is asked)) c.receive.ensures.queued

pub returns-in-Closes-clause-queued : goal.returns-in-Closes-clause-queued
returns-in-Closes-clause-queued g c = on_ok_weaker c.close.result (λ queued test old asked. queued test old) c.close.ensures.queued
