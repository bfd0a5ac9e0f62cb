use Rattle.std.proofs.Common.{refl, subst}
use Rattle.std.proofs.lemmas.Result.{on_ok_weaker}
use Rattle.objects.specs.Held.{to_limiter, IsAskedBy}
use Rattle.objects.proofs.TokenLemmas.{tokens_untouched}
use Rattle.objects.proofs.object.serve_tokens.Goals as goal

pub returns-in-Send-clause-serves : goal.returns-in-Send-clause-serves
returns-in-Send-clause-serves g c =
    tokens_untouched (g.Q.Queues.waits c.args.queues.now) c.args.limiter.now (to_limiter c.args.operation) _ (rw (c.in-Asks.is, c.in-Send.is) refl)

pub returns-in-Receive-clause-serves : goal.returns-in-Receive-clause-serves
returns-in-Receive-clause-serves g c =
    tokens_untouched (g.Q.Queues.waits c.args.queues.now) c.args.limiter.now (to_limiter c.args.operation) _ (rw (c.in-Asks.is, c.in-Receive.is) refl)

pub returns-in-Closes-clause-serves : goal.returns-in-Closes-clause-serves
returns-in-Closes-clause-serves g c = tokens_untouched (g.Q.Queues.waits c.args.queues.now) c.args.limiter.now (to_limiter c.args.operation) _ (rw c.in-Closes.is refl)

pub returns-in-Acquire-clause-queued : goal.returns-in-Acquire-clause-queued
returns-in-Acquire-clause-queued g c =
    on_ok_weaker c.acquire.result (λ queued test old asked. queued test old (subst (IsAskedBy test) c.in-Asks.is asked)) c.acquire.ensures.queued

pub returns-in-GivesBack-clause-queued : goal.returns-in-GivesBack-clause-queued
returns-in-GivesBack-clause-queued g c =
    on_ok_weaker c.give_back.result (λ queued test old asked. queued test old) c.give_back.ensures.queued
