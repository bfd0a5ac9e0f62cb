use Rattle.std.proofs.Common.{subst}
use Rattle.std.proofs.lemmas.Result.{on_ok_weaker}
use Rattle.objects.specs.Held.{IsObjectOf}
use Rattle.objects.proofs.ServeLemmas.{on_ok_both, tokens_serve, parts_serve}
use Rattle.objects.proofs.object.Object.serve.Goals as goal

pub returns-in-Limiter-clause-lent : goal.returns-in-Limiter-clause-lent
returns-in-Limiter-clause-lent g c =
    on_ok_weaker c.serve_tokens.result (λ stays input old call given. (tt, stays input given)) c.serve_tokens.ensures.lent

pub returns-in-Channel-clause-lent : goal.returns-in-Channel-clause-lent
returns-in-Channel-clause-lent g c =
    on_ok_weaker c.serve_parts.result
    (λ stays input old call given. stays input call (subst (IsObjectOf input) c.in-Channel.is old) given)
    c.serve_parts.ensures.lent

pub returns-in-Limiter-clause-serves : goal.returns-in-Limiter-clause-serves
returns-in-Limiter-clause-serves g c =
    on_ok_both c.serve_tokens.result
    (tokens_serve (g.Q.Queues.waits c.args.queues.now) c.args.self.now c.in-Limiter.limiter _ c.args.operation _ _ c.in-Limiter.is)
    c.serve_tokens.ensures.serves c.serve_tokens.ensures.queued

pub returns-in-Channel-clause-serves : goal.returns-in-Channel-clause-serves
returns-in-Channel-clause-serves g c =
    on_ok_both c.serve_parts.result
    (parts_serve (g.Q.Queues.waits c.args.queues.now) c.args.self.now c.in-Channel.channel _ c.args.operation _ _ c.in-Channel.is)
    c.serve_parts.ensures.serves c.serve_parts.ensures.queued
