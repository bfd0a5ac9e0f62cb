use Rattle.std.proofs.Common.{subst}
use Rattle.std.proofs.lemmas.Result.{on_ok_weaker}
use Rattle.objects.specs.Held.{AreOf}
use Rattle.objects.proofs.LentLemmas.{given_more}
use Rattle.objects.proofs.channel.Channel.receive.Goals as goal

pub returns-in_default-clause-lent : goal.returns-in_default-clause-lent
returns-in_default-clause-lent g c =
    on_ok_weaker c.meet.result
    (λ stays input inputs old given. stays input inputs (subst (AreOf input) c.in_default.ensures.items old.0, old.1) given)
    c.meet.ensures.lent

pub returns-clause-lent : goal.returns-clause-lent
returns-clause-lent g c =
    on_ok_weaker c.refill.result
    (λ stays input inputs old given.
    let buffer = subst (AreOf input) c.in-Some.ensures.items old.0 in
    stays input inputs (buffer.1, old.1) (given_more input _ _ _ c.in_ok-give.ensures buffer.0 given))
    c.refill.ensures.lent

pub returns-clause-queued : goal.returns-clause-queued
returns-clause-queued g c = on_ok_weaker c.refill.result (λ queued test old passes. queued test old) c.refill.ensures.queued
