use Rattle.std.proofs.lemmas.Result.{on_ok_weaker}
use Rattle.objects.proofs.channel.Channel.close.Goals as goal

pub returns-clause-lent : goal.returns-clause-lent
returns-clause-lent g c =
    on_ok_weaker c.end_receivers.result
    (λ ended input inputs old given.
    let refused = c.in_ok-refuse_senders.ensures.lent input old.1 given in
    ((old.0, refused.0), ended input refused.1))
    c.end_receivers.ensures.lent

pub returns-clause-queued : goal.returns-clause-queued
returns-clause-queued g c =
    on_ok_weaker c.end_receivers.result
    (λ queued test old. (c.in_ok-refuse_senders.ensures.queued test old.0, queued test old.1))
    c.end_receivers.ensures.queued
