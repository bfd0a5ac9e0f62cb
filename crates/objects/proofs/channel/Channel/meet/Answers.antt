use Rattle.std.proofs.Common.{refl}
use Rattle.std.proofs.lemmas.Result.{on_ok_weaker}
use Rattle.objects.proofs.PartLemmas.{part_met}
use Rattle.objects.proofs.LentLemmas.{given_more}
use Rattle.objects.proofs.channel.Channel.meet.Goals as goal

pub returns-in_default-clause-lent : goal.returns-in_default-clause-lent
returns-in_default-clause-lent g c =
    on_ok_weaker c.await_part.result
    (λ stays input inputs old given. stays input inputs (old.0, (c.next_sender.ensures.lent input old.1).0) given)
    c.await_part.ensures.lent

pub returns-clause-serves : goal.returns-clause-serves
returns-clause-serves g c =
    on_ok_weaker c.give-2.result
    (part_met (g.Q.Queues.waits c.args.queues.now) c.args.self.now _ c.in-Some.sender c.args.who _ _ _ c.in-Some.ensures.first refl refl refl refl
    c.in_ok-give.ensures)
    c.give-2.ensures

pub returns-clause-lent : goal.returns-clause-lent
returns-clause-lent g c =
    on_ok_weaker c.give-2.result
    (λ more input inputs old given.
    let queue = c.in-Some.ensures.lent input old.1 in
    let first = given_more input _ _ _ c.in_ok-give.ensures (queue.1 c.in-Some.sender refl) given in
    ((old.0, queue.0), given_more input _ _ _ more tt first))
    c.give-2.ensures

pub returns-in_default-clause-queued : goal.returns-in_default-clause-queued
returns-in_default-clause-queued g c =
    on_ok_weaker c.await_part.result (λ queued test old. queued test (c.next_sender.ensures.queued test old.0, old.1)) c.await_part.ensures.queued

pub returns-clause-queued : goal.returns-clause-queued
returns-clause-queued g c =
    on_ok_weaker c.give-2.result (λ more test old passes. (c.in-Some.ensures.queued test old.0, old.1)) c.give-2.ensures
