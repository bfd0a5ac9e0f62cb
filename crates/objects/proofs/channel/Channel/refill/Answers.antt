use Rattle.std.proofs.Common.{refl}
use Rattle.std.proofs.lemmas.Result.{on_ok_weaker}
use Rattle.objects.proofs.PartLemmas.{place_kept, place_filled}
use Rattle.objects.proofs.LentLemmas.{lent_more, given_more}
use Rattle.objects.proofs.channel.Channel.refill.Goals as goal

pub returns-in_default-clause-serves : goal.returns-in_default-clause-serves
returns-in_default-clause-serves g c =
    place_kept (g.Q.Queues.waits c.args.queues.now) c.args.self.now _ _ c.in_default.ensures.first.0 c.in_default.ensures.first.1 refl refl refl refl

pub returns-in_default-clause-lent : goal.returns-in_default-clause-lent
returns-in_default-clause-lent g c input inputs old given = ((old.0, (c.next_sender.ensures.lent input old.1).0), given)

pub returns-clause-serves : goal.returns-clause-serves
returns-clause-serves g c =
    on_ok_weaker c.give.result
    (place_filled (g.Q.Queues.waits c.args.queues.now) c.args.self.now _ c.in-Some.sender _ _ c.in-Some.ensures.first refl
    c.in_ok-push_back.ensures.items refl refl)
    c.give.ensures

pub returns-clause-lent : goal.returns-clause-lent
returns-clause-lent g c =
    on_ok_weaker c.give.result
    (λ more input inputs old given.
    let queue = c.in-Some.ensures.lent input old.1 in
    ((lent_more input _ _ _ c.in_ok-push_back.ensures.items (queue.1 c.in-Some.sender refl) old.0, queue.0), given_more input _ _ _ more tt given))
    c.give.ensures

pub returns-in_default-clause-queued : goal.returns-in_default-clause-queued
returns-in_default-clause-queued g c test old = (c.next_sender.ensures.queued test old.0, old.1)

pub returns-clause-queued : goal.returns-clause-queued
returns-clause-queued g c =
    on_ok_weaker c.give.result (λ more test old. (c.in-Some.ensures.queued test old.0, old.1)) c.give.ensures
