use Rattle.std.proofs.Common.{refl}
use Rattle.std.proofs.lemmas.Result.{on_ok_weaker}
use Rattle.objects.proofs.PartLemmas.{part_refused, part_passed}
use Rattle.objects.proofs.LentLemmas.{given_more}
use Rattle.objects.proofs.channel.Channel.send.Goals as goal

pub returns-then-self-clause-serves : goal.returns-then-self-clause-serves
returns-then-self-clause-serves g c =
    on_ok_weaker c.give.result (part_refused (g.Q.Queues.waits c.args.queues.now) c.args.self.now c.args.who _ _ _ c.if-self.true) c.give.ensures

pub returns-then-self-clause-lent : goal.returns-then-self-clause-lent
returns-then-self-clause-lent g c =
    on_ok_weaker c.give.result (λ more input part old given. (old, given_more input _ _ _ more tt given)) c.give.ensures

pub returns-clause-serves : goal.returns-clause-serves
returns-clause-serves g c =
    on_ok_weaker c.give-3.result
    (part_passed (g.Q.Queues.waits c.args.queues.now) c.args.self.now _ c.in-Some.receiver c.args.who c.args.part _ _ _ c.if-self.false
    c.in-Some.ensures.first refl refl refl refl c.in_ok-give.ensures)
    c.give-3.ensures

pub returns-clause-lent : goal.returns-clause-lent
returns-clause-lent g c =
    on_ok_weaker c.give-3.result
    (λ more input part old given. (old, given_more input _ _ _ more tt (given_more input _ _ _ c.in_ok-give.ensures part.0 given)))
    c.give-3.ensures

pub returns-in_default-clause-queued : goal.returns-in_default-clause-queued
returns-in_default-clause-queued g c =
    on_ok_weaker c.put.result (λ queued test old. queued test (old.0, c.next_waiting.ensures.queued test old.1)) c.put.ensures.queued

pub returns-clause-queued : goal.returns-clause-queued
returns-clause-queued g c =
    on_ok_weaker c.give-3.result (λ more test old passes. (old.0, c.in-Some.ensures.queued test old.1)) c.give-3.ensures
