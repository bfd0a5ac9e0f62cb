use Rattle.std.proofs.Common.{refl}
use Rattle.std.proofs.lemmas.Result.{on_ok_weaker}
use Rattle.objects.proofs.TokenLemmas.{token_passed}
use Rattle.objects.proofs.LentLemmas.{given_more}
use Rattle.objects.proofs.limiter.Limiter.give_back.Goals as goal

pub returns-clause-serves : goal.returns-clause-serves
returns-clause-serves g c =
    on_ok_weaker c.give.result (token_passed (g.Q.Queues.waits c.args.queues.now) c.args.self.now _ c.in-Some.who _ _ c.in-Some.ensures.first refl) c.give.ensures

pub returns-clause-lent : goal.returns-clause-lent
returns-clause-lent g c = on_ok_weaker c.give.result (λ more input given. given_more input _ _ _ more tt given) c.give.ensures

pub returns-in_default-clause-queued : goal.returns-in_default-clause-queued
returns-in_default-clause-queued g c =
    on_ok_weaker c.free_one.result (λ freed test old. rw freed (c.next_waiting.ensures.queued test old)) c.free_one.ensures
