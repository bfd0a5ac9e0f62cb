use Rattle.std.proofs.Common.{refl}
use Rattle.std.proofs.lemmas.Result.{on_ok_weaker}
use Rattle.objects.proofs.PartLemmas.{part_ended, part_awaited}
use Rattle.objects.proofs.LentLemmas.{given_more}
use Rattle.objects.proofs.channel.Channel.await_part.Goals as goal

pub returns-then-self-clause-serves : goal.returns-then-self-clause-serves
returns-then-self-clause-serves c =
    on_ok_weaker c.give.result (λ more waits. part_ended waits c.args.self.now c.args.who _ _ c.if-self.true more) c.give.ensures

pub returns-then-self-clause-lent : goal.returns-then-self-clause-lent
returns-then-self-clause-lent c =
    on_ok_weaker c.give.result (λ more input inputs old given. (old, given_more input _ _ _ more tt given)) c.give.ensures

pub returns-clause-serves : goal.returns-clause-serves
returns-clause-serves c waits =
    part_awaited waits c.args.self.now _ c.args.who _ c.if-self.false refl refl refl refl c.in_ok-push_back.ensures.items
