use Rattle.std.proofs.Common.{refl, arith}
use Rattle.std.proofs.lemmas.Result.{on_ok_weaker}
use Rattle.objects.proofs.PartLemmas.{part_queued, part_put}
use Rattle.objects.proofs.LentLemmas.{lent_more, lent_sender, given_more}
use Rattle.objects.proofs.channel.Channel.put.Goals as goal

pub returns-then-len-self-clause-serves : goal.returns-then-len-self-clause-serves
returns-then-len-self-clause-serves c waits =
    part_queued waits c.args.self.now _ c.args.who c.args.part _ (omega (arith, c.if-len-self.true, c.len.ensures)) refl refl refl
    c.in_ok-push_back.ensures.items refl

pub returns-then-len-self-clause-lent : goal.returns-then-len-self-clause-lent
returns-then-len-self-clause-lent c input part old given =
    ((old.0, lent_sender input _ _ _ c.in_ok-push_back.ensures.items part.0 old.1), given)

pub returns-clause-serves : goal.returns-clause-serves
returns-clause-serves c =
    on_ok_weaker c.give.result
    (λ more waits. part_put waits c.args.self.now _ c.args.who c.args.part _ _ (omega (arith, c.if-len-self.false, c.len.ensures)) refl
    c.in_ok-push_back-2.ensures.items refl refl refl more)
    c.give.ensures

pub returns-clause-lent : goal.returns-clause-lent
returns-clause-lent c =
    on_ok_weaker c.give.result
    (λ more input part old given. ((lent_more input _ _ _ c.in_ok-push_back-2.ensures.items part.0 old.0, old.1), given_more input _ _ _ more tt given))
    c.give.ensures
