use Rattle.std.proofs.Common.{refl, ◌≡◌, ◌-◌, suc, arith}
use Rattle.std.proofs.lemmas.Result.{on_ok_weaker}
use Rattle.objects.proofs.TokenLemmas.{tokens_queued, token_taken}
use Rattle.objects.proofs.LentLemmas.{given_more}
use Rattle.objects.proofs.limiter.Limiter.acquire.Goals as goal

pub returns-then-self-eq0-clause-serves : goal.returns-then-self-eq0-clause-serves
returns-then-self-eq0-clause-serves c waits =
    tokens_queued waits c.args.self.now _ c.args.who _ c.if-self-eq0.true refl c.in_ok-push_back.ensures.items

pub returns-clause-serves : goal.returns-clause-serves
returns-clause-serves c =
    let some : c.args.self.now.free ≡ suc (c.args.self.now.free - 1) = omega (arith, c.if-self-eq0.false) in
    on_ok_weaker c.give.result (λ more waits. token_taken waits (c.args.self.now.free - 1) c.args.self.now _ c.args.who _ _ some refl refl more) c.give.ensures

pub returns-clause-lent : goal.returns-clause-lent
returns-clause-lent c = on_ok_weaker c.give.result (λ more input given. given_more input _ _ _ more tt given) c.give.ensures
