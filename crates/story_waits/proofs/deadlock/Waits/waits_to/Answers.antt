use Rattle.std.proofs.Common.{◌≡◌, ℕ, suc, ◌-◌, ◌<◌, arith, sym, ap, ◌∙◌}
use Rattle.std.specs.Prelude.{Some}
use Rattle.job_story.specs.Deadlock.{waits_to}
use Rattle.story_waits.specs.Deadlock.{wait_in, waits_in}
use Rattle.story_waits.proofs.DeadlockLemmas.{after, one_more_wait, waits_nowhere, waits_back, waits_on}
use Rattle.story_waits.proofs.deadlock.Waits.waits_to.Goals as goal

one_less : (n : ℕ) → 0 < n → n ≡ suc (n - 1)
one_less n lt = omega (arith, lt)

pub returns-in_default : goal.returns-in_default
returns-in_default c es k =
    waits_nowhere (c.waits.left - 1) es c.args.first.now c.waits.task.now (waits_in c.waits.waits) (c.in_default.ensures es k)
    ∙ ap (λ n. after (waits_in c.waits.waits) (waits_to n es c.args.first.now c.waits.task.now)) (sym (one_less c.waits.left c.waits-test.true))
    ∙ c.waits.invariant es k

pub returns-then-eq : goal.returns-then-eq
returns-then-eq c es k =
    ap (λ ws. Some ws) (one_more_wait c.waits.waits c.push.new.self c.in-Some.wait c.in_ok-push.ensures.items)
    ∙ waits_back (c.waits.left - 1) es c.args.first.now c.waits.task.now (waits_in c.waits.waits) (wait_in c.in-Some.wait) (c.in-Some.ensures es k)
    (sym c.eq.ensures ∙ c.if-eq.true)
    ∙ ap (λ n. after (waits_in c.waits.waits) (waits_to n es c.args.first.now c.waits.task.now)) (sym (one_less c.waits.left c.waits-test.true))
    ∙ c.waits.invariant es k

pub waits-preserved : goal.waits-preserved
waits-preserved c es k =
    ap (λ ws. after ws (waits_to (c.waits.left - 1) es c.args.first.now c.in-Some.wait.holder.now))
    (one_more_wait c.waits.waits c.push.new.self c.in-Some.wait c.in_ok-push.ensures.items)
    ∙ waits_on (c.waits.left - 1) es c.args.first.now c.waits.task.now (waits_in c.waits.waits) (wait_in c.in-Some.wait) (c.in-Some.ensures es k)
    (sym c.eq.ensures ∙ c.if-eq.false)
    ∙ ap (λ n. after (waits_in c.waits.waits) (waits_to n es c.args.first.now c.waits.task.now)) (sym (one_less c.waits.left c.waits-test.true))
    ∙ c.waits.invariant es k
