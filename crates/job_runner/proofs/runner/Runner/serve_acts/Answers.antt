use Rattle.std.proofs.Common.{rules, arith}
use Rattle.std.proofs.lemmas.List.{nil_from_length}
use Rattle.job_runner.proofs.ServedRunner.{is_serving_first, is_serving_next, all_served}
use Rattle.job_runner.proofs.runner.Runner.serve_acts.Goals as goal

pub acts-init : goal.acts-init
acts-init c = is_serving_first c.args.self.now c.args.ordered.items _ _ (search rules) (search rules)

pub acts-preserved : goal.acts-preserved
acts-preserved c =
    is_serving_next c.in-Some.placed c.acts.invariant c.in-Some.ensures.steps.0 c.in_ok-serve_act.ensures.serves c.in_ok-serve_act.ensures.lent
    c.in_ok-serve_act.ensures.rest

pub returns-clause-serves : goal.returns-clause-serves
returns-clause-serves c =
    all_served c.acts.invariant (nil_from_length _ (omega (arith, c.acts.placed-iterator.rest.ok.0, c.in-None.ensures.steps.0)))
