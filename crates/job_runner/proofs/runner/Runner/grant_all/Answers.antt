use Rattle.std.proofs.Common.{rules, arith}
use Rattle.std.proofs.lemmas.List.{nil_from_length}
use Rattle.job_runner.proofs.GrantsMade.{first_below, first_bounded, first_lives, first_timed, granting_first, granting_last, granting_next, granting_recorded}
use Rattle.job_runner.proofs.runner.Runner.grant_all.Goals as goal

pub given-init : goal.given-init
given-init c = granting_first (search rules) c.requires.shelved c.requires.may

pub grant-requires-clause-row : goal.grant-requires-clause-row
grant-requires-clause-row c = first_below c.in-Some.one c.given.invariant c.in-Some.ensures.steps.0

pub grant-requires-clause-timed : goal.grant-requires-clause-timed
grant-requires-clause-timed c = first_timed c.in-Some.one c.given.invariant c.in-Some.ensures.steps.0

pub given-preserved : goal.given-preserved
given-preserved c = granting_next c.in-Some.one c.given.invariant c.in-Some.ensures.steps.0 c.in_ok-grant.ensures

pub returns-clause-later : goal.returns-clause-later
returns-clause-later c =
    granting_last c.given.invariant (nil_from_length _ (omega (arith, c.given.one-iterator.rest.ok.0, c.in-None.ensures.steps.0)))

pub grant-requires-clause-lives : goal.grant-requires-clause-lives
grant-requires-clause-lives c = first_lives c.in-Some.one c.given.invariant c.in-Some.ensures.steps.0

pub grant-requires-clause-bounded : goal.grant-requires-clause-bounded
grant-requires-clause-bounded c = first_bounded c.in-Some.one c.given.invariant c.in-Some.ensures.steps.0

pub returns-clause-recorded : goal.returns-clause-recorded
returns-clause-recorded c =
    granting_recorded c.given.invariant (nil_from_length _ (omega (arith, c.given.one-iterator.rest.ok.0, c.in-None.ensures.steps.0)))
