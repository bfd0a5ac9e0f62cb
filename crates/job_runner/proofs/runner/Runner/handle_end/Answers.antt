use Rattle.std.proofs.Common.{sym, ◌∙◌}
use Rattle.job_runner.proofs.Ending.{tell_runs, tell_row, tell_parent}
use Rattle.job_runner.proofs.Waiters.{root_going, child_going, homeless, tell_awake}
use Rattle.job_runner.proofs.States.{moment_bounded}
use Rattle.job_runner.proofs.runner.Runner.handle_end.Goals as goal

pub tell-requires-clause-runs : goal.tell-requires-clause-runs
tell-requires-clause-runs c =
    let e = rw c.tick-in-Some.ensures at c.in_ok-end-in-Some.ensures.ended in
    tell_runs c.requires e c.in-Some.home.0 c.in-Some.home.1 (sym (c.home.ensures _ e.lived) ∙ c.in-Some.is)

pub tell-requires-clause-awake : goal.tell-requires-clause-awake
tell-requires-clause-awake c =
    let e = rw c.tick-in-Some.ensures at c.in_ok-end-in-Some.ensures.ended in
    tell_awake c.requires e (sym (c.home.ensures _ e.lived) ∙ c.in-Some.is) c.in_ok-copy-in-Some.ensures

pub tell-requires-clause-bounded : goal.tell-requires-clause-bounded
tell-requires-clause-bounded c = moment_bounded c.requires.shelved.consistent

pub tell-requires-clause-row : goal.tell-requires-clause-row
tell-requires-clause-row c =
    let e = rw c.tick-in-Some.ensures at c.in_ok-end-in-Some.ensures.ended in
    tell_row c.requires e

pub tell-requires-clause-parent : goal.tell-requires-clause-parent
tell-requires-clause-parent c =
    let e = rw c.tick-in-Some.ensures at c.in_ok-end-in-Some.ensures.ended in
    tell_parent c.requires e c.in-Some.home.0 c.in-Some.home.1 (sym (c.home.ensures _ e.lived) ∙ c.in-Some.is)

pub returns-in_ok-end-in-None-clause-going : goal.returns-in_ok-end-in-None-clause-going
returns-in_ok-end-in-None-clause-going c =
    let e = rw c.tick.ensures at c.in_ok-end-in-None.ensures.ended in
    root_going c.requires e c.in_ok-end-in-None.ensures.agree (homeless e.task.home (sym (c.home.ensures _ e.lived) ∙ c.in-None.is))

pub returns-in_ok-tell-in-Some-clause-going : goal.returns-in_ok-tell-in-Some-clause-going
returns-in_ok-tell-in-Some-clause-going c =
    let e = rw c.tick-in-Some.ensures at c.in_ok-end-in-Some.ensures.ended in
    child_going c.requires e c.in_ok-end-in-Some.ensures.agree (sym (c.home.ensures _ e.lived) ∙ c.in-Some.is)
    c.in_ok-copy-in-Some.ensures c.in_ok-tell-in-Some.ensures
