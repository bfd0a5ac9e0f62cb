use Rattle.std.proofs.Common.{not, ap, sym, ◌∙◌}
use Rattle.job_runner.proofs.States.{moment_bounded}
use Rattle.job_runner.proofs.Stopped.{not_timed, not_sleeping, stopping_lives, stopping_scope, at_once_going, waits_later, waits_bounded, set_going, unset_going}
use Rattle.job_runner.proofs.runner.Runner.handle_wait_for.Goals as goal

pub wait_ends-due-requires : goal.wait_ends-due-requires
wait_ends-due-requires c = moment_bounded c.requires.shelved.consistent

pub call_at_once-requires-clause-lives : goal.call_at_once-requires-clause-lives
call_at_once-requires-clause-lives c = stopping_lives c.requires

pub call_at_once-requires-clause-opened : goal.call_at_once-requires-clause-opened
call_at_once-requires-clause-opened c = stopping_scope c.requires

pub returns-in-Some-clause-going : goal.returns-in-Some-clause-going
returns-in-Some-clause-going c =
    at_once_going c.requires c.add.new.self c.wait_ends-due.result c.wait_ends-due.ensures
    (λ x e. sym c.in-Some.is ∙ c.call_at_once.ensures x e) c.in_ok-add.ensures.current c.in_ok-add.ensures.added

pub put_to_sleep-requires-clause-awake : goal.put_to_sleep-requires-clause-awake
put_to_sleep-requires-clause-awake c = not_timed c.requires

pub put_to_sleep-requires-clause-asleep : goal.put_to_sleep-requires-clause-asleep
put_to_sleep-requires-clause-asleep c = not_sleeping c.requires

pub put_to_sleep-requires-clause-later : goal.put_to_sleep-requires-clause-later
put_to_sleep-requires-clause-later c =
    waits_later c.requires c.wait_ends-due.ensures (λ x e. sym c.in_default.is ∙ c.call_at_once.ensures x e)

pub put_to_sleep-requires-clause-bounded : goal.put_to_sleep-requires-clause-bounded
put_to_sleep-requires-clause-bounded c =
    waits_bounded c.requires c.wait_ends-due.ensures (λ x e. sym c.in_default.is ∙ c.call_at_once.ensures x e)

pub put_to_sleep-requires-clause-lives : goal.put_to_sleep-requires-clause-lives
put_to_sleep-requires-clause-lives c = stopping_lives c.requires

pub put_to_sleep-requires-clause-opened : goal.put_to_sleep-requires-clause-opened
put_to_sleep-requires-clause-opened c = stopping_scope c.requires

pub returns-in_ok-add-2-clause-going : goal.returns-in_ok-add-2-clause-going
returns-in_ok-add-2-clause-going c =
    unset_going c.requires c.wait_ends-due.ensures (λ x e. sym c.in_default.is ∙ c.call_at_once.ensures x e) c.in_ok-put_to_sleep.ensures
    c.set_from.result c.set_from.ensures (c.is_none.ensures ∙ ap not c.if-is_none.true) c.add-then-is_none.new.self c.in_ok-add-2.ensures.ok

pub returns-else-is_none-clause-going : goal.returns-else-is_none-clause-going
returns-else-is_none-clause-going c =
    set_going c.requires c.wait_ends-due.ensures (λ x e. sym c.in_default.is ∙ c.call_at_once.ensures x e) c.in_ok-put_to_sleep.ensures
    c.set_from.result c.set_from.ensures (c.is_none.ensures ∙ ap not c.if-is_none.false)
