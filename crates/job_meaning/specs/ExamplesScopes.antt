-- Worked examples on scopes, deadlines, shields and cancellation, each a theorem by computing.
use Rattle.std.specs.Prelude.{◌≡◌, None, Some, [], ◌∷◌, refl, codes}
use Rattle.job_tree.specs.Tree.{sleep, checkpoint, forever, find, raise, cancel}
use Rattle.exceptions.specs.Exceptions.{too_slow}
use Rattle.job_meaning.specs.Examples.{scope_of, timed_scope, scope_at, fail_scope, shielded_scope, timed_shield, try_except, try_finally, label_named, raised_by, line_at, scope_caught, scope_passed, main_ran, run_of, end_of, followed_end_of}

-- scope s after 5 { sleep 5; }
pub sleeper_due_at_the_deadline_is_cancelled :
    run_of (timed_scope (codes "s") 5 (sleep 5 ∷ []) ∷ []) [] ≡ main_ran 0 5 None (scope_caught (codes "s") 5 ∷ []) ∷ []
unfolding run_of
sleeper_due_at_the_deadline_is_cancelled = refl

-- scope s after 5 { sleep 4; }
pub sleeper_due_before_the_deadline_ends_well :
    run_of (timed_scope (codes "s") 5 (sleep 4 ∷ []) ∷ []) [] ≡ main_ran 0 4 None (scope_passed (codes "s") 4 ∷ []) ∷ []
unfolding run_of
sleeper_due_before_the_deadline_ends_well = refl

-- scope s after 0 { find "a"; checkpoint; }
pub kernel_is_no_checkpoint :
    run_of (timed_scope (codes "s") 0 (find (codes "a") ∷ checkpoint ∷ []) ∷ []) (codes "a")
    ≡ main_ran 0 0 None (line_at 0 0 1 ∷ scope_caught (codes "s") 0 ∷ []) ∷ []
unfolding run_of
kernel_is_no_checkpoint = refl

-- scope s { cancel s; checkpoint; sleep 3; }
pub cancel_is_seen_in_the_next_tick :
    run_of (scope_of (codes "s") (cancel (codes "s") ∷ checkpoint ∷ sleep 3 ∷ []) ∷ []) []
    ≡ main_ran 0 1 None (scope_caught (codes "s") 1 ∷ []) ∷ []
unfolding run_of
cancel_is_seen_in_the_next_tick = refl

-- scope s after 4 { try { forever; } finally { scope g shield { sleep 3; } sleep 1; } }
pub cancellation_is_raised_at_each_checkpoint :
    run_of
    (timed_scope (codes "s") 4
    (try_finally (forever ∷ []) (shielded_scope (codes "g") (sleep 3 ∷ []) ∷ sleep 1 ∷ []) ∷ []) ∷ [])
    []
    ≡ main_ran 0 7 None (scope_passed (codes "g") 7 ∷ scope_caught (codes "s") 7 ∷ []) ∷ []
unfolding run_of
cancellation_is_raised_at_each_checkpoint = refl

-- scope s after 1 { try { forever; } finally { raise Bad; } }
pub raising_cleanup_replaces_cancelled :
    run_of (timed_scope (codes "s") 1 (try_finally (forever ∷ []) (raise (codes "Bad") ∷ []) ∷ []) ∷ []) []
    ≡ main_ran 0 1 (Some (raised_by (codes "Bad") (codes "main") 1)) (scope_passed (codes "s") 1 ∷ []) ∷ []
unfolding run_of
raising_cleanup_replaces_cancelled = refl

-- scope o after 3 { scope i after 3 { forever; } checkpoint; }
pub seen_outer_scope_catches :
    run_of (timed_scope (codes "o") 3 (timed_scope (codes "i") 3 (forever ∷ []) ∷ checkpoint ∷ []) ∷ []) []
    ≡ main_ran 0 3 None (scope_passed (codes "i") 3 ∷ scope_caught (codes "o") 3 ∷ []) ∷ []
unfolding run_of
seen_outer_scope_catches = refl

-- scope o after 2 { scope i after 4 shield { forever; } sleep 1; }
pub shield_hides_the_outside_and_not_its_own_deadline :
    run_of (timed_scope (codes "o") 2 (timed_shield (codes "i") 4 (forever ∷ []) ∷ sleep 1 ∷ []) ∷ []) []
    ≡ main_ran 0 4 None (scope_caught (codes "i") 4 ∷ scope_caught (codes "o") 4 ∷ []) ∷ []
unfolding run_of
shield_hides_the_outside_and_not_its_own_deadline = refl

-- scope s after 2 fail { forever; }
pub fail_scope_raises_too_slow :
    run_of (fail_scope (codes "s") 2 (forever ∷ []) ∷ []) []
    ≡ main_ran 0 2 (Some (too_slow (label_named (codes "s")) 2)) (scope_caught (codes "s") 2 ∷ []) ∷ []
unfolding run_of
fail_scope_raises_too_slow = refl

-- try { scope s after 1 fail { forever; } } except TooSlow { sleep 1; }
pub too_slow_matches_its_name :
    run_of (try_except (fail_scope (codes "s") 1 (forever ∷ []) ∷ []) (codes "TooSlow") (sleep 1 ∷ []) ∷ []) []
    ≡ main_ran 0 2 None (scope_caught (codes "s") 1 ∷ []) ∷ []
unfolding run_of
too_slow_matches_its_name = refl

-- scope s { try { cancel s; sleep 4; } finally { cancel s; checkpoint; } }
pub second_cancel_is_no_later :
    run_of
    (scope_of (codes "s")
    (try_finally (cancel (codes "s") ∷ sleep 4 ∷ []) (cancel (codes "s") ∷ checkpoint ∷ []) ∷ []) ∷ [])
    []
    ≡ main_ran 0 1 None (scope_caught (codes "s") 1 ∷ []) ∷ []
unfolding run_of
second_cancel_is_no_later = refl

-- scope s { cancel s; find "a"; }
pub cancelled_scope_without_a_checkpoint_passes :
    run_of (scope_of (codes "s") (cancel (codes "s") ∷ find (codes "a") ∷ []) ∷ []) (codes "a")
    ≡ main_ran 0 0 None (line_at 0 0 1 ∷ scope_passed (codes "s") 0 ∷ []) ∷ []
unfolding run_of
cancelled_scope_without_a_checkpoint_passes = refl

-- sleep 5; scope s at 3 { checkpoint; }
pub deadline_may_lie_in_the_past :
    run_of (sleep 5 ∷ scope_at (codes "s") 3 (checkpoint ∷ []) ∷ []) []
    ≡ main_ran 0 5 None (scope_caught (codes "s") 5 ∷ []) ∷ []
unfolding run_of
deadline_may_lie_in_the_past = refl

-- sleep 100;
pub sleep_ends_when_it_is_due : run_of (sleep 100 ∷ []) [] ≡ main_ran 0 100 None [] ∷ []
unfolding run_of
sleep_ends_when_it_is_due = refl

-- forever;
pub forever_sleeps_to_the_far_tick : end_of (forever ∷ []) [] ≡ 1099511627776
unfolding end_of
forever_sleeps_to_the_far_tick = refl

-- Of two scopes of one name the first is cancelled: the job ends at tick 4 ..
--   scope s { cancel s; sleep 1; } scope s { sleep 3; }
pub second_scope_of_a_name_is_not_cancelled :
    end_of (scope_of (codes "s") (cancel (codes "s") ∷ sleep 1 ∷ []) ∷ scope_of (codes "s") (sleep 3 ∷ []) ∷ []) [] ≡ 4
unfolding end_of
second_scope_of_a_name_is_not_cancelled = refl

-- .. but by its table, which has one tick for both, at tick 1. So a table is settled only if names are given
-- once.
pub table_needs_names_given_once :
    followed_end_of (scope_of (codes "s") (cancel (codes "s") ∷ sleep 1 ∷ []) ∷ scope_of (codes "s") (sleep 3 ∷ []) ∷ []) [] ≡ 1
unfolding followed_end_of
table_needs_names_given_once = refl
