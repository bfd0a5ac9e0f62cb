-- Worked examples where a tick has rounds, each a theorem by computing. The expected records were worked out by hand. Trio has no `pace`,
-- and where two tasks fail in one round, it has several outcomes.
use Rattle.std.specs.Prelude.{◌≡◌, ℕ, false, None, Some, List, [], ◌∷◌, refl, codes}
use Rattle.job_tree.specs.Tree.{Step, sleep, checkpoint, forever, pace, raise, cancel, repeat, attempt, except, finally}
use Rattle.exceptions.specs.Exceptions.{cancelled}
use Rattle.job_meaning.specs.Log.{Result, nil, task}
use Rattle.job_meaning.specs.Moments.{tick_of, only_at}
use Rattle.job_meaning.specs.declared.clock.Clock.TheVariants.{ByRounds as by_rounds}
use Rattle.job_meaning.specs.Sharing.{no_grants}
use Rattle.job_meaning.specs.Walk.{two_walks, no_stack, walk, and_then, sleep_result, pace_result, lines_result, raise_result, need_result, cancel_result, set_result, event_wait, block, event_block, with_sign, nursery_result, child, handler_result, cleanup_result}
use Rattle.job_meaning.specs.Meaning.{Record, records_of}
use Rattle.job_meaning.specs.Examples.{block_of, scope_of, timed_scope, scope_at, fail_scope, timed_shield, nursery_of, start_of, try_except, try_finally, label_named, raised_by, group_by, scope_caught, scope_passed, nursery_caught, nursery_passed, record_of, main_ran}

-- the walk of the steps of a job without input
unfoldable pub walk_by_rounds : List Step → Result
unfolding walk and_then sleep_result pace_result lines_result raise_result need_result cancel_result set_result event_wait block event_block with_sign nursery_result child handler_result cleanup_result
walk_by_rounds ss =
    walk (two_walks no_grants) (block_of ss)
    (record { clock = by_rounds; input = []; part = record { from = 0; to = 0 }; task = label_named (codes "main"); path = [] }) no_stack (only_at 0)

-- their records
unfoldable pub records_by_rounds : List Step → List Record
unfolding walk_by_rounds
records_by_rounds ss =
    let r = walk_by_rounds ss in records_of by_rounds (task (label_named (codes "main")) 0 r.end r.exc r.log nil)

-- the tick at which they end
unfoldable pub end_by_rounds : List Step → ℕ
unfolding walk_by_rounds
end_by_rounds ss = tick_of by_rounds (walk_by_rounds ss).end

-- nursery n { start a { sleep 4; raise X; } start b { try { forever; } finally { scope f after 5 shield { sleep 3; } } } }
pub sibling_fails :
    records_by_rounds
    (nursery_of (codes "n")
    (start_of (codes "a") (sleep 4 ∷ raise (codes "X") ∷ [])
    ∷ start_of (codes "b") (try_finally (forever ∷ []) (timed_shield (codes "f") 5 (sleep 3 ∷ []) ∷ []) ∷ [])
    ∷ [])
    ∷ [])
    ≡ main_ran 0 7 (Some (group_by (codes "n") (raised_by (codes "X") (codes "a") 4 ∷ []))) (nursery_caught (codes "n") 7 ∷ [])
    ∷ record_of (label_named (codes "a")) 0 4 (Some (raised_by (codes "X") (codes "a") 4)) []
    ∷ record_of (label_named (codes "b")) 0 7 (Some cancelled) (scope_passed (codes "f") 7 ∷ [])
    ∷ []
unfolding records_by_rounds
sibling_fails = refl

-- scope s after 3 { sleep 3; }
pub deadline_beside_a_sleep_of_the_same_length :
    records_by_rounds (timed_scope (codes "s") 3 (sleep 3 ∷ []) ∷ []) ≡ main_ran 0 3 None (scope_caught (codes "s") 3 ∷ []) ∷ []
unfolding records_by_rounds
deadline_beside_a_sleep_of_the_same_length = refl

-- nursery n { start a { sleep 2; cancel n; } start b { try { forever; } except X { } finally { checkpoint; } } }
pub cancelled_task_cleans_up_in_the_same_tick :
    records_by_rounds
    (nursery_of (codes "n")
    (start_of (codes "a") (sleep 2 ∷ cancel (codes "n") ∷ [])
    ∷ start_of (codes "b")
    (attempt (block_of (forever ∷ [])) (except (codes "X") (block_of [])) (finally (block_of (checkpoint ∷ []))) ∷ [])
    ∷ [])
    ∷ [])
    ≡ main_ran 0 2 None (nursery_caught (codes "n") 2 ∷ [])
    ∷ record_of (label_named (codes "a")) 0 2 None []
    ∷ record_of (label_named (codes "b")) 0 2 (Some cancelled) []
    ∷ []
unfolding records_by_rounds
cancelled_task_cleans_up_in_the_same_tick = refl

-- scope s { cancel s; }
pub own_cancel_and_no_checkpoint :
    records_by_rounds (scope_of (codes "s") (cancel (codes "s") ∷ []) ∷ []) ≡ main_ran 0 0 None (scope_passed (codes "s") 0 ∷ []) ∷ []
unfolding records_by_rounds
own_cancel_and_no_checkpoint = refl

-- scope s { cancel s; checkpoint; }
pub own_cancel_and_a_checkpoint :
    records_by_rounds (scope_of (codes "s") (cancel (codes "s") ∷ checkpoint ∷ []) ∷ [])
    ≡ main_ran 0 0 None (scope_caught (codes "s") 0 ∷ []) ∷ []
unfolding records_by_rounds
own_cancel_and_a_checkpoint = refl

-- scope a { scope b after 1 { try { forever; } finally { cancel a; } } }
pub own_cancel_of_what_is_outside :
    records_by_rounds
    (scope_of (codes "a") (timed_scope (codes "b") 1 (try_finally (forever ∷ []) (cancel (codes "a") ∷ []) ∷ []) ∷ []) ∷ [])
    ≡ main_ran 0 1 None (scope_passed (codes "b") 1 ∷ scope_caught (codes "a") 1 ∷ []) ∷ []
unfolding records_by_rounds
own_cancel_of_what_is_outside = refl

-- scope s after 0 { sleep 5; }
pub deadline_that_is_over_on_entry :
    records_by_rounds (timed_scope (codes "s") 0 (sleep 5 ∷ []) ∷ []) ≡ main_ran 0 0 None (scope_caught (codes "s") 0 ∷ []) ∷ []
unfolding records_by_rounds
deadline_that_is_over_on_entry = refl

-- scope s after 0 { raise X; }
pub deadline_that_is_over_on_entry_and_no_checkpoint :
    records_by_rounds (timed_scope (codes "s") 0 (raise (codes "X") ∷ []) ∷ [])
    ≡ main_ran 0 0 (Some (raised_by (codes "X") (codes "main") 0)) (scope_passed (codes "s") 0 ∷ []) ∷ []
unfolding records_by_rounds
deadline_that_is_over_on_entry_and_no_checkpoint = refl

-- nursery n { start a { checkpoint; raise X; } start b { nursery m { start c { checkpoint; raise Y; } } } }
pub deeper_task_starts_a_round_later :
    records_by_rounds
    (nursery_of (codes "n")
    (start_of (codes "a") (checkpoint ∷ raise (codes "X") ∷ [])
    ∷ start_of (codes "b") (nursery_of (codes "m") (start_of (codes "c") (checkpoint ∷ raise (codes "Y") ∷ []) ∷ []) ∷ [])
    ∷ [])
    ∷ [])
    ≡ main_ran 0 0 (Some (group_by (codes "n") (raised_by (codes "X") (codes "a") 0 ∷ []))) (nursery_caught (codes "n") 0 ∷ [])
    ∷ record_of (label_named (codes "a")) 0 0 (Some (raised_by (codes "X") (codes "a") 0)) []
    ∷ record_of (label_named (codes "b")) 0 0 (Some (group_by (codes "m") (cancelled ∷ []))) (nursery_passed (codes "m") 0 ∷ [])
    ∷ record_of (label_named (codes "c")) 0 0 (Some cancelled) []
    ∷ []
unfolding records_by_rounds
deeper_task_starts_a_round_later = refl

-- nursery n { start a { checkpoint; checkpoint; cancel n; } start b { checkpoint; raise X; } }
pub checkpoints_count_rounds :
    records_by_rounds
    (nursery_of (codes "n")
    (start_of (codes "a") (checkpoint ∷ checkpoint ∷ cancel (codes "n") ∷ [])
    ∷ start_of (codes "b") (checkpoint ∷ raise (codes "X") ∷ [])
    ∷ [])
    ∷ [])
    ≡ main_ran 0 0 (Some (group_by (codes "n") (raised_by (codes "X") (codes "b") 0 ∷ []))) (nursery_caught (codes "n") 0 ∷ [])
    ∷ record_of (label_named (codes "a")) 0 0 (Some cancelled) []
    ∷ record_of (label_named (codes "b")) 0 0 (Some (raised_by (codes "X") (codes "b") 0)) []
    ∷ []
unfolding records_by_rounds
checkpoints_count_rounds = refl

-- try { scope first after 5 fail { sleep 6; } } except TooSlow { scope second after 5 { sleep 4; } }
pub fallback_beside_a_deadline :
    records_by_rounds
    (try_except (fail_scope (codes "first") 5 (sleep 6 ∷ []) ∷ []) (codes "TooSlow")
    (timed_scope (codes "second") 5 (sleep 4 ∷ []) ∷ []) ∷ [])
    ≡ main_ran 0 9 None (scope_caught (codes "first") 5 ∷ scope_passed (codes "second") 9 ∷ []) ∷ []
unfolding records_by_rounds
fallback_beside_a_deadline = refl

-- nursery n { start a { raise X; } scope s at 0 { checkpoint; } }
pub checkpoint_is_cancelled_and_a_member_fails :
    records_by_rounds
    (nursery_of (codes "n")
    (start_of (codes "a") (raise (codes "X") ∷ []) ∷ scope_at (codes "s") 0 (checkpoint ∷ []) ∷ [])
    ∷ [])
    ≡ main_ran 0 0 (Some (group_by (codes "n") (raised_by (codes "X") (codes "a") 0 ∷ [])))
    (scope_passed (codes "s") 0 ∷ nursery_caught (codes "n") 0 ∷ [])
    ∷ record_of (label_named (codes "a")) 0 0 (Some (raised_by (codes "X") (codes "a") 0)) []
    ∷ []
unfolding records_by_rounds
checkpoint_is_cancelled_and_a_member_fails = refl

-- nursery n { start a { scope s after 0 { pace 2; } } start b { checkpoint; raise X; } }
pub pace_of_no_tick_takes_one_round :
    records_by_rounds
    (nursery_of (codes "n")
    (start_of (codes "a") (timed_scope (codes "s") 0 (pace 2 ∷ []) ∷ [])
    ∷ start_of (codes "b") (checkpoint ∷ raise (codes "X") ∷ [])
    ∷ [])
    ∷ [])
    ≡ main_ran 0 0 (Some (group_by (codes "n") (raised_by (codes "X") (codes "b") 0 ∷ []))) (nursery_passed (codes "n") 0 ∷ [])
    ∷ record_of (label_named (codes "a")) 0 0 None (scope_caught (codes "s") 0 ∷ [])
    ∷ record_of (label_named (codes "b")) 0 0 (Some (raised_by (codes "X") (codes "b") 0)) []
    ∷ []
unfolding records_by_rounds
pace_of_no_tick_takes_one_round = refl

-- nursery n { cancel n; pace 1; }
pub own_cancel_and_a_pace :
    records_by_rounds (nursery_of (codes "n") (cancel (codes "n") ∷ pace 1 ∷ []) ∷ [])
    ≡ main_ran 0 0 None (nursery_caught (codes "n") 0 ∷ []) ∷ []
unfolding records_by_rounds
own_cancel_and_a_pace = refl

-- nursery n { start a { sleep 1; raise X; } start b { sleep 1; raise Y; } }
pub both_fail_in_one_round :
    records_by_rounds
    (nursery_of (codes "n")
    (start_of (codes "a") (sleep 1 ∷ raise (codes "X") ∷ []) ∷ start_of (codes "b") (sleep 1 ∷ raise (codes "Y") ∷ []) ∷ [])
    ∷ [])
    ≡ main_ran 0 1
    (Some (group_by (codes "n") (raised_by (codes "X") (codes "a") 1 ∷ raised_by (codes "Y") (codes "b") 1 ∷ [])))
    (nursery_passed (codes "n") 1 ∷ [])
    ∷ record_of (label_named (codes "a")) 0 1 (Some (raised_by (codes "X") (codes "a") 1)) []
    ∷ record_of (label_named (codes "b")) 0 1 (Some (raised_by (codes "Y") (codes "b") 1)) []
    ∷ []
unfolding records_by_rounds
both_fail_in_one_round = refl

-- A supervisor that restarts its child three times within a budget of 22 ticks ends in tick 21:
-- scope budget after 22 fail { try { repeat 3 { try { nursery child { start worker { sleep 4; raise Crash; } start metrics { try { forever; }
-- finally { scope flush after 3 shield { sleep 1; } } } } } except Crash { sleep 2; } } raise GaveUp; } except GaveUp {} }
pub supervisor_keeps_its_budget :
    end_by_rounds
    (fail_scope (codes "budget") 22
    (try_except
    (repeat 3 false
    (block_of
    (try_except
    (nursery_of (codes "child")
    (start_of (codes "worker") (sleep 4 ∷ raise (codes "Crash") ∷ [])
    ∷ start_of (codes "metrics") (try_finally (forever ∷ []) (timed_shield (codes "flush") 3 (sleep 1 ∷ []) ∷ []) ∷ [])
    ∷ [])
    ∷ [])
    (codes "Crash")
    (sleep 2 ∷ [])
    ∷ []))
    ∷ raise (codes "GaveUp")
    ∷ [])
    (codes "GaveUp")
    []
    ∷ [])
    ∷ [])
    ≡ 21
unfolding end_by_rounds
supervisor_keeps_its_budget = refl
