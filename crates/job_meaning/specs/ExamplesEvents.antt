-- Worked examples with events, each a theorem by computing. The expected records were worked out by hand.
use Rattle.std.specs.Prelude.{◌≡◌, false, None, Some, [], ◌∷◌, refl, codes}
use Rattle.job_tree.specs.Tree.{sleep, checkpoint, set_event, wait_for, raise, cancel, nursery}
use Rattle.job_tree.specs.declared.deadline.Deadline.TheVariants.{After}
use Rattle.exceptions.specs.Exceptions.{cancelled, raised}
use Rattle.job_meaning.specs.Log.{waited, nursery_left}
use Rattle.job_meaning.specs.Examples.{block_of, event_of, repeat_of, nursery_of, start_of, start_over, timed_scope, label_named, label_at, scope_caught, nursery_caught, nursery_passed, waited_for, record_of, main_ran, group_by}
use Rattle.job_meaning.specs.ExamplesRounds.{records_by_rounds}

-- event up { nursery n { start server { sleep 3; set up; sleep 2; } start client over 2 { wait up; sleep 1; } } }
pub readiness :
    records_by_rounds
    (event_of (codes "up")
    (nursery_of (codes "n")
    (start_of (codes "server") (sleep 3 ∷ set_event (codes "up") ∷ sleep 2 ∷ [])
    ∷ start_over (codes "client") 2 (wait_for (codes "up") ∷ sleep 1 ∷ [])
    ∷ [])
    ∷ [])
    ∷ [])
    ≡ main_ran 0 5 None (nursery_passed (codes "n") 5 ∷ [])
    ∷ record_of (label_named (codes "server")) 0 5 None []
    ∷ record_of (label_at (codes "client") 0) 0 4 None (waited_for (codes "up") 3 ∷ [])
    ∷ record_of (label_at (codes "client") 1) 0 4 None (waited_for (codes "up") 3 ∷ [])
    ∷ []
unfolding records_by_rounds
readiness = refl

-- event e { set e; wait e; wait e; sleep 1; wait e; }
pub it_is_set_already :
    records_by_rounds
    (event_of (codes "e")
    (set_event (codes "e") ∷ wait_for (codes "e") ∷ wait_for (codes "e") ∷ sleep 1 ∷ wait_for (codes "e") ∷ [])
    ∷ [])
    ≡ main_ran 0 1 None (waited_for (codes "e") 0 ∷ waited_for (codes "e") 0 ∷ waited_for (codes "e") 1 ∷ []) ∷ []
unfolding records_by_rounds
it_is_set_already = refl

-- event e { nursery n { start a { sleep 3; set e; } scope s after 3 { wait e; } } }
pub deadline_in_the_tick_of_the_set :
    records_by_rounds
    (event_of (codes "e")
    (nursery_of (codes "n")
    (start_of (codes "a") (sleep 3 ∷ set_event (codes "e") ∷ []) ∷ timed_scope (codes "s") 3 (wait_for (codes "e") ∷ []) ∷ [])
    ∷ [])
    ∷ [])
    ≡ main_ran 0 3 None (scope_caught (codes "s") 3 ∷ nursery_passed (codes "n") 3 ∷ [])
    ∷ record_of (label_named (codes "a")) 0 3 None []
    ∷ []
unfolding records_by_rounds
deadline_in_the_tick_of_the_set = refl

-- event e { event f { nursery n { start a { wait e; set f; } start b { wait f; } set e; } } }
pub two_hops_in_one_tick :
    records_by_rounds
    (event_of (codes "e")
    (event_of (codes "f")
    (nursery_of (codes "n")
    (start_of (codes "a") (wait_for (codes "e") ∷ set_event (codes "f") ∷ [])
    ∷ start_of (codes "b") (wait_for (codes "f") ∷ [])
    ∷ set_event (codes "e")
    ∷ [])
    ∷ [])
    ∷ [])
    ∷ [])
    ≡ main_ran 0 0 None (nursery_passed (codes "n") 0 ∷ [])
    ∷ record_of (label_named (codes "a")) 0 0 None (waited_for (codes "e") 0 ∷ [])
    ∷ record_of (label_named (codes "b")) 0 0 None (waited_for (codes "f") 0 ∷ [])
    ∷ []
unfolding records_by_rounds
two_hops_in_one_tick = refl

-- event e { nursery n after 2 { start a { wait e; } } }
pub the_waiter_is_cancelled :
    records_by_rounds
    (event_of (codes "e") (nursery (codes "n") (After 2) false (block_of (start_of (codes "a") (wait_for (codes "e") ∷ []) ∷ [])) ∷ []) ∷ [])
    ≡ main_ran 0 2 None (nursery_caught (codes "n") 2 ∷ []) ∷ record_of (label_named (codes "a")) 0 2 (Some cancelled) [] ∷ []
unfolding records_by_rounds
the_waiter_is_cancelled = refl

-- event won { nursery n { start first { sleep 5; set won; } start second { sleep 2; sleep 4; set won; } wait won; cancel n; } }
pub hedged_requests :
    records_by_rounds
    (event_of (codes "won")
    (nursery_of (codes "n")
    (start_of (codes "first") (sleep 5 ∷ set_event (codes "won") ∷ [])
    ∷ start_of (codes "second") (sleep 2 ∷ sleep 4 ∷ set_event (codes "won") ∷ [])
    ∷ wait_for (codes "won")
    ∷ cancel (codes "n")
    ∷ [])
    ∷ [])
    ∷ [])
    ≡ main_ran 0 5 None (waited_for (codes "won") 5 ∷ nursery_caught (codes "n") 5 ∷ [])
    ∷ record_of (label_named (codes "first")) 0 5 None []
    ∷ record_of (label_named (codes "second")) 0 5 (Some cancelled) []
    ∷ []
unfolding records_by_rounds
hedged_requests = refl

-- event e { set e; scope s after 0 { wait e; } }
pub set_and_a_deadline_that_is_over :
    records_by_rounds
    (event_of (codes "e") (set_event (codes "e") ∷ timed_scope (codes "s") 0 (wait_for (codes "e") ∷ []) ∷ []) ∷ [])
    ≡ main_ran 0 0 None (scope_caught (codes "s") 0 ∷ []) ∷ []
unfolding records_by_rounds
set_and_a_deadline_that_is_over = refl

-- event e { nursery n { start a { wait e; } start b { checkpoint; cancel n; } checkpoint; checkpoint; set e; } }
pub set_and_cancelled_in_one_round :
    records_by_rounds
    (event_of (codes "e")
    (nursery_of (codes "n")
    (start_of (codes "a") (wait_for (codes "e") ∷ [])
    ∷ start_of (codes "b") (checkpoint ∷ cancel (codes "n") ∷ [])
    ∷ checkpoint
    ∷ checkpoint
    ∷ set_event (codes "e")
    ∷ [])
    ∷ [])
    ∷ [])
    ≡ main_ran 0 0 None (nursery_passed (codes "n") 0 ∷ [])
    ∷ record_of (label_named (codes "a")) 0 0 None (waited_for (codes "e") 0 ∷ [])
    ∷ record_of (label_named (codes "b")) 0 0 None []
    ∷ []
unfolding records_by_rounds
set_and_cancelled_in_one_round = refl

-- repeat 2 { event e { nursery n { start a { sleep 1; set e; } wait e; } } }
pub one_event_for_each_pass :
    records_by_rounds
    (repeat_of 2
    (event_of (codes "e")
    (nursery_of (codes "n") (start_of (codes "a") (sleep 1 ∷ set_event (codes "e") ∷ []) ∷ wait_for (codes "e") ∷ []) ∷ [])
    ∷ [])
    ∷ [])
    ≡ main_ran 0 2 None
    (record { tick = 1; entry = waited (label_at (codes "e") 0) } ∷ record { tick = 1; entry = nursery_left (label_at (codes "n") 0) false }
    ∷ record { tick = 2; entry = waited (label_at (codes "e") 1) } ∷ record { tick = 2; entry = nursery_left (label_at (codes "n") 1) false } ∷ [])
    ∷ record_of (label_at (codes "a") 0) 0 1 None []
    ∷ record_of (label_at (codes "a") 1) 1 2 None []
    ∷ []
unfolding records_by_rounds
one_event_for_each_pass = refl

-- nursery serve { repeat 5 { start handler { sleep 3; raise X; } sleep 2; } }
pub a_failing_handler_stops_the_loop :
    records_by_rounds
    (nursery_of (codes "serve")
    (repeat_of 5 (start_of (codes "handler") (sleep 3 ∷ raise (codes "X") ∷ []) ∷ sleep 2 ∷ []) ∷ [])
    ∷ [])
    ≡ main_ran 0 3 (Some (group_by (codes "serve") (raised (codes "X") (label_at (codes "handler") 0) 3 ∷ []))) (nursery_caught (codes "serve") 3 ∷ [])
    ∷ record_of (label_at (codes "handler") 0) 0 3 (Some (raised (codes "X") (label_at (codes "handler") 0) 3)) []
    ∷ record_of (label_at (codes "handler") 1) 2 3 (Some cancelled) []
    ∷ []
unfolding records_by_rounds
a_failing_handler_stops_the_loop = refl
