-- Worked examples on nurseries, their children and exception groups, each a theorem by computing.
use Rattle.std.specs.Prelude.{◌≡◌, None, Some, [], ◌∷◌, refl, codes}
use Rattle.job_tree.specs.Tree.{sleep, checkpoint, forever, find, raise, cancel}
use Rattle.exceptions.specs.Exceptions.{cancelled}
use Rattle.job_meaning.specs.Examples.{scope_of, fail_scope, nursery_of, start_of, start_over, try_except, try_finally, label_named, label_at, raised_by, group_by, handler_group, scope_caught, nursery_caught, nursery_passed, record_of, main_ran, run_of}

-- nursery n { start p over 3 { find "x"; } }
pub start_over_starts_as_many_children :
    run_of (nursery_of (codes "n") (start_over (codes "p") 3 (find (codes "x") ∷ []) ∷ []) ∷ []) []
    ≡ main_ran 0 0 None (nursery_passed (codes "n") 0 ∷ [])
    ∷ record_of (label_at (codes "p") 0) 0 0 None []
    ∷ record_of (label_at (codes "p") 1) 0 0 None []
    ∷ record_of (label_at (codes "p") 2) 0 0 None []
    ∷ []
unfolding run_of
start_over_starts_as_many_children = refl

-- nursery n { start a { sleep 2; raise Boom; } start b { sleep 10; } start c { sleep 2; } }
pub failure_cancels_the_others_in_the_next_tick :
    run_of
    (nursery_of (codes "n")
    (start_of (codes "a") (sleep 2 ∷ raise (codes "Boom") ∷ [])
    ∷ start_of (codes "b") (sleep 10 ∷ [])
    ∷ start_of (codes "c") (sleep 2 ∷ [])
    ∷ []) ∷ [])
    []
    ≡ main_ran 0 3 (Some (group_by (codes "n") (raised_by (codes "Boom") (codes "a") 2 ∷ []))) (nursery_caught (codes "n") 3 ∷ [])
    ∷ record_of (label_named (codes "a")) 0 2 (Some (raised_by (codes "Boom") (codes "a") 2)) []
    ∷ record_of (label_named (codes "b")) 0 3 (Some cancelled) []
    ∷ record_of (label_named (codes "c")) 0 2 None []
    ∷ []
unfolding run_of
failure_cancels_the_others_in_the_next_tick = refl

-- nursery n { start a { sleep 2; raise A; } start b { sleep 2; raise B; } }
pub group_stands_in_the_order_of_starts :
    run_of
    (nursery_of (codes "n")
    (start_of (codes "a") (sleep 2 ∷ raise (codes "A") ∷ []) ∷ start_of (codes "b") (sleep 2 ∷ raise (codes "B") ∷ []) ∷ []) ∷ [])
    []
    ≡ main_ran 0 2
    (Some (group_by (codes "n") (raised_by (codes "A") (codes "a") 2 ∷ raised_by (codes "B") (codes "b") 2 ∷ [])))
    (nursery_passed (codes "n") 2 ∷ [])
    ∷ record_of (label_named (codes "a")) 0 2 (Some (raised_by (codes "A") (codes "a") 2)) []
    ∷ record_of (label_named (codes "b")) 0 2 (Some (raised_by (codes "B") (codes "b") 2)) []
    ∷ []
unfolding run_of
group_stands_in_the_order_of_starts = refl

-- nursery n { start a { try { sleep 3; } finally { raise A; } } start b { sleep 2; raise B; } }, where b ends first
pub group_does_not_go_by_the_order_of_ends :
    run_of
    (nursery_of (codes "n")
    (start_of (codes "a") (try_finally (sleep 3 ∷ []) (raise (codes "A") ∷ []) ∷ [])
    ∷ start_of (codes "b") (sleep 2 ∷ raise (codes "B") ∷ [])
    ∷ []) ∷ [])
    []
    ≡ main_ran 0 3
    (Some (group_by (codes "n") (raised_by (codes "A") (codes "a") 3 ∷ raised_by (codes "B") (codes "b") 2 ∷ [])))
    (nursery_passed (codes "n") 3 ∷ [])
    ∷ record_of (label_named (codes "a")) 0 3 (Some (raised_by (codes "A") (codes "a") 3)) []
    ∷ record_of (label_named (codes "b")) 0 2 (Some (raised_by (codes "B") (codes "b") 2)) []
    ∷ []
unfolding run_of
group_does_not_go_by_the_order_of_ends = refl

-- try { nursery n { start a { raise A; } start b { raise B; } } } except A { checkpoint; }
pub rest_of_a_split_goes_on :
    run_of
    (try_except
    (nursery_of (codes "n") (start_of (codes "a") (raise (codes "A") ∷ []) ∷ start_of (codes "b") (raise (codes "B") ∷ []) ∷ []) ∷ [])
    (codes "A")
    (checkpoint ∷ []) ∷ [])
    []
    ≡ main_ran 0 0 (Some (group_by (codes "n") (raised_by (codes "B") (codes "b") 0 ∷ []))) (nursery_passed (codes "n") 0 ∷ [])
    ∷ record_of (label_named (codes "a")) 0 0 (Some (raised_by (codes "A") (codes "a") 0)) []
    ∷ record_of (label_named (codes "b")) 0 0 (Some (raised_by (codes "B") (codes "b") 0)) []
    ∷ []
unfolding run_of
rest_of_a_split_goes_on = refl

-- try { nursery n { start a { raise A; } start b { raise B; } } } except A { raise C; }
pub handler_that_raises_makes_a_group :
    run_of
    (try_except
    (nursery_of (codes "n") (start_of (codes "a") (raise (codes "A") ∷ []) ∷ start_of (codes "b") (raise (codes "B") ∷ []) ∷ []) ∷ [])
    (codes "A")
    (raise (codes "C") ∷ []) ∷ [])
    []
    ≡ main_ran 0 0
    (Some (handler_group (raised_by (codes "C") (codes "main") 0 ∷ group_by (codes "n") (raised_by (codes "B") (codes "b") 0 ∷ []) ∷ [])))
    (nursery_passed (codes "n") 0 ∷ [])
    ∷ record_of (label_named (codes "a")) 0 0 (Some (raised_by (codes "A") (codes "a") 0)) []
    ∷ record_of (label_named (codes "b")) 0 0 (Some (raised_by (codes "B") (codes "b") 0)) []
    ∷ []
unfolding run_of
handler_that_raises_makes_a_group = refl

-- try { raise A; } except A { raise C; }
pub handler_without_a_rest_is_not_wrapped :
    run_of (try_except (raise (codes "A") ∷ []) (codes "A") (raise (codes "C") ∷ []) ∷ []) []
    ≡ main_ran 0 0 (Some (raised_by (codes "C") (codes "main") 0)) [] ∷ []
unfolding run_of
handler_without_a_rest_is_not_wrapped = refl

-- try { raise A; } except B { sleep 1; }
pub other_names_are_not_handled :
    run_of (try_except (raise (codes "A") ∷ []) (codes "B") (sleep 1 ∷ []) ∷ []) []
    ≡ main_ran 0 0 (Some (raised_by (codes "A") (codes "main") 0)) [] ∷ []
unfolding run_of
other_names_are_not_handled = refl

-- scope o { nursery n { start a { sleep 2; cancel o; sleep 5; } start b { sleep 3; } } }
pub child_cancels_a_scope_around_its_nursery :
    run_of
    (scope_of (codes "o")
    (nursery_of (codes "n")
    (start_of (codes "a") (sleep 2 ∷ cancel (codes "o") ∷ sleep 5 ∷ []) ∷ start_of (codes "b") (sleep 3 ∷ []) ∷ []) ∷ []) ∷ [])
    []
    ≡ main_ran 0 3 None (nursery_passed (codes "n") 3 ∷ scope_caught (codes "o") 3 ∷ [])
    ∷ record_of (label_named (codes "a")) 0 3 (Some cancelled) []
    ∷ record_of (label_named (codes "b")) 0 3 (Some cancelled) []
    ∷ []
unfolding run_of
child_cancels_a_scope_around_its_nursery = refl

-- scope s after 2 fail { nursery n { start a { forever; } start b { try { forever; } finally { raise Bad; } } } }
pub fail_scope_with_a_rest_is_not_too_slow :
    run_of
    (fail_scope (codes "s") 2
    (nursery_of (codes "n")
    (start_of (codes "a") (forever ∷ [])
    ∷ start_of (codes "b") (try_finally (forever ∷ []) (raise (codes "Bad") ∷ []) ∷ [])
    ∷ []) ∷ []) ∷ [])
    []
    ≡ main_ran 0 2 (Some (group_by (codes "n") (raised_by (codes "Bad") (codes "b") 2 ∷ [])))
    (nursery_passed (codes "n") 2 ∷ scope_caught (codes "s") 2 ∷ [])
    ∷ record_of (label_named (codes "a")) 0 2 (Some cancelled) []
    ∷ record_of (label_named (codes "b")) 0 2 (Some (raised_by (codes "Bad") (codes "b") 2)) []
    ∷ []
unfolding run_of
fail_scope_with_a_rest_is_not_too_slow = refl

-- nursery n { start a { forever; } sleep 1; cancel n; sleep 5; }
pub nursery_can_be_cancelled :
    run_of (nursery_of (codes "n") (start_of (codes "a") (forever ∷ []) ∷ sleep 1 ∷ cancel (codes "n") ∷ sleep 5 ∷ []) ∷ []) []
    ≡ main_ran 0 2 None (nursery_caught (codes "n") 2 ∷ []) ∷ record_of (label_named (codes "a")) 0 2 (Some cancelled) [] ∷ []
unfolding run_of
nursery_can_be_cancelled = refl

-- nursery n { start a { nursery m { start b { } } } start c { sleep 4; } } sleep 1;
pub records_stand_depth_first :
    run_of
    (nursery_of (codes "n")
    (start_of (codes "a") (nursery_of (codes "m") (start_of (codes "b") [] ∷ []) ∷ []) ∷ start_of (codes "c") (sleep 4 ∷ []) ∷ [])
    ∷ sleep 1
    ∷ [])
    []
    ≡ main_ran 0 5 None (nursery_passed (codes "n") 4 ∷ [])
    ∷ record_of (label_named (codes "a")) 0 0 None (nursery_passed (codes "m") 0 ∷ [])
    ∷ record_of (label_named (codes "b")) 0 0 None []
    ∷ record_of (label_named (codes "c")) 0 4 None []
    ∷ []
unfolding run_of
records_stand_depth_first = refl
