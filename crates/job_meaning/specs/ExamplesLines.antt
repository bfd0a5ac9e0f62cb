-- Worked examples on lines, cuts and kernels, each a theorem by computing.
use Rattle.std.specs.Prelude.{◌≡◌, None, Some, [], ◌∷◌, refl, codes}
use Rattle.job_tree.specs.Tree.{find, head, longest, need, pace}
use Rattle.job_meaning.specs.Examples.{nursery_of, start_over, label_at, raised_by, line_at, nursery_passed, record_of, main_ran, run_of}

-- find "er";
pub find_shows_the_lines_that_contain_a_string :
    run_of (find (codes "er") ∷ []) (codes "error\nok\n") ≡ main_ran 0 0 None (line_at 0 0 5 ∷ []) ∷ []
unfolding run_of
find_shows_the_lines_that_contain_a_string = refl

-- nursery n { start p over 2 { longest; head 1; } }
pub children_get_cuts_at_line_starts :
    run_of (nursery_of (codes "n") (start_over (codes "p") 2 (longest ∷ head 1 ∷ []) ∷ []) ∷ []) (codes "aa\nb\ncccc\n")
    ≡ main_ran 0 0 None (nursery_passed (codes "n") 0 ∷ [])
    ∷ record_of (label_at (codes "p") 0) 0 0 None (line_at 0 0 2 ∷ line_at 0 0 2 ∷ [])
    ∷ record_of (label_at (codes "p") 1) 0 0 None (line_at 0 5 4 ∷ line_at 0 5 4 ∷ [])
    ∷ []
unfolding run_of
children_get_cuts_at_line_starts = refl

-- nursery n { start p over 3 { head 9; } }
pub cuts_may_be_empty :
    run_of (nursery_of (codes "n") (start_over (codes "p") 3 (head 9 ∷ []) ∷ []) ∷ []) (codes "aa\nb\ncccc\n")
    ≡ main_ran 0 0 None (nursery_passed (codes "n") 0 ∷ [])
    ∷ record_of (label_at (codes "p") 0) 0 0 None (line_at 0 0 2 ∷ [])
    ∷ record_of (label_at (codes "p") 1) 0 0 None (line_at 0 3 1 ∷ line_at 0 5 4 ∷ [])
    ∷ record_of (label_at (codes "p") 2) 0 0 None []
    ∷ []
unfolding run_of
cuts_may_be_empty = refl

-- need "zz" Gone;
pub need_raises_where_no_line_contains_the_string :
    run_of (need (codes "zz") (codes "Gone") ∷ []) (codes "a\n")
    ≡ main_ran 0 0 (Some (raised_by (codes "Gone") (codes "main") 0)) [] ∷ []
unfolding run_of
need_raises_where_no_line_contains_the_string = refl

-- need "a" Gone;
pub need_shows_the_first_line_that_contains_the_string :
    run_of (need (codes "a") (codes "Gone") ∷ []) (codes "a\n") ≡ main_ran 0 0 None (line_at 0 0 1 ∷ []) ∷ []
unfolding run_of
need_shows_the_first_line_that_contains_the_string = refl

-- pace 2;
pub pace_rounds_up : run_of (pace 2 ∷ []) (codes "a\nb\nc\n") ≡ main_ran 0 2 None [] ∷ []
unfolding run_of
pace_rounds_up = refl

-- pace 2; on no bytes
pub pace_of_no_lines_takes_no_tick : run_of (pace 2 ∷ []) [] ≡ main_ran 0 0 None [] ∷ []
unfolding run_of
pace_of_no_lines_takes_no_tick = refl

-- head 2; on the bytes 0, 92, 10, 255
pub last_line_needs_no_newline : run_of (head 2 ∷ []) (0 ∷ 92 ∷ 10 ∷ 255 ∷ []) ≡ main_ran 0 0 None (line_at 0 0 2 ∷ line_at 0 3 1 ∷ []) ∷ []
unfolding run_of
last_line_needs_no_newline = refl
