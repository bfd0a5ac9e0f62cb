-- Worked examples on `repeat`, and on nurseries with a deadline and a shield, each a theorem by computing.
use Rattle.std.specs.Prelude.{◌≡◌, ℕ, Bool, true, false, None, Some, List, [], ◌∷◌, refl, codes}
use Rattle.job_tree.specs.declared.deadline.Deadline.{Deadline}
use Rattle.job_tree.specs.declared.deadline.Deadline.TheVariants.{Never, After}
use Rattle.job_tree.specs.Tree.{Step, sleep, checkpoint, forever, raise, nursery, repeat}
use Rattle.exceptions.specs.Exceptions.{Label, cancelled}
use Rattle.job_meaning.specs.Log.{scope_left, nursery_left}
use Rattle.job_meaning.specs.Meaning.{Noted}
use Rattle.job_meaning.specs.Examples.{block_of, timed_scope, nursery_of, start_of, start_over, label_named, label_at, raised_by, scope_caught, scope_passed, nursery_caught, nursery_passed, record_of, main_ran, run_of}

-- repeat N { .. }
abbrev pub repeat_of : ℕ → List Step → Step
repeat_of n ss = repeat n false (block_of ss)

-- nursery NAME .. { .. }, with a deadline or a shield
abbrev pub bounded_nursery : List ℕ → Deadline → Bool → List Step → Step
bounded_nursery name deadline shield ss = nursery name deadline shield (block_of ss)

-- NAME.I.J
abbrev pub label_in_pass : List ℕ → ℕ → ℕ → Label
label_in_pass name i j = record { name = name; indices = i ∷ j ∷ [] }

-- a scope of a pass that caught, and a nursery of a pass that did not
abbrev pub caught_in_pass : List ℕ → ℕ → ℕ → Noted
caught_in_pass name i tick = record { tick = tick; entry = scope_left (label_at name i) true }

abbrev pub passed_in_pass : List ℕ → ℕ → ℕ → Noted
passed_in_pass name i tick = record { tick = tick; entry = nursery_left (label_at name i) false }

-- repeat 3 { scope s after 2 { sleep 5; } }
pub each_pass_has_a_scope_of_its_own :
    run_of (repeat_of 3 (timed_scope (codes "s") 2 (sleep 5 ∷ []) ∷ []) ∷ []) []
    ≡ main_ran 0 6 None (caught_in_pass (codes "s") 0 2 ∷ caught_in_pass (codes "s") 1 4 ∷ caught_in_pass (codes "s") 2 6 ∷ []) ∷ []
unfolding run_of
each_pass_has_a_scope_of_its_own = refl

-- scope o after 1 { nursery n after 2 shield { start a { forever; } } }
pub nursery_shield_hides_the_outside_and_not_its_own_deadline :
    run_of
    (timed_scope (codes "o") 1
    (bounded_nursery (codes "n") (After 2) true (start_of (codes "a") (forever ∷ []) ∷ []) ∷ []) ∷ [])
    []
    ≡ main_ran 0 2 None (nursery_caught (codes "n") 2 ∷ scope_passed (codes "o") 2 ∷ [])
    ∷ record_of (label_named (codes "a")) 0 2 (Some cancelled) []
    ∷ []
unfolding run_of
nursery_shield_hides_the_outside_and_not_its_own_deadline = refl

-- scope o after 1 { nursery n shield { start a { sleep 3; } } checkpoint; }
pub shielded_nursery_is_waited_for :
    run_of
    (timed_scope (codes "o") 1
    (bounded_nursery (codes "n") Never true (start_of (codes "a") (sleep 3 ∷ []) ∷ []) ∷ checkpoint ∷ []) ∷ [])
    []
    ≡ main_ran 0 3 None (nursery_passed (codes "n") 3 ∷ scope_caught (codes "o") 3 ∷ [])
    ∷ record_of (label_named (codes "a")) 0 3 None []
    ∷ []
unfolding run_of
shielded_nursery_is_waited_for = refl

-- repeat 2 { nursery n { start p over 2 { sleep 1; } } }
pub labels_have_the_pass_and_then_the_copy :
    run_of (repeat_of 2 (nursery_of (codes "n") (start_over (codes "p") 2 (sleep 1 ∷ []) ∷ []) ∷ []) ∷ []) []
    ≡ main_ran 0 2 None (passed_in_pass (codes "n") 0 1 ∷ passed_in_pass (codes "n") 1 2 ∷ [])
    ∷ record_of (label_in_pass (codes "p") 0 0) 0 1 None []
    ∷ record_of (label_in_pass (codes "p") 0 1) 0 1 None []
    ∷ record_of (label_in_pass (codes "p") 1 0) 1 2 None []
    ∷ record_of (label_in_pass (codes "p") 1 1) 1 2 None []
    ∷ []
unfolding run_of
labels_have_the_pass_and_then_the_copy = refl

-- repeat 0 { raise A; }
pub no_pass_does_nothing :
    run_of (repeat_of 0 (raise (codes "A") ∷ []) ∷ []) [] ≡ main_ran 0 0 None [] ∷ []
unfolding run_of
no_pass_does_nothing = refl

-- repeat 5 { sleep 1; raise A; }
pub exception_ends_the_passes :
    run_of (repeat_of 5 (sleep 1 ∷ raise (codes "A") ∷ []) ∷ []) []
    ≡ main_ran 0 1 (Some (raised_by (codes "A") (codes "main") 1)) [] ∷ []
unfolding run_of
exception_ends_the_passes = refl
