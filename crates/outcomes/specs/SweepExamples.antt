-- Worked sweeps, by computing.
use Rattle.std.specs.Prelude.{◌≡◌, ℕ, false, Some, None, List, [], ◌∷◌, ◌++◌, codes, refl}
use Rattle.std.specs.Fmt.{digits}
use Rattle.job_reader.specs.declared.fault.JobFault.{JobFault}
use Rattle.job_reader.specs.declared.fault.JobKind.TheVariants.{Number}
use Rattle.exceptions.specs.Exceptions.{Label, by_nursery, by_handler, cancelled, raised, too_slow, group, no_parts, part}
use Rattle.outcomes.specs.JobOutcomes.{JobOutcome, refused, stuck, ended}
use Rattle.outcomes.specs.Groups.{Value}
use Rattle.outcomes.specs.Sweeps.{sweep_text}

abbrev pub task : List ℕ → Label
task name = record { name = name; indices = [] }

-- the refusal of a text with a number that is out of its range
abbrev pub out_of_range : JobFault
out_of_range = record { at = 40; kind = Number }

-- the outcome of a job for a value
abbrev pub value_with : ℕ → JobOutcome → Value
value_with value job_outcome = record { value = value; job_outcome = job_outcome }

-- a job that ends at a tick with a cleanup that is cancelled
abbrev pub cut_at : ℕ → JobOutcome
cut_at end = ended end None [] (task (codes "cache") ∷ []) false

-- a job that ends at a tick with an exception that a task raised at another tick
abbrev pub failed_at : ℕ → ℕ → JobOutcome
failed_at tick end =
    ended end (Some (group (by_nursery (task (codes "writers"))) (part (raised (codes "Fault") (task (codes "journal")) tick) no_parts))) [] [] false

-- Neighbours share a line if only ticks differ, but not if notes differ, or if other values are between them.
abbrev pub cleanup_values : List Value
cleanup_values =
    value_with 1 (failed_at 3 4)
    ∷ value_with 2 (failed_at 4 5)
    ∷ value_with 3 (cut_at 8)
    ∷ value_with 4 (cut_at 7)
    ∷ value_with 5 (cut_at 9)
    ∷ value_with 6 (ended 9 None [] [] false)
    ∷ value_with 7 (stuck (task (codes "journal") ∷ []) [] false)
    ∷ value_with 8 (stuck (task (codes "journal") ∷ []) (task (codes "cache") ∷ []) false)
    ∷ value_with 9 (refused out_of_range)
    ∷ value_with 10 (cut_at 8)
    ∷ []

pub cleanup_is_shown :
    sweep_text 1000000 (cut_at 8) cleanup_values
    ≡ codes "as it is  done, ends 8; cleanup cut: cache\n"
    ++ codes "1..2      raised writers[Fault(journal)], ends 4..5\n"
    ++ codes "3..5      done, ends 7..9; cleanup cut: cache\n"
    ++ codes "6         done, ends 9\n"
    ++ codes "7         stuck at 1000000; sleeping forever: journal\n"
    ++ codes "8         stuck at 1000000; sleeping forever: journal; cleanup cut: cache\n"
    ++ codes "9         refused\n"
    ++ codes "10        done, ends 8; cleanup cut: cache\n"
    ++ codes "10 values: 2 stuck, 5 cut a cleanup, 1 refused\n"
unfolding digits
cleanup_is_shown = refl

-- a group of several exceptions, and a range that is longer than `as it is`
abbrev pub late_at : ℕ → JobOutcome
late_at tick =
    ended tick
    (Some (group by_handler (part (too_slow (record { name = codes "s"; indices = 1 ∷ [] }) tick) (part (raised (codes "E") (task (codes "a")) tick) (part cancelled no_parts)))))
    (task (codes "a") ∷ []) [] false

pub late_is_shown :
    sweep_text 50 (ended 3 (Some cancelled) [] [] false) (value_with 100000 (late_at 100) ∷ value_with 200000 (late_at 20) ∷ [])
    ≡ codes "as it is        cancelled, ends 3\n"
    ++ codes "100000..200000  raised *[TooSlow(s.1), E(a), Cancelled], ends 20..100; cancelled: a\n"
    ++ codes "2 values: 0 stuck, 0 cut a cleanup\n"
unfolding digits
late_is_shown = refl

-- one value
pub one_is_shown :
    sweep_text 50 (refused out_of_range) (value_with 7 (stuck [] [] false) ∷ [])
    ≡ codes "as it is  refused\n"
    ++ codes "7         stuck at 50\n"
    ++ codes "1 value: 1 stuck, 0 cut a cleanup\n"
unfolding digits
one_is_shown = refl
