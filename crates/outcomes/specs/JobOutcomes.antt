-- The outcome of a job, and how a line prints it.
use Rattle.std.specs.Prelude.{ℕ, zero, suc, Bool, true, false, ◌||◌, not, nat_le, Option, Some, None, List, [], ◌∷◌, ◌++◌, length, codes, decimal}
use Rattle.std.specs.Str.{bytes_eq}
use Rattle.exceptions.specs.Exceptions.{Label, Exc}
use Rattle.job_tree.specs.Tree.{Tree}
use Rattle.job_reader.specs.Kinds.{number_of}
use Rattle.job_reader.specs.declared.fault.JobFault.{JobFault}
use Rattle.job_meaning.specs.Moments.{clock_of}
use Rattle.job_meaning.specs.declared.clock.Clock.{Clock}
use Rattle.job_meaning.specs.Meaning.{root_label, meaning, meaning_end}
use Rattle.job_meaning.specs.Tables.{meaning_tables}
use Rattle.job_meaning.specs.Shown.{Ending, well, by_cancellation, with_exception, Row, meaning_rows}
use Rattle.job_story.specs.Tell.{story_by}
use Rattle.job_story.specs.Events.{Event, events_of, in_order}
use Rattle.job_story.specs.Focus.{is_among}
use Rattle.job_story.specs.Limit.{by_limit}
use Rattle.exceptions.specs.Texts.{label_text, end_text}
use Rattle.outcomes.specs.Notes.{sleeping_in, cut_in, is_lost, is_lost_so_far, is_raised}

-- A text is refused; or the job does not end by the limit, and these tasks sleep forever; or it ended at a tick, with or
-- without an exception, and these tasks ended cancelled. By then these tasks were cancelled in a cleanup, and the exception that
-- the fault raised was lost or not.
pub data JobOutcome : Type 0 where
  refused : (fault : JobFault) → JobOutcome
  stuck : (sleeping : List Label) → (cut : List Label) → (lost : Bool) → JobOutcome
  ended : (end : ℕ) → (exc : Option Exc) → (cancelled : List Label) → (cut : List Label) → (lost : Bool) → JobOutcome

-- ---- of a job

-- the events of the story of a job's meaning, in the order of the walk
abbrev pub walked_events : Tree → List ℕ → List Event
walked_events job input = events_of (root_label job.name) (story_by (meaning_tables job input) job input)

abbrev pub cancelled_if : Ending → Label → List Label → List Label
cancelled_if well l ls = ls
cancelled_if by_cancellation l ls = l ∷ ls
cancelled_if (with_exception e) l ls = ls

-- the tasks that ended with a plain `Cancelled`, outside any group, in the order of a report
abbrev pub cancelled_in : List Row → List Label
cancelled_in [] = []
cancelled_in (r ∷ rs) = cancelled_if r.ending r.label (cancelled_in rs)

abbrev pub loses : Option (List ℕ) → List Event → Bool
loses None es = false
loses (Some name) es = is_lost name es

abbrev pub loses_so_far : Option (List ℕ) → List Event → Bool
loses_so_far None es = false
loses_so_far (Some name) es = is_lost_so_far name es

-- the outcome of a job that does not end by a limit, given its events until then
abbrev pub stuck_by : Option (List ℕ) → List Event → JobOutcome
stuck_by name es = stuck (sleeping_in es) (cut_in (in_order es)) (loses_so_far name es)

-- The outcome of a job that ends or does not end by a limit, given how its time is counted, its records and events, and the name of the exception that
-- the fault raises, if it raises one.
abbrev pub job_outcome_by : Clock → Bool → ℕ → Option (List ℕ) → ℕ → Option Exc → List Row → List Event → JobOutcome
job_outcome_by clock false limit name end exc rows es = stuck_by name (by_limit clock limit es)
job_outcome_by clock true limit name end exc rows es = ended end exc (cancelled_in rows) (cut_in (in_order es)) (loses name es)

abbrev pub job_outcome_of : ℕ → Option (List ℕ) → Tree → List ℕ → JobOutcome
job_outcome_of limit name job input =
    job_outcome_by (clock_of job.format) (nat_le (meaning_end job input) limit) limit name (meaning_end job input) (meaning job input).exc
    (meaning_rows job input) (walked_events job input)

-- whether an exception with this name is raised by the limit
abbrev pub reaches : ℕ → List ℕ → Tree → List ℕ → Bool
reaches limit name job input = is_raised name (by_limit (clock_of job.format) limit (walked_events job input))

-- ---- how it is printed

-- at most the given number of further names, each after a comma, and how many are left
abbrev pub more_names : ℕ → List Label → List ℕ
more_names left [] = []
more_names zero (l ∷ ls) = codes " and " ++ decimal (length (l ∷ ls)) ++ codes " more"
more_names (suc n) (l ∷ ls) = codes ", " ++ label_text l ++ more_names n ls

-- at most three names, and how many more there are
abbrev pub names_text : List Label → List ℕ
names_text [] = []
names_text (l ∷ ls) = label_text l ++ more_names 2 ls

abbrev pub names_note : List ℕ → List Label → List ℕ
names_note title [] = []
names_note title (l ∷ ls) = codes "; " ++ title ++ names_text (l ∷ ls)

abbrev pub reached_note : Bool → List ℕ
reached_note true = []
reached_note false = codes "; not reached"

abbrev pub lost_note : Bool → List ℕ
lost_note false = []
lost_note true = codes "; fault lost"

-- a text that is refused was not tried
abbrev pub not_tried_text : JobFault → List ℕ
not_tried_text fault = codes "not tried: J" ++ decimal (number_of fault.kind) ++ codes " at " ++ decimal fault.at

-- the outcome of a job up to the limit, and notes; `reached` says whether the fault was reached
abbrev pub job_outcome_text : ℕ → Bool → JobOutcome → List ℕ
job_outcome_text limit reached (refused fault) = not_tried_text fault
job_outcome_text limit reached (stuck sleeping cut lost) =
    codes "stuck at " ++ decimal limit ++ reached_note reached ++ names_note (codes "sleeping forever: ") sleeping
    ++ names_note (codes "cleanup cut: ") cut ++ lost_note lost
job_outcome_text limit reached (ended end exc cancelled cut lost) =
    decimal end ++ codes " " ++ end_text exc ++ reached_note reached ++ names_note (codes "cancelled: ") cancelled
    ++ names_note (codes "cleanup cut: ") cut ++ lost_note lost

-- ---- what is counted

abbrev pub is_stuck : JobOutcome → Bool
is_stuck (refused fault) = false
is_stuck (stuck sleeping cut lost) = true
is_stuck (ended end exc cancelled cut lost) = false

abbrev pub has_some : List Label → Bool
has_some [] = false
has_some (l ∷ ls) = true

abbrev pub has_cut : JobOutcome → Bool
has_cut (refused fault) = false
has_cut (stuck sleeping cut lost) = has_some cut
has_cut (ended end exc cancelled cut lost) = has_some cut

abbrev pub has_lost : JobOutcome → Bool
has_lost (refused fault) = false
has_lost (stuck sleeping cut lost) = lost
has_lost (ended end exc cancelled cut lost) = lost

abbrev pub is_refused : JobOutcome → Bool
is_refused (refused fault) = true
is_refused (stuck sleeping cut lost) = false
is_refused (ended end exc cancelled cut lost) = false

-- ---- what a fault changes

abbrev pub cut_tasks : JobOutcome → List Label
cut_tasks (refused fault) = []
cut_tasks (stuck sleeping cut lost) = cut
cut_tasks (ended end exc cancelled cut lost) = cut

-- some task is in the first list and not in the second
abbrev pub has_further : List Label → List Label → Bool
has_further [] others = false
has_further (l ∷ ls) others = not (is_among l others) || has_further ls others

-- a task is cut with the fault that is not cut without it
abbrev pub cuts_more : (before after : JobOutcome) → Bool
cuts_more before after = has_further (cut_tasks after) (cut_tasks before)

-- the outcome with a fault, as it is printed where the fault is reached, is another text than that without the fault
abbrev pub differs : (limit : ℕ) → (before after : JobOutcome) → Bool
differs limit before after = not (bytes_eq (job_outcome_text limit true after) (job_outcome_text limit true before))
