-- What the lines of the table say of a job with one of its places moved by a hair.
use Rattle.std.specs.Prelude.{ℕ, zero, suc, Bool, true, false, Option, List, [], ◌∷◌, ◌++◌, length, codes, decimal}
use Rattle.exceptions.specs.Exceptions.{Label}
use Rattle.job_reader.specs.declared.fault.JobFault.{JobFault}
use Rattle.exceptions.specs.Texts.{label_text}
use Rattle.job_edits.specs.declared.site.Moment.{Moment}
use Rattle.job_edits.specs.declared.shift.Hair.{Hair}
use Rattle.race_text.specs.Differences.{Difference, otherwise, inside}
use Rattle.outcomes.specs.JobOutcomes.{not_tried_text}

-- the differences between two runs; or one of the two texts is refused, so that nothing was compared
pub data Found : Type 0 where
  not_tried : (fault : JobFault) → Found
  differs : (tasks : List Difference) → Found

-- A line: the job in finer ticks compared with the job as it is; one place moved by a hair, compared with the job in finer ticks;
-- or two copies of one `start` that meet in a tick, which cannot be moved apart in the text; `count` is that of its `over`. Places
-- are those of the author's text.
pub data Line : Type 0 where
  in_finer_ticks : (found : Found) → Line
  moved : (line : ℕ) → (column : ℕ) → (moment : Moment) → (hair : Hair) → (found : Found) → Line
  copies : (line : ℕ) → (column : ℕ) → (name : List ℕ) → (count : Option ℕ) → (one : Label) → (other : Label) → (tick : ℕ) → Line

-- ---- which lines are shown

abbrev pub is_some_found : Found → Bool
is_some_found (not_tried fault) = true
is_some_found (differs []) = false
is_some_found (differs (d ∷ ds)) = true

-- a line is shown if something differs, nothing was compared, or copies meet
abbrev pub is_shown : Line → Bool
is_shown (in_finer_ticks found) = is_some_found found
is_shown (moved line column moment hair found) = is_some_found found
is_shown (copies line column name count one other tick) = true

abbrev pub is_race_found : Found → Bool
is_race_found (not_tried fault) = false
is_race_found (differs []) = false
is_race_found (differs (d ∷ ds)) = true

-- a race: something differs, or copies meet
abbrev pub is_race : Line → Bool
is_race (in_finer_ticks found) = is_race_found found
is_race (moved line column moment hair found) = is_race_found found
is_race (copies line column name count one other tick) = true

abbrev pub is_not_tried_found : Found → Bool
is_not_tried_found (not_tried fault) = true
is_not_tried_found (differs tasks) = false

-- nothing was compared
abbrev pub is_not_tried : Line → Bool
is_not_tried (in_finer_ticks found) = is_not_tried_found found
is_not_tried (moved line column moment hair found) = is_not_tried_found found
is_not_tried (copies line column name count one other tick) = false

-- a hair with which nothing was compared
abbrev pub is_hair_not_tried : Line → Bool
is_hair_not_tried (in_finer_ticks found) = false
is_hair_not_tried (moved line column moment hair found) = is_not_tried_found found
is_hair_not_tried (copies line column name count one other tick) = false

-- ---- what a line says

abbrev pub difference_text : Difference → List ℕ
difference_text (otherwise task before after) = label_text task ++ codes ": " ++ before ++ codes " -> " ++ after
difference_text (inside task) = label_text task ++ codes ": other lines or scopes"

-- the given number of further differences, and how many are left out
abbrev pub more_differences : ℕ → List Difference → List ℕ
more_differences n [] = []
more_differences zero (d ∷ ds) = codes "; and " ++ decimal (length (d ∷ ds)) ++ codes " more"
more_differences (suc n) (d ∷ ds) = codes "; " ++ difference_text d ++ more_differences n ds

-- at most three
abbrev pub differences_text : List Difference → List ℕ
differences_text [] = []
differences_text (d ∷ ds) = difference_text d ++ more_differences 2 ds

abbrev pub found_text : Found → List ℕ
found_text (not_tried fault) = not_tried_text fault
found_text (differs tasks) = differences_text tasks
