-- The tasks for which two runs do not show the same. The exits of scopes with the name `scope` are left out.
use Rattle.std.specs.Prelude.{ℕ, Bool, if◌then◌else◌, List, [], ◌∷◌, ◌++◌, Option, Some, None, codes}
use Rattle.std.specs.Str.{bytes_eq}
use Rattle.exceptions.specs.Exceptions.{Label}
use Rattle.exceptions.specs.Labels.{same_label}
use Rattle.job_meaning.specs.Shown.{Row}
use Rattle.race_text.specs.Same.{outcome_text, kept_entries, same_entries}

-- A task ends in another way: how before and after. Or it ends in the same way, and has other lines, scopes or nurseries, or other
-- waits.
pub data Difference : Type 0 where
  otherwise : (task : Label) → (before : List ℕ) → (after : List ℕ) → Difference
  inside : (task : Label) → Difference

-- the first row of a task
abbrev pub row_of : Label → List Row → Option Row
row_of task [] = None
row_of task (r ∷ rs) = if same_label r.label task then Some r else row_of task rs

abbrev pub if_inside : Bool → Label → List Difference
if_inside same task = if same then [] else inside task ∷ []

-- what differs of a task that both runs have
abbrev pub between : (scope : List ℕ) → Row → Row → List Difference
between scope a b =
    if bytes_eq (outcome_text a.ending) (outcome_text b.ending)
    then if_inside (same_entries (kept_entries scope a.entries) (kept_entries scope b.entries)) a.label
    else otherwise a.label (outcome_text a.ending) (outcome_text b.ending) ∷ []

-- what differs of a task of the first run
abbrev pub of_row : (scope : List ℕ) → Row → Option Row → List Difference
of_row scope a None = otherwise a.label (outcome_text a.ending) (codes "not started") ∷ []
of_row scope a (Some b) = between scope a b

-- what differs of a task of the second run that the first may not have
abbrev pub of_new : Option Row → Row → List Difference
of_new None b = otherwise b.label (codes "not started") (outcome_text b.ending) ∷ []
of_new (Some a) b = []

abbrev pub of_rows : (scope : List ℕ) → List Row → List Row → List Difference
of_rows scope [] after = []
of_rows scope (r ∷ rs) after = of_row scope r (row_of r.label after) ++ of_rows scope rs after

abbrev pub of_new_rows : List Row → List Row → List Difference
of_new_rows before [] = []
of_new_rows before (r ∷ rs) = of_new (row_of r.label before) r ++ of_new_rows before rs

-- each task of the first run that differs, in the order of its records; and then those that only the second has
abbrev pub differences : (scope : List ℕ) → List Row → List Row → List Difference
differences scope before after = of_rows scope before after ++ of_new_rows before after
