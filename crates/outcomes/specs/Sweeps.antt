-- The text of a sweep: the outcome of a job for each value of a number.
use Rattle.std.specs.Prelude.{ℕ, ◌+◌, ◌==◌, Bool, max, if◌then◌else◌, Option, Some, None, List, [], ◌∷◌, ◌++◌, length, codes, decimal}
use Rattle.outcomes.specs.JobOutcomes.{JobOutcome, is_stuck, has_cut, is_refused}
use Rattle.outcomes.specs.Table.{left_text, more_text}
use Rattle.outcomes.specs.Groups.{Ends, Group, Value, group_of_one, groups_of}

-- ---- lines

abbrev pub span_text : ℕ → ℕ → List ℕ
span_text a b = if a == b then decimal a else decimal a ++ codes ".." ++ decimal b

abbrev pub range_text : Group → List ℕ
range_text g = span_text g.first g.last

abbrev pub ends_text : Option Ends → List ℕ
ends_text None = []
ends_text (Some e) = codes ", ends " ++ span_text e.least e.greatest

-- the text of a group
abbrev pub ending_text : Group → List ℕ
ending_text g = g.head ++ ends_text g.ends ++ g.notes ++ codes "\n"

-- the length of the longest range, or that of `as it is` if that is more
abbrev pub width_of : List Group → ℕ
width_of [] = 8
width_of (g ∷ gs) = max (length (range_text g)) (width_of gs)

abbrev pub group_text : ℕ → Group → List ℕ
group_text width g = left_text width (range_text g) ++ codes "  " ++ ending_text g

abbrev pub groups_text : ℕ → List Group → List ℕ
groups_text width [] = []
groups_text width (g ∷ gs) = group_text width g ++ groups_text width gs

-- ---- counts

abbrev pub count : (JobOutcome → Bool) → List Value → ℕ
count test [] = 0
count test (v ∷ vs) = (if test v.job_outcome then 1 else 0) + count test vs

abbrev pub values_text : ℕ → List ℕ
values_text n = decimal n ++ (if n == 1 then codes " value: " else codes " values: ")

abbrev pub counts_text : List Value → List ℕ
counts_text vs =
    values_text (length vs) ++ decimal (count is_stuck vs) ++ codes " stuck, "
    ++ decimal (count has_cut vs) ++ codes " cut a cleanup" ++ more_text (count is_refused vs) (codes " refused") ++ codes "\n"

-- ---- the text

-- the job with its own value, a line for each group of values, and how many values there are of each kind
abbrev pub sweep_text : ℕ → JobOutcome → List Value → List ℕ
sweep_text limit first vs =
    let gs = groups_of limit vs in
    left_text (width_of gs) (codes "as it is") ++ codes "  " ++ ending_text (group_of_one limit 0 first)
    ++ groups_text (width_of gs) gs ++ counts_text vs
