-- The first line at which a text differs from the one that was kept.
use Rattle.std.specs.Prelude.{ℕ, ◌+◌, Bool, true, false, Option, Some, None, List, [], ◌∷◌}
use Rattle.std.specs.Str.{bytes_eq}
use Rattle.expect_text.specs.Lines.{lines_of}

-- the number of a line, that line of the kept text and that of the text written now, or `None` where a text has no such line
pub record Difference : Type 0 where
  pub line : ℕ
  pub kept : Option (List ℕ)
  pub written : Option (List ℕ)

-- the first difference of two lines of this number and those after them: a later one where the lines are the same
abbrev pub difference_at : (same : Bool) → ℕ → List ℕ → List ℕ → Option Difference → Option Difference
difference_at true n k l later = later
difference_at false n k l later = Some (record { line = n; kept = Some k; written = Some l })

-- the first difference of some lines from the kept ones, where the first line of each has this number
abbrev pub difference_from : ℕ → (kept written : List (List ℕ)) → Option Difference
difference_from n [] [] = None
difference_from n [] (l ∷ ls) = Some (record { line = n; kept = None; written = Some l })
difference_from n (k ∷ ks) [] = Some (record { line = n; kept = Some k; written = None })
difference_from n (k ∷ ks) (l ∷ ls) = difference_at (bytes_eq k l) n k l (difference_from (n + 1) ks ls)

-- the first difference of a text from the one that was kept; lines are numbered from 1
abbrev pub first_difference : (kept written : List ℕ) → Option Difference
first_difference kept written = difference_from 1 (lines_of kept) (lines_of written)
