-- The line and the column of a place in a text.
use Rattle.std.specs.Prelude.{◌≡◌, ◌≤◌, ℕ, ◌+◌, ◌==◌, if◌then◌else◌, List, [], ◌∷◌, length, take, Option, Some, None}

-- the line after bytes that begin on line `n`: one more for each newline
abbrev pub line_from : ℕ → List ℕ → ℕ
line_from n [] = n
line_from n (b ∷ bs) = line_from (if b == 10 then n + 1 else n) bs

-- the column after bytes that begin at column `n`: 1 after a newline, and one more after any other byte
abbrev pub column_from : ℕ → List ℕ → ℕ
column_from n [] = n
column_from n (b ∷ bs) = column_from (if b == 10 then 1 else n + 1) bs

-- one more than the newlines before the place
abbrev pub line_of : List ℕ → ℕ → ℕ
line_of text at = line_from 1 (take at text)

-- one more than the bytes after the last newline before the place
abbrev pub column_of : List ℕ → ℕ → ℕ
column_of text at = column_from 1 (take at text)

-- a place of the text, its end among them, is on this line and at this column
pub record IsPlace (text : List ℕ) (line column at : ℕ) : Type 0 where
  pub inside : at ≤ length text
  pub line_is : line_of text at ≡ line
  pub column_is : column_of text at ≡ column

-- the place of a line and a column, or none if no place of the text has them
abbrev pub IsPlaceOf : List ℕ → ℕ → ℕ → Option ℕ → Type 0
IsPlaceOf text line column None = (at : ℕ) → IsPlace text line column at → ⊥
IsPlaceOf text line column (Some at) = IsPlace text line column at
