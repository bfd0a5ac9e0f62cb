-- The line and the column of a place, by those of the place before it.
use Rattle.std.proofs.Common.{◌≡◌, ℕ, ◌+◌, ◌<◌, ◌==◌, if◌then◌else◌, List, [], ◌∷◌, ◌++◌, length, take, get_or, refl, ap, ◌∙◌}
use Rattle.std.proofs.lemmas.List.{take_more}
use Rattle.basics.specs.Places.{line_from, column_from, line_of, column_of}

-- One more byte at the end moves the line on by one where it is a newline, and leaves the line as it is elsewhere.
line_after_one_more : (bs : List ℕ) (n b : ℕ) → line_from n (bs ++ b ∷ []) ≡ (if b == 10 then line_from n bs + 1 else line_from n bs)
line_after_one_more [] n b = refl
line_after_one_more (x ∷ xs) n b = line_after_one_more xs (if x == 10 then n + 1 else n) b

-- One more byte at the end sets the column to 1 where it is a newline, and moves the column on by one elsewhere.
column_after_one_more : (bs : List ℕ) (n b : ℕ) → column_from n (bs ++ b ∷ []) ≡ (if b == 10 then 1 else column_from n bs + 1)
column_after_one_more [] n b = refl
column_after_one_more (x ∷ xs) n b = column_after_one_more xs (if x == 10 then 1 else n + 1) b

-- The line of the next place follows from the line of this one and the byte between the two.
pub line_next : (text : List ℕ) (at : ℕ) → at < length text →
    line_of text (at + 1) ≡ (if get_or text at 0 == 10 then line_of text at + 1 else line_of text at)
line_next text at inside = ap (line_from 1) (take_more text at 0 inside) ∙ line_after_one_more (take at text) 1 (get_or text at 0)

-- The column of the next place follows from the column of this one and the byte between the two.
pub column_next : (text : List ℕ) (at : ℕ) → at < length text →
    column_of text (at + 1) ≡ (if get_or text at 0 == 10 then 1 else column_of text at + 1)
column_next text at inside = ap (column_from 1) (take_more text at 0 inside) ∙ column_after_one_more (take at text) 1 (get_or text at 0)
