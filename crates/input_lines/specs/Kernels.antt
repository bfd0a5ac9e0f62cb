-- The answer of each kernel on a range of a buffer: lines, a line, or a count.
use Rattle.std.specs.Prelude.{ℕ, Bool, ◌||◌, List, [], ◌∷◌, Option, filter, take, length, nat_lt, if◌then◌else◌}
use Rattle.std.specs.List.{find}
use Rattle.std.specs.Prelude.{nat_eq}
use Rattle.std.specs.List.{starts_with}
use Rattle.input_lines.specs.Lines.{Range, Span, text_of, lines_of}

-- whether a string occurs in the bytes; the empty string occurs in all bytes
abbrev pub contains : List ℕ → List ℕ → Bool
contains needle [] = starts_with nat_eq [] needle
contains needle (b ∷ bs) = starts_with nat_eq (b ∷ bs) needle || contains needle bs

-- the lines that contain a string
abbrev pub found_in : List ℕ → List ℕ → Range → List Span
found_in buffer needle r = filter (λ l. contains needle (text_of buffer l)) (lines_of buffer r)

-- the first `count` lines, or all where there are fewer
abbrev pub head_of : List ℕ → ℕ → Range → List Span
head_of buffer count r = take count (lines_of buffer r)

-- the longer of two lines, the first where they are equal
abbrev pub longer_line : Span → Span → Span
longer_line a b = if nat_lt a.len b.len then b else a

-- the first of the longest lines, or no line where there is none
abbrev pub longest_among : List Span → List Span
longest_among [] = []
longest_among (l ∷ ls) = first_longest l ls
  where
    first_longest : Span → List Span → List Span
    first_longest l [] = l ∷ []
    first_longest l (m ∷ ms) = first_longest (longer_line l m) ms

abbrev pub longest_in : List ℕ → Range → List Span
longest_in buffer r = longest_among (lines_of buffer r)

-- the first line that contains a string, or `None` where there is none
abbrev pub needed_in : List ℕ → List ℕ → Range → Option Span
needed_in buffer needle r = find (λ l. contains needle (text_of buffer l)) (lines_of buffer r)

-- how many lines there are
abbrev pub count_in : List ℕ → Range → ℕ
count_in buffer r = length (lines_of buffer r)
