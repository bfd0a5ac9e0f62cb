-- What it means that a line matches a pattern.
use Rattle.std.specs.Prelude.{ℕ, ◌+◌, ◌==◌, Bool, true, false, ◌&&◌, ◌||◌, Option, Some, None, List, [], ◌∷◌}
use Rattle.expect_text.specs.Lines.{ended_lines}
use Rattle.expect_text.specs.declared.squeezing.Gap.{Gap}
use Rattle.expect_text.specs.declared.squeezing.Gap.TheVariants.{Start, Closed, Owed}

-- ---- patterns

-- whether at least one suffix of a text passes a test
abbrev pub any_suffix : (List ℕ → Bool) → List ℕ → Bool
any_suffix test [] = test []
any_suffix test (b ∷ bs) = test (b ∷ bs) || any_suffix test bs

-- whether a text begins with a byte, and what follows it passes a test
abbrev pub first_is : ℕ → (List ℕ → Bool) → List ℕ → Bool
first_is p test [] = false
first_is p test (b ∷ bs) = (b == p) && test bs

-- whether a text matches a byte of a pattern and the rest passes a test: `*` matches any bytes, and any other byte matches itself
abbrev pub matches_byte : (is_star : Bool) → ℕ → (List ℕ → Bool) → List ℕ → Bool
matches_byte true p test text = any_suffix test text
matches_byte false p test text = first_is p test text

abbrev pub is_empty : List ℕ → Bool
is_empty [] = true
is_empty (b ∷ bs) = false

-- whether a text matches a pattern, in which `*` matches any bytes
abbrev pub matches : (pattern text : List ℕ) → Bool
matches [] text = is_empty text
matches (p ∷ ps) text = matches_byte (p == 42) p (matches ps) text

-- ---- blanks

-- a space, a tab or a carriage return
abbrev pub is_blank : ℕ → Bool
is_blank b = b == 32 || b == 9 || b == 13

-- what a byte that is not a blank becomes after such a gap
abbrev pub after_gap : Gap → ℕ → List ℕ → List ℕ
after_gap Start b rest = b ∷ rest
after_gap Closed b rest = b ∷ rest
after_gap Owed b rest = 32 ∷ b ∷ rest

-- the gap that a blank leaves: none at the start of a line
abbrev pub with_blank : Gap → Gap
with_blank Start = Start
with_blank Closed = Owed
with_blank Owed = Owed

-- what a byte and those after it become, which depend on the gap
abbrev pub squeezed_at : (blank : Bool) → Gap → ℕ → (Gap → List ℕ) → List ℕ
squeezed_at true gap b rest = rest (with_blank gap)
squeezed_at false gap b rest = after_gap gap b (rest Closed)

abbrev pub squeezed_in : Gap → List ℕ → List ℕ
squeezed_in gap [] = []
squeezed_in gap (b ∷ bs) = squeezed_at (is_blank b) gap b (λ next. squeezed_in next bs)

-- a text without the blanks at its start and its end, and with one space for each other run of blanks
abbrev pub squeezed_text : List ℕ → List ℕ
squeezed_text = squeezed_in Start

-- whether a line matches a pattern
abbrev pub meets : (pattern line : List ℕ) → Bool
meets pattern line = matches (squeezed_text pattern) (squeezed_text line)

-- ---- the lines of a text

abbrev pub first_or : (found : Bool) → ℕ → Option ℕ → Option ℕ
first_or true n later = Some n
first_or false n later = later

-- the number of the first of some lines that passes a test, where the first line has this number
abbrev pub first_from : (List ℕ → Bool) → ℕ → List (List ℕ) → Option ℕ
first_from test n [] = None
first_from test n (l ∷ ls) = first_or (test l) n (first_from test (n + 1) ls)

-- the number, from 1, of the first line of a text that matches a pattern
abbrev pub first_match : (pattern text : List ℕ) → Option ℕ
first_match pattern text = first_from (meets pattern) 1 (ended_lines text)
