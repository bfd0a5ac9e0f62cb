-- The first lines of a text, and how many lines come after them.
use Rattle.std.specs.Prelude.{ℕ, zero, suc, ◌-◌, ◌==◌, if◌then◌else◌, List, [], ◌∷◌, ◌++◌, take, drop, codes, decimal}
use Rattle.basics.specs.Places.{line_from}
use Rattle.svg.specs.Escaping.{escaped_text}
use Rattle.svg.specs.declared.names.Tag.TheVariants as tags
use Rattle.page.specs.Markup.{classed}
use Rattle.page.specs.declared.cut.TheConstants.{MAX_LINES}

-- how many bytes the first `n` lines have
abbrev pub first_length : ℕ → List ℕ → ℕ
first_length n [] = 0
first_length n (b ∷ bs) = if n == 0 then 0 else suc (first_length (if b == 10 then n - 1 else n) bs)

abbrev pub shown_lines : List ℕ → List ℕ
shown_lines bytes = take (first_length MAX_LINES bytes) bytes

-- how many lines come after those that are shown
abbrev pub hidden_count : List ℕ → ℕ
hidden_count bytes = line_from 0 (drop (first_length MAX_LINES bytes) bytes)

-- a paragraph that says how many lines are not shown, if there are any
abbrev pub hidden_if : ℕ → List ℕ
hidden_if zero = []
hidden_if (suc n) = classed tags.P (codes "hidden") (escaped_text (codes "Lines that are not shown: " ++ decimal (suc n)))

abbrev pub hidden_text : List ℕ → List ℕ
hidden_text bytes = hidden_if (hidden_count bytes)
