-- Cuts of a range at line starts.
use Rattle.std.specs.Prelude.{ℕ, zero, suc, ◌+◌, ◌-◌, ◌*◌, ◌/◌, ◌==◌, Bool, ◌||◌, if◌then◌else◌, List, [], ◌++◌, slice_index}
use Rattle.input_lines.specs.Lines.{Range, Span, bytes_of, lines_of}

-- a place at which a line starts: the first of the buffer, and each directly after a newline
abbrev pub starts_line : List ℕ → ℕ → Bool
starts_line buffer place = (place == 0) || (slice_index buffer (place - 1) == 10)

-- the first line start among the given number of places from this one on, or the place after them
abbrev pub next_start : List ℕ → ℕ → ℕ → ℕ
next_start buffer place zero = place
next_start buffer place (suc left) = if starts_line buffer place then place else next_start buffer (place + 1) left

-- Cut point i of k: the range's start for 0, its end for k, and otherwise the first line start of the range at or after
-- the i-th of k equal steps, or the range's end where there is none.
abbrev pub cut_point : List ℕ → Range → ℕ → ℕ → ℕ
cut_point buffer r k i =
    if i == 0 then r.from
    else (if i == k then r.to
    else (let target = r.from + i * (r.to - r.from) / k in next_start buffer target (r.to - target)))

-- cut i of k: from cut point i to the next
abbrev pub cut_of : List ℕ → Range → ℕ → ℕ → Range
cut_of buffer r k i = record { from = cut_point buffer r k i; to = cut_point buffer r k (i + 1) }

-- the bytes of the first n of k cuts, in order
abbrev pub bytes_of_cuts : List ℕ → Range → ℕ → ℕ → List ℕ
bytes_of_cuts buffer r k zero = []
bytes_of_cuts buffer r k (suc n) = bytes_of_cuts buffer r k n ++ bytes_of buffer (cut_of buffer r k n)

-- the lines of the first n of k cuts, in order
abbrev pub lines_of_cuts : List ℕ → Range → ℕ → ℕ → List Span
lines_of_cuts buffer r k zero = []
lines_of_cuts buffer r k (suc n) = lines_of_cuts buffer r k n ++ lines_of buffer (cut_of buffer r k n)
