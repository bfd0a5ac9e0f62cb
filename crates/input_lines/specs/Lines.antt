-- Ranges of a buffer, and their lines.
use Rattle.std.specs.Prelude.{ℕ, ◌+◌, ◌==◌, nat_lt, if◌then◌else◌, List, [], ◌∷◌, slice_range}

-- the places of a buffer from `from` on, up to `to`, which is left out
pub record Range : Type 0 where
  pub from : ℕ
  pub to : ℕ

-- a line: its first place, and its length in bytes without the newline
pub record Span : Type 0 where
  pub at : ℕ
  pub len : ℕ

-- the bytes of a range
abbrev pub bytes_of : List ℕ → Range → List ℕ
bytes_of buffer r = slice_range buffer r.from r.to

-- the bytes of a line
abbrev pub text_of : List ℕ → Span → List ℕ
text_of buffer l = slice_range buffer l.at (l.at + l.len)

-- the lines with one more byte in front that is not a newline: it begins the first line, or is the only line
abbrev pub begun_at : ℕ → List Span → List Span
begun_at at [] = record { at = at; len = 1 } ∷ []
begun_at at (l ∷ ls) = record { at = at; len = l.len + 1 } ∷ ls

-- The lines of these bytes, of which the first is at this place. A newline (10) ends a line, which may be empty.
-- Bytes after the last newline are a line, if there are any.
abbrev pub lines_from : ℕ → List ℕ → List Span
lines_from at [] = []
lines_from at (b ∷ bs) =
    if b == 10
    then record { at = at; len = 0 } ∷ lines_from (at + 1) bs
    else begun_at at (lines_from (at + 1) bs)

-- the lines of a range, in order
abbrev pub lines_of : List ℕ → Range → List Span
lines_of buffer r = lines_from r.from (bytes_of buffer r)

-- the lines from the first one on that has more than the given number of bytes
abbrev pub from_longer : ℕ → List Span → List Span
from_longer len [] = []
from_longer len (l ∷ ls) = if nat_lt len l.len then l ∷ ls else from_longer len ls
