-- The columns of a chart: the ticks at which something happens, and the room from each to the next.
use Rattle.std.specs.Prelude.{ℕ, zero, suc, ◌+◌, ◌-◌, ◌/◌, ◌==◌, Bool, true, ◌&&◌, List, [], ◌∷◌, length, decimal, max, nat_le, if◌then◌else◌}
use Rattle.basics.specs.Sorting.{sorted_by}

-- a tick, and the number of things that happen at it
pub record Column : Type 0 where
  pub tick : ℕ
  pub count : ℕ

-- ---- all columns

-- the columns with one more thing at the tick t, which is not later than theirs
abbrev pub with_tick : ℕ → List Column → List Column
with_tick t [] = record { tick = t; count = 1 } ∷ []
with_tick t (c ∷ cs) =
    if c.tick == t then record { tick = t; count = c.count + 1 } ∷ cs else record { tick = t; count = 1 } ∷ c ∷ cs

abbrev pub columns_in : List ℕ → List Column
columns_in [] = []
columns_in (t ∷ ts) = with_tick t (columns_in ts)

abbrev pub identity : ℕ → ℕ
identity t = t

abbrev pub columns_of : List ℕ → List Column
columns_of ts = columns_in (sorted_by identity ts)

-- ---- the room that they take

-- how often a number can be halved until it is at most 1, in at most the given number of steps
abbrev pub halvings : ℕ → ℕ → ℕ
halvings zero n = 0
halvings (suc k) n = if nat_le 2 n then halvings k (n / 2) + 1 else 0

-- the logarithm of a number below 2^64 to base 2, rounded down, and 0 for 0
abbrev pub log2 : ℕ → ℕ
log2 n = halvings 64 n

-- the room from a tick to the next one: its digits, a space, and the logarithm of the ticks between them
abbrev pub gap : ℕ → ℕ → ℕ
gap t u = length (decimal t) + 1 + log2 (u - t)

-- the room from a tick to the next one, less this number of characters, but at least one
abbrev pub gap_less : ℕ → ℕ → ℕ → ℕ
gap_less less t u = max 1 (gap t u - less)

-- whether a tick and the columns after it fit into the room, including the digits of the last one
abbrev pub fits_from : ℕ → ℕ → ℕ → List Column → Bool
fits_from less room t [] = nat_le (length (decimal t)) room
fits_from less room t (c ∷ cs) = nat_le (gap_less less t c.tick) room && fits_from less (room - gap_less less t c.tick) c.tick cs

-- ---- narrower gaps, with which all columns are shown

-- whether columns fit into the room with gaps that are so much smaller
abbrev pub fits_less : ℕ → ℕ → List Column → Bool
fits_less less room [] = true
fits_less less room (c ∷ cs) = fits_from less room c.tick cs

-- the least number, from `less` on, with which the columns fit; `more` further ones are tried, and the last of them is given if none suffices
unfoldable pub less_from : ℕ → ℕ → ℕ → List Column → ℕ
less_from zero less room cs = less
less_from (suc more) less room cs = if fits_less less room cs then less else less_from more (less + 1) room cs

-- by how much gaps are made smaller so that the columns fit into the room; no gap is above 84, so with 83 each is one character
abbrev pub less_for : ℕ → List Column → ℕ
less_for room cs = less_from 83 0 room cs

-- ---- where something is shown

abbrev pub column_from : ℕ → List Column → ℕ → ℕ
column_from before [] t = before
column_from before (c ∷ cs) t = if nat_le c.tick t then column_from c.tick cs t else before

-- the tick of the last column that is not after a tick, or of the first column where all are after it
abbrev pub column_at : List Column → ℕ → ℕ
column_at [] t = t
column_at (c ∷ cs) t = column_from c.tick cs t

-- the tick of the last column, or 0 where there is none
abbrev pub last_tick : List Column → ℕ
last_tick [] = 0
last_tick (c ∷ []) = c.tick
last_tick (c ∷ d ∷ cs) = last_tick (d ∷ cs)

-- the tick of the first of these columns that is not before a tick, or `last` where there is none
abbrev pub column_by_or : ℕ → List Column → ℕ → ℕ
column_by_or last [] t = last
column_by_or last (c ∷ cs) t = if nat_le t c.tick then c.tick else column_by_or last cs t

-- the tick of the first column that is not before a tick, or of the last column where all are before it
abbrev pub column_by : List Column → ℕ → ℕ
column_by cs t = column_by_or (last_tick cs) cs t

-- the room from a column to the next with gaps that are so much smaller, and 1 for the last
abbrev pub gap_less_to : ℕ → Column → List Column → ℕ
gap_less_to less c [] = 1
gap_less_to less c (d ∷ cs) = gap_less less c.tick d.tick
