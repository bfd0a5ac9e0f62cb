-- A feed: a job text, a line that is exactly `%input`, and the input.
use Rattle.std.specs.Prelude.{ℕ, Bool, true, ◌&&◌, ◌==◌, nat_eq, if◌then◌else◌, List, [], ◌∷◌, ◌++◌, drop, codes}
use Rattle.std.specs.List.{starts_with}

-- bytes that end a line or begin with its end
abbrev pub ends_line : List ℕ → Bool
ends_line [] = true
ends_line (b ∷ bs) = b == 10

abbrev pub mark : List ℕ
mark = codes "%input"

-- whether the first line of the bytes is the mark
abbrev pub begins_with_mark : List ℕ → Bool
begins_with_mark bytes = starts_with nat_eq bytes mark && ends_line (drop 6 bytes)

abbrev pub with_first : ℕ → List ℕ × List ℕ → List ℕ × List ℕ
with_first b parts = (b ∷ parts.0, parts.1)

-- the bytes before the first line that is the mark, and those after that line; without one, all bytes and none
abbrev pub feed_from : Bool → List ℕ → List ℕ × List ℕ
feed_from starts [] = ([], [])
feed_from starts (b ∷ bs) =
    if starts && begins_with_mark (b ∷ bs) then ([], drop 7 (b ∷ bs)) else with_first b (feed_from (b == 10) bs)

abbrev pub feed_parts : List ℕ → List ℕ × List ℕ
feed_parts bytes = feed_from true bytes

abbrev pub with_front : List ℕ → List ℕ × List ℕ → List ℕ × List ℕ
with_front front parts = (front ++ parts.0, parts.1)
