-- Texts that are cut at marks, and the numbers in them.
use Rattle.std.specs.Prelude.{ℕ, ◌^◌, Bool, true, false, ◌&&◌, nat_lt, Option, Some, None, List, [], ◌∷◌, length, take, drop}
use Rattle.std.specs.Str.{bytes_eq, all_ascii_digits}
use Rattle.std.specs.Str.Parse.{digits_value, without_leading_plus}
use denote.Ref.{Bor}

-- the halves of a text that was cut
abbrev pub halves_of : Bor (List ℕ) × Bor (List ℕ) → List ℕ × List ℕ
halves_of halves = (halves.0.now, halves.1.now)

-- a first byte in front of the first half
abbrev pub with_front : ℕ → Option (List ℕ × List ℕ) → Option (List ℕ × List ℕ)
with_front c None = None
with_front c (Some halves) = Some ((c ∷ halves.0, halves.1))

-- cut here if the mark stands here, and otherwise where the bytes after the first are cut
abbrev pub cut_here : (stands : Bool) → (after : List ℕ) → ℕ → Option (List ℕ × List ℕ) → Option (List ℕ × List ℕ)
cut_here true after c later = Some (([], after))
cut_here false after c later = with_front c later

-- what is before the first place at which a mark stands in a text, and what is after it
abbrev pub cut_at : (mark text : List ℕ) → Option (List ℕ × List ℕ)
cut_at mark [] = None
cut_at mark (c ∷ cs) = cut_here (bytes_eq (take (length mark) (c ∷ cs)) mark) (drop (length mark) (c ∷ cs)) c (cut_at mark cs)

-- the number if the test holds
abbrev pub number_if : Bool → ℕ → Option ℕ
number_if true n = Some n
number_if false n = None

-- the number that decimal digits spell, if it has at most so many bits
abbrev pub digits_in : ℕ → List ℕ → Option ℕ
digits_in bits digits = number_if (nat_lt 0 (length digits) && (all_ascii_digits digits && nat_lt (digits_value 10 digits) (2 ^ bits))) (digits_value 10 digits)

-- the number that a word spells, if it has at most so many bits: decimal digits, with at most one plus before them
abbrev pub number_in : ℕ → List ℕ → Option ℕ
number_in bits word = digits_in bits (without_leading_plus word)
