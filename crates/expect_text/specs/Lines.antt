-- The parts of a text between separators: its lines, between newlines.
use Rattle.std.specs.Prelude.{◌≢◌, ℕ, ◌<◌, ◌==◌, Bool, true, false, Option, Some, None, List, [], ◌∷◌, length, slice_index}

-- a byte before some parts: a separator has an empty part before it, and any other byte begins the first part
abbrev pub before_parts : (is_separator : Bool) → ℕ → List (List ℕ) → List (List ℕ)
before_parts true b parts = [] ∷ parts
before_parts false b [] = (b ∷ []) ∷ []
before_parts false b (part ∷ parts) = (b ∷ part) ∷ parts

-- the parts of a text between separators, with these last parts at the end of the text
abbrev pub parts_from : (last : List (List ℕ)) → (separator : ℕ) → List ℕ → List (List ℕ)
parts_from last separator [] = last
parts_from last separator (b ∷ bs) = before_parts (b == separator) b (parts_from last separator bs)

-- the parts of a text between separators, one more than there are separators
abbrev pub parts_of : (separator : ℕ) → List ℕ → List (List ℕ)
parts_of = parts_from ([] ∷ [])

-- the lines of a text, between its newlines: the last one is empty where the text ends with a newline
abbrev pub lines_of : List ℕ → List (List ℕ)
lines_of = parts_of 10

-- the lines of a text where each newline ends a line, so that one at the end of the text begins no other
abbrev pub ended_lines : List ℕ → List (List ℕ)
ended_lines = parts_from [] 10

-- the lines that are left, or no lines where no newline came
abbrev pub lines_left : Option (List ℕ) → List (List ℕ)
lines_left None = []
lines_left (Some rest) = lines_of rest

-- no byte of a text is this one
abbrev pub Lacks : (byte : ℕ) → List ℕ → Type 0
Lacks byte text = (k : ℕ) → k < length text → slice_index text k ≢ byte
