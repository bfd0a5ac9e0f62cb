-- The numbers of a job text whose values can be changed: the deadline of a scope or nursery, the tokens of a limiter, the places of a
-- channel, and the number at a place.
use Rattle.std.specs.Prelude.{ℕ, ◌+◌, ◌==◌, Bool, false, nat_lt, if◌then◌else◌, List, [], ◌∷◌, length, Option, Some, None, decimal}
use Rattle.std.specs.Str.{bytes_eq}
use Rattle.job_tokens.specs.declared.token.Token.{Token}
use Rattle.job_tokens.specs.Shapes.{word_in, number_in}
use Rattle.job_syntax.specs.declared.keyword.Keyword.{Keyword}
use Rattle.job_syntax.specs.declared.keyword.Keyword.TheVariants as keyword
use Rattle.job_edits.specs.declared.change.Change.{Change}
use Rattle.job_edits.specs.declared.change.Piece.TheVariants as piece
use Rattle.job_edits.specs.declared.number.Number.{Number}
use Rattle.job_edits.specs.Waiting.{keyword_in, first_name, begins_after, step_keyword}

-- ---- a number

-- A number that begins at a place and has as many bytes as its value has digits. The place after it is below 2 to the 64, since
-- the text is in memory.
abbrev pub number_from : ℕ → Option ℕ → Option Number
number_from at None = None
number_from at (Some n) =
    if nat_lt (at + length (decimal n)) 18446744073709551616
    then Some (record { from = at; to = at + length (decimal n); value = n }) else None

-- the number that a token is
abbrev pub number_of : Token → Option Number
number_of t = number_from t.at (number_in t.shape)

-- the number at a place
abbrev pub number_at : ℕ → List Token → Option Number
number_at place [] = None
number_at place (t ∷ ts) = if t.at == place then number_of t else number_at place ts

-- ---- the number of a block

-- the number that the first token is
abbrev pub number_first : List Token → Option Number
number_first [] = None
number_first (t ∷ ts) = number_of t

-- a deadline begins with `after` or `at`
abbrev pub deadline_if : Option Keyword → List Token → Option Number
deadline_if (Some keyword.After) ts = number_first ts
deadline_if (Some keyword.At) ts = number_first ts
deadline_if _ ts = None

-- the first number, or else the second
abbrev pub number_or : Option Number → Option Number → Option Number
number_or None other = other
number_or (Some n) other = Some n

-- the number directly after a name, as that of a limiter or channel, or that of a deadline there
abbrev pub head_number : List Token → Option Number
head_number [] = None
head_number (t ∷ ts) = number_or (number_of t) (deadline_if (keyword_in (word_in t.shape)) ts)

-- the number of a block, given the tokens from its name on
abbrev pub after_name : List Token → Option Number
after_name [] = None
after_name (t ∷ ts) = head_number ts

-- ---- blocks that may have a number

-- a scope, nursery, limiter or channel begins with its keyword, and its name follows
abbrev pub block_if : Option Keyword → List Token → Option (List ℕ)
block_if (Some keyword.Scope) ts = first_name ts
block_if (Some keyword.Nursery) ts = first_name ts
block_if (Some keyword.Limiter) ts = first_name ts
block_if (Some keyword.Channel) ts = first_name ts
block_if _ ts = None

-- the name of the one that begins at a token, given whether a step may begin there and the tokens after it
abbrev pub block_at : (begins : Bool) → Token → List Token → Option (List ℕ)
block_at begins t ts = block_if (step_keyword begins t) ts

abbrev pub is_name : List ℕ → Option (List ℕ) → Bool
is_name name None = false
is_name name (Some other) = bytes_eq other name

abbrev pub with_name : Option (List ℕ) → List (List ℕ) → List (List ℕ)
with_name None names = names
with_name (Some name) names = name ∷ names

-- their names from a token on, given whether a step may begin there
abbrev pub names_from : (begins : Bool) → List Token → List (List ℕ)
names_from begins [] = []
names_from begins (t ∷ ts) = with_name (block_at begins t ts) (names_from (begins_after t) ts)

-- the names of the scopes, nurseries, limiters and channels of a text, in the order of their places
abbrev pub blocks_in : List Token → List (List ℕ)
blocks_in ts = names_from false ts

-- the number of the first one with this name from a token on
abbrev pub number_named : (begins : Bool) → List ℕ → List Token → Option Number
number_named begins name [] = None
number_named begins name (t ∷ ts) = if is_name name (block_at begins t ts) then after_name ts else number_named (begins_after t) name ts

-- the number of the first scope, nursery, limiter or channel with this name, if it has one
abbrev pub block_number : List ℕ → List Token → Option Number
block_number name ts = number_named false name ts

-- ---- the change

-- another number in place of this one
abbrev pub set_to : Number → ℕ → Change
set_to number n = record { from = number.from; to = number.to; piece = piece.Number n }
