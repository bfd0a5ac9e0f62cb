-- The canonical text of tokens.
use Rattle.std.specs.Prelude.{ℕ, ◌/◌, ◌%◌, List, [], ◌∷◌, ◌++◌, Bool, true, false, ◌&&◌, ◌||◌, ◌==◌, Option, Some, None, if◌then◌else◌}
use Rattle.std.specs.List.{flat_map}
use Rattle.std.specs.Fmt.{decimal}
use Rattle.basics.specs.Hex.{hex_digit}
use Rattle.job_tokens.specs.declared.token.Mark.{Mark}
use Rattle.job_tokens.specs.declared.token.Mark.TheVariants.{Open, Close, Semicolon}
use Rattle.job_tokens.specs.declared.token.Shape.{Shape}
use Rattle.job_tokens.specs.declared.token.Shape.TheVariants as shape
use Rattle.job_tokens.specs.Lexing.{is_plain}

-- the canonical spelling of one byte of a string
abbrev pub unit : ℕ → List ℕ
unit b =
    if (b == 34) || (b == 92) then 92 ∷ b ∷ []
    else (if is_plain b then b ∷ [] else 92 ∷ 120 ∷ hex_digit (b / 16) ∷ hex_digit (b % 16) ∷ [])

abbrev pub mark_byte : Mark → ℕ
mark_byte Open = 123
mark_byte Close = 125
mark_byte Semicolon = 59

-- the digits of a number, without leading zeros
abbrev pub number : Option ℕ → List ℕ
number None = []
number (Some n) = decimal n

-- one token
abbrev pub token : Shape → List ℕ
token (shape.Word word) = word
token (shape.Number n) = number n
token (shape.Text text) = 34 ∷ (flat_map unit text ++ 34 ∷ [])
token (shape.Mark mark) = mark_byte mark ∷ []

-- whether the token is a word or a number
abbrev pub is_wordlike : Shape → Bool
is_wordlike (shape.Word word) = true
is_wordlike (shape.Number n) = true
is_wordlike (shape.Text text) = false
is_wordlike (shape.Mark mark) = false

-- the space between two words or numbers
abbrev pub gap : Bool → Bool → List ℕ
gap before following = if before && following then 32 ∷ [] else []

-- the canonical text of tokens; `before` says whether they come directly after a word or a number
abbrev pub canon_after : Bool → List Shape → List ℕ
canon_after before [] = []
canon_after before (s ∷ ss) = (gap before (is_wordlike s) ++ token s) ++ canon_after (is_wordlike s) ss

abbrev pub canon_of : List Shape → List ℕ
canon_of shapes = canon_after false shapes
