-- What tokens are, without their places.
use Rattle.std.specs.Prelude.{ℕ, List, map, Option, Some, None}
use Rattle.job_tokens.specs.declared.token.Mark.{Mark}
use Rattle.job_tokens.specs.declared.token.Shape.{Shape}
use Rattle.job_tokens.specs.declared.token.Shape.TheVariants as shape
use Rattle.job_tokens.specs.declared.token.Token.{Token}

-- the word, or `None` if the token is not a word
abbrev pub word_in : Shape → Option (List ℕ)
word_in (shape.Word word) = Some word
word_in (shape.Number n) = None
word_in (shape.Text text) = None
word_in (shape.Mark mark) = None

-- the value of a number, or `None` if the token is not a number or has no value
abbrev pub number_in : Shape → Option ℕ
number_in (shape.Word word) = None
number_in (shape.Number n) = n
number_in (shape.Text text) = None
number_in (shape.Mark mark) = None

-- the string, or `None` if the token is not a string
abbrev pub text_in : Shape → Option (List ℕ)
text_in (shape.Word word) = None
text_in (shape.Number n) = None
text_in (shape.Text text) = Some text
text_in (shape.Mark mark) = None

-- the mark, or `None` if the token is not a mark
abbrev pub mark_in : Shape → Option Mark
mark_in (shape.Word word) = None
mark_in (shape.Number n) = None
mark_in (shape.Text text) = None
mark_in (shape.Mark mark) = Some mark

-- tokens without their places
abbrev pub shapes_of : List Token → List Shape
shapes_of tokens = map (λ t. t.shape) tokens
