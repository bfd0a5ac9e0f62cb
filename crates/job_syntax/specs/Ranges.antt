-- The ranges of the numbers of a job text.
use Rattle.std.specs.Prelude.{ℕ, List, [], ◌∷◌, Bool, true, false, ◌&&◌, nat_le, Option, Some, None, if◌then◌else◌}
use Rattle.job_tree.specs.declared.limits.TheConstants.{MAX_NUMBER, MAX_PACE, MAX_COPIES, MAX_PASSES, MAX_TOKENS, MAX_PLACES}
use Rattle.job_tree.specs.declared.format.Format.{Format}
use Rattle.job_tree.specs.Formats.{extends_format_1, has_events}
use Rattle.job_tokens.specs.declared.token.Shape.{Shape}
use Rattle.job_tokens.specs.declared.token.Shape.TheVariants as shape
use Rattle.job_tokens.specs.declared.token.Token.{Token}
use Rattle.job_syntax.specs.declared.keyword.Keyword.{Keyword}
use Rattle.job_syntax.specs.declared.keyword.Keyword.TheVariants as word
use Rattle.job_syntax.specs.Keywords.{is_kept, keyword_of}

-- the keyword that a token is, if it is one
abbrev pub keyword_in : Shape → Option Keyword
keyword_in (shape.Word word) = keyword_of word
keyword_in (shape.Number n) = None
keyword_in (shape.Text text) = None
keyword_in (shape.Mark mark) = None

-- ---- the limiter or channel that a token names

abbrev pub if_object : Option Keyword → Option Keyword
if_object (Some word.Limiter) = Some word.Limiter
if_object (Some word.Channel) = Some word.Channel
if_object _ = None

-- `limiter` or `channel`, if the keyword is one of them and the format has them
abbrev pub object_of : Format → Option Keyword → Option Keyword
object_of format before = if has_events format then if_object before else None

-- The `limiter` or `channel` that a token names, if that is the keyword before it. A keyword that may not be a name names none: in
-- `scope limiter after 5 { }` a name is `limiter`.
abbrev pub object_named : Format → Option Keyword → Shape → Option Keyword
object_named format before (shape.Word word) = if is_kept (keyword_of word) then None else object_of format before
object_named format before (shape.Number n) = None
object_named format before (shape.Text text) = None
object_named format before (shape.Mark mark) = None

-- ---- ranges

-- the maximum of a number after `repeat`, which begins no step in format 1
abbrev pub most_passes : Format → ℕ
most_passes format = if extends_format_1 format then MAX_PASSES else MAX_NUMBER

-- the minimum and the maximum of a number after a keyword; `repeat` has its own range in formats 2 and 3
abbrev pub range_after : Format → Option Keyword → ℕ × ℕ
range_after format (Some word.Over) = (1, MAX_COPIES)
range_after format (Some word.Pace) = (1, MAX_PACE)
range_after format (Some word.Repeat) = (0, most_passes format)
range_after format _ = (0, MAX_NUMBER)

-- the minimum and the maximum of a number after the name of a limiter or channel, or otherwise these
abbrev pub range_or : ℕ × ℕ → Option Keyword → ℕ × ℕ
range_or range (Some word.Limiter) = (1, MAX_TOKENS)
range_or range (Some word.Channel) = (0, MAX_PLACES)
range_or range _ = range

-- The minimum and the maximum of a number: `named` is the `limiter` or `channel` that the token before it names, and `before` the
-- keyword that this token is.
abbrev pub range_of : Format → (named before : Option Keyword) → ℕ × ℕ
range_of format named before = range_or (range_after format before) named

-- a number in its range; `None` is a number with a leading zero or above the maximum of the lexer
abbrev pub fits : Format → (named before : Option Keyword) → Option ℕ → Bool
fits format named before None = false
fits format named before (Some n) = nat_le (range_of format named before).0 n && nat_le n (range_of format named before).1

-- not a number, or a number in its range
abbrev pub is_in_range : Format → (named before : Option Keyword) → Shape → Bool
is_in_range format named before (shape.Word word) = true
is_in_range format named before (shape.Number n) = fits format named before n
is_in_range format named before (shape.Text text) = true
is_in_range format named before (shape.Mark mark) = true

-- the place of the first number out of its range, after a token that names `named` and is `before`
abbrev pub fault_after : Format → (named before : Option Keyword) → List Token → Option ℕ
fault_after format named before [] = None
fault_after format named before (t ∷ ts) =
    if is_in_range format named before t.shape then fault_after format (object_named format before t.shape) (keyword_in t.shape) ts
    else Some t.at

-- the place of the first number of a text that is out of its range
abbrev pub number_fault : Format → List Token → Option ℕ
number_fault format tokens = fault_after format None None tokens
