-- The hint for a number that has a leading zero or is out of its range.
use Rattle.std.specs.Prelude.{ℕ, Bool, false, ◌&&◌, ◌==◌, if◌then◌else◌, List, Option, Some, None, slice_get}
use Rattle.job_tree.specs.declared.format.Format.{Format}
use Rattle.job_tree.specs.Formats.{extends_format_1}
use Rattle.job_tree.specs.Words.{is_digit}
use Rattle.job_tokens.specs.declared.token.Shape.{Shape}
use Rattle.job_syntax.specs.declared.keyword.Keyword.{Keyword}
use Rattle.job_syntax.specs.declared.keyword.Keyword.TheVariants as word
use Rattle.job_syntax.specs.Ranges.{object_named}
use Rattle.job_hints.specs.declared.advice.Advice.{Advice}
use Rattle.job_hints.specs.declared.advice.Advice.TheVariants as advice
use Rattle.job_hints.specs.declared.number.NumberAdvice.TheVariants as number
use Rattle.job_hints.specs.ByGrammar.{keyword_in}

abbrev pub is_digit_byte : Option ℕ → Bool
is_digit_byte None = false
is_digit_byte (Some b) = is_digit b

abbrev pub is_zero : Option ℕ → Bool
is_zero None = false
is_zero (Some b) = b == 48

-- a zero is the first of several digits
abbrev pub has_leading_zero : List ℕ → Bool
has_leading_zero rest = is_zero (slice_get rest 0) && is_digit_byte (slice_get rest 1)

-- the range of a number after `repeat`, which begins no step in format 1
abbrev pub passes_advice : Format → Advice
passes_advice format = if extends_format_1 format then advice.Number number.Passes else advice.Number number.Other

-- the range of a number after a keyword
abbrev pub range_advice : Format → Option Keyword → Advice
range_advice format (Some word.Over) = advice.Number number.Copies
range_advice format (Some word.Pace) = advice.Number number.Pace
range_advice format (Some word.Repeat) = passes_advice format
range_advice format _ = advice.Number number.Other

-- the range of a number after the name of a limiter or channel, or otherwise this
abbrev pub named_advice : Advice → Option Keyword → Advice
named_advice other (Some word.Limiter) = advice.Number number.Tokens
named_advice other (Some word.Channel) = advice.Number number.Places
named_advice other _ = other

-- the range of a number after a token, which comes after this keyword
abbrev pub advice_after : Format → Option Keyword → Option Shape → Advice
advice_after format earlier None = range_advice format None
advice_after format earlier (Some before) =
    named_advice (range_advice format (keyword_in (Some before))) (object_named format earlier before)

-- the hint for a refused number, given the two tokens before it and the text from it on
abbrev pub number_advice : Format → (earlier before : Option Shape) → List ℕ → Advice
number_advice format earlier before rest =
    if has_leading_zero rest then advice.Number number.LeadingZero else advice_after format (keyword_in earlier) before
