-- What contracts see of a search for the next line that contains a string.
use Rattle.std.specs.Prelude.{◌≡◌, ℕ, ◌<◌, List, [], ◌∷◌, Option, filter, length, IfSome, MatchOption}
use Rattle.input_lines.specs.Lines.{Span, text_of}
use Rattle.input_lines.specs.Part.{span_of, source_of, lines_left, IsLineOf}
use Rattle.input_lines.specs.declared.line.Line.{Line}
use Rattle.input_lines.specs.declared.line.Lines.{Lines}
use Rattle.input_lines.specs.Kernels.{contains}

-- the lines still to come that contain a string
abbrev pub matches_left : List ℕ → Lines → List Span
matches_left needle lines = filter (λ l. contains needle (text_of (source_of lines) l)) (lines_left lines)

-- one call returned the first of the lines left that contains the string, and skipped those before it, or returned `None`
-- where no line contains it
pub record GivesMatch (needle : List ℕ) (before : Lines) (given : Option Line) (after : Lines) : Type 0 where
  pub first : MatchOption given (matches_left needle before ≡ []) (λ line. matches_left needle before ≡ span_of line ∷ matches_left needle after)
  pub placed : IfSome given (IsLineOf (source_of before))
  pub same_source : source_of after ≡ source_of before
  pub fewer : IfSome given (λ line. length (lines_left after) < length (lines_left before))
