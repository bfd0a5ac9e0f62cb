-- What contracts see of a part, of a line and of the iterator over lines.
use Rattle.std.specs.Prelude.{◌≡◌, ◌≢◌, ◌⊎◌, ◌<◌, ◌≤◌, ◌+◌, ℕ, List, [], ◌∷◌, ◌++◌, Option, length, slice_index, IfSome, MatchOption}
use Rattle.input_lines.specs.Lines.{Range, Span, text_of, lines_of, from_longer}
use Rattle.input_lines.specs.declared.part.Part.{Part}
use Rattle.input_lines.specs.declared.line.Line.{Line}
use Rattle.input_lines.specs.declared.line.Lines.{Lines}

-- the bytes of the buffer that a part is a range of
abbrev pub buffer_of : Part → List ℕ
buffer_of part = part.buffer.now

-- the places of a part
abbrev pub range_of : Part → Range
range_of part = record { from = part.start; to = part.end }

-- a line's place and length
abbrev pub span_of : Line → Span
span_of line = record { at = line.start; len = length line.bytes.now }

-- a line's bytes
abbrev pub line_text : Line → List ℕ
line_text line = line.bytes.now

-- the line's bytes are those of the buffer at its place, and the line lies inside the buffer
pub record IsLineOf (buffer : List ℕ) (line : Line) : Type 0 where
  pub within : (span_of line).at + (span_of line).len ≤ length buffer
  pub text : line_text line ≡ text_of buffer (span_of line)

-- the bytes that the lines come from
abbrev pub source_of : Lines → List ℕ
source_of lines = lines.buffer.now

-- the places that are still to come
abbrev pub range_left : Lines → Range
range_left lines = record { from = lines.next; to = lines.end }

-- the lines that are still to come
abbrev pub lines_left : Lines → List Span
lines_left lines = lines_of (source_of lines) (range_left lines)

-- one call returned the first of the lines that were left, with its bytes in the buffer, or `None` where none was left
pub record GivesLine (before : Lines) (given : Option Line) (after : Lines) : Type 0 where
  pub first : MatchOption given ((lines_left before ≡ []) × (lines_left after ≡ []))
      (λ line. lines_left before ≡ span_of line ∷ lines_left after)
  pub placed : IfSome given (IsLineOf (source_of before))
  pub same_source : source_of after ≡ source_of before
  pub same_end : (range_left after).to ≡ (range_left before).to

-- one call returned the first of the lines left that has more than the given number of bytes, and skipped those before it,
-- or returned `None` where there is no such line
pub record GivesLonger (before : Lines) (len : ℕ) (given : Option Line) (after : Lines) : Type 0 where
  pub first : MatchOption given ((from_longer len (lines_left before) ≡ []) × (lines_left after ≡ []))
      (λ line. from_longer len (lines_left before) ≡ span_of line ∷ lines_left after)
  pub placed : IfSome given (IsLineOf (source_of before))
  pub same_source : source_of after ≡ source_of before
  pub same_end : (range_left after).to ≡ (range_left before).to

-- the lines before the one at a place of the bytes that were left, counted from their start, were skipped
pub record SkipsTo (before : Lines) (place : ℕ) (after : Lines) : Type 0 where
  pub passed : lines_left before ≡ lines_of (source_of before) (record { from = (range_left before).from; to = (range_left after).from })
      ++ lines_left after
  pub later : (range_left before).from ≤ (range_left after).from
  pub starts : (range_left after).from ≤ (range_left before).from + place
  pub one_line : (p : ℕ) → (range_left after).from ≤ p → p < (range_left before).from + place → slice_index (source_of before) p ≢ 10
  pub same_source : source_of after ≡ source_of before
  pub same_end : (range_left after).to ≡ (range_left before).to

-- A call returned the line that contains the byte at a place of the bytes that were left, counted from their start, or
-- whose newline that byte is. The lines before it were skipped.
pub record GoesToLine (before : Lines) (place : ℕ) (line : Line) (after : Lines) : Type 0 where
  pub passed : lines_left before ≡ lines_of (source_of before) (record { from = (range_left before).from; to = (span_of line).at })
      ++ span_of line ∷ lines_left after
  pub later : (range_left before).from ≤ (span_of line).at
  pub starts : (span_of line).at ≤ (range_left before).from + place
  pub holds : (range_left before).from + place ≤ (span_of line).at + (span_of line).len
  pub within : (span_of line).at + (span_of line).len ≤ (range_left before).to
  pub ends : ((span_of line).at + (span_of line).len ≡ (range_left before).to)
      ⊎ (slice_index (source_of before) ((span_of line).at + (span_of line).len) ≡ 10)
  pub placed : IsLineOf (source_of before) line
  pub same_source : source_of after ≡ source_of before
  pub same_end : (range_left after).to ≡ (range_left before).to
