-- Which answer is right for a kernel and a part.
use Rattle.std.specs.Prelude.{◌≡◌, ℕ, List, [], ◌∷◌, All, map, None, MatchOption}
use Rattle.input_lines.specs.Lines.{Range, Span}
use Rattle.input_lines.specs.Part.{span_of, buffer_of, range_of, IsLineOf}
use Rattle.input_lines.specs.declared.line.Line.{Line}
use Rattle.input_lines.specs.declared.part.Part.{Part}
use Rattle.input_lines.specs.Kernels.{found_in, head_of, longest_in, needed_in, count_in}
use Rattle.input_lines.specs.declared.kernel.Kernel.{Kernel}
use Rattle.input_lines.specs.declared.kernel.Kernel.TheVariants.{Find, Head, Longest, Need, Count}
use Rattle.input_lines.specs.declared.answers.Answer.{Answer}
use Rattle.input_lines.specs.declared.answers.Answer.TheVariants.{Lines, Missing}
use Rattle.input_lines.specs.declared.answers.Answer.TheVariants as answers

-- the lines at these places, each with the bytes of the buffer at its place
pub record AreLinesAt (buffer : List ℕ) (spans : List Span) (lines : List Line) : Type 0 where
  pub places : map span_of lines ≡ spans
  pub texts : All (IsLineOf buffer) lines

-- the answer of a kernel on a range of a buffer
abbrev pub IsAnswerOn : Kernel → List ℕ → Range → Answer → Type 0
IsAnswerOn (Find needle) buffer range (Lines lines) = AreLinesAt buffer (found_in buffer needle.now range) lines
IsAnswerOn (Head count) buffer range (Lines lines) = AreLinesAt buffer (head_of buffer count range) lines
IsAnswerOn Longest buffer range (Lines lines) = AreLinesAt buffer (longest_in buffer range) lines
IsAnswerOn (Need needle) buffer range (Lines lines) = MatchOption (needed_in buffer needle.now range) ⊥ (λ l. AreLinesAt buffer (l ∷ []) lines)
IsAnswerOn (Need needle) buffer range Missing = needed_in buffer needle.now range ≡ None
IsAnswerOn Count buffer range (answers.Count lines) = lines ≡ count_in buffer range
IsAnswerOn _ buffer range _ = ⊥

-- the answer of a kernel on a part
abbrev pub IsAnswer : Kernel → Part → Answer → Type 0
IsAnswer kernel part answer = IsAnswerOn kernel (buffer_of part) (range_of part) answer
