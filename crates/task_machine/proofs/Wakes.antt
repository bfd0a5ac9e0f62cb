-- What wakes a task.
use Rattle.std.proofs.lemmas.List.{length-take, length-drop}
use Rattle.std.proofs.Common.{◌≡◌, ◌≤◌, ℕ, zero, suc, ◌+◌, ◌-◌, ◌/◌, Option, Some, None, List, [], ◌∷◌, map, length, refl, ap, sym, arith}
use Rattle.std.specs.Prelude.{MatchOption, slice_range, drop, min}
use Rattle.std.specs.Option.{IsSomeAnd}
use Rattle.input_lines.specs.declared.line.Line.{Line}
use Rattle.exceptions.specs.Exceptions.{Exc}
use Rattle.nursery_book.specs.Nursery.{Nursery, raised_by}
use Rattle.job_meaning.specs.Walk.{pace_ticks}
use Rattle.task_machine.specs.Waking.{raised_in}
use Rattle.input_lines.specs.Lines.{Range, Span, bytes_of}
use Rattle.input_lines.specs.Part.{span_of}
use Rattle.task_machine.specs.Frames.{Lent}
use Rattle.input_lines.proofs.JoinLemmas.{length-lines_from}
use Rattle.job_meaning.specs.declared.limits.TheConstants.{MAX_INPUT}
use Rattle.input_lines.specs.Answers.{AreLinesAt, IsAnswerOn}
use Rattle.input_lines.specs.Kernels.{needed_in, count_in}
use Rattle.input_lines.specs.declared.answers.Answer.TheVariants as answers
use Rattle.input_lines.specs.declared.kernel.Kernel.{Kernel}
use Rattle.input_lines.specs.declared.kernel.Kernel.TheVariants.{Find, Head, Longest, Need, Count}

-- a part has no more lines than bytes
count_le : (input : List ℕ) (r : Range) → count_in input r ≤ length (bytes_of input r)
count_le input r = length-lines_from r.from (bytes_of input r)

-- a range of an input has no more bytes than the input
bytes_few : (input : List ℕ) (from to : ℕ) → length (slice_range input from to) ≤ length input
bytes_few input from to =
    let e = length-take (to - from) (drop from input) in let f = length-drop from input in
    let g : min (to - from) (length (drop from input)) ≤ length (drop from input) = omega arith in
    let h : length (slice_range input from to) ≡ min (to - from) (length (drop from input)) = e in omega (arith, h, f, g)

-- a count of the lines of a part of an input that is not too long is no greater than the longest input
pub count_few : (kernel : Kernel) (lent : Lent) (n : ℕ) → length lent.input ≤ MAX_INPUT →
    IsAnswerOn kernel lent.input lent.range (answers.Count n) → n ≤ MAX_INPUT
count_few (Find needle) lent n small a = absurd a
count_few (Head count) lent n small a = absurd a
count_few Longest lent n small a = absurd a
count_few (Need needle) lent n small a = absurd a
count_few Count lent n small a =
    omega (arith, small, a, count_le lent.input lent.range, bytes_few lent.input lent.range.from lent.range.to)

-- what a nursery's members raised, by what closing it gave
pub raised_is : (o : Option Nursery) (e : Option Exc) → IsSomeAnd o (λ n. e ≡ raised_by n) → raised_in o ≡ e
raised_is None e h = absurd h
raised_is (Some n) e h = sym h

-- lines that a kernel answered are where they say
pub lines_at : (kernel : Kernel) (lent : Lent) (lines : List Line) → IsAnswerOn kernel lent.input lent.range (answers.Lines lines) →
    AreLinesAt lent.input (map span_of lines) lines
lines_at (Find needle) lent lines a = record { places = refl; texts = a.texts }
lines_at (Head count) lent lines a = record { places = refl; texts = a.texts }
lines_at Longest lent lines a = record { places = refl; texts = a.texts }
lines_at (Need needle) lent lines a = by_line (needed_in lent.input needle.now lent.range) a
  where
    by_line : (o : Option Span) → MatchOption o ⊥ (λ l. AreLinesAt lent.input (l ∷ []) lines) →
        AreLinesAt lent.input (map span_of lines) lines
    by_line None a = absurd a
    by_line (Some l) a = record { places = refl; texts = a.texts }
lines_at Count lent lines a = absurd a

-- how long a `pace` sleeps: the count divided by the lines of a tick, rounded up
pub paced_is : (n k : ℕ) → 1 ≤ k → (n + (k - 1)) / k ≡ pace_ticks n k
paced_is n zero le = absurd (omega (arith, le))
paced_is n (suc j) le = (let e : suc j - 1 ≡ j = omega arith in ap (λ (x : ℕ). (n + x) / suc j) e)
