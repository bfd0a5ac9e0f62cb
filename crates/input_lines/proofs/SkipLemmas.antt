-- From the lines that are left to the line at a place.
use Rattle.std.proofs.Common.{◌≡◌, ◌≢◌, ◌⊎◌, ℕ, suc, ◌+◌, ◌-◌, ◌<◌, ◌≤◌, true, false, eqb, List, [], ◌∷◌, ◌++◌, length, get_or, slice_range, Option, Some, None, refl, sym, ap, subst, ◌∙◌, inl, inr, ⊎_elim, arith}
use Rattle.std.specs.Prelude.{IsSome}
use Rattle.std.proofs.lemmas.Bool.{eq-eqb, eqb-true, cases_Bool, cases_lt}
use Rattle.memchr.specs.Find.{IsLastByte, is_byte}
use Rattle.input_lines.specs.Lines.{Span, lines_from, begun_at, lines_of}
use Rattle.input_lines.specs.Part.{GivesLine, SkipsTo, GoesToLine, IsLineOf, span_of, lines_left, source_of, range_left}
use Rattle.input_lines.specs.declared.line.Line.{Line}
use Rattle.input_lines.specs.declared.line.Lines.{Lines}
use Rattle.input_lines.proofs.RangeLemmas.{length-slice_range, get_or-slice_range}
use Rattle.input_lines.proofs.LineLemmas.{range, lines_of-none}
use Rattle.input_lines.proofs.SearchLemmas.{starts_line-newline}
use Rattle.input_lines.proofs.JoinLemmas.{lines_of-split, lines_from-some}

-- a line is the first of these bytes, which are at this place
pub record IsFirstLine (at : ℕ) (xs : List ℕ) (l : Span) : Type 0 where
  pub place : l.at ≡ at
  pub within : l.len ≤ length xs
  pub ends : (l.len ≡ length xs) ⊎ (get_or xs l.len 0 ≡ 10)

abbrev pub BeginsWithFirst : ℕ → List ℕ → List Span → Type 0
BeginsWithFirst at xs [] = length xs ≡ 0
BeginsWithFirst at xs (l ∷ ls) = IsFirstLine at xs l

begun-first : (at b : ℕ) (bs : List ℕ) (ls : List Span) → BeginsWithFirst (at + 1) bs ls → BeginsWithFirst at (b ∷ bs) (begun_at at ls)
begun-first at b bs [] none = record { place = refl; within = omega arith; ends = inl (omega arith) }
begun-first at b bs (l ∷ ls) first =
    let within = first.within in
    let more : l.len + 1 ≡ suc l.len = omega arith in
    record {
      place = refl;
      within = omega arith;
      ends = ⊎_elim (λ (all : l.len ≡ length bs). inl (omega arith)) (λ here. inr (ap (λ n. get_or (b ∷ bs) n 0) more ∙ here)) first.ends;
    }

-- the lines of some bytes begin with their first line, and only where there are no bytes is there none
pub lines_from-first : (at : ℕ) (xs : List ℕ) → BeginsWithFirst at xs (lines_from at xs)
lines_from-first at [] = refl
lines_from-first at (b ∷ bs) =
    ⊎_elim
    (λ (yes_is : eqb b 10 ≡ true). rw yes_is (record { place = refl; within = omega arith; ends = inr (eqb-true b 10 yes_is) }))
    (λ (no_is : eqb b 10 ≡ false). rw no_is (begun-first at b bs (lines_from (at + 1) bs) (lines_from-first (at + 1) bs)))
    (cases_Bool (eqb b 10))

some_lines : (at : ℕ) (xs : List ℕ) → 0 < length xs → 0 < length (lines_from at xs)
some_lines at [] some = absurd (omega arith)
some_lines at (b ∷ bs) some = lines_from-some at b bs

-- a range with bytes has a line
pub lines_of-some : (buffer : List ℕ) (from to : ℕ) → from < to → to ≤ length buffer → 0 < length (lines_of buffer (range from to))
lines_of-some buffer from to some within =
    some_lines from (slice_range buffer from to) (omega (arith, length-slice_range buffer from to within))

-- where lines are left a call returns one
pub GivesLine-some : (before after : Lines) (given : Option Line) → 0 < length (lines_left before) → GivesLine before given after →
    IsSome given
GivesLine-some before after None some gives = absurd (omega (arith, ap length gives.first.0))
GivesLine-some before after (Some line) some gives = refl

-- the last newline before a place ends the lines that are skipped
pub skipped-newline : (buffer : List ℕ) (next end place k start : ℕ) → start ≡ next + (k + 1) → next + place < end → end ≤ length buffer →
    IsLastByte (is_byte 10) (slice_range buffer next (next + place)) (Some k)
    → (start ≤ next + place) × (lines_of buffer (range next end) ≡ lines_of buffer (range next start) ++ lines_of buffer (range start end))
    × ((p : ℕ) → start ≤ p → p < next + place → get_or buffer p 0 ≢ 10)
skipped-newline buffer next end place k start is below within found =
    let bytes = slice_range buffer next (next + place) in
    let high : k < length bytes = found.0.high in
    let long : length bytes ≡ next + place - next = length-slice_range buffer next (next + place) (omega arith) in
    let here : get_or bytes k 0 ≡ 10 = eqb-true _ _ found.1 in
    let at : next + k ≡ start - 1 = omega arith in
    let newline : get_or buffer (start - 1) 0 ≡ 10 = sym (ap (λ n. get_or buffer n 0) at)
    ∙ sym (get_or-slice_range buffer next (next + place) k (omega arith)) ∙ here in (
      omega arith,
      lines_of-split buffer next start end (omega arith) (omega arith) within (inr (starts_line-newline buffer start newline)),
      λ p from to other.
          let back : next + (p - next) ≡ p = omega arith in
          found.0.after (p - next) (omega arith) (omega arith) (eq-eqb _ _
          (get_or-slice_range buffer next (next + place) (p - next) (omega arith) ∙ ap (λ n. get_or buffer n 0) back ∙ other)),
    )

-- with no newline before the place nothing is skipped
pub skipped-none : (buffer : List ℕ) (next end place : ℕ) → next + place < end → end ≤ length buffer →
    IsLastByte (is_byte 10) (slice_range buffer next (next + place)) None
    → (lines_of buffer (range next end) ≡ lines_of buffer (range next next) ++ lines_of buffer (range next end))
    × ((p : ℕ) → next ≤ p → p < next + place → get_or buffer p 0 ≢ 10)
skipped-none buffer next end place below within missed =
    let long : length (slice_range buffer next (next + place)) ≡ next + place - next =
    length-slice_range buffer next (next + place) (omega arith) in (
      sym (ap (λ ls. ls ++ lines_of buffer (range next end)) (lines_of-none buffer next)),
      λ p from to other.
          let back : next + (p - next) ≡ p = omega arith in
          missed (p - next) (omega arith) (omega arith) (eq-eqb _ _ (get_or-slice_range buffer next (next + place) (p - next) (omega arith)
          ∙ ap (λ n. get_or buffer n 0) back ∙ other)),
    )

-- the line that a call returns after what was skipped
pub goes_to_line : (s t u : Lines) (place : ℕ) (line : Line) → (range_left s).from + place < (range_left s).to → SkipsTo s place t →
    GivesLine t (Some line) u → GoesToLine s place line u
goes_to_line s t u place line below skips gives =
    let b = source_of s in
    let from = (range_left t).from in
    let to = (range_left t).to in
    let l = span_of line in
    let bytes = slice_range (source_of t) from to in
    let first : IsFirstLine from bytes l = subst (BeginsWithFirst from bytes) gives.first (lines_from-first from bytes) in
    let long : length bytes ≡ to - from = length-slice_range (source_of t) from to t.within in
    let at : l.at ≡ from = first.place in
    let within = first.within in
    let starts = skips.starts in
    let same_end = skips.same_end in
    let ordered = t.ordered in
    let ends : (l.at + l.len ≡ (range_left s).to) ⊎ (get_or b (l.at + l.len) 0 ≡ 10) =
    ⊎_elim (λ (all : l.len ≡ length bytes). inl (omega arith))
    (λ (here : get_or bytes l.len 0 ≡ 10).
    ⊎_elim
    (λ (less : l.len < length bytes).
    let sum : from + l.len ≡ l.at + l.len = omega arith in
    inr (sym (get_or-slice_range (source_of t) from to l.len (omega arith) ∙ ap (λ n. get_or (source_of t) n 0) sum
    ∙ ap (λ bs. get_or bs (l.at + l.len) 0) skips.same_source) ∙ here))
    (λ (over : length bytes ≤ l.len). inl (omega arith))
    (cases_lt l.len (length bytes)))
    first.ends in
    record {
      passed = skips.passed ∙ ap (λ ls. lines_of b (range (range_left s).from from) ++ ls) gives.first
          ∙ ap (λ n. lines_of b (range (range_left s).from n) ++ (l ∷ lines_left u)) (sym at);
      later = let later = skips.later in omega arith;
      starts = omega arith;
      holds = ⊎_elim (λ (at_end : l.at + l.len ≡ (range_left s).to). omega arith)
          (λ (here : get_or b (l.at + l.len) 0 ≡ 10).
          ⊎_elim (λ (less : l.at + l.len < (range_left s).from + place). absurd (skips.one_line (l.at + l.len) (omega arith) less here))
          (λ le. le) (cases_lt (l.at + l.len) ((range_left s).from + place)))
          ends;
      within = omega arith;
      ends = ends;
      placed = subst (λ x. IsLineOf x line) skips.same_source gives.placed;
      same_source = gives.same_source ∙ skips.same_source;
      same_end = gives.same_end ∙ skips.same_end;
    }
