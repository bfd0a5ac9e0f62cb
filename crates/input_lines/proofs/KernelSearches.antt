-- One search through the lines that are left finds the lines that contain a string.
use Rattle.std.proofs.Common.{◌≡◌, ◌≢◌, ℕ, ◌+◌, ◌-◌, ◌<◌, ◌≤◌, Bool, true, false, eqb, List, [], ◌∷◌, ◌++◌, length, get_or, slice_range, filter, All, Some, None, refl, sym, ap, subst, ◌∙◌, ⊎_elim, arith}
use Rattle.std.proofs.lemmas.Bool.{cases_Bool, cases_lt}
use Rattle.std.proofs.lemmas.List.Elements.{All-nil, All-cons, All-head, All-tail, All-weaker, filter-append}
use Rattle.memchr.specs.Find.{OccursAt, FindsNeedle}
use Rattle.input_lines.specs.Lines.{Span, bytes_of, text_of, lines_from, begun_at, lines_of}
use Rattle.input_lines.specs.Part.{GoesToLine, span_of, lines_left, source_of, range_left}
use Rattle.input_lines.specs.declared.line.Line.{Line}
use Rattle.input_lines.specs.declared.line.Lines.{Lines}
use Rattle.input_lines.proofs.RangeLemmas.{length-slice_range, get_or-slice_range}
use Rattle.input_lines.proofs.LineLemmas.{span, range}
use Rattle.input_lines.proofs.ContainsLemmas.{contains-occurs, contains-nowhere}
use Rattle.input_lines.proofs.FindLemmas.{stands_in, filter-passed, filter-dropped}

-- a line lies between two places
abbrev pub LiesIn : ℕ → ℕ → Span → Type 0
LiesIn from to l = (from ≤ l.at) × (l.at + l.len ≤ to)

begun-lies : (at count : ℕ) (ls : List Span) → All (LiesIn (at + 1) (at + 1 + count)) ls → All (LiesIn at (at + 1 + count)) (begun_at at ls)
begun-lies at count [] lie = All-cons (LiesIn at (at + 1 + count)) (span at 1) [] (omega arith, omega arith)
    (All-nil (LiesIn at (at + 1 + count)))
begun-lies at count (l ∷ ls) lie =
    let head = All-head (LiesIn (at + 1) (at + 1 + count)) l ls lie in
    let low = head.0 in
    let high = head.1 in
    All-cons (LiesIn at (at + 1 + count)) (span at (l.len + 1)) ls (omega arith, omega arith)
    (All-weaker (LiesIn (at + 1) (at + 1 + count)) (LiesIn at (at + 1 + count)) (λ m lies. let low = lies.0 in (omega arith, lies.1)) ls
    (All-tail (LiesIn (at + 1) (at + 1 + count)) l ls lie))

-- the lines of bytes lie where the bytes are
pub lines_from-lie : (at : ℕ) (xs : List ℕ) → All (LiesIn at (at + length xs)) (lines_from at xs)
lines_from-lie at [] = All-nil (LiesIn at (at + 0))
lines_from-lie at (b ∷ bs) =
    let rest = lines_from-lie (at + 1) bs in
    let sum : at + 1 + length bs ≡ at + length (b ∷ bs) = omega arith in
    subst (λ (to : ℕ). All (LiesIn at to) (lines_from at (b ∷ bs))) sum
    (⊎_elim
    (λ (yes_is : eqb b 10 ≡ true). rw yes_is
    (All-cons (LiesIn at (at + 1 + length bs)) (span at 0) (lines_from (at + 1) bs) (omega arith, omega arith)
    (All-weaker (LiesIn (at + 1) (at + 1 + length bs)) (LiesIn at (at + 1 + length bs))
    (λ m lies. let low = lies.0 in (omega arith, lies.1)) (lines_from (at + 1) bs) rest)))
    (λ (no_is : eqb b 10 ≡ false). rw no_is (begun-lies at (length bs) (lines_from (at + 1) bs) rest))
    (cases_Bool (eqb b 10)))

-- the lines of a range lie in the range
pub lines_of-lie : (buffer : List ℕ) (from to : ℕ) → from ≤ to → to ≤ length buffer → All (LiesIn from to) (lines_of buffer (range from to))
lines_of-lie buffer from to ordered within =
    let sum : from + length (slice_range buffer from to) ≡ to = omega (arith, length-slice_range buffer from to within) in
    subst (λ (end : ℕ). All (LiesIn from end) (lines_of buffer (range from to))) sum (lines_from-lie from (slice_range buffer from to))

-- where no line passes the test, none is kept
pub filter-none : (p : Span → Bool) (ls : List Span) → All (λ l. p l ≡ false) ls → filter p ls ≡ []
filter-none p [] none = refl
filter-none p (l ∷ ls) none =
    filter-dropped p l ls (All-head (λ m. p m ≡ false) l ls none) ∙ filter-none p ls (All-tail (λ m. p m ≡ false) l ls none)

-- the bytes of a string are at a place
abbrev pub StandsAt : List ℕ → List ℕ → ℕ → Type 0
StandsAt buffer needle p = (j : ℕ) → j < length needle → get_or buffer (p + j) 0 ≡ get_or needle j 0

occurs-stands : (buffer needle : List ℕ) (a c k : ℕ) → c ≤ length buffer → 0 < length needle → OccursAt (slice_range buffer a c) needle k →
    (a + k + length needle ≤ c) × StandsAt buffer needle (a + k)
occurs-stands buffer needle a c k within some occurs =
    let fits = occurs.fits in
    let long = length-slice_range buffer a c within in (
      omega arith,
      λ j less.
          let sum : a + (k + j) ≡ a + k + j = omega arith in
          sym (ap (λ n. get_or buffer n 0) sum) ∙ sym (get_or-slice_range buffer a c (k + j) (omega arith)) ∙ occurs.reads j less,
    )

stands-occurs : (buffer needle : List ℕ) (a c p : ℕ) → c ≤ length buffer → a ≤ p → p + length needle ≤ c → StandsAt buffer needle p →
    OccursAt (slice_range buffer a c) needle (p - a)
stands-occurs buffer needle a c p within low high stands =
    let long = length-slice_range buffer a c within in
    record {
      fits = omega arith;
      reads = λ j less.
          let sum : a + (p - a + j) ≡ p + j = omega arith in
          get_or-slice_range buffer a c (p - a + j) (omega arith) ∙ ap (λ n. get_or buffer n 0) sum ∙ stands j less;
    }

-- no line of a range contains a string that does not occur in it
none_stand : (buffer needle : List ℕ) (from to : ℕ) → from ≤ to → to ≤ length buffer → 0 < length needle →
    ((p : ℕ) → from ≤ p → p + length needle ≤ to → StandsAt buffer needle p → ⊥) →
    filter (stands_in buffer needle) (lines_of buffer (range from to)) ≡ []
none_stand buffer needle from to ordered within some nowhere =
    filter-none (stands_in buffer needle) (lines_of buffer (range from to))
    (All-weaker (LiesIn from to) (λ l. stands_in buffer needle l ≡ false)
    (λ l lies.
    let low = lies.0 in
    let high = lies.1 in
    contains-nowhere needle (text_of buffer l) (λ k occurs.
    let stands = occurs-stands buffer needle l.at (l.at + l.len) k (omega arith) some occurs in
    let fits = stands.0 in
    nowhere (l.at + k) (omega arith) (omega arith) stands.1))
    (lines_of buffer (range from to)) (lines_of-lie buffer from to ordered within))

-- where a search fails no line is found
pub missed-none : (lines : Lines) (needle : List ℕ) → 0 < length needle →
    FindsNeedle (bytes_of (source_of lines) (range_left lines)) needle 0 None →
    filter (stands_in (source_of lines) needle) (lines_left lines) ≡ []
missed-none lines needle some missed =
    let b = source_of lines in
    let from = (range_left lines).from in
    let to = (range_left lines).to in
    let long = length-slice_range b from to lines.within in
    none_stand b needle from to lines.ordered lines.within some
    (λ p low high stands. missed (p - from) (omega arith) (omega arith) (stands-occurs b needle from to p lines.within low high stands))

-- where a search succeeds, the next line that is found is the one at that place
pub found-next : (before after : Lines) (needle : List ℕ) (place : ℕ) (line : Line) → 0 < length needle →
    ((j : ℕ) → j < length needle → get_or needle j 0 ≢ 10)
    → FindsNeedle (bytes_of (source_of before) (range_left before)) needle 0 (Some place) → GoesToLine before place line after
    → filter (stands_in (source_of before) needle) (lines_left before) ≡ span_of line
    ∷ filter (stands_in (source_of before) needle) (lines_left after)
found-next before after needle place line some no_newline found goes =
    let b = source_of before in
    let from = (range_left before).from in
    let to = (range_left before).to in
    let l = span_of line in
    let long = length-slice_range b from to before.within in
    let later = goes.later in
    let starts = goes.starts in
    let holds = goes.holds in
    let within = goes.within in
    let inside = before.within in
    let here = occurs-stands b needle from to place before.within some found.1 in
    let fits = here.0 in
    let earlier : filter (stands_in b needle) (lines_of b (range from l.at)) ≡ [] =
    none_stand b needle from l.at later (omega arith) some
    (λ p low high stands. found.0.before (p - from) (omega arith) (omega arith)
    (stands-occurs b needle from to p before.within low (omega arith) stands)) in
    let reaches : from + place + length needle ≤ l.at + l.len =
    ⊎_elim (λ (at_end : l.at + l.len ≡ to). omega arith)
    (λ (newline : get_or b (l.at + l.len) 0 ≡ 10).
    ⊎_elim
    (λ (less : l.at + l.len < from + place + length needle).
    let j = l.at + l.len - (from + place) in
    let sum : from + place + j ≡ l.at + l.len = omega arith in
    absurd (no_newline j (omega arith) (sym (here.1 j (omega arith)) ∙ ap (λ n. get_or b n 0) sum ∙ newline)))
    (λ (le : from + place + length needle ≤ l.at + l.len). le)
    (cases_lt (l.at + l.len) (from + place + length needle)))
    goes.ends in
    let shown : stands_in b needle l ≡ true =
    contains-occurs needle (text_of b l) (from + place - l.at) (stands-occurs b needle l.at (l.at + l.len) (from + place) (omega arith)
    starts reaches here.1) in
    ap (filter (stands_in b needle)) goes.passed ∙ filter-append (stands_in b needle) (lines_of b (range from l.at)) (l ∷ lines_left after)
    ∙ ap (λ ls. ls ++ filter (stands_in b needle) (l ∷ lines_left after)) earlier
    ∙ filter-passed (stands_in b needle) l (lines_left after) shown
