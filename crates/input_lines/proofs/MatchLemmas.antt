-- The next line that contains a string, and the lines that are found one after the other.
use Rattle.std.proofs.Common.{◌≡◌, ◌≢◌, ℕ, ◌+◌, ◌<◌, ◌≤◌, List, [], ◌∷◌, ◌++◌, map, filter, length, get_or, All, Option, Some, None, refl, sym, ap, ◌∙◌, subst, arith, length-append}
use Rattle.std.specs.Prelude.{MatchOption}
use Rattle.std.proofs.lemmas.List.Elements.{All-nil, All-push, All-same}
use Rattle.memchr.specs.Find.{FindsNeedle}
use Rattle.input_lines.specs.Lines.{Range, Span, bytes_of, lines_of}
use Rattle.input_lines.specs.Part.{span_of, source_of, range_left, lines_left, IsLineOf, GoesToLine}
use Rattle.input_lines.specs.declared.line.Line.{Line}
use Rattle.input_lines.specs.declared.line.Lines.{Lines}
use Rattle.input_lines.specs.Kernels.{found_in, needed_in}
use Rattle.input_lines.specs.Answers.{AreLinesAt}
use Rattle.input_lines.specs.Matches.{matches_left, GivesMatch}
use Rattle.input_lines.proofs.FindLemmas.{stands_in, shown_more, append-nil, find-none, find-first}
use Rattle.input_lines.proofs.KernelSearches.{found-next, missed-none}

-- ---- one step

-- the lines that were skipped so far do not contain the string
pub record Skipped (needle : List ℕ) (start now : Lines) : Type 0 where
  pub source : source_of now ≡ source_of start
  pub same : matches_left needle start ≡ matches_left needle now
  pub fewer : length (lines_left now) ≤ length (lines_left start)

pub skipped_none : (needle : List ℕ) (start : Lines) → Skipped needle start start
skipped_none needle start = record { source = refl; same = refl; fewer = omega arith }

-- the matches after a step, as lines of the buffer before it
same_matches : (needle : List ℕ) (before after : Lines) → source_of after ≡ source_of before →
    filter (stands_in (source_of before) needle) (lines_left after) ≡ matches_left needle after
same_matches needle before after same = ap (λ (b : List ℕ). filter (stands_in b needle) (lines_left after)) (sym same)

-- a search through the lines left finds the next one
pub search_match : (needle : List ℕ) (before after : Lines) (place : ℕ) (line : Line) → 0 < length needle →
    ((j : ℕ) → j < length needle → get_or needle j 0 ≢ 10)
    → FindsNeedle (bytes_of (source_of before) (range_left before)) needle 0 (Some place) → GoesToLine before place line after
    → GivesMatch needle before (Some line) after
search_match needle before after place line some no_newline found goes =
    let passed = lines_of (source_of before) (record { from = (range_left before).from; to = (span_of line).at }) in
    let long : length (lines_left before) ≡ length passed + length (span_of line ∷ lines_left after) =
    ap length goes.passed ∙ length-append passed (span_of line ∷ lines_left after) in
    record {
      first = found-next before after needle place line some no_newline found goes
          ∙ ap (λ (ls : List Span). span_of line ∷ ls) (same_matches needle before after goes.same_source);
      placed = goes.placed;
      same_source = goes.same_source;
      fewer = omega arith;
    }

-- it finds nothing
pub search_none : (needle : List ℕ) (before : Lines) → 0 < length needle →
    FindsNeedle (bytes_of (source_of before) (range_left before)) needle 0 None → GivesMatch needle before None before
search_none needle before some missed =
    record { first = missed-none before needle some missed; placed = tt; same_source = refl; fewer = tt }

-- ---- all of them, one after the other

-- the lines found so far, and those left that contain the string, are all of them
pub record FoundSoFar (buffer needle : List ℕ) (all : List Span) (lines : List Line) (left : Lines) : Type 0 where
  pub source : source_of left ≡ buffer
  pub found : all ≡ map span_of lines ++ matches_left needle left
  pub texts : All (IsLineOf buffer) lines

-- the matches among all lines of a range
matches_of : (buffer needle : List ℕ) (r : Range) (left : Lines) → source_of left ≡ buffer → lines_left left ≡ lines_of buffer r →
    matches_left needle left ≡ found_in buffer needle r
matches_of buffer needle r left source lines =
    ap (λ (b : List ℕ). filter (stands_in b needle) (lines_left left)) source ∙ ap (filter (stands_in buffer needle)) lines

pub found_none_yet : (buffer needle : List ℕ) (r : Range) (lines : List Line) (left : Lines) → lines ≡ [] → source_of left ≡ buffer →
    lines_left left ≡ lines_of buffer r → FoundSoFar buffer needle (found_in buffer needle r) lines left
found_none_yet buffer needle r lines left none source lines_are =
    subst (λ (found : List Line). FoundSoFar buffer needle (found_in buffer needle r) found left) (sym none)
    (record { source = source; found = sym (matches_of buffer needle r left source lines_are); texts = All-nil (IsLineOf buffer) })

pub found_more : (buffer needle : List ℕ) (all : List Span) (lines new : List Line) (line : Line) (left after : Lines) →
    FoundSoFar buffer needle all lines left → GivesMatch needle left (Some line) after → new ≡ lines ++ line ∷ [] →
    FoundSoFar buffer needle all new after
found_more buffer needle all lines new line left after so_far gives pushed =
    let placed : IsLineOf buffer line = subst (λ (b : List ℕ). IsLineOf b line) so_far.source gives.placed in
    record {
      source = gives.same_source ∙ so_far.source;
      found = so_far.found ∙ ap (λ (ls : List Span). map span_of lines ++ ls) gives.first ∙ shown_more lines line (matches_left needle after)
          ∙ ap (λ (ls : List Line). map span_of ls ++ matches_left needle after) (sym pushed);
      texts = All-same (IsLineOf buffer) _ _ pushed (All-push (IsLineOf buffer) lines line so_far.texts placed);
    }

pub found_all : (buffer needle : List ℕ) (all : List Span) (lines result : List Line) (left after : Lines) →
    FoundSoFar buffer needle all lines left → GivesMatch needle left None after → result ≡ lines → AreLinesAt buffer all result
found_all buffer needle all lines result left after so_far gives same =
    record {
      places = ap (map span_of) same
          ∙ sym (so_far.found ∙ ap (λ (ls : List Span). map span_of lines ++ ls) gives.first ∙ append-nil (map span_of lines));
      texts = All-same (IsLineOf buffer) _ _ same so_far.texts;
    }

-- ---- the first of them

pub needed_match : (buffer needle : List ℕ) (r : Range) (left after : Lines) (given : Option Line) → source_of left ≡ buffer →
    lines_left left ≡ lines_of buffer r → GivesMatch needle left given after →
    MatchOption given (needed_in buffer needle r ≡ None) (λ line. needed_in buffer needle r ≡ Some (span_of line))
needed_match buffer needle r left after None source lines gives =
    find-none (stands_in buffer needle) (lines_of buffer r) (sym (matches_of buffer needle r left source lines) ∙ gives.first)
needed_match buffer needle r left after (Some line) source lines gives =
    find-first (stands_in buffer needle) (lines_of buffer r) (span_of line) (matches_left needle after)
    (sym (matches_of buffer needle r left source lines) ∙ gives.first)
