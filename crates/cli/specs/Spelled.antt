-- What the words of `sweep` spell: a span of values, and the number that takes them.
use Rattle.std.specs.Prelude.{ℕ, ◌-◌, ◌/◌, Bool, true, false, ◌&&◌, nat_le, nat_lt, Option, Some, None, List, codes}
use Rattle.job_tree.specs.Words.{is_word}
use Rattle.job_edits.specs.declared.number.Target.{Target}
use Rattle.job_edits.specs.declared.number.Target.TheVariants.{NumberOf, At}
use Rattle.cli.specs.Cuts.{cut_at, number_in}
use Rattle.cli.specs.Values.{values_in}
use Rattle.cli.specs.declared.sweeping.Span.{Span}

-- the span of these numbers, if there are all three
abbrev pub span_with : Option ℕ → Option ℕ → Option ℕ → Option Span
span_with None last step = None
span_with (Some first) None step = None
span_with (Some first) (Some last) None = None
span_with (Some first) (Some last) (Some step) = Some (record { first = first; last = last; step = step })

-- the span from a first number on, whose last number and step are the halves, or which has no step
abbrev pub span_to : Option ℕ → List ℕ → Option (List ℕ × List ℕ) → Option Span
span_to first rest None = span_with first (number_in 32 rest) (Some 1)
span_to first rest (Some halves) = span_with first (number_in 32 halves.0) (number_in 32 halves.1)

-- the span of a text that is cut after its first number
abbrev pub span_from : Option (List ℕ × List ℕ) → Option Span
span_from None = None
span_from (Some halves) = span_to (number_in 32 halves.0) halves.1 (cut_at (codes ":") halves.1)

-- the span that a text spells, as `1..60` or `1..60:5`
abbrev pub spelled_span : List ℕ → Option Span
spelled_span text = span_from (cut_at (codes "..") text)

-- the values of a span, if there is at least one and there are at most 100,000
abbrev pub values_if : Bool → Span → Option (List ℕ)
values_if true span = Some (values_in span)
values_if false span = None

abbrev pub has_values : Span → Bool
has_values span = nat_le 1 span.step && (nat_le span.first span.last && nat_lt ((span.last - span.first) / span.step) 100000)

abbrev pub values_of : Option Span → Option (List ℕ)
values_of None = None
values_of (Some span) = values_if (has_values span) span

-- the values that a text spells, as `1..60` or `1..60:5`
abbrev pub spelled_values : List ℕ → Option (List ℕ)
spelled_values text = values_of (spelled_span text)

-- the deadline of what has this name, if the word is a name
abbrev pub deadline_if : Bool → List ℕ → Option Target
deadline_if true name = Some (NumberOf name)
deadline_if false name = None

abbrev pub named_target : List ℕ → Option Target
named_target word = deadline_if (is_word word) word

-- the number at this line and column, if there are both
abbrev pub at_place : Option ℕ → Option ℕ → Option Target
at_place None column = None
at_place (Some line) None = None
at_place (Some line) (Some column) = Some (At line column)

abbrev pub place_of : Option (List ℕ × List ℕ) → Option Target
place_of None = None
place_of (Some halves) = at_place (number_in 64 halves.0) (number_in 64 halves.1)

-- the number at the place that a text spells, as `4:18`
abbrev pub placed_target : List ℕ → Option Target
placed_target place = place_of (cut_at (codes ":") place)

-- the number that these two words spell, one for a name and one for a place; the name has precedence
abbrev pub spelled_target : Option (List ℕ) → Option (List ℕ) → Option Target
spelled_target None None = None
spelled_target None (Some place) = placed_target place
spelled_target (Some word) place = named_target word
