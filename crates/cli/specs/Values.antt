-- The values of a sweep.
use Rattle.std.specs.Prelude.{ℕ, zero, suc, ◌+◌, ◌-◌, ◌/◌, List, [], ◌∷◌}
use Rattle.cli.specs.declared.sweeping.Span.{Span}

-- the given number of values from a first one on, each a step above the one before it
abbrev pub values_from : ℕ → ℕ → ℕ → List ℕ
values_from first step zero = []
values_from first step (suc more) = first ∷ values_from (first + step) step more

-- the values of a span: the first one, and those a whole number of steps above it, up to the last one
abbrev pub values_in : Span → List ℕ
values_in span = values_from span.first span.step ((span.last - span.first) / span.step + 1)
