-- The values of the code, as the definitions see them.
use Rattle.std.specs.Prelude.{Option, List, ℕ}
use Rattle.std.specs.Borrow.{Bor}
use Rattle.std.specs.Option.{option_map}
use Rattle.expect_text.specs.Differences as places
use Rattle.expect_text.specs.Expectations.{Expected, Said, Wrong, present, absent, no_races, no_faults, nothing, expects, faulty, unknown_word, wrong_demand, negated_demand, no_such_line}
use Rattle.expect_text.specs.declared.differences.Difference.{Difference}
use Rattle.expect_text.specs.declared.expectations.Expectation.{Expectation}
use Rattle.expect_text.specs.declared.expectations.Expectation.TheVariants.{Present, Absent, NoRaces, NoFaults}
use Rattle.expect_text.specs.declared.expectations.ExpectLine.{ExpectLine}
use Rattle.expect_text.specs.declared.expectations.ExpectLine.TheVariants.{Nothing, Expects, Faulty}
use Rattle.expect_text.specs.declared.expectations.LineFault.{LineFault}
use Rattle.expect_text.specs.declared.expectations.LineFault.TheVariants.{UnknownWord, WrongDemand, NegatedDemand, NoSuchLine}

abbrev pub bytes_of : Option (Bor (List ℕ)) → Option (List ℕ)
bytes_of bytes = option_map (λ (b : Bor (List ℕ)). b.now) bytes

abbrev pub difference_of : Difference → places.Difference
difference_of d = record { line = d.line; kept = bytes_of d.kept; written = bytes_of d.written }

abbrev pub expected_of : Expectation → Expected
expected_of (Present pattern) = present pattern.now
expected_of (Absent pattern) = absent pattern.now
expected_of NoRaces = no_races
expected_of (NoFaults kinds) = no_faults kinds

abbrev pub wrong_of : LineFault → Wrong
wrong_of UnknownWord = unknown_word
wrong_of WrongDemand = wrong_demand
wrong_of NegatedDemand = negated_demand
wrong_of NoSuchLine = no_such_line

abbrev pub said_of : ExpectLine → Said
said_of Nothing = nothing
said_of (Expects expectation) = expects (expected_of expectation)
said_of (Faulty fault) = faulty (wrong_of fault)
