-- The number of a job text that is meant, found among the tokens of the text.
use Rattle.std.specs.Prelude.{◌≡◌, ℕ, true, false, Some, None, List}
use Rattle.job_tokens.specs.declared.token.Token.{Token}
use Rattle.basics.specs.Places.{IsPlace, IsPlaceOf}
use Rattle.job_edits.specs.Numbers.{number_at, block_number, blocks_in}
use Rattle.job_edits.specs.declared.number.Number.{Number}
use Rattle.job_edits.specs.declared.number.Target.{Target}
use Rattle.job_edits.specs.declared.number.Target.TheVariants.{NumberOf, At}
use Rattle.trials.specs.Nearest.{is_one_of, nearest_in}
use Rattle.trials.specs.declared.number.Found.{Found}
use Rattle.trials.specs.declared.number.Found.TheVariants as found
use Rattle.trials.specs.declared.missing.Missing.{Missing}
use Rattle.trials.specs.declared.missing.Missing.TheVariants.{NoBlock, NoDeadline, NoPlace, NoNumber}

-- the number that is meant
abbrev pub IsNumber : List ℕ → List Token → Target → Number → Type 0
IsNumber text tokens (NumberOf name) number = block_number name tokens ≡ Some number
IsNumber text tokens (At line column) number = (at : ℕ) × IsPlace text line column at × (number_at at tokens ≡ Some number)

-- why a deadline is missing: no scope or nursery has the name, or the first one that has it has no deadline
abbrev pub IsMissingDeadline : List ℕ → List Token → Missing → Type 0
IsMissingDeadline name tokens (NoBlock nearest) =
    (is_one_of name (blocks_in tokens) ≡ false) × (nearest ≡ nearest_in name (blocks_in tokens))
IsMissingDeadline name tokens NoDeadline = (is_one_of name (blocks_in tokens) ≡ true) × (block_number name tokens ≡ None)
IsMissingDeadline name tokens NoPlace = ⊥
IsMissingDeadline name tokens (NoNumber at) = ⊥

-- why the number at a line and a column is missing: there is no such place, or no number begins there
abbrev pub IsMissingAt : List ℕ → List Token → ℕ → ℕ → Missing → Type 0
IsMissingAt text tokens line column (NoBlock nearest) = ⊥
IsMissingAt text tokens line column NoDeadline = ⊥
IsMissingAt text tokens line column NoPlace = IsPlaceOf text line column None
IsMissingAt text tokens line column (NoNumber at) = IsPlace text line column at × (number_at at tokens ≡ None)

abbrev pub IsMissing : List ℕ → List Token → Target → Missing → Type 0
IsMissing text tokens (NumberOf name) missing = IsMissingDeadline name tokens missing
IsMissing text tokens (At line column) missing = IsMissingAt text tokens line column missing

-- the number, or why there is none
abbrev pub IsFound : List ℕ → List Token → Target → Found → Type 0
IsFound text tokens target (found.Number number) = IsNumber text tokens target number
IsFound text tokens target (found.Missing missing) = IsMissing text tokens target missing
