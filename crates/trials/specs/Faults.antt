-- The outcome of a job with each fault.
use Rattle.std.specs.Prelude.{◌≡◌, ℕ, ◌+◌, Bool, true, false, ◌&&◌, nat_lt, None, List, [], ◌∷◌, ◌++◌, length, take}
use Rattle.job_tree.specs.Tree.{Tree}
use Rattle.job_tokens.specs.declared.token.Token.{Token}
use Rattle.job_reader.specs.Refusals.{Spells, HasTokens}
use Rattle.job_edits.specs.declared.fault.Variant.{Variant}
use Rattle.job_edits.specs.Faults.{variants_in, each_in, has_divided}
use Rattle.job_edits.specs.Repeated.{repeated_in}
use Rattle.outcomes.specs.JobOutcomes.{JobOutcome, job_outcome_of}
use Rattle.outcomes.specs.Table.{Line}
use Rattle.outcomes.specs.declared.options.Untried.{Untried}
use Rattle.workers.specs.Answers.{AreAnswers}
use Rattle.trials.specs.declared.faults.TheConstants.{MAX_EACH}
use Rattle.trials.specs.JobOutcomes.{token_roles, IsLine}

-- the first faults in single copies and passes, one more than there are lines for, if they are asked for
abbrev pub found_each : (each has_input : Bool) → (names : List (List ℕ)) → List Token → List Variant
found_each false has_input names tokens = []
found_each true has_input names tokens = take (MAX_EACH + 1) (each_in has_input names tokens)

abbrev pub has_items : List ℕ → Bool
has_items [] = false
has_items (x ∷ xs) = true

-- the faults that are tried: each fault of each waiting step, in the order of places, and then those in single copies and passes
abbrev pub tried_in : (each has_input : Bool) → (names : List (List ℕ)) → List Token → List Variant
tried_in each has_input names tokens = variants_in names tokens ++ take MAX_EACH (found_each each has_input names tokens)

-- which faults in single copies and passes are not tried: those for which there are no lines, and those in copies of blocks that divide
-- an input
abbrev pub untried_in : (each has_input : Bool) → (names : List (List ℕ)) → List Token → Untried
untried_in each has_input names tokens = record {
  more = nat_lt MAX_EACH (length (found_each each has_input names tokens));
  divided = each && has_divided has_input (repeated_in tokens);
}

-- The outcome of the job that the text spells without a fault, and with each fault that is tried, each once. Names are printed where a
-- step raises several exceptions.
pub record AreFaultLines (text input : List ℕ) (limit : ℕ) (names : List (List ℕ)) (each : Bool) (first : JobOutcome) (lines : List Line) (untried : Untried) : Type 0 where
  pub job : Tree
  pub spells : Spells text job
  pub tokens : List Token
  pub tokens_are : HasTokens text tokens None
  pub lines_are : AreAnswers (IsLine text input limit (nat_lt 1 (length names)) tokens (token_roles job.format text tokens) first) (tried_in each (has_items input) names tokens) lines
  pub first_is : first ≡ job_outcome_of limit None job input
  pub untried_is : untried ≡ untried_in each (has_items input) names tokens
