-- The outcome of a job for each value of a number.
use Rattle.std.specs.Prelude.{◌≡◌, ◌≤◌, ℕ, None, List, [], ◌∷◌, length}
use Rattle.job_meaning.specs.declared.limits.TheConstants.{MAX_INPUT}
use Rattle.job_edits.specs.Changes.{changed_text}
use Rattle.job_edits.specs.Numbers.{set_to}
use Rattle.job_edits.specs.declared.number.Number.{Number}
use Rattle.trials.specs.JobOutcomes.{IsJobOutcome}
use Rattle.outcomes.specs.Groups as groups
use Rattle.outcomes.specs.SweepViews.{value_held}
use Rattle.outcomes.specs.declared.value.Value.{Value}
use Rattle.trials.specs.declared.values.Swept.{Swept}

-- the outcome of the text with this value in place of the number
pub record IsValue (text input : List ℕ) (limit : ℕ) (number : Number) (n : ℕ) (v : groups.Value) : Type 0 where
  pub value : v.value ≡ n
  pub job_outcome : IsJobOutcome (changed_text text (set_to number n ∷ [])) input limit None v.job_outcome

-- ---- the values of the code

-- the input is not longer than the maximum
abbrev pub HasRoom : Swept → Type 0
HasRoom swept = length swept.question.now.input.now ≤ MAX_INPUT

abbrev pub IsValueOf : Swept → ℕ → Value → Type 0
IsValueOf swept n v =
    let question = swept.question.now in
    IsValue question.text.now question.input.now question.settings.limit swept.number n (value_held v)
