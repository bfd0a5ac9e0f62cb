-- The result of a sweep over a number of a text.
use Rattle.std.specs.Prelude.{◌≡◌, ℕ, None, List, map}
use Rattle.job_tree.specs.Tree.{Tree}
use Rattle.job_tokens.specs.declared.token.Token.{Token}
use Rattle.job_reader.specs.Refusals.{Spells, HasTokens}
use Rattle.job_edits.specs.declared.number.Number.{Number}
use Rattle.job_edits.specs.declared.number.Target.{Target}
use Rattle.outcomes.specs.JobOutcomes.{JobOutcome, job_outcome_of}
use Rattle.outcomes.specs.Views.{job_outcome_held}
use Rattle.workers.specs.Answers.{AreAnswers}
use Rattle.outcomes.specs.Groups.{Value}
use Rattle.outcomes.specs.SweepViews.{value_held}
use Rattle.trials.specs.Targets.{IsNumber, IsMissing}
use Rattle.trials.specs.Values.{IsValue}
use Rattle.trials.specs.declared.values.Swept.{Swept}
use Rattle.trials.specs.declared.missing.Missing.{Missing}
use Rattle.trials.specs.declared.sweeps.SweepValues.{SweepValues}
use Rattle.trials.specs.declared.sweeps.SweepAnswer.{SweepAnswer}
use Rattle.trials.specs.declared.sweeps.SweepAnswer.TheVariants.{Values, NoTarget}

-- the outcome of a job with its own value, and in turn of its text with each value in place of a number
pub record AreValues (text input : List ℕ) (limit : ℕ) (number : Number) (job : Tree) (values : List ℕ) (first : JobOutcome) (vs : List Value) : Type 0 where
  pub first_is : first ≡ job_outcome_of limit None job input
  pub vs_are : AreAnswers (IsValue text input limit number) values vs

-- these outcomes for the job that the text spells, and the number of the text that is meant
pub record AreSweepValues (text input : List ℕ) (limit : ℕ) (target : Target) (values : List ℕ) (first : JobOutcome) (vs : List Value) : Type 0 where
  pub job : Tree
  pub spells : Spells text job
  pub tokens : List Token
  pub tokens_are : HasTokens text tokens None
  pub number : Number
  pub number_is : IsNumber text tokens target number
  pub values_are : AreValues text input limit number job values first vs

-- the text spells a job, and does not have the number that is meant, for this reason
pub record IsWithoutTarget (text : List ℕ) (target : Target) (missing : Missing) : Type 0 where
  pub job : Tree
  pub spells : Spells text job
  pub tokens : List Token
  pub tokens_are : HasTokens text tokens None
  pub reason : IsMissing text tokens target missing

-- ---- the values of the code

abbrev pub AreValuesOf : Tree → Swept → List ℕ → SweepValues → Type 0
AreValuesOf job swept values found =
    let question = swept.question.now in
    AreValues question.text.now question.input.now question.settings.limit swept.number job values (job_outcome_held found.first) (map value_held found.values.items)

abbrev pub IsSweepAnswer : List ℕ → List ℕ → ℕ → Target → List ℕ → SweepAnswer → Type 0
IsSweepAnswer text input limit target values (Values found) =
    AreSweepValues text input limit target values (job_outcome_held found.first) (map value_held found.values.items)
IsSweepAnswer text input limit target values (NoTarget missing) = IsWithoutTarget text target missing
