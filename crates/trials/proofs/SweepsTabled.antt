-- The outcome of a job for each value.
use Rattle.std.proofs.Common.{◌≡◌, ℕ, None, List, map, ap, subst, ◌∙◌}
use Rattle.job_tree.specs.Tree.{Tree}
use Rattle.job_tokens.specs.declared.token.Token.{Token}
use Rattle.job_reader.specs.Refusals.{Spells, HasTokens}
use Rattle.job_edits.specs.declared.number.Number.{Number}
use Rattle.job_edits.specs.declared.number.Target.{Target}
use Rattle.outcomes.specs.JobOutcomes.{JobOutcome}
use Rattle.outcomes.specs.JobOutcomes as job_outcomes
use Rattle.outcomes.specs.Groups as groups
use Rattle.outcomes.specs.SweepViews.{value_held}
use Rattle.outcomes.specs.declared.value.Value.{Value}
use Rattle.workers.specs.Answers.{AreAnswers}
use Rattle.workers.proofs.Answered.{seen_as}
use Rattle.trials.specs.Values.{IsValue}
use Rattle.trials.specs.Sweeps.{AreValues, AreSweepValues, IsWithoutTarget}
use Rattle.trials.specs.Targets.{IsNumber, IsMissing}
use Rattle.trials.specs.declared.missing.Missing.{Missing}

-- the values as they were found, given the limit as it was read
pub are_seen : (text input : List ℕ) (limit l : ℕ) (number : Number) (job : Tree) (values : List ℕ) (first : JobOutcome) (vs : List Value) →
    l ≡ limit → first ≡ job_outcomes.job_outcome_of l None job input →
    AreAnswers (λ (n : ℕ) (v : Value). IsValue text input limit number n (value_held v)) values vs →
    AreValues text input limit number job values first (map value_held vs)
are_seen text input limit l number job values first vs at f are =
    record {
      first_is = f ∙ ap (λ (n : ℕ). job_outcomes.job_outcome_of n None job input) at;
      vs_are = seen_as (IsValue text input limit number) value_held values vs are;
    }

-- given the tokens, as they were passed on
pub are_values : (text : List ℕ) (job : Tree) (input : List ℕ) (limit : ℕ) (target : Target) (values : List ℕ) (tokens ts : List Token)
    (number : Number) (first : JobOutcome) (vs : List groups.Value) →
    Spells text job → HasTokens text tokens None → ts ≡ tokens → IsNumber text ts target number →
    AreValues text input limit number job values first vs → AreSweepValues text input limit target values first vs
are_values text job input limit target values tokens ts number first vs spells has same is values_are =
    record {
      job = job;
      spells = spells;
      tokens = tokens;
      tokens_are = has;
      number = number;
      number_is = subst (λ (xs : List Token). IsNumber text xs target number) same is;
      values_are = values_are;
    }

pub is_without_target : (text : List ℕ) (job : Tree) (target : Target) (missing : Missing) (tokens ts : List Token) →
    Spells text job → HasTokens text tokens None → ts ≡ tokens → IsMissing text ts target missing → IsWithoutTarget text target missing
is_without_target text job target missing tokens ts spells has same is =
    record {
      job = job;
      spells = spells;
      tokens = tokens;
      tokens_are = has;
      reason = subst (λ (xs : List Token). IsMissing text xs target missing) same is;
    }
