-- The lines of a job's faults.
use Rattle.std.proofs.Common.{◌≡◌, ℕ, Bool, None, List, map, ap, subst, ◌∙◌, nat_lt, length}
use Rattle.job_tree.specs.Tree.{Tree}
use Rattle.job_tokens.specs.declared.token.Token.{Token}
use Rattle.job_syntax.specs.declared.role.Role.{Role}
use Rattle.job_reader.specs.Refusals.{Spells, HasTokens}
use Rattle.job_edits.specs.declared.fault.Variant.{Variant}
use Rattle.outcomes.specs.JobOutcomes as job_outcomes
use Rattle.outcomes.specs.Table as table
use Rattle.outcomes.specs.Views.{line_held}
use Rattle.outcomes.specs.declared.line.Line.{Line}
use Rattle.outcomes.specs.declared.options.Untried.{Untried}
use Rattle.workers.specs.Answers.{AreAnswers}
use Rattle.workers.proofs.Answered.{seen_as}
use Rattle.trials.specs.JobOutcomes.{token_roles, IsLine}
use Rattle.trials.specs.Faults.{has_items, tried_in, untried_in, AreFaultLines}

-- given the limit of the settings, the tokens of the text and their roles, and the variants, as they were passed on
pub are_lines : (text input : List ℕ) (limit l : ℕ) (names : List (List ℕ)) (each has is_named : Bool) (untried : Untried) (job : Tree) (tokens ts : List Token)
    (roles rs : List Role) (variants vs : List Variant) (first : job_outcomes.JobOutcome) (lines : List Line) →
    Spells text job → HasTokens text tokens None → l ≡ limit → ts ≡ tokens → has ≡ has_items input → is_named ≡ nat_lt 1 (length names) →
    roles ≡ token_roles job.format text ts → rs ≡ roles → variants ≡ tried_in each has names ts → untried ≡ untried_in each has names ts → vs ≡ variants →
    first ≡ job_outcomes.job_outcome_of l None job input →
    AreAnswers (λ (v : Variant) (k : Line). IsLine text input l is_named ts rs first v (line_held k)) vs lines →
    AreFaultLines text input limit names each first (map line_held lines) untried
are_lines text input limit l names each has is_named untried job tokens ts roles rs variants vs first lines spells tokens_are at t some_input n r q v m w f are =
    let held : List table.Line = map line_held lines in
    let some : Bool = nat_lt 1 (length names) in
    let with_roles : rs ≡ token_roles job.format text tokens = q ∙ r ∙ ap (token_roles job.format text) t in
    let seen : AreAnswers (IsLine text input l is_named ts rs first) vs held = seen_as (IsLine text input l is_named ts rs first) line_held vs lines are in
    let limited : AreAnswers (IsLine text input limit is_named ts rs first) vs held =
    subst (λ (k : ℕ). AreAnswers (IsLine text input k is_named ts rs first) vs held) at seen in
    let named : AreAnswers (IsLine text input limit some ts rs first) vs held =
    subst (λ (b : Bool). AreAnswers (IsLine text input limit b ts rs first) vs held) n limited in
    let placed : AreAnswers (IsLine text input limit some tokens rs first) vs held =
    subst (λ (ks : List Token). AreAnswers (IsLine text input limit some ks rs first) vs held) t named in
    let ruled : AreAnswers (IsLine text input limit some tokens (token_roles job.format text tokens) first) vs held =
    subst (λ (ks : List Role). AreAnswers (IsLine text input limit some tokens ks first) vs held) with_roles placed in
    record {
      job = job;
      spells = spells;
      tokens = tokens;
      tokens_are = tokens_are;
      lines_are =
          subst (λ (xs : List Variant). AreAnswers (IsLine text input limit some tokens (token_roles job.format text tokens) first) xs held)
          (w ∙ v ∙ ap (tried_in each has names) t ∙ ap (λ (b : Bool). tried_in each b names tokens) some_input) ruled;
      first_is = f ∙ ap (λ (k : ℕ). job_outcomes.job_outcome_of k None job input) at;
      untried_is = m ∙ ap (untried_in each has names) t ∙ ap (λ (b : Bool). untried_in each b names tokens) some_input;
    }
