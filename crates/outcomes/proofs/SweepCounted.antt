-- A count of values as the definitions have it, by the values of the code.
use Rattle.std.proofs.Common.{◌≡◌, ℕ, List, ◌+◌, arith, refl, cond}
use Rattle.std.proofs.lemmas.List.Recursion.{is_count_by}
use Rattle.std.specs.Prelude.{Bool, true, false, count_by, map, if◌then◌else◌}
use Rattle.outcomes.specs.JobOutcomes.{JobOutcome}
use Rattle.outcomes.specs.Views.{job_outcome_held}
use Rattle.outcomes.specs.Sweeps as sweeps
use Rattle.outcomes.specs.SweepViews.{value_held}
use Rattle.outcomes.specs.declared.value.Value.{Value}

one_more : (b : Bool) (n : ℕ) → (if b then 1 else 0) + n ≡ cond b (1 + n) n
one_more true n = refl
one_more false n = omega arith

pub counted : (test : JobOutcome → Bool) (vs : List Value) → sweeps.count test (map value_held vs) ≡ count_by (λ v. test (job_outcome_held v.job_outcome)) vs
counted test vs =
    is_count_by (λ xs. sweeps.count test (map value_held xs)) (λ v. test (job_outcome_held v.job_outcome)) refl
    (λ x xs. one_more (test (job_outcome_held x.job_outcome)) (sweeps.count test (map value_held xs))) vs
