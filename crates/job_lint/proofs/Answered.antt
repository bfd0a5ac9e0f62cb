-- The results of an exact reading, with what is found in the job.
use Rattle.std.proofs.Common.{ℕ, List, inl, inr, refl, ap}
use Rattle.std.specs.Prelude.{Result, Ok, Err, MatchResult}
use Rattle.job_tree.specs.Tree.{Tree}
use Rattle.job_reader.specs.declared.fault.JobKind.{JobKind}
use Rattle.job_reader.specs.declared.fault.JobFault.{JobFault}
use Rattle.job_reader.specs.Refusals.{Spells, IsRefused, IsFair, AnswersUnlessMemory}
use Rattle.job_reader.proofs.Passing.{one_refusal}
use Rattle.job_lint.specs.Linted.{IsOkUnlessMemory}

-- For a text that spells a job, the result is `Ok`, or that memory runs out. What is found in a text shows that it
-- spells a job.
pub only_found : {X : Type 0} (text : List ℕ) (found : X → Type 0) (result : Result X JobFault) (job : Tree) →
    MatchResult result found (IsFair text) → Spells text job → IsOkUnlessMemory result
only_found text found (Ok x) job fits spells = inl refl
only_found text found (Err fault) job (inl memory) spells = inr (ap (λ (f : JobFault). Err f) memory)
only_found text found (Err fault) job (inr refused) spells = absurd (spells.2 fault.kind fault.at refused.0)

-- for a text that is refused, the result is that refusal, or that memory runs out
pub exact_fault : {X : Type 0} (text : List ℕ) (found : X → Type 0) (result : Result X JobFault) (kind : JobKind) (at : ℕ) →
    MatchResult result found (IsFair text) → ((x : X) → found x → (job : Tree) × Spells text job) → IsRefused text kind at →
    AnswersUnlessMemory result (Err (record { at = at; kind = kind }))
exact_fault text found (Ok x) kind at fits spelled refused = absurd ((spelled x fits).1.2 kind at refused.0)
exact_fault text found (Err fault) kind at (inl memory) spelled refused = inr (ap (λ (f : JobFault). Err f) memory)
exact_fault text found (Err fault) kind at (inr other) spelled refused =
    let one = one_refusal text fault.kind kind fault.at at other refused in
    inl (λ i. Err (record { at = one.1 i; kind = one.0 i }))
