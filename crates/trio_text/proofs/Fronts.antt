-- The first of several steps, and the others.
use Rattle.std.proofs.Common.{◌≡◌, ℕ, ◌+◌, ◌≤◌, ◌==◌, List, [], ◌∷◌, true, false, length, refl, sym, ap, subst, ◌∙◌, arith, fold}
use Rattle.std.proofs.lemmas.List.Sums.{fold-append}
use Rattle.job_tree.specs.Names.{names_of, names_in}
use Rattle.job_tree.specs.Blocks.{step_of, steps_of}
use Rattle.job_tree.specs.Weigh.{weight_of, weight_in}
use Rattle.job_tree.specs.declared.step.Step.{Step}
use Rattle.job_tree.proofs.Weights.{weight_at}
use Rattle.trio_text.specs.declared.words.Words.{Words}
use Rattle.trio_text.specs.Blocks.{OrPass}
use Rattle.trio_text.specs.Uses.{noted, nurseries_of, nurseries_in, exceptions_of, exceptions_in, NotesStep, NotesSteps}

-- The first step weighs less than the block.
pub weight_first : (rest : List Step) (first : Step) (others : List Step) (most : ℕ) → rest ≡ first ∷ others →
    weight_of (steps_of rest) ≤ most → weight_in (step_of first) + 1 ≤ most
weight_first rest first others most is within =
    let front = weight_at (first ∷ others) 0 first (omega arith) refl in
    let same = ap (λ (steps : List Step). weight_of (steps_of steps)) is in
    omega (arith, front, same, within)

-- The others weigh no more than the block.
pub weight_others : (rest : List Step) (first : Step) (others : List Step) (most : ℕ) → rest ≡ first ∷ others →
    weight_of (steps_of rest) ≤ most → weight_of (steps_of others) ≤ most
weight_others rest first others most is within =
    let same = ap (λ (steps : List Step). weight_of (steps_of steps)) is in
    omega (arith, same, within)

-- A block that has steps is no `pass`.
pub no_pass : (steps : List Step) → (length steps == 0) ≡ false → (Written : ℕ → List ℕ → List ℕ → Type 0) (level : ℕ)
    (before after : List ℕ) → Written level before after → OrPass (steps_of steps) Written level before after
no_pass [] some Written level before after is = let f : false ≡ true = sym some in cc
no_pass (s ∷ ss) some Written level before after is = is

-- The names that the first step uses are noted, and then those of the others.
pub notes_more : (rest : List Step) (first : Step) (others : List Step) (old middle new : Words) → rest ≡ first ∷ others →
    NotesStep (step_of first) old middle → NotesSteps (steps_of others) middle new → NotesSteps (steps_of rest) old new
notes_more rest first others old middle new is one more =
    let P : List Step → Type 0 = λ steps. NotesSteps (steps_of steps) old new in
    subst P (sym is) (record {
      given = more.given ∙ ap (λ (ks : List (List ℕ)). fold noted ks (names_of (steps_of others))) one.given
          ∙ sym (fold-append noted old.given.keys (names_in (step_of first)) (names_of (steps_of others)));
      opened = more.opened ∙ ap (λ (ks : List (List ℕ)). fold noted ks (nurseries_of (steps_of others))) one.opened
          ∙ sym (fold-append noted old.nurseries.keys (nurseries_in (step_of first)) (nurseries_of (steps_of others)));
      raised = more.raised ∙ ap (λ (ks : List (List ℕ)). fold noted ks (exceptions_of (steps_of others))) one.raised
          ∙ sym (fold-append noted old.raised.keys (exceptions_in (step_of first)) (exceptions_of (steps_of others)));
    })

-- No steps use no names.
pub notes_none : (rest : List Step) (old : Words) → length rest ≡ 0 → NotesSteps (steps_of rest) old old
notes_none [] old none = record { given = refl; opened = refl; raised = refl }
notes_none (s ∷ ss) old none = absurd (omega arith)
