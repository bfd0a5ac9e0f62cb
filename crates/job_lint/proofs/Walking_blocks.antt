-- The warnings of a block, step by step.
use Rattle.std.proofs.Common.{◌≡◌, ℕ, zero, suc, ◌+◌, ◌≤◌, ◌<◌, Bool, false, List, [], ◌∷◌, ◌++◌, length, get_or, drop, refl, sym, ap, subst, ◌∙◌, arith}
use Rattle.std.proofs.lemmas.List.{drop_all}
use Rattle.job_tree.specs.declared.step.Step.{Step}
use Rattle.job_tree.specs.Tree as tree
use Rattle.job_tree.specs.Tree.{Steps, stop, step}
use Rattle.job_tree.specs.Blocks.{step_of, steps_of}
use Rattle.job_lint.specs.declared.around.Around.{Around}
use Rattle.job_lint.specs.declared.warning.Warning.{Warning}
use Rattle.job_lint.specs.Openings.{openings_of, openings_in, numbered_in}
use Rattle.job_lint.specs.Warnings.{warnings_of, warnings_in, warnings_at, never_ends_well}
use Rattle.job_lint.specs.Adding.{Adds}

-- The state between two steps of a block: the number of the next keyword and the warnings so far, given the steps
-- that are left.
pub record AtStep (places : List ℕ) (around : Around) (opened : List (List ℕ)) (number : ℕ) (all : Steps) (old : List Warning)
    (unreachable : Bool) (next : ℕ) (left : Steps) (now : List Warning) : Type 0 where
  pub count : next + openings_of left ≡ number + openings_of all
  pub adds : (others : List Warning) → old ++ warnings_of (numbered_in places) around opened false number all others
      ≡ now ++ warnings_of (numbered_in places) around opened unreachable next left others

-- before the first step
pub at_start : (places : List ℕ) (around : Around) (opened : List (List ℕ)) (number : ℕ) (all : Steps) (old : List Warning) →
    AtStep places around opened number all old false number all old
at_start places around opened number all old = record { count = refl; adds = λ others. refl }

-- the first of the steps that are left
pub steps_at : (ss : List Step) (i : ℕ) (s : Step) → i < length ss → s ≡ get_or ss i s →
    steps_of (drop i ss) ≡ step (step_of s) (steps_of (drop (i + 1) ss))
steps_at [] i s lt is = absurd (omega arith)
steps_at (x ∷ xs) zero s lt is = ap (λ (y : Step). step (step_of y) (steps_of xs)) (sym is)
steps_at (x ∷ xs) (suc i) s lt is =
    let e : suc i + 1 ≡ suc (i + 1) = omega arith in
    rw e (steps_at xs i s (omega arith) is)

-- the walk is at the next step of the slice that the code reads
pub at_item : (places : List ℕ) (around : Around) (opened : List (List ℕ)) (number : ℕ) (all : Steps) (old : List Warning)
    (unreachable : Bool) (next : ℕ) (ss : List Step) (i : ℕ) (s : Step) (now : List Warning) →
    AtStep places around opened number all old unreachable next (steps_of (drop i ss)) now → i < length ss → s ≡ get_or ss i s →
    AtStep places around opened number all old unreachable next (step (step_of s) (steps_of (drop (i + 1) ss))) now
at_item places around opened number all old unreachable next ss i s now at lt is =
    subst (λ (left : Steps). AtStep places around opened number all old unreachable next left now) (steps_at ss i s lt is) at

-- the next step has places for its keyword and for those inside it
pub room_at : (places : List ℕ) (around : Around) (opened : List (List ℕ)) (number : ℕ) (all rest : Steps) (old : List Warning)
    (unreachable : Bool) (next : ℕ) (s : tree.Step) (now : List Warning) →
    AtStep places around opened number all old unreachable next (step s rest) now →
    number + openings_of all ≤ length places → next + 1 + openings_in s ≤ length places
room_at places around opened number all rest old unreachable next s now at room = omega (arith, at.count, room)

-- after one more step: its own warning and those inside it are found, and the walk is at the step after it
pub at_next : (places : List ℕ) (around : Around) (opened : List (List ℕ)) (number : ℕ) (all rest : Steps) (old mid own now : List Warning)
    (unreachable dead : Bool) (next after : ℕ) (s : tree.Step) →
    AtStep places around opened number all old unreachable next (step s rest) mid →
    Adds mid own (warnings_at unreachable around opened (numbered_in places next) s) → after ≡ next + 1 + openings_in s →
    Adds own now (warnings_in (numbered_in places) around opened (next + 1) s) → dead ≡ never_ends_well s →
    AtStep places around opened number all old dead after rest now
at_next places around opened number all rest old mid own now unreachable dead next after s at first is inside same =
    record {
      count = omega (arith, at.count, is);
      adds = λ others.
          let tail : ℕ → Bool → List Warning = λ n b. warnings_of (numbered_in places) around opened b n rest others in
          at.adds others
          ∙ first (warnings_in (numbered_in places) around opened (next + 1) s (tail (next + 1 + openings_in s) (never_ends_well s)))
          ∙ inside (tail (next + 1 + openings_in s) (never_ends_well s))
          ∙ ap (λ (n : ℕ). now ++ tail n (never_ends_well s)) (sym is) ∙ ap (λ (b : Bool). now ++ tail after b) (sym same);
    }

-- after the last step
pub at_stop : (places : List ℕ) (around : Around) (opened : List (List ℕ)) (number : ℕ) (all : Steps) (old : List Warning)
    (unreachable : Bool) (next : ℕ) (ss : List Step) (i : ℕ) (now : List Warning) →
    AtStep places around opened number all old unreachable next (steps_of (drop i ss)) now →
    length ss ≤ i →
    (next ≡ number + openings_of all) × Adds old now (warnings_of (numbered_in places) around opened false number all)
at_stop places around opened number all old unreachable next ss i now at le =
    let last : AtStep places around opened number all old unreachable next stop now =
    subst (λ (left : List Step). AtStep places around opened number all old unreachable next (steps_of left) now) (drop_all i ss le) at in
    (omega (arith, last.count), last.adds)
