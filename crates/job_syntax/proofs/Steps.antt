-- Reading steps one after the other.
use Rattle.std.proofs.Common.{◌≡◌, ℕ, zero, suc, ◌+◌, ◌-◌, ◌<◌, ◌≤◌, List, [], ◌∷◌, ◌++◌, length, Some, None, refl, sym, ap, ◌∙◌, arith}
use Rattle.job_tree.specs.declared.step.Step.{Step}
use Rattle.job_tree.specs.Tree as tree
use Rattle.job_tree.specs.Blocks.{step_of, steps_of}
use Rattle.job_tokens.specs.declared.token.Mark.TheVariants as mark
use Rattle.job_tokens.specs.declared.token.Shape.{Shape}
use Rattle.job_syntax.specs.Nonterminals.{◌>>=◌}
use Rattle.job_syntax.specs.Reading.{Read, Blocks, mark_at, step_at, steps_with, blocks_at}

-- steps before a block
abbrev pub in_front : List Step → tree.Steps → tree.Steps
in_front [] others = others
in_front (s ∷ ss) others = tree.step (step_of s) (in_front ss others)

-- what was read before, and what is still to be read
abbrev pub with_front : List Step → Read tree.Steps → Read tree.Steps
with_front front read = read >>= λ x. Some (in_front front x.0, x.1)

in_front-stop : (front : List Step) → in_front front tree.stop ≡ steps_of front
in_front-stop [] = refl
in_front-stop (s ∷ ss) = ap (tree.step (step_of s)) (in_front-stop ss)

in_front-push : (front : List Step) (s : Step) (others : tree.Steps) →
    in_front front (tree.step (step_of s) others) ≡ in_front (front ++ s ∷ []) others
in_front-push [] s others = refl
in_front-push (f ∷ front) s others = ap (tree.step (step_of f)) (in_front-push front s others)

regroup : (front : List Step) (s : Step) (read : Read tree.Steps) →
    with_front front (read >>= λ x. Some (tree.step (step_of s) x.0, x.1)) ≡ with_front (front ++ s ∷ []) read
regroup front s None = refl
regroup front s (Some read) = ap (λ (steps : tree.Steps). Some (steps, read.1)) (in_front-push front s read.0)

-- the case of the closing mark
pub ends : (blocks : Blocks) → (front : List Step) (count i : ℕ) (rest after : List Shape) (total : Read tree.Steps) → i < count →
    mark_at mark.Close rest ≡ Some after → with_front front (steps_with blocks (count - i) rest) ≡ total →
    total ≡ Some (steps_of front, after)
unfolding steps_with
ends blocks front count i rest after total lt closed so_far =
    let k : count - i ≡ suc (count - (i + 1)) = omega arith in
    let one : with_front front (steps_with blocks (count - i) rest) ≡ Some (steps_of front, after) =
    rw (k, closed) (ap (λ (steps : tree.Steps). Some (steps, after)) (in_front-stop front)) in
    sym so_far ∙ one

-- the case of tokens that are no step
pub fails : (blocks : Blocks) → (front : List Step) (count i : ℕ) (rest : List Shape) (total : Read tree.Steps) → i < count →
    mark_at mark.Close rest ≡ None → step_at blocks rest ≡ None → with_front front (steps_with blocks (count - i) rest) ≡ total →
    total ≡ None
unfolding steps_with
fails blocks front count i rest total lt going none so_far =
    let k : count - i ≡ suc (count - (i + 1)) = omega arith in
    let one : with_front front (steps_with blocks (count - i) rest) ≡ None = rw (k, going, none) refl in
    sym so_far ∙ one

-- the case of a step
pub goes_on : (blocks : Blocks) → (front : List Step) (count i : ℕ) (rest : List Shape) (s : Step) (after : List Shape)
    (total : Read tree.Steps) → i < count → mark_at mark.Close rest ≡ None → step_at blocks rest ≡ Some (step_of s, after)
    → with_front front (steps_with blocks (count - i) rest) ≡ total →
    with_front (front ++ s ∷ []) (steps_with blocks (count - (i + 1)) after) ≡ total
unfolding steps_with
goes_on blocks front count i rest s after total lt going found so_far =
    let k : count - i ≡ suc (count - (i + 1)) = omega arith in
    let one : with_front front (steps_with blocks (count - i) rest)
    ≡ with_front (front ++ s ∷ []) (steps_with blocks (count - (i + 1)) after) =
    rw (k, going, found) (regroup front s (steps_with blocks (count - (i + 1)) after)) in
    sym one ∙ so_far

-- the case in which no further step may come
pub is_over : (blocks : Blocks) → (front : List Step) (count i : ℕ) (rest : List Shape) (total : Read tree.Steps) → count ≤ i →
    with_front front (steps_with blocks (count - i) rest) ≡ total → total ≡ None
unfolding steps_with
is_over blocks front count i rest total le so_far =
    let k : count - i ≡ 0 = omega arith in
    let one : with_front front (steps_with blocks (count - i) rest) ≡ None = rw k refl in
    sym so_far ∙ one

-- no block is read at depth 0
pub no_block : (depth : ℕ) (shapes : List Shape) → depth ≡ 0 → blocks_at depth shapes ≡ None
unfolding blocks_at
no_block depth shapes e = rw e refl

-- a block, if it may be read, consists of steps whose blocks have one level less
pub one_level : (depth n : ℕ) (shapes : List Shape) → (depth ≡ 0 → ⊥) → length shapes ≡ n →
    blocks_at depth shapes ≡ steps_with (blocks_at (depth - 1)) n shapes
unfolding blocks_at
one_level zero n shapes some len = absurd (some refl)
one_level (suc depth) n shapes some len = let e : suc depth - 1 ≡ depth = omega arith in rw (e, len) refl
