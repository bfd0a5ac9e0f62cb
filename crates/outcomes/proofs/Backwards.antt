-- Groups as the code keeps them while it finds them: the last one first.
use Rattle.std.proofs.Common.{◌≡◌, ◌∙◌, ap, sym, refl, ℕ, suc, List, [], ◌∷◌, ◌++◌, length, take, set, get_or, arith}
use Rattle.std.specs.Prelude.{true, map, reverse}
use Rattle.std.proofs.lemmas.List.{take_all, length-set, reverse-append}
use Rattle.std.proofs.Math.Seq.{take-suc, take-suc-set}
use Rattle.outcomes.specs.Groups.{shares, joined_group, before_groups}
use Rattle.outcomes.specs.SweepViews.{group_held}
use Rattle.outcomes.specs.declared.group.Group.{Group}

-- a list, taken apart at its last member
by_last : {X : Type 0} → (xs : List X) (n : ℕ) (d : X) → suc n ≡ length xs → xs ≡ take n xs ++ (get_or xs n d ∷ [])
by_last xs n d h = sym (take_all (suc n) xs (omega (arith, h))) ∙ take-suc xs n d (omega (arith, h))

-- the same, with another last member
with_last : {X : Type 0} → (xs : List X) (n : ℕ) (x : X) → suc n ≡ length xs → set xs n x ≡ take n xs ++ (x ∷ [])
with_last xs n x h =
    sym (take_all (suc n) (set xs n x) (omega (arith, h, length-set xs n x))) ∙ take-suc-set xs n x (omega (arith, h))

reverse_last : {X : Type 0} → (xs : List X) (x : X) → reverse (xs ++ (x ∷ [])) ≡ x ∷ reverse xs
reverse_last xs x = reverse-append xs (x ∷ [])

-- a group joins the first of some groups
joins_first : (gs : List Group) (a old new : Group) → shares (group_held a) (group_held old) ≡ true →
    group_held new ≡ joined_group (group_held a) (group_held old) →
    map group_held (new ∷ gs) ≡ before_groups (group_held a) (map group_held (old ∷ gs))
joins_first gs a old new same join = rw (same, join) refl

-- a group joins the last of the groups that the code holds
pub joins_last : (xs : List Group) (n : ℕ) (a old new : Group) → suc n ≡ length xs → old ≡ get_or xs n old →
    shares (group_held a) (group_held old) ≡ true → group_held new ≡ joined_group (group_held a) (group_held old) →
    map group_held (reverse (set xs n new)) ≡ before_groups (group_held a) (map group_held (reverse xs))
joins_last xs n a old new h is same join =
    let ys = take n xs in
    let last : xs ≡ ys ++ (old ∷ []) = by_last xs n old h ∙ ap (λ x. ys ++ (x ∷ [])) (sym is) in
    let now : reverse (set xs n new) ≡ new ∷ reverse ys = ap reverse (with_last xs n new h) ∙ reverse_last ys new in
    let before : reverse xs ≡ old ∷ reverse ys = ap reverse last ∙ reverse_last ys old in
    ap (map group_held) now ∙ joins_first (reverse ys) a old new same join
    ∙ ap (λ gs. before_groups (group_held a) (map group_held gs)) (sym before)
