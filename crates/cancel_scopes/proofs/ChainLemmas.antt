-- The stack of each scope in a stack is the rest of that stack, from the scope on.
use Rattle.std.proofs.Common.{◌≡◌, ◌≢◌, ℕ, zero, suc, ◌+◌, [], ◌∷◌, ◌++◌, length, Option, Some, None, refl, sym, ap, subst, ◌∙◌, arith}
use Rattle.std.specs.List.{All}
use Rattle.std.proofs.lemmas.List.{length-append}
use Rattle.std.proofs.lemmas.List.Elements.{All-nil, All-cons}
use Rattle.cancel_scopes.specs.Sight.{Level}
use Rattle.cancel_scopes.specs.Tree.{Stack, Tree, stack_of, outer_of, outer_levels, own_label, IsOpen, IsOwn, IsChain, IsApart}
use Rattle.cancel_scopes.specs.Kept.{Outline, Slots, Find, level_of, full, around, upward, stack_at, find_in, tree_of, IsUnder, IsTree}
use Rattle.cancel_scopes.proofs.StackLemmas.{stack_of-tree_of, stack_at-kept, kept_stack, upward-under}
use Rattle.cancel_scopes.proofs.CatchLemmas.{stack_is, stack_around}

-- the law, of one list of levels
abbrev pub Chains : Find → Stack → Type 0
Chains find stack =
    (before : Stack) (l : Level ℕ) (after : Stack) → stack ≡ before ++ l ∷ after → stack_at find l.label ≡ Some (l ∷ after)

chains-none : (find : Find) → Chains find []
chains-none find [] l after is = absurd (let e : [] ≡ l ∷ after = is in cc)
chains-none find (b ∷ bs) l after is = absurd (let e : [] ≡ b ∷ bs ++ l ∷ after = is in cc)

-- the law holds of an open scope if it holds of the scopes that enclose it
chains-full : (find : Find) (key : ℕ) (s : Outline) → find key ≡ Some s → Chains find (around find s) → Chains find (full find key s)
chains-full find key s kept outer [] l after is =
    let first : level_of key s ≡ l = cc in
    subst (λ (m : Level ℕ). stack_at find m.label ≡ Some (l ∷ after)) first (stack_at-kept find key s kept ∙ ap Some is)
chains-full find key s kept outer (b ∷ bs) l after is =
    outer bs l after (let e : full find key s ≡ b ∷ bs ++ l ∷ after = is in cc)

chains-upward : (find : Find) → IsTree find → (n : ℕ) (o : Option ℕ) → IsUnder find n o → Chains find (upward find n o)
chains-upward find tree zero o under = chains-none find
chains-upward find tree (suc n) None under = chains-none find
chains-upward find tree (suc n) (Some key) under =
    let above : Outline = under.0 in
    let deep : above.depth ≡ n = omega (arith, under.2) in
    let at : IsUnder find n above.parent = subst (λ (d : ℕ). IsUnder find d above.parent) deep (tree.placed key above under.1) in
    let outer : Chains find (around find above) =
    subst (λ (d : ℕ). Chains find (upward find d above.parent)) (sym deep) (chains-upward find tree n above.parent at) in
    subst (Chains find) (sym (upward-under find (suc n) key above under under.1)) (chains-full find key above under.1 outer)

chains-at : (find : Find) → IsTree find → (key : ℕ) (stack : Stack) (o : Option Outline) → find key ≡ o → stack_at find key ≡ Some stack →
    Chains find stack
chains-at find tree key stack None is seen = absurd (let e : stack_at find key ≡ None = rw is refl in cc)
chains-at find tree key stack (Some s) is seen =
    subst (Chains find) (sym (kept_stack find key s stack is seen))
    (chains-full find key s is (chains-upward find tree s.depth s.parent (tree.placed key s is)))

-- the rest of a stack is the stack of its first scope
pub is_chain : (slots : Slots) → IsTree (find_in slots) → IsChain (tree_of slots)
is_chain slots tree key stack seen before l after is =
    stack_of-tree_of slots l.label ∙ chains-at (find_in slots) tree key stack (find_in slots key) refl
    (sym (stack_of-tree_of slots key) ∙ seen) before l after is

own_at : (find : Find) (key : ℕ) (o : Option Outline) → find key ≡ o → (stack : Stack) → stack_at find key ≡ Some stack →
    own_label stack ≡ Some key
own_at find key None is stack seen = absurd (let e : stack_at find key ≡ None = rw is refl in cc)
own_at find key (Some s) is stack seen = ap own_label (kept_stack find key s stack is seen)

-- each stack begins with the scope that it belongs to
pub is_own : (slots : Slots) → IsOwn (tree_of slots)
is_own slots key stack seen = own_at (find_in slots) key (find_in slots key) refl stack (sym (stack_of-tree_of slots key) ∙ seen)

-- what does not occur in a list
lacks : (id : ℕ) (ls : Stack) → ((before : Stack) (m : Level ℕ) (after : Stack) → ls ≡ before ++ m ∷ after → m.label ≢ id) →
    All (λ m. m.label ≢ id) ls
lacks id [] h = All-nil (λ m. m.label ≢ id)
lacks id (m ∷ ms) h =
    All-cons (λ m. m.label ≢ id) m ms (h [] m ms refl) (lacks id ms
    (λ before n after is. h (m ∷ before) n after (ap (λ (rest : Stack). m ∷ rest) is)))

-- a scope that occurred twice in its stack would have a shorter stack
pub is_apart : (tree : Tree) → IsChain tree → IsApart tree
is_apart tree chain key stack seen before l after is =
    lacks l.label after (λ between m rest inside same.
    let first : stack_of tree l.label ≡ Some (l ∷ after) = chain key stack seen before l after is in
    let second : stack_of tree m.label ≡ Some (m ∷ rest) =
    chain l.label (l ∷ after) first (l ∷ between) m rest (ap (λ (outer : Stack). l ∷ outer) inside) in
    let both : Some (l ∷ after) ≡ Some (m ∷ rest) = sym first ∙ ap (stack_of tree) (sym same) ∙ second in
    let shorter : after ≡ rest = cc in
    let long : length after ≡ length between + length (m ∷ rest) = ap length inside ∙ length-append between (m ∷ rest) in
    let short : length after ≡ length rest = ap length shorter in
    absurd (omega (arith, long, short)))

-- the parent of an open scope
pub parent_open : (tree : Tree) (slots : Slots) (key parent : ℕ) (s : Outline) → tree_of slots ≡ tree → IsTree (find_in slots) →
    find_in slots key ≡ Some s → s.parent ≡ Some parent → IsOpen tree parent
parent_open tree slots key parent s is root kept up = rw (stack_around tree slots key parent s is root kept up) refl

-- the scopes that enclose a scope are its parent's stack
pub parent_around : (tree : Tree) (slots : Slots) (key id : ℕ) (s : Outline) (stack : Stack) → tree_of slots ≡ tree → key ≡ id →
    IsTree (find_in slots) → find_in slots key ≡ Some s → stack_of tree id ≡ Some stack → outer_of tree s.parent ≡ outer_levels stack
parent_around tree slots key id s stack is same root kept seen =
    by_parent s.parent refl ∙ sym (ap outer_levels (stack_is tree slots key id s stack is same kept seen))
  where
    by_parent : (o : Option ℕ) → s.parent ≡ o → outer_of tree o ≡ around (find_in slots) s
    by_parent None up =
        let deep : s.depth ≡ 0 = subst (IsUnder (find_in slots) s.depth) up (root.placed key s kept) in
        rw (up, deep) refl
    by_parent (Some parent) up = rw (stack_around tree slots key parent s is root kept up) refl
