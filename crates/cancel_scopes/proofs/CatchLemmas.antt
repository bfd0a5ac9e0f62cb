-- Which scope catches, as scopes are stored.
use Rattle.std.proofs.Common.{◌≡◌, ℕ, Bool, true, false, not, [], Some, None, refl, sym, ap, subst, ◌∙◌}
use Rattle.std.specs.Prelude.{◌||◌}
use Rattle.cancel_scopes.specs.Sight.{is_reached, seen}
use Rattle.cancel_scopes.specs.Tree.{Stack, Tree, stack_of, catches}
use Rattle.cancel_scopes.specs.Kept.{Outline, Slots, Find, full, around, upward, find_in, tree_of, IsUnder, IsTree}
use Rattle.cancel_scopes.proofs.StackLemmas.{stack_seen, stack_at-kept, kept_stack, upward-under}

-- an open scope's stack, as it is stored
pub stack_is : (tree : Tree) (slots : Slots) (key id : ℕ) (s : Outline) (stack : Stack) → tree_of slots ≡ tree → key ≡ id →
    find_in slots key ≡ Some s → stack_of tree id ≡ Some stack → stack ≡ full (find_in slots) key s
stack_is tree slots key id s stack is same kept seen =
    kept_stack (find_in slots) key s stack kept (sym (stack_seen tree slots key id is same) ∙ seen)

-- the parent's stack is the stack of the scopes that enclose a scope
pub stack_around : (tree : Tree) (slots : Slots) (key parent : ℕ) (s : Outline) → tree_of slots ≡ tree → IsTree (find_in slots) →
    find_in slots key ≡ Some s → s.parent ≡ Some parent → stack_of tree parent ≡ Some (around (find_in slots) s)
stack_around tree slots key parent s is root kept up =
    let under : IsUnder (find_in slots) s.depth (Some parent) = subst (IsUnder (find_in slots) s.depth) up (root.placed key s kept) in
    let e : around (find_in slots) s ≡ full (find_in slots) parent under.0 =
    ap (upward (find_in slots) s.depth) up ∙ upward-under (find_in slots) s.depth parent under.0 under under.1 in
    stack_seen tree slots parent parent is refl ∙ stack_at-kept (find_in slots) parent under.0 under.1 ∙ ap Some (sym e)

-- a scope that is not cancelled yet does not catch
pub catches-not : (find : Find) (key : ℕ) (s : Outline) (tick : ℕ) (stack : Stack) → stack ≡ full find key s → is_reached s.from tick ≡ false →
    false ≡ catches stack tick
catches-not find key s tick stack is early = rw (is, early) refl

-- one that is cancelled by then and has a shield catches
pub catches-shielded : (find : Find) (key : ℕ) (s : Outline) (tick : ℕ) (stack : Stack) → stack ≡ full find key s →
    is_reached s.from tick ≡ true → s.shield ≡ true → true ≡ catches stack tick
catches-shielded find key s tick stack is late shielded = rw (is, late, shielded) refl

-- an unshielded one catches where its parent sees nothing
pub catches-inner : (find : Find) (key : ℕ) (s : Outline) (tick : ℕ) (stack : Stack) (outside : Bool) → stack ≡ full find key s →
    is_reached s.from tick ≡ true → s.shield ≡ false → outside ≡ seen (around find s) tick → not outside ≡ catches stack tick
catches-inner find key s tick stack outside is late bare sees = rw (is, late, bare, sees) refl

-- an outermost one that is cancelled by then catches
pub catches-outermost : (find : Find) (key : ℕ) (s : Outline) (tick : ℕ) (stack : Stack) → stack ≡ full find key s →
    is_reached s.from tick ≡ true → IsUnder find s.depth s.parent → s.parent ≡ None → true ≡ catches stack tick
catches-outermost find key s tick stack is late under up =
    let deep : s.depth ≡ 0 = subst (IsUnder find s.depth) up under in
    let e : around find s ≡ [] = rw (up, deep) refl in
    rw (is, late, e) (by_shield s.shield)
  where
    by_shield : (shield : Bool) → true ≡ (shield || true)
    by_shield true = refl
    by_shield false = refl
