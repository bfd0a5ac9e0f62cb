-- A scope that is closed keeps the other stacks.
use Rattle.std.proofs.Common.{◌≡◌, ◌≢◌, ℕ, zero, suc, ◌<◌, List, [], ◌∷◌, length, get_or, Option, Some, None, refl, sym, ap, subst, ◌∙◌, arith}
use Rattle.std.specs.Option.{option_map}
use Rattle.std.specs.List.{All}
use Rattle.std.proofs.lemmas.List.Elements.{All-head, All-tail}
use Rattle.cancel_scopes.specs.Sight.{Level}
use Rattle.cancel_scopes.specs.Tree.{Stack, Tree, stack_of, IsInnermost, OthersKeep}
use Rattle.cancel_scopes.specs.Kept.{Outline, Slots, Find, level_of, onto, full, around, upward, stack_at, scope_in, find_in, outline_of, tree_of, IsUnder, IsTree, children_at, Family}
use Rattle.cancel_scopes.proofs.StackLemmas.{stack_of-tree_of, stack_at-kept, stack_seen, upward-under, found_at}
use Rattle.cancel_scopes.proofs.WorkLemmas.{under_at}
use Rattle.cancel_scopes.specs.declared.store.Scope.{Scope}

-- the stack has no scope of this label
abbrev pub Lacks : ℕ → Stack → Type 0
Lacks id stack = All (λ l. l.label ≢ id) stack

first_lacks : (id : ℕ) (l : Level ℕ) (outer : Stack) → Lacks id (l ∷ outer) → l.label ≢ id
first_lacks id l outer lacks = All-head (λ l. l.label ≢ id) l outer lacks

rest_lacks : (id : ℕ) (l : Level ℕ) (outer : Stack) → Lacks id (l ∷ outer) → Lacks id outer
rest_lacks id l outer lacks = All-tail (λ l. l.label ≢ id) l outer lacks

-- nothing is stored under the id any more
pub record Closes (old new : Find) (id : ℕ) (s : Outline) : Type 0 where
  pub was : old id ≡ Some s
  pub free : new id ≡ None
  pub others : (other : ℕ) → other ≢ id → new other ≡ old other
  pub innermost : (other : ℕ) (stack : Stack) → other ≢ id → stack_at old other ≡ Some stack → Lacks id stack

upward-closes : (old new : Find) (id : ℕ) (s : Outline) → Closes old new id s → (n : ℕ) (o : Option ℕ) → Lacks id (upward old n o) →
    upward new n o ≡ upward old n o
upward-closes old new id s h zero o lacks = refl
upward-closes old new id s h (suc n) None lacks = refl
upward-closes old new id s h (suc n) (Some key) lacks = by_kept (old key) refl lacks (upward-closes old new id s h n)
  where
    by_kept : (o : Option Outline) → old key ≡ o → Lacks id (onto key o (λ s. upward old n s.parent)) →
        ((p : Option ℕ) → Lacks id (upward old n p) → upward new n p ≡ upward old n p) →
        onto key (new key) (λ s. upward new n s.parent) ≡ onto key (old key) (λ s. upward old n s.parent)
    by_kept None is lacks before =
        let same : new key ≡ None = h.others key (λ same. (let e = h.was in let f = ap old same in cc)) ∙ is in
        rw (same, is) refl
    by_kept (Some above) is lacks before =
        let same : new key ≡ Some above = h.others key (first_lacks id (level_of key above) (upward old n above.parent) lacks) ∙ is in
        rw (same, is) (ap (λ (outer : Stack). level_of key above ∷ outer)
        (before above.parent (rest_lacks id (level_of key above) (upward old n above.parent) lacks)))

-- every other scope keeps its stack
pub stack_at-closes : (old new : Find) (id : ℕ) (s : Outline) → Closes old new id s → (key : ℕ) → key ≢ id →
    stack_at new key ≡ stack_at old key
stack_at-closes old new id s h key differs = ap (option_map (full new key)) (h.others key differs) ∙ by_kept (old key) refl
  where
    by_kept : (o : Option Outline) → old key ≡ o → option_map (full new key) o ≡ option_map (full old key) o
    by_kept None is = refl
    by_kept (Some before) is =
        let lacks = h.innermost key (full old key before) differs (stack_at-kept old key before is) in
        ap (λ (outer : Stack). Some (level_of key before ∷ outer)) (upward-closes old new id s h before.depth before.parent
        (rest_lacks id (level_of key before) (around old before) lacks))

-- parents and depths of the others stay
pub IsTree-closes : {old new : Find} {id : ℕ} {s : Outline} → Closes old new id s → IsTree old → IsTree new
IsTree-closes {old} {new} {id} {s} h tree = record { placed = λ key other kept. placed_again key other kept }
  where
    by_parent : (depth : ℕ) (o : Option ℕ) → IsUnder old depth o → Lacks id (upward old depth o) → IsUnder new depth o
    by_parent depth None under lacks = under
    by_parent depth (Some parent) under lacks =
        let e : upward old depth (Some parent) ≡ full old parent under.0 = rw (under.2, under.1) refl in
        let outer = subst (Lacks id) e lacks in
        (under.0, h.others parent (first_lacks id (level_of parent under.0) (around old under.0) outer) ∙ under.1, under.2)

    placed_again : (key : ℕ) (other : Outline) → new key ≡ Some other → IsUnder new other.depth other.parent
    placed_again key other kept =
        let differs : key ≢ id = λ same. (let e = h.free in let f = ap new same in cc) in
        let was : old key ≡ Some other = sym (h.others key differs) ∙ kept in
        let lacks = h.innermost key (full old key other) differs (stack_at-kept old key other was) in
        by_parent other.depth other.parent (tree.placed key other was) (rest_lacks id (level_of key other) (around old other) lacks)

-- the same of the stored scopes, after other marks are written
pub innermost_kept : (tree : Tree) (slots unmarked : Slots) (key id : ℕ) → tree_of slots ≡ tree → key ≡ id →
    find_in unmarked ≡ find_in slots → IsInnermost tree id → (other : ℕ) (stack : Stack) → other ≢ key →
    stack_at (find_in unmarked) other ≡ Some stack → Lacks key stack
innermost_kept tree slots unmarked key id is same finds innermost other stack differs seen =
    rw same
    (innermost other stack (λ e. differs (e ∙ sym same)) (stack_seen tree slots other other is refl
    ∙ ap (λ (find : Find). stack_at find other) (sym finds) ∙ seen))

-- what the contract of the store says of a scope that is removed
pub closes : (tree : Tree) (slots new : Slots) (key id : ℕ) (s : Outline) → tree_of slots ≡ tree → key ≡ id → find_in slots key ≡ Some s →
    find_in new key ≡ None → ((other : ℕ) → other ≢ key → find_in new other ≡ find_in slots other) → IsInnermost tree id →
    Closes (find_in slots) (find_in new) key s
closes tree slots new key id s is same was free others innermost = record {
  was = was;
  free = free;
  others = others;
  innermost = innermost_kept tree slots slots key id is same refl innermost;
}

-- no scope is inside one that encloses no other
pub no_child : (find : Find) (key : ℕ) → IsTree find → ((other : ℕ) (stack : Stack) → other ≢ key → stack_at find other ≡ Some stack →
    Lacks key stack) → (k : ℕ) (s : Outline) → find k ≡ Some s → s.parent ≡ Some key → ⊥
no_child find key tree innermost k s kept up =
    let under : IsUnder find s.depth (Some key) = subst (IsUnder find s.depth) up (tree.placed k s kept) in
    let above : Outline = under.0 in
    let differs : k ≢ key = λ same.
    let e : Some above ≡ Some s = sym under.1 ∙ ap find (sym same) ∙ kept in
    let d : above.depth ≡ s.depth = ap depth_of e in
    absurd (omega (arith, d, under.2)) in
    let outer : Lacks key (around find s) =
    rest_lacks key (level_of k s) (around find s) (innermost k (full find k s) differs (stack_at-kept find k s kept)) in
    let is : around find s ≡ full find key above = ap (upward find s.depth) up ∙ upward-under find s.depth key above under under.1 in
    first_lacks key (level_of key above) (around find above) (subst (Lacks key) is outer) refl
  where
    depth_of : Option Outline → ℕ
    depth_of None = 0
    depth_of (Some o) = o.depth

-- so it has no children
pub childless : (slots : Slots) (key : ℕ) (s : Scope) → IsTree (find_in slots) → Family slots →
    ((other : ℕ) (stack : Stack) → other ≢ key → stack_at (find_in slots) other ≡ Some stack → Lacks key stack) →
    scope_in slots key ≡ Some s → s.children.items ≡ []
childless slots key s tree family innermost kept = by_list s.children.items refl
  where
    by_list : (list : List ℕ) → s.children.items ≡ list → s.children.items ≡ []
    by_list [] is = is
    by_list (k ∷ ks) is =
        let list : children_at (scope_in slots key) ≡ k ∷ ks = ap children_at kept ∙ is in
        let within : 0 < length (children_at (scope_in slots key)) = subst (λ (l : List ℕ). 0 < length l) (sym list) (omega arith) in
        let child = under_at key 0 (scope_in slots (get_or (children_at (scope_in slots key)) 0 0))
        ((family.children key).placed 0 within) in
        absurd (no_child (find_in slots) key tree innermost (get_or (children_at (scope_in slots key)) 0 0) (outline_of child.0)
        (found_at slots (get_or (children_at (scope_in slots key)) 0 0) child.0 child.1) child.2)

-- contracts see no stack there any more
pub tree_closed : (new : Slots) (key id : ℕ) → key ≡ id → find_in new key ≡ None → stack_of (tree_of new) id ≡ None
tree_closed new key id same free = rw (← same) (stack_of-tree_of new key ∙ ap (option_map (full (find_in new) key)) free)

-- contracts see every other stack as it was
pub closed-others : (tree : Tree) (slots new : Slots) (key id : ℕ) (s : Outline) → tree_of slots ≡ tree → key ≡ id →
    Closes (find_in slots) (find_in new) key s → OthersKeep tree (tree_of new) id
closed-others tree slots new key id s is same h other differs =
    stack_of-tree_of new other
    ∙ stack_at-closes (find_in slots) (find_in new) key s h other (λ e. differs (e ∙ same))
    ∙ sym (stack_seen tree slots other other is refl)
