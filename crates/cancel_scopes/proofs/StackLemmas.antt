-- The stacks that contracts see, as they are stored.
use Rattle.std.proofs.Common.{◌≡◌, ℕ, suc, List, Bool, false, map, length, Option, Some, None, is_some, IsSome, refl, sym, ap, subst, ◌∙◌, arith, inl, inr}
use Rattle.std.proofs.Math.Path.{fun_ext}
use Rattle.std.proofs.lemmas.Bool.{cases_lt}
use Rattle.std.proofs.lemmas.List.{get_or_past}
use Rattle.std.proofs.lemmas.List.FromFn.{get_or-map-range_with_len, length-map-range_with_len}
use Rattle.std.specs.Option.{option_map}
use Rattle.std.specs.List.{range_with_len}
use Rattle.cancel_scopes.specs.Tree.{Stack, Tree, stack_of, is_changed}
use Rattle.cancel_scopes.specs.Kept.{Outline, Slots, Find, full, upward, stack_at, scope_in, find_in, outline_of, index_of, is_listed, tree_of, IsUnder, IsTree}
use Rattle.cancel_scopes.specs.declared.store.Scope.{Scope}

-- a key's stack is that of what is kept under it
pub stack_of-tree_of : (slots : Slots) (key : ℕ) → stack_of (tree_of slots) key ≡ stack_at (find_in slots) key
stack_of-tree_of slots key =
    let seen : ℕ → Option Stack = stack_at (find_in slots) in
    elim (cases_lt key (length slots)) [
      | inl within ↦ get_or-map-range_with_len seen 0 (length slots) key key None within (omega arith)
      | inr past ↦
          let none : scope_in slots key ≡ None = get_or_past slots key None past in
          let long : length ((tree_of slots).stacks) ≡ length slots = length-map-range_with_len seen 0 (length slots) in
          get_or_past ((tree_of slots).stacks) key None (omega arith) ∙ sym
          (ap (λ (o : Option Scope). option_map (full (find_in slots) key) (option_map outline_of o)) none)
    ]

-- a key is marked where its scope is in the list of changed scopes
pub is_changed-tree_of : (slots : Slots) (key : ℕ) → is_changed (tree_of slots) key ≡ is_listed (scope_in slots key)
is_changed-tree_of slots key =
    let marked : ℕ → Bool = λ k. is_listed (scope_in slots k) in
    elim (cases_lt key (length slots)) [
      | inl within ↦ get_or-map-range_with_len marked 0 (length slots) key key false within (omega arith)
      | inr past ↦
          let none : scope_in slots key ≡ None = get_or_past slots key None past in
          let long : length ((tree_of slots).changed) ≡ length slots = length-map-range_with_len marked 0 (length slots) in
          get_or_past ((tree_of slots).changed) key false (omega arith) ∙ sym (ap is_listed none)
    ]

-- the same of a tree that is seen as these scopes
pub mark_seen : (tree : Tree) (slots : Slots) (key : ℕ) → tree_of slots ≡ tree → is_changed tree key ≡ is_listed (scope_in slots key)
mark_seen tree slots key is = rw (← is) (is_changed-tree_of slots key)

-- contracts see the same stacks where outlines stay
pub stacks_of-same : (old new : Slots) → length new ≡ length old → ((key : ℕ) → find_in new key ≡ find_in old key) →
    (tree_of new).stacks ≡ (tree_of old).stacks
stacks_of-same old new long finds =
    ap (λ (n : ℕ). map (stack_at (find_in new)) (range_with_len 0 n)) long
    ∙ ap (λ (find : Find). map (stack_at find) (range_with_len 0 (length old))) (fun_ext finds)

-- and the same in all where marks stay too
pub tree_of-same : (old new : Slots) → length new ≡ length old → ((key : ℕ) → find_in new key ≡ find_in old key) →
    ((key : ℕ) → index_of (scope_in new key) ≡ index_of (scope_in old key)) → tree_of new ≡ tree_of old
tree_of-same old new long finds marks =
    let marked : Slots → ℕ → Bool = λ slots key. is_listed (scope_in slots key) in
    let changed : (tree_of new).changed ≡ (tree_of old).changed =
    ap (λ (n : ℕ). map (marked new) (range_with_len 0 n)) long ∙ ap (λ (f : ℕ → Bool). map f (range_with_len 0 (length old)))
    (fun_ext (λ key. ap is_some (marks key))) in
    ap (λ (stacks : List (Option Stack)). let t : Tree = record { stacks = stacks; changed = (tree_of new).changed } in t)
    (stacks_of-same old new long finds)
    ∙ ap (λ (marks : List Bool). let t : Tree = record { stacks = (tree_of old).stacks; changed = marks } in t) changed

-- what is found is the outline of a scope that is kept
pub scope_at : (slots : Slots) (key : ℕ) (o : Outline) → find_in slots key ≡ Some o → (s : Scope) × (scope_in slots key ≡ Some s)
    × (outline_of s ≡ o)
scope_at slots key o found = by_kept (scope_in slots key) refl found
  where
    by_kept : (kept : Option Scope) → scope_in slots key ≡ kept → option_map outline_of kept ≡ Some o → (s : Scope)
        × (scope_in slots key ≡ Some s) × (outline_of s ≡ o)
    by_kept None is found = absurd (let e : None ≡ Some o = found in cc)
    by_kept (Some s) is found = (s, is, cc)

-- the outline of a scope that is kept is found
pub found_at : (slots : Slots) (key : ℕ) (s : Scope) → scope_in slots key ≡ Some s → find_in slots key ≡ Some (outline_of s)
found_at slots key s kept = ap (option_map outline_of) kept

-- the scope that directly encloses an open one
pub parent_at : (slots : Slots) (key parent : ℕ) (s : Scope) → IsTree (find_in slots) → scope_in slots key ≡ Some s →
    s.parent ≡ Some parent → (above : Scope) × (scope_in slots parent ≡ Some above) × (s.depth ≡ suc above.depth)
parent_at slots key parent s tree kept up =
    let under : IsUnder (find_in slots) s.depth (Some parent) =
    subst (IsUnder (find_in slots) s.depth) up (tree.placed key (outline_of s) (found_at slots key s kept)) in
    let above = scope_at slots parent under.0 under.1 in
    (above.0, above.1, under.2 ∙ sym (ap (λ (o : Outline). suc o.depth) above.2))

-- an outline is found where a scope is kept
pub is_some-find_in : (slots : Slots) (key : ℕ) → is_some (find_in slots key) ≡ is_some (scope_in slots key)
is_some-find_in slots key = by_kept (scope_in slots key)
  where
    by_kept : (o : Option Scope) → is_some (option_map outline_of o) ≡ is_some o
    by_kept None = refl
    by_kept (Some s) = refl

-- the same of a tree that is seen as these scopes, at a key under another name
pub stack_seen : (tree : Tree) (slots : Slots) (key id : ℕ) → tree_of slots ≡ tree → key ≡ id →
    stack_of tree id ≡ stack_at (find_in slots) key
stack_seen tree slots key id is same = rw (← is, ← same) (stack_of-tree_of slots key)

-- a stack is found where an outline is
pub is_some-stack_at : (find : Find) (key : ℕ) → is_some (stack_at find key) ≡ is_some (find key)
is_some-stack_at find key = by_kept (find key)
  where
    by_kept : (o : Option Outline) → is_some (option_map (full find key) o) ≡ is_some o
    by_kept None = refl
    by_kept (Some s) = refl

-- what is open is kept
pub kept_where_open : (tree : Tree) (slots : Slots) (key id : ℕ) → tree_of slots ≡ tree → key ≡ id → IsSome (stack_of tree id) →
    IsSome (scope_in slots key)
kept_where_open tree slots key id is same whole =
    sym (is_some-find_in slots key) ∙ sym (is_some-stack_at (find_in slots) key) ∙ sym (ap is_some (stack_seen tree slots key id is same))
    ∙ whole

-- the stack of what is kept
pub stack_at-kept : (find : Find) (key : ℕ) (s : Outline) → find key ≡ Some s → stack_at find key ≡ Some (full find key s)
stack_at-kept find key s kept = ap (option_map (full find key)) kept

-- a stack that is found is that of what is kept
pub kept_stack : (find : Find) (key : ℕ) (s : Outline) (stack : Stack) → find key ≡ Some s → stack_at find key ≡ Some stack →
    stack ≡ full find key s
kept_stack find key s stack kept seen =
    let e : stack_at find key ≡ Some (full find key s) = stack_at-kept find key s kept in
    cc

-- the scopes that enclose a scope under a parent are the parent's stack
pub upward-under : (find : Find) (depth parent : ℕ) (above : Outline) → IsUnder find depth (Some parent) → find parent ≡ Some above →
    upward find depth (Some parent) ≡ full find parent above
upward-under find depth parent above under kept =
    let same : under.0 ≡ above = (let e = under.1 in cc) in
    let deep : depth ≡ suc above.depth = under.2 ∙ ap (λ (s : Outline). suc s.depth) same in
    rw (deep, kept) refl
