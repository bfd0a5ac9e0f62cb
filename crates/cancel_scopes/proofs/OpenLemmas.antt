-- A scope that is opened keeps the other stacks.
use Rattle.std.proofs.Common.{◌≡◌, ◌≢◌, ◌⊎◌, ℕ, zero, suc, ◌≤◌, Bool, false, List, [], ◌∷◌, length, Option, Some, None, is_some, refl, sym, ap, subst, ◌∙◌, arith, inl, inr}
use Rattle.std.proofs.lemmas.Bool.{cases_eq}
use Rattle.std.specs.Option.{option_map, unwrap_or}
use Rattle.cancel_scopes.specs.Sight.{Level, Tick, sight}
use Rattle.cancel_scopes.specs.Tree.{Stack, Tree, stack_of, outer_of, is_changed, OthersKeep, SameMarks}
use Rattle.cancel_scopes.specs.Kept.{Outline, Slots, Find, level_of, full, upward, stack_at, scope_in, find_in, outline_of, tree_of, IsUnder, IsTree, own_sight, sight_of, seen_at, index_of, indices_in, is_listed, IsListed, Family, IsReady}
use Rattle.cancel_scopes.proofs.StackLemmas.{stack_of-tree_of, stack_seen, stack_at-kept, upward-under, is_changed-tree_of, mark_seen}
use Rattle.cancel_scopes.specs.Children.{SameOutlines}
use Rattle.cancel_scopes.proofs.MarkLemmas.{same-tree, same-sights, listed-same}
use Rattle.cancel_scopes.specs.declared.store.Scope.{Scope}

-- what was stored still is
abbrev pub Keeps : Find → Find → Type 0
Keeps old new = (key : ℕ) (s : Outline) → old key ≡ Some s → new key ≡ Some s

upward-keeps : (old new : Find) → Keeps old new → IsTree old → (n : ℕ) (o : Option ℕ) → IsUnder old n o → upward new n o ≡ upward old n o
upward-keeps old new h tree zero o under = refl
upward-keeps old new h tree (suc n) None under = refl
upward-keeps old new h tree (suc n) (Some key) under =
    let above : Outline = under.0 in
    let kept : old key ≡ Some above = under.1 in
    let later : new key ≡ Some above = h key above kept in
    let deep : above.depth ≡ n = omega (arith, under.2) in
    let at : IsUnder old n above.parent = subst (λ (d : ℕ). IsUnder old d above.parent) deep (tree.placed key above kept) in
    rw (kept, later) (ap (λ (outer : Stack). level_of key above ∷ outer) (upward-keeps old new h tree n above.parent at))

-- stacks that were there still are
pub stack_at-keeps : (old new : Find) → Keeps old new → IsTree old → (key : ℕ) → new key ≡ old key → stack_at new key ≡ stack_at old key
stack_at-keeps old new h tree key same = ap (option_map (full new key)) same ∙ by_kept (old key) refl
  where
    by_kept : (o : Option Outline) → old key ≡ o → option_map (full new key) o ≡ option_map (full old key) o
    by_kept None is = refl
    by_kept (Some s) is = ap (λ (outer : Stack). Some (level_of key s ∷ outer))
        (upward-keeps old new h tree s.depth s.parent (tree.placed key s is))

-- the new scope is at a key that was free
pub record Opens (old new : Find) (key : ℕ) (s : Outline) : Type 0 where
  pub free : old key ≡ None
  pub kept : new key ≡ Some s
  pub others : (other : ℕ) → other ≢ key → new other ≡ old other
  pub under : IsUnder old s.depth s.parent

-- a scope at a free key keeps all others
pub opens-keeps : {old new : Find} {key : ℕ} {s : Outline} → Opens old new key s → Keeps old new
opens-keeps {old} h at before was =
    h.others at (λ same. (let e = h.free in let f = ap old same in cc)) ∙ was

-- the parent's stack, as it is stored
outer_of-kept : (slots : Slots) (depth : ℕ) (parent : Option ℕ) → IsUnder (find_in slots) depth parent →
    upward (find_in slots) depth parent ≡ outer_of (tree_of slots) parent
outer_of-kept slots depth None under = rw under refl
outer_of-kept slots depth (Some parent) under =
    upward-under (find_in slots) depth parent under.0 under under.1
    ∙ sym (ap (λ (o : Option Stack). unwrap_or o []) (stack_of-tree_of slots parent ∙ stack_at-kept (find_in slots) parent under.0 under.1))

-- the scope is put at a key that was free
pub record Inserts (slots new : Slots) (key : ℕ) (s : Scope) : Type 0 where
  pub free : scope_in slots key ≡ None
  pub kept : scope_in new key ≡ Some s
  pub others : (other : ℕ) → other ≢ key → scope_in new other ≡ scope_in slots other
  pub under : IsUnder (find_in slots) s.depth s.parent

-- the same of outlines
pub opens : (slots new : Slots) (key : ℕ) (s : Scope) → Inserts slots new key s → Opens (find_in slots) (find_in new) key (outline_of s)
opens slots new key s h = record {
  free = ap (option_map outline_of) h.free;
  kept = ap (option_map outline_of) h.kept;
  others = λ other differs. ap (option_map outline_of) (h.others other differs);
  under = h.under;
}

-- the key had no stack
pub fresh : (tree : Tree) (slots : Slots) (key : ℕ) → tree_of slots ≡ tree → scope_in slots key ≡ None → stack_of tree key ≡ None
fresh tree slots key is free =
    stack_seen tree slots key key is refl ∙ ap (λ (o : Option Scope). option_map (full (find_in slots) key) (option_map outline_of o)) free

-- the new stack is the new level on that of the parent
pub opened : (tree : Tree) (slots new : Slots) (key : ℕ) (s : Outline) (parent : Option ℕ) (l : Level ℕ) → tree_of slots ≡ tree →
    Opens (find_in slots) (find_in new) key s → IsTree (find_in slots) → s.parent ≡ parent → level_of key s ≡ l →
    stack_of (tree_of new) key ≡ Some (l ∷ outer_of tree parent)
opened tree slots new key s parent l is h root same level =
    rw (← is, ← same, ← level)
    (stack_of-tree_of new key
    ∙ stack_at-kept (find_in new) key s h.kept
    ∙ ap (λ (outer : Stack). Some (level_of key s ∷ outer)) (upward-keeps (find_in slots) (find_in new) (opens-keeps h) root s.depth
    s.parent h.under ∙ outer_of-kept slots s.depth s.parent h.under))

-- every other stack stays
pub opened-others : (tree : Tree) (slots new : Slots) (key : ℕ) (s : Outline) → tree_of slots ≡ tree →
    Opens (find_in slots) (find_in new) key s → IsTree (find_in slots) → OthersKeep tree (tree_of new) key
opened-others tree slots new key s is h root other differs =
    stack_of-tree_of new other
    ∙ stack_at-keeps (find_in slots) (find_in new) (opens-keeps h) root other (h.others other differs)
    ∙ sym (stack_seen tree slots other other is refl)

-- the parents that were open still are
under_keeps : (old new : Find) → Keeps old new → (depth : ℕ) (parent : Option ℕ) → IsUnder old depth parent → IsUnder new depth parent
under_keeps old new h depth None under = under
under_keeps old new h depth (Some parent) under = (under.0, h parent under.0 under.1, under.2)

-- the tree stays one
pub IsTree-opens : (old new : Find) (key : ℕ) (s : Outline) → Opens old new key s → IsTree old → IsTree new
IsTree-opens old new key s h tree = record { placed = λ k o found. by_key k o found (cases_eq k key) }
  where
    by_key : (k : ℕ) (o : Outline) → new k ≡ Some o → (k ≡ key) ⊎ (k ≢ key) → IsUnder new o.depth o.parent
    by_key k o found (inl same) =
        let e : Some s ≡ Some o = sym h.kept ∙ ap new (sym same) ∙ found in
        let is : s ≡ o = cc in
        subst (λ (p : Outline). IsUnder new p.depth p.parent) is (under_keeps old new (opens-keeps h) s.depth s.parent h.under)
    by_key k o found (inr differs) =
        under_keeps old new (opens-keeps h) o.depth o.parent (tree.placed k o (sym (h.others k differs) ∙ found))

-- a scope is opened with the effective deadline of its stack, and is appended to its parent's children
module _ (slots inserted : Slots) (key : ℕ) (s : Scope) where
  -- so the tree is ready again
  pub opened-ready : (new : Slots) (was changed : List ℕ) (had lowered_was lowered_had room lowered lowered_room : ℕ) (parent : Option ℕ)
      (shield : Bool) (from : Tick) → IsReady slots was had lowered_was lowered_had → Inserts slots inserted key s → s.parent ≡ parent →
      s.shield ≡ shield → s.from ≡ from → s.sight ≡ sight (record { label = 0; shield = shield; from = from }
      ∷ upward (find_in slots) s.depth parent) → s.listed ≡ None → SameOutlines inserted new → Family new → changed ≡ was →
      length new ≤ room → lowered ≡ 0 → length new ≤ lowered_room → IsReady new changed room lowered lowered_room
  opened-ready new was changed had lowered_was lowered_had room lowered lowered_room parent shield from h ins parent_is shield_is from_is
      sees unmarked same family list_is fits none lowered_fits = record {
        tree = same-tree inserted new same.finds (IsTree-opens (find_in slots) (find_in inserted) key (outline_of s) at_key h.tree);
        family = family;
        sights = same-sights inserted new same.finds same.sights (λ k. sight_at k (cases_eq k key));
        listed = subst (IsListed new) (sym list_is) (listed-same slots new was (λ k. same.marks k ∙ index_at k (cases_eq k key)) h.listed);
        changed_fits = fits;
        none_lowered = none;
        lowered_fits = lowered_fits;
      }
    where
      at_key : Opens (find_in slots) (find_in inserted) key (outline_of s)
      at_key = opens slots inserted key s ins

      sight_at : (k : ℕ) → (k ≡ key) ⊎ (k ≢ key) → own_sight (scope_in inserted k) ≡ seen_at (find_in inserted) k
      sight_at k (inl same) =
          let up : upward (find_in inserted) s.depth s.parent ≡ upward (find_in slots) s.depth s.parent =
          upward-keeps (find_in slots) (find_in inserted) (opens-keeps at_key) h.tree s.depth s.parent at_key.under in
          let at : stack_at (find_in inserted) key ≡ Some (full (find_in inserted) key (outline_of s)) =
          stack_at-kept (find_in inserted) key (outline_of s) at_key.kept in
          let own : own_sight (scope_in inserted key) ≡ s.sight = ap own_sight ins.kept in
          let e : sight (full (find_in inserted) key (outline_of s)) ≡ sight
          (record { label = 0; shield = shield; from = from } ∷ upward (find_in slots) s.depth parent) =
          rw (up, parent_is, shield_is, from_is) refl in
          let here : own_sight (scope_in inserted key) ≡ seen_at (find_in inserted) key = own ∙ sees ∙ sym e ∙ sym (ap sight_of at) in
          subst (λ (n : ℕ). own_sight (scope_in inserted n) ≡ seen_at (find_in inserted) n) (sym same) here
      sight_at k (inr differs) =
          ap own_sight (ins.others k differs) ∙ h.sights k
          ∙ sym (ap sight_of (stack_at-keeps (find_in slots) (find_in inserted) (opens-keeps at_key) h.tree k (at_key.others k differs)))

      index_at : (k : ℕ) → (k ≡ key) ⊎ (k ≢ key) → indices_in inserted k ≡ indices_in slots k
      index_at k (inl same) = ap (indices_in inserted) same ∙ ap index_of ins.kept ∙ unmarked ∙ sym (ap index_of ins.free)
          ∙ ap (indices_in slots) (sym same)
      index_at k (inr differs) = ap index_of (ins.others k differs)

  -- the new scope is not marked as changed
  pub opened-unmarked : scope_in inserted key ≡ Some s → s.listed ≡ None → is_changed (tree_of inserted) key ≡ false
  opened-unmarked kept unmarked = is_changed-tree_of inserted key ∙ ap is_listed kept ∙ ap is_some unmarked

  -- and no mark changes
  pub opened-marks : (tree : Tree) → tree_of slots ≡ tree → Inserts slots inserted key s → s.listed ≡ None →
      SameMarks tree (tree_of inserted)
  opened-marks tree is ins unmarked k = is_changed-tree_of inserted k ∙ by_key (cases_eq k key) ∙ sym (mark_seen tree slots k is)
    where
      by_key : (k ≡ key) ⊎ (k ≢ key) → is_listed (scope_in inserted k) ≡ is_listed (scope_in slots k)
      by_key (inl same) =
          ap (λ (n : ℕ). is_listed (scope_in inserted n)) same ∙ ap is_listed ins.kept ∙ ap is_some unmarked ∙ sym (ap is_listed ins.free)
          ∙ ap (λ (n : ℕ). is_listed (scope_in slots n)) (sym same)
      by_key (inr differs) = ap is_listed (ins.others k differs)
