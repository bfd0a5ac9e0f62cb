-- A scope leaves its parent's children.
use Rattle.std.proofs.Common.{◌≡◌, ◌≢◌, ◌⊎◌, ℕ, suc, ◌-◌, ◌<◌, ◌≤◌, Bool, true, false, List, [], length, get_or, slice_set, Option, Some, None, is_some, IsSome, refl, sym, ap, subst, ◌∙◌, arith, inl, inr}
use Rattle.std.specs.Prelude.{if◌then◌else◌}
use Rattle.std.proofs.lemmas.Bool.{cases_eq, eq-eqb}
use Rattle.cancel_scopes.specs.Kept.{Slots, IsTree, scope_in, find_in, outline_of, IsPlaced, parent_is, index_under, children_at, Family}
use Rattle.cancel_scopes.specs.Children.{SameOutlines, indices_but, Lost}
use Rattle.cancel_scopes.proofs.StackLemmas.{parent_at}
use Rattle.cancel_scopes.proofs.SlotLemmas.{written, unwritten, same_by}
use Rattle.cancel_scopes.proofs.IndexLemmas.{Removed, placed-removed, some_same}
use Rattle.cancel_scopes.proofs.ChildLemmas.{but_here, but_other, placed-same, other_parent, added-outlines, outlines-then}
use Rattle.cancel_scopes.proofs.WorkLemmas.{under_at, scope_same}
use Rattle.cancel_scopes.specs.declared.store.Scope.{Scope}

no_index : (slots : Slots) (key : ℕ) → scope_in slots key ≡ None → (p k : ℕ) → (k ≡ key) ⊎ (k ≢ key) →
    index_under p (scope_in slots k) ≡ indices_but slots key None p k
no_index slots key free p k (inl same) =
    ap (λ (n : ℕ). index_under p (scope_in slots n)) same ∙ ap (index_under p) free ∙ sym (but_here slots key None p)
    ∙ ap (indices_but slots key None p) (sym same)
no_index slots key free p k (inr differs) = sym (but_other slots key None p k differs)

-- an outermost scope was no scope's child
pub left-none : (slots : Slots) (index : ℕ) → Lost slots None index → Family slots
left-none slots index h = record {
  children = λ p. placed-same (indices_but slots h.key None p) (λ k. index_under p (scope_in slots k)) (children_at (scope_in slots p))
      (children_at (scope_in slots p))
      (λ k. no_index slots h.key h.free p k (cases_eq k h.key)) refl (h.others p);
}

-- the last of its parent's children moves to its index
module _ (slots : Slots) (parent index : ℕ) (s : Scope) (rest : List ℕ) where
  among : (h : Lost slots (Some parent) index) → scope_in slots parent ≡ Some s →
      IsPlaced (indices_but slots h.key (Some index) parent) s.children.items
  among h kept =
      let P : Bool → Type 0 = λ b. IsPlaced (indices_but slots h.key (if b then Some index else None) parent)
      (children_at (scope_in slots parent)) in
      subst (λ (l : List ℕ). IsPlaced (indices_but slots h.key (Some index) parent) l) (ap children_at kept)
      (subst P (eq-eqb parent parent refl) (h.others parent))

  -- the index of the removed scope is in the list
  pub index_within : Lost slots (Some parent) index → scope_in slots parent ≡ Some s → index < length s.children.items
  index_within h kept = ((among h kept).stands h.key index (but_here slots h.key (Some index) parent)).0

  last_index : (h : Lost slots (Some parent) index) → scope_in slots parent ≡ Some s → Removed s.children.items rest index →
      index < length rest → indices_but slots h.key (Some index) parent (get_or rest index 0) ≡ Some (length s.children.items - 1)
  last_index h kept r inside =
      ap (indices_but slots h.key (Some index) parent) (r.seam (omega (arith, inside, r.long)))
      ∙ (among h kept).placed (length s.children.items - 1) (omega (arith, inside, r.long))

  last_differs : (h : Lost slots (Some parent) index) → scope_in slots parent ≡ Some s → Removed s.children.items rest index →
      index < length rest → get_or rest index 0 ≢ h.key
  last_differs h kept r inside same =
      let last : index ≡ length s.children.items - 1 =
      some_same index (length s.children.items - 1) (sym (but_here slots h.key (Some index) parent)
      ∙ ap (indices_but slots h.key (Some index) parent) (sym same) ∙ last_index h kept r inside) in
      absurd (omega (arith, last, inside, r.long))

  last_under : Lost slots (Some parent) index → scope_in slots parent ≡ Some s → Removed s.children.items rest index → index < length rest →
      index_under parent (scope_in slots (get_or rest index 0)) ≡ Some (length s.children.items - 1)
  last_under h kept r inside =
      sym (but_other slots h.key (Some index) parent (get_or rest index 0) (last_differs h kept r inside)) ∙ last_index h kept r inside

  left : (new : Slots) → Lost slots (Some parent) index → scope_in slots parent ≡ Some s → Removed s.children.items rest index →
      children_at (scope_in new parent) ≡ rest → ((p : ℕ) → p ≢ parent → children_at (scope_in new p) ≡ children_at (scope_in slots p)) →
      ((p k : ℕ) → p ≢ parent → index_under p (scope_in new k) ≡ index_under p (scope_in slots k)) →
      ((k : ℕ) → (index < length rest → k ≢ get_or rest index 0) →
      index_under parent (scope_in new k) ≡ index_under parent (scope_in slots k)) →
      (index < length rest → index_under parent (scope_in new (get_or rest index 0)) ≡ Some index) → Family new
  left new h kept r list_is lists_same others_same mine_same moved = record { children = λ p. by_parent p (cases_eq p parent) }
    where
      mine : IsPlaced (λ k. index_under parent (scope_in new k)) rest
      mine =
          placed-removed (indices_but slots h.key (Some index) parent) (λ k. index_under parent (scope_in new k)) s.children.items rest h.key
          index
          (among h kept) (but_here slots h.key (Some index) parent) r.long r.seam r.keeps
          (mine_same h.key (λ inside e. last_differs h kept r inside (sym e)) ∙ ap (index_under parent) h.free)
          moved
          (λ k differs apart. mine_same k apart ∙ sym (but_other slots h.key (Some index) parent k differs))

      theirs : (p : ℕ) → p ≢ parent → IsPlaced (indices_but slots h.key None p) (children_at (scope_in slots p))
      theirs p away =
          let P : Bool → Type 0 = λ b. IsPlaced (indices_but slots h.key (if b then Some index else None) p)
          (children_at (scope_in slots p)) in
          subst P (other_parent p parent away) (h.others p)

      by_parent : (p : ℕ) → (p ≡ parent) ⊎ (p ≢ parent) → IsPlaced (λ k. index_under p (scope_in new k)) (children_at (scope_in new p))
      by_parent p (inl same) =
          subst (λ (n : ℕ). IsPlaced (λ k. index_under n (scope_in new k)) (children_at (scope_in new n))) (sym same)
          (subst (λ (l : List ℕ). IsPlaced (λ k. index_under parent (scope_in new k)) l) (sym list_is) mine)
      by_parent p (inr away) =
          placed-same (indices_but slots h.key None p) (λ k. index_under p (scope_in new k)) (children_at (scope_in slots p))
          (children_at (scope_in new p))
          (λ k. others_same p k away ∙ no_index slots h.key h.free p k (cases_eq k h.key)) (lists_same p away) (theirs p away)

  module _ (t : Scope) where
    -- the slots after the write to the parent
    abbrev pub parted : Slots
    parted = slice_set slots parent (Some t)

    under_parted : scope_in slots parent ≡ Some s → t.parent ≡ s.parent → t.index ≡ s.index → (p k : ℕ) →
        index_under p (scope_in parted k) ≡ index_under p (scope_in slots k)
    under_parted kept up at p =
        same_by (index_under p) slots parent s (Some t) kept
        (ap (λ (o : Option ℕ). if parent_is p o then Some t.index else None) up
        ∙ ap (λ (n : ℕ). if parent_is p s.parent then Some n else None) at)

    -- the removed scope was last
    pub left-last : Lost slots (Some parent) index → scope_in slots parent ≡ Some s → Removed s.children.items rest index →
        t.parent ≡ s.parent → t.index ≡ s.index → t.children.items ≡ rest → length rest ≤ index → Family parted
    left-last h kept r up at children out =
        left parted h kept r (ap children_at (written slots parent s (Some t) kept) ∙ children)
        (λ p away. ap children_at (unwritten slots parent p (Some t) away))
        (λ p k away. under_parted kept up at p k)
        (λ k apart. under_parted kept up at parent k)
        (λ inside. absurd (omega (arith, inside, out)))

    moved_under : (moved : ℕ) → Lost slots (Some parent) index → scope_in slots parent ≡ Some s → Removed s.children.items rest index →
        t.parent ≡ s.parent → t.index ≡ s.index → index < length rest → moved ≡ get_or rest index 0 → (m : Scope)
        × (scope_in parted moved ≡ Some m) × (m.parent ≡ Some parent) × (m.index ≡ length s.children.items - 1)
    moved_under moved h kept r up at inside is =
        under_at parent (length s.children.items - 1) (scope_in parted moved)
        (under_parted kept up at parent moved ∙ ap (λ (n : ℕ). index_under parent (scope_in slots n)) is ∙ last_under h kept r inside)

    -- the scope that moves to the index is open
    pub moved_kept : (moved : ℕ) → Lost slots (Some parent) index → scope_in slots parent ≡ Some s → Removed s.children.items rest index →
        t.parent ≡ s.parent → t.index ≡ s.index → index < length rest → moved ≡ get_or rest index 0 → IsSome (scope_in parted moved)
    moved_kept moved h kept r up at inside is = ap is_some (moved_under moved h kept r up at inside is).1

    module _ (moved : ℕ) (m : Scope) where
      -- the slots with its new index
      abbrev pub settled_in : Slots
      settled_in = slice_set parted moved (Some (record m { index = index }))

      -- neither write changes an outline
      pub left-outlines : scope_in slots parent ≡ Some s → outline_of t ≡ outline_of s → t.sight ≡ s.sight → t.listed ≡ s.listed →
          scope_in parted moved ≡ Some m → SameOutlines slots settled_in
      left-outlines kept outline sight listed stays =
          outlines-then slots parted settled_in
          (added-outlines slots 0 parent s t kept outline sight listed)
          (added-outlines parted 0 moved m (record m { index = index }) stays refl refl refl)

      -- the last scope moves to the index
      pub left-moved : Lost slots (Some parent) index → scope_in slots parent ≡ Some s → Removed s.children.items rest index →
          t.parent ≡ s.parent → t.index ≡ s.index → t.children.items ≡ rest → index < length rest → moved ≡ get_or rest index 0 →
          scope_in parted moved ≡ Some m → Family settled_in
      left-moved h kept r up at children inside is stays =
          left settled_in h kept r
          (lists parent ∙ ap children_at (written slots parent s (Some t) kept) ∙ children)
          (λ p away. lists p ∙ ap children_at (unwritten slots parent p (Some t) away))
          (λ p k away. same_by (index_under p) parted moved m n stays (elsewhere p away) k ∙ under_parted kept up at p k)
          (λ k apart. ap (index_under parent) (unwritten parted moved k n (λ e. apart inside (e ∙ is))) ∙ under_parted kept up at parent k)
          (λ _. ap (λ (k : ℕ). index_under parent (scope_in settled_in k)) (sym is)
          ∙ ap (index_under parent) (written parted moved m n stays) ∙ here)
        where
          n : Option Scope
          n = Some (record m { index = index })

          lists : (p : ℕ) → children_at (scope_in settled_in p) ≡ children_at (scope_in parted p)
          lists = same_by children_at parted moved m n stays refl

          child : m.parent ≡ Some parent
          child =
              let u = moved_under moved h kept r up at inside is in
              ap (λ (x : Scope). x.parent) (scope_same parted moved m u.0 stays u.1) ∙ u.2

          elsewhere : (p : ℕ) → p ≢ parent → index_under p n ≡ index_under p (Some m)
          elsewhere p away =
              let test : parent_is p m.parent ≡ false = ap (parent_is p) child ∙ other_parent p parent away in
              ap (λ (b : Bool). if b then Some index else None) test ∙ sym (ap (λ (b : Bool). if b then Some m.index else None) test)

          here : index_under parent n ≡ Some index
          here =
              let test : parent_is parent m.parent ≡ true = ap (parent_is parent) child ∙ eq-eqb parent parent refl in
              ap (λ (b : Bool). if b then Some index else None) test

-- a scope without children was removed, and is still among its parent's children
pub lost : (slots emptied : Slots) (key : ℕ) (s : Scope) → IsTree (find_in slots) → Family slots → scope_in slots key ≡ Some s →
    scope_in emptied key ≡ None → ((other : ℕ) → other ≢ key → scope_in emptied other ≡ scope_in slots other) → s.children.items ≡ [] →
    Lost emptied s.parent s.index
lost slots emptied key s tree family kept free others childless = record {
  key = key;
  free = free;
  others = λ p. placed-same (λ k. index_under p (scope_in slots k)) (indices_but emptied key (index_under p (Some s)) p)
      (children_at (scope_in slots p)) (children_at (scope_in emptied p))
      (λ k. by_key p k (cases_eq k key)) (list_at p (cases_eq p key)) (family.children p);
  kept = λ p up. parent_kept p up (parent_at slots key p s tree kept up);
}
  where
    by_key : (p k : ℕ) → (k ≡ key) ⊎ (k ≢ key) → indices_but emptied key (index_under p (Some s)) p k ≡ index_under p (scope_in slots k)
    by_key p k (inl same) =
        ap (indices_but emptied key (index_under p (Some s)) p) same ∙ but_here emptied key (index_under p (Some s)) p
        ∙ sym (ap (λ (n : ℕ). index_under p (scope_in slots n)) same ∙ ap (index_under p) kept)
    by_key p k (inr differs) = but_other emptied key (index_under p (Some s)) p k differs ∙ ap (index_under p) (others k differs)

    list_at : (p : ℕ) → (p ≡ key) ⊎ (p ≢ key) → children_at (scope_in emptied p) ≡ children_at (scope_in slots p)
    list_at p (inl same) =
        ap (λ (n : ℕ). children_at (scope_in emptied n)) same ∙ ap children_at free
        ∙ sym (ap (λ (n : ℕ). children_at (scope_in slots n)) same ∙ ap children_at kept ∙ childless)
    list_at p (inr differs) = ap children_at (others p differs)

    parent_kept : (p : ℕ) → s.parent ≡ Some p → (above : Scope) × (scope_in slots p ≡ Some above) × (s.depth ≡ suc above.depth) →
        (t : Scope) × (scope_in emptied p ≡ Some t)
    parent_kept p up (above, found, deeper) =
        let differs : p ≢ key = λ same.
        let e : above ≡ s = scope_same slots key above s (ap (scope_in slots) (sym same) ∙ found) kept in
        let d : above.depth ≡ s.depth = ap (λ (t : Scope). t.depth) e in
        absurd (omega (arith, d, deeper)) in
        (above, others p differs ∙ found)
