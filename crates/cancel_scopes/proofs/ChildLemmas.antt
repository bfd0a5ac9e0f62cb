-- A scope is added to its parent's children.
use Rattle.std.proofs.Common.{◌≡◌, ◌≢◌, ◌⊎◌, ℕ, ◌+◌, ◌<◌, ◌≤◌, Bool, true, false, List, [], ◌∷◌, ◌++◌, length, slice_set, Option, Some, None, is_some, IsSome, vec_len, vec_capacity, refl, sym, ap, subst, ◌∙◌, arith, inl, inr}
use Rattle.std.specs.Prelude.{◌==◌, if◌then◌else◌}
use Rattle.std.proofs.Math.Path.{fun_ext}
use Rattle.std.proofs.lemmas.Bool.{cases_eq, cases_Bool, eq-eqb, eqb-true}
use Rattle.std.proofs.lemmas.List.{length-set}
use Rattle.std.specs.Option.{option_map, ForSome}
use Rattle.cancel_scopes.specs.Kept.{Slots, outline_of, scope_in, own_sight, index_of, IsPlaced, parent_is, index_under, children_at, Family}
use Rattle.cancel_scopes.specs.Children.{HasIndex, SameOutlines, indices_but, Orphaned}
use Rattle.cancel_scopes.proofs.SlotLemmas.{written, unwritten, same_by}
use Rattle.cancel_scopes.proofs.IndexLemmas.{placed-push}
use Rattle.cancel_scopes.specs.declared.store.Scope.{Scope}

-- the indices with one key's put in for it, at that key and at others
pub but_here : (slots : Slots) (key : ℕ) (index : Option ℕ) (p : ℕ) → indices_but slots key index p key ≡ index
but_here slots key index p = ap (λ (b : Bool). if b then index else index_under p (scope_in slots key)) (eq-eqb key key refl)

-- at other keys nothing is put in
pub but_other : (slots : Slots) (key : ℕ) (index : Option ℕ) (p k : ℕ) → k ≢ key →
    indices_but slots key index p k ≡ index_under p (scope_in slots k)
but_other slots key index p k differs =
    let test : (k == key) ≡ false =
    elim (cases_Bool (k == key)) [ inl equal ↦ absurd (differs (eqb-true k key equal)) | inr no_it_is ↦ no_it_is ] in
    ap (λ (b : Bool). if b then index else index_under p (scope_in slots k)) test

-- the same places and the same list
pub placed-same : (f g : ℕ → Option ℕ) (list other : List ℕ) → ((k : ℕ) → g k ≡ f k) → other ≡ list → IsPlaced f list → IsPlaced g other
placed-same f g list other same is h =
    let P : (ℕ → Option ℕ) → Type 0 = λ e. IsPlaced e other in
    subst P (sym (fun_ext same)) (subst (λ (l : List ℕ). IsPlaced f l) (sym is) h)

-- another one is not the parent
pub other_parent : (p q : ℕ) → p ≢ q → parent_is p (Some q) ≡ false
other_parent p q differs = elim (cases_Bool (q == p)) [ inl equal ↦ absurd (differs (sym (eqb-true q p equal))) | inr no_it_is ↦ no_it_is ]

-- nothing changes
pub outlines-none : (slots : Slots) → SameOutlines slots slots
outlines-none slots = record { long = refl; finds = λ k. refl; sights = λ k. refl; marks = λ k. refl }

-- two changes in a row that keep outlines
pub outlines-then : (a b c : Slots) → SameOutlines a b → SameOutlines b c → SameOutlines a c
outlines-then a b c h g = record {
  long = g.long ∙ h.long;
  finds = λ k. g.finds k ∙ h.finds k;
  sights = λ k. g.sights k
      ∙ h.sights k;
  marks = λ k. g.marks k ∙ h.marks k;
}

-- an outermost scope is no scope's child
pub added-none : (slots : Slots) (key : ℕ) → Orphaned slots key None → Family slots
added-none slots key h = record {
  children = λ p. placed-same (indices_but slots key None p) (λ k. index_under p (scope_in slots k)) (children_at (scope_in slots p))
      (children_at (scope_in slots p))
      (λ k. by_key p k (cases_eq k key)) refl (h.others p);
}
  where
    by_key : (p k : ℕ) → (k ≡ key) ⊎ (k ≢ key) → index_under p (scope_in slots k) ≡ indices_but slots key None p k
    by_key p k (inl same) = ap (λ (n : ℕ). index_under p (scope_in slots n)) same ∙ h.under p ∙ sym (but_here slots key None p)
        ∙ ap (indices_but slots key None p) (sym same)
    by_key p k (inr differs) = sym (but_other slots key None p k differs)

-- a scope is appended to the children of its parent
module _ (slots : Slots) (key parent : ℕ) (s t : Scope) where
  -- the slots after the write to the parent
  abbrev pub adopted : Slots
  adopted = slice_set slots parent (Some t)

  -- a write that changes one scope's children alone
  pub added-outlines : scope_in slots parent ≡ Some s → outline_of t ≡ outline_of s → t.sight ≡ s.sight → t.listed ≡ s.listed →
      SameOutlines slots adopted
  added-outlines kept outline sight listed = record {
    long = length-set slots parent (Some t);
    finds = same_by (option_map outline_of) slots parent s (Some t) kept (ap Some outline);
    sights = same_by own_sight slots parent s (Some t) kept sight;
    marks = same_by index_of slots parent s (Some t) kept listed;
  }

  -- after that each scope has its children
  pub added : scope_in slots parent ≡ Some s → t.parent ≡ s.parent → t.index ≡ s.index → t.children.items ≡ s.children.items ++ key ∷ [] →
      Orphaned slots key (Some parent) → Family adopted
  added kept up index children h = record { children = λ p. by_parent p (cases_eq p parent) }
    where
      indices : (p k : ℕ) → index_under p (scope_in adopted k) ≡ index_under p (scope_in slots k)
      indices p = same_by (index_under p) slots parent s (Some t) kept
          (ap (λ (o : Option ℕ). if parent_is p o then Some t.index else None) up
          ∙ ap (λ (n : ℕ). if parent_is p s.parent then Some n else None) index)

      under_here : index_under parent (scope_in slots key) ≡ Some (length (children_at (scope_in slots parent)))
      under_here = h.under parent ∙ ap (λ (b : Bool). if b then Some (length (children_at (scope_in slots parent))) else None)
          (eq-eqb parent parent refl)

      at_parent : IsPlaced (λ k. index_under parent (scope_in adopted k)) (children_at (scope_in slots parent) ++ key ∷ [])
      at_parent =
          placed-push (indices_but slots key None parent) (λ k. index_under parent (scope_in adopted k))
          (children_at (scope_in slots parent)) key
          (h.others parent) (but_here slots key None parent) (indices parent key ∙ under_here)
          (λ k differs. indices parent k ∙ sym (but_other slots key None parent k differs))

      list_is : children_at (scope_in adopted parent) ≡ children_at (scope_in slots parent) ++ key ∷ []
      list_is = ap children_at (written slots parent s (Some t) kept) ∙ children
          ∙ ap (λ (l : List ℕ). l ++ key ∷ []) (sym (ap children_at kept))

      at_key : (p k : ℕ) → p ≢ parent → (k ≡ key) ⊎ (k ≢ key) → index_under p (scope_in adopted k) ≡ indices_but slots key None p k
      at_key p k away (inl same) =
          let none : index_under p (scope_in slots key) ≡ None = h.under p
          ∙ ap (λ (b : Bool). if b then Some (length (children_at (scope_in slots p))) else None) (other_parent p parent away) in
          indices p k ∙ ap (λ (n : ℕ). index_under p (scope_in slots n)) same ∙ none ∙ sym (but_here slots key None p)
          ∙ ap (indices_but slots key None p) (sym same)
      at_key p k away (inr differs) = indices p k ∙ sym (but_other slots key None p k differs)

      by_parent : (p : ℕ) → (p ≡ parent) ⊎ (p ≢ parent) → IsPlaced (λ k. index_under p (scope_in adopted k))
          (children_at (scope_in adopted p))
      by_parent p (inl same) =
          subst (λ (n : ℕ). IsPlaced (λ k. index_under n (scope_in adopted k)) (children_at (scope_in adopted n))) (sym same)
          (subst (λ (l : List ℕ). IsPlaced (λ k. index_under parent (scope_in adopted k)) l) (sym list_is) at_parent)
      by_parent p (inr away) =
          placed-same (indices_but slots key None p) (λ k. index_under p (scope_in adopted k)) (children_at (scope_in slots p))
          (children_at (scope_in adopted p))
          (λ k. at_key p k away (cases_eq k key)) (ap children_at (unwritten slots parent p (Some t) away)) (h.others p)

-- the parent that is found has room
pub index_same : (slots : Slots) (parent key : ℕ) (s : Scope) → key ≡ parent → HasIndex slots (Some parent) → scope_in slots key ≡ Some s →
    vec_len s.children < vec_capacity s.children
index_same slots parent key s same room kept =
    let at = room parent refl in
    let e : Some at.0 ≡ Some s = sym at.1 ∙ ap (scope_in slots) (sym same) ∙ kept in
    let is : at.0 ≡ s = cc in
    subst (λ (t : Scope). vec_len t.children < vec_capacity t.children) is at.2

-- the parent is kept
pub index_kept : (slots : Slots) (parent key : ℕ) → key ≡ parent → HasIndex slots (Some parent) → IsSome (scope_in slots key)
index_kept slots parent key same room =
    let at = room parent refl in
    ap (λ (k : ℕ). is_some (scope_in slots k)) same ∙ ap is_some at.1

-- the parent has room once it is made
pub has_index : (slots : Slots) (key : ℕ) (s t : Scope) (parent : Option ℕ) → scope_in slots key ≡ Some s →
    vec_len t.children + 1 ≤ vec_capacity t.children → parent ≡ Some key → HasIndex (slice_set slots key (Some t)) parent
has_index slots key s t parent kept room up x is =
    let e : Some key ≡ Some x = sym up ∙ is in
    let same : key ≡ x = cc in
    (t, ap (scope_in (slice_set slots key (Some t))) (sym same) ∙ written slots key s (Some t) kept, omega (arith, room))

-- a scope that is put at a free key is not among its parent's children yet
module _ (slots new : Slots) (key : ℕ) (s : Scope) (parent : Option ℕ) where
  -- its index is the next one
  pub orphaned : Family slots → scope_in slots key ≡ None → scope_in new key ≡ Some s →
      ((other : ℕ) → other ≢ key → scope_in new other ≡ scope_in slots other) → s.parent ≡ parent → s.children.items ≡ [] →
      ForSome parent (λ p. s.index ≡ length (children_at (scope_in slots p))) → Orphaned new key parent
  orphaned family free kept others up childless next = record {
    others = λ p. placed-same (λ k. index_under p (scope_in slots k)) (indices_but new key None p) (children_at (scope_in slots p))
        (children_at (scope_in new p))
        (λ k. by_key p k (cases_eq k key)) (lists p) (family.children p);
    under = λ p. ap (index_under p) kept ∙ ap (λ (o : Option ℕ). if parent_is p o then Some s.index else None) up ∙ by_parent p parent next;
  }
    where
      by_key : (p k : ℕ) → (k ≡ key) ⊎ (k ≢ key) → indices_but new key None p k ≡ index_under p (scope_in slots k)
      by_key p k (inl same) =
          ap (indices_but new key None p) same ∙ but_here new key None p
          ∙ sym (ap (λ (n : ℕ). index_under p (scope_in slots n)) same ∙ ap (index_under p) free)
      by_key p k (inr differs) = but_other new key None p k differs ∙ ap (index_under p) (others k differs)

      list_at : (p : ℕ) → (p ≡ key) ⊎ (p ≢ key) → children_at (scope_in new p) ≡ children_at (scope_in slots p)
      list_at p (inl same) =
          ap (λ (n : ℕ). children_at (scope_in new n)) same ∙ ap children_at kept ∙ childless
          ∙ sym (ap (λ (n : ℕ). children_at (scope_in slots n)) same ∙ ap children_at free)
      list_at p (inr differs) = ap children_at (others p differs)

      lists : (p : ℕ) → children_at (scope_in new p) ≡ children_at (scope_in slots p)
      lists p = list_at p (cases_eq p key)

      by_parent : (p : ℕ) (o : Option ℕ) → ForSome o (λ q. s.index ≡ length (children_at (scope_in slots q))) →
          (if parent_is p o then Some s.index else None) ≡ (if parent_is p o then Some (length (children_at (scope_in new p))) else None)
      by_parent p None h = refl
      by_parent p (Some q) h = by_test (q == p) refl
        where
          by_test : (b : Bool) → (q == p) ≡ b → (if b then Some s.index else None)
              ≡ (if b then Some (length (children_at (scope_in new p))) else None)
          by_test true same =
              ap Some (h q refl ∙ ap (λ (n : ℕ). length (children_at (scope_in slots n))) (eqb-true q p same) ∙ ap length (sym (lists p)))
          by_test false differs = refl

  -- the parent still has room
  pub index_stays : scope_in slots key ≡ None → ((other : ℕ) → other ≢ key → scope_in new other ≡ scope_in slots other) →
      HasIndex slots parent → HasIndex new parent
  index_stays free others h p is =
      let at = h p is in
      (at.0, others p (λ same. (let e : None ≡ Some at.0 = sym free ∙ ap (scope_in slots) (sym same) ∙ at.1 in absurd (cc))) ∙ at.1, at.2)
