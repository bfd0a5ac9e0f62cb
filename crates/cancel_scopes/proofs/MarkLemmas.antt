-- Scopes that are marked and unmarked.
use Rattle.std.proofs.Common.{◌≡◌, ◌≢◌, ℕ, ◌+◌, ◌-◌, ◌<◌, ◌≤◌, true, false, cond, List, [], ◌∷◌, ◌++◌, length, get_or, slice_set, count_by, Option, Some, None, is_some, refl, sym, ap, subst, ◌∙◌, arith}
use Rattle.std.proofs.Math.Path.{fun_ext}
use Rattle.std.proofs.lemmas.List.{length-append, length-set}
use Rattle.std.proofs.lemmas.List.Sums.{count_by-le-length}
use Rattle.std.specs.Option.{option_map}
use Rattle.cancel_scopes.specs.Kept.{Slots, Find, IsTree, outline_of, scope_in, find_in, own_sight, seen_at, HasSights, index_of, indices_in, is_listed, IsPlaced, IsListed, SameScopes, Marks, index_under, children_at, Family}
use Rattle.cancel_scopes.specs.Lowering.{lists, lists_at}
use Rattle.cancel_scopes.proofs.DepthLemmas.{count_more}
use Rattle.cancel_scopes.proofs.SlotLemmas.{written, unwritten, same_by, count_set, count_same}
use Rattle.cancel_scopes.proofs.IndexLemmas.{placed-push, Removed, placed-removed, some_same}
use Rattle.cancel_scopes.specs.declared.store.Scope.{Scope}

-- the same outlines, as one function
pub same_find : (old new : Slots) → ((key : ℕ) → find_in new key ≡ find_in old key) → find_in new ≡ find_in old
same_find old new h = fun_ext h

-- a tree stays one where outlines stay
pub same-tree : (old new : Slots) → ((key : ℕ) → find_in new key ≡ find_in old key) → IsTree (find_in old) → IsTree (find_in new)
same-tree old new h tree = subst IsTree (sym (same_find old new h)) tree

-- effective deadlines stay right where outlines and effective deadlines stay
pub same-sights : (old new : Slots) → ((key : ℕ) → find_in new key ≡ find_in old key) →
    ((key : ℕ) → own_sight (scope_in new key) ≡ own_sight (scope_in old key)) → HasSights old → HasSights new
same-sights old new finds same sights key =
    same key ∙ sights key ∙ ap (λ (find : Find). seen_at find key) (sym (same_find old new finds))

-- the children of each scope stay where parents, indices and lists do
pub family-same : (old new : Slots) → ((parent key : ℕ) → index_under parent (scope_in new key) ≡ index_under parent (scope_in old key)) →
    ((key : ℕ) → children_at (scope_in new key) ≡ children_at (scope_in old key)) → Family old → Family new
family-same old new indices children family = record {
  children = λ parent.
      let P : (ℕ → Option ℕ) → Type 0 = λ f. IsPlaced f (children_at (scope_in new parent)) in
      let Q : List ℕ → Type 0 = λ l. IsPlaced (λ key. index_under parent (scope_in old key)) l in
      subst P (sym (fun_ext (indices parent))) (subst Q (sym (children parent)) (family.children parent));
}

-- a list stays right where all indices stay
pub listed-same : (old new : Slots) (changed : List ℕ) → ((key : ℕ) → indices_in new key ≡ indices_in old key) → IsListed old changed →
    IsListed new changed
listed-same old new changed h listed = record {
  indices = subst (λ (indices : ℕ → Option ℕ). IsPlaced indices changed) (sym (fun_ext h)) listed.indices;
  counted = listed.counted ∙ sym (count_same is_listed refl new old (λ key. ap is_some (h key)));
}

-- a write of an index alone
pub same-placed : (slots : Slots) (key : ℕ) (s : Scope) (listed : Option ℕ) → scope_in slots key ≡ Some s →
    SameScopes slots (slice_set slots key (Some (record s { listed = listed })))
same-placed slots key s listed kept = record {
  long = length-set slots key (Some (record s { listed = listed }));
  finds = same_by (option_map outline_of) slots key s (Some (record s { listed = listed })) kept refl;
  sights = same_by own_sight slots key s (Some (record s { listed = listed })) kept refl;
  indices = λ p. same_by (index_under p) slots key s (Some (record s { listed = listed })) kept refl;
  children = same_by children_at slots key s (Some (record s { listed = listed })) kept refl;
}

abbrev weight : Option ℕ → ℕ
weight o = cond (is_some o) 1 0

-- there is room for one that is not listed
pub unlisted_fits : (slots : Slots) (changed : List ℕ) (key : ℕ) (s : Scope) → scope_in slots key ≡ Some s → s.listed ≡ None →
    IsListed slots changed → length changed + 1 ≤ length slots
unlisted_fits slots changed key s kept none listed =
    let more = count_more is_listed is_some slots key s (λ o. implied o) kept (ap is_some none) refl in
    omega (arith, more, listed.counted, count_by-le-length is_some slots)
  where
    implied : (o : Option Scope) → is_listed o ≡ true → is_some o ≡ true
    implied None h = h
    implied (Some s) h = refl

-- a scope that was not in the list is appended
pub marked : (slots : Slots) (changed : List ℕ) (key index : ℕ) (s t : Scope) → scope_in slots key ≡ Some s → indices_in slots key ≡ None →
    index ≡ length changed → t.listed ≡ Some index → IsListed slots changed → IsListed (slice_set slots key (Some t)) (changed ++ key ∷ [])
marked slots changed key index s t kept none long now listed =
    let new : Slots = slice_set slots key (Some t) in
    let free : s.listed ≡ None = sym (ap index_of kept) ∙ none in
    let unmarked : weight s.listed ≡ weight None = ap weight free in
    let one : weight t.listed ≡ weight (Some index) = ap weight now in
    let count = count_set is_listed slots key s (Some t) kept in
    record {
      indices = placed-push (indices_in slots) (indices_in new) changed key listed.indices none
          (ap index_of (written slots key s (Some t) kept) ∙ now ∙ ap Some long)
          (λ other differs. ap index_of (unwritten slots key other (Some t) differs));
      counted = omega (arith, count, unmarked, one, listed.counted, length-append changed (key ∷ []));
    }

-- a scope that gets this index in the list of changed scopes
pub lists-listed : (slots : Slots) (changed now : List ℕ) (key index : ℕ) (s t : Scope) → scope_in slots key ≡ Some s →
    lists key (scope_in slots key) changed now index → t.listed ≡ Some index → IsListed slots changed →
    IsListed (slice_set slots key (Some t)) now
lists-listed slots changed now key index s t kept h is listed = by_index (indices_in slots key) refl h
  where
    by_index : (o : Option ℕ) → indices_in slots key ≡ o → lists_at o key changed now index → IsListed (slice_set slots key (Some t)) now
    by_index None none h =
        subst (λ (l : List ℕ). IsListed (slice_set slots key (Some t)) l) (sym h.1)
        (marked slots changed key index s t kept none h.0 is listed)
    by_index (Some at) was h =
        let same : index_of (Some t) ≡ index_of (Some s) = is ∙ ap Some h.0 ∙ sym was ∙ ap index_of kept in
        subst (λ (l : List ℕ). IsListed (slice_set slots key (Some t)) l) (sym h.1)
        (listed-same slots (slice_set slots key (Some t)) changed (same_by index_of slots key s (Some t) kept same) listed)

module _ (slots : Slots) (changed rest : List ℕ) (key index : ℕ) (s : Scope) where
  abbrev after_one : Slots
  after_one = slice_set slots key (Some (record s { listed = None }))

  was_listed : scope_in slots key ≡ Some s → indices_in slots key ≡ Some index → s.listed ≡ Some index
  was_listed kept at = sym (ap index_of kept) ∙ at

  counted_one : scope_in slots key ≡ Some s → indices_in slots key ≡ Some index → Removed changed rest index → IsListed slots changed →
      length rest ≡ count_by is_listed after_one
  counted_one kept at h listed =
      let count = count_set is_listed slots key s (Some (record s { listed = None })) kept in
      let one : weight s.listed ≡ weight (Some index) = ap weight (was_listed kept at) in
      omega (arith, count, one, h.long, listed.counted)

  -- a scope that is last is removed
  pub unmarked-last : scope_in slots key ≡ Some s → indices_in slots key ≡ Some index → Removed changed rest index → length rest ≤ index →
      IsListed slots changed → IsListed after_one rest
  unmarked-last kept at h out listed = record {
    indices = placed-removed (indices_in slots) (indices_in after_one) changed rest key index listed.indices at h.long h.seam h.keeps
        (ap index_of (written slots key s (Some (record s { listed = None })) kept))
        (λ inside. absurd (omega (arith, inside, out)))
        (λ other differs apart. ap index_of (unwritten slots key other (Some (record s { listed = None })) differs));
    counted = counted_one kept at h listed;
  }

  -- the last one had the last index
  moved_from : Removed changed rest index → IsListed slots changed → index < length rest →
      indices_in slots (get_or rest index 0) ≡ Some (length changed - 1)
  moved_from h listed inside =
      ap (indices_in slots) (h.seam (omega (arith, inside, h.long)))
      ∙ listed.indices.placed (length changed - 1) (omega (arith, inside, h.long))

  -- the last one is another scope
  pub moved_differs : indices_in slots key ≡ Some index → Removed changed rest index → IsListed slots changed → index < length rest →
      get_or rest index 0 ≢ key
  moved_differs at h listed inside same =
      let last : index ≡ length changed - 1 =
      some_same index (length changed - 1) (sym at ∙ ap (indices_in slots) (sym same) ∙ moved_from h listed inside) in
      absurd (omega (arith, last, inside, h.long))

  module _ (moved : ℕ) (m : Scope) where
    abbrev after_two : Slots
    after_two = slice_set after_one moved (Some (record m { listed = Some index }))

    kept_before : moved ≢ key → scope_in after_one moved ≡ Some m → scope_in slots moved ≡ Some m
    kept_before differs stays = sym (unwritten slots key moved (Some (record s { listed = None })) differs) ∙ stays

    -- a scope is removed, and the last one moves to its index
    pub unmarked-moved : scope_in slots key ≡ Some s → indices_in slots key ≡ Some index → Removed changed rest index → index < length rest →
        moved ≡ get_or rest index 0 → scope_in after_one moved ≡ Some m → IsListed slots changed → IsListed after_two rest
    unmarked-moved kept at h inside is stays listed =
        let t : Option Scope = Some (record m { listed = Some index }) in
        let differs : moved ≢ key = λ same. moved_differs at h listed inside (sym is ∙ same) in
        let had : m.listed ≡ Some (length changed - 1) = sym (ap index_of (kept_before differs stays)) ∙ ap (indices_in slots) is
        ∙ moved_from h listed inside in
        let one : weight m.listed ≡ weight (Some (length changed - 1)) = ap weight had in
        let count = count_set is_listed after_one moved m t stays in
        record {
          indices = placed-removed (indices_in slots) (indices_in after_two) changed rest key index listed.indices at h.long h.seam h.keeps
              (ap index_of (unwritten after_one moved key t (λ e. differs (sym e))
              ∙ written slots key s (Some (record s { listed = None })) kept))
              (λ _. ap (indices_in after_two) (sym is) ∙ ap index_of (written after_one moved m t stays))
              (λ other away apart. ap index_of (unwritten after_one moved other t (λ e. apart inside (e ∙ is))
              ∙ unwritten slots key other (Some (record s { listed = None })) away));
          counted = omega (arith, count, one, counted_one kept at h listed);
        }

    -- only that scope loses its mark
    pub unmarks-moved : scope_in slots key ≡ Some s → indices_in slots key ≡ Some index → Removed changed rest index → index < length rest →
        moved ≡ get_or rest index 0 → scope_in after_one moved ≡ Some m → IsListed slots changed → Marks slots after_two key false
    unmarks-moved kept at h inside is stays listed =
        let t : Option Scope = Some (record m { listed = Some index }) in
        let differs : moved ≢ key = λ same. moved_differs at h listed inside (sym is ∙ same) in
        let had : m.listed ≡ Some (length changed - 1) = sym (ap index_of (kept_before differs stays)) ∙ ap (indices_in slots) is
        ∙ moved_from h listed inside in
        let one = same-placed slots key s None kept in
        let two = same-placed after_one moved m (Some index) stays in
        record {
          same = record {
            long = two.long ∙ one.long;
            finds = λ k. two.finds k ∙ one.finds k;
            sights = λ k. two.sights k ∙ one.sights k;
            indices = λ p k. two.indices p k ∙ one.indices p k;
            children = λ k. two.children k ∙ one.children k;
          };
          here = ap is_listed (unwritten after_one moved key t (λ e. differs (sym e))
              ∙ written slots key s (Some (record s { listed = None })) kept);
          others = λ other away.
              same_by is_listed after_one moved m t stays (sym (ap is_some had)) other
              ∙ ap is_listed (unwritten slots key other (Some (record s { listed = None })) away);
        }
