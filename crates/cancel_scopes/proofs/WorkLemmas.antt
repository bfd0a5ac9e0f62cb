-- The steps of a `cancel`.
use Rattle.std.proofs.Common.{◌≡◌, ◌≢◌, ◌⊎◌, ℕ, ◌+◌, ◌<◌, ◌≤◌, Bool, true, false, cond, List, [], ◌∷◌, ◌++◌, length, get_or, slice_set, count_by, Option, Some, None, refl, sym, ap, subst, ◌∙◌, arith, inl, inr, Contains}
use Rattle.std.specs.Prelude.{nat_lt, ◌==◌, if◌then◌else◌}
use Rattle.std.proofs.Math.Path.{fun_ext}
use Rattle.std.proofs.lemmas.Bool.{cases_eq, eq-eqb, eqb-true}
use Rattle.std.proofs.lemmas.Bool.Decides.{nat_tests}
use Rattle.std.proofs.lemmas.List.{length-append, length-set, get_or_read}
use Rattle.std.proofs.lemmas.List.Elements.{Contains-push, Contains-push_cases, Contains-append_left}
use Rattle.std.specs.Option.{option_map}
use Rattle.cancel_scopes.specs.Sight.{Tick, earlier, before}
use Rattle.cancel_scopes.specs.Kept.{Slots, outline_of, scope_in, own_sight, is_listed, IsPlaced, IsListed, parent_is, index_under, children_at, Family}
use Rattle.cancel_scopes.specs.Lowering.{sight_by, outer_sight, IsRight, AllRight, IsNear, AllNear, below, or_child, is_later, work, Lowering, Lowers, Moves, Along}
use Rattle.cancel_scopes.proofs.SlotLemmas.{written, unwritten, same_by, count_set}
use Rattle.cancel_scopes.proofs.MarkLemmas.{same-tree}
use Rattle.cancel_scopes.proofs.FreshLemmas.{not_before}
use Rattle.cancel_scopes.proofs.LowerLemmas.{near-lowered, settled, settles_low}
use Rattle.cancel_scopes.specs.declared.store.Scope.{Scope}

tick_bound : (t f : ℕ) → nat_lt t (if nat_lt t f then t else f) ≡ false
tick_bound t f = grind (arith, nat_tests)

not_later : (t : ℕ) (f : Tick) → before (Some t) (earlier f (Some t)) ≡ false
not_later t None = not_before (Some t)
not_later t (Some f) = tick_bound t f

-- a test that is both
pub clash : {X : Type 0} (b : Bool) → b ≡ true → b ≡ false → X
clash b yes_it_is no_it_is = absurd (let e : true ≡ false = sym yes_it_is ∙ no_it_is in cc)

-- what an index under a parent says
pub under_at : (parent index : ℕ) (o : Option Scope) → index_under parent o ≡ Some index → (s : Scope) × (o ≡ Some s)
    × (s.parent ≡ Some parent) × (s.index ≡ index)
under_at parent index None at = absurd (let e : None ≡ Some index = at in cc)
under_at parent index (Some s) at = by_parent s.parent refl
  where
    by_test : (other : ℕ) (b : Bool) → (other == parent) ≡ b → s.parent ≡ Some other → (t : Scope) × (Some s ≡ Some t)
        × (t.parent ≡ Some parent) × (t.index ≡ index)
    by_test other true same up =
        let e : other ≡ parent = eqb-true other parent same in
        let test : parent_is parent s.parent ≡ true = ap (parent_is parent) up ∙ same in
        let here : Some s.index ≡ Some index = sym (ap (λ (b : Bool). if b then Some s.index else None) test) ∙ at in
        (s, refl, up ∙ ap Some e, (cc))
    by_test other false differs up =
        let test : parent_is parent s.parent ≡ false = ap (parent_is parent) up ∙ differs in
        let here : None ≡ Some index = sym (ap (λ (b : Bool). if b then Some s.index else None) test) ∙ at in
        absurd (cc)

    by_parent : (o : Option ℕ) → s.parent ≡ o → (t : Scope) × (Some s ≡ Some t) × (t.parent ≡ Some parent) × (t.index ≡ index)
    by_parent None up =
        let test : parent_is parent s.parent ≡ false = ap (parent_is parent) up in
        let here : None ≡ Some index = sym (ap (λ (b : Bool). if b then Some s.index else None) test) ∙ at in
        absurd (cc)
    by_parent (Some other) up = by_test other (other == parent) refl up

-- a scope has its index under its parent
pub under_is : (slots : Slots) (parent key : ℕ) (s : Scope) → scope_in slots key ≡ Some s → s.parent ≡ Some parent →
    index_under parent (scope_in slots key) ≡ Some s.index
under_is slots parent key s kept up =
    let test : parent_is parent s.parent ≡ true = ap (parent_is parent) up ∙ eq-eqb parent parent refl in
    ap (index_under parent) kept ∙ ap (λ (b : Bool). if b then Some s.index else None) test

-- nothing changes
pub along-none : (tick : ℕ) (slots : Slots) → Along tick slots slots
along-none tick slots = record { long = refl; finds = λ k. refl; indices = λ p k. refl; children = λ k. refl; moves = λ k. inl (refl, refl) }

moves-then : (tick : ℕ) (a b c : Option Scope) → Moves tick a b → Moves tick b c → Moves tick a c
moves-then tick a b c (inl h) (inl g) = inl (g.0 ∙ h.0, g.1 ∙ h.1)
moves-then tick a b c (inl h) (inr g) = inr (g.0, ap (before (Some tick)) (sym h.0) ∙ g.1, g.2)
moves-then tick a b c (inr h) (inl g) = inr (g.0 ∙ h.0, h.1, g.1 ∙ h.2)
moves-then tick a b c (inr h) (inr g) = inr (g.0, h.1, g.2)

-- two steps
pub along-then : (tick : ℕ) (a b c : Slots) → Along tick a b → Along tick b c → Along tick a c
along-then tick a b c h g = record {
  long = g.long ∙ h.long;
  finds = λ k. g.finds k ∙ h.finds k;
  indices = λ p k. g.indices p k ∙ h.indices p k;
  children = λ k. g.children k ∙ h.children k;
  moves = λ k. moves-then tick (scope_in a k) (scope_in b k) (scope_in c k) (h.moves k) (g.moves k);
}

-- children stay the same during the steps
pub family-along : (tick : ℕ) (old new : Slots) → Along tick old new → Family old → Family new
family-along tick old new h family = record {
  children = λ parent.
      let P : (ℕ → Option ℕ) → Type 0 = λ f. IsPlaced f (children_at (scope_in new parent)) in
      let Q : List ℕ → Type 0 = λ l. IsPlaced (λ key. index_under parent (scope_in old key)) l in
      subst P (sym (fun_ext (h.indices parent))) (subst Q (sym (h.children parent)) (family.children parent));
}

-- what was lowered to the tick stays there
pub low_stays : (tick : ℕ) (old new : Slots) (key : ℕ) → Along tick old new → own_sight (scope_in old key) ≡ Some tick →
    own_sight (scope_in new key) ≡ Some tick
low_stays tick old new key h low = by_move (h.moves key)
  where
    by_move : Moves tick (scope_in old key) (scope_in new key) → own_sight (scope_in new key) ≡ Some tick
    by_move (inl m) = m.0 ∙ low
    by_move (inr m) = m.0

module _ (tick : ℕ) (slots : Slots) (key : ℕ) (s : Scope) (index : ℕ) where
  abbrev fallen : Scope
  fallen = record s { sight = Some tick; listed = Some index }

  abbrev after : Slots
  after = slice_set slots key (Some (record s { sight = Some tick; listed = Some index }))

  -- a scope that is lowered from a later effective deadline is a `Moves` step
  pub along-set : scope_in slots key ≡ Some s → before (Some tick) s.sight ≡ true → Along tick slots after
  along-set kept late = record {
    long = length-set slots key (Some fallen);
    finds = same_by (option_map outline_of) slots key s (Some fallen) kept refl;
    indices = λ p. same_by (index_under p) slots key s (Some fallen) kept refl;
    children = same_by children_at slots key s (Some fallen) kept refl;
    moves = λ k. by_key k (cases_eq k key);
  }
    where
      by_key : (k : ℕ) → (k ≡ key) ⊎ (k ≢ key) → Moves tick (scope_in slots k) (scope_in after k)
      by_key k (inl same) =
          let new : scope_in after k ≡ Some fallen = ap (scope_in after) same ∙ written slots key s (Some fallen) kept in
          let old : scope_in slots k ≡ Some s = ap (scope_in slots) same ∙ kept in
          inr (ap own_sight new, ap (λ (o : Option Scope). before (Some tick) (own_sight o)) old ∙ late, ap is_listed new)
      by_key k (inr differs) =
          let same : scope_in after k ≡ scope_in slots k = unwritten slots key k (Some fallen) differs in
          inl (ap own_sight same, ap is_listed same)

  abbrev weigh : Bool → ℕ
  weigh b = cond b 1 0

  -- and leaves one less to lower
  pub count-fallen : scope_in slots key ≡ Some s → before (Some tick) s.sight ≡ true →
      count_by (is_later tick) after + 1 ≡ count_by (is_later tick) slots
  count-fallen kept late =
      let count = count_set (is_later tick) slots key s (Some fallen) kept in
      let one : weigh (before (Some tick) s.sight) ≡ weigh true = ap weigh late in
      let none : weigh (before (Some tick) (Some tick)) ≡ weigh false = ap weigh (not_before (Some tick)) in
      omega (arith, count, one, none)

-- the same of a scope that was lowered and marked
pub lowers-along : (tick : ℕ) (old new : Slots) (key : ℕ) (h : Lowers tick old new key) → before (Some tick) h.scope.sight ≡ true →
    Along tick old new
lowers-along tick old new key h late = subst (Along tick old) (sym h.written) (along-set tick old key h.scope h.index h.kept late)

-- and of the count
pub lowers-count : (tick : ℕ) (old new : Slots) (key : ℕ) (h : Lowers tick old new key) → before (Some tick) h.scope.sight ≡ true →
    count_by (is_later tick) new + 1 ≡ count_by (is_later tick) old
lowers-count tick old new key h late =
    ap (λ (l : Slots). count_by (is_later tick) l + 1) h.written ∙ count-fallen tick old key h.scope h.index h.kept late

-- a child is lowered
module _ (tick parent index : ℕ) (slots : Slots) (changed lowered : List ℕ) (key : ℕ) where
  -- a scope that waits at this index is that child
  only_child : Family slots → index_under parent (scope_in slots key) ≡ Some index → (k : ℕ) (t : Scope) → scope_in slots k ≡ Some t →
      t.parent ≡ Some parent → t.index ≡ index → k ≡ key
  only_child family at k t kept up here =
      let mine = (family.children parent).stands key index at in
      let other = (family.children parent).stands k t.index (under_is slots parent k t kept up) in
      sym other.1 ∙ ap (λ (n : ℕ). get_or (children_at (scope_in slots parent)) n 0) here ∙ mine.1

  own_near : (s : Scope) → (waits : ℕ → Scope → Type 0) → s.parent ≡ Some parent → own_sight (scope_in slots parent) ≡ Some tick →
      s.shield ≡ false → before (Some tick) s.sight ≡ true → IsNear slots tick waits key s →
      Some tick ≡ sight_by s.shield s.from (Some tick)
  own_near s waits up sees bare late (inl right) =
      let own : s.sight ≡ earlier s.from (Some tick) =
      right ∙ ap (λ (b : Bool). sight_by b s.from (outer_sight slots s.parent)) bare
      ∙ ap (earlier s.from) (ap (outer_sight slots) up ∙ sees) in
      clash (before (Some tick) s.sight) late (ap (before (Some tick)) own ∙ not_later tick s.from)
  own_near s waits up sees bare late (inr w) =
      let own : s.sight ≡ earlier s.from w.1 = w.3 ∙ ap (λ (b : Bool). sight_by b s.from w.1) bare in
      settles_low tick s.from w.1 w.2 (ap (before (Some tick)) (sym own) ∙ late)
      ∙ sym (ap (λ (b : Bool). sight_by b s.from (Some tick)) bare)

  -- a child whose effective deadline was later is lowered, and its children wait
  pub child-lowered : (new : Slots) (now : List ℕ) → Lowering tick (or_child parent index lowered) slots changed lowered →
      own_sight (scope_in slots parent) ≡ Some tick → index_under parent (scope_in slots key) ≡ Some index →
      (h : Lowers tick slots new key) → h.scope.shield ≡ false → before (Some tick) h.scope.sight ≡ true → IsListed new now →
      Lowering tick (or_child parent (index + 1) (lowered ++ key ∷ [])) new now (lowered ++ key ∷ [])
  child-lowered new now state sees at h bare late listed =
      let s : Scope = h.scope in
      let child = under_at parent index (scope_in slots key) at in
      let same : Some child.0 ≡ Some s = sym child.1 ∙ h.kept in
      let is : child.0 ≡ s = cc in
      let up : s.parent ≡ Some parent = ap (λ (t : Scope). t.parent) (sym is) ∙ child.2 in
      let along : Along tick slots new = lowers-along tick slots new key h late in
      let parent_low : own_sight (scope_in new parent) ≡ Some tick = low_stays tick slots new parent along sees in
      let lower : Slots = slice_set slots key (Some (record s { sight = Some tick; listed = Some h.index })) in
      let parent_lower : outer_sight lower s.parent ≡ Some tick = ap (outer_sight lower) up
      ∙ ap (λ (l : Slots). own_sight (scope_in l parent)) (sym h.written) ∙ parent_low in
      let own = own_near s (or_child parent index lowered) up sees bare late (state.near.near key s h.kept) in
      let N : Slots → Type 0 = λ l. AllNear l tick (or_child parent (index + 1) (lowered ++ key ∷ [])) in
      record {
        tree = same-tree slots new along.finds state.tree;
        family = family-along tick slots new along state.family;
        listed = listed;
        near = subst N (sym h.written)
            (near-lowered slots tick key s (Some h.index) (or_child parent index lowered)
            (or_child parent (index + 1) (lowered ++ key ∷ [])) h.kept late
            (λ k t differs kept. state.near.near k t kept)
            (λ k t differs kept w. on k t differs kept w)
            (λ k t inside. inl (key, inside, Contains-push lowered key))
            (own ∙ sym (ap (sight_by s.shield s.from) parent_lower)));
        low = λ k in_list. by_index k (Contains-push_cases lowered key k in_list) along;
        room = (let count = lowers-count tick slots new key h late in
            omega (arith, count, state.room, along.long, length-append lowered (key ∷ [])));
      }
    where
      on : (k : ℕ) (t : Scope) → k ≢ key → scope_in slots k ≡ Some t → or_child parent index lowered k t →
          or_child parent (index + 1) (lowered ++ key ∷ []) k t
      on k t differs kept (inl w) = inl (w.0, w.1, Contains-append_left lowered (key ∷ []) w.0 w.2)
      on k t differs kept (inr w) =
          inr (w.0, by_index_of (cases_eq t.index index))
        where
          by_index_of : (t.index ≡ index) ⊎ (t.index ≢ index) → index + 1 ≤ t.index
          by_index_of (inl here) = absurd (differs (only_child state.family at k t kept w.0 here))
          by_index_of (inr away) = omega (arith, away, w.1)

      by_index : (k : ℕ) → Contains lowered k ⊎ (key ≡ k) → Along tick slots new → own_sight (scope_in new k) ≡ Some tick
      by_index k (inl was) along = low_stays tick slots new k along (state.low k was)
      by_index k (inr same) along =
          ap (λ (n : ℕ). own_sight (scope_in new n)) (sym same)
          ∙ ap (λ (l : Slots). own_sight (scope_in l key)) h.written
          ∙ ap own_sight (written slots key h.scope (Some (record h.scope { sight = Some tick; listed = Some h.index })) h.kept)

  -- a child stays as it is
  pub child-stays : (s : Scope) → Lowering tick (or_child parent index lowered) slots changed lowered →
      own_sight (scope_in slots parent) ≡ Some tick → index_under parent (scope_in slots key) ≡ Some index → scope_in slots key ≡ Some s →
      (s.shield ≡ true) ⊎ (before (Some tick) s.sight ≡ false) → Lowering tick (or_child parent (index + 1) lowered) slots changed lowered
  child-stays s state sees at kept stays = record {
    tree = state.tree;
    family = state.family;
    listed = state.listed;
    near = record { near = λ k t found. by_near k t found (state.near.near k t found) };
    low = state.low;
    room = state.room;
  }
    where
      up : s.parent ≡ Some parent
      up =
          let child = under_at parent index (scope_in slots key) at in
          let same : Some child.0 ≡ Some s = sym child.1 ∙ kept in
          let is : child.0 ≡ s = cc in
          ap (λ (t : Scope). t.parent) (sym is) ∙ child.2

      by_near : (k : ℕ) (t : Scope) → scope_in slots k ≡ Some t → IsNear slots tick (or_child parent index lowered) k t →
          IsNear slots tick (or_child parent (index + 1) lowered) k t
      by_near k t found (inl right) = inl right
      by_near k t found (inr (w, outer, late, sight)) = by_wait w
        where
          by_wait : or_child parent index lowered k t → IsNear slots tick (or_child parent (index + 1) lowered) k t
          by_wait (inl b) = inr (inl b, outer, late, sight)
          by_wait (inr b) =
              elim (cases_eq t.index index) [
                | inl here ↦
                    let same : k ≡ key = only_child state.family at k t found b.0 here in
                    let e : Some s ≡ Some t = sym kept ∙ ap (scope_in slots) (sym same) ∙ found in
                    let is : s ≡ t = cc in
                    inl (subst (IsRight slots) is (settled slots tick parent (or_child parent index lowered) key s up sees
                    (state.near.near key s kept) stays))
                | inr away ↦ inr (inr (b.0, omega (arith, away, b.1)), outer, late, sight)
              ]

-- other scopes wait
pub waits-as : (tick : ℕ) (slots : Slots) (changed lowered less : List ℕ) (waits after : ℕ → Scope → Type 0) →
    Lowering tick waits slots changed lowered → ((k : ℕ) (t : Scope) → scope_in slots k ≡ Some t → waits k t → after k t) →
    ((k : ℕ) → Contains less k → Contains lowered k) → length less ≤ length lowered → Lowering tick after slots changed less
waits-as tick slots changed lowered less waits after state on fewer shorter = record {
  tree = state.tree;
  family = state.family;
  listed = state.listed;
  near = record { near = λ k t found. by_near k t found (state.near.near k t found) };
  low = λ k in_list. state.low k (fewer k in_list);
  room = (let room = state.room in omega (arith, room, shorter));
}
  where
    by_near : (k : ℕ) (t : Scope) → scope_in slots k ≡ Some t → IsNear slots tick waits k t → IsNear slots tick after k t
    by_near k t found (inl right) = inl right
    by_near k t found (inr w) = inr (on k t found w.0, w.1, w.2, w.3)

-- the children of the scope that was taken from the list wait
pub popped : (tick parent : ℕ) (slots : Slots) (changed rest : List ℕ) →
    Lowering tick (below (rest ++ parent ∷ [])) slots changed (rest ++ parent ∷ []) →
    Lowering tick (or_child parent 0 rest) slots changed rest
popped tick parent slots changed rest state =
    waits-as tick slots changed (rest ++ parent ∷ []) rest (below (rest ++ parent ∷ [])) (or_child parent 0 rest) state
    (λ k t found w. by_index k t w (Contains-push_cases rest parent w.0 w.2))
    (λ k in_list. Contains-append_left rest (parent ∷ []) k in_list)
    (omega (arith, length-append rest (parent ∷ [])))
  where
    by_index : (k : ℕ) (t : Scope) (w : below (rest ++ parent ∷ []) k t) → Contains rest w.0 ⊎ (parent ≡ w.0) → or_child parent 0 rest k t
    by_index k t w (inl inside) = inl (w.0, w.1, inside)
    by_index k t w (inr same) = inr (w.1 ∙ ap Some (sym same), omega arith)

-- and its effective deadline is the tick
pub popped_low : (tick parent : ℕ) (slots : Slots) (changed rest : List ℕ) →
    Lowering tick (below (rest ++ parent ∷ [])) slots changed (rest ++ parent ∷ []) → own_sight (scope_in slots parent) ≡ Some tick
popped_low tick parent slots changed rest state = state.low parent (Contains-push rest parent)

-- there is no child after the last one
pub all_children : (tick parent count : ℕ) (slots : Slots) (changed lowered : List ℕ) →
    length (children_at (scope_in slots parent)) ≤ count → Lowering tick (or_child parent count lowered) slots changed lowered →
    Lowering tick (below lowered) slots changed lowered
all_children tick parent count slots changed lowered long state =
    waits-as tick slots changed lowered lowered (or_child parent count lowered) (below lowered) state (λ k t found w. by_wait k t found w)
    (λ k in_list. in_list) (omega arith)
  where
    by_wait : (k : ℕ) (t : Scope) → scope_in slots k ≡ Some t → or_child parent count lowered k t → below lowered k t
    by_wait k t found (inl w) = w
    by_wait k t found (inr w) =
        let index = (state.family.children parent).stands k t.index (under_is slots parent k t found w.0) in
        absurd (omega (arith, index.0, w.1, long))

-- nothing waits any more
pub all_done : (tick : ℕ) (slots : Slots) (changed : List ℕ) → Lowering tick (below []) slots changed [] → AllRight slots
all_done tick slots changed state = record { right = λ k t found. by_near k t (state.near.near k t found) }
  where
    by_near : (k : ℕ) (t : Scope) → IsNear slots tick (below []) k t → IsRight slots t
    by_near k t (inl right) = right
    by_near k t (inr w) = absurd (omega (arith, w.0.2.1))

-- the child at an index
pub child_key : (slots : Slots) (parent index key : ℕ) (s : Scope) → scope_in slots parent ≡ Some s → Family slots →
    index < length (children_at (scope_in slots parent)) → key ≡ get_or s.children.items index key →
    index_under parent (scope_in slots key) ≡ Some index
child_key slots parent index key s kept family within is =
    let same : children_at (scope_in slots parent) ≡ s.children.items = ap children_at kept in
    let inside : index < length s.children.items = subst (λ (l : List ℕ). index < length l) same within in
    let at : key ≡ get_or (children_at (scope_in slots parent)) index 0 =
    get_or_read s.children.items index key inside is 0 ∙ ap (λ (l : List ℕ). get_or l index 0) (sym same) in
    ap (λ (k : ℕ). index_under parent (scope_in slots k)) at ∙ (family.children parent).placed index within

-- a scope that is lowered leaves no more to do
pub lowers-work : (tick : ℕ) (old new : Slots) (key : ℕ) (lowered : List ℕ) (h : Lowers tick old new key) →
    before (Some tick) h.scope.sight ≡ true → work tick new (lowered ++ key ∷ []) ≤ work tick old lowered
lowers-work tick old new key lowered h late =
    omega (arith, lowers-count tick old new key h late, length-append lowered (key ∷ []))

-- two scopes of one key
pub scope_same : (slots : Slots) (key : ℕ) (a b : Scope) → scope_in slots key ≡ Some a → scope_in slots key ≡ Some b → a ≡ b
scope_same slots key a b h g =
    let e : Some a ≡ Some b = sym h ∙ g in
    cc

-- a scope whose effective deadline is later is counted
pub later_count : (tick : ℕ) (slots : Slots) (key : ℕ) (s : Scope) → scope_in slots key ≡ Some s → before (Some tick) s.sight ≡ true →
    1 ≤ count_by (is_later tick) slots
later_count tick slots key s kept late = (let e = count-fallen tick slots key s 0 kept late in omega (arith, e))
