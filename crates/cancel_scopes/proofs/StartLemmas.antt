-- A `cancel` begins at a scope whose own tick became earlier.
use Rattle.std.proofs.Common.{◌≡◌, ◌≢◌, ◌⊎◌, ℕ, Bool, true, false, List, [], ◌∷◌, ◌++◌, slice_set, Option, Some, None, refl, sym, ap, subst, ◌∙◌, arith, inl, inr, Contains}
use Rattle.std.specs.Prelude.{nat_lt, if◌then◌else◌}
use Rattle.std.proofs.lemmas.Bool.{cases_eq}
use Rattle.std.proofs.lemmas.Bool.Decides.{nat_tests}
use Rattle.std.proofs.lemmas.List.Sums.{count_by-le-length}
use Rattle.std.proofs.lemmas.List.Elements.{Contains-push, Contains-push_cases}
use Rattle.cancel_scopes.specs.Sight.{Tick, earlier, before}
use Rattle.cancel_scopes.specs.Kept.{Slots, scope_in, own_sight, IsListed}
use Rattle.cancel_scopes.specs.Lowering.{sight_by, outer_sight, IsRight, IsNear, AllNear, below, is_later, Lowering, Lowers, Along, Starts}
use Rattle.cancel_scopes.proofs.SlotLemmas.{written, unwritten}
use Rattle.cancel_scopes.proofs.MarkLemmas.{same-tree}
use Rattle.cancel_scopes.proofs.LowerLemmas.{near-lowered}
use Rattle.cancel_scopes.proofs.WorkLemmas.{lowers-along, lowers-count, family-along, scope_same}
use Rattle.cancel_scopes.specs.declared.store.Scope.{Scope}

own_late_ticks : (t f o : ℕ) → nat_lt t (if nat_lt o f then o else f) ≡ true → (if nat_lt t f then t else f) ≡ t
own_late_ticks t f o h = grind (arith, nat_tests)

outer_late_ticks : (t f o : ℕ) → nat_lt t (if nat_lt o f then o else f) ≡ true → nat_lt t o ≡ true
outer_late_ticks t f o h = grind (arith, nat_tests)

own_late : (t : ℕ) (shield : Bool) (from outer : Tick) → before (Some t) (sight_by shield from outer) ≡ true →
    earlier from (Some t) ≡ Some t
own_late t shield None outer h = refl
own_late t true (Some f) outer h = rw h refl
own_late t false (Some f) None h = rw h refl
own_late t false (Some f) (Some o) h = ap Some (own_late_ticks t f o h)

outer_late : (t : ℕ) (from outer : Tick) → before (Some t) (earlier from outer) ≡ true → before (Some t) outer ≡ true
outer_late t None outer h = h
outer_late t (Some f) None h = refl
outer_late t (Some f) (Some o) h = outer_late_ticks t f o h

tick_first_ticks : (t o : ℕ) → nat_lt t o ≡ true → (if nat_lt o t then o else t) ≡ t
tick_first_ticks t o h = grind (arith, nat_tests)

tick_first : (t : ℕ) (outer : Tick) → before (Some t) outer ≡ true → earlier (Some t) outer ≡ Some t
tick_first t None h = refl
tick_first t (Some o) h = ap Some (tick_first_ticks t o h)

tick_same_ticks : (t : ℕ) → (if nat_lt t t then t else t) ≡ t
tick_same_ticks t = grind (arith, nat_tests)

stay_none_ticks : (t o : ℕ) → nat_lt t o ≡ false → o ≡ (if nat_lt o t then o else t)
stay_none_ticks t o h = grind (arith, nat_tests)

stay_ticks : (t f o : ℕ) → nat_lt t (if nat_lt o f then o else f) ≡ false →
    (if nat_lt o f then o else f) ≡ (if nat_lt o (if nat_lt t f then t else f) then o else (if nat_lt t f then t else f))
stay_ticks t f o h = grind (arith, nat_tests)

stays_right : (t : ℕ) (shield : Bool) (from outer : Tick) → before (Some t) (sight_by shield from outer) ≡ false →
    sight_by shield from outer ≡ sight_by shield (earlier from (Some t)) outer
stays_right t true None outer h = absurd (let e : true ≡ false = h in cc)
stays_right t true (Some f) outer h = rw h refl
stays_right t false None None h = absurd (let e : true ≡ false = h in cc)
stays_right t false None (Some o) h = ap Some (stay_none_ticks t o h)
stays_right t false (Some f) None h = rw h refl
stays_right t false (Some f) (Some o) h = ap Some (stay_ticks t f o h)

none_in : {X : Type 0} (k : ℕ) → Contains [] k → X
none_in k c = absurd (omega (arith, c.1))

module _ (tick key : ℕ) (slots : Slots) (changed : List ℕ) where
  -- the scope's effective deadline was later, and is lowered: its children wait
  pub starts-lowered : (new : Slots) (now : List ℕ) → Starts tick key slots changed → (h : Lowers tick slots new key) →
      before (Some tick) h.scope.sight ≡ true → IsListed new now → Lowering tick (below ([] ++ key ∷ [])) new now ([] ++ key ∷ [])
  starts-lowered new now state h late listed =
      let along : Along tick slots new = lowers-along tick slots new key h late in
      let count = lowers-count tick slots new key h late in
      let N : Slots → Type 0 = λ l. AllNear l tick (below ([] ++ key ∷ [])) in
      record {
        tree = same-tree slots new along.finds state.tree;
        family = family-along tick slots new along state.family;
        listed = listed;
        near = subst N (sym h.written)
            (near-lowered slots tick key s (Some h.index) (below []) (below ([] ++ key ∷ [])) h.kept late
            (λ k t differs kept. inl (state.others k t differs kept))
            (λ k t differs kept w. none_in w.0 w.2)
            (λ k t inside. (key, inside, Contains-push [] key))
            here);
        low = λ k in_list. low_at k (Contains-push_cases [] key k in_list);
        room = omega (arith, count, along.long, count_by-le-length (is_later tick) slots);
      }
    where
      s : Scope
      s = h.scope

      lower : Slots
      lower = slice_set slots key (Some (record s { sight = Some tick; listed = Some h.index }))

      low_at : (k : ℕ) → Contains [] k ⊎ (key ≡ k) → own_sight (scope_in new k) ≡ Some tick
      low_at k (inl c) = none_in k c
      low_at k (inr same) =
          ap (λ (n : ℕ). own_sight (scope_in new n)) (sym same)
          ∙ ap (λ (l : Slots). own_sight (scope_in l key)) h.written
          ∙ ap own_sight (written slots key h.scope (Some (record h.scope { sight = Some tick; listed = Some h.index })) h.kept)

      here : Some tick ≡ sight_by s.shield s.from
          (outer_sight (slice_set slots key (Some (record s { sight = Some tick; listed = Some h.index }))) s.parent)
      here = by_shield s.shield refl ∙ ap (λ (f : Tick). sight_by s.shield f (outer_sight lower s.parent)) (sym from_is)
        where
          own : (from : Tick) × (s.from ≡ earlier from (Some tick)) × (s.sight ≡ sight_by s.shield from (outer_sight slots s.parent))
          own = state.own h.scope h.kept

          late_by : before (Some tick) (sight_by s.shield own.0 (outer_sight slots s.parent)) ≡ true
          late_by = ap (before (Some tick)) (sym own.2) ∙ late

          from_is : s.from ≡ Some tick
          from_is = own.1 ∙ own_late tick s.shield own.0 (outer_sight slots s.parent) late_by

          outer_case : (o : Option ℕ) → before (Some tick) (outer_sight slots o) ≡ true →
              earlier (Some tick) (outer_sight lower o) ≡ Some tick
          outer_case None later = refl
          outer_case (Some p) later =
              elim (cases_eq p key) [
                | inl same ↦
                    let low : own_sight (scope_in lower p) ≡ Some tick =
                    ap (λ (n : ℕ). own_sight (scope_in lower n)) same ∙ ap own_sight
                    (written slots key s (Some (record s { sight = Some tick; listed = Some h.index })) h.kept) in
                    ap (earlier (Some tick)) low ∙ ap Some (tick_same_ticks tick)
                | inr differs ↦
                    let same : own_sight (scope_in lower p) ≡ own_sight (scope_in slots p) =
                    ap own_sight (unwritten slots key p (Some (record s { sight = Some tick; listed = Some h.index })) differs) in
                    ap (earlier (Some tick)) same ∙ tick_first tick (own_sight (scope_in slots p)) later
              ]

          by_shield : (b : Bool) → s.shield ≡ b → Some tick ≡ sight_by s.shield (Some tick) (outer_sight lower s.parent)
          by_shield true is = sym (ap (λ (b : Bool). sight_by b (Some tick) (outer_sight lower s.parent)) is)
          by_shield false is =
              sym (ap (λ (b : Bool). sight_by b (Some tick) (outer_sight lower s.parent)) is
              ∙ outer_case s.parent (outer_late tick own.0 (outer_sight slots s.parent)
              (ap (λ (b : Bool). before (Some tick) (sight_by b own.0 (outer_sight slots s.parent))) (sym is) ∙ late_by)))

  -- the scope's effective deadline was not later, and nothing waits
  pub starts-stays : (s : Scope) → Starts tick key slots changed → scope_in slots key ≡ Some s → before (Some tick) s.sight ≡ false →
      Lowering tick (below []) slots changed []
  starts-stays s state kept early = record {
    tree = state.tree;
    family = state.family;
    listed = state.listed;
    near = record { near = λ k t found. by_key k t found (cases_eq k key) };
    low = λ k in_list. none_in k in_list;
    room = omega (arith, count_by-le-length (is_later tick) slots);
  }
    where
      by_key : (k : ℕ) (t : Scope) → scope_in slots k ≡ Some t → (k ≡ key) ⊎ (k ≢ key) → IsNear slots tick (below []) k t
      by_key k t found (inl same) =
          let at : scope_in slots key ≡ Some t = ap (scope_in slots) (sym same) ∙ found in
          let is : s ≡ t = scope_same slots key s t kept at in
          let own = state.own s kept in
          let right : IsRight slots s =
          own.2
          ∙ stays_right tick s.shield own.0 (outer_sight slots s.parent) (ap (before (Some tick)) (sym own.2) ∙ early)
          ∙ ap (λ (f : Tick). sight_by s.shield f (outer_sight slots s.parent)) (sym own.1) in
          inl (subst (IsRight slots) is right)
      by_key k t found (inr differs) = inl (state.others k t differs found)
