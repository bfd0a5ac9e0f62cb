-- Tasks in the table of slots and in the lists of their scopes.
use Rattle.std.proofs.Common.{◌≡◌, ◌≢◌, ℕ, ◌+◌, ◌-◌, ◌<◌, ◌≤◌, List, [], ◌∷◌, ◌++◌, length, get_or, map, slice_set, zero, suc, Option, Some, None, refl, sym, ap, subst, ◌∙◌, inl, inr, arith, eq-eqb}
use Rattle.std.proofs.lemmas.Bool.{cases_eq, cases_lt, ne_eqb}
use Rattle.std.proofs.lemmas.List.{get_or-set_same, get_or-set_other, get_or_past, get_or_read, nil_from_length, length-set}
use Rattle.std.proofs.lemmas.Option.{slice_get-get_or, slice_get_within, slice_get_past, get_or_from_slice_get}
use Rattle.std.specs.Prelude.{MatchOption}
use Rattle.std.specs.List.{slice_get}
use Rattle.std.specs.declared.vec.Vec.{Vec}
use Rattle.clock.specs.Sleeping.{scope_at}
use Rattle.cancel_scopes.specs.Kept.{IsPlaced}
use Rattle.clock.specs.KeptSleepers.{Puts, IsSame, IsEmpty, scope_of, sleep_slot_at, index_under, tasks_of, tasks_at, AllPlaced, SameSleepSlots, SameTasks}
use Rattle.clock.specs.declared.sleep_slots.SleepSlot.{SleepSlot}
use Rattle.cancel_scopes.proofs.IndexLemmas.{Removed, placed-push, placed-removed, removed, some_same}
use Rattle.clock.proofs.IndexLemmas.{placed-same, moved_is}

-- what contracts see of a table
pub scope_seen : (sleep_slots : List (Option SleepSlot)) (task : ℕ) → scope_at (map scope_of sleep_slots) task ≡ scope_of (sleep_slot_at sleep_slots task)
scope_seen [] task = refl
scope_seen (b ∷ sleep_slots) zero = refl
scope_seen (b ∷ sleep_slots) (suc task) = scope_seen sleep_slots task

-- where each task keeps its slot, contracts see each sleep in the scope in which it did
pub same_seen : (old new : List (Option SleepSlot)) → SameSleepSlots old new → IsSame (map scope_of old) (map scope_of new)
same_seen old new same task = scope_seen new task ∙ ap scope_of (same task) ∙ sym (scope_seen old task)

-- indices under a scope
under_own : (sleep_slot : SleepSlot) → index_under sleep_slot.scope (Some sleep_slot) ≡ Some sleep_slot.index
under_own sleep_slot = rw (eq-eqb sleep_slot.scope sleep_slot.scope refl) refl

under_other : (scope : ℕ) (o : Option SleepSlot) (other : ℕ) → scope_of o ≡ Some other → scope ≢ other → index_under scope o ≡ None
under_other scope None other e apart = refl
under_other scope (Some sleep_slot) other e apart =
    rw (ne_eqb sleep_slot.scope scope (λ same. apart (let own : sleep_slot.scope ≡ other = some_same sleep_slot.scope other e in sym same ∙ own))) refl

under_none : (scope : ℕ) (o : Option SleepSlot) → scope_of o ≡ None → index_under scope o ≡ None
under_none scope None e = refl
under_none scope (Some sleep_slot) e = absurd (cc)

-- a task that has an index under a scope sleeps there
pub under_is : (scope : ℕ) (o : Option SleepSlot) (index : ℕ) → index_under scope o ≡ Some index → scope_of o ≡ Some scope
under_is scope None index e = absurd (cc)
under_is scope (Some sleep_slot) index e =
    elim (cases_eq sleep_slot.scope scope) [
      | inl same ↦ ap Some same
      | inr apart ↦ absurd (let none : index_under scope (Some sleep_slot) ≡ None = rw (ne_eqb sleep_slot.scope scope apart) refl in cc)
    ]

-- a task that sleeps in a scope has an index under it
pub under_has : (scope : ℕ) (o : Option SleepSlot) → scope_of o ≡ Some scope → (index : ℕ) × (index_under scope o ≡ Some index)
under_has scope None e = absurd (cc)
under_has scope (Some sleep_slot) e = (sleep_slot.index, rw (eq-eqb sleep_slot.scope scope (some_same sleep_slot.scope scope e)) refl)

-- a slot that is written
written : (sleep_slots : List (Option SleepSlot)) (task : ℕ) (o : Option SleepSlot) → task < length sleep_slots → sleep_slot_at (slice_set sleep_slots task o) task ≡ o
written sleep_slots task o within = get_or-set_same sleep_slots task o None within

unwritten : (sleep_slots : List (Option SleepSlot)) (task other : ℕ) (o : Option SleepSlot) → other ≢ task →
    sleep_slot_at (slice_set sleep_slots task o) other ≡ sleep_slot_at sleep_slots other
unwritten sleep_slots task other o differs = get_or-set_other sleep_slots task other o None differs

-- a task with a slot is in the table
pub is_within : (sleep_slots : List (Option SleepSlot)) (task scope : ℕ) → scope_of (sleep_slot_at sleep_slots task) ≡ Some scope → task < length sleep_slots
is_within sleep_slots task scope e =
    elim (cases_lt task (length sleep_slots)) [
      | inl within ↦ within
      | inr past ↦ absurd (let none : scope_of (sleep_slot_at sleep_slots task) ≡ None = ap scope_of (get_or_past sleep_slots task None past) in cc)
    ]

module _ {Z : Type 0} where
  get-written : (lists : List (Vec ℕ Z)) (scope : ℕ) (v : Vec ℕ Z) → scope < length lists →
      slice_get (slice_set lists scope v) scope ≡ Some v
  get-written [] scope v within = absurd (omega arith)
  get-written (l ∷ lists) zero v within = refl
  get-written (l ∷ lists) (suc scope) v within = get-written lists scope v (omega arith)

  get-unwritten : (lists : List (Vec ℕ Z)) (scope other : ℕ) (v : Vec ℕ Z) → other ≢ scope →
      slice_get (slice_set lists scope v) other ≡ slice_get lists other
  get-unwritten [] scope other v differs = refl
  get-unwritten (l ∷ lists) zero zero v differs = absurd (differs refl)
  get-unwritten (l ∷ lists) zero (suc other) v differs = refl
  get-unwritten (l ∷ lists) (suc scope) zero v differs = refl
  get-unwritten (l ∷ lists) (suc scope) (suc other) v differs =
      get-unwritten lists scope other v (λ same. differs (ap (λ (n : ℕ). suc n) same))

  -- the list that was read
  pub tasks_read : (lists : List (Vec ℕ Z)) (scope : ℕ) (v : Vec ℕ Z) → scope < length lists → v ≡ get_or lists scope v →
      tasks_at lists scope ≡ v.items
  tasks_read [] scope v within e = absurd (omega arith)
  tasks_read (l ∷ lists) zero v within e = ap (λ (x : Vec ℕ Z). x.items) (sym e)
  tasks_read (l ∷ lists) (suc scope) v within e = tasks_read lists scope v (omega arith) e

  -- a scope with a task in its list is in the table
  pub has_list : (lists : List (Vec ℕ Z)) (scope index : ℕ) → index < length (tasks_at lists scope) → scope < length lists
  has_list [] scope index inside = absurd (omega arith)
  has_list (l ∷ lists) zero index inside = omega arith
  has_list (l ∷ lists) (suc scope) index inside = omega (arith, has_list lists scope index inside)

  -- a list that was written back unchanged
  pub tasks_again : (lists : List (Vec ℕ Z)) (scope : ℕ) (v w : Vec ℕ Z) → scope < length lists → v ≡ get_or lists scope v →
      w.items ≡ v.items → SameTasks lists (slice_set lists scope w)
  tasks_again lists scope v w within read same other =
      elim (cases_eq other scope) [
        | inl here ↦ rw here (ap tasks_of (get-written lists scope w within) ∙ same ∙ sym (tasks_read lists scope v within read))
        | inr differs ↦ ap tasks_of (get-unwritten lists scope other w differs)
      ]

  -- lists that stay through one change and then through another stay through both
  pub then_same : (lists more later : List (Vec ℕ Z)) → SameTasks lists more → SameTasks more later → SameTasks lists later
  then_same lists more later first second scope = second scope ∙ first scope

  -- tables that grew
  pub placed_grown : (sleep_slots more : List (Option SleepSlot)) (lists later : List (Vec ℕ Z)) → AllPlaced sleep_slots lists → SameSleepSlots sleep_slots more →
      SameTasks lists later → AllPlaced more later
  placed_grown sleep_slots more lists later h sleep_slots_same tasks_same = record {
    placed = λ scope. placed-same (λ task. index_under scope (sleep_slot_at sleep_slots task)) (λ task. index_under scope (sleep_slot_at more task))
        (tasks_at lists scope) (tasks_at later scope) (h.placed scope) (λ task. ap (index_under scope) (sleep_slots_same task))
        (tasks_same scope);
  }

  -- a task that is appended to the list of its scope
  pub placed_added : (sleep_slots : List (Option SleepSlot)) (lists : List (Vec ℕ Z)) (task : ℕ) (sleep_slot : SleepSlot) (v w : Vec ℕ Z) →
      AllPlaced sleep_slots lists → scope_of (sleep_slot_at sleep_slots task) ≡ None → task < length sleep_slots → sleep_slot.scope < length lists →
      v ≡ get_or lists sleep_slot.scope v → w.items ≡ v.items ++ task ∷ [] → sleep_slot.index ≡ length v.items →
      AllPlaced (slice_set sleep_slots task (Some sleep_slot)) (slice_set lists sleep_slot.scope w)
  placed_added sleep_slots lists task sleep_slot v w h awake within kept read pushed last = record {
    placed = λ scope. elim (cases_eq scope sleep_slot.scope) [
      | inl here ↦ rw here own
      | inr differs ↦
          placed-same (indices scope) (later scope) (tasks_at lists scope) (tasks_at (slice_set lists sleep_slot.scope w) scope) (h.placed scope)
          (λ k. elsewhere scope differs k)
          (ap tasks_of (get-unwritten lists sleep_slot.scope scope w differs))
    ];
  }
    where
      indices : ℕ → ℕ → Option ℕ
      indices scope k = index_under scope (sleep_slot_at sleep_slots k)

      later : ℕ → ℕ → Option ℕ
      later scope k = index_under scope (sleep_slot_at (slice_set sleep_slots task (Some sleep_slot)) k)

      elsewhere : (scope : ℕ) → scope ≢ sleep_slot.scope → (k : ℕ) → index_under scope (sleep_slot_at (slice_set sleep_slots task (Some sleep_slot)) k)
          ≡ index_under scope (sleep_slot_at sleep_slots k)
      elsewhere scope differs k =
          elim (cases_eq k task) [
            | inl same ↦
                rw same
                (ap (index_under scope) (written sleep_slots task (Some sleep_slot) within)
                ∙ under_other scope (Some sleep_slot) sleep_slot.scope refl differs
                ∙ sym (under_none scope (sleep_slot_at sleep_slots task) awake))
            | inr apart ↦ ap (index_under scope) (unwritten sleep_slots task k (Some sleep_slot) apart)
          ]

      own : IsPlaced (λ k. index_under sleep_slot.scope (sleep_slot_at (slice_set sleep_slots task (Some sleep_slot)) k))
          (tasks_at (slice_set lists sleep_slot.scope w) sleep_slot.scope)
      own =
          let tasks : tasks_at lists sleep_slot.scope ≡ v.items = tasks_read lists sleep_slot.scope v kept read in
          let now : tasks_at lists sleep_slot.scope ++ task ∷ [] ≡ tasks_at (slice_set lists sleep_slot.scope w) sleep_slot.scope =
          ap (λ (l : List ℕ). l ++ task ∷ []) tasks ∙ sym pushed ∙ sym (ap tasks_of (get-written lists sleep_slot.scope w kept)) in
          subst (λ (l : List ℕ). IsPlaced (λ k. index_under sleep_slot.scope (sleep_slot_at (slice_set sleep_slots task (Some sleep_slot)) k)) l) now
          (placed-push (λ k. index_under sleep_slot.scope (sleep_slot_at sleep_slots k))
          (λ k. index_under sleep_slot.scope (sleep_slot_at (slice_set sleep_slots task (Some sleep_slot)) k)) (tasks_at lists sleep_slot.scope) task
          (h.placed sleep_slot.scope)
          (under_none sleep_slot.scope (sleep_slot_at sleep_slots task) awake)
          (ap (index_under sleep_slot.scope) (written sleep_slots task (Some sleep_slot) within) ∙ under_own sleep_slot
          ∙ ap Some (last ∙ sym (ap length tasks)))
          (λ other apart. ap (index_under sleep_slot.scope) (unwritten sleep_slots task other (Some sleep_slot) apart)))

-- where tasks sleep after a change
pub puts_added : (sleep_slots more : List (Option SleepSlot)) (task : ℕ) (sleep_slot : SleepSlot) → SameSleepSlots sleep_slots more → task < length more →
    Puts (map scope_of sleep_slots) (map scope_of (slice_set more task (Some sleep_slot))) task (Some sleep_slot.scope)
puts_added sleep_slots more task sleep_slot same within = record {
  changed = scope_seen (slice_set more task (Some sleep_slot)) task ∙ ap scope_of (written more task (Some sleep_slot) within);
  others = λ other differs.
      scope_seen (slice_set more task (Some sleep_slot)) other
      ∙ ap scope_of (unwritten more task other (Some sleep_slot) differs ∙ same other)
      ∙ sym (scope_seen sleep_slots other);
}

-- A task that slept in a slot, and the list of its scope without it
pub record Leaves {Z : Type 0} (sleep_slots : List (Option SleepSlot)) (lists : List (Vec ℕ Z)) (task : ℕ) (sleep_slot : SleepSlot) (v w : Vec ℕ Z) : Type 0
  where
    pub kept : AllPlaced sleep_slots lists
    pub slept : sleep_slot_at sleep_slots task ≡ Some sleep_slot
    pub read : v ≡ get_or lists sleep_slot.scope v
    pub taken : Removed v.items w.items sleep_slot.index

-- its slot has no task any more, or the last task of its scope
pub record Clears {Z : Type 0} (sleep_slots later : List (Option SleepSlot)) (task : ℕ) (sleep_slot : SleepSlot) (w : Vec ℕ Z) : Type 0 where
  pub freed : sleep_slot_at later task ≡ None
  pub moved : sleep_slot.index < length w.items → sleep_slot_at later (get_or w.items sleep_slot.index 0) ≡ Some sleep_slot
  pub others : (k : ℕ) → k ≢ task → (sleep_slot.index < length w.items → k ≢ get_or w.items sleep_slot.index 0) → sleep_slot_at later k ≡ sleep_slot_at sleep_slots k

module _ {Z : Type 0} (sleep_slots : List (Option SleepSlot)) (lists : List (Vec ℕ Z)) (task : ℕ) (sleep_slot : SleepSlot) where
  own_index : sleep_slot_at sleep_slots task ≡ Some sleep_slot → index_under sleep_slot.scope (sleep_slot_at sleep_slots task) ≡ Some sleep_slot.index
  own_index slept = ap (index_under sleep_slot.scope) slept ∙ under_own sleep_slot

  -- so it is in the table of slots
  pub task_within : sleep_slot_at sleep_slots task ≡ Some sleep_slot → task < length sleep_slots
  task_within slept = is_within sleep_slots task sleep_slot.scope (ap scope_of slept)

  -- its index is one in the list of the scope that it sleeps in
  pub index_within : AllPlaced sleep_slots lists → sleep_slot_at sleep_slots task ≡ Some sleep_slot → sleep_slot.index < length (tasks_at lists sleep_slot.scope)
  index_within kept slept = ((kept.placed sleep_slot.scope).stands task sleep_slot.index (own_index slept)).0

  -- its scope has a list in the table
  pub scope_within : AllPlaced sleep_slots lists → sleep_slot_at sleep_slots task ≡ Some sleep_slot → sleep_slot.scope < length lists
  scope_within kept slept = has_list lists sleep_slot.scope sleep_slot.index (index_within kept slept)

module _ {Z : Type 0} (sleep_slots : List (Option SleepSlot)) (lists : List (Vec ℕ Z)) (task : ℕ) (sleep_slot : SleepSlot) (v w : Vec ℕ Z) where
  placed_in : Leaves sleep_slots lists task sleep_slot v w → IsPlaced (λ k. index_under sleep_slot.scope (sleep_slot_at sleep_slots k)) v.items
  placed_in h =
      subst (λ (l : List ℕ). IsPlaced (λ k. index_under sleep_slot.scope (sleep_slot_at sleep_slots k)) l)
      (tasks_read lists sleep_slot.scope v (scope_within sleep_slots lists task sleep_slot h.kept h.slept) h.read) (h.kept.placed sleep_slot.scope)

  -- the last task of the list sleeps in the same scope, and is another task
  last_is : Leaves sleep_slots lists task sleep_slot v w → (moved : ℕ) → sleep_slot.index < length w.items → moved ≡ get_or w.items sleep_slot.index 0 →
      (scope_of (sleep_slot_at sleep_slots moved) ≡ Some sleep_slot.scope) × (moved ≢ task)
  last_is h moved inside is =
      let m = moved_is (λ k. index_under sleep_slot.scope (sleep_slot_at sleep_slots k)) v.items w.items task sleep_slot.index moved (placed_in h)
      (own_index sleep_slots lists task sleep_slot h.slept) h.taken inside is in
      (under_is sleep_slot.scope (sleep_slot_at sleep_slots moved) (length v.items - 1) m.0, m.1)

  -- the task that gets its index is in the table of slots
  pub moved_within : Leaves sleep_slots lists task sleep_slot v w → (moved : ℕ) → sleep_slot.index < length w.items →
      moved ≡ get_or w.items sleep_slot.index 0 → moved < length sleep_slots
  moved_within h moved inside is = is_within sleep_slots moved sleep_slot.scope (last_is h moved inside is).0

  -- where the task was the last of its list, its slot is removed and no other task moves
  pub clears_last : Leaves sleep_slots lists task sleep_slot v w → length w.items ≤ sleep_slot.index →
      Clears sleep_slots (slice_set sleep_slots task None) task sleep_slot w
  clears_last h out = record {
    freed = written sleep_slots task None (task_within sleep_slots lists task sleep_slot h.slept);
    moved = λ inside. absurd (omega (arith, inside, out));
    others = λ k differs apart. unwritten sleep_slots task k None differs;
  }

  -- where it was not, the last task of the list gets its slot
  pub clears_moved : Leaves sleep_slots lists task sleep_slot v w → (moved : ℕ) → sleep_slot.index < length w.items →
      moved ≡ get_or w.items sleep_slot.index 0 → Clears sleep_slots (slice_set (slice_set sleep_slots task None) moved (Some sleep_slot)) task sleep_slot w
  clears_moved h moved inside is =
      let one : List (Option SleepSlot) = slice_set sleep_slots task None in
      let within : moved < length one = omega (arith, moved_within h moved inside is, length-set sleep_slots task None) in
      record {
        freed =
            unwritten one moved task (Some sleep_slot) (λ same. (last_is h moved inside is).1 (sym same))
            ∙ written sleep_slots task None (task_within sleep_slots lists task sleep_slot h.slept);
        moved = λ _. ap (λ (k : ℕ). sleep_slot_at (slice_set one moved (Some sleep_slot)) k) (sym is) ∙ written one moved (Some sleep_slot) within;
        others = λ k differs apart.
            unwritten one moved k (Some sleep_slot) (λ same. apart inside (same ∙ is))
            ∙ unwritten sleep_slots task k None differs;
      }

  -- after that the list of each scope again has the tasks with indices in it
  pub placed_left : (later : List (Option SleepSlot)) → Leaves sleep_slots lists task sleep_slot v w → Clears sleep_slots later task sleep_slot w →
      AllPlaced later (slice_set lists sleep_slot.scope w)
  placed_left later h c = record {
    placed = λ scope. elim (cases_eq scope sleep_slot.scope) [
      | inl here ↦ rw here own
      | inr differs ↦
          placed-same (λ k. index_under scope (sleep_slot_at sleep_slots k)) (λ k. index_under scope (sleep_slot_at later k)) (tasks_at lists scope)
          (tasks_at (slice_set lists sleep_slot.scope w) scope) (h.kept.placed scope)
          (λ k. elsewhere scope differs k)
          (ap tasks_of (get-unwritten lists sleep_slot.scope scope w differs))
    ];
  }
    where
      own : IsPlaced (λ k. index_under sleep_slot.scope (sleep_slot_at later k)) (tasks_at (slice_set lists sleep_slot.scope w) sleep_slot.scope)
      own =
          subst (λ (l : List ℕ). IsPlaced (λ k. index_under sleep_slot.scope (sleep_slot_at later k)) l)
          (sym (ap tasks_of (get-written lists sleep_slot.scope w (scope_within sleep_slots lists task sleep_slot h.kept h.slept))))
          (placed-removed (λ k. index_under sleep_slot.scope (sleep_slot_at sleep_slots k)) (λ k. index_under sleep_slot.scope (sleep_slot_at later k)) v.items
          w.items task sleep_slot.index (placed_in h) (own_index sleep_slots lists task sleep_slot h.slept) h.taken.long h.taken.seam
          h.taken.keeps (ap (index_under sleep_slot.scope) c.freed)
          (λ inside. ap (index_under sleep_slot.scope) (c.moved inside) ∙ under_own sleep_slot)
          (λ other differs apart. ap (index_under sleep_slot.scope) (c.others other differs apart)))

      -- under another scope nothing changes
      elsewhere : (scope : ℕ) → scope ≢ sleep_slot.scope → (k : ℕ) → index_under scope (sleep_slot_at later k) ≡ index_under scope (sleep_slot_at sleep_slots k)
      elsewhere scope differs k =
          elim (cases_eq k task) [
            | inl same ↦
                rw same
                (ap (index_under scope) c.freed
                ∙ sym (under_other scope (sleep_slot_at sleep_slots task) sleep_slot.scope (ap scope_of h.slept) differs))
            | inr apart ↦
                elim (cases_lt sleep_slot.index (length w.items)) [
                  | inl inside ↦
                      elim (cases_eq k (get_or w.items sleep_slot.index 0)) [
                        | inl is ↦
                            under_other scope (sleep_slot_at later k) sleep_slot.scope (ap (λ (n : ℕ). scope_of (sleep_slot_at later n)) is
                            ∙ ap scope_of (c.moved inside)) differs
                            ∙ sym (under_other scope (sleep_slot_at sleep_slots k) sleep_slot.scope (last_is h k inside is).0 differs)
                        | inr other ↦ ap (index_under scope) (c.others k apart (λ _. other))
                      ]
                  | inr out ↦ ap (index_under scope) (c.others k apart (λ inside. absurd (omega (arith, inside, out))))
                ]
          ]

  -- and the task does not sleep, and every other one sleeps where it did
  pub puts_left : (later : List (Option SleepSlot)) → Leaves sleep_slots lists task sleep_slot v w → Clears sleep_slots later task sleep_slot w →
      Puts (map scope_of sleep_slots) (map scope_of later) task None
  puts_left later h c = record {
    changed = scope_seen later task ∙ ap scope_of c.freed;
    others = λ other differs. scope_seen later other ∙ stays other differs ∙ sym (scope_seen sleep_slots other);
  }
    where
      stays : (k : ℕ) → k ≢ task → scope_of (sleep_slot_at later k) ≡ scope_of (sleep_slot_at sleep_slots k)
      stays k apart =
          elim (cases_lt sleep_slot.index (length w.items)) [
            | inl inside ↦
                elim (cases_eq k (get_or w.items sleep_slot.index 0)) [
                  | inl is ↦ ap (λ (n : ℕ). scope_of (sleep_slot_at later n)) is ∙ ap scope_of (c.moved inside) ∙ sym (last_is h k inside is).0
                  | inr other ↦ ap scope_of (c.others k apart (λ _. other))
                ]
            | inr out ↦ ap scope_of (c.others k apart (λ inside. absurd (omega (arith, inside, out))))
          ]

-- the last task in the list of a scope sleeps there
pub is_sleeper : {Z : Type 0} (sleep_slots : List (Option SleepSlot)) (lists : List (Vec ℕ Z)) (scope index task : ℕ) → AllPlaced sleep_slots lists →
    index < length (tasks_at lists scope) → get_or (tasks_at lists scope) index 0 ≡ task → scope_at (map scope_of sleep_slots) task ≡ Some scope
is_sleeper sleep_slots lists scope index task h inside is =
    scope_seen sleep_slots task
    ∙ ap (λ (k : ℕ). scope_of (sleep_slot_at sleep_slots k)) (sym is)
    ∙ under_is scope (sleep_slot_at sleep_slots (get_or (tasks_at lists scope) index 0)) index ((h.placed scope).placed index inside)

-- an empty list: no task sleeps in the scope
pub none_sleeps : {Z : Type 0} (sleep_slots : List (Option SleepSlot)) (lists : List (Vec ℕ Z)) (scope : ℕ) → AllPlaced sleep_slots lists →
    tasks_at lists scope ≡ [] → IsEmpty (map scope_of sleep_slots) scope
none_sleeps sleep_slots lists scope h empty task sleeps =
    let p = under_has scope (sleep_slot_at sleep_slots task) (sym (scope_seen sleep_slots task) ∙ sleeps) in
    let s = (h.placed scope).stands task p.0 p.1 in
    omega (arith, s.0, ap length empty)

-- what was read of a task's slot
pub slept_at : (sleep_slots : List (Option SleepSlot)) (task : ℕ) (found : Option SleepSlot) (sleep_slot : SleepSlot) → task < length sleep_slots →
    found ≡ get_or sleep_slots task found → found ≡ Some sleep_slot → sleep_slot_at sleep_slots task ≡ Some sleep_slot
slept_at sleep_slots task found sleep_slot within read is = sym (get_or_read sleep_slots task found within read None) ∙ is

-- what `swap_remove` leaves
pub leaves : {Z : Type 0} (sleep_slots : List (Option SleepSlot)) (lists : List (Vec ℕ Z)) (task : ℕ) (sleep_slot : SleepSlot) (v w : Vec ℕ Z) →
    AllPlaced sleep_slots lists → sleep_slot_at sleep_slots task ≡ Some sleep_slot → v ≡ get_or lists sleep_slot.scope v → w.len + 1 ≡ v.len →
    (((d : ℕ) → sleep_slot.index + 1 < v.len → get_or w.items sleep_slot.index d ≡ get_or v.items (v.len - 1) d)
    × ((k d : ℕ) → k ≢ sleep_slot.index → k + 1 < v.len → get_or w.items k d ≡ get_or v.items k d)) → Leaves sleep_slots lists task sleep_slot v w
leaves sleep_slots lists task sleep_slot v w kept slept read less by_index = record {
  kept = kept;
  slept = slept;
  read = read;
  taken = removed v.items w.items sleep_slot.index v.len w.len v.ok.0 w.ok.0 less by_index.0 by_index.1;
}

-- the last task of a list, if it has one
pub last_seen : {Z : Type 0} (sleep_slots : List (Option SleepSlot)) (lists : List (Vec ℕ Z)) (scope : ℕ) (tasks : List ℕ) (last : Option ℕ) →
    AllPlaced sleep_slots lists → tasks_at lists scope ≡ tasks → last ≡ slice_get tasks (length tasks - 1) →
    MatchOption last (IsEmpty (map scope_of sleep_slots) scope) (λ task. scope_at (map scope_of sleep_slots) task ≡ Some scope)
last_seen sleep_slots lists scope tasks None h are e =
    none_sleeps sleep_slots lists scope h
    (elim (cases_lt 0 (length tasks)) [
      | inl some ↦ absurd (let found = slice_get-get_or tasks (length tasks - 1) 0 (omega (arith, some)) in cc)
      | inr none ↦ are ∙ nil_from_length tasks (omega (arith, none))
    ])
last_seen sleep_slots lists scope tasks (Some task) h are e =
    is_sleeper sleep_slots lists scope (length tasks - 1) task h
    (omega (arith, slice_get_within tasks (length tasks - 1) task (sym e), ap length are))
    (ap (λ (l : List ℕ). get_or l (length tasks - 1) 0) are ∙ get_or_from_slice_get tasks (length tasks - 1) task 0 (sym e))

-- a scope past the table
pub none_past : {Z : Type 0} (sleep_slots : List (Option SleepSlot)) (lists : List (Vec ℕ Z)) (scope : ℕ) → AllPlaced sleep_slots lists →
    length lists ≤ scope → IsEmpty (map scope_of sleep_slots) scope
none_past sleep_slots lists scope h past = none_sleeps sleep_slots lists scope h (ap tasks_of (slice_get_past lists scope past))
