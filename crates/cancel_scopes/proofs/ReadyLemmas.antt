-- How calls change the tree that contracts see.
use Rattle.std.proofs.Common.{◌≡◌, ◌≢◌, ◌⊎◌, ℕ, ◌+◌, ◌-◌, ◌<◌, ◌≤◌, Bool, true, false, List, length, get_or, slice_set, Option, Some, None, is_some, refl, sym, ap, ◌∙◌, arith, inl, inr, subst}
use Rattle.std.specs.Prelude.{◌||◌}
use Rattle.std.proofs.lemmas.Bool.{cases_eq}
use Rattle.std.specs.Option.{option_map}
use Rattle.cancel_scopes.specs.Sight.{Tick, earlier, before, sight}
use Rattle.cancel_scopes.specs.Tree.{Stack, Tree, stack_of, is_changed, IsOpen, OtherMarksKeep, after_cancel}
use Rattle.cancel_scopes.specs.Kept.{Outline, Slots, IsTree, full, outline_of, scope_in, find_in, tree_of, stack_at, own_sight, sight_of, seen_at, HasSights, index_of, indices_in, is_listed, IsListed, IsReady, SameScopes, Marks, AllFresh, index_under, children_at, Family}
use Rattle.cancel_scopes.specs.Children.{SameOutlines}
use Rattle.cancel_scopes.specs.Lowering.{sight_by, outer_sight, AllRight, Along, Starts}
use Rattle.std.proofs.lemmas.List.{length-set}
use Rattle.cancel_scopes.proofs.LowerLemmas.{sights_of, rights_of}
use Rattle.cancel_scopes.proofs.StackLemmas.{stacks_of-same, stack_seen, mark_seen, is_changed-tree_of, found_at}
use Rattle.cancel_scopes.proofs.SlotLemmas.{written, unwritten, same_by}
use Rattle.cancel_scopes.proofs.MarkLemmas.{same-tree, same-sights, listed-same, family-same}
use Rattle.cancel_scopes.proofs.CancelLemmas.{Cancels, cancels, IsTree-cancelled, stack_at-cancelled, tree_cancelled}
use Rattle.cancel_scopes.proofs.CloseLemmas.{Closes, IsTree-closes, stack_at-closes}
use Rattle.cancel_scopes.specs.declared.store.Scope.{Scope}

-- a scope is cancelled, and the effective deadlines inside it are lowered
module _ (slots : Slots) (key tick : ℕ) (s : Scope) (from : Tick) where
  -- the slots with the earlier tick
  abbrev pub set_from : Slots
  set_from = slice_set slots key (Some (record s { from = from }))

  -- the scope alone is cancelled
  pub cancels-slots : scope_in slots key ≡ Some s → from ≡ earlier s.from (Some (tick + 1)) →
      Cancels (find_in slots) (find_in set_from) key tick
  cancels-slots kept is =
      cancels (find_in slots) (find_in set_from) key tick (outline_of s) (found_at slots key s kept)
      (ap (option_map outline_of) (written slots key s (Some (record s { from = from })) kept)
      ∙ ap (λ (f : Tick). let o : Option Outline = Some (record { parent = s.parent; shield = s.shield; from = f; depth = s.depth }) in o)
      is)
      (λ other differs. ap (option_map outline_of) (unwritten slots key other (Some (record s { from = from })) differs))

  -- the tree stays one
  pub cancelled-tree : scope_in slots key ≡ Some s → from ≡ earlier s.from (Some (tick + 1)) → IsTree (find_in slots) →
      IsTree (find_in set_from)
  cancelled-tree kept is tree = IsTree-cancelled (find_in slots) (find_in set_from) key tick (cancels-slots kept is) tree

  -- the list of changed scopes stays right
  pub cancelled-listed : (changed : List ℕ) → scope_in slots key ≡ Some s → IsListed slots changed → IsListed set_from changed
  cancelled-listed changed kept listed =
      listed-same slots set_from changed (same_by index_of slots key s (Some (record s { from = from })) kept refl) listed

  -- after that only its own effective deadline may be wrong
  pub cancelled-starts : (changed : List ℕ) → scope_in slots key ≡ Some s → from ≡ earlier s.from (Some (tick + 1)) →
      IsTree (find_in slots) → Family slots → HasSights slots → IsListed slots changed → Starts (tick + 1) key set_from changed
  cancelled-starts changed kept is tree family sights listed =
      let after : Option Scope = Some (record s { from = from }) in
      let all : AllRight slots = rights_of slots tree sights in
      record {
        tree = cancelled-tree kept is tree;
        family = family-same slots set_from (λ p. same_by (index_under p) slots key s after kept refl)
            (same_by children_at slots key s after kept refl) family;
        listed = cancelled-listed changed kept listed;
        others = λ other t differs found. all.right other t (sym (unwritten slots key other after differs) ∙ found)
            ∙ ap (sight_by t.shield t.from) (outer_same kept t.parent);
        own = λ t found.
            let e : after ≡ Some t = sym (written slots key s after kept) ∙ found in
            let same : record s { from = from } ≡ t = cc in
            subst (λ (u : Scope). (f : Tick) × (u.from ≡ earlier f (Some (tick + 1)))
            × (u.sight ≡ sight_by u.shield f (outer_sight set_from u.parent))) same
            (s.from, is, all.right key s kept ∙ ap (sight_by s.shield s.from) (outer_same kept s.parent));
      }
    where
      outer_same : scope_in slots key ≡ Some s → (o : Option ℕ) → outer_sight slots o ≡ outer_sight set_from o
      outer_same kept None = refl
      outer_same kept (Some p) = sym (same_by own_sight slots key s (Some (record s { from = from })) kept refl p)

  -- once the effective deadlines are lowered the tree is ready again
  pub cancelled-ready : (new : Slots) (changed : List ℕ) (changed_room lowered lowered_room : ℕ) → scope_in slots key ≡ Some s →
      from ≡ earlier s.from (Some (tick + 1)) → IsTree (find_in slots) → Family slots → Along (tick + 1) set_from new → AllRight new →
      IsListed new changed → length slots ≤ changed_room → lowered ≡ 0 → length slots ≤ lowered_room →
      IsReady new changed changed_room lowered lowered_room
  cancelled-ready new changed changed_room lowered lowered_room kept is tree family h all listed changed_fits none lowered_fits = record {
    tree = same-tree set_from new h.finds (cancelled-tree kept is tree);
    family = family-same set_from new h.indices h.children (family-same slots set_from
        (λ p. same_by (index_under p) slots key s (Some (record s { from = from })) kept refl)
        (same_by children_at slots key s (Some (record s { from = from })) kept refl) family);
    sights = sights_of new (same-tree set_from new h.finds (cancelled-tree kept is tree)) all;
    listed = listed;
    changed_fits = (let e = h.long in omega (arith, e, length-set slots key (Some (record s { from = from })), changed_fits));
    none_lowered = none;
    lowered_fits = (let e = h.long in omega (arith, e, length-set slots key (Some (record s { from = from })), lowered_fits));
  }

  -- contracts see each stack with that level cancelled
  pub cancelled-stacks : (tree : Tree) (new : Slots) (id : ℕ) → scope_in slots key ≡ Some s → from ≡ earlier s.from (Some (tick + 1)) →
      tree_of slots ≡ tree → key ≡ id → AllFresh set_from new → (at : ℕ) →
      stack_of (tree_of new) at ≡ option_map (after_cancel id tick) (stack_of tree at)
  cancelled-stacks tree new id kept is seen same h =
      tree_cancelled tree slots new key id tick seen same (λ k. h.finds k ∙ cancels-slots kept is k)

  -- and a mark where an effective deadline became earlier
  pub cancelled-marks : (tree : Tree) (new : Slots) → scope_in slots key ≡ Some s → from ≡ earlier s.from (Some (tick + 1)) →
      tree_of slots ≡ tree → HasSights slots → AllFresh set_from new → (at : ℕ) (stack : Stack) → stack_of tree at ≡ Some stack →
      is_changed (tree_of new) at ≡ (is_changed tree at || before (sight (after_cancel key tick stack)) (sight stack))
  cancelled-marks tree new kept is seen sights h at stack has =
      let old : stack_at (find_in slots) at ≡ Some stack = sym (stack_seen tree slots at at seen refl) ∙ has in
      let later : stack_at (find_in set_from) at ≡ Some (after_cancel key tick stack) =
      stack_at-cancelled (find_in slots) (find_in set_from) key tick (cancels-slots kept is) at
      ∙ ap (option_map (after_cancel key tick)) old in
      let mark : is_listed (scope_in set_from at) ≡ is_changed tree at =
      same_by is_listed slots key s (Some (record s { from = from })) kept refl at ∙ sym (mark_seen tree slots at seen) in
      let was : own_sight (scope_in set_from at) ≡ sight stack =
      same_by own_sight slots key s (Some (record s { from = from })) kept refl at ∙ sights at ∙ ap sight_of old in
      let now : own_sight (scope_in new at) ≡ sight (after_cancel key tick stack) = (h.fresh at).0 ∙ ap sight_of later in
      is_changed-tree_of new at
      ∙ (h.fresh at).1
      ∙ ap (λ (b : Bool). b || before (own_sight (scope_in new at)) (own_sight (scope_in set_from at))) mark
      ∙ ap (λ (t : Tick). is_changed tree at || before t (own_sight (scope_in set_from at))) now
      ∙ ap (λ (t : Tick). is_changed tree at || before (sight (after_cancel key tick stack)) t) was

-- only which scopes are marked changes
pub marked-ready : (old new : Slots) (was changed : List ℕ) (changed_room lowered lowered_room : ℕ) →
    IsReady old was changed_room lowered lowered_room → SameScopes old new → IsListed new changed →
    IsReady new changed changed_room lowered lowered_room
marked-ready old new was changed changed_room lowered lowered_room h same listed = record {
  tree = same-tree old new same.finds h.tree;
  family = family-same old new same.indices same.children h.family;
  sights = same-sights old new same.finds same.sights h.sights;
  listed = listed;
  changed_fits = (let e = same.long in let f = h.changed_fits in omega (arith, e, f));
  none_lowered = h.none_lowered;
  lowered_fits = (let e = same.long in let f = h.lowered_fits in omega (arith, e, f));
}

-- room is made, and nothing else changes
pub roomier-ready : (old new : Slots) (was changed : List ℕ) (had lowered_was lowered_had room lowered lowered_room : ℕ) →
    IsReady old was had lowered_was lowered_had → SameScopes old new → ((key : ℕ) → indices_in new key ≡ indices_in old key) → changed ≡ was →
    had ≤ room → lowered ≡ lowered_was → lowered_had ≤ lowered_room → IsReady new changed room lowered lowered_room
roomier-ready old new was changed had lowered_was lowered_had room lowered lowered_room h same marks list_is fits as_was lowered_fits =
    record {
      tree = same-tree old new same.finds h.tree;
      family = family-same old new same.indices same.children h.family;
      sights = same-sights old new same.finds same.sights h.sights;
      listed = subst (IsListed new) (sym list_is) (listed-same old new was marks h.listed);
      changed_fits = (let e = same.long in let f = h.changed_fits in omega (arith, e, f, fits));
      none_lowered = as_was ∙ h.none_lowered;
      lowered_fits = (let e = same.long in let f = h.lowered_fits in omega (arith, e, f, lowered_fits));
    }

-- contracts see the same stacks
pub marked-stacks : (tree : Tree) (old new : Slots) → tree_of old ≡ tree → SameScopes old new →
    tree_of new ≡ record tree { changed = (tree_of new).changed }
marked-stacks tree old new is same =
    ap (λ (stacks : List (Option Stack)). let t : Tree = record { stacks = stacks; changed = (tree_of new).changed } in t)
    (stacks_of-same old new same.long same.finds ∙ ap (λ (t : Tree). t.stacks) is)

-- what is marked is open
pub marked-open : (tree : Tree) (slots : Slots) (key : ℕ) → tree_of slots ≡ tree → is_changed tree key ≡ true → IsOpen tree key
marked-open tree slots key is marked = by_kept (scope_in slots key) refl (sym (mark_seen tree slots key is) ∙ marked)
  where
    by_kept : (o : Option Scope) → scope_in slots key ≡ o → is_listed (scope_in slots key) ≡ true → IsOpen tree key
    by_kept None e h = absurd (let f : false ≡ true = sym (ap is_listed e) ∙ h in cc)
    by_kept (Some s) e h = ap is_some (stack_seen tree slots key key is refl
        ∙ ap (λ (o : Option Scope). option_map (full (find_in slots) key) (option_map outline_of o)) e)

-- and the same marks elsewhere
pub marked-others : (tree : Tree) (old new : Slots) (key : ℕ) (mark : Bool) → tree_of old ≡ tree → Marks old new key mark →
    OtherMarksKeep tree (tree_of new) key
marked-others tree old new key mark is h other differs =
    is_changed-tree_of new other ∙ h.others other differs ∙ sym (mark_seen tree old other is)

-- and this mark here
pub marked-here : (old new : Slots) (key : ℕ) (mark : Bool) → Marks old new key mark → is_changed (tree_of new) key ≡ mark
marked-here old new key mark h = is_changed-tree_of new key ∙ h.here

-- nothing is marked where the list is empty
pub none_marked : (tree : Tree) (slots : Slots) (changed : List ℕ) → tree_of slots ≡ tree → IsListed slots changed → length changed ≤ 0 →
    (key : ℕ) → is_changed tree key ≡ false
none_marked tree slots changed is listed empty key = mark_seen tree slots key is ∙ by_index (indices_in slots key) refl
  where
    by_index : (o : Option ℕ) → indices_in slots key ≡ o → is_some (indices_in slots key) ≡ false
    by_index None e = ap is_some e
    by_index (Some index) e = absurd (omega (arith, (listed.indices.stands key index e).0, empty))

-- the last scope in the list is marked
pub last_marked : (tree : Tree) (slots : Slots) (changed : List ℕ) (key : ℕ) → tree_of slots ≡ tree → IsListed slots changed →
    0 < length changed → key ≡ get_or changed (length changed - 1) 0 → is_changed tree key ≡ true
last_marked tree slots changed key is listed some last =
    mark_seen tree slots key is
    ∙ ap (λ (k : ℕ). is_listed (scope_in slots k)) last
    ∙ ap is_some (listed.indices.placed (length changed - 1) (omega (arith, some)))

-- a scope that was unmarked is closed, and leaves its parent's children
module _ (slots unmarked emptied new : Slots) (key : ℕ) (s : Scope) where
  -- what is kept of the others stays
  pub closed-finds : Marks slots unmarked key false → ((other : ℕ) → other ≢ key → scope_in emptied other ≡ scope_in unmarked other) →
      SameOutlines emptied new → (other : ℕ) → other ≢ key → find_in new other ≡ find_in slots other
  closed-finds marks others same other differs =
      same.finds other ∙ ap (option_map outline_of) (others other differs) ∙ marks.same.finds other

  -- so the tree is ready again
  pub closed-ready : (was changed : List ℕ) (changed_room lowered lowered_room : ℕ) → IsReady slots was changed_room lowered lowered_room →
      Marks slots unmarked key false → IsListed unmarked changed → Closes (find_in slots) (find_in new) key (outline_of s) →
      length emptied ≡ length unmarked → scope_in emptied key ≡ None → ((other : ℕ) → other ≢ key →
      scope_in emptied other ≡ scope_in unmarked other) → SameOutlines emptied new → Family new →
      IsReady new changed changed_room lowered lowered_room
  closed-ready was changed changed_room lowered lowered_room h marks listed closes long free others same family = record {
    tree = IsTree-closes closes h.tree;
    family = family;
    sights = λ k. sight_at k (cases_eq k key);
    listed = listed-same unmarked new changed (λ k. same.marks k ∙ index_at k (cases_eq k key)) listed;
    changed_fits = (let e = marks.same.long in let f = h.changed_fits in let g = same.long in omega (arith, e, f, g, long));
    none_lowered = h.none_lowered;
    lowered_fits = (let e = marks.same.long in let f = h.lowered_fits in let g = same.long in omega (arith, e, f, g, long));
  }
    where
      sight_at : (k : ℕ) → (k ≡ key) ⊎ (k ≢ key) → own_sight (scope_in new k) ≡ seen_at (find_in new) k
      sight_at k (inl same_key) =
          let none : scope_in emptied k ≡ None = ap (scope_in emptied) same_key ∙ free in
          let found : find_in new k ≡ None = same.finds k ∙ ap (option_map outline_of) none in
          let at : stack_at (find_in new) k ≡ None = rw found refl in
          same.sights k ∙ ap own_sight none ∙ sym (ap sight_of at)
      sight_at k (inr differs) =
          same.sights k ∙ ap own_sight (others k differs) ∙ marks.same.sights k ∙ h.sights k
          ∙ sym (ap sight_of (stack_at-closes (find_in slots) (find_in new) key (outline_of s) closes k differs))

      no_index : (p : Option ℕ) → is_some p ≡ false → p ≡ None
      no_index None e = refl
      no_index (Some p) e = absurd (let f : true ≡ false = e in cc)

      index_at : (k : ℕ) → (k ≡ key) ⊎ (k ≢ key) → indices_in emptied k ≡ indices_in unmarked k
      index_at k (inl same_key) =
          ap index_of (ap (scope_in emptied) same_key ∙ free)
          ∙ sym (no_index (indices_in unmarked k) (ap (λ (n : ℕ). is_listed (scope_in unmarked n)) same_key ∙ marks.here))
      index_at k (inr differs) = ap index_of (others k differs)

  -- and no other mark changes
  pub closed-marks : (tree : Tree) (id : ℕ) → tree_of slots ≡ tree → key ≡ id → Marks slots unmarked key false →
      ((other : ℕ) → other ≢ key → scope_in emptied other ≡ scope_in unmarked other) → SameOutlines emptied new →
      OtherMarksKeep tree (tree_of new) id
  closed-marks tree id is at marks others same other differs =
      let away : other ≢ key = λ e. differs (e ∙ at) in
      is_changed-tree_of new other
      ∙ ap is_some (same.marks other ∙ ap index_of (others other away))
      ∙ marks.others other away
      ∙ sym (mark_seen tree slots other is)

  -- the scope that was closed is no longer marked
  pub closed-unmarked : (id : ℕ) → key ≡ id → scope_in emptied key ≡ None → SameOutlines emptied new → is_changed (tree_of new) id ≡ false
  closed-unmarked id at free same = rw (← at) (is_changed-tree_of new key ∙ ap is_some (same.marks key ∙ ap index_of free))
