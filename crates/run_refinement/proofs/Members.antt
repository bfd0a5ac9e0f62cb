-- After a turn each child of the task's nurseries is the task of its serial number, or one that has ended.
use Rattle.std.proofs.Common.{◌≡◌, ◌≢◌, ◌⊎◌, inl, inr, ℕ, ◌+◌, ◌-◌, ◌<◌, ◌≤◌, true, false, Option, Some, None, List, ◌++◌, length, refl, ap, sym, ◌∙◌, subst, arith}
use Rattle.std.specs.Prelude.{slice_get}
use Rattle.std.specs.Option.{option_map}
use Rattle.nursery_book.specs.Nursery.{End, Nursery}
use Rattle.nursery_book.specs.Book.{nursery_at, HasNursery}
use Rattle.job_tree.specs.Tree.{Tree as Job}
use Rattle.job_meaning.specs.Moments.{a_round_after}
use Rattle.job_meaning.specs.Rest as rest
use Rattle.turn_semantics.specs.Midway.{Tables, Begun}
use Rattle.task_machine.specs.declared.stop.Stop.{Stop}
use Rattle.task_machine.specs.declared.task.Home.{Home}
use Rattle.task_machine.specs.declared.task.Task.{Task}
use Rattle.task_machine.specs.Fitting.{blocks_of, waits_of}
use Rattle.task_machine.specs.Standing.{HasBlock, HasNurseryOf, IsBegun, BeginsAt}
use Rattle.interleavings.specs.Interleaving.{Started, live}
use Rattle.interleavings.specs.Going.{task_after_turn}
use Rattle.interleavings.proofs.Turning.{old_child, later_child}
use Rattle.run_refinement.specs.RunState.{RunState, IsMember, HasMembers, Follows, Refines}
use Rattle.run_refinement.specs.Turning.{Turning}
use Rattle.run_refinement.proofs.ActsKeep.{not_both}
use Rattle.run_refinement.proofs.Parts.{begun_at, BeginsThere, begins_there, numbered_on}
use Rattle.run_refinement.proofs.RunStates.{ended_task_below, home_earlier}
use Rattle.task_machine.proofs.Stacked.{one_of}
use Rattle.run_refinement.proofs.Found.{below_length, got_first, finds, gives, puts}
use Rattle.run_refinement.proofs.LabelsApart.{below_of}

module _ (k : Tables) (job : Job) (input : List ℕ) (t m s : ℕ) (old new : RunState) (before after : Task) (stop : Stop)
    (c : Refines k job input t m None old)
    (T : Turning k job input t m s old new c.numbers before after stop c.interleaving) where
  mover : Follows old c.interleaving.cancelled_from input t c.interleaving.at c.numbers None s before
  mover = c.follows s before T.code.task

  -- the task after its turn
  abbrev pub moved_to : Started
  moved_to = task_after_turn k (record { at = t; own = T.own }) m (c.interleaving.at s) T.move T.stopped

  -- what is known of the moment of the last end in a nursery of the task after its turn
  abbrev IsLast : ℕ → ℕ → Type 0
  IsLast id last = (last ≤ t) × ((o : Nursery) → nursery_at old.world.book id ≡ Some o → HasBlock id (blocks_of before.frames.items) →
      o.last ≤ last)

  last_after : (id : ℕ) (n : Nursery) → nursery_at new.world.book id ≡ Some n →
      HasNurseryOf id (blocks_of after.frames.items) (waits_of after.task_state) → IsLast id n.last
  last_after id n at has = (by_ends (T.took.nurseries.ends id has), no_earlier)
    where
      last_before : (o : Nursery) → nursery_at old.world.book id ≡ Some o → HasBlock id (blocks_of before.frames.items) → o.last ≤ t
      last_before o was own =
          (gives old.world.book id o (λ x. HasMembers old c.interleaving.at t (c.numbers s) (c.interleaving.at s) id x) was
          (mover.nurseries id (inl own))).last

      grown : (o : Nursery) → nursery_at old.world.book id ≡ Some o → HasBlock id (blocks_of before.frames.items) →
          (n.last ≡ o.last) ⊎ (n.last ≡ old.world.tick)
      grown o was own = (gives new.world.book id n _ at (T.took.nurseries.grow id own o was)).last

      by_grown : (last : ℕ) → last ≤ t → (n.last ≡ last) ⊎ (n.last ≡ old.world.tick) → (n.last ≤ t) × (last ≤ n.last)
      by_grown last le (inl e) = (omega (arith, le, e), omega (arith, e))
      by_grown last le (inr e) = let f : old.world.tick ≡ t = c.tick in (omega (arith, e, f), omega (arith, le, e, f))

      no_earlier : (o : Nursery) → nursery_at old.world.book id ≡ Some o → HasBlock id (blocks_of before.frames.items) → o.last ≤ n.last
      no_earlier o was own = (by_grown o.last (last_before o was own) (grown o was own)).1

      by_ends : HasBlock id (blocks_of before.frames.items) ⊎ HasNursery new.world.book id (λ x. x.last ≤ old.world.tick) → n.last ≤ t
      by_ends (inl own) =
          let o = finds old.world.book id _ (mover.nurseries id (inl own)) in
          (by_grown o.0.last (last_before o.0 o.1 own) (grown o.0 o.1 own)).0
      by_ends (inr h) =
          let e : n.last ≤ old.world.tick = gives new.world.book id n (λ x. x.last ≤ old.world.tick) at h in
          let f : old.world.tick ≡ t = c.tick in omega (arith, e, f)

  -- a task in one of the task's nurseries is another task, and stays as it is
  member_stays : (id child_index serial last later : ℕ) (x : End) → last ≤ later → HasBlock id (blocks_of before.frames.items) →
      IsMember old c.interleaving.at last id child_index serial (Some x) →
      IsMember new T.is.at later id child_index serial (Some x)
  member_stays id child_index serial last later None le has h =
      let below : serial < m = below_of c serial h.0 h.1 in
      let later : s < serial = home_earlier k job input t m None old c serial h.0 h.1 id child_index h.2 s before T.code.task (inl has) in
      (h.0, T.code.other_after serial below (λ e. omega (arith, later, e)) ∙ h.1, h.2)
  member_stays id child_index serial last later (Some exc) le has h = (
    h.0,
    h.1,
    T.code.ended_task_after serial ∙ h.2,
    (let e = h.3 in omega (arith, e, le)),
    ap (λ (q : Started). q.rest.stopped)
        (T.of_other serial (ended_task_below k job input t m None old c serial h.0 h.2) differs) ∙ h.4,
  )
    where
      lives : live (c.interleaving.at s).rest.stopped ≡ true
      lives = mover.lives (λ e. not_both refl e)

      differs : serial ≢ s
      differs e =
          let over : (c.interleaving.at s).rest.stopped ≡ rest.at_end h.1 exc = sym (ap (λ (p : ℕ). (c.interleaving.at p).rest.stopped) e)
          ∙ h.4 in
          let none : live (c.interleaving.at s).rest.stopped ≡ false = ap live over in
          let clash : true ≡ false = sym lives ∙ none in
          cc

  -- a child with a number from before
  old_member : (id child_index number : ℕ) (n : Nursery) → nursery_at new.world.book id ≡ Some n → IsLast id n.last →
      HasBlock id (blocks_of before.frames.items) → slice_get (c.numbers s id) child_index ≡ Some number →
      (number < moved_to.count) × IsMember new T.is.at n.last id child_index (moved_to.child number) (slice_get n.children child_index)
  old_member id child_index number n at last has was =
      let o = finds old.world.book id _ (mover.nurseries id (inl has)) in
      let g = finds new.world.book id _ (T.took.nurseries.grow id has o.0 o.1) in
      let one = o.2.members child_index number was in
      let below : number < (c.interleaving.at s).count = one.0 in
      let longer : slice_get n.children child_index ≡ slice_get (o.0.children ++ g.2.more) child_index =
      ap (λ (x : Nursery). slice_get x.children child_index) (one_of n g.0 (sym at ∙ g.1))
      ∙ ap (λ (es : List End). slice_get es child_index) g.2.children in (
        omega (arith, below),
        subst (λ (z : ℕ). IsMember new T.is.at n.last id child_index z (slice_get n.children child_index))
            (sym (old_child (c.interleaving.at s).count (c.interleaving.at s).child m number below))
            (by_end o.0.last (last.1 o.0 o.1 has) (slice_get o.0.children child_index) refl one.1 o.0.children g.2.more n.children longer refl),
      )
    where
      by_end : (since : ℕ) → since ≤ n.last → (e : Option End) → e ≡ e →
          IsMember old c.interleaving.at since id child_index ((c.interleaving.at s).child number) e →
          (was_there more there : List End) →
          slice_get there child_index ≡ slice_get (was_there ++ more) child_index → slice_get was_there child_index ≡ e →
          IsMember new T.is.at n.last id child_index ((c.interleaving.at s).child number) (slice_get there child_index)
      by_end since le None r h xs ys zs same e = absurd h
      by_end since le (Some x) r h xs ys zs same e =
          subst (λ (z : Option End). IsMember new T.is.at n.last id child_index ((c.interleaving.at s).child number) z)
          (sym (same ∙ got_first xs ys child_index x e))
          (member_stays id child_index ((c.interleaving.at s).child number) since n.last x le has h)

  -- where a child that was begun is at home
  begun_there : (id child_index number : ℕ) (n : Nursery) → nursery_at new.world.book id ≡ Some n →
      (r : BeginsThere id child_index number T.took.tasks T.move.begun) →
      (b : Begun) → IsBegun old.world.clock (a_round_after old.world.clock old.world.tick) T.took.numbers_after new.world.book
      (blocks_of after.frames.items) (waits_of after.task_state) r.task b →
      slice_get n.children child_index ≡ Some None
  begun_there id child_index number n at r b h =
      let here : Some (h.home.nursery, h.home.index) ≡ Some (id, child_index) =
      sym (ap (option_map (λ (x : Home). (x.nursery, x.index))) h.at_home) ∙ r.home in
      let pair : (h.home.nursery, h.home.index) ≡ (id, child_index) = one_of (h.home.nursery, h.home.index) (id, child_index) here in
      let o = finds new.world.book h.home.nursery _ h.nursery in
      let same : Some o.0 ≡ Some n = sym o.1 ∙ (ap (λ (z : ℕ × ℕ). nursery_at new.world.book z.0) pair ∙ at) in
      sym (ap (λ (x : Nursery). slice_get x.children h.home.index) (one_of o.0 n same) ∙ ap (λ (z : ℕ × ℕ). slice_get n.children z.1) pair)
      ∙ o.2.1

  new_member : (id child_index number : ℕ) (n : Nursery) → nursery_at new.world.book id ≡ Some n →
      BeginsThere id child_index number T.took.tasks T.move.begun →
      (number < moved_to.count) × IsMember new T.is.at n.last id child_index (moved_to.child number) (slice_get n.children child_index)
  new_member id child_index number n at r =
      let h = begun_at old.world.clock (a_round_after old.world.clock old.world.tick) T.took.numbers_after new.world.book
      (blocks_of after.frames.items) (waits_of after.task_state) T.took.tasks T.move.begun
      T.took.begun r.index r.task r.is in
      let is : number ≡ (c.interleaving.at s).count + r.index =
      sym r.number_is ∙ numbered_on (c.interleaving.at s).count T.move.made T.move.begun T.promise.starts r.index r.child r.begun in
      let short : r.index < length T.move.begun = below_length T.move.begun r.index r.child r.begun in
      let child : moved_to.child number ≡ m + (number - (c.interleaving.at s).count) =
      later_child (c.interleaving.at s).count (c.interleaving.at s).child m number (omega (arith, is)) in
      let serial : m + (number - (c.interleaving.at s).count) ≡ m + r.index = omega (arith, is) in (
        omega (arith, is, short),
        subst (λ (e : Option End). IsMember new T.is.at n.last id child_index (moved_to.child number) e)
            (sym (begun_there id child_index number n at r h.0 h.2))
            (r.task, ap new.task (child ∙ serial) ∙ (T.child_after r.index ∙ r.is), r.home),
      )

  -- Each nursery that the task has after its turn has these members.
  pub members_after : (id : ℕ) → HasNurseryOf id (blocks_of after.frames.items) (waits_of after.task_state) →
      HasNursery new.world.book id (λ n. HasMembers new T.is.at t T.took.numbers_after moved_to id n)
  members_after id has = puts new.world.book id found.0 _ found.1 (record { long = found.2; last = last.0; members = members })
    where
      found : (n : Nursery) × (nursery_at new.world.book id ≡ Some n) × (length (T.took.numbers_after id) ≡ length n.children)
      found = finds new.world.book id (λ n. length (T.took.numbers_after id) ≡ length n.children) (T.took.nurseries.numbered id has)

      last : IsLast id found.0.last
      last = last_after id found.0 found.1 has

      members : (child_index number : ℕ) → slice_get (T.took.numbers_after id) child_index ≡ Some number →
          (number < moved_to.count) × IsMember new T.is.at found.0.last id child_index (moved_to.child number) (slice_get found.0.children child_index)
      members child_index number at = by_cover (T.took.nurseries.covered id child_index number has at)
        where
          by_cover : (HasBlock id (blocks_of before.frames.items) × (slice_get (c.numbers s id) child_index ≡ Some number))
              ⊎ BeginsAt id child_index number T.took.tasks T.move.begun →
              (number < moved_to.count) × IsMember new T.is.at found.0.last id child_index (moved_to.child number)
              (slice_get found.0.children child_index)
          by_cover (inl h) = old_member id child_index number found.0 found.1 last h.0 h.1
          by_cover (inr h) = new_member id child_index number found.0 found.1 (begins_there id child_index number T.took.tasks T.move.begun h)
