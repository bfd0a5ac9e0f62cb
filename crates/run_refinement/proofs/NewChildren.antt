-- A child that a task started in its turn is tied to the one of the definitions that began.
use Rattle.std.proofs.Common.{◌≡◌, ◌⊎◌, inl, inr, ℕ, ◌+◌, ◌-◌, ◌<◌, false, Option, Some, None, List, [], ◌∷◌, length, map, refl, ap, sym, ◌∙◌, subst, arith}
use Rattle.std.proofs.lemmas.List.Elements.{All-nil}
use Rattle.std.specs.Prelude.{All, IsSome, slice_get}
use Rattle.std.specs.Option.{ForSome, option_map, unwrap_or}
use Rattle.std.specs.List.{last_or}
use Rattle.exceptions.specs.Exceptions.{Label}
use Rattle.cancel_scopes.specs.Tree.{Stack, stack_of, outer_of, IsOpen}
use Rattle.nursery_book.specs.Nursery.{Nursery}
use Rattle.nursery_book.specs.Book.{nursery_at, HasNursery}
use Rattle.nursery_book.specs.declared.book.NurseryBook.{NurseryBook}
use Rattle.job_tree.specs.Starting.{StartsIn}
use Rattle.job_tree.specs.Tree.{Tree as Job}
use Rattle.job_meaning.specs.Log.{Table}
use Rattle.job_meaning.specs.Moments.{a_round_after, only_at}
use Rattle.job_meaning.specs.declared.clock.Clock.{Clock}
use Rattle.job_meaning.specs.Walk.{Here}
use Rattle.job_meaning.specs.Rest as rest
use Rattle.job_meaning.specs.Rest.{Stopped, to_begin}
use Rattle.task_machine.specs.States.{state_of}
use Rattle.task_machine.specs.declared.entry.ScopeFrom.{ScopeFrom}
use Rattle.task_machine.specs.Noted.{entry_of, IsSlice}
use Rattle.turn_semantics.specs.Midway.{Tables, Begun}
use Rattle.turn_semantics.specs.Names.{names_at, OwnNames, NewIn}
use Rattle.turn_semantics.specs.Names as names
use Rattle.turn_semantics.specs.Placed.{PlacedAfter, HasChildAfter}
use Rattle.task_machine.specs.declared.stop.Stop.{Stop}
use Rattle.task_machine.specs.declared.task.Home.{Home}
use Rattle.task_machine.specs.declared.task.Own.{Own}
use Rattle.task_machine.specs.declared.task.Task.{Task}
use Rattle.task_machine.specs.declared.world.World.{World}
use Rattle.task_machine.specs.Acts.{Scoping, scoping_of}
use Rattle.task_machine.specs.Fitting.{Block, blocks_of, waits_of, AreInRangeFrames, StartsFit, Opened, AreOf}
use Rattle.task_machine.specs.Frames.{frames_of}
use Rattle.task_machine.specs.Labels.{Labels}
use Rattle.task_machine.specs.Left.{keys_of, OwnFirst}
use Rattle.task_machine.specs.Stacked.{AreAt}
use Rattle.task_machine.specs.Standing.{here_of, HasBlock, HasNurseryOf, IsBegun, BeginsAt, Stands}
use Rattle.task_machine.specs.Stops.{Numbers, IsTaskState, StopsAs}
use Rattle.task_machine.specs.Tasks.{home_scope, scope_of, home_of, lent_of}
use Rattle.task_machine.specs.Waking.{IsInRangeTaskState}
use Rattle.task_machine.specs.Worlds.{label_at, event_at}
use Rattle.interleavings.specs.Interleaving.{Started}
use Rattle.interleavings.proofs.Turning.{later_child}
use Rattle.run_refinement.specs.RunState.{RunState, Differ, Tracks, CanGoOn, LivesIn, HasHome, IsSince, LastEnds, Follows, Refines}
use Rattle.run_refinement.specs.Turn.{IsEntered, child_at, numbers_then}
use Rattle.run_refinement.specs.Turning.{Turning}
use Rattle.run_refinement.proofs.ActsKeep.{not_both}
use Rattle.run_refinement.proofs.Homes.{HomeIn, home_there, chain_around}
use Rattle.run_refinement.proofs.Parts.{numbers_mover, numbers_child, among_got, begun_at, begins_there, numbered_on, starts_at, new_at, housed_at}
use Rattle.run_refinement.proofs.RunStates.{Stood, follows_by}
use Rattle.task_machine.proofs.Advances.{blocks_onto, own_keys, blocks_by}
use Rattle.task_machine.proofs.StateLemmas.{KeyedAfter, keyed_by, task_state_waits}
use Rattle.task_machine.proofs.Stacked.{one_of}
use Rattle.run_refinement.proofs.Found.{below_length, same_got, finds}
use Rattle.run_refinement.proofs.Inputs.{none_received}
use Rattle.input_lines.specs.Part.{buffer_of}

-- ---- a task that did nothing yet

opened_none : (labels : Labels) (book : NurseryBook) (bs : List Block) (own : List Own) (waits : Option ℕ) → bs ≡ [] → own ≡ [] →
    waits ≡ None →
    Opened labels book bs own waits
opened_none labels book bs own waits e f g =
    subst (λ (cs : List Block). Opened labels book cs own waits) (sym e)
    (subst (λ (os : List Own). Opened labels book [] os waits) (sym f) (subst (λ (w : Option ℕ). Opened labels book [] [] w) (sym g) tt))

none_owned : (id : ℕ) (bs : List Block) (waits : Option ℕ) → bs ≡ [] → waits ≡ None → HasNurseryOf id bs waits → ⊥
none_owned id bs waits e g (inl h) = subst (HasBlock id) e h
none_owned id bs waits e g (inr h) = not_both g h

tracks_none : (known : Label → Type 0) (f : Table) (s : Scoping) → s.own ≡ [] → s.cancelled_from ≡ [] → Tracks known f s []
tracks_none known f s e g =
    record {
      labels = ap (map (λ (x : ScopeFrom). x.label)) g;
      differ = subst Differ (sym e) tt;
      named = λ o i h. absurd (not_own o i h);
      kept = λ o i h. absurd (not_own o i h);
      left = λ i x h past. absurd (not_both refl (sym (ap (λ (xs : List ScopeFrom). slice_get xs i) g) ∙ h));
    }
  where
    not_own : (o : Own) (i : ℕ) → slice_get s.own i ≡ Some o → ⊥
    not_own o i h = not_both refl (sym (ap (λ (os : List Own). slice_get os i) e) ∙ h)

-- ---- one child

module _ (k : Tables) (job : Job) (input : List ℕ) (t m s : ℕ) (old new : RunState) (before after : Task) (stop : Stop)
    (c : Refines k job input t m None old)
    (T : Turning k job input t m s old new c.numbers before after stop c.interleaving) where
  abbrev now : Numbers
  now = T.took.numbers_after

  -- the moment in which the children begin
  abbrev at_begin : ℕ
  at_begin = a_round_after old.world.clock old.world.tick

  same_begin : a_round_after (c.interleaving.at s).here.clock t ≡ at_begin
  same_begin =
      ap (λ (clock : Clock). a_round_after clock t) (sym (ap (λ (h : Here). h.clock) (c.follows s before T.code.task).here))
      ∙ ap (a_round_after old.world.clock) (sym c.tick)

  clock_stays : new.world.clock ≡ old.world.clock
  clock_stays = ap (λ (w : World). w.clock) T.code.world

  -- a nursery of the task after its turn, by its key and that of its scope
  abbrev IsNursery : ℕ → ℕ → Type 0
  IsNursery id key = HasNurseryOf id (blocks_of after.frames.items) (waits_of after.task_state)
      × HasNursery new.world.book id (λ n. n.scope ≡ key)

  abbrev stack : Stack
  stack = outer_of new.world.scopes (scope_of after)

  places_after : AreAt (label_at new.world) (event_at new.world) T.is.cancelled_from stack T.move.places
  places_after = subst (λ (f : Table). AreAt (label_at new.world) (event_at new.world) f stack T.move.places) (sym T.cancelled_from) T.took.places

  keyed_after : KeyedAfter IsNursery (waits_of after.task_state) now T.move.frames (keys_of stack)
  keyed_after =
      subst (λ (ks : List ℕ). KeyedAfter IsNursery (waits_of after.task_state) now T.move.frames ks) (sym T.code.fits_after.runs.first)
      (subst (λ (gs : List rest.Frame). KeyedAfter IsNursery (waits_of after.task_state) now gs _) T.took.frames_after
      (keyed_by IsNursery now (label_at new.world) new.world.book after.frames.items after.own.items (waits_of after.task_state)
      (keys_of (outer_of new.world.scopes (home_scope after))) (λ id o has n. (has, n)) T.code.fits_after.runs.opened))

  task_state_after : IsTaskState now new.world.book after.task_state T.stopped
  task_state_after = (subst (λ (o : Option Stopped). StopsAs old.world.clock now new.world.book (lent_of after) stop after.task_state o) T.stops
      T.took.moves.1).0

  module _ (i : ℕ) (task : Task) (is : slice_get T.took.tasks i ≡ Some task) (b : Begun) (begun : slice_get T.move.begun i ≡ Some b)
      (h : IsBegun old.world.clock at_begin now new.world.book (blocks_of after.frames.items) (waits_of after.task_state) task b) where
    numbered : b.number ≡ (c.interleaving.at s).count + i
    numbered = numbered_on (c.interleaving.at s).count T.move.made T.move.begun T.promise.starts i b begun

    -- the nursery of the task that has the child's number
    found : HomeIn IsNursery now (label_at new.world) (event_at new.world) T.is.cancelled_from b.number b.places stack
    found =
        home_there IsNursery now (label_at new.world) (event_at new.world) T.is.cancelled_from b.number b.places (waits_of after.task_state) T.move.frames stack T.move.places
        T.stopped
        (task_state_waits now new.world.book after.task_state T.stopped task_state_after) keyed_after places_after
        (subst (λ (o : Option Stopped). HasChildAfter b.number b.places o T.move.frames T.move.places) T.stops
        (housed_at T.move.begun T.move.stopped T.move.frames T.move.places T.promise.housed i b begun))

    here_is : home_of task ≡ Some (h.home.nursery, h.home.index)
    here_is = ap (option_map (λ (x : Home). (x.nursery, x.index))) h.at_home

    -- is its home
    same_nursery : h.home.nursery ≡ found.id
    same_nursery = by_cover (T.took.nurseries.covered found.id child_index.0 b.number found.is.0 child_index.1)
      where
        child_index : (j : ℕ) × (slice_get (now found.id) j ≡ Some b.number)
        child_index = among_got b.number (now found.id) found.among

        by_cover : (HasBlock found.id (blocks_of before.frames.items) × (slice_get (c.numbers s found.id) child_index.0 ≡ Some b.number))
            ⊎ BeginsAt found.id child_index.0 b.number T.took.tasks T.move.begun →
            h.home.nursery ≡ found.id
        by_cover (inl o) =
            let n = finds old.world.book found.id _ ((c.follows s before T.code.task).nurseries found.id (inl o.0)) in
            let below : b.number < (c.interleaving.at s).count = (n.2.members child_index.0 b.number o.1).0 in
            absurd (omega (arith, below, numbered))
        by_cover (inr o) =
            let r = begins_there found.id child_index.0 b.number T.took.tasks T.move.begun o in
            let on : r.child.number ≡ (c.interleaving.at s).count + r.index =
            numbered_on (c.interleaving.at s).count T.move.made T.move.begun T.promise.starts r.index r.child r.begun in
            let one : r.index ≡ i = omega (arith, on, r.number_is, numbered) in
            let mine : r.task ≡ task = same_got T.took.tasks i r.task task (sym (ap (slice_get T.took.tasks) one) ∙ r.is) is in
            ap (λ (z : ℕ × ℕ). z.0) (one_of (h.home.nursery, h.home.index) (found.id, child_index.0)
            (sym here_is ∙ (sym (ap (λ (z : Task). home_of z) mine) ∙ r.home)))

    same_scope : h.home.scope ≡ found.level.label
    same_scope =
        let n = finds new.world.book h.home.nursery _ h.nursery in
        let o = finds new.world.book found.id _ found.is.1 in
        sym n.2.0 ∙ (ap (λ (z : Nursery). z.scope) (one_of n.0 o.0 (sym n.1 ∙ (ap (nursery_at new.world.book) same_nursery ∙ o.1))) ∙ o.2)

    home_stack : stack_of new.world.scopes h.home.scope ≡ Some (found.level ∷ found.following)
    home_stack =
        ap (stack_of new.world.scopes) same_scope
        ∙ chain_around new.world.scopes T.code.sound_after.chain (scope_of after) found.before found.level found.following found.split

    home_open : IsOpen new.world.scopes h.home.scope
    home_open = subst IsSome (sym home_stack) refl

    home_is : home_scope task ≡ Some h.home.scope
    home_is = ap (option_map (λ (x : Home). x.scope)) h.at_home

    scope_is : scope_of task ≡ Some h.home.scope
    scope_is = ap (λ (os : List Own). last_or (home_scope task) (map (λ (o : Own). o.id) os)) h.own ∙ home_is

    around_is : outer_of new.world.scopes (scope_of task) ≡ found.level ∷ found.following
    around_is = ap (outer_of new.world.scopes) scope_is ∙ ap (λ (o : Option Stack). unwrap_or o []) home_stack

    no_blocks : blocks_of task.frames.items ≡ []
    no_blocks = sym (blocks_by task.frames.items) ∙ ap (λ (gs : List rest.Frame). blocks_onto gs []) (h.frames own_keys)

    no_waits : waits_of task.task_state ≡ None
    no_waits = ap waits_of h.task_state

    body_starts : StartsIn false b.body
    body_starts = starts_at _ T.move.begun T.promise.begun_in i b begun

    frames_are : frames_of (λ id. []) task.frames.items ≡ rest.steps_left b.body ∷ []
    frames_are = h.frames (λ id. [])

    stands_there : Stands (state_of task new.world) T.is.cancelled_from (λ id. []) (Some to_begin) b.places
    stands_there =
        let new_names : names.AreNew (names_at b.places) b.body × OwnNames (names_at b.places) =
        new_at T.move.begun T.names.begun i b begun in
        record {
          places = subst (λ (st : Stack). AreAt (label_at new.world) (event_at new.world) T.is.cancelled_from st b.places) (sym around_is) found.places;
          numbered = λ id has. absurd (subst (HasBlock id) no_blocks has);
          placed = subst (λ (gs : List rest.Frame). PlacedAfter (Some to_begin) gs b.places) (sym frames_are) (body_starts, tt);
          new = subst (λ (gs : List rest.Frame). NewIn gs b.places) (sym frames_are) (new_names.0, tt);
          stop = tt;
          own = new_names.1;
          event = tt;
        }

    goes_there : CanGoOn task new.world
    goes_there =
        record {
          in_range = subst AreInRangeFrames (sym frames_are) (h.in_range, tt);
          lent = subst (AreOf (buffer_of task.part)) (sym (none_received (λ id. []) task.frames.items b.body frames_are)) tt;
          starts = subst StartsFit (sym frames_are) (body_starts, tt);
          home = subst (λ (o : Option ℕ). ForSome o (IsOpen new.world.scopes)) (sym home_is) opens;
          scope = subst (λ (o : Option ℕ). ForSome o (IsOpen new.world.scopes)) (sym scope_is) opens;
          first = subst (OwnFirst new.world.scopes (home_scope task)) (sym h.own) refl;
          cancelled_from = subst (All (λ (o : Own). o.at < length task.cancelled_from.items)) (sym h.own)
              (All-nil (λ (o : Own). o.at < length task.cancelled_from.items));
          opened = opened_none (label_at new.world) new.world.book (blocks_of task.frames.items) task.own.items (waits_of task.task_state)
              no_blocks h.own no_waits;
        }
      where
        opens : ForSome (Some h.home.scope) (IsOpen new.world.scopes)
        opens key e = subst (IsOpen new.world.scopes) (one_of h.home.scope key e) home_open

    lives_there : LivesIn new T.is.at (numbers_then c.numbers s m now) (m + i) h.home
    lives_there =
        let short : i < length T.move.begun = below_length T.move.begun i b begun in
        let count : (c.interleaving.at s).count + length T.move.begun ≡ (T.is.at s).count = sym (ap (λ (q : Started). q.count) T.of_task) in
        let first : s < m = T.below in
        record {
          parent = s;
          starter = after;
          lives = T.code.task_after;
          earlier = omega (arith, first);
          owned = h.owned;
          runs = h.nursery;
          number = b.number;
          stands = subst (λ (n : Numbers). slice_get (n h.home.nursery) h.home.index ≡ Some b.number)
              (sym (numbers_mover c.numbers s m now)) h.number;
          below = omega (arith, short, count, numbered);
          serial =
              ap (λ (q : Started). q.child b.number) T.of_task
              ∙ (later_child (c.interleaving.at s).count (c.interleaving.at s).child m b.number (omega (arith, numbered))
              ∙ (let e : m + (b.number - (c.interleaving.at s).count) ≡ m + i = omega (arith, numbered) in e));
        }

    stood : (leaving : Option ℕ) → b.here.input ≡ input →
        Stood new T.is.cancelled_from input t T.is.at leaving (m + i) task (λ id. []) (child_at k (a_round_after (c.interleaving.at s).here.clock t)
        (m + i) b)
    stood leaving here =
        record {
          here = ap (λ (clock : Clock). here_of clock task) clock_stays ∙ h.here;
          since = subst (λ z. IsSince t task.cancelled.items z (only_at (a_round_after (c.interleaving.at s).here.clock t)))
              (sym h.task_state)
              (ap only_at same_begin);
          last =
              subst (λ z. LastEnds T.is.at (λ id. []) (child_at k (a_round_after (c.interleaving.at s).here.clock t) (m + i) b)
              new.world.book z)
              (sym h.task_state) tt;
          input_is = here;
          lives = λ stays. refl;
          frames = frames_are;
          stands = stands_there;
          task_state = subst (λ z. IsTaskState (λ id. []) new.world.book z to_begin) (sym h.task_state) tt;
          in_range = subst IsInRangeTaskState (sym h.task_state) tt;
          goes = goes_there;
          notes = record {
            shown = ap (map entry_of) h.entries;
            slices =
                subst (All (IsSlice input)) (sym h.entries) (All-nil (IsSlice input));
          };
          tracks = tracks_none (IsEntered T.is.at) T.is.cancelled_from (scoping_of task new.world) h.own h.cancelled_from;
          nurseries = λ id has. absurd (none_owned id (blocks_of task.frames.items) (waits_of task.task_state) no_blocks no_waits has);
        }

  -- each task that was started is tied to the one of the definitions that has its serial number
  pub child_follows : ((i : ℕ) (b : Begun) → slice_get T.move.begun i ≡ Some b → b.here.input ≡ input) → (i : ℕ) (task : Task) →
      slice_get T.took.tasks i ≡ Some task →
      (leaving : Option ℕ) → Follows new T.is.cancelled_from input t T.is.at (numbers_then c.numbers s m T.took.numbers_after) leaving (m + i) task
  child_follows inputs i task is leaving =
      let o = begun_at old.world.clock at_begin now new.world.book (blocks_of after.frames.items) (waits_of after.task_state) T.took.tasks
      T.move.begun T.took.begun i task
      is in
      follows_by new T.is.cancelled_from input t T.is.at (numbers_then c.numbers s m now) leaving (m + i) task (λ id. [])
      (child_at k (a_round_after (c.interleaving.at s).here.clock t) (m + i) o.0)
      (numbers_child c.numbers s m now i T.below) (T.of_child i o.0 o.1) (stood i task is o.0 o.1 o.2 leaving (inputs i o.0 o.1))
      (subst (HasHome new T.is.at (numbers_then c.numbers s m now) (m + i)) (sym o.2.at_home) (lives_there i task is o.0 o.1 o.2))
