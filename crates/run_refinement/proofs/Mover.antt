-- The task that had its turn is tied to the one of the definitions that had it.
use Rattle.std.proofs.Common.{◌≡◌, ◌≢◌, ◌⊎◌, inl, inr, ℕ, ◌<◌, ◌≤◌, true, Option, Some, None, List, [], ◌++◌, map, refl, ap, sym, ◌∙◌, subst, arith}
use Rattle.std.proofs.lemmas.Bool.{cases_lt}
use Rattle.std.proofs.lemmas.List.{map-append}
use Rattle.std.proofs.lemmas.List.Elements.{All-append}
use Rattle.std.specs.Prelude.{All, slice_get}
use Rattle.std.specs.Option.{option_map, unwrap_or}
use Rattle.turn_semantics.specs.Lists.{IsAmong}
use Rattle.exceptions.specs.Exceptions.{Label}
use Rattle.input_lines.specs.Part.{buffer_of}
use Rattle.cancel_scopes.specs.Tree.{Stack, stack_of, outer_of, IsOpen}
use Rattle.nursery_book.specs.Nursery.{Nursery}
use Rattle.nursery_book.specs.Book.{nursery_at}
use Rattle.nursery_book.specs.declared.book.NurseryBook.{NurseryBook}
use Rattle.job_tree.specs.Tree.{Tree as Job}
use Rattle.job_meaning.specs.Log.{Table}
use Rattle.job_meaning.specs.declared.clock.Clock.{Clock}
use Rattle.job_meaning.specs.Walk.{Here}
use Rattle.job_meaning.specs.Shown.{Shown}
use Rattle.job_meaning.specs.Rest as rest
use Rattle.job_meaning.specs.Rest.{Event, Stopped, to_begin, asking, asleep, waiting_for, giving_up, awaiting, at_end, queued}
use Rattle.task_machine.specs.States.{state_of}
use Rattle.task_machine.specs.Noted.{entry_of, IsSlice, shown_made, AreNoted}
use Rattle.turn_semantics.specs.Names.{NewIn, NewStop}
use Rattle.turn_semantics.specs.Placed.{PlacedAfter, outer_places}
use Rattle.turn_semantics.specs.Turned.{StopsAt}
use Rattle.turn_semantics.specs.Midway.{Tables, Place, own_after}
use Rattle.turn_semantics.specs.Steps.{cancelled_from_after}
use Rattle.task_machine.specs.declared.stop.Stop.{Stop}
use Rattle.task_machine.specs.declared.task.Home.{Home}
use Rattle.task_machine.specs.declared.task.Own.{Own}
use Rattle.task_machine.specs.declared.task.Task.{Task}
use Rattle.task_machine.specs.declared.world.World.{World}
use Rattle.task_machine.specs.declared.stop.TaskState.{TaskState}
use Rattle.task_machine.specs.declared.stop.TaskState.TheVariants.{ToBegin, Asked, Asleep, Waiting, GivingUp, Awaits, Over, Queued}
use Rattle.task_machine.specs.Acts.{scoping_of}
use Rattle.task_machine.specs.Fitting.{blocks_of, waits_of, AreOthers}
use Rattle.task_machine.specs.Stacked.{AreAt, IsKey, AwaitsEvent}
use Rattle.task_machine.specs.Standing.{here_of, HasBlock, Stands, BodyEnds, now_for}
use Rattle.task_machine.specs.Stops.{Numbers, IsTaskState, IsReturned, StopsAs, OwnAfter}
use Rattle.task_machine.specs.Tasks.{scope_of, lent_of}
use Rattle.task_machine.specs.Worlds.{label_at, event_at}
use Rattle.interleavings.specs.Interleaving.{Started, live}
use Rattle.interleavings.specs.Rows.{entered_made}
use Rattle.run_refinement.specs.RunState.{RunState, Notes, Tracks, CanGoOn, LivesIn, HasHome, IsSince, LastEnds, Follows, OpenedBy, Refines}
use Rattle.run_refinement.specs.Turn.{IsEntered, numbers_then, leaving_by}
use Rattle.run_refinement.specs.Turning.{Turning}
use Rattle.run_refinement.proofs.ActsKeep.{Sound, Apart, KnownWith, labels_entered, same_or}
use Rattle.run_refinement.proofs.ActsTracks.{tracked, tracks_more}
use Rattle.run_refinement.proofs.Parts.{numbers_mover, numbers_other, own_or, entered_append, entered_same, known_first, known_last}
use Rattle.run_refinement.proofs.RunStates.{Stood, follows_by, owner}
use Rattle.run_refinement.proofs.Members.{moved_to, members_after}
use Rattle.task_machine.proofs.Apart.{has_scope}
use Rattle.task_machine.proofs.Cancels.{open_around}
use Rattle.task_machine.proofs.StateLemmas.{returned_end}
use Rattle.task_machine.proofs.Taking.{shown_append}
use Rattle.run_refinement.proofs.Found.{finds, puts}

-- ---- where a task stops in time

-- A task that stops in this moment is there, and what it has cancelled itself in the moment counts on while it asks.
since_now : (t : ℕ) (clock there : Clock) (cancelled woken own : List Label) (made : List Event) (numbers : Numbers) (book : NurseryBook)
    (task_state : TaskState) (stopped : Stopped) (cancelled_from : Table) (ps : List Place) → clock ≡ there → woken ≡ own →
    IsTaskState numbers book task_state stopped → StopsAt there t cancelled_from (Some stopped) ps →
    OwnAfter clock woken cancelled made (Some stopped) →
    IsSince t cancelled task_state (record { at = t; own = own_after there own made })
since_now t clock there cancelled woken own made numbers book (ToBegin at) to_begin cancelled_from ps same count h stops after = absurd stops
since_now t clock there cancelled woken own made numbers book (ToBegin at) _ cancelled_from ps same count h stops after = absurd h
since_now t clock there cancelled woken own made numbers book (Asked kernel purpose) (asking k p) cancelled_from ps same count h stops after = (
  omega arith,
  sym (after ∙ ap (λ (x : Clock). own_after x woken made) same ∙ ap (λ (ls : List Label). own_after there ls made) count),
)
since_now t clock there cancelled woken own made numbers book (Asked kernel purpose) _ cancelled_from ps same count h stops after = absurd h
since_now t clock there cancelled woken own made numbers book (Asleep paced ticks since) stopped cancelled_from ps same count h stops after = tt
since_now t clock there cancelled woken own made numbers book (Waiting event since) stopped cancelled_from ps same count h stops after = tt
since_now t clock there cancelled woken own made numbers book (Queued object ask since body) stopped cancelled_from ps same count h stops after = tt
since_now t clock there cancelled woken own made numbers book (GivingUp since) stopped cancelled_from ps same count h stops after = tt
since_now t clock there cancelled woken own made numbers book (Awaits id since) stopped cancelled_from ps same count h stops after = tt
since_now t clock there cancelled woken own made numbers book Over stopped cancelled_from ps same count h stops after = tt

-- The body of the nursery that a task waits for from this moment on ended now, and no member later.
ended_now : (at : ℕ → Started) (numbers : Numbers) (q : Started) (book : NurseryBook) (task_state : TaskState) → BodyEnds task_state book →
    LastEnds at numbers q book task_state
ended_now at numbers q book (Awaits id since) ends =
    let n = finds book id (λ n. n.last ≡ since) ends in
    let e : n.0.last ≡ since = n.2 in
    puts book id n.0 _ n.1 (omega (arith, e), inl (sym e))
ended_now at numbers q book (ToBegin v) ends = tt
ended_now at numbers q book (Asked kernel purpose) ends = tt
ended_now at numbers q book (Asleep paced ticks since) ends = tt
ended_now at numbers q book (Waiting event since) ends = tt
ended_now at numbers q book (Queued object ask since body) ends = tt
ended_now at numbers q book (GivingUp since) ends = tt
ended_now at numbers q book Over ends = tt

module _ (k : Tables) (job : Job) (input : List ℕ) (t m s : ℕ) (old new : RunState) (before after : Task) (stop : Stop)
    (c : Refines k job input t m None old)
    (T : Turning k job input t m s old new c.numbers before after stop c.interleaving) where
  mover : Follows old c.interleaving.cancelled_from input t c.interleaving.at c.numbers None s before
  mover = c.follows s before T.code.task

  abbrev result : Started
  result = moved_to k job input t m s old new before after stop c T

  abbrev now : Numbers
  now = T.took.numbers_after

  abbrev mover_clock : Clock
  mover_clock = (c.interleaving.at s).here.clock

  -- ---- where it stopped, and what it noted

  blocks_on : IsTaskState now new.world.book after.task_state T.stopped × IsReturned old.world.clock (lent_of after) stop after.task_state T.stopped
  blocks_on = subst (λ (o : Option Stopped). StopsAs old.world.clock now new.world.book (lent_of after) stop after.task_state o) T.stops
      T.took.moves.1

  lives_on : (stopped : Stopped) → IsTaskState now new.world.book after.task_state stopped →
      IsReturned old.world.clock (lent_of after) stop after.task_state stopped →
      (leaving_by stop s ≡ Some s → ⊥) →
      live stopped ≡ true
  lives_on to_begin h returned stays = refl
  lives_on (asking kernel purpose) h returned stays = refl
  lives_on (asleep paced n since) h returned stays = refl
  lives_on (waiting_for event since) h returned stays = refl
  lives_on (queued object ask since body) h returned stays = refl
  lives_on (giving_up since) h returned stays = refl
  lives_on (awaiting children ended exc) h returned stays = refl
  lives_on (at_end u e) h returned stays =
      let w = returned_end old.world.clock now new.world.book (lent_of after) stop after.task_state u e h returned in
      absurd (stays (ap (λ (z : Stop). leaving_by z s) w.1))

  input_here : buffer_of before.part ≡ input
  input_here = ap (λ (h : Here). h.input) mover.here ∙ mover.input_is

  -- the world's clock stays
  clock_stays : new.world.clock ≡ old.world.clock
  clock_stays = ap (λ (w : World). w.clock) T.code.world

  noted_before : Notes old.world.clock input result.made after.entries.items
  noted_before =
      let more : AreNoted old.world.clock input T.took.entries T.move.made =
      subst (λ (xs : List ℕ). AreNoted old.world.clock xs T.took.entries T.move.made) input_here T.took.shown in
      record {
        shown =
            ap (map entry_of) T.took.noted
            ∙ (map-append entry_of before.entries.items T.took.entries
            ∙ (ap (λ (x : List Shown). x ++ map entry_of T.took.entries) mover.notes.shown
            ∙ (ap (λ (x : List Shown). shown_made old.world.clock input (c.interleaving.at s).made ++ x) more.shown
            ∙ sym (shown_append old.world.clock input (c.interleaving.at s).made T.move.made))));
        slices = subst (All (IsSlice input)) (sym T.took.noted) (All-append (IsSlice input) before.entries.items T.took.entries
            mover.notes.slices more.slices);
      }

  noted_after : Notes new.world.clock input result.made after.entries.items
  noted_after = subst (λ (clock : Clock). Notes clock input result.made after.entries.items) (sym clock_stays) noted_before

  -- where it is in time
  stops_now : StopsAt mover_clock t (cancelled_from_after c.interleaving.cancelled_from T.move.made) (Some T.stopped) T.move.places
  stops_now =
      subst (λ (o : Option Stopped). StopsAt mover_clock t (cancelled_from_after c.interleaving.cancelled_from T.move.made) o T.move.places) T.stops
      T.promise.stops

  since_after : IsSince t after.cancelled.items after.task_state result.stop
  since_after =
      since_now t old.world.clock mover_clock after.cancelled.items (now_for T.woken_by (state_of before old.world)).own T.own T.move.made
      now
      new.world.book after.task_state T.stopped (cancelled_from_after c.interleaving.cancelled_from T.move.made) T.move.places
      (ap (λ (h : Here). h.clock) mover.here) (sym T.owns) blocks_on.0 stops_now
      (subst (OwnAfter old.world.clock (now_for T.woken_by (state_of before old.world)).own after.cancelled.items T.move.made) T.stops
      T.took.own)

  last_after : LastEnds T.is.at now result new.world.book after.task_state
  last_after = ended_now T.is.at now result new.world.book after.task_state T.took.last

  -- ---- its state

  stands_after : Stands (state_of after new.world) T.is.cancelled_from now (Some T.stopped) T.move.places
  stands_after =
      record {
        places = subst (λ (f : Table). AreAt (label_at new.world) (event_at new.world) f (outer_of new.world.scopes (scope_of after)) T.move.places)
            (sym T.cancelled_from) T.took.places;
        numbered = λ id has. T.took.nurseries.numbered id (inl has);
        placed =
            subst (λ (gs : List rest.Frame). PlacedAfter (Some T.stopped) gs T.move.places) (sym T.took.frames_after)
            (subst (λ (o : Option Stopped). PlacedAfter o T.move.frames T.move.places) T.stops T.promise.placed);
        new =
            subst (λ (gs : List rest.Frame). NewIn gs (outer_places (Some T.stopped) T.move.places)) (sym T.took.frames_after)
            (subst (λ (o : Option Stopped). NewIn T.move.frames (outer_places o T.move.places)) T.stops T.names.frames);
        stop = subst (λ (o : Option Stopped). NewStop o T.move.places) T.stops T.names.stop;
        own = T.names.own;
        event =
            subst (λ (o : Option Stopped).
            AwaitsEvent (label_at new.world) (outer_of new.world.scopes (scope_of after)) o after.task_state T.move.places) T.stops
            T.took.event;
      }

  goes_after : CanGoOn after new.world
  goes_after = T.code.fits_after.runs

  -- ---- its home

  module _ (home : Home) (is : before.home ≡ Some home) (l : LivesIn old c.interleaving.at c.numbers s home) where
    below : l.parent < m
    below = let e : l.parent < s = l.earlier in let b : s < m = T.below in omega arith

    differs : l.parent ≢ s
    differs f = let e : l.parent < s = l.earlier in omega (arith, e, f)

    same : T.is.at l.parent ≡ c.interleaving.at l.parent
    same = T.of_other l.parent below differs

    there : (n : Nursery) × (nursery_at old.world.book home.nursery ≡ Some n)
        × ((n.scope ≡ home.scope) × (slice_get n.children home.index ≡ Some None))
    there = finds old.world.book home.nursery (λ n. (n.scope ≡ home.scope) × (slice_get n.children home.index ≡ Some None)) l.runs

    -- the nursery's scope is its starter's
    others : AreOthers there.0.scope before.own.items
    others = by_own (own_or there.0.scope before.own.items)
      where
        by_own : AreOthers there.0.scope before.own.items ⊎ ((i : ℕ) × (o : Own) × (slice_get before.own.items i ≡ Some o)
            × (o.id ≡ there.0.scope)) →
            AreOthers there.0.scope before.own.items
        by_own (inl h) = h
        by_own (inr h) =
            let mine : OpenedBy old there.0.scope s =
            record { task = before; lives = T.code.task; index = h.0; scope = h.1; own = h.2; is = h.3 } in
            absurd (differs (c.apart there.0.scope l.parent s
            (owner k job input t m None old c l.parent l.starter l.lives home.nursery there.0 l.owned there.1) mine))

    no_block : HasBlock home.nursery (blocks_of before.frames.items) → ⊥
    no_block has =
        has_scope (label_at old.world) old.world.book (blocks_of before.frames.items) before.own.items (waits_of before.task_state) home.nursery
        there.0 mover.goes.opened (inl has)
        there.1 others

    is_open : IsOpen old.world.scopes there.0.scope
    is_open = subst (IsOpen old.world.scopes) (sym there.2.0) (mover.goes.home home.scope (ap (option_map (λ (h : Home). h.scope)) is))

    lives_there : LivesIn new T.is.at (numbers_then c.numbers s m now) s home
    lives_there =
        record {
          parent = l.parent;
          starter = l.starter;
          lives = T.code.other_after l.parent below differs ∙ l.lives;
          earlier = l.earlier;
          owned = l.owned;
          runs =
              puts new.world.book home.nursery there.0 (λ n. (n.scope ≡ home.scope) × (slice_get n.children home.index ≡ Some None))
              (T.took.nurseries.others home.nursery there.0 there.1 no_block (is_open, others)) there.2;
          number = l.number;
          stands =
              subst (λ (n : Numbers). slice_get (n home.nursery) home.index ≡ Some l.number)
              (sym (numbers_other c.numbers s m now l.parent below differs)) l.stands;
          below = subst (λ (q : Started). l.number < q.count) (sym same) l.below;
          serial = ap (λ (q : Started). q.child l.number) same ∙ l.serial;
        }

  home_after : HasHome new T.is.at (numbers_then c.numbers s m now) s after.home
  home_after =
      subst (HasHome new T.is.at (numbers_then c.numbers s m now) s) (sym (ap (λ (z : Task). z.home) T.code.stays))
      (by_home before.home refl mover.home)
    where
      by_home : (h : Option Home) → before.home ≡ h → HasHome old c.interleaving.at c.numbers s h →
          HasHome new T.is.at (numbers_then c.numbers s m now) s h
      by_home None e h = h
      by_home (Some home) e h = lives_there home e h

  -- ---- its moments of cancellation

  sound : Sound (scoping_of before old.world)
  sound = record { own = T.code.sound.own; around = around }
    where
      around : (key : ℕ) (st : Stack) → stack_of old.world.scopes key ≡ Some st → (at : ℕ) → IsKey at st → IsOpen old.world.scopes at
      around key st e at i =
          open_around old.world.scopes T.code.sound.chain (Some key) at (subst (IsKey at) (ap (λ (o : Option Stack). unwrap_or o []) (sym e)) i)

  module _ (quiet : (p : ℕ) → m ≤ p → entered_made (c.interleaving.at p).made ≡ [])
      (labels_apart : (a b : ℕ) (l : Label) → label_at old.world a ≡ Some l → label_at old.world b ≡ Some l → a ≡ b)
      (known : (key : ℕ) (l : Label) → label_at old.world key ≡ Some l → IsEntered c.interleaving.at l) where
    entered_here : entered_made (T.is.at s).made ≡ entered_made (c.interleaving.at s).made ++ labels_entered T.move.made
    entered_here =
        ap (λ (q : Started). entered_made q.made) T.of_task
        ∙ (entered_append (c.interleaving.at s).made T.move.made ∙ ap (λ (ls : List Label). entered_made (c.interleaving.at s).made ++ ls)
        (sym (entered_same T.move.made)))

    entered_before : (l : Label) (p : ℕ) → IsAmong l (entered_made (c.interleaving.at p).made) → (p ≡ s) ⊎ (p ≢ s) → (p < m) ⊎ (m ≤ p) →
        IsEntered T.is.at l
    entered_before l p h (inl e) o = (
      s,
      subst (IsAmong l) (sym entered_here)
          (known_first l (entered_made (c.interleaving.at s).made) (labels_entered T.move.made)
          (subst (λ (z : ℕ). IsAmong l (entered_made (c.interleaving.at z).made)) e h)),
    )
    entered_before l p h (inr d) (inl below) = (p, subst (λ (q : Started). IsAmong l (entered_made q.made)) (sym (T.of_other p below d)) h)
    entered_before l p h (inr d) (inr beyond) = absurd (subst (IsAmong l) (quiet p beyond) h)

    entered_after : (l : Label) → KnownWith (IsEntered c.interleaving.at) T.move.made l → IsEntered T.is.at l
    entered_after l (inl h) = entered_before l h.0 h.1 (same_or h.0 s) (cases_lt h.0 m)
    entered_after l (inr h) = (
      s,
      subst (IsAmong l) (sym entered_here)
          (known_last l (entered_made (c.interleaving.at s).made) (labels_entered T.move.made) h),
    )

    tracks_after : Tracks (IsEntered T.is.at) T.is.cancelled_from (scoping_of after new.world) (entered_made result.made)
    tracks_after =
        let apart : Apart (scoping_of before old.world) = record { labels = labels_apart } in
        let all = tracked (IsEntered c.interleaving.at) c.interleaving.cancelled_from (entered_made (c.interleaving.at s).made) T.took.acts sound apart known T.fresh
        mover.tracks in
        subst (λ (f : Table). Tracks (IsEntered T.is.at) f (scoping_of after new.world) (entered_made result.made)) (sym T.cancelled_from)
        (subst (Tracks (IsEntered T.is.at) _ (scoping_of after new.world))
        (sym entered_here ∙ ap (λ (q : Started). entered_made q.made) T.of_task) (tracks_more entered_after all))

    -- ---- all of it

    stood : Stood new T.is.cancelled_from input t T.is.at (leaving_by stop s) s after now result
    stood =
        record {
          here =
              ap (λ (z : Task). here_of new.world.clock z) T.code.stays ∙ ap (λ (clock : Clock). here_of clock before) clock_stays
              ∙ mover.here;
          since = since_after;
          last = last_after;
          input_is = mover.input_is;
          lives = lives_on T.stopped blocks_on.0 blocks_on.1;
          frames = T.took.frames_after;
          stands = stands_after;
          task_state = blocks_on.0;
          in_range = T.code.in_range;
          goes = goes_after;
          notes = noted_after;
          tracks = tracks_after;
          nurseries = members_after k job input t m s old new before after stop c T;
        }

    -- after its turn the task is tied to the one of the definitions that has its serial number
    pub mover_follows : Follows new T.is.cancelled_from input t T.is.at (numbers_then c.numbers s m T.took.numbers_after) (leaving_by stop s) s after
    mover_follows =
        follows_by new T.is.cancelled_from input t T.is.at (numbers_then c.numbers s m now) (leaving_by stop s) s after now result
        (numbers_mover c.numbers s m now) T.of_task stood
        home_after
