-- The tasks of the program after a turn of the code: they are those of the run after it, and what the stop
-- says of the task is true.
use Rattle.task_machine.specs.Frames.{Lent}
use Rattle.std.proofs.Common.{◌≡◌, ◌≢◌, ℕ, zero, suc, ◌+◌, ◌<◌, min, max, Bool, Option, Some, None, List, ◌++◌, length, refl, ap, sym, ◌∙◌, subst, arith, ◌⊎◌, inl, inr, true}
use Rattle.exceptions.specs.Exceptions.{Exc, Label}
use Rattle.cancel_scopes.specs.Sight.{seen}
use Rattle.input_lines.specs.declared.kernel.Kernel.{Kernel}
use Rattle.cancel_scopes.specs.Tree.{outer_of}
use Rattle.job_tree.specs.Tree.{Tree as Job}
use Rattle.job_tree.specs.Names.{GivesNamesOnce}
use Rattle.job_tree.specs.Starting.{StartsInNurseries}
use Rattle.interleavings.specs.Laws.{IsSettledBy}
use Rattle.job_meaning.specs.Log.{Table}
use Rattle.job_meaning.specs.Moments.{tick_of, start_of, far, wakes_at}
use Rattle.job_meaning.specs.declared.clock.Clock.{Clock}
use Rattle.job_meaning.specs.declared.clock.Clock.TheVariants.{ByTicks as by_ticks, ByRounds as by_rounds}
use Rattle.job_meaning.specs.Walk.{Here}
use Rattle.job_meaning.specs.Rest.{Stopped, asleep, waiting_for, giving_up, awaiting, at_end, queued}
use Rattle.nursery_book.specs.Book.{HasNursery}
use Rattle.nursery_book.specs.declared.book.NurseryBook.{NurseryBook}
use Rattle.turn_semantics.specs.Midway.{Tables, Place, stack_at, label_among}
use Rattle.turn_semantics.specs.Steps.{cancelled_from_after}
use Rattle.turn_semantics.specs.Names.{names_at, OwnNames}
use Rattle.turn_semantics.specs.Placed.{PlacedAfter, IsSome as IsSomeLabel}
use Rattle.turn_semantics.specs.Turned.{StopsAt, FallsAsleep as FallsAsleepFor}
use Rattle.task_machine.specs.declared.stop.TaskState.{TaskState}
use Rattle.task_machine.specs.declared.stop.TaskState.TheVariants.{Asked, Asleep, Waiting, GivingUp, Awaits, Over, Queued}
use Rattle.task_machine.specs.declared.stop.Stop.{Stop}
use Rattle.task_machine.specs.declared.stop.Stop.TheVariants.{Ask, Sleep, WaitFor, GiveUp, Wait, Ended, Queue}
use Rattle.task_machine.specs.declared.stop.Wake.{Wake}
use Rattle.task_machine.specs.declared.task.Task.{Task}
use Rattle.task_machine.specs.declared.world.World.{World}
use Rattle.task_machine.specs.Stacked.{AreAt, AwaitsEvent}
use Rattle.task_machine.specs.Standing.{BodyEnds, now_for}
use Rattle.task_machine.specs.States.{state_of}
use Rattle.task_machine.specs.Stops.{Numbers, IsTaskState, IsReturned, StopsAs}
use Rattle.task_machine.specs.Tasks.{scope_of, lent_of}
use Rattle.task_machine.specs.Waking.{wake_in, IsInRangeTaskState}
use Rattle.task_machine.specs.Worlds.{label_at, event_at}
use Rattle.task_machine.proofs.Stacked.{one_of, seen_at}
use Rattle.interleavings.specs.Interleaving.{Started}
use Rattle.interleavings.specs.Woken.{MayWake}
use Rattle.run_refinement.specs.RunState.{RunState, Follows, Refines}
use Rattle.run_refinement.specs.Turn.{numbers_then, leaving_by}
use Rattle.run_refinement.specs.Turning.{Turning}
use Rattle.run_refinement.specs.Step.{TakesTurn, IsUnseen, StopSays, EndsAs, StoppedIn}
use Rattle.run_refinement.proofs.ActsKeep.{not_both}
use Rattle.run_refinement.proofs.EventPlaces.{HasEvent, has_event, awaited_set}
use Rattle.run_refinement.proofs.StateFits.{state_fits}
use Rattle.run_refinement.proofs.StateTurn.{acted}
use Rattle.run_refinement.proofs.OthersFollow.{others_follow}
use Rattle.run_refinement.proofs.Taken.{turning, tasks_long}
use Rattle.run_refinement.proofs.Turned.{state_turned}
use Rattle.interleavings.specs.Runs.{keeping}
use Rattle.job_tree.specs.declared.object.Ask.{Ask as AskKind}

-- ---- what a stop says

-- where the task stopped corresponds to its blocked state and to what was returned, now
pub record IsReturnedNow (clock there : Clock) (numbers : Numbers) (book : NurseryBook) (part : Lent) (stop : Stop) (task_state : TaskState)
    (t : ℕ)
    (cancelled_from : Table) (ps : List Place) (s : Stopped) : Type 0 where
  pub blocks_on : IsTaskState numbers book task_state s
  pub returned : IsReturned clock part stop task_state s
  pub now : StopsAt there t cancelled_from (Some s) ps

-- how the code stopped and how the definitions did, put together in one record
returned_now : (clock there : Clock) (numbers : Numbers) (book : NurseryBook) (part : Lent) (stop : Stop) (task_state : TaskState) (t : ℕ)
    (cancelled_from : Table) (ps : List Place) (o : Option Stopped) (s : Stopped) → o ≡ Some s →
    StopsAs clock numbers book part stop task_state o → StopsAt there t cancelled_from o ps →
    IsReturnedNow clock there numbers book part stop task_state t cancelled_from ps s
returned_now clock there numbers book part stop task_state t cancelled_from ps o s e stops now =
    let both = subst (λ (x : Option Stopped). StopsAs clock numbers book part stop task_state x) e stops in
    record { blocks_on = both.0; returned = both.1; now = subst (λ (x : Option Stopped). StopsAt there t cancelled_from x ps) e now }

-- a task that ended did so now
pub ends_now : (clock there : Clock) (numbers : Numbers) (book : NurseryBook) (part : Lent) (stop : Stop) (task_state : TaskState) (t : ℕ)
    (cancelled_from : Table) (ps : List Place) (s : Stopped) →
    IsReturnedNow clock there numbers book part stop task_state t cancelled_from ps s → (q : Started) → q.rest.stopped ≡ s → EndsAs stop t q
ends_now clock there numbers book part (Ask request) task_state t cancelled_from ps s h q e = tt
ends_now clock there numbers book part (Sleep due) task_state t cancelled_from ps s h q e = tt
ends_now clock there numbers book part (WaitFor event) task_state t cancelled_from ps s h q e = tt
ends_now clock there numbers book part (Queue request) task_state t cancelled_from ps s h q e = tt
ends_now clock there numbers book part (GiveUp due) task_state t cancelled_from ps s h q e = tt
ends_now clock there numbers book part (Wait id) task_state t cancelled_from ps s h q e = tt
ends_now clock there numbers book part (Ended exc) Over t cancelled_from ps (at_end u x) h q e =
    e ∙ (ap (λ (v : ℕ). at_end v x) h.now ∙ ap (λ (y : Option Exc). at_end t y) (sym h.returned))
ends_now clock there numbers book part (Ended exc) _ t cancelled_from ps _ h q e = absurd h.returned

-- a sleep that a task falls into ends later
ends_later : (clock : Clock) (n t : ℕ) (seen_now : Bool) → FallsAsleepFor clock n seen_now → t < wakes_at clock n t
ends_later by_ticks n t seen_now h = let e : 0 < n = h.0 in omega (arith, e)
ends_later by_rounds zero t seen_now h = omega arith
ends_later by_rounds (suc n) t seen_now h = max_later t (start_of by_rounds (min far (tick_of by_rounds t + suc n)))
  where
    max_later : (a b : ℕ) → a < max (a + 1) b
    max_later a b = omega arith

-- where moments are ticks, a task falls asleep only if it sees nothing
sees_none : (clock : Clock) (n : ℕ) (seen_now there : Bool) → there ≡ seen_now → FallsAsleepFor clock n seen_now → IsUnseen clock there
sees_none by_ticks n seen_now there e h = e ∙ h.1
sees_none by_rounds n seen_now there e h = tt

-- the event for which a task waits, if it waits for one, is one that encloses it
record WaitsIn (world : World) (task : Task) (task_state : TaskState) (s : Stopped) (ps : List Place) : Type 0 where
  pub own : OwnNames (names_at ps)
  pub event : AwaitsEvent (label_at world) (outer_of world.scopes (scope_of task)) (Some s) task_state ps
  pub some : HasEvent s ps

some_label : (o : Option Label) → IsSomeLabel o → (l : Label) × (o ≡ Some l)
some_label None h = absurd h
some_label (Some l) h = (l, refl)

-- and what the stop says is so
says_now : (clock there : Clock) (numbers : Numbers) (book : NurseryBook) (part : Lent) (stop : Stop) (task_state : TaskState) (t : ℕ)
    (cancelled_from : Table) (ps : List Place) (s : Stopped) →
    IsReturnedNow clock there numbers book part stop task_state t cancelled_from ps s → (world : World) (task : Task) → task.task_state ≡ task_state →
    lent_of task ≡ part → world.tick ≡ t → world.clock ≡ clock → there ≡ clock →
    AreAt (label_at world) (event_at world) cancelled_from (outer_of world.scopes (scope_of task)) ps → IsInRangeTaskState task_state → book ≡ world.book →
    BodyEnds task_state book → WaitsIn world task task_state s ps → StopSays world task stop
says_now clock there numbers book part (Ask request) (Asked kernel purpose) t cancelled_from ps s h world task e of tick ticking same at in_range held ends w =
    record { purpose = purpose; task_state = e ∙ ap (λ (k : Kernel). Asked k purpose) (sym h.returned.0); buffer = h.returned.1 ∙ ap (λ (l : Lent). l.input) (sym of); range = h.returned.2 ∙ ap (λ (l : Lent). l.range) (sym of) }
says_now clock there numbers book part (Ask request) _ t cancelled_from ps s h world task e of tick ticking same at in_range held ends w = absurd h.returned
says_now clock there numbers book part (Sleep due) (Asleep paced ticks since) t cancelled_from ps (asleep p n u) h world task e of tick ticking same
    at
    in_range held ends w =
    let is : since ≡ world.tick = h.blocks_on.2 ∙ (h.now.0 ∙ sym tick) in
    let returned : due ≡ wakes_at world.clock ticks world.tick =
    h.returned ∙ ap (λ (x : Clock). wakes_at x ticks since) (sym ticking) ∙ ap (wakes_at world.clock ticks) is in
    let falls : FallsAsleepFor world.clock ticks (seen (stack_at cancelled_from ps).scopes t) =
    subst (λ (x : Clock). FallsAsleepFor x ticks (seen (stack_at cancelled_from ps).scopes t)) (same ∙ sym ticking)
    (subst (λ (v : ℕ). FallsAsleepFor there v (seen (stack_at cancelled_from ps).scopes t)) (sym h.blocks_on.1) h.now.1) in
    record {
      paced = paced;
      ticks = ticks;
      task_state = e ∙ ap (λ (v : ℕ). Asleep paced ticks v) is;
      short = in_range;
      due_is = returned;
      later = subst (λ (v : ℕ). world.tick < v) (sym returned) (ends_later world.clock ticks world.tick (seen (stack_at cancelled_from ps).scopes t) falls);
      unseen =
          sees_none world.clock ticks (seen (stack_at cancelled_from ps).scopes t) (seen (outer_of world.scopes (scope_of task)) world.tick)
          (ap (λ (v : ℕ). seen (outer_of world.scopes (scope_of task)) v) tick
          ∙ seen_at (label_at world) (event_at world) cancelled_from (outer_of world.scopes (scope_of task)) ps t at) falls;
    }
says_now clock there numbers book part (Sleep due) (Asleep paced ticks since) t cancelled_from ps _ h world task e of tick ticking same at in_range held ends w =
    absurd h.blocks_on
says_now clock there numbers book part (Sleep due) _ t cancelled_from ps s h world task e of tick ticking same at in_range held ends w = absurd h.returned
says_now clock there numbers book part (WaitFor event) (Waiting key since) t cancelled_from ps (waiting_for name u) h world task e of tick ticking same at
    in_range held ends w =
    let is : since ≡ world.tick = h.blocks_on ∙ (h.now ∙ sym tick) in
    let set =
    (awaited_set (label_at world) (event_at world) cancelled_from (outer_of world.scopes (scope_of task)) ps key name world.clock since w.own at w.event.0
    w.event.1 w.some).1 in
    record {
      task_state = e ∙ (ap (λ (n : ℕ). Waiting n since) (sym h.returned) ∙ ap (λ (v : ℕ). Waiting event v) is);
      set = set.0;
      is_event = ap (event_at world) h.returned ∙ set.1;
    }
says_now clock there numbers book part (WaitFor event) (Waiting key since) t cancelled_from ps _ h world task e of tick ticking same at in_range held
    ends w =
    absurd h.blocks_on
says_now clock there numbers book part (WaitFor event) _ t cancelled_from ps s h world task e of tick ticking same at in_range held ends w = absurd h.returned
says_now clock there numbers book part (Queue request) (Queued key ask since body) t cancelled_from ps (queued name a u steps) h world task e of tick ticking
    same at in_range held ends w =
    let is : since ≡ world.tick = h.blocks_on.1 ∙ (h.now.0 ∙ sym tick) in
    let label : (l : Label) × (label_among true name ps ≡ Some l) = some_label (label_among true name ps) w.some in
    record {
      body = body;
      task_state = e ∙ (ap (λ (n : ℕ). Queued n ask since body) (sym h.returned.0)
          ∙ (ap (λ (x : AskKind). Queued request.object x since body) (sym h.returned.1) ∙ ap (λ (v : ℕ). Queued request.object request.ask v body) is));
      label = label.0;
      labelled = ap (label_at world) h.returned.0 ∙ (w.event.1 ∙ label.1);
      buffer = h.returned.2 ∙ ap (λ (l : Lent). l.input) (sym of);
      range = h.returned.3 ∙ ap (λ (l : Lent). l.range) (sym of);
    }
says_now clock there numbers book part (Queue request) (Queued key ask since body) t cancelled_from ps _ h world task e of tick ticking same at in_range
    held ends w =
    absurd h.blocks_on
says_now clock there numbers book part (Queue request) _ t cancelled_from ps s h world task e of tick ticking same at in_range held ends w = absurd h.returned
says_now clock there numbers book part (GiveUp due) (GivingUp since) t cancelled_from ps (giving_up u) h world task e of tick ticking same at
    in_range held ends w =
    record { since = since; since_is = by_round h.now; task_state = e; due_is = h.returned }
  where
    by_round : (u ≡ t) ⊎ (u ≡ suc t) → (since ≡ world.tick) ⊎ (since ≡ suc world.tick)
    by_round (inl g) = inl (h.blocks_on ∙ (g ∙ sym tick))
    by_round (inr g) = inr (h.blocks_on ∙ (g ∙ ap suc (sym tick)))
says_now clock there numbers book part (GiveUp due) (GivingUp since) t cancelled_from ps _ h world task e of tick ticking same at in_range held ends w =
    absurd h.blocks_on
says_now clock there numbers book part (GiveUp due) _ t cancelled_from ps s h world task e of tick ticking same at in_range held ends w = absurd h.returned
says_now clock there numbers book part (Wait id) (Awaits key since) t cancelled_from ps (awaiting children u x) h world task e of tick ticking same
    at
    in_range held ends w =
    let is : since ≡ world.tick = h.blocks_on.1 ∙ (h.now ∙ sym tick) in
    record {
      task_state = e ∙ (ap (λ (n : ℕ). Awaits n since) (sym h.returned) ∙ ap (λ (v : ℕ). Awaits id v) is);
      last =
          subst (λ (v : ℕ). HasNursery world.book id (λ n. n.last ≡ v)) is
          (subst (λ (b : NurseryBook). HasNursery b id (λ n. n.last ≡ since)) held
          (subst (λ (n : ℕ). HasNursery book n (λ m. m.last ≡ since)) (sym h.returned) ends));
    }
says_now clock there numbers book part (Wait id) (Awaits key since) t cancelled_from ps _ h world task e of tick ticking same at in_range held ends w =
    absurd h.blocks_on
says_now clock there numbers book part (Wait id) _ t cancelled_from ps s h world task e of tick ticking same at in_range held ends w = absurd h.returned
says_now clock there numbers book part (Ended exc) task_state t cancelled_from ps s h world task e of tick ticking same at in_range held ends w = tt

-- ---- a turn

-- each other task follows as it did
pub other_follows : (k : Tables) (job : Job) (input : List ℕ) (t m s : ℕ) (old new : RunState) (before after : Task) (stop : Stop) →
    IsSettledBy k job input → GivesNamesOnce job →
    StartsInNurseries job → (c : Refines k job input t m None old) →
    (T : Turning k job input t m s old new c.numbers before after stop c.interleaving) → (u : ℕ) → u < m → u ≢ s →
    (task : Task) → old.task u ≡ Some task → Follows new T.is.cancelled_from input t T.is.at (numbers_then c.numbers s m T.took.numbers_after)
    (leaving_by stop s) u task
other_follows k job input t m s old new before after stop settled names starting c T u below differs task is =
    others_follow k job input t m s old new before after stop c T (acted c T settled names starting) u below differs task is

module _ (k : Tables) (job : Job) (input : List ℕ) (t m s : ℕ) (old new : RunState) (before after : Task) (wake : Wake) (stop : Stop)
    (settled : IsSettledBy k job input)
    (names : GivesNamesOnce job) (starting : StartsInNurseries job) (c : Refines k job input t m None old)
    (x : TakesTurn t m s old new before after wake stop)
    (may : MayWake (keeping c.interleaving.cancelled_from k) c.interleaving.tasks (record { at = t; own = (now_for wake (state_of before old.world)).own })
    (c.interleaving.at s) (wake_in old.world.book before.task_state wake) (c.interleaving.at s).rest.stopped)
  where
    -- what the code says of it is all that is known of a turn
    turn : Turning k job input t m s old new c.numbers before after stop c.interleaving
    turn =
        turning k job input t m s old new before after wake stop settled names starting c x
        (state_fits k job input t m None old c x.sound s before x.task) may

    -- and it began the tasks that wait in the world
    pub turning_of : (T : Turning k job input t m s old new c.numbers before after stop c.interleaving)
        × (length T.move.begun ≡ length new.world.started.items)
    turning_of = (turn, sym (tasks_long turn) ∙ sym (ap (λ (ts : List Task). length ts) started))
      where
        started : new.world.started.items ≡ turn.took.tasks
        started = turn.took.started ∙ ap (λ (ts : List Task). ts ++ turn.took.tasks) x.none_left

    module _ (T : Turning k job input t m s old new c.numbers before after stop c.interleaving) where
      returned : IsReturnedNow old.world.clock (c.interleaving.at s).here.clock T.took.numbers_after new.world.book (lent_of after) stop
          after.task_state t (cancelled_from_after c.interleaving.cancelled_from T.move.made)
          T.move.places T.stopped
      returned =
          returned_now old.world.clock (c.interleaving.at s).here.clock T.took.numbers_after new.world.book (lent_of after) stop after.task_state t
          (cancelled_from_after c.interleaving.cancelled_from T.move.made) T.move.places
          T.move.stopped T.stopped T.stops T.took.moves.1
          T.promise.stops

      now : EndsAs stop t (T.is.at s)
      now =
          ends_now old.world.clock (c.interleaving.at s).here.clock T.took.numbers_after new.world.book (lent_of after) stop after.task_state t
          (cancelled_from_after c.interleaving.cancelled_from T.move.made) T.move.places
          T.stopped returned (T.is.at s)
          (ap (λ (q : Started). q.rest.stopped) T.of_task)

      step : StoppedIn k job input t (m + length T.move.begun) s stop new
      step =
          let after = state_turned c T settled names starting
          (other_follows k job input t m s old new before after stop settled names starting
          c T) in
          record { is = after.0; ended = subst (λ (at : ℕ → Started). EndsAs stop t (at s)) (sym after.1) now }

      placed : (o : Option Stopped) → o ≡ Some T.stopped → PlacedAfter o T.move.frames T.move.places → HasEvent T.stopped T.move.places
      placed None e h = absurd (not_both refl e)
      placed (Some x) e h =
          subst (λ (z : Stopped). HasEvent z T.move.places) (one_of x T.stopped e) (has_event x T.move.frames T.move.places h)

      waits : WaitsIn new.world after after.task_state T.stopped T.move.places
      waits =
          record {
            own = T.names.own;
            event =
                subst (λ (o : Option Stopped). AwaitsEvent (label_at new.world) (outer_of new.world.scopes (scope_of after)) o
                after.task_state T.move.places) T.stops T.took.event;
            some = placed T.move.stopped T.stops T.promise.placed;
          }

      says : StopSays new.world after stop
      says =
          says_now old.world.clock (c.interleaving.at s).here.clock T.took.numbers_after new.world.book (lent_of after) stop after.task_state t
          (cancelled_from_after c.interleaving.cancelled_from T.move.made) T.move.places
          T.stopped returned new.world after refl
          refl (ap (λ (w : World). w.tick) T.code.world ∙ c.tick)
          (ap (λ (w : World). w.clock) T.code.world) (sym (ap (λ (h : Here). h.clock) (c.follows s before T.code.task).here)) T.took.places
          T.code.in_range refl T.took.last waits

    -- After a task of the program took a turn, the tasks are one run with those that it started, in which that
    -- task stopped so.
    pub stepped : StoppedIn k job input t (m + length new.world.started.items) s stop new
    stepped = let T = turning_of in subst (λ (n : ℕ). StoppedIn k job input t (m + n) s stop new) T.1 (step T.0)

    -- And what the stop says of it is so.
    pub stop_says : StopSays new.world after stop
    stop_says = says turning_of.0
