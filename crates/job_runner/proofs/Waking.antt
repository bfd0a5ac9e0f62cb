-- Tasks with a timer in a new moment: which ones continue, and that the others stay.
use Rattle.std.proofs.Common.{◌≡◌, ◌≢◌, inl, inr, ℕ, ◌^◌, ◌<◌, ◌≤◌, Bool, true, false, Option, Some, None, List, [], ◌∷◌, ◌++◌, length, refl, ap, sym, ◌∙◌, subst, arith, if◌then◌else◌}
use Rattle.std.specs.Prelude.{IsSome, is_some, ◌==◌, ◌⊎◌}
use Rattle.std.specs.Option.{ForSome}
use Rattle.std.proofs.lemmas.Bool.{le-leb}
use Rattle.std.proofs.lemmas.Bool.Decides.{eqb_tells, leb_tells}
use Rattle.std.proofs.lemmas.List.{append-nil}
use Rattle.std.proofs.lemmas.List.Elements.{All-cons, All-nil, All-push}
use Rattle.std.proofs.lemmas.Option.{same_Some, none-some}
use Rattle.clock.specs.Clock.{Clock, now_of, due_of, SameTime, Updates, TakesDue, NoneDue}
use Rattle.task_table.specs.declared.entry.Call.{Call}
use Rattle.task_table.specs.declared.entry.Call.TheVariants as calls
use Rattle.cancel_scopes.specs.Sight.{Tick, is_reached}
use Rattle.task_machine.specs.declared.stop.TaskState.{TaskState}
use Rattle.task_machine.specs.declared.stop.TaskState.TheVariants.{ToBegin, Asked, Asleep, Waiting, Queued, GivingUp, Awaits, Over}
use Rattle.task_machine.specs.declared.world.World.{World}
use Rattle.task_machine.specs.Events.{WaitsWithin, is_wait_over}
use Rattle.task_machine.specs.Tasks.{scope_of}
use Rattle.task_machine.specs.Worlds.{event_at}
use Rattle.nursery_book.specs.Nursery.{Nursery, is_settled}
use Rattle.nursery_book.specs.Book.{nursery_at}
use Rattle.nursery_book.specs.declared.book.NurseryBook.{NurseryBook}
use Rattle.clock.specs.Sleeping.{Sleeping, Moves, KeepsSights, TakesSeen, NoneSees as NoneSleeps}
use Rattle.clock.specs.Waiting.{WaitsFor}
use Rattle.task_table.specs.declared.task_table.TaskTable.{TaskTable}
use Rattle.task_table.specs.declared.task_table.Running.{Running}
use Rattle.task_table.specs.Entries.{Added}
use Rattle.task_table.specs.TaskTable.{running_at}
use Rattle.task_table.proofs.Lists.{push_some}
use Rattle.task_table.proofs.Times.{one_if}
use Rattle.job_runner.specs.declared.runner.Runner.{Runner}
use Rattle.job_runner.specs.Jumps.{AddsUngranted, seen_call_if, seen_call, sight_asleep, sight_by, sight_in, BeganBefore, Stayed, IsAnyNow, IsWaking, NoneSees, WakesOnly}
use Rattle.job_runner.specs.Shared.{what_of, later_calls, IsCallOf}
use Rattle.job_runner.specs.Shelves.{GoesBy, IsAddedOf, NoneGranted, IsCalled, IsCalledAdded, IsCalledEntry, IsCalledLater, IsConsistent, DozesIn, Stays, AllStay, sleep_slot_of, wait_slot_of, timer_times, times_shelved, running_times, task_state_times, settled_times, AreShelved}
use Rattle.job_runner.proofs.Counting.{count_below, fewer_below, found_within}
use Rattle.job_runner.proofs.Goes.{due_goes, seen_goes}
use Rattle.job_runner.proofs.Granted.{among_both}
use Rattle.job_runner.proofs.Known.{SleepsIn, seen_by, known_without, sees_from}
use Rattle.job_runner.proofs.Options.{some_has, some_is, some_of}
use Rattle.job_runner.proofs.Shelving.{none_away, shelved_more}
use Rattle.job_runner.proofs.States.{moment_bounded}

-- ---- how often a task is kept

once_most : (b : Bool) → (if b then 1 else 0) ≤ 1
once_most true = omega arith
once_most false = omega arith

-- a task is kept in at most one place
pub running_most : (book : NurseryBook) (o : Option Running) → running_times book o ≤ 1
running_most book None = omega arith
running_most book (Some x) = by_task_state x.task.task_state
  where
    by_settled : (o : Option Nursery) → settled_times o ≤ 1
    by_settled None = omega arith
    by_settled (Some n) = once_most (is_settled n)

    by_task_state : (task_state : TaskState) → task_state_times book task_state ≤ 1
    by_task_state (ToBegin at) = omega arith
    by_task_state (Asked kernel purpose) = omega arith
    by_task_state (Asleep paced ticks since) = omega arith
    by_task_state (Waiting event since) = omega arith
    by_task_state (Queued object ask since body) = omega arith
    by_task_state (GivingUp since) = omega arith
    by_task_state (Awaits id since) = by_settled (nursery_at book id)
    by_task_state Over = omega arith

-- ---- the clock has fewer timers

-- what is consistent is so with another clock that shows the same time
pub consistent_still : {task_table : TaskTable} {world : World} {old new : Clock} {last turns : ℕ} →
    IsConsistent task_table world old last turns → SameTime old new → IsConsistent task_table world new last turns
consistent_still h time = record {
  agree = h.agree;
  homes = h.homes;
  now = time.now ∙ h.now;
  limit = time.limit ∙ h.limit;
  within = h.within;
  bounded = h.bounded;
  none_started = h.none_started;
  none_set = h.none_set;
  none_done = h.none_done;
}

-- how many timers there are
abbrev pub timed : ℕ → Clock → ℕ
timed n clock = count_below n (λ id. is_some (due_of clock id))

-- the maximum number of timers of a runner's tasks
abbrev pub most_timed : Runner → ℕ
most_timed r = length r.task_table.live.slots.slots

-- ---- a task with a timer

-- the task of a timer
sleeper : {r : Runner} → IsWaking r → (id due : ℕ) → due_of r.clock id ≡ Some due →
    (x : Running) × (running_at r.task_table id ≡ Some x) × Stayed r.world due x.task
sleeper {r} h id due e = some_is (running_at r.task_table id) (λ (x : Running). Stayed r.world due x.task) (h.stayed id due e)

-- if no sleeper is left that sees a cancellation, it sees none
unseen_sleeper : {r : Runner} (h : IsWaking r) → NoneSees r → (id due : ℕ) (e : due_of r.clock id ≡ Some due) →
    is_reached (sight_asleep r.world (scope_of (sleeper h id due e).0.task) (sleeper h id due e).0.task.task_state) r.world.tick ≡ false
unseen_sleeper {r} h unseen id due e =
    let x = sleeper h id due e in
    some_of (running_at r.task_table id)
    (λ (y : Running). is_reached (sight_asleep r.world (scope_of y.task) y.task.task_state) r.world.tick ≡ false) x.0 x.1 (unseen id due e)

-- ---- one is woken

-- a task has no timer any more, sleeps in no scope, waits for no event, and is ready by this call
pub record WakesOne (old new : Runner) (id : ℕ) (call : Call) : Type 0 where
  pub timers : Updates old.clock new.clock id None
  pub time : SameTime old.clock new.clock
  pub scopes : Moves old.sleepers new.sleepers id None
  pub sights : KeepsSights old.sleepers new.sleepers
  pub waiters : WaitsFor old.waiters new.waiters id None
  pub current : new.batch.current ≡ old.batch.current
  pub next : new.batch.next ≡ old.batch.next ++ (id, call) ∷ []
  pub only : WakesOnly old new

pub only_again : (was old new : Runner) → WakesOnly was old → WakesOnly old new → WakesOnly was new
only_again was old new a b =
    b ∙ ap (λ (r : Runner). record r { clock = new.clock; sleepers = new.sleepers; waiters = new.waiters; batch = new.batch }) a

module _ {old new : Runner} {id : ℕ} {call : Call} (h : IsWaking old) (w : WakesOne old new id call) (due : ℕ)
    (timer : due_of old.clock id ≡ Some due) where
  -- a timer that is left was there before
  left : (other tick : ℕ) → due_of new.clock other ≡ Some tick → due_of old.clock other ≡ Some tick
  left other tick e =
      sym (w.timers.others other (λ f. none-some tick (sym w.timers.changed ∙ (ap (due_of new.clock) (sym f) ∙ e)))) ∙ e

  once : (other : ℕ) →
      times_shelved new.batch (later_calls old) new.clock other ≡ running_times old.world.book (running_at old.task_table other)
  once other =
      let all : times_shelved old.batch (later_calls old) old.clock other ≡ running_times old.world.book (running_at old.task_table other) = h.once other in
      let more = shelved_more old.batch new.batch (later_calls old) old.clock id call w.current w.next other in
      elim (eqb_tells id other) [
        | inl same ↦
            let one : one_if (id == other) ≡ 1 = ap one_if same.0 in
            let was : timer_times (due_of old.clock other) ≡ 1 = ap timer_times (ap (due_of old.clock) (sym same.1) ∙ timer) in
            let is : timer_times (due_of new.clock other) ≡ 0 = ap timer_times (ap (due_of new.clock) (sym same.1) ∙ w.timers.changed) in
            omega (arith, all, more, one, was, is)
        | inr else_ ↦
            let none : one_if (id == other) ≡ 0 = ap one_if else_.0 in
            let same : timer_times (due_of new.clock other) ≡ timer_times (due_of old.clock other) =
            ap timer_times (w.timers.others other (λ e. else_.1 (sym e))) in
            omega (arith, all, more, none, same)
      ]

  waking_more : IsCalled old.task_table old.world id call → IsWaking new
  waking_more called =
      rw w.only (record {
        consistent = consistent_still h.consistent w.time;
        stayed = λ other tick e. h.stayed other tick (left other tick e);
        known = known_without h.known w.timers w.scopes w.sights w.waiters;
        unchanged = h.unchanged;
        none_current = w.current ∙ h.none_current;
        next = rw w.next (All-push (IsCalledAdded old.task_table old.world) old.batch.next (id, call) h.next called);
        none_left = h.none_left;
        none_later = h.none_later;
        once = once;
        someone = inl (λ e. push_some old.batch.next (id, call) (sym w.next ∙ e));
      })

  -- and fewer timers are left, of those that there may be
  fewer : (was : Runner) → WakesOnly was old → timed (most_timed was) new.clock < timed (most_timed was) old.clock
  fewer was only =
      let x = sleeper h id due timer in
      let below : id < most_timed old = found_within old.task_table.live.slots.slots id None (Some x.0) x.1 (λ f. none-some x.0 (sym f)) in
      let same : most_timed old ≡ most_timed was = ap most_timed only in
      fewer_below (most_timed was) (λ key. is_some (due_of old.clock key)) (λ key. is_some (due_of new.clock key)) id
      (omega (arith, below, same)) (ap is_some timer) (ap is_some w.timers.changed)
      (λ other differs. ap is_some (w.timers.others other differs))

-- nothing is granted by its call
pub adds_one : {old new : Runner} {id : ℕ} {call : Call} → WakesOne old new id call → what_of call ≡ None → ((input : List ℕ) → IsCallOf input call) →
    AddsUngranted old new
adds_one {old} {new} {id} {call} w none of =
    record {
      granted =
          among_both old new ((id, call) ∷ []) [] (All-cons (λ (a : Added). what_of a.1 ≡ None) (id, call) [] none nobody) nobody w.current w.next
          (ap later_calls w.only ∙ sym (append-nil (later_calls old)));
      parts = λ input all. (let next = w.next in rw next (All-push (IsAddedOf input) old.batch.next (id, call) all (of input)));
    }
  where
    nobody : NoneGranted []
    nobody = All-nil (λ (a : Added). what_of a.1 ≡ None)

adds_none : (r : Runner) → AddsUngranted r r
adds_none r = record { granted = λ id. refl; parts = λ input all. all }

-- nor by more calls
pub adds_more : (was old new : Runner) → AddsUngranted was old → AddsUngranted old new → AddsUngranted was new
adds_more was old new a b = record { granted = λ id. b.granted id ∙ a.granted id; parts = λ input all. b.parts input (a.parts input all) }

-- ---- those that see a cancellation

-- what holds while they are woken
pub record IsSeeing (was r : Runner) : Type 0 where
  pub waking : IsWaking r
  pub added : AddsUngranted was r
  pub only : WakesOnly was r

-- a wait that began before a moment which is not too late to be counted did not either
within_by : (task_state : TaskState) (t : ℕ) → BeganBefore t task_state → t ≤ 2 ^ 62 → WaitsWithin task_state
within_by (Waiting event since) t began bounded = let lt : since < t = began in omega (arith, lt, bounded)
within_by (ToBegin at) t began bounded = tt
within_by (Asked kernel purpose) t began bounded = tt
within_by (Asleep paced ticks since) t began bounded = tt
within_by (Queued object ask since body) t began bounded = tt
within_by (GivingUp since) t began bounded = tt
within_by (Awaits id since) t began bounded = tt
within_by Over t began bounded = tt

-- before the first one that sees a cancellation is woken, what holds while they are is true
pub seeing_first : (r : Runner) → IsWaking r → IsSeeing r r
seeing_first r h = record { waking = h; added = adds_none r; only = refl }

module _ {was old : Runner} {id : ℕ} {sleepers : Sleeping} (s : IsSeeing was old) (takes : TakesSeen old.sleepers sleepers id old.world.tick)
  where
    seer : (z : SleepsIn old.task_table old.clock id takes.sees.scope)
        × (sight_asleep old.world (scope_of z.running.task) z.running.task.task_state ≡ Some takes.from)
    seer = seen_by s.waking.known s.waking.unchanged id takes.from takes.sees

    -- it has a timer
    pub seer_timed : IsSome (due_of old.clock id)
    seer_timed = ap is_some seer.0.timer

    -- and has not ended
    pub seer_lives : IsSome (running_at old.task_table id)
    seer_lives = ap is_some seer.0.lives

    -- it did not begin to wait too late to be counted
    pub seer_within : ForSome (running_at old.task_table id) (λ (x : Running). WaitsWithin x.task.task_state)
    seer_within x lives =
        let y = sleeper s.waking id seer.0.due seer.0.timer in
        let same : y.0 ≡ x = same_Some y.0 x (sym y.1 ∙ lives) in
        subst (λ (z : Running). WaitsWithin z.task.task_state) same
        (within_by y.0.task.task_state old.world.tick y.2.began (moment_bounded s.waking.consistent))

    seer_called : (call : Call) → ForSome (running_at old.task_table id) (λ (x : Running). call ≡ seen_call old.world x.task) →
        IsCalled old.task_table old.world id call
    seer_called call is =
        let x = sleeper s.waking id seer.0.due seer.0.timer in
        let same : seer.0.running ≡ x.0 = same_Some seer.0.running x.0 (sym seer.0.lives ∙ x.1) in
        let saw : is_reached (sight_asleep old.world (scope_of x.0.task) x.0.task.task_state) old.world.tick ≡ true =
        ap (λ (y : Running). is_reached (sight_asleep old.world (scope_of y.task) y.task.task_state) old.world.tick) (sym same)
        ∙ (ap (λ (t : Tick). is_reached t old.world.tick) seer.1 ∙ le-leb takes.from old.world.tick takes.come) in
        some_has (running_at old.task_table id) (λ (y : Running). GoesBy old.world y.task call) x.0 x.1
        (subst (λ (z : Call). GoesBy old.world x.0.task z) (sym (is x.0 x.1)) (seen_goes old.world seer.0.due x.0.task x.2 saw))

    module _ {new : Runner} {call : Call} (is : ForSome (running_at old.task_table id) (λ (x : Running). call ≡ seen_call old.world x.task))
        (w : WakesOne old new id call)
      where
        -- it is granted nothing
        ungranted : (what_of call ≡ None) × ((input : List ℕ) → IsCallOf input call)
        ungranted =
            let x = sleeper s.waking id seer.0.due seer.0.timer in
            subst (λ (c : Call). (what_of c ≡ None) × ((input : List ℕ) → IsCallOf input c)) (sym (is x.0 x.1))
            (by_over (is_wait_over old.world.clock (event_at old.world) x.0.task.task_state old.world.tick))
          where
            by_over : (over : Bool) → (what_of (seen_call_if over) ≡ None) × ((input : List ℕ) → IsCallOf input (seen_call_if over))
            by_over true = (refl, λ input. tt)
            by_over false = (refl, λ input. tt)

        -- once one that sees a cancellation is woken, what holds while they are is true again
        pub seeing_next : IsSeeing was new
        seeing_next = record {
          waking = waking_more s.waking w seer.0.due seer.0.timer (seer_called call is);
          added = adds_more was old new s.added (adds_one w ungranted.0 ungranted.1);
          only = only_again was old new s.only w.only;
        }

        -- and fewer timers are left
        pub seeing_fewer : timed (most_timed was) new.clock < timed (most_timed was) old.clock
        seeing_fewer = fewer s.waking w seer.0.due seer.0.timer was s.only

-- none is left
module _ {was r : Runner} (sleepers : Sleeping) (s : IsSeeing was r) (none : NoneSleeps r.sleepers sleepers r.world.tick) where
  abbrev all_seen : Runner
  all_seen = record r { sleepers = sleepers }

  pub seen_waking : IsWaking all_seen
  seen_waking = record {
    consistent = s.waking.consistent;
    stayed = s.waking.stayed;
    known =
        record {
          sleep_slots = λ id. none.scopes id ∙ s.waking.known.sleep_slots id;
          sights = λ id key e.
              let kept = none.sights id key e in
              rw kept (s.waking.known.sights id key (sym (none.scopes id) ∙ e));
          waiting = s.waking.known.waiting;
        };
    unchanged = s.waking.unchanged;
    none_current = s.waking.none_current;
    next = s.waking.next;
    none_left = s.waking.none_left;
    none_later = s.waking.none_later;
    once = s.waking.once;
    someone = s.waking.someone;
  }

  pub seen_unseen : NoneSees all_seen
  seen_unseen id due e =
      let x = sleeper s.waking id due e in
      some_has (running_at r.task_table id)
      (λ (x : Running). is_reached (sight_asleep r.world (scope_of x.task) x.task.task_state) r.world.tick ≡ false) x.0 x.1
      (by_sight x.0 x.1 (sight_asleep r.world (scope_of x.0.task) x.0.task.task_state) refl)
    where
      by_sight : (x : Running) → running_at r.task_table id ≡ Some x → (t : Tick) →
          sight_asleep r.world (scope_of x.task) x.task.task_state ≡ t → is_reached t r.world.tick ≡ false
      by_sight x lives None f = refl
      by_sight x lives (Some from) f =
          let later : r.world.tick < from =
          none.all id from (sees_from s.waking.known s.waking.unchanged id due x from e lives f) in
          elim (leb_tells from r.world.tick) [
            | inl h ↦ absurd (let le = h.1 in omega (arith, le, later))
            | inr h ↦ h.0
          ]

  pub seen_added : AddsUngranted was all_seen
  seen_added = record { granted = s.added.granted; parts = s.added.parts }

  pub seen_only : WakesOnly was all_seen
  seen_only = only_again was r all_seen s.only refl

-- ---- those that are due

-- what holds while those that are due are woken
pub record IsDue (was r : Runner) : Type 0 where
  pub waking : IsWaking r
  pub added : AddsUngranted was r
  pub unseen : NoneSees r
  pub only : WakesOnly was r

-- before the first one that is due is woken, what holds while they are is true
pub due_first : (r : Runner) → IsWaking r → NoneSees r → IsDue r r
due_first r h unseen = record { waking = h; added = adds_none r; unseen = unseen; only = refl }

module _ {was old : Runner} {id : ℕ} {clock : Clock} (s : IsDue was old) (takes : TakesDue old.clock id clock) where
  due_called : IsCalled old.task_table old.world id calls.Due
  due_called =
      let x = sleeper s.waking id takes.due takes.had in
      let now : now_of old.clock ≡ old.world.tick = s.waking.consistent.now in
      let come : takes.due ≤ now_of old.clock = takes.is_due in
      some_has (running_at old.task_table id) (λ (y : Running). GoesBy old.world y.task calls.Due) x.0 x.1
      (due_goes old.world takes.due x.0.task x.2 (omega (arith, now, come)) (unseen_sleeper s.waking s.unseen id takes.due takes.had))

  module _ {new : Runner} (w : WakesOne old new id calls.Due) where
    -- once one that is due is woken, what holds while they are is true again
    pub due_next : IsDue was new
    due_next = record {
      waking = waking_more s.waking w takes.due takes.had due_called;
      added = adds_more was old new s.added (adds_one w refl (λ input. tt));
      unseen = rw w.only (λ other tick e. s.unseen other tick (left s.waking w takes.due takes.had other tick e));
      only = only_again was old new s.only w.only;
    }

    -- and fewer timers are left
    pub due_fewer : timed (most_timed was) new.clock < timed (most_timed was) old.clock
    due_fewer = fewer s.waking w takes.due takes.had was s.only

-- one that fell asleep, or began to wait, before and sees no cancellation dozes on
dozes_on : (world : World) (scope : Option ℕ) (task_state : TaskState) → BeganBefore world.tick task_state →
    is_reached (sight_asleep world scope task_state) world.tick ≡ false → DozesIn world scope task_state
dozes_on world scope (ToBegin at) began unseen = tt
dozes_on world scope (Asked kernel purpose) began unseen = tt
dozes_on world scope (Asleep paced ticks since) began unseen = (let a : since < world.tick = began in omega (arith, a), inl unseen)
dozes_on world scope (Waiting event since) began unseen = (let a : since < world.tick = began in omega (arith, a), inl unseen)
dozes_on world scope (Queued object ask since body) began unseen =
    (let a : since < world.tick = began in omega (arith, a), inl unseen)
dozes_on world scope (GivingUp since) began unseen = tt
dozes_on world scope (Awaits id since) began unseen = tt
dozes_on world scope Over began unseen = tt

-- none is left: the others stay, and somebody was woken
module _ {was r : Runner} (clock : Clock) (s : IsDue was r) (none : NoneDue r.clock clock) where
  abbrev all_due : Runner
  all_due = record r { clock = clock }

  later : (id due : ℕ) → due_of r.clock id ≡ Some due → r.world.tick < due
  later id due e =
      let a : now_of r.clock < due = none.all_later id due e in
      let b : now_of r.clock ≡ r.world.tick = s.waking.consistent.now in
      omega (arith, a, b)

  stay : AllStay r.task_table r.world r.clock
  stay id due e =
      let x = sleeper s.waking id due e in
      some_has (running_at r.task_table id) (λ (y : Running). Stays r.world due y.task) x.0 x.1
      (record {
        due_is = x.2.due_is;
        later = later id due e;
        dozes = dozes_on r.world (scope_of x.0.task) x.0.task.task_state x.2.began (unseen_sleeper s.waking s.unseen id due e);
      })

  pub due_shelved : AreShelved None all_due
  due_shelved = record {
    consistent = consistent_still s.waking.consistent none.unchanged.time;
    stay = λ id due e. stay id due (sym (none.unchanged.timers id) ∙ e);
    known =
        record {
          sleep_slots = λ id. s.waking.known.sleep_slots id ∙ ap (λ (d : Option ℕ). sleep_slot_of d (running_at r.task_table id))
              (sym (none.unchanged.timers id));
          sights = s.waking.known.sights;
          waiting = λ id. s.waking.known.waiting id
              ∙ ap (λ (d : Option ℕ). wait_slot_of (event_at r.world) d (running_at r.task_table id)) (sym (none.unchanged.timers id));
        };
    current =
        let over = s.waking.none_current in
        rw over (All-nil (IsCalledEntry r.task_table r.world));
    next = s.waking.next;
    none_later = s.waking.none_left;
    later = (let none = s.waking.none_later in rw none (All-nil (IsCalledLater r.task_table r.world)));
    once = λ id other.
        let all : times_shelved r.batch (later_calls r) r.clock id ≡ running_times r.world.book (running_at r.task_table id) = s.waking.once id in
        let same : timer_times (due_of clock id) ≡ timer_times (due_of r.clock id) = ap timer_times (none.unchanged.timers id) in
        omega (arith, all, same);
    away = none_away (λ (x : ℕ). times_shelved r.batch (later_calls r) clock x ≡ 0);
  }

  none_timely : IsAnyNow r.task_table r.world r.clock → ⊥
  none_timely any = by_timely any.timely
    where
      by_timely : (any.due ≤ r.world.tick) ⊎ (is_reached (sight_in r.task_table r.world any.id) r.world.tick ≡ true) → ⊥
      by_timely (inl le) = let lt = later any.id any.due any.timer in omega (arith, le, lt)
      by_timely (inr saw) =
          let x = sleeper s.waking any.id any.due any.timer in
          let none_seen = unseen_sleeper s.waking s.unseen any.id any.due any.timer in
          let f : true ≡ false = sym saw ∙ (ap (λ (o : Option Running). is_reached (sight_by r.world o) r.world.tick) x.1 ∙ none_seen) in
          cc

  pub due_some : r.batch.next ≢ []
  due_some = elim s.waking.someone [
    | inl some ↦ some
    | inr any ↦ absurd (none_timely any)
  ]

  pub due_added : AddsUngranted was all_due
  due_added = record { granted = s.added.granted; parts = s.added.parts }

  pub due_only : WakesOnly was all_due
  due_only = only_again was r all_due s.only refl
