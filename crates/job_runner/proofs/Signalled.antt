-- The events that were set in a turn: each task that waited for one of them continues a round later, and every other one stays as it did.
use Rattle.std.proofs.Common.{◌≡◌, ◌≢◌, inl, inr, ℕ, suc, ◌+◌, ◌<◌, ◌≤◌, min, max, Bool, true, false, Option, Some, None, List, [], ◌∷◌, refl, ap, sym, ◌∙◌, subst, arith, if◌then◌else◌}
use Rattle.std.specs.Prelude.{IsSomeAnd, ◌⊎◌, nat_lt}
use Rattle.std.proofs.lemmas.Bool.{cases_eq}
use Rattle.std.proofs.lemmas.Bool.Decides.{leb_tells}
use Rattle.std.proofs.lemmas.Option.{none-some, same_Some}
use Rattle.clock.specs.Clock.{due_of}
use Rattle.clock.specs.Clock as timers
use Rattle.cancel_scopes.specs.Sight.{Tick, earlier, seen}
use Rattle.cancel_scopes.specs.Tree.{outer_of}
use Rattle.job_meaning.specs.Moments.{a_round_after}
use Rattle.job_meaning.specs.declared.clock.Clock.{Clock}
use Rattle.job_meaning.specs.declared.clock.Clock.TheVariants.{ByTicks as by_ticks, ByRounds as by_rounds}
use Rattle.nursery_book.specs.Book.{nursery_at}
use Rattle.run_refinement.specs.Sights.{Shows, IsOneOf, StaysOrIsSet}
use Rattle.clock.specs.Sleeping.{Sleeping, sight_of}
use Rattle.clock.specs.Waiting.{event_in}
use Rattle.task_machine.specs.declared.stop.TaskState.{TaskState}
use Rattle.task_machine.specs.declared.stop.TaskState.TheVariants.{ToBegin, Asked, Asleep, Waiting, Queued, GivingUp, Awaits, Over}
use Rattle.task_machine.specs.declared.world.World.{World}
use Rattle.task_machine.specs.Events.{wait_ends}
use Rattle.task_machine.specs.Labels.{Events}
use Rattle.task_machine.specs.Tasks.{scope_of}
use Rattle.task_machine.specs.Worlds.{event_at}
use Rattle.task_table.specs.declared.task_table.TaskTable.{TaskTable}
use Rattle.task_table.specs.declared.task_table.Running.{Running}
use Rattle.task_table.specs.TaskTable.{running_at}
use Rattle.job_runner.specs.Shelves.{moment_of, IsAsleepIn, DozesIn, Stays, AllStay, AreKnown, sleep_slot_of, if_unset, waits_in, wait_slot_of, timer_times}
use Rattle.job_runner.proofs.Known.{WaitsIn, waiter_in}
use Rattle.job_runner.proofs.Options.{some_has, some_is, some_of}
use Rattle.job_runner.proofs.Staying.{SameEvent, dozes_still, stays_still}

-- a key is one of some, or none of them
pub one_or_not : (key : ℕ) (ks : List ℕ) → IsOneOf key ks ⊎ (IsOneOf key ks → ⊥)
one_or_not key [] = inr (λ i. i)
one_or_not key (k ∷ ks) = by_first (cases_eq key k) (one_or_not key ks)
  where
    among : key ≢ k → (IsOneOf key ks → ⊥) → IsOneOf key (k ∷ ks) → ⊥
    among differs none (inl e) = differs e
    among differs none (inr i) = none i

    by_first : (key ≡ k) ⊎ (key ≢ k) → IsOneOf key ks ⊎ (IsOneOf key ks → ⊥) → IsOneOf key (k ∷ ks) ⊎ (IsOneOf key (k ∷ ks) → ⊥)
    by_first (inl e) rest = inl (inl e)
    by_first (inr differs) (inl i) = inl (inr i)
    by_first (inr differs) (inr none) = inr (among differs none)

-- ---- moments

-- a round after a moment is at most one moment later
round_next : (clock : Clock) (since t : ℕ) → since ≤ t → a_round_after clock since ≤ t + 1
round_next by_ticks since t le = omega (arith, le)
round_next by_rounds since t le = omega (arith, le)

ends_next : (round last t : ℕ) → round ≤ t + 1 → t < max round last → max round (min (t + 1) last) ≡ suc t
ends_next round last t le lt = omega (arith, le, lt)

-- a wait for an event that nothing had set ends in the next moment, if it is set now
woken_ends : (clock : Clock) (since t due : ℕ) → since ≤ t → wait_ends clock (Some None) since ≡ due → t < due →
    wait_ends clock (Some (Some (t + 1))) since ≡ suc t
woken_ends clock since t due le ends lt =
    ends_next (a_round_after clock since) _ t (round_next clock since t le) (subst (λ (n : ℕ). t < n) (sym ends) lt)

-- one that was set before is not set later
earlier_still : (f t : ℕ) → f ≤ suc t → earlier (Some f) (Some (t + 1)) ≡ Some f
earlier_still f t le = by_test (leb_tells (suc (t + 1)) f)
  where
    by_test : ((nat_lt (t + 1) f ≡ true) × (suc (t + 1) ≤ f)) ⊎ ((nat_lt (t + 1) f ≡ false) × (f < suc (t + 1))) →
        earlier (Some f) (Some (t + 1)) ≡ Some f
    by_test (inl h) = absurd (let more = h.1 in omega (arith, more, le))
    by_test (inr h) = ap (λ (b : Bool). Some (if b then t + 1 else f)) h.0

-- ---- what is known of a task

-- a task with a timer sleeps in the same scope, whatever its timer
slot_any : (d e : ℕ) (o : Option Running) → sleep_slot_of (Some d) o ≡ sleep_slot_of (Some e) o
slot_any d e None = refl
slot_any d e (Some x) = refl

-- a task waits for what it did, where its event is as it was
waits_same : (old new : Events) (task_state : TaskState) → SameEvent old new task_state → waits_in old task_state ≡ waits_in new task_state
waits_same old new (Waiting event since) same = ap (if_unset event) (sym same)
waits_same old new (ToBegin at) same = refl
waits_same old new (Asked kernel purpose) same = refl
waits_same old new (Asleep paced ticks since) same = refl
waits_same old new (Queued object ask since body) same = refl
waits_same old new (GivingUp since) same = refl
waits_same old new (Awaits id since) same = refl
waits_same old new Over same = refl

-- Of timers, and of the tasks that wait for events: each that waited for one of these has a timer for this moment, and waits no more, and
-- nothing else changed.
pub record Woken (set : List ℕ) (moment : ℕ) (before after : timers.Clock) (waiters left : List (Option ℕ)) : Type 0 where
  pub woken :
      (id event : ℕ) → event_in waiters id ≡ Some event → IsOneOf event set →
      (event_in left id ≡ None) × (due_of after id ≡ Some moment)
  pub others :
      (id : ℕ) → ((event : ℕ) → event_in waiters id ≡ Some event → IsOneOf event set → ⊥) →
      (event_in left id ≡ event_in waiters id) × (due_of after id ≡ due_of before id)

-- Tasks that waited for the events which were set were woken. The first world has the events as they were before.
module _ {task_table : TaskTable} {before after : timers.Clock} {sleepers : Sleeping} {waiters left : List (Option ℕ)} {set : List ℕ}
    {old new : World} (wakes : Woken set (suc old.tick) before after waiters left)
    (is : new ≡ record old { events = new.events; set = new.set }) (stay : AllStay task_table old before)
    (known : AreKnown task_table old before sleepers waiters)
    (soon : (key from : ℕ) → event_at old key ≡ Some (Some from) → from ≤ suc old.tick)
    (may : (id due : ℕ) (z : Running) → due_of before id ≡ Some due → running_at task_table id ≡ Some z → (key since : ℕ) →
    z.task.task_state ≡ Waiting key since → StaysOrIsSet old.tick (event_at old) (event_at new) [] set key)
  where
    -- a task waited for an event that was set
    abbrev IsWoken : ℕ → Type 0
    IsWoken id = (event : ℕ) × (event_in waiters id ≡ Some event) × IsOneOf event set

    woken_or_not : (id : ℕ) → IsWoken id ⊎ (IsWoken id → ⊥)
    woken_or_not id = by_event (event_in waiters id) refl
      where
        by_test : (event : ℕ) → event_in waiters id ≡ Some event → IsOneOf event set ⊎ (IsOneOf event set → ⊥) →
            IsWoken id ⊎ (IsWoken id → ⊥)
        by_test event e (inl i) = inl (event, e, i)
        by_test event e (inr none) =
            inr (λ w. none (subst (λ (k : ℕ). IsOneOf k set) (same_Some w.0 event (sym w.1 ∙ e)) w.2))

        by_event : (o : Option ℕ) → event_in waiters id ≡ o → IsWoken id ⊎ (IsWoken id → ⊥)
        by_event None e = inr (λ w. none-some w.0 (sym e ∙ w.1))
        by_event (Some event) e = by_test event e (one_or_not event set)

    others : (id : ℕ) → (IsWoken id → ⊥) → (event_in left id ≡ event_in waiters id) × (due_of after id ≡ due_of before id)
    others id spared = wakes.others id (λ event e i. spared (event, e, i))

    clock : new.clock ≡ old.clock
    clock = ap (λ (w : World). w.clock) is

    tick : new.tick ≡ old.tick
    tick = ap (λ (w : World). w.tick) is

    seeing : (scope : Option ℕ) → seen (outer_of new.scopes scope) new.tick ≡ seen (outer_of old.scopes scope) old.tick
    seeing scope = ap (λ (w : World). seen (outer_of w.scopes scope) w.tick) is

    -- ---- a task that was woken

    module _ (id : ℕ) (w : IsWoken id) where
      its : WaitsIn (event_at old) task_table before id w.0
      its = waiter_in known id w.0 w.1

      -- its event is set from the next moment on
      set_now : event_at new w.0 ≡ Some (Some (old.tick + 1))
      set_now = by_case (may id its.due its.running its.timer its.lives w.0 its.since its.waits)
        where
          by_case : StaysOrIsSet old.tick (event_at old) (event_at new) [] set w.0 → event_at new w.0 ≡ Some (Some (old.tick + 1))
          by_case (inl (same, fewer)) = absurd (fewer w.2)
          by_case (inr (i, from, was, now)) =
              now ∙ ap (λ (f : Tick). Some (earlier f (Some (old.tick + 1)))) (same_Some from None (sym was ∙ its.unset))

      stayed : Stays old its.due its.running.task
      stayed = some_of (running_at task_table id) (λ (z : Running). Stays old its.due z.task) its.running its.lives (stay id its.due its.timer)

      woken_stays : Stays new (suc old.tick) its.running.task
      woken_stays =
          record {
            due_is =
                ap (moment_of new.clock (event_at new) new.book) its.waits
                ∙ ap (λ (o : Option Tick). Some (wait_ends new.clock o its.since)) set_now
                ∙ ap (λ (c : Clock). Some (wait_ends c (Some (Some (old.tick + 1))) its.since)) clock
                ∙ ap (λ (n : ℕ). Some n) (woken_ends old.clock its.since old.tick its.due dozed.0 ends stayed.later);
            later = omega (arith, tick);
            dozes =
                dozes_still old new (scope_of its.running.task) its.running.task.task_state clock tick (seeing (scope_of its.running.task))
                stayed.dozes;
          }
        where
          dozed : IsAsleepIn old (scope_of its.running.task) its.since
          dozed = subst (DozesIn old (scope_of its.running.task)) its.waits stayed.dozes

          ends : wait_ends old.clock (Some None) its.since ≡ its.due
          ends =
              ap (λ (o : Option Tick). wait_ends old.clock o its.since) (sym its.unset)
              ∙ same_Some (wait_ends old.clock (event_at old w.0) its.since) its.due
              (sym (ap (moment_of old.clock (event_at old) old.book) its.waits) ∙ stayed.due_is)

      -- its timer is that of the next moment
      timer_now : due_of after id ≡ Some (suc old.tick)
      timer_now = (wakes.woken id w.0 w.1 w.2).1

      -- and it waits no more
      woken_slot : event_in left id ≡ wait_slot_of (event_at new) (due_of after id) (running_at task_table id)
      woken_slot =
          (wakes.woken id w.0 w.1 w.2).0
          ∙ sym (ap (λ (d : Option ℕ). wait_slot_of (event_at new) d (running_at task_table id)) timer_now
          ∙ (ap (wait_slot_of (event_at new) (Some (suc old.tick))) its.lives
          ∙ (ap (waits_in (event_at new)) its.waits ∙ ap (if_unset w.0) set_now)))

    -- ---- another task that has a timer

    -- its event is as it was
    same_set : (id due : ℕ) (z : Running) → due_of before id ≡ Some due → running_at task_table id ≡ Some z → (IsWoken id → ⊥) →
        SameEvent (event_at old) (event_at new) z.task.task_state
    same_set id due z e lives spared = by_task_state z.task.task_state refl
      where
        unset : (key since : ℕ) → z.task.task_state ≡ Waiting key since → event_at old key ≡ Some None → event_in waiters id ≡ Some key
        unset key since at none =
            known.waiting id ∙ ap (λ (d : Option ℕ). wait_slot_of (event_at old) d (running_at task_table id)) e
            ∙ ap (wait_slot_of (event_at old) (Some due)) lives ∙ ap (waits_in (event_at old)) at ∙ ap (if_unset key) none

        by_from : (key since : ℕ) → z.task.task_state ≡ Waiting key since → IsOneOf key set → (from : Tick) → event_at old key ≡ Some from →
            event_at new key ≡ Some (earlier from (Some (old.tick + 1))) → event_at new key ≡ event_at old key
        by_from key since at i None was now = absurd (spared (key, unset key since at was, i))
        by_from key since at i (Some f) was now =
            now ∙ ap (λ (u : Tick). Some u) (earlier_still f old.tick (soon key f was)) ∙ sym was

        by_case : (key since : ℕ) → z.task.task_state ≡ Waiting key since →
            StaysOrIsSet old.tick (event_at old) (event_at new) [] set key → event_at new key ≡ event_at old key
        by_case key since at (inl (same, fewer)) = same
        by_case key since at (inr (i, from, was, now)) = by_from key since at i from was now

        by_task_state : (s : TaskState) → z.task.task_state ≡ s → SameEvent (event_at old) (event_at new) s
        by_task_state (Waiting key since) at = by_case key since at (may id due z e lives key since at)
        by_task_state (ToBegin at) e' = tt
        by_task_state (Asked kernel purpose) e' = tt
        by_task_state (Asleep paced ticks since) e' = tt
        by_task_state (Queued object ask since body) e' = tt
        by_task_state (GivingUp since) e' = tt
        by_task_state (Awaits nursery since) e' = tt
        by_task_state Over e' = tt

    stayer : (id due : ℕ) → due_of before id ≡ Some due → (z : Running) × (running_at task_table id ≡ Some z) × Stays old due z.task
    stayer id due e = some_is (running_at task_table id) (λ (z : Running). Stays old due z.task) (stay id due e)

    other_slot : (id : ℕ) → (IsWoken id → ⊥) → (d : Option ℕ) → due_of before id ≡ d →
        wait_slot_of (event_at old) (due_of before id) (running_at task_table id)
        ≡ wait_slot_of (event_at new) (due_of before id) (running_at task_table id)
    other_slot id spared None e =
        ap (λ (d : Option ℕ). wait_slot_of (event_at old) d (running_at task_table id)) e
        ∙ sym (ap (λ (d : Option ℕ). wait_slot_of (event_at new) d (running_at task_table id)) e)
    other_slot id spared (Some due) e =
        let z = stayer id due e in
        ap (λ (d : Option ℕ). wait_slot_of (event_at old) d (running_at task_table id)) e
        ∙ ap (wait_slot_of (event_at old) (Some due)) z.1
        ∙ waits_same (event_at old) (event_at new) z.0.task.task_state (same_set id due z.0 e z.1 spared)
        ∙ sym (ap (λ (d : Option ℕ). wait_slot_of (event_at new) d (running_at task_table id)) e
        ∙ ap (wait_slot_of (event_at new) (Some due)) z.1)

    -- ---- all tasks

    -- each task that has a timer stays until then
    pub stay_set : AllStay task_table new after
    stay_set id due e = by_case (woken_or_not id)
      where
        by_case : IsWoken id ⊎ (IsWoken id → ⊥) → IsSomeAnd (running_at task_table id) (λ (z : Running). Stays new due z.task)
        by_case (inl w) =
            some_has (running_at task_table id) (λ (z : Running). Stays new due z.task) (its id w).running (its id w).lives
            (subst (λ (n : ℕ). Stays new n (its id w).running.task) (same_Some (suc old.tick) due (sym (timer_now id w) ∙ e)) (woken_stays id w))
        by_case (inr spared) =
            let was = sym (others id spared).1 ∙ e in
            let z = stayer id due was in
            some_has (running_at task_table id) (λ (v : Running). Stays new due v.task) z.0 z.1
            (stays_still old new z.0.task due clock tick (seeing (scope_of z.0.task)) (same_set id due z.0 was z.1 spared)
            (λ nursery waits over. ap (λ (w : World). nursery_at w.book nursery) is) z.2)

    -- each sleeper is known as before, and each task that waits for an event that nothing has set
    pub known_set : AreKnown task_table new after sleepers left
    known_set =
        record {
          sleep_slots = λ id. known.sleep_slots id ∙ slots id (woken_or_not id);
          sights = λ id key e. subst (λ (w : World). Shows w.scopes key (sight_of sleepers key)) (sym is) (known.sights id key e);
          waiting = λ id. waiting id (woken_or_not id);
        }
      where
        slots : (id : ℕ) → IsWoken id ⊎ (IsWoken id → ⊥) →
            sleep_slot_of (due_of before id) (running_at task_table id) ≡ sleep_slot_of (due_of after id) (running_at task_table id)
        slots id (inl w) =
            ap (λ (d : Option ℕ). sleep_slot_of d (running_at task_table id)) (its id w).timer
            ∙ slot_any (its id w).due (suc old.tick) (running_at task_table id)
            ∙ sym (ap (λ (d : Option ℕ). sleep_slot_of d (running_at task_table id)) (timer_now id w))
        slots id (inr spared) = ap (λ (d : Option ℕ). sleep_slot_of d (running_at task_table id)) (sym (others id spared).1)

        waiting : (id : ℕ) → IsWoken id ⊎ (IsWoken id → ⊥) →
            event_in left id ≡ wait_slot_of (event_at new) (due_of after id) (running_at task_table id)
        waiting id (inl w) = woken_slot id w
        waiting id (inr spared) =
            (others id spared).0 ∙ known.waiting id ∙ other_slot id spared (due_of before id) refl
            ∙ ap (λ (d : Option ℕ). wait_slot_of (event_at new) d (running_at task_table id)) (sym (others id spared).1)

    -- each task has a timer if it had one
    pub timers_set : (id : ℕ) → timer_times (due_of after id) ≡ timer_times (due_of before id)
    timers_set id = by_case (woken_or_not id)
      where
        by_case : IsWoken id ⊎ (IsWoken id → ⊥) → timer_times (due_of after id) ≡ timer_times (due_of before id)
        by_case (inl w) = ap timer_times (timer_now id w) ∙ sym (ap timer_times (its id w).timer)
        by_case (inr spared) = ap timer_times (others id spared).1
