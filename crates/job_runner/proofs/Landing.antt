-- A runner whose clock jumped: whether it may, and its state when the tasks that may continue
-- are ready.
use Rattle.std.proofs.Common.{◌≡◌, ◌≢◌, ℕ, Bool, true, false, suc, ◌<◌, ◌≤◌, ◌^◌, Option, Some, None, List, [], ◌∷◌, ◌++◌, length, map, refl, ap, sym, ◌∙◌, subst, arith}
use Rattle.std.specs.Prelude.{◌⊎◌, All, IsSome}
use Rattle.std.proofs.lemmas.List.{append-nil}
use Rattle.std.proofs.lemmas.List.Elements.{All-map, All-nil}
use Rattle.clock.specs.Clock as timers
use Rattle.clock.specs.Clock.{now_of, limit_of, HasTimer, AllLater, JumpsTo, MeetsLimit}
use Rattle.task_table.specs.declared.entry.Entry.{Entry}
use Rattle.task_table.specs.Batch.{Batches}
use Rattle.task_table.specs.Entries.{Added, NonePlaced, added_of, without_answer}
use Rattle.cancel_scopes.specs.Sight.{Tick}
use Rattle.job_meaning.specs.Meaning.{meaning_end}
use Rattle.job_meaning.specs.Moments.{clock_of, tick_of}
use Rattle.job_meaning.specs.declared.clock.Clock.{Clock}
use Rattle.job_meaning.specs.declared.clock.Clock.TheVariants.{ByTicks as by_ticks, ByRounds as by_rounds}
use Rattle.task_machine.specs.declared.task.Task.{Task}
use Rattle.task_machine.specs.declared.world.World.{World}
use Rattle.run_refinement.specs.RunState.{EndedTask}
use Rattle.job_runner.specs.declared.runner.Phase.TheVariants as phases
use Rattle.job_runner.specs.declared.runner.Runner.{Runner}
use Rattle.job_runner.specs.Jumps.{AddsUngranted, IsNextRound, IsNextMoment, IsPast, IsWaking, WakesOnly}
use Rattle.job_runner.specs.Limits.{last_of}
use Rattle.job_runner.specs.Shared.{what_of, granted_among, later_calls, ready_calls}
use Rattle.job_runner.specs.Phases.{phase_by, phase_of}
use Rattle.task_table.specs.TaskTable.{running_at, task_of, ended_task_of}
use Rattle.task_table.specs.Rows.{times}
use Rattle.job_runner.specs.Shelves.{IsCalledAdded, IsCalledEntry, IsAddedOf, IsEntryOf, HoldsParts, AreShelved, IsServedIf, IsUnderway, running_times, times_shelved}
use Rattle.job_runner.proofs.Jumped.{timers_later, round_later, some_round, root_lives, is_next_moment, next_later, interleaving_jumps, ends_later, later_consistent, has_jumped}
use Rattle.job_runner.proofs.States.{moment_bounded}
use Rattle.job_runner.proofs.Shelving.{none_away, times_next, times_now}
use Rattle.job_runner.proofs.Waking.{only_again}

-- ---- the batch

-- in this phase no task is in the current batch, and the root has not ended
pub blocked_none : (es : List Entry) (end : Option EndedTask) → phase_by es end ≡ phases.Blocked → (es ≡ []) × (end ≡ None)
blocked_none [] None e = (refl, refl)
blocked_none [] (Some g) e = absurd (let f : phases.Over ≡ phases.Blocked = e in cc)
blocked_none (x ∷ es) end e = absurd (let f : phases.Ready ≡ phases.Blocked = e in cc)

-- and this, where some were added
pub ready_some : (es : List Entry) (added : List Added) (end : Option EndedTask) → es ≡ map without_answer added → added ≢ [] →
    phase_by es end ≡ phases.Ready
ready_some es [] end e some = absurd (some refl)
ready_some es (a ∷ added) end e some = rw e refl

same_tasks : (added : List Added) → map (λ (e : Entry). e.task) (map without_answer added) ≡ map (λ (a : Added). a.0) added
same_tasks [] = refl
same_tasks (a ∷ added) = ap (λ (xs : List ℕ). a.0 ∷ xs) (same_tasks added)

-- what was added is the current batch
pub turned_over : {r : Runner} (batch : Batches) → AreShelved None r → r.batch.current ≡ [] → batch.current ≡ map without_answer r.batch.next →
    batch.next ≡ [] → AreShelved None (record r { batch = batch })
turned_over {r} batch h none current next =
    record {
      consistent = h.consistent;
      stay = h.stay;
      known = h.known;
      current = rw current (All-map (IsCalledEntry r.task_table r.world) without_answer r.batch.next h.next);
      next = rw next (All-nil (IsCalledAdded r.task_table r.world));
      none_later = h.none_later;
      later = h.later;
      once = λ id other.
          let all : times_shelved r.batch (later_calls r) r.clock id ≡ running_times r.world.book (running_at r.task_table id) = h.once id other in
          let was : times_now id r.batch.current ≡ 0 = ap (times_now id) none in
          let a : times_now id batch.current ≡ times_next id r.batch.next =
          ap (times_now id) current ∙ ap (times id) (same_tasks r.batch.next) in
          let b : times_next id batch.next ≡ 0 = ap (times_next id) next in
          omega (arith, all, was, a, b);
      away = none_away (λ (x : ℕ). times_shelved batch (later_calls r) r.clock x ≡ 0);
    }

same_added : (added : List Added) → map added_of (map without_answer added) ≡ added
same_added [] = refl
same_added (a ∷ added) = ap (λ (xs : List Added). a ∷ xs) (same_added added)

-- so the same tasks are ready
pub turned_calls : (r : Runner) (batch : Batches) → r.batch.current ≡ [] → batch.current ≡ map without_answer r.batch.next → batch.next ≡ [] →
    ready_calls (record r { batch = batch }) ≡ ready_calls r
turned_calls r batch none current next =
    ap (λ (es : List Entry). map added_of es ++ (batch.next ++ later_calls r)) current
    ∙ ap (λ (xs : List Added). map added_of (map without_answer r.batch.next) ++ (xs ++ later_calls r)) next
    ∙ ap (λ (xs : List Added). xs ++ later_calls r) (same_added r.batch.next)
    ∙ sym (ap (λ (es : List Entry). map added_of es ++ (r.batch.next ++ later_calls r)) none)

-- and their parts are of the same input
pub turned_parts : {r : Runner} (batch : Batches) → HoldsParts r → batch.current ≡ map without_answer r.batch.next → batch.next ≡ [] →
    HoldsParts (record r { batch = batch })
turned_parts {r} batch h current next = record {
  objects = h.objects;
  round = h.round;
  current = rw current (All-map (IsEntryOf r.input.now) without_answer r.batch.next h.next);
  next = rw next (All-nil (IsAddedOf r.input.now));
  later = h.later;
  granted = h.granted;
}

-- where a batch has nothing for later, nothing was added
pub none_next : (has : Bool) (added : List Added) → (added ≢ [] → has ≡ true) → has ≡ false → added ≡ []
none_next has [] tells e = refl
none_next has (a ∷ added) tells e =
    absurd (let f : true ≡ false = sym (tells (λ g. (let n : suc (length added) ≡ 0 = ap length g in omega (arith, n)))) ∙ e in cc)

-- ---- a run that is blocked

-- a moment after the last one of a tick is in a later tick
after_last : (clock : Clock) (n m : ℕ) → last_of clock n < m → n < tick_of clock m
after_last by_ticks n m late = late
after_last by_rounds n m late = omega (arith, late)

-- the clock gets the next moment, or that in which the first sleeper that sees a cancellation continues
module _ {r : Runner} (w : IsUnderway r) (blocked : phase_of r ≡ phases.Blocked) {round : Tick} (is_round : IsNextRound r round) where
  none : r.batch.current ≡ []
  none = (blocked_none r.batch.current (ended_task_of r.task_table 0) blocked).0

  root : (task : Task) × (task_of r.task_table 0 ≡ Some task)
  root = root_lives w none (blocked_none r.batch.current (ended_task_of r.task_table 0) blocked).1

  -- no task is ready
  pub none_ready : (r.batch.current ≡ []) × (r.batch.next ≡ [])
  none_ready = (none, w.nothing_added)

  -- what the clock asks
  pub none_due : AllLater r.clock (now_of r.clock)
  none_due = timers_later w none

  -- some task has a timer, or continues before one is due, so the clock has a moment to jump to
  pub some_moment : HasTimer r.clock ⊎ IsSome round
  some_moment = some_round w none is_round 0 root.0 root.1

  -- and where none is due, that is later than the clock's
  pub next_round_later : (c : ℕ) → round ≡ Some c → now_of r.clock < c
  next_round_later c e = round_later w none is_round c e

  -- past the limit
  pub past_limit : {clock : timers.Clock} → MeetsLimit r.clock round clock → (r.limit ≡ r.limit) × (r.limit < meaning_end r.job.now r.input.now)
  past_limit m =
      let le = ends_later w none is_round m.is_next 0 root.0 root.1 in
      let late : limit_of r.clock < m.next = m.late in
      let limit : limit_of r.clock ≡ last_of r.world.clock r.limit = w.going.shelved.consistent.limit in
      let past : last_of (clock_of r.job.now.format) r.limit < m.next =
      (let same : last_of r.world.clock r.limit ≡ last_of (clock_of r.job.now.format) r.limit =
      ap (λ (c : Clock). last_of c r.limit) w.going.counts in
      omega (arith, late, limit, same)) in
      let after = after_last (clock_of r.job.now.format) r.limit m.next past in
      (refl, omega (arith, le, after))

  -- which the next moment is, by the limit that the run began with
  pub past_next : {clock : timers.Clock} (limit : ℕ) → limit ≡ r.limit → MeetsLimit r.clock round clock → IsPast r limit
  past_next limit is m =
      let late : limit_of r.clock < m.next = m.late in
      let same : limit_of r.clock ≡ last_of r.world.clock r.limit = w.going.shelved.consistent.limit in
      record { is = is; next = m.next; is_next = is_next_moment w none is_round m.is_next; late = omega (arith, late, same) }

  module _ {clock : timers.Clock} {t : ℕ} (jumps : JumpsTo r.clock round t clock) where
    -- the jump takes the world to no earlier moment
    pub no_earlier : r.world.tick ≤ t
    no_earlier = let lt = next_later w none is_round jumps.next in omega (arith, lt)

    -- nor to one that is too late
    pub not_too_late : t ≤ 2 ^ 62
    not_too_late = moment_bounded (later_consistent w none is_round jumps.next clock jumps.within jumps.now jumps.limit jumps.timers)

    module _ (world : World) (is_world : world ≡ record r.world { tick = t }) where
      -- the clock jumped to the next moment
      pub next_moment : (woken : Runner) → woken.world ≡ world → IsNextMoment r woken.world.tick
      next_moment woken same =
          let tick : woken.world.tick ≡ t = ap (λ (v : World). v.tick) (same ∙ is_world) in
          rw tick (is_next_moment w none is_round jumps.next)

      module _ (batch later : Batches) (is_batch : batch ≡ r.later) (is_later : later ≡ r.batch) where
        -- the runner in that moment, in which those that continue a round later are ready
        abbrev pub there : Runner
        there = record r { clock = clock; world = world; through = t; batch = batch; later = later }

        there_is : there ≡ record r { clock = clock; world = record r.world { tick = t }; through = t; batch = r.later; later = r.batch }
        there_is =
            ap (λ (b : Batches). record r { clock = clock; world = world; through = t; batch = b; later = later }) is_batch
            ∙ ap (λ (b : Batches). record r { clock = clock; world = world; through = t; batch = r.later; later = b }) is_later
            ∙ ap (λ (v : World). record r { clock = clock; world = v; through = t; batch = r.later; later = r.batch }) is_world

        -- the world has reached the clock's moment, and the tasks that may continue can be woken
        pub jumped : IsWaking there
        jumped =
            subst IsWaking (sym there_is)
            (has_jumped w none is_round jumps.next clock jumps.within jumps.now jumps.limit jumps.timers)

        -- with those that may continue in the current batch
        pub landed : (woken : Runner) → WakesOnly there woken → ((id : ℕ) → granted_among id (ready_calls woken) ≡ granted_among id (ready_calls there)) →
            All (IsAddedOf r.input.now) woken.batch.next → AreShelved None woken → woken.batch.current ≡ [] → woken.batch.next ≢ [] →
            (turned : Batches) → turned.current ≡ map without_answer woken.batch.next → turned.next ≡ [] → NonePlaced turned.current →
            IsUnderway (record woken { batch = turned })
        landed woken only granted parts shelved over some turned current next fresh =
            subst IsUnderway (sym (ap (λ (x : Runner). record x { batch = turned }) rest))
            (record {
              going = record {
                sound = w.going.sound;
                counts = w.going.counts;
                shelved = subst (AreShelved None) (ap (λ (x : Runner). record x { batch = turned }) rest) (turned_over turned shelved over current next);
                interleaving = interleaving_jumps w none is_round jumps.next (ready_calls last) same_granted;
                lent = record {
                  objects = w.going.lent.objects;
                  round = w.going.lent.round;
                  current = rw current (All-map (IsEntryOf r.input.now) without_answer woken.batch.next parts);
                  next = rw next (All-nil (IsAddedOf r.input.now));
                  later = (let idle = w.nothing_added in rw idle (All-nil (IsAddedOf r.input.now)));
                  granted = w.going.lent.granted;
                };
              };
              unchanged = w.unchanged;
              unplaced = fresh;
              nothing_added = next;
              served = unserved turned.current (woken.batch.next) current some;
            })
          where
            -- the runner with the batch that was turned over
            last : Runner
            last = record r {
              clock = woken.clock;
              sleepers = woken.sleepers;
              waiters = woken.waiters;
              world = record r.world { tick = t };
              through = t;
              batch = turned;
              later = r.batch;
            }

            rest : woken ≡ record r {
              clock = woken.clock;
              sleepers = woken.sleepers;
              waiters = woken.waiters;
              world = record r.world { tick = t };
              through = t;
              batch = woken.batch;
              later = r.batch;
            }
            rest =
                only
                ∙ ap (λ (x : Runner). record x { clock = woken.clock; sleepers = woken.sleepers; waiters = woken.waiters; batch = woken.batch })
                there_is

            later_is : later_calls woken ≡ later_calls last
            later_is = ap later_calls rest

            same_granted : (id : ℕ) → granted_among id (ready_calls last) ≡ granted_among id (ready_calls r)
            same_granted id =
                ap (λ (xs : List Added). granted_among id (map added_of turned.current ++ (turned.next ++ xs))) (sym later_is)
                ∙ ap (granted_among id) (turned_calls woken turned over current next)
                ∙ granted id
                ∙ ap (λ (x : Runner). granted_among id (ready_calls x)) there_is
                ∙ ap (λ (es : List Entry). granted_among id (map added_of es ++ (later_calls r ++ r.batch.next))) w.going.shelved.none_later
                ∙ ap (λ (xs : List Added). granted_among id (later_calls r ++ xs)) w.nothing_added
                ∙ ap (granted_among id) (append-nil (later_calls r))
                ∙ sym (ap (λ (es : List Entry). granted_among id (map added_of es ++ (r.batch.next ++ later_calls r))) none
                ∙ ap (λ (xs : List Added). granted_among id (xs ++ later_calls r)) w.nothing_added)

            unserved : (es : List Entry) (added : List Added) → es ≡ map without_answer added → added ≢ [] → IsServedIf es last
            unserved es [] e more = absurd (more refl)
            unserved [] (a ∷ added) e more = absurd (let f : 0 ≡ suc (length added) = ap length e ∙ long (a ∷ added) in omega (arith, f))
              where
                long : (xs : List Added) → length (map without_answer xs) ≡ length xs
                long [] = refl
                long (x ∷ xs) = ap suc (long xs)
            unserved (x ∷ es) (a ∷ added) e more =
                record { through = refl; none_granted = (let idle = w.nothing_added in rw idle (All-nil (λ (b : Added). what_of b.1 ≡ None))) }

        -- first those that see a cancellation are woken, and then those whose moment has come
        pub both_woken : (seen woken : Runner) → WakesOnly there seen → WakesOnly seen woken → WakesOnly there woken
        both_woken seen woken a b = only_again there seen woken a b

        -- what the steps of a jump lead to: `rested` has the batch of those that continue a round later, then those are woken that see a
        -- cancellation, and then those whose moment has come
        module _ {rested : Runner} (is : rested ≡ there) where
          pub rested_waking : IsWaking rested
          rested_waking = subst IsWaking (sym is) jumped

          module _ {seen woken : Runner} (only_seen : WakesOnly rested seen) (only_woken : WakesOnly seen woken) where
            pub woken_moment : IsNextMoment r woken.world.tick
            woken_moment =
                next_moment woken
                (ap (λ (x : Runner). x.world) only_woken ∙ ap (λ (x : Runner). x.world) only_seen ∙ ap (λ (x : Runner). x.world) is)

            pub woken_underway : AddsUngranted rested seen → AddsUngranted seen woken → AreShelved None woken → woken.batch.current ≡ [] →
                woken.batch.next ≢ [] → (turned : Batches) → turned.current ≡ map without_answer woken.batch.next → turned.next ≡ [] →
                NonePlaced turned.current → IsUnderway (record woken { batch = turned })
            woken_underway first more shelved over some turned current next fresh =
                landed woken (both_woken seen woken (subst (λ (x : Runner). WakesOnly x seen) is only_seen) only_woken)
                (λ id. more.granted id ∙ first.granted id ∙ ap (λ (x : Runner). granted_among id (ready_calls x)) is)
                (more.parts r.input.now (first.parts r.input.now ready_parts)) shelved over some turned current next fresh
              where
                ready_parts : All (IsAddedOf r.input.now) rested.batch.next
                ready_parts =
                    subst (λ (x : Runner). All (IsAddedOf r.input.now) x.batch.next) (sym is)
                    (subst (λ (b : Batches). All (IsAddedOf r.input.now) b.next) (sym is_batch) w.going.lent.later)
