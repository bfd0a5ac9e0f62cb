-- A run that begins: the root alone, which is called to begin.
use Rattle.std.proofs.Common.{◌≡◌, inl, inr, ℕ, zero, suc, ◌+◌, ◌≤◌, Option, Some, None, List, [], ◌∷◌, ◌++◌, map, length, refl, ap, sym, ◌∙◌, arith}
use Rattle.std.specs.Prelude.{All, ◌==◌}
use Rattle.std.specs.Option.{option_map}
use Rattle.std.proofs.lemmas.Bool.Decides.{eqb_tells}
use Rattle.std.proofs.lemmas.List.Elements.{All-append, All-cons, All-nil}
use Rattle.std.proofs.lemmas.Option.{same_Some, none-some}
use Rattle.clock.specs.Clock.{due_of, limit_of, now_of}
use Rattle.task_table.specs.declared.entry.Call.TheVariants.{Begin}
use Rattle.task_table.specs.declared.entry.Entry.{Entry}
use Rattle.task_table.specs.Entries.{Added, NonePlaced, added_of, without_answer}
use Rattle.exceptions.specs.Exceptions.{Label}
use Rattle.turn_semantics.specs.Midway.{Tables}
use Rattle.job_meaning.specs.GrantTable.{granted_of, made_in}
use Rattle.job_meaning.specs.Moments.{clock_of}
use Rattle.job_meaning.specs.declared.clock.Clock.{Clock}
use Rattle.task_machine.specs.declared.task.Task.{Task}
use Rattle.task_machine.specs.Worlds.{event_at}
use Rattle.run_refinement.specs.Begun.{IsNewWorld, IsRootTask}
use Rattle.run_refinement.specs.RunState.{Refines}
use Rattle.run_refinement.specs.Ready.{AreHomesOf}
use Rattle.run_refinement.proofs.Begun.{state_begun}
use Rattle.clock.specs.Sleeping.{scope_in}
use Rattle.clock.specs.Waiting.{event_in}
use Rattle.task_table.specs.declared.task_table.Running.{Running}
use Rattle.job_runner.specs.declared.runner.Runner.{Runner}
use Rattle.task_table.specs.TaskTable.{Sharing, parent_of, running_at, run_state, task_of, HasRoot, IsTaskTable}
use Rattle.job_runner.specs.Limits.{last_tick, last_of}
use Rattle.job_runner.specs.Shelves.{state_in, task_state_times, running_times, timer_times, times_shelved, AreKnown, IsRefined, sleep_slot_of, wait_slot_of, GoesBy, IsCalledAdded, IsCalledEntry, IsCalledLater, IsActOf, IsAddedOf, IsEntryOf, IsConsistent, IsServedIf, IsSoundJob, IsUnderway, NoneChanged, NoneGranted}
use Rattle.job_runner.specs.Shared.{what_of, later_calls, object_at, ready_calls, round_act_of}
use Rattle.job_runner.proofs.Granted.{granted_none}
use Rattle.task_table.proofs.Times.{one_if, times_cons}
use Rattle.job_runner.proofs.Goes.{begin_goes}
use Rattle.job_runner.proofs.Options.{some_has}
use Rattle.job_runner.proofs.Shelving.{none_away, times_next, times_now}
use Rattle.job_runner.proofs.States.{run_in}

module _ (r : Runner) {root : Task} {id : ℕ} (sound : IsSoundJob r.job.now r.input.now)
    (world : IsNewWorld r.job.now r.world) (is_root : IsRootTask r.job.now r.input.now root)
    (has : HasRoot r.task_table root id) (turns : r.turns ≡ 0) (through : r.through ≡ 0)
    (unopened : (label : Label) → object_at r.objects label ≡ None) (idle : r.round.items ≡ [])
    (ungranted : (object asker : Label) (u : ℕ) → made_in r.grants object asker u ≡ None)
  where
    begun : NoneGranted (ready_calls r) → (k : Tables) → Refines k r.job.now r.input.now 0 1 None (state_in r)
    begun none k =
        state_begun k r.job.now r.input.now (state_in r) root sound.in_range sound.starts sound.names sound.small world is_root has.task
        (λ p. let more : p + 1 ≡ suc p = omega arith in rw more at (has.none p)) has.ended_task has.start
        has.children turns refl through unopened (ap (map round_act_of) idle) (granted_none r.task_table (ready_calls r) none)
        (λ object asker u. ap (option_map granted_of) (ungranted object asker u))

    is_refined : NoneGranted (ready_calls r) → IsRefined r
    is_refined none k settled = run_in (sym world.tick) (sym has.many) (begun none k)

    homeless : (shared : Sharing) → AreHomesOf (run_state r.task_table r.world r.turns shared) (parent_of r.task_table)
    homeless shared s task home lives is = absurd (by_serial s lives)
      where
        by_serial : (n : ℕ) → task_of r.task_table n ≡ Some task → ⊥
        by_serial zero e =
            let same : root ≡ task = same_Some root task (sym has.task ∙ e) in
            none-some home (sym is_root.home ∙ ap (λ (x : Task). x.home) same ∙ is)
        by_serial (suc n) e =
            let more : n + 1 ≡ suc n = omega arith in
            none-some task (sym (has.none n) ∙ ap (task_of r.task_table) more ∙ e)

    module _ (agree : IsTaskTable r.task_table) (now : now_of r.clock ≡ 0) (limit : limit_of r.clock ≡ last_of (clock_of r.job.now.format) r.limit)
        (bounded : r.limit ≤ last_tick (clock_of r.job.now.format))
        (timers : (task : ℕ) → due_of r.clock task ≡ None)
        (asleep : (task : ℕ) → scope_in r.sleepers task ≡ None) (unwaiting : (task : ℕ) → event_in r.waiters task ≡ None) (unchanged : NoneChanged r.world) (before added : List Added)
        (none_later : r.later.current ≡ []) (no_later : later_calls r ≡ []) (none_before : before ≡ []) (was_added : added ≡ before ++ (id, Begin) ∷ []) (current : r.batch.current ≡ map without_answer added)
        (next : r.batch.next ≡ []) (fresh : NonePlaced r.batch.current) where
      abbrev its_entry : Entry
      its_entry = without_answer (id, Begin)

      one_entry : r.batch.current ≡ its_entry ∷ []
      one_entry = current ∙ ap (map without_answer) (was_added ∙ ap (λ (xs : List Added). xs ++ (id, Begin) ∷ []) none_before)

      kept_once : (other : ℕ) → one_if (id == other) ≡ running_times r.world.book (running_at r.task_table other)
      kept_once other =
          elim (eqb_tells id other) [
            | inl same ↦
                let lives : running_at r.task_table other ≡ Some (record { task = root; row = 0 }) = rw same.1 at has.lives in
                ap one_if same.0
                ∙ sym (ap (running_times r.world.book) lives ∙ ap (task_state_times r.world.book) is_root.task_state)
            | inr else_ ↦ ap one_if else_.0 ∙ sym (ap (running_times r.world.book) (has.others other (λ e. else_.1 (sym e))))
          ]

      stands_once : (other : ℕ) → times_shelved r.batch (later_calls r) r.clock other ≡ running_times r.world.book (running_at r.task_table other)
      stands_once other =
          let a : times_now other r.batch.current ≡ times_now other (its_entry ∷ []) = ap (times_now other) one_entry in
          let b : times_now other (its_entry ∷ []) ≡ one_if (id == other) + 0 = times_cons other id [] in
          let c : times_next other r.batch.next ≡ 0 = ap (times_next other) next in
          let f : times_next other (later_calls r) ≡ 0 = ap (times_next other) no_later in
          let d : timer_times (due_of r.clock other) ≡ 0 = ap timer_times (timers other) in
          let e = kept_once other in
          omega (arith, a, b, c, d, e, f)

      consistent : IsConsistent r.task_table r.world r.clock r.limit r.turns
      consistent = record {
        agree = agree;
        homes = homeless;
        now = now ∙ sym world.tick;
        limit = limit ∙ ap (λ (c : Clock). last_of c r.limit) (sym world.clock);
        within = let none : r.world.tick ≡ 0 = world.tick in omega (arith, none);
        bounded = (let same : last_tick r.world.clock ≡ last_tick (clock_of r.job.now.format) = ap last_tick world.clock in omega (arith, bounded, same));
        none_started = world.started;
        none_set = world.set;
        none_done = world.acts;
      }

      none_known : AreKnown r.task_table r.world r.clock r.sleepers r.waiters
      none_known = record {
        sleep_slots = λ task. asleep task ∙ sym (ap (λ (d : Option ℕ). sleep_slot_of d (running_at r.task_table task)) (timers task));
        sights = λ task key e. absurd (none-some key (sym (asleep task) ∙ e));
        waiting = λ task. unwaiting task
            ∙ sym (ap (λ (d : Option ℕ). wait_slot_of (event_at r.world) d (running_at r.task_table task)) (timers task));
      }

      root_called : All (IsCalledEntry r.task_table r.world) r.batch.current
      root_called =
          rw one_entry (All-cons (IsCalledEntry r.task_table r.world) its_entry []
          (some_has (running_at r.task_table id) (λ (x : Running). GoesBy r.world x.task Begin) (record { task = root; row = 0 }) has.lives
          (begin_goes r.world root 0 is_root.task_state (sym world.tick)))
          (All-nil (IsCalledEntry r.task_table r.world)))

      none_granted : NoneGranted (ready_calls r)
      none_granted =
          All-append (λ (a : Added). what_of a.1 ≡ None) (map added_of r.batch.current) (r.batch.next ++ later_calls r)
          (rw one_entry (All-cons (λ (a : Added). what_of a.1 ≡ None) (id, Begin) [] refl (All-nil (λ (a : Added). what_of a.1 ≡ None))))
          (rw (next, no_later) (All-nil (λ (a : Added). what_of a.1 ≡ None)))

      -- a run that was just opened is underway, with the root in its first batch, ready to begin
      pub opened : IsUnderway r
      opened =
          record {
            going =
                record {
                  sound = sound;
                  counts = world.clock;
                  shelved =
                      record {
                        consistent = consistent;
                        stay = λ task due e. absurd (none-some due (sym (timers task) ∙ e));
                        known = none_known;
                        current = root_called;
                        next = rw next (All-nil (IsCalledAdded r.task_table r.world));
                        none_later = none_later;
                        later = rw no_later (All-nil (IsCalledLater r.task_table r.world));
                        once = λ other h. stands_once other;
                        away = none_away (λ (x : ℕ). times_shelved r.batch (later_calls r) r.clock x ≡ 0);
                      };
                  interleaving = is_refined none_granted;
                  lent =
                      record {
                        objects = λ l object e. absurd (none-some object (sym (unopened l) ∙ e));
                        round = rw idle (All-nil (IsActOf r.input.now));
                        current = rw one_entry (All-cons (IsEntryOf r.input.now) its_entry [] tt (All-nil (IsEntryOf r.input.now)));
                        next = rw next (All-nil (IsAddedOf r.input.now));
                        later = rw no_later (All-nil (IsAddedOf r.input.now));
                        granted = λ object asker u g e. absurd (none-some g (sym (ungranted object asker u) ∙ e));
                      };
                };
            unchanged = unchanged;
            unplaced = fresh;
            nothing_added = next;
            served = unserved r.batch.current one_entry;
          }
        where
          unserved : (es : List Entry) → es ≡ its_entry ∷ [] → IsServedIf es r
          unserved [] e = absurd (let f : 1 ≡ 0 = ap length (sym e) in omega (arith, f))
          unserved (x ∷ es) e = record {
            through = through ∙ sym world.tick;
            none_granted = rw no_later (All-nil (λ (a : Added). what_of a.1 ≡ None));
          }
