-- Until when all tasks stay, where no task is ready in this moment.
use Rattle.std.proofs.Common.{◌≡◌, inl, inr, ℕ, suc, ◌+◌, ◌<◌, ◌≤◌, min, max, Bool, true, false, Option, Some, None, [], refl, ap, sym, ◌∙◌, subst, arith, if◌then◌else◌}
use Rattle.std.specs.Prelude.{All, IsSomeAnd, ◌⊎◌, ◌==◌, ◌≢◌, ◌∷◌, List, map, nat_le}
use Rattle.std.proofs.lemmas.Bool.{cases_lt}
use Rattle.std.proofs.lemmas.Bool.Decides.{eqb_tells, leb_tells}
use Rattle.std.proofs.lemmas.List.Elements.{All-head, All-tail}
use Rattle.std.proofs.lemmas.Option.{same_Some, none-some}
use Rattle.clock.specs.Clock.{due_of}
use Rattle.cancel_scopes.specs.Sight.{Tick, is_reached, seen, sight}
use Rattle.cancel_scopes.specs.Tree.{outer_of}
use Rattle.nursery_book.specs.Nursery.{Nursery, is_settled}
use Rattle.nursery_book.specs.Book.{nursery_at}
use Rattle.nursery_book.specs.declared.book.NurseryBook.{NurseryBook}
use Rattle.job_meaning.specs.Walk.{last_grant}
use Rattle.job_meaning.specs.Before.{upto}
use Rattle.job_meaning.specs.Moments.{a_round_after, wakes_at}
use Rattle.job_meaning.specs.declared.clock.Clock.{Clock}
use Rattle.job_meaning.specs.declared.clock.Clock.TheVariants.{ByRounds as by_rounds}
use Rattle.job_meaning.specs.Rest.{Stopped, at_end}
use Rattle.task_machine.specs.declared.stop.TaskState.{TaskState}
use Rattle.task_machine.specs.declared.stop.TaskState.TheVariants.{ToBegin, Asked, Asleep, Waiting, Queued, GivingUp, Awaits, Over}
use Rattle.task_machine.specs.declared.task.Task.{Task}
use Rattle.task_machine.specs.Events.{wait_ends}
use Rattle.task_machine.specs.Fitting.{waits_of}
use Rattle.task_machine.specs.Stops.{Numbers, IsTaskState}
use Rattle.task_machine.specs.Tasks.{scope_of}
use Rattle.task_machine.specs.Worlds.{event_at}
use Rattle.interleavings.specs.Interleaving.{live}
use Rattle.run_refinement.specs.RunState.{HasMembers, Refines}
use Rattle.run_refinement.specs.Ready.{StaysTo, AllStay}
use Rattle.task_table.specs.declared.task_table.TaskTable.{TaskTable}
use Rattle.task_table.specs.declared.task_table.Running.{Running}
use Rattle.job_runner.specs.declared.runner.Runner.{Runner}
use Rattle.job_runner.specs.Jumps.{sight_asleep, sight_by, sight_in}
use Rattle.task_table.specs.TaskTable.{running_at, task_of, id_of, task_count, IsTaskTable}
use Rattle.job_runner.specs.Shared.{later_calls}
use Rattle.job_runner.specs.Shelves.{left_in, moment_of, ContinuesLater, IsCalledLater, IsGoing, IsAsleepIn, IsQueuedIn, DozesIn, Stays, timer_times, settled_times, task_state_times, running_times, times_shelved, state_in}
use Rattle.task_table.specs.Entries.{Added}
use Rattle.task_table.specs.Rows.{times}
use Rattle.task_table.proofs.Times.{one_if, times_cons}
use Rattle.job_runner.proofs.Lived.{lives_by}
use Rattle.job_runner.proofs.Options.{some_is}
use Rattle.job_runner.proofs.Shelving.{times_next, times_now}
use Rattle.job_runner.proofs.States.{meaning_of, meaning_run}

-- ---- which task has which id

-- the id under which a task lives
pub record LivesAt (r : TaskTable) (task : Task) : Type 0 where
  pub id : ℕ
  pub running : Running
  pub is : running_at r id ≡ Some running
  pub task_is : running.task ≡ task

pub lives_at : (r : TaskTable) → IsTaskTable r → (p : ℕ) (task : Task) → task_of r p ≡ Some task → LivesAt r task
lives_at r agree p task e = let l = lives_by r agree p task e in
    record { id = id_of r p; running = l.running; is = l.is; task_is = l.task_is }

-- ---- until when they stay

over_has_ended : (ns : Numbers) (book : NurseryBook) (stopped : Stopped) → IsTaskState ns book Over stopped → live stopped ≡ true → ⊥
over_has_ended ns book (at_end t x) i l = let f : false ≡ true = l in cc
over_has_ended ns book _ i l = absurd i

-- a sleeper that saw a cancellation by this moment fell asleep in it, where there are rounds
slept_now : (c : Clock) (u t s since : ℕ) (saw : Bool) → nat_le s t ≡ saw → s < u → u ≤ max (suc t) s →
    (saw ≡ false) ⊎ ((c ≡ by_rounds) × (since ≡ t)) → u ≤ a_round_after c since
slept_now c u t s since saw is before to (inl unseen) =
    elim (leb_tells s t) [
      | inl h ↦ absurd (let f : true ≡ false = sym h.0 ∙ (is ∙ unseen) in cc)
      | inr h ↦ absurd (let lt : t < s = h.1 in omega (arith, lt, before, to))
    ]
slept_now c u t s since saw is before to (inr now) =
    let next : a_round_after c since ≡ since + 1 = ap (λ (x : Clock). a_round_after x since) now.0 in
    let same : since ≡ t = now.1 in
    elim (cases_lt t s) [
      | inl lt ↦ absurd (omega (arith, lt, before, to))
      | inr le ↦ omega (arith, le, to, next, same)
    ]

-- and one in a queue asked in it
queued_now : (u t s since : ℕ) (saw : Bool) → nat_le s t ≡ saw → s < u → u ≤ max (suc t) s → (saw ≡ false) ⊎ (since ≡ t) → u ≤ suc since
queued_now u t s since saw is before to (inl unseen) =
    elim (leb_tells s t) [
      | inl h ↦ absurd (let f : true ≡ false = sym h.0 ∙ (is ∙ unseen) in cc)
      | inr h ↦ absurd (let lt : t < s = h.1 in omega (arith, lt, before, to))
    ]
queued_now u t s since saw is before to (inr now) =
    elim (cases_lt t s) [
      | inl lt ↦ absurd (omega (arith, lt, before, to))
      | inr le ↦ omega (arith, le, to, now)
    ]

-- a task that is among some has what each of these has
pub one_among : (P : Added → Type 0) (id : ℕ) (xs : List Added) → All P xs → 1 ≤ times_next id xs → (a : Added) × P a × (a.0 ≡ id)
one_among P id [] all some = absurd (let none : times_next id [] ≡ 0 = refl in omega (arith, some, none))
one_among P id (x ∷ xs) all some =
    let step : times id (x.0 ∷ map (λ (a : Added). a.0) xs) ≡ one_if (x.0 == id) + times_next id xs =
    times_cons id x.0 (map (λ (a : Added). a.0) xs) in
    elim (eqb_tells x.0 id) [
      | inl same ↦ (x, All-head P x xs all, same.1)
      | inr else_ ↦
          let none : one_if (x.0 == id) ≡ 0 = ap one_if else_.0 in
          one_among P id xs (All-tail P x xs all) (let all_times : times_next id (x ∷ xs) ≡ one_if (x.0 == id) + times_next id xs = step in
          omega (arith, some, all_times, none))
    ]

-- ---- where a task is kept

-- it has a timer for a moment
pub record HasTimerFor (r : Runner) (task : Task) (due : ℕ) : Type 0 where
  pub id : ℕ
  pub timer : due_of r.clock id ≡ Some due
  pub sees : sight_in r.task_table r.world id ≡ sight_asleep r.world (scope_of task) task.task_state

-- where it is kept once, it stays until its moment
pub record KeptAs (r : Runner) (task : Task) : Type 0 where
  pub due : ℕ
  pub stays : Stays r.world due task
  pub by : HasTimerFor r task due ⊎ (later_calls r ≢ [])

-- the moment in which a task that sees a cancellation from another one on continues
abbrev pub wakes_in : Runner → ℕ → ℕ
wakes_in r s = max (suc r.world.tick) s

-- no task continues before a moment
pub record NoneBefore (r : Runner) (u : ℕ) : Type 0 where
  pub timers : (id due : ℕ) → due_of r.clock id ≡ Some due →
      (u ≤ due) × ((s : ℕ) → sight_in r.task_table r.world id ≡ Some s → u ≤ wakes_in r s)
  pub later : later_calls r ≢ [] → u ≤ suc r.world.tick

-- A run whose batch is over, and a bound up to which no task continues.
module _ {r : Runner} (going : IsGoing r) (none : r.batch.current ≡ []) (nothing : r.batch.next ≡ []) where
  state : Refines (meaning_of r) r.job.now r.input.now r.world.tick (task_count r.task_table) None (state_in r)
  state = meaning_run r going

  -- a task that has not ended has a timer, or continues in the next moment, as often as its blocked state says
  timed_times : (task : Task) (at : LivesAt r.task_table task) →
      times_next at.id (later_calls r) + timer_times (due_of r.clock at.id) ≡ task_state_times r.world.book task.task_state
  timed_times task at =
      let all : times_shelved r.batch (later_calls r) r.clock at.id ≡ running_times r.world.book (running_at r.task_table at.id) =
      going.shelved.once at.id tt in
      let current : times_now at.id r.batch.current ≡ 0 = ap (times_now at.id) none in
      let next : times_next at.id r.batch.next ≡ 0 = ap (times_next at.id) nothing in
      let its : running_times r.world.book (running_at r.task_table at.id) ≡ task_state_times r.world.book task.task_state =
      ap (running_times r.world.book) at.is ∙ ap (λ (t : Task). task_state_times r.world.book t.task_state) at.task_is in
      omega (arith, all, current, next, its)

  pub kept_as : (task : Task) → LivesAt r.task_table task → task_state_times r.world.book task.task_state ≡ 1 → KeptAs r task
  kept_as task at one = by_timer (due_of r.clock at.id) refl
    where
      by_timer : (d : Option ℕ) → due_of r.clock at.id ≡ d → KeptAs r task
      by_timer None e =
          let zero_times : timer_times (due_of r.clock at.id) ≡ 0 = ap timer_times e in
          let its = timed_times task at in
          let some : 1 ≤ times_next at.id (later_calls r) = omega (arith, zero_times, its, one) in
          let a = one_among (IsCalledLater r.task_table r.world) at.id (later_calls r) going.shelved.later some in
          let x = some_is (running_at r.task_table a.0.0) (λ (y : Running). ContinuesLater r.world y.task a.0.1) a.1 in
          let same : x.0 ≡ at.running = same_Some x.0 at.running (sym x.1 ∙ (ap (running_at r.task_table) a.2 ∙ at.is)) in
          record {
            due = x.2.due;
            stays = subst (Stays r.world x.2.due) (ap (λ (y : Running). y.task) same ∙ at.task_is) x.2.stays;
            by = inr (λ f. (let nobody : times_next at.id (later_calls r) ≡ 0 = ap (times_next at.id) f in omega (arith, some, nobody)));
          }
      by_timer (Some due) e =
          record {
            due = due;
            stays = rw (at.is, at.task_is) at (going.shelved.stay at.id due e);
            by = inl (record {
              id = at.id;
              timer = e;
              sees = ap (sight_by r.world) at.is ∙ ap (λ (t : Task). sight_asleep r.world (scope_of t) t.task_state) at.task_is;
            });
          }

  -- before such a moment no task continues
  pub stay_until : (u : ℕ) → NoneBefore r u → ((p : ℕ) → ((state_in r).granted p ≡ None) ⊎ (u ≤ r.through)) → AllStay (state_in r) u
  stay_until u bound ungranted p task e = by_task_state task.task_state refl
    where
      at : LivesAt r.task_table task
      at = lives_at r.task_table going.shelved.consistent.agree p task e

      -- a task that has to be kept according to its blocked state stays
      as_kept : (task_state : TaskState) → task.task_state ≡ task_state → task_state_times r.world.book task_state ≡ 1 → KeptAs r task
      as_kept task_state h one = kept_as task at (ap (task_state_times r.world.book) h ∙ one)

      -- until its moment, which has not come by then
      far : (a : KeptAs r task) → u ≤ a.due
      far a = elim a.by [
        | inl timer ↦ (bound.timers timer.id a.due timer.timer).0
        | inr some ↦ (let le = bound.later some in let late = a.stays.later in omega (arith, le, late))
      ]

      by_moment : (task_state : TaskState) → task.task_state ≡ task_state → (a : KeptAs r task) → (moment : ℕ) →
          moment_of r.world.clock (event_at r.world) r.world.book task_state ≡ Some moment → u ≤ moment
      by_moment task_state h a moment is =
          let due : a.due ≡ moment =
          same_Some a.due moment (sym a.stays.due_is ∙ (ap (moment_of r.world.clock (event_at r.world) r.world.book) h ∙ is)) in
          let le = far a in
          omega (arith, due, le)

      no_moment : (task_state : TaskState) → task.task_state ≡ task_state → KeptAs r task →
          moment_of r.world.clock (event_at r.world) r.world.book task_state ≡ None → ⊥
      no_moment task_state h a is =
          none-some a.due (sym is ∙ (ap (moment_of r.world.clock (event_at r.world) r.world.book) (sym h) ∙ a.stays.due_is))

      by_nursery : (id since : ℕ) → task.task_state ≡ Awaits id since → (o : Option Nursery) → nursery_at r.world.book id ≡ o →
          IsSomeAnd o (λ (n : Nursery). HasMembers (state_in r) state.interleaving.at r.world.tick (state.numbers p) (state.interleaving.at p) id n) →
          IsSomeAnd o (λ (n : Nursery). (is_settled n ≡ false) ⊎ (u ≤ a_round_after r.world.clock n.last))
      by_nursery id since h None f members = members
      by_nursery id since h (Some n) f members = by_settled (is_settled n) refl
        where
          by_settled : (b : Bool) → is_settled n ≡ b → (is_settled n ≡ false) ⊎ (u ≤ a_round_after r.world.clock n.last)
          by_settled false g = inl g
          by_settled true g =
              inr (by_moment (Awaits id since) h (as_kept (Awaits id since) h (ap settled_times f ∙ ap one_if g))
              (a_round_after r.world.clock n.last)
              (ap (left_in r.world.clock) f ∙ ap (λ (b : Bool). if b then Some (a_round_after r.world.clock n.last) else None) g))

      -- in a moment in which it sees a cancellation it would continue then or later
      within : (s : ℕ) → KeptAs r task → sight_asleep r.world (scope_of task) task.task_state ≡ Some s → u ≤ wakes_in r s
      within s a sees = elim a.by [
        | inl timer ↦ (bound.timers timer.id a.due timer.timer).1 s (timer.sees ∙ sees)
        | inr some ↦ (let le = bound.later some in omega (arith, le))
      ]

      -- one that sleeps, or waits for an event, sees no cancellation by then, or has done so for a round at most
      by_sight : (since : ℕ) (a : KeptAs r task) → IsAsleepIn r.world (scope_of task) since →
          sight_asleep r.world (scope_of task) task.task_state ≡ sight (outer_of r.world.scopes (scope_of task)) →
          (c : Tick) → sight (outer_of r.world.scopes (scope_of task)) ≡ c →
          (upto u c ≡ u) ⊎ (u ≤ a_round_after r.world.clock since)
      by_sight since a dozes as_asleep None g = inl refl
      by_sight since a dozes as_asleep (Some s) g =
          elim (cases_lt s u) [
            | inl lt ↦
                inr (slept_now r.world.clock u r.world.tick s since (seen (outer_of r.world.scopes (scope_of task)) r.world.tick)
                (sym (ap (λ (c : Tick). is_reached c r.world.tick) g)) lt
                (within s a (as_asleep ∙ g)) dozes.1)
            | inr le ↦ inl (let f : min u s ≡ u = omega (arith, le) in f)
          ]

      -- nor does one in a queue, or has been there for a round at most
      in_queue : (since : ℕ) (a : KeptAs r task) → IsQueuedIn r.world (scope_of task) since →
          sight_asleep r.world (scope_of task) task.task_state ≡ sight (outer_of r.world.scopes (scope_of task)) →
          (c : Tick) → sight (outer_of r.world.scopes (scope_of task)) ≡ c → (upto u c ≡ u) ⊎ (u ≤ suc since)
      in_queue since a dozes as_asleep None g = inl refl
      in_queue since a dozes as_asleep (Some s) g =
          elim (cases_lt s u) [
            | inl lt ↦
                inr (queued_now u r.world.tick s since (seen (outer_of r.world.scopes (scope_of task)) r.world.tick)
                (sym (ap (λ (c : Tick). is_reached c r.world.tick) g)) lt
                (within s a (as_asleep ∙ g)) dozes.1)
            | inr le ↦ inl (let f : min u s ≡ u = omega (arith, le) in f)
          ]

      by_task_state : (task_state : TaskState) → task.task_state ≡ task_state →
          StaysTo r.world r.through ((state_in r).granted p) u (scope_of task) task_state
      by_task_state (ToBegin moment) h = by_moment (ToBegin moment) h (as_kept (ToBegin moment) h refl) moment refl
      by_task_state (Asked kernel purpose) h =
          absurd (no_moment (Asked kernel purpose) h (as_kept (Asked kernel purpose) h refl) refl)
      by_task_state (Asleep paced ticks since) h =
          let a = as_kept (Asleep paced ticks since) h refl in (
            by_moment (Asleep paced ticks since) h a (wakes_at r.world.clock ticks since) refl,
            by_sight since a (subst (DozesIn r.world (scope_of task)) h a.stays.dozes) (ap (sight_asleep r.world (scope_of task)) h)
                (sight (outer_of r.world.scopes (scope_of task))) refl,
          )
      by_task_state (Waiting event since) h =
          let a = as_kept (Waiting event since) h refl in (
            by_moment (Waiting event since) h a (wait_ends r.world.clock (event_at r.world event) since) refl,
            by_sight since a (subst (DozesIn r.world (scope_of task)) h a.stays.dozes) (ap (sight_asleep r.world (scope_of task)) h)
                (sight (outer_of r.world.scopes (scope_of task))) refl,
          )
      by_task_state (Queued object ask since body) h =
          let a = as_kept (Queued object ask since body) h refl in (
            ungranted p,
            by_moment (Queued object ask since body) h a (last_grant r.world.clock since) refl,
            in_queue since a (subst (DozesIn r.world (scope_of task)) h a.stays.dozes) (ap (sight_asleep r.world (scope_of task)) h)
                (sight (outer_of r.world.scopes (scope_of task))) refl,
          )
      by_task_state (GivingUp since) h = by_moment (GivingUp since) h (as_kept (GivingUp since) h refl) (suc since) refl
      by_task_state (Awaits id since) h =
          by_nursery id since h (nursery_at r.world.book id) refl ((state.follows p task e).nurseries id (inr (ap waits_of h)))
      by_task_state Over h =
          let it = state.follows p task e in
          absurd (over_has_ended (state.numbers p) r.world.book (state.interleaving.at p).rest.stopped (rw h at it.task_state)
          (it.lives (λ f. none-some p f)))
