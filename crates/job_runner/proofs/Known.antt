-- What the runner knows of its sleepers: each by the scope in which it sleeps, and each such scope by its
-- effective deadline (`sight`); and of the tasks that wait for an event that nothing has set.
use Rattle.std.proofs.Common.{◌≡◌, inl, inr, ℕ, true, false, List, Option, Some, None, [], refl, ap, sym, ◌∙◌}
use Rattle.std.specs.Prelude.{◌⊎◌}
use Rattle.std.specs.Option.{unwrap_or}
use Rattle.std.proofs.lemmas.Bool.{cases_eq}
use Rattle.std.proofs.lemmas.Option.{none-some, same_Some}
use Rattle.clock.specs.Clock.{Clock, due_of, Updates}
use Rattle.cancel_scopes.specs.Sight.{Tick, sight}
use Rattle.cancel_scopes.specs.Tree.{Stack, Tree, is_changed, outer_of}
use Rattle.task_machine.specs.declared.stop.TaskState.{TaskState}
use Rattle.task_machine.specs.declared.stop.TaskState.TheVariants.{ToBegin, Asked, Asleep, Waiting, Queued, GivingUp, Awaits, Over}
use Rattle.task_machine.specs.declared.world.World.{World}
use Rattle.task_machine.specs.Labels.{Events}
use Rattle.task_machine.specs.Tasks.{scope_of}
use Rattle.task_machine.specs.Worlds.{event_at}
use Rattle.run_refinement.specs.Sights.{Shows}
use Rattle.clock.specs.Sleeping.{Sleeping, scope_in, sight_of, Moves, KeepsSights, SeesFrom}
use Rattle.clock.specs.Waiting.{event_in, WaitsFor}
use Rattle.task_table.specs.declared.task_table.TaskTable.{TaskTable}
use Rattle.task_table.specs.declared.task_table.Running.{Running}
use Rattle.task_table.specs.TaskTable.{running_at}
use Rattle.job_runner.specs.Jumps.{sight_asleep}
use Rattle.job_runner.specs.Shelves.{sleep_slot_of, sleeps_in, if_unset, waits_in, wait_slot_of, AreKnown, NoneChanged}

-- ---- which tasks are known

-- a task that sleeps in a scope has a timer, and lives in that scope
pub record SleepsIn (task_table : TaskTable) (clock : Clock) (id key : ℕ) : Type 0 where
  pub due : ℕ
  pub running : Running
  pub timer : due_of clock id ≡ Some due
  pub lives : running_at task_table id ≡ Some running
  pub in_scope : sleeps_in running.task.task_state (scope_of running.task) ≡ Some key

-- the scope in which a task sleeps is the one that encloses it
pub sleeps_inside : (task_state : TaskState) (scope : Option ℕ) (key : ℕ) → sleeps_in task_state scope ≡ Some key → scope ≡ Some key
sleeps_inside (ToBegin at) scope key e = absurd (none-some key e)
sleeps_inside (Asked kernel purpose) scope key e = absurd (none-some key e)
sleeps_inside (Asleep paced ticks since) scope key e = e
sleeps_inside (Waiting event since) scope key e = e
sleeps_inside (Queued object ask since body) scope key e = e
sleeps_inside (GivingUp since) scope key e = absurd (none-some key e)
sleeps_inside (Awaits id since) scope key e = absurd (none-some key e)
sleeps_inside Over scope key e = absurd (none-some key e)

-- the effective deadline that is kept of the scope in which a task sleeps
abbrev pub kept_sight : Sleeping → Option ℕ → Tick
kept_sight sleepers None = None
kept_sight sleepers (Some key) = sight_of sleepers key

-- where no scope is left to hand out, that is what its tasks see
pub shown_sight : (tree : Tree) (key : ℕ) (kept : Tick) → is_changed tree key ≡ false → Shows tree key kept →
    sight (outer_of tree (Some key)) ≡ kept
shown_sight tree key kept unchanged h = by_known h.known
  where
    by_known : (sight h.stack ≡ kept) ⊎ (is_changed tree key ≡ true) → sight (outer_of tree (Some key)) ≡ kept
    by_known (inl e) = ap (λ (o : Option Stack). sight (unwrap_or o [])) h.opened ∙ e
    by_known (inr e) = absurd (let f : false ≡ true = sym unchanged ∙ e in cc)

module _ {task_table : TaskTable} {world : World} {clock : Clock} {sleepers : Sleeping} {waiters : List (Option ℕ)}
    (k : AreKnown task_table world clock sleepers waiters)
  where
    -- a task that is kept as sleeping in a scope has a timer, and is in that scope
    pub sleeper_in : (id key : ℕ) → scope_in sleepers id ≡ Some key → SleepsIn task_table clock id key
    sleeper_in id key e = by_timer (due_of clock id) refl (running_at task_table id) refl (sym (k.sleep_slots id) ∙ e)
      where
        by_timer : (d : Option ℕ) → due_of clock id ≡ d → (o : Option Running) → running_at task_table id ≡ o →
            sleep_slot_of (due_of clock id) (running_at task_table id) ≡ Some key → SleepsIn task_table clock id key
        by_timer None f o g h = absurd (none-some key (rw f at h))
        by_timer (Some due) f None g h = absurd (none-some key (rw (f, g) at h))
        by_timer (Some due) f (Some x) g h = record { due = due; running = x; timer = f; lives = g; in_scope = rw (f, g) at h }

    -- and vice versa
    pub sleep_slot_is : (id due : ℕ) (x : Running) → due_of clock id ≡ Some due → running_at task_table id ≡ Some x →
        scope_in sleepers id ≡ sleeps_in x.task.task_state (scope_of x.task)
    sleep_slot_is id due x e f = rw (e, f) at (k.sleep_slots id)

    -- ---- what a sleeper sees, if no scope is marked as changed

    -- its effective deadline is the one that is kept of its scope
    pub known_sight : NoneChanged world → (id due : ℕ) (x : Running) → due_of clock id ≡ Some due → running_at task_table id ≡ Some x →
        sight_asleep world (scope_of x.task) x.task.task_state ≡ kept_sight sleepers (sleeps_in x.task.task_state (scope_of x.task))
    known_sight unchanged id due x e f = by_task_state x.task.task_state (sleep_slot_is id due x e f)
      where
        by_scope : (o : Option ℕ) → scope_in sleepers id ≡ o → sight (outer_of world.scopes o) ≡ kept_sight sleepers o
        by_scope None h = refl
        by_scope (Some key) h = shown_sight world.scopes key (sight_of sleepers key) (unchanged key) (k.sights id key h)

        by_task_state : (task_state : TaskState) → scope_in sleepers id ≡ sleeps_in task_state (scope_of x.task) →
            sight_asleep world (scope_of x.task) task_state ≡ kept_sight sleepers (sleeps_in task_state (scope_of x.task))
        by_task_state (ToBegin at) h = refl
        by_task_state (Asked kernel purpose) h = refl
        by_task_state (Asleep paced ticks since) h = by_scope (scope_of x.task) h
        by_task_state (Waiting event since) h = by_scope (scope_of x.task) h
        by_task_state (Queued object ask since body) h = by_scope (scope_of x.task) h
        by_task_state (GivingUp since) h = refl
        by_task_state (Awaits nursery since) h = refl
        by_task_state Over h = refl

    -- a sleeper that sees a cancellation from a moment on, by its scope
    pub sees_from : NoneChanged world → (id due : ℕ) (x : Running) (t : ℕ) → due_of clock id ≡ Some due → running_at task_table id ≡ Some x →
        sight_asleep world (scope_of x.task) x.task.task_state ≡ Some t → SeesFrom sleepers id t
    sees_from unchanged id due x t e f sees =
        by_scope (sleeps_in x.task.task_state (scope_of x.task)) (sleep_slot_is id due x e f) (sym (known_sight unchanged id due x e f) ∙ sees)
      where
        by_scope : (o : Option ℕ) → scope_in sleepers id ≡ o → kept_sight sleepers o ≡ Some t → SeesFrom sleepers id t
        by_scope None h g = absurd (none-some t g)
        by_scope (Some key) h g = record { scope = key; sleeps = h; sight = g }

    -- a task that is kept as seeing a cancellation from a moment on has that moment as its effective deadline
    pub seen_by : NoneChanged world → (id t : ℕ) → (s : SeesFrom sleepers id t) →
        (z : SleepsIn task_table clock id s.scope) × (sight_asleep world (scope_of z.running.task) z.running.task.task_state ≡ Some t)
    seen_by unchanged id t s =
        let z = sleeper_in id s.scope s.sleeps in (
          z,
          known_sight unchanged id z.due z.running z.timer z.lives ∙ (ap (kept_sight sleepers) z.in_scope ∙ s.sight),
        )

-- ---- other tasks

-- the scope in which a task sleeps is the same where each task that has a timer lives as it did
pub slots_kept : (old new : TaskTable) (clock : Clock) →
    ((key due : ℕ) → due_of clock key ≡ Some due → running_at new key ≡ running_at old key) → (key : ℕ) →
    sleep_slot_of (due_of clock key) (running_at old key) ≡ sleep_slot_of (due_of clock key) (running_at new key)
slots_kept old new clock same key = by_timer (due_of clock key) refl
  where
    by_timer : (d : Option ℕ) → due_of clock key ≡ d → sleep_slot_of d (running_at old key) ≡ sleep_slot_of d (running_at new key)
    by_timer None f = refl
    by_timer (Some due) f = ap (sleep_slot_of (Some due)) (sym (same key due f))

-- so is the event for which it waits, where the events are the same
pub waits_kept : (events : Events) (old new : TaskTable) (clock : Clock) →
    ((key due : ℕ) → due_of clock key ≡ Some due → running_at new key ≡ running_at old key) → (key : ℕ) →
    wait_slot_of events (due_of clock key) (running_at old key) ≡ wait_slot_of events (due_of clock key) (running_at new key)
waits_kept events old new clock same key = by_timer (due_of clock key) refl
  where
    by_timer : (d : Option ℕ) → due_of clock key ≡ d → wait_slot_of events d (running_at old key) ≡ wait_slot_of events d (running_at new key)
    by_timer None f = refl
    by_timer (Some due) f = ap (wait_slot_of events (Some due)) (sym (same key due f))

-- ---- tasks that wait for an event

-- a task that waits for an event that nothing has set has a timer
pub record WaitsIn (events : Events) (task_table : TaskTable) (clock : Clock) (id event : ℕ) : Type 0 where
  pub due : ℕ
  pub running : Running
  pub since : ℕ
  pub timer : due_of clock id ≡ Some due
  pub lives : running_at task_table id ≡ Some running
  pub waits : running.task.task_state ≡ Waiting event since
  pub unset : events event ≡ Some None

-- of what is kept as waiting for an event
pub waiting_for : (events : Events) (task_state : TaskState) (event : ℕ) → waits_in events task_state ≡ Some event →
    (since : ℕ) × (task_state ≡ Waiting event since) × (events event ≡ Some None)
waiting_for events (ToBegin at) event e = absurd (none-some event e)
waiting_for events (Asked kernel purpose) event e = absurd (none-some event e)
waiting_for events (Asleep paced ticks since) event e = absurd (none-some event e)
waiting_for events (Waiting key since) event e = by_event (events key) refl e
  where
    by_event : (o : Option Tick) → events key ≡ o → if_unset key o ≡ Some event →
        (u : ℕ) × (Waiting key since ≡ Waiting event u) × (events event ≡ Some None)
    by_event None f g = absurd (none-some event g)
    by_event (Some None) f g =
        let same : key ≡ event = same_Some key event g in
        (since, ap (λ (n : ℕ). Waiting n since) same, ap events (sym same) ∙ f)
    by_event (Some (Some from)) f g = absurd (none-some event g)
waiting_for events (Queued object ask since body) event e = absurd (none-some event e)
waiting_for events (GivingUp since) event e = absurd (none-some event e)
waiting_for events (Awaits id since) event e = absurd (none-some event e)
waiting_for events Over event e = absurd (none-some event e)

pub waiter_in : {task_table : TaskTable} {world : World} {clock : Clock} {sleepers : Sleeping} {waiters : List (Option ℕ)} →
    AreKnown task_table world clock sleepers waiters → (id event : ℕ) → event_in waiters id ≡ Some event →
    WaitsIn (event_at world) task_table clock id event
waiter_in {task_table} {world} {clock} {sleepers} {waiters} k id event e =
    by_timer (due_of clock id) refl (running_at task_table id) refl (sym (k.waiting id) ∙ e)
  where
    by_timer : (d : Option ℕ) → due_of clock id ≡ d → (o : Option Running) → running_at task_table id ≡ o →
        wait_slot_of (event_at world) (due_of clock id) (running_at task_table id) ≡ Some event →
        WaitsIn (event_at world) task_table clock id event
    by_timer None f o g h = absurd (none-some event (ap (λ (d : Option ℕ). wait_slot_of (event_at world) d (running_at task_table id)) (sym f) ∙ h))
    by_timer (Some due) f None g h =
        absurd (none-some event (sym (ap (λ (d : Option ℕ). wait_slot_of (event_at world) d (running_at task_table id)) f
        ∙ ap (wait_slot_of (event_at world) (Some due)) g) ∙ h))
    by_timer (Some due) f (Some x) g h =
        let waits = waiting_for (event_at world) x.task.task_state event
        (sym (ap (λ (d : Option ℕ). wait_slot_of (event_at world) d (running_at task_table id)) f
        ∙ ap (wait_slot_of (event_at world) (Some due)) g) ∙ h) in
        record { due = due; running = x; since = waits.0; timer = f; lives = g; waits = waits.1; unset = waits.2 }

-- ---- one that is woken

-- a task that has no timer any more sleeps in no scope, and waits for no event
pub known_without : {task_table : TaskTable} {world : World} {old new : Clock} {was are : Sleeping} {before after : List (Option ℕ)} {id : ℕ} →
    AreKnown task_table world old was before → Updates old new id None → Moves was are id None → KeepsSights was are →
    WaitsFor before after id None → AreKnown task_table world new are after
known_without {task_table} {world} {old} {new} {was} {are} {before} {after} {id} k u m keeps w =
    record { sleep_slots = slots; sights = sights; waiting = waiting }
  where
    slots : (other : ℕ) → scope_in are other ≡ sleep_slot_of (due_of new other) (running_at task_table other)
    slots other =
        elim (cases_eq other id) [
          | inl e ↦ rw e (m.changed ∙ sym (ap (λ (d : Option ℕ). sleep_slot_of d (running_at task_table id)) u.changed))
          | inr differs ↦ (let same = u.others other differs in rw same (m.others other differs ∙ k.sleep_slots other))
        ]

    sights : (other key : ℕ) → scope_in are other ≡ Some key → Shows world.scopes key (sight_of are key)
    sights other key e =
        elim (cases_eq other id) [
          | inl same ↦ absurd (none-some key (sym m.changed ∙ (ap (scope_in are) (sym same) ∙ e)))
          | inr differs ↦ (let same = keeps other key e in rw same (k.sights other key (sym (m.others other differs) ∙ e)))
        ]

    waiting : (other : ℕ) → event_in after other ≡ wait_slot_of (event_at world) (due_of new other) (running_at task_table other)
    waiting other =
        elim (cases_eq other id) [
          | inl e ↦
              rw e (w.changed ∙ sym (ap (λ (d : Option ℕ). wait_slot_of (event_at world) d (running_at task_table id)) u.changed))
          | inr differs ↦ (let same = u.others other differs in rw same (w.others other differs ∙ k.waiting other))
        ]
