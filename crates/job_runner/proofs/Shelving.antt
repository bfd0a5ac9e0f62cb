-- A task is added where tasks are kept: if each is kept once, each still is.
use Rattle.std.proofs.Common.{◌≡◌, ◌≢◌, ℕ, ◌+◌, inl, inr, Option, Some, None, List, [], ◌∷◌, ◌++◌, refl, ap, sym, ◌∙◌, arith}
use Rattle.std.specs.Prelude.{◌==◌, map}
use Rattle.std.specs.Option.{ForSome}
use Rattle.std.proofs.lemmas.Bool.Decides.{eqb_tells}
use Rattle.std.proofs.lemmas.List.{map-append}
use Rattle.std.proofs.lemmas.List.Elements.{All-push}
use Rattle.std.proofs.lemmas.Option.{none-some}
use Rattle.clock.specs.Clock.{Clock, due_of}
use Rattle.task_table.specs.declared.entry.Call.{Call}
use Rattle.task_table.specs.declared.entry.Entry.{Entry}
use Rattle.task_table.specs.Batch.{Batches}
use Rattle.task_table.specs.Entries.{Added}
use Rattle.job_runner.specs.declared.runner.Runner.{Runner}
use Rattle.task_table.specs.Rows.{times}
use Rattle.task_table.specs.TaskTable.{running_at}
use Rattle.task_table.proofs.Times.{one_if, times_push}
use Rattle.job_runner.specs.Shared.{later_calls}
use Rattle.job_runner.specs.Shelves.{IsCalled, IsCalledAdded, timer_times, times_shelved, running_times, IsElse, AreShelved}

-- ---- how often an id occurs

-- of entries, and of what was added
abbrev pub times_now : ℕ → List Entry → ℕ
times_now id es = times id (map (λ (e : Entry). e.task) es)

abbrev pub times_next : ℕ → List Added → ℕ
times_next id added = times id (map (λ (a : Added). a.0) added)

-- how often an id occurs in the next batch with one more added
pub next_more : (id : ℕ) (added : List Added) (key : ℕ) (call : Call) →
    times_next id (added ++ (key, call) ∷ []) ≡ times_next id added + one_if (key == id)
next_more id added key call = ap (times id) (map-append (λ (a : Added). a.0) added ((key, call) ∷ []))
    ∙ times_push id (map (λ (a : Added). a.0) added) key

-- and where tasks are kept, with that one more
pub shelved_more : (old new : Batches) (later : List Added) (clock : Clock) (id : ℕ) (call : Call) → new.current ≡ old.current →
    new.next ≡ old.next ++ (id, call) ∷ [] → (other : ℕ) →
    times_shelved new later clock other ≡ times_shelved old later clock other + one_if (id == other)
shelved_more old new later clock id call current next other =
    let a : times_now other new.current ≡ times_now other old.current = ap (times_now other) current in
    let b : times_next other new.next ≡ times_next other old.next + one_if (id == other) =
    ap (times_next other) next ∙ next_more other old.next id call in
    omega (arith, a, b)

-- ---- the task that was away is there again

-- if nothing but its own count grew, each is kept as often as it has to be
pub once_again : (id : ℕ) (was now due : ℕ → ℕ) → ((other : ℕ) → IsElse (Some id) other → was other ≡ due other) → was id ≡ 0 →
    ((other : ℕ) → now other ≡ was other + one_if (id == other)) → due id ≡ 1 → (other : ℕ) → IsElse None other → now other ≡ due other
once_again id was now due once away more one other h =
    elim (eqb_tells id other) [
      | inl same ↦
          let a : now other ≡ was other + one_if (id == other) = more other in
          let here : one_if (id == other) ≡ 1 = ap one_if same.0 in
          let b : was other ≡ 0 = rw same.1 at away in
          let d : due other ≡ 1 = rw same.1 at one in
          omega (arith, a, here, b, d)
      | inr else_ ↦
          let a : now other ≡ was other + one_if (id == other) = more other in
          let not_here : one_if (id == other) ≡ 0 = ap one_if else_.0 in
          let b : was other ≡ due other = once other (λ e. else_.1 (sym e)) in
          omega (arith, a, not_here, b)
    ]

-- one that waits is kept nowhere, as it has to be
pub once_waiting : (id : ℕ) (was due : ℕ → ℕ) → ((other : ℕ) → IsElse (Some id) other → was other ≡ due other) → was id ≡ 0 → due id ≡ 0 →
    (other : ℕ) → IsElse None other → was other ≡ due other
once_waiting id was due once away none other h =
    elim (eqb_tells id other) [
      | inl same ↦ rw (← same.1) (away ∙ sym none)
      | inr else_ ↦ once other (λ e. else_.1 (sym e))
    ]

-- where no task is away, whatever is asked of one that is holds
pub none_away : (P : ℕ → Type 0) → ForSome None P
none_away P id e = absurd (none-some id e)

-- ---- the task that is away

-- a task that is kept nowhere has no timer
pub no_timer : (o : Option ℕ) → timer_times o ≡ 0 → o ≡ None
no_timer None e = refl
no_timer (Some due) e = absurd (let f : 1 ≡ 0 = e in omega (arith, f))

-- a task that has a timer is another task
pub timer_else : {r : Runner} {id : ℕ} → AreShelved (Some id) r → (key due : ℕ) → due_of r.clock key ≡ Some due → key ≢ id
timer_else {r} {id} s key due f same =
    let none : times_shelved r.batch (later_calls r) r.clock id ≡ 0 = s.away id refl in
    none-some due (sym (no_timer (due_of r.clock id) (omega (arith, none))) ∙ (ap (due_of r.clock) (sym same) ∙ f))

-- ---- the shelves

-- it is in the next batch
pub shelved_next : {r : Runner} {id : ℕ} (b : Batches) (call : Call) → AreShelved (Some id) r → b.current ≡ r.batch.current →
    b.next ≡ r.batch.next ++ (id, call) ∷ [] → IsCalled r.task_table r.world id call →
    running_times r.world.book (running_at r.task_table id) ≡ 1 → AreShelved None (record r { batch = b })
shelved_next {r} {id} b call s current next called one =
    record {
      consistent = s.consistent;
      stay = s.stay;
      known = s.known;
      current = rw current s.current;
      next = rw next (All-push (IsCalledAdded r.task_table r.world) r.batch.next (id, call) s.next called);
      none_later = s.none_later;
      later = s.later;
      once =
          once_again id (times_shelved r.batch (later_calls r) r.clock) (times_shelved b (later_calls r) r.clock)
          (λ (x : ℕ). running_times r.world.book (running_at r.task_table x)) s.once (s.away id refl)
          (shelved_more r.batch b (later_calls r) r.clock id call current next) one;
      away = none_away (λ (x : ℕ). times_shelved b (later_calls r) r.clock x ≡ 0);
    }

-- it waits
pub shelved_waiting : {r : Runner} {id : ℕ} → AreShelved (Some id) r → running_times r.world.book (running_at r.task_table id) ≡ 0 →
    AreShelved None r
shelved_waiting {r} {id} s none =
    record {
      consistent = s.consistent;
      stay = s.stay;
      known = s.known;
      current = s.current;
      next = s.next;
      none_later = s.none_later;
      later = s.later;
      once = once_waiting id (times_shelved r.batch (later_calls r) r.clock) (λ (x : ℕ). running_times r.world.book (running_at r.task_table x)) s.once
          (s.away id refl) none;
      away = none_away (λ (x : ℕ). times_shelved r.batch (later_calls r) r.clock x ≡ 0);
    }
