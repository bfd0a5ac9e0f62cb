-- A task that stays until its moment: how often it has to be kept, and that it stays as well in another world.
use Rattle.std.proofs.Common.{◌≡◌, inl, inr, ℕ, suc, Bool, false, Option, Some, None, refl, ap, sym, ◌∙◌, subst, arith, if◌then◌else◌}
use Rattle.std.specs.Prelude.{◌⊎◌, true}
use Rattle.std.proofs.lemmas.Option.{none-some}
use Rattle.cancel_scopes.specs.Sight.{Tick, seen}
use Rattle.cancel_scopes.specs.Tree.{outer_of}
use Rattle.job_meaning.specs.Moments.{wakes_at}
use Rattle.job_meaning.specs.Walk.{last_grant}
use Rattle.job_meaning.specs.declared.clock.Clock.{Clock}
use Rattle.job_meaning.specs.declared.clock.Clock.TheVariants.{ByRounds as by_rounds}
use Rattle.nursery_book.specs.Nursery.{Nursery, is_settled}
use Rattle.nursery_book.specs.Book.{nursery_at, HasNursery}
use Rattle.nursery_book.specs.declared.book.NurseryBook.{NurseryBook}
use Rattle.task_machine.specs.declared.stop.TaskState.{TaskState}
use Rattle.task_machine.specs.declared.stop.TaskState.TheVariants.{ToBegin, Asked, Asleep, Waiting, Queued, GivingUp, Awaits, Over}
use Rattle.task_machine.specs.declared.task.Task.{Task}
use Rattle.task_machine.specs.declared.world.World.{World}
use Rattle.task_machine.specs.Events.{wait_ends}
use Rattle.task_machine.specs.Fitting.{waits_of}
use Rattle.task_machine.specs.Labels.{Events}
use Rattle.task_machine.specs.Tasks.{scope_of, lent_of}
use Rattle.task_machine.specs.Worlds.{event_at}
use Rattle.task_table.specs.declared.entry.Call.{Call}
use Rattle.job_runner.specs.Shelves.{left_in, moment_of, IsAsleepIn, IsQueuedIn, DozesIn, Stays, ContinuesBy, ContinuesLater, settled_times, task_state_times}
use Rattle.job_runner.proofs.Goes.{left_is, left_settled}

-- ---- how often a task is kept that has a moment

left_once : (clock : Clock) (o : Option Nursery) (due : ℕ) → left_in clock o ≡ Some due → settled_times o ≡ 1
left_once clock None due e = absurd (none-some due e)
left_once clock (Some n) due e = ap (λ (b : Bool). if b then 1 else 0) (left_is clock (Some n) due e).0

-- a task that has a moment in which it continues is kept once
pub stays_once : (clock : Clock) (events : Events) (book : NurseryBook) (task_state : TaskState) (due : ℕ) →
    moment_of clock events book task_state ≡ Some due → task_state_times book task_state ≡ 1
stays_once clock events book (ToBegin at) due e = refl
stays_once clock events book (Asked kernel purpose) due e = refl
stays_once clock events book (Asleep paced ticks since) due e = refl
stays_once clock events book (Waiting event since) due e = refl
stays_once clock events book (Queued object ask since body) due e = refl
stays_once clock events book (GivingUp since) due e = refl
stays_once clock events book (Awaits id since) due e = left_once clock (nursery_at book id) due e
stays_once clock events book Over due e = absurd (none-some due e)

-- ---- another world

-- the event for which a task waits, if it waits for one, is as it was
abbrev pub SameEvent : (old new : Events) → TaskState → Type 0
SameEvent old new (Waiting event since) = new event ≡ old event
SameEvent old new task_state = Unit {0}

-- it is where the events are the same
pub same_event : (old new : Events) (task_state : TaskState) → new ≡ old → SameEvent old new task_state
same_event old new (Waiting event since) e = ap (λ (z : Events). z event) e
same_event old new (ToBegin at) e = tt
same_event old new (Asked kernel purpose) e = tt
same_event old new (Asleep paced ticks since) e = tt
same_event old new (Queued object ask since body) e = tt
same_event old new (GivingUp since) e = tt
same_event old new (Awaits id since) e = tt
same_event old new Over e = tt

-- a moment is the same where a settled nursery is, and the event for which a task waits
moment_still : (old new : Clock) (events more : Events) (book other : NurseryBook) (task_state : TaskState) (due : ℕ) → new ≡ old →
    SameEvent events more task_state →
    ((id : ℕ) → waits_of task_state ≡ Some id → HasNursery book id (λ n. is_settled n ≡ true) → nursery_at other id ≡ nursery_at book id) →
    moment_of old events book task_state ≡ Some due → moment_of new more other task_state ≡ Some due
moment_still old new events more book other (ToBegin at) due same set kept e = e
moment_still old new events more book other (Asked kernel purpose) due same set kept e = e
moment_still old new events more book other (Asleep paced ticks since) due same set kept e =
    ap (λ (c : Clock). Some (wakes_at c ticks since)) same ∙ e
moment_still old new events more book other (Waiting event since) due same set kept e =
    ap (λ (c : Clock). Some (wait_ends c (more event) since)) same ∙ (ap (λ (o : Option Tick). Some (wait_ends old o since)) set ∙ e)
moment_still old new events more book other (Queued object ask since body) due same set kept e =
    ap (λ (c : Clock). Some (last_grant c since)) same ∙ e
moment_still old new events more book other (GivingUp since) due same set kept e = e
moment_still old new events more book other (Awaits id since) due same set kept e =
    ap (λ (c : Clock). left_in c (nursery_at other id)) same
    ∙ ap (left_in old) (kept id refl (left_settled old (nursery_at book id) due e)) ∙ e
moment_still old new events more book other Over due same set kept e = e

asleep_still : (old new : World) (scope : Option ℕ) (since : ℕ) → new.clock ≡ old.clock → new.tick ≡ old.tick →
    seen (outer_of new.scopes scope) new.tick ≡ seen (outer_of old.scopes scope) old.tick → IsAsleepIn old scope since →
    IsAsleepIn new scope since
asleep_still old new scope since clock tick same h = (let le = h.0 in omega (arith, le, tick), by_either h.1)
  where
    by_either : (seen (outer_of old.scopes scope) old.tick ≡ false) ⊎ ((old.clock ≡ by_rounds) × (since ≡ old.tick)) →
        (seen (outer_of new.scopes scope) new.tick ≡ false) ⊎ ((new.clock ≡ by_rounds) × (since ≡ new.tick))
    by_either (inl unseen) = inl (same ∙ unseen)
    by_either (inr now) = inr (clock ∙ now.0, now.1 ∙ sym tick)

queued_still : (old new : World) (scope : Option ℕ) (since : ℕ) → new.tick ≡ old.tick →
    seen (outer_of new.scopes scope) new.tick ≡ seen (outer_of old.scopes scope) old.tick → IsQueuedIn old scope since → IsQueuedIn new scope since
queued_still old new scope since tick same h = (let le = h.0 in omega (arith, le, tick), by_either h.1)
  where
    by_either : (seen (outer_of old.scopes scope) old.tick ≡ false) ⊎ (since ≡ old.tick) →
        (seen (outer_of new.scopes scope) new.tick ≡ false) ⊎ (since ≡ new.tick)
    by_either (inl unseen) = inl (same ∙ unseen)
    by_either (inr now) = inr (now ∙ sym tick)

pub dozes_still : (old new : World) (scope : Option ℕ) (task_state : TaskState) → new.clock ≡ old.clock → new.tick ≡ old.tick →
    seen (outer_of new.scopes scope) new.tick ≡ seen (outer_of old.scopes scope) old.tick → DozesIn old scope task_state →
    DozesIn new scope task_state
dozes_still old new scope (ToBegin at) clock tick same h = tt
dozes_still old new scope (Asked kernel purpose) clock tick same h = tt
dozes_still old new scope (Asleep paced ticks since) clock tick same h = asleep_still old new scope since clock tick same h
dozes_still old new scope (Waiting event since) clock tick same h = asleep_still old new scope since clock tick same h
dozes_still old new scope (Queued object ask since body) clock tick same h = queued_still old new scope since tick same h
dozes_still old new scope (GivingUp since) clock tick same h = tt
dozes_still old new scope (Awaits id since) clock tick same h = tt
dozes_still old new scope Over clock tick same h = tt

-- a task stays where it sees the same, its event is as it was, and a settled nursery that it waits for is the same
pub stays_still : (old new : World) (task : Task) (due : ℕ) → new.clock ≡ old.clock → new.tick ≡ old.tick →
    seen (outer_of new.scopes (scope_of task)) new.tick ≡ seen (outer_of old.scopes (scope_of task)) old.tick →
    SameEvent (event_at old) (event_at new) task.task_state →
    ((id : ℕ) → waits_of task.task_state ≡ Some id → HasNursery old.book id (λ n. is_settled n ≡ true) →
    nursery_at new.book id ≡ nursery_at old.book id) → Stays old due task → Stays new due task
stays_still old new task due clock tick same set kept h =
    record {
      due_is =
          moment_still old.clock new.clock (event_at old) (event_at new) old.book new.book task.task_state due clock set kept h.due_is;
      later = (let a = h.later in omega (arith, a, tick));
      dozes = dozes_still old new (scope_of task) task.task_state clock tick same h.dozes;
    }

-- and one that continues in the next moment, which is the same, does so by the same call
pub continues_still : (old new : World) (task : Task) (call : Call) → new.tick ≡ old.tick →
    ((due : ℕ) → Stays old due task → Stays new due task) → ContinuesLater old task call → ContinuesLater new task call
continues_still old new task call tick stays h =
    record { due = h.due; stays = stays h.due h.stays; by = by_next task.task_state call h.by }
  where
    by_next : (task_state : TaskState) (c : Call) → ContinuesBy (lent_of task) (suc old.tick) h.due task_state c →
        ContinuesBy (lent_of task) (suc new.tick) h.due task_state c
    by_next task_state c = subst (λ (t : ℕ). ContinuesBy (lent_of task) (suc t) h.due task_state c) (sym tick)
