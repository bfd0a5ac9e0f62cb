-- When the tasks of the program continue, as the code sees it: by their blocked states and the world, without the definitions.
use Rattle.std.specs.Prelude.{◌≡◌, ◌⊎◌, ℕ, suc, ◌<◌, ◌≤◌, true, false, Option, Some, None}
use Rattle.cancel_scopes.specs.Sight.{sight, seen}
use Rattle.cancel_scopes.specs.Tree.{outer_of}
use Rattle.nursery_book.specs.Nursery.{is_settled}
use Rattle.nursery_book.specs.Book.{HasNursery}
use Rattle.nursery_book.specs.declared.book.NurseryBook.{NurseryBook}
use Rattle.objects.specs.Held.{what_in}
use Rattle.objects.specs.Whats.{What}
use Rattle.job_meaning.specs.Moments.{a_round_after, wakes_at}
use Rattle.job_meaning.specs.Walk.{last_grant}
use Rattle.job_meaning.specs.Before.{upto}
use Rattle.interleavings.specs.Woken.{SeesNow, IsOver}
use Rattle.task_machine.specs.declared.stop.TaskState.{TaskState}
use Rattle.task_machine.specs.declared.stop.TaskState.TheVariants.{ToBegin, Asked, Asleep, Waiting, Queued, GivingUp, Awaits, Over}
use Rattle.task_machine.specs.declared.stop.Wake.{Wake}
use Rattle.task_machine.specs.declared.stop.Wake.TheVariants.{Due, Seen, Granted}
use Rattle.task_machine.specs.declared.task.Home.{Home}
use Rattle.task_machine.specs.declared.task.Task.{Task}
use Rattle.task_machine.specs.declared.world.World.{World}
use Rattle.task_machine.specs.Events.{set_by, wait_ends}
use Rattle.task_machine.specs.Fitting.{blocks_of, waits_of}
use Rattle.task_machine.specs.Standing.{HasNurseryOf}
use Rattle.task_machine.specs.Tasks.{scope_of, lent_of}
use Rattle.task_machine.specs.Waking.{WakesFrom}
use Rattle.task_machine.specs.Worlds.{event_at}
use Rattle.run_refinement.specs.RunState.{RunState}

-- A task continues in its moment: it begins in the moment that it was started for; a sleeper in that scope when it is due and sees
-- nothing, or when it sees a cancellation, after the moment in which it fell asleep; one that waits for an event when that is set, or
-- when it sees a cancellation before; one that asked a limiter or channel when that grants it something, or else when it sees a
-- cancellation, or has waited as long as `forever`; one that gives up a round later; and one that waits after the last member of its
-- nursery has ended, a round later where there are rounds.
abbrev pub IsTimely : World → Option What → Option ℕ → TaskState → Wake → Type 0
IsTimely world what scope (ToBegin at) wake = at ≡ world.tick
IsTimely world what scope (Asleep paced ticks since) Due =
    (wakes_at world.clock ticks since ≡ world.tick) × (seen (outer_of world.scopes scope) world.tick ≡ false)
IsTimely world what scope (Asleep paced ticks since) Seen = (since < world.tick) × (seen (outer_of world.scopes scope) world.tick ≡ true)
IsTimely world what scope (Waiting event since) Due =
    IsOver world.clock (set_by world.clock (event_at world event) since) since world.tick (seen (outer_of world.scopes scope) world.tick)
IsTimely world what scope (Waiting event since) Seen =
    SeesNow world.clock (set_by world.clock (event_at world event) since) since world.tick
    × (seen (outer_of world.scopes scope) world.tick ≡ true)
IsTimely world what scope (Queued object ask since body) (Granted grant) = what ≡ Some (what_in grant)
IsTimely world what scope (Queued object ask since body) Seen =
    (what ≡ None) × (since < world.tick) × (seen (outer_of world.scopes scope) world.tick ≡ true)
IsTimely world what scope (Queued object ask since body) Due =
    (what ≡ None) × (since < world.tick) × (last_grant world.clock since ≡ world.tick) × (seen (outer_of world.scopes scope) world.tick ≡ false)
IsTimely world what scope (GivingUp since) wake = suc since ≡ world.tick
IsTimely world what scope (Awaits id since) wake = HasNursery world.book id (λ n. a_round_after world.clock n.last ≤ world.tick)
IsTimely world what scope task_state wake = Unit {0}

-- a task may continue so, in the world's moment, in which this is granted to it, or nothing
pub record MayGo (world : World) (what : Option What) (task : Task) (wake : Wake) : Type 0 where
  pub fits : WakesFrom task.task_state (lent_of task) world.book wake
  pub timely : IsTimely world what (scope_of task) task.task_state wake

-- A task in that scope does not continue before moment u: it begins then or later; a sleeper is due then or later, and sees no
-- cancellation before, or has not slept for a round by then; so does one whose event is set then or later, and one in a queue to which
-- nothing was granted for an earlier moment; one that gives up does so then or later; and one that waits does so for a nursery of which a
-- member runs, or that is left then or later.
abbrev pub StaysTo : World → (through : ℕ) → Option What → ℕ → Option ℕ → TaskState → Type 0
StaysTo world through what u scope (ToBegin at) = u ≤ at
StaysTo world through what u scope (Asked kernel purpose) = ⊥
StaysTo world through what u scope (Asleep paced ticks since) =
    (u ≤ wakes_at world.clock ticks since)
    × ((upto u (sight (outer_of world.scopes scope)) ≡ u) ⊎ (u ≤ a_round_after world.clock since))
StaysTo world through what u scope (Waiting event since) =
    (u ≤ wait_ends world.clock (event_at world event) since)
    × ((upto u (sight (outer_of world.scopes scope)) ≡ u) ⊎ (u ≤ a_round_after world.clock since))
StaysTo world through what u scope (Queued object ask since body) =
    ((what ≡ None) ⊎ (u ≤ through)) × (u ≤ last_grant world.clock since)
    × ((upto u (sight (outer_of world.scopes scope)) ≡ u) ⊎ (u ≤ suc since))
StaysTo world through what u scope (GivingUp since) = u ≤ suc since
StaysTo world through what u scope (Awaits id since) =
    HasNursery world.book id (λ n. (is_settled n ≡ false) ⊎ (u ≤ a_round_after world.clock n.last))
StaysTo world through what u scope Over = ⊥

-- no task does
abbrev pub AllStay : RunState → ℕ → Type 0
AllStay state u = (s : ℕ) (task : Task) → state.task s ≡ Some task →
    StaysTo state.world state.through (state.granted s) u (scope_of task) task.task_state

-- a task has a moment in which it continues, unless it waits for a member of a nursery that runs
abbrev pub HasMoment : NurseryBook → TaskState → Type 0
HasMoment book (ToBegin at) = Unit {0}
HasMoment book (Asked kernel purpose) = ⊥
HasMoment book (Asleep paced ticks since) = Unit {0}
HasMoment book (Waiting event since) = Unit {0}
HasMoment book (Queued object ask since body) = Unit {0}
HasMoment book (GivingUp since) = Unit {0}
HasMoment book (Awaits id since) = HasNursery book id (λ n. is_settled n ≡ true)
HasMoment book Over = ⊥

-- some task of the program has
pub record HasNext (state : RunState) : Type 0 where
  pub serial : ℕ
  pub task : Task
  pub lives : state.task serial ≡ Some task
  pub has : HasMoment state.world.book task.task_state

-- the task with this serial number has not ended, and the nursery is one of its own
pub record Keeps (state : RunState) (s id : ℕ) : Type 0 where
  pub task : Task
  pub lives : state.task s ≡ Some task
  pub owned : HasNurseryOf id (blocks_of task.frames.items) (waits_of task.task_state)

-- the home of each task is a nursery of the task with this serial number
abbrev pub AreHomesOf : RunState → (ℕ → ℕ) → Type 0
AreHomesOf state parent = (s : ℕ) (task : Task) (home : Home) → state.task s ≡ Some task → task.home ≡ Some home →
    Keeps state (parent s) home.nursery
