-- How long a task waits for an event.
use Rattle.std.specs.Prelude.{ℕ, ◌≤◌, ◌^◌, Bool, false, not, ◌&&◌, ◌==◌, Option, Some, None, max, nat_le, nat_lt}
use Rattle.cancel_scopes.specs.Sight.{Tick}
use Rattle.job_meaning.specs.Moments.{a_round_after}
use Rattle.job_meaning.specs.declared.clock.Clock.{Clock}
use Rattle.job_meaning.specs.Walk.{set_moment}
use Rattle.turn_semantics.specs.Wakes.{is_checkpoint}
use Rattle.task_machine.specs.declared.stop.TaskState.{TaskState}
use Rattle.task_machine.specs.declared.stop.TaskState.TheVariants.{Asleep, Waiting}
use Rattle.task_machine.specs.Labels.{Events}

-- the moment from which a scope is set, if it is an event that is
abbrev pub set_of : Option Tick → Tick
set_of None = None
set_of (Some set) = set

-- the moment in which a wait for an event ends that began in a moment; a wait for what is no event ends at once
abbrev pub set_by : Clock → Option Tick → ℕ → ℕ
set_by clock None since = since
set_by clock (Some set) since = set_moment clock set since

-- and in which the task goes on: a round later at the earliest
abbrev pub wait_ends : Clock → Option Tick → ℕ → ℕ
wait_ends clock event since = max (a_round_after clock since) (set_by clock event since)

-- whether a task is at a checkpoint: a sleep of no tick, or a wait for an event that is set by the next round
abbrev pub at_checkpoint : Clock → Events → TaskState → Bool
at_checkpoint clock events (Asleep paced ticks since) = not paced && (ticks == 0)
at_checkpoint clock events (Waiting event since) = is_checkpoint clock (set_by clock (events event) since) since
at_checkpoint clock events _ = false

-- whether a task waits for an event, not at a checkpoint, and the event is set by this moment: it goes on then, also if it sees a
-- cancellation
abbrev pub is_wait_over : Clock → Events → TaskState → ℕ → Bool
is_wait_over clock events (Waiting event since) t =
    let ends = set_by clock (events event) since in
    nat_lt (a_round_after clock since) ends && nat_le ends t
is_wait_over clock events _ t = false

-- a task that waits for an event began that in a moment which is at most 2 to the 62
abbrev pub WaitsWithin : TaskState → Type 0
WaitsWithin (Waiting event since) = since ≤ 2 ^ 62
WaitsWithin _ = Unit {0}
