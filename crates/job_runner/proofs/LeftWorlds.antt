-- A world from which the started tasks, the events that were set and what was done to limiters and channels were taken.
-- are kept as before.
use Rattle.std.proofs.Common.{◌≡◌, ℕ, Option, refl}
use Rattle.task_table.specs.declared.entry.Call.{Call}
use Rattle.task_machine.specs.declared.stop.TaskState.{TaskState}
use Rattle.task_machine.specs.declared.stop.TaskState.TheVariants.{ToBegin, Asked, Asleep, Waiting, Queued, GivingUp, Awaits, Over}
use Rattle.task_machine.specs.declared.stop.Stop.{Stop}
use Rattle.task_machine.specs.declared.stop.Stop.TheVariants.{Ask, Sleep, WaitFor, Queue, GiveUp, Wait, Ended}
use Rattle.task_machine.specs.declared.stop.Wake.{Wake}
use Rattle.task_machine.specs.declared.stop.Wake.TheVariants as wakes
use Rattle.task_machine.specs.declared.task.Task.{Task}
use Rattle.task_machine.specs.declared.world.World.{World}
use Rattle.task_machine.specs.Frames.{Lent}
use Rattle.task_machine.specs.Labels.{Events}
use Rattle.task_machine.specs.Tasks.{scope_of}
use Rattle.task_machine.specs.Worlds.{label_at}
use Rattle.objects.specs.Whats.{What}
use Rattle.run_refinement.specs.Sharing.{asked_by}
use Rattle.run_refinement.specs.Ready.{IsTimely, MayGo}
use Rattle.run_refinement.specs.Step.{StopSays}
use Rattle.job_runner.specs.Shelves.{ContinuesBy}
use Rattle.job_runner.specs.Steps.{asked_in}
use Rattle.job_runner.proofs.Staying.{SameEvent}

-- another world has these
abbrev pub left_of : World → World → World
left_of w x = record w { started = x.started; set = x.set; acts = x.acts }

pub timely_on : (w : World) (x : World) (what : Option What) (scope : Option ℕ) (task_state : TaskState) (wake : Wake) →
    IsTimely w what scope task_state wake → IsTimely (left_of w x) what scope task_state wake
timely_on w x what scope (ToBegin at) wake h = h
timely_on w x what scope (Asleep paced ticks since) wakes.Due h = h
timely_on w x what scope (Asleep paced ticks since) wakes.Seen h = h
timely_on w x what scope (Waiting event since) wakes.Due h = h
timely_on w x what scope (Waiting event since) wakes.Seen h = h
timely_on w x what scope (Queued object ask since body) (wakes.Granted grant) h = h
timely_on w x what scope (Queued object ask since body) wakes.Seen h = h
timely_on w x what scope (Queued object ask since body) wakes.Due h = h
timely_on w x what scope (GivingUp since) wake h = h
timely_on w x what scope (Awaits id since) wake h = h
timely_on w x what scope _ _ h = h

pub goes_on : (w : World) (x : World) (what : Option What) (task : Task) (wake : Wake) → MayGo w what task wake → MayGo (left_of w x) what task wake
goes_on w x what task wake h =
    record { fits = h.fits; timely = timely_on w x what (scope_of task) task.task_state wake h.timely }

pub says_on : (w : World) (x : World) (task : Task) (stop : Stop) → StopSays w task stop → StopSays (left_of w x) task stop
says_on w x task (Ask request) h = h
says_on w x task (Sleep due) h =
    record {
      paced = h.paced;
      ticks = h.ticks;
      task_state = h.task_state;
      short = h.short;
      due_is = h.due_is;
      later = h.later;
      unseen = h.unseen;
    }
says_on w x task (WaitFor event) h = record { task_state = h.task_state; set = h.set; is_event = h.is_event }
says_on w x task (Queue request) h =
    record {
      body = h.body;
      task_state = h.task_state;
      label = h.label;
      labelled = h.labelled;
      buffer = h.buffer;
      range = h.range;
    }
says_on w x task (GiveUp due) h = record { since = h.since; since_is = h.since_is; task_state = h.task_state; due_is = h.due_is }
says_on w x task (Wait id) h = record { task_state = h.task_state; last = h.last }
says_on w x task (Ended exc) h = tt

-- what a task asks that stopped so
pub asked_same : (w : World) (s : ℕ) (task : Task) (stop : Stop) → asked_in w s stop ≡ asked_by s task (label_at w) stop
asked_same w s task (Ask request) = refl
asked_same w s task (Sleep due) = refl
asked_same w s task (WaitFor event) = refl
asked_same w s task (Queue request) = refl
asked_same w s task (GiveUp due) = refl
asked_same w s task (Wait id) = refl
asked_same w s task (Ended exc) = refl

pub asked_on : (w : World) (x : World) (s : ℕ) (stop : Stop) → asked_in (left_of w x) s stop ≡ asked_in w s stop
asked_on w x s (Ask request) = refl
asked_on w x s (Sleep due) = refl
asked_on w x s (WaitFor event) = refl
asked_on w x s (Queue request) = refl
asked_on w x s (GiveUp due) = refl
asked_on w x s (Wait id) = refl
asked_on w x s (Ended exc) = refl

-- a task that continues in the next moment waits for no event
pub continues_event : (old new : Events) (lent : Lent) (next due : ℕ) (task_state : TaskState) (call : Call) →
    ContinuesBy lent next due task_state call → SameEvent old new task_state
continues_event old new lent next due (Waiting event since) call h = absurd h
continues_event old new lent next due (ToBegin at) call h = tt
continues_event old new lent next due (Asked kernel purpose) call h = tt
continues_event old new lent next due (Asleep paced ticks since) call h = tt
continues_event old new lent next due (Queued object ask since body) call h = tt
continues_event old new lent next due (GivingUp since) call h = tt
continues_event old new lent next due (Awaits id since) call h = tt
continues_event old new lent next due Over call h = tt
