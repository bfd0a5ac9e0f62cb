-- How the code stops, compared to a move of the definitions.
use Rattle.std.specs.Prelude.{◌≡◌, ℕ, suc, List, Option, Some, None}
use Rattle.std.specs.Option.{option_map}
use Rattle.exceptions.specs.Held.{exc_of}
use Rattle.input_lines.specs.Part.{buffer_of, range_of}
use Rattle.input_lines.specs.declared.kernel.Kernel.{Kernel}
use Rattle.input_lines.specs.declared.kernel.Kernel.TheVariants.{Find, Head, Longest, Need, Count}
use Rattle.nursery_book.specs.declared.book.NurseryBook.{NurseryBook}
use Rattle.nursery_book.specs.Book.{HasNursery}
use Rattle.job_meaning.specs.Moments.{wakes_at}
use Rattle.job_meaning.specs.declared.clock.Clock.{Clock}
use Rattle.job_meaning.specs.Asking as ask
use Rattle.job_meaning.specs.Rest.{Stopped, to_begin, asking, asleep, waiting_for, queued, giving_up, awaiting, at_end}
use Rattle.exceptions.specs.Exceptions.{Label}
use Rattle.job_meaning.specs.Rest.{Event}
use Rattle.turn_semantics.specs.Midway.{Move, own_after}
use Rattle.task_machine.specs.Frames.{Lent}
use Rattle.task_machine.specs.declared.stop.Stop.{Stop}
use Rattle.task_machine.specs.declared.stop.Stop.TheVariants.{Ask, Sleep, WaitFor, Queue, GiveUp, Wait, Ended}
use Rattle.task_machine.specs.declared.stop.TaskState.{TaskState}
use Rattle.task_machine.specs.declared.stop.TaskState.TheVariants.{ToBegin, Asked, Asleep, Waiting, Queued, GivingUp, Awaits, Over}
use Rattle.task_machine.specs.declared.stop.Purpose.{Purpose}
use Rattle.task_machine.specs.declared.stop.Purpose.TheVariants.{Shows, Needs, Paces}
use Rattle.task_machine.specs.declared.stop.Moved.{Moved}
use Rattle.task_machine.specs.declared.stop.Moved.TheVariants.{On, Stops}

-- the kernel that the code asks, and for what
abbrev pub kernel_in : Kernel → ask.Kernel
kernel_in (Find needle) = ask.find needle.now
kernel_in (Head count) = ask.head count
kernel_in Longest = ask.longest
kernel_in (Need needle) = ask.need needle.now
kernel_in Count = ask.count

abbrev pub purpose_in : Purpose → ask.Purpose
purpose_in Shows = ask.shows
purpose_in (Needs name) = ask.needs name
purpose_in (Paces k) = ask.paces k

-- the numbers of the children that a task started in each nursery
abbrev pub Numbers : Type 0
Numbers = ℕ → List ℕ

-- the blocked state of a task corresponds to this stop of the definitions
abbrev pub IsTaskState : Numbers → NurseryBook → TaskState → Stopped → Type 0
IsTaskState numbers book (ToBegin at) to_begin = Unit {0}
IsTaskState numbers book (Asked kernel purpose) (asking k p) = (kernel_in kernel ≡ k) × (purpose_in purpose ≡ p)
IsTaskState numbers book (Asleep paced ticks since) (asleep p n u) = (paced ≡ p) × (ticks ≡ n) × (since ≡ u)
IsTaskState numbers book (Waiting event since) (waiting_for name u) = since ≡ u
IsTaskState numbers book (Queued object ask since body) (queued name a u steps) = (ask ≡ a) × (since ≡ u) × (body.now ≡ steps)
IsTaskState numbers book (GivingUp since) (giving_up u) = since ≡ u
IsTaskState numbers book (Awaits nursery since) (awaiting children u exc) =
    (numbers nursery ≡ children) × (since ≡ u) × HasNursery book nursery (λ n. n.body ≡ Some exc)
IsTaskState numbers book Over (at_end u e) = Unit {0}
IsTaskState numbers book _ _ = ⊥

-- the stop that is returned to the caller, for a task on this part
abbrev pub IsReturned : Clock → Lent → Stop → TaskState → Stopped → Type 0
IsReturned clock lent (Ask request) (Asked kernel purpose) stopped =
    (request.kernel ≡ kernel) × (buffer_of request.part ≡ lent.input) × (range_of request.part ≡ lent.range)
IsReturned clock lent (Sleep due) (Asleep paced ticks since) stopped = due ≡ wakes_at clock ticks since
IsReturned clock lent (WaitFor event) (Waiting key since) stopped = event ≡ key
IsReturned clock lent (Queue request) (Queued key ask since body) stopped =
    (request.object ≡ key) × (request.ask ≡ ask) × (buffer_of request.part ≡ lent.input) × (range_of request.part ≡ lent.range)
IsReturned clock lent (GiveUp due) (GivingUp since) stopped = due ≡ suc since
IsReturned clock lent (Wait id) (Awaits nursery since) stopped = id ≡ nursery
IsReturned clock lent (Ended exc) Over (at_end u e) = option_map exc_of exc ≡ e
IsReturned clock lent _ _ _ = ⊥

abbrev pub StopsAs : Clock → Numbers → NurseryBook → Lent → Stop → TaskState → Option Stopped → Type 0
StopsAs clock numbers book lent stop task_state None = ⊥
StopsAs clock numbers book lent stop task_state (Some stopped) =
    IsTaskState numbers book task_state stopped × IsReturned clock lent stop task_state stopped

-- the code continues as a move does, with the same exception, or stops where it stops
abbrev pub MovesAs : Clock → Numbers → NurseryBook → Lent → Moved → TaskState → Move → Type 0
MovesAs clock numbers book lent (On exc) task_state o = (option_map exc_of exc ≡ o.exc) × (o.stopped ≡ None)
MovesAs clock numbers book lent (Stops stop) task_state o =
    (o.exc ≡ None) × StopsAs clock numbers book lent stop task_state o.stopped

-- What the task has cancelled in this moment after a move: it matters while the task goes on, and while it asks a kernel.
abbrev pub OwnAfter : Clock → List Label → List Label → List Event → Option Stopped → Type 0
OwnAfter clock before after made None = after ≡ own_after clock before made
OwnAfter clock before after made (Some (asking kernel purpose)) = after ≡ own_after clock before made
OwnAfter clock before after made (Some stopped) = Unit {0}
