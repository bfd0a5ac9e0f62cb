use Rattle.std.proofs.Common.{ℕ, Option, Some, None, List, refl, ap, sym, subst}
use Rattle.exceptions.specs.Exceptions.{raised}
use Rattle.job_meaning.specs.Moments.{tick_of}
use Rattle.job_meaning.specs.Rest as rest
use Rattle.nursery_book.specs.declared.book.NurseryBook.{NurseryBook}
use Rattle.turn_semantics.specs.Midway.{Place}
use Rattle.turn_semantics.specs.Steps.{onward}
use Rattle.task_machine.specs.Stops.{Numbers, MovesAs}
use Rattle.task_machine.specs.Tasks.{lent_of}
use Rattle.exceptions.specs.declared.exc.Exc.TheVariants.{Cancelled}
use Rattle.turn_semantics.specs.Wakes.{settles}
use Rattle.task_machine.specs.declared.stop.Moved.TheVariants.{On}
use Rattle.task_machine.specs.declared.stop.TaskState.{TaskState}
use Rattle.task_machine.specs.declared.task.Task.{Task}
use Rattle.task_machine.specs.Fitting.{Fits, waits_of}
use Rattle.task_machine.specs.Standing.{Wakens}
use Rattle.task_machine.specs.States.{state_of}
use Rattle.task_machine.specs.Waking.{due_wake, settled_exc}
use Rattle.task_machine.proofs.Wakens.{wakes_begin, wakes_due, wakes_noted, wakes_deadlocked, wakes_gives_up}
use Rattle.task_machine.proofs.task.Task.come_due.Goals as goal

pub returns-in-ToBegin-clause-wakes : goal.returns-in-ToBegin-clause-wakes
returns-in-ToBegin-clause-wakes c =
    let s = state_of c.args.self.now c.args.world.now in
    subst (λ (x : TaskState). Wakens s s (On None) (due_wake c.args.world.now.book x)) (sym c.in-ToBegin.is) (wakes_begin s)

pub returns-in-Asleep-clause-wakes : goal.returns-in-Asleep-clause-wakes
returns-in-Asleep-clause-wakes c =
    let s = state_of c.args.self.now c.args.world.now in
    subst (λ (x : TaskState). Wakens s s (On None) (due_wake c.args.world.now.book x)) (sym c.in-Asleep.is)
    (wakes_due s _ _ _ c.in-Asleep.is)

pub returns-in_ok-note_wait-in-Waiting-clause-wakes : goal.returns-in_ok-note_wait-in-Waiting-clause-wakes
returns-in_ok-note_wait-in-Waiting-clause-wakes c =
    let s = state_of c.args.self.now c.args.world.now in
    let u = state_of c.note_wait.new.self c.args.world.now in
    let e = c.in_ok-note_wait-in-Waiting.ensures in
    subst (λ (x : TaskState). Wakens s u (On None) (due_wake c.args.world.now.book x)) (sym c.in-Waiting.is)
    (wakes_noted s u c.in-Waiting.event _ c.in-Waiting.is (ap (λ (t : Task). state_of t c.args.world.now) e.stays) e.noted)

pub returns-in_ok-note_wait-in-Waiting-clause-fits : goal.returns-in_ok-note_wait-in-Waiting-clause-fits
returns-in_ok-note_wait-in-Waiting-clause-fits c =
    let s = state_of c.args.self.now c.args.world.now in
    subst (λ (t : Task). Fits (state_of t c.args.world.now) None) (sym c.in_ok-note_wait-in-Waiting.ensures.stays)
    (subst (λ (x : TaskState). Fits s (waits_of x)) c.in-Waiting.is c.requires.fits)

pub returns-in-GivingUp-clause-wakes : goal.returns-in-GivingUp-clause-wakes
returns-in-GivingUp-clause-wakes c =
    let s = state_of c.args.self.now c.args.world.now in
    subst (λ (x : TaskState). Wakens s s (On (Some Cancelled)) (due_wake c.args.world.now.book x)) (sym c.in-GivingUp.is)
    (wakes_gives_up s (Some Cancelled) refl)

pub returns-in_ok-moved-in-Awaits-clause-wakes : goal.returns-in_ok-moved-in-Awaits-clause-wakes
returns-in_ok-moved-in-Awaits-clause-wakes c =
    let s = state_of c.args.self.now c.args.world.now in
    let u = state_of c.settle.new.self c.settle.new.world in
    let book = c.args.world.now.book in
    subst (λ (x : TaskState). Wakens s u c.in_ok-moved-in-Awaits.moved (due_wake book x)) (sym c.in-Awaits.is)
    (subst (λ (x : TaskState). Wakens s u c.in_ok-moved-in-Awaits.moved (settles (settled_exc book x))) c.in-Awaits.is
    c.in_ok-moved-in-Awaits.ensures.wakes)

pub returns-in_ok-moved-in-Queued-clause-wakes : goal.returns-in_ok-moved-in-Queued-clause-wakes
returns-in_ok-moved-in-Queued-clause-wakes c =
    let self = c.args.self.now in
    let world = c.args.world.now in
    let s = state_of self world in
    let moved = c.in_ok-moved-in-Queued.moved in
    subst (λ (x : TaskState). Wakens s s moved (due_wake world.book x)) (sym c.in-Queued.is)
    (wakes_deadlocked s _ _ _ _ c.in-Queued.is moved
    (subst (λ (name : List ℕ). (numbers : Numbers) (book : NurseryBook) (fs : List rest.Frame) (ps : List Place) →
    MovesAs world.clock numbers book (lent_of self) moved self.task_state
    (onward fs ps (Some (raised name self.label (tick_of world.clock world.tick))))) c.deadlock.ensures
    c.in_ok-moved-in-Queued.ensures.raises))

pub returns-in_ok-moved-in-Queued-clause-fits : goal.returns-in_ok-moved-in-Queued-clause-fits
returns-in_ok-moved-in-Queued-clause-fits c =
    let s = state_of c.args.self.now c.args.world.now in
    subst (λ (waits : Option ℕ). Fits s waits) (sym c.in_ok-moved-in-Queued.ensures.on)
    (subst (λ (x : TaskState). Fits s (waits_of x)) c.in-Queued.is c.requires.fits)
