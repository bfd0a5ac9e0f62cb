use Rattle.std.proofs.Common.{refl, ap, suc, subst}
use Rattle.std.specs.Option.{option_map}
use Rattle.exceptions.specs.Held.{exc_of}
use Rattle.task_machine.specs.declared.stop.Moved.{Moved}
use Rattle.task_machine.specs.declared.task.Task.{Task}
use Rattle.task_machine.specs.declared.world.World.{World}
use Rattle.task_machine.specs.Fitting.{Fits}
use Rattle.task_machine.specs.Standing.{waits_by}
use Rattle.task_machine.specs.States.{state_of}
use Rattle.task_machine.proofs.TurnGoes.{WentFurther, goes_further, goes_on, goes_nothing}
use Rattle.task_machine.proofs.Waiters.{keeps_task, keeps_then}
use Rattle.task_machine.proofs.task.Task.go_to_stop.Goals as goal

pub steps-init : goal.steps-init
steps-init c = (
  c.requires.fits,
  keeps_task c.args.me c.args.self.now c.args.self.now c.args.world.now refl c.requires.task_state,
  λ cancelled_from numbers ps count stands.
      goes_nothing (state_of c.args.self.now c.args.world.now) c.args.exc cancelled_from numbers ps count stands,
)

pub steps-preserved : goal.steps-preserved
steps-preserved c =
    let s = state_of c.args.self.now c.args.world.now in
    let m = state_of c.steps.self c.steps.world in
    let u = state_of c.advance.new.self c.advance.new.world in
    let first = option_map exc_of c.args.exc in
    let i = c.steps.invariant in
    let e = c.in_ok-next.ensures in (
      subst (λ (x : Moved). Fits u (waits_by x c.advance.new.self.task_state)) c.in-On.is e.fits,
      keeps_then c.args.me c.args.self.now c.steps.self c.advance.new.self c.args.world.now c.steps.world c.advance.new.world i.1 e.keeps,
      λ cancelled_from numbers ps count stands.
          let g = i.2 cancelled_from numbers ps count stands in
          goes_on s u first c.in-On.next cancelled_from numbers ps count (suc g.steps)
          (subst (λ (x : Moved). WentFurther s u first x cancelled_from numbers ps count (suc g.steps)) c.in-On.is
          (goes_further s m u first c.steps.exc c.in_ok-next.field-0 cancelled_from numbers ps count
          (ap (λ (t : Task). t.part) i.1.task) (ap (λ (t : Task). t.label) i.1.task) (ap (λ (w : World). w.clock) i.1.world)
          (ap (λ (w : World). w.tick) i.1.world) g e.step)),
    )

pub returns-in-Stops-clause-steps : goal.returns-in-Stops-clause-steps
returns-in-Stops-clause-steps c =
    let s = state_of c.args.self.now c.args.world.now in
    let m = state_of c.steps.self c.steps.world in
    let u = state_of c.advance.new.self c.advance.new.world in
    let first = option_map exc_of c.args.exc in
    let i = c.steps.invariant in
    λ cancelled_from numbers ps count stands.
    let g = i.2 cancelled_from numbers ps count stands in
    let more =
    subst (λ (x : Moved). WentFurther s u first x cancelled_from numbers ps count (suc g.steps)) c.in-Stops.is
    (goes_further s m u first c.steps.exc c.in_ok-next.field-0 cancelled_from numbers ps count
    (ap (λ (t : Task). t.part) i.1.task) (ap (λ (t : Task). t.label) i.1.task) (ap (λ (w : World). w.clock) i.1.world)
    (ap (λ (w : World). w.tick) i.1.world) g
    c.in_ok-next.ensures.step) in
    record { steps = suc g.steps; took = more.took }

pub returns-in-Stops-clause-keeps : goal.returns-in-Stops-clause-keeps
returns-in-Stops-clause-keeps c =
    keeps_then c.args.me c.args.self.now c.steps.self c.advance.new.self c.args.world.now c.steps.world c.advance.new.world
    c.steps.invariant.1 c.in_ok-next.ensures.keeps
