use Rattle.std.proofs.Common.{ℕ, List, []}
use Rattle.std.specs.Option.{option_map}
use Rattle.std.specs.Prelude.{None}
use Rattle.exceptions.specs.Held.{exc_of}
use Rattle.job_meaning.specs.Log.{Table}
use Rattle.turn_semantics.specs.Bound.{frames_length}
use Rattle.turn_semantics.specs.Midway.{Place}
use Rattle.task_machine.specs.Fitting.{Fits}
use Rattle.task_machine.specs.Frames.{frames_of}
use Rattle.task_machine.specs.Standing.{Stands}
use Rattle.task_machine.specs.States.{state_of}
use Rattle.task_machine.specs.Stops.{Numbers}
use Rattle.task_machine.specs.Waiters.{KeepsRest}
use Rattle.task_machine.proofs.TurnGoes.{WentOn}
use Rattle.task_machine.proofs.task.Task.go_to_stop.Given as goal

abbrev pub invariant-steps : goal.invariant-steps
invariant-steps l =
    Fits (state_of l.self l.world) None × KeepsRest l.initial.me l.initial.self l.self l.initial.world l.world
    × ((cancelled_from : Table) (numbers : Numbers) (ps : List Place) (count : ℕ) →
    Stands (state_of l.initial.self l.initial.world) cancelled_from numbers None ps →
    WentOn (state_of l.initial.self l.initial.world) (state_of l.self l.world) (option_map exc_of l.initial.exc) l.exc cancelled_from numbers ps count)

abbrev pub decreases-steps : goal.decreases-steps
decreases-steps l = frames_length (frames_of (λ id. []) l.self.frames.items)
