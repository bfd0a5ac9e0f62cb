-- The children of a `start`, as a move of the definitions.
use Rattle.std.proofs.Common.{◌≡◌, ℕ, Option, Some, None, List, sym, ◌∙◌}
use Rattle.std.specs.Option.{option_map}
use Rattle.job_tree.specs.InRange.{AreInRange}
use Rattle.job_tree.specs.Tree.{Steps}
use Rattle.job_tree.specs.declared.step.Step.{Step}
use Rattle.job_tree.specs.declared.step.Step.TheVariants as code
use Rattle.task_machine.specs.declared.stop.Moved.TheVariants.{On}
use Rattle.task_machine.specs.declared.task.Home.{Home}
use Rattle.task_machine.specs.Fitting.{blocks_of, Fits}
use Rattle.task_machine.specs.Standing.{HasBlock, AtStep, before_step, StepsAs}
use Rattle.task_machine.specs.Started.{StartsAll, StartsChildren}
use Rattle.task_machine.specs.States.{State}
use Rattle.task_machine.proofs.AdvancesSteps.{takes_start, takes_start_over}
use Rattle.task_machine.proofs.Apart.{apart_steps}
use Rattle.task_machine.proofs.Loops.{Around, around_steps}

-- a `start`, if the code starts its children in the nursery whose body the task is in, is the definitions' step
pub takes_children : (b u : State) (first : Step) (name : List ℕ) (over : Option ℕ) (body : Steps) → Fits b None →
    (a : AtStep b first) → first ≡ code.Start name over body → u ≡ record b { book = u.book; started = u.started } →
    StartsChildren b u name over body → AreInRange body → StepsAs (before_step b first a) u None (On None)
takes_children b u first name over body h a is world s in_range = by_over over is s.started
  where
    around : Around a.outer s.at.outer s.id
    around = around_steps a.outer s.at.outer s.at.loops s.id a.left (sym a.held ∙ s.at.is) s.at.are

    other : HasBlock s.id (blocks_of s.at.outer) → ⊥
    other =
        apart_steps s.at.outer around.loops a.outer b.frames a.left b.part (option_map (λ (x : Home). x.scope) b.home) b.own _ b.tree b.labels
        b.book s.id around.are a.held around.is h

    by_over : (o : Option ℕ) → first ≡ code.Start name o body → StartsAll b u s.id name o body →
        StepsAs (before_step b first a) u None (On None)
    by_over None e started =
        takes_start b first a u s.at.outer around.loops s.id name body around.is around.are other world in_range e started.0 started.1 started.2 started.3
    by_over (Some k) e started =
        takes_start_over b first a u s.at.outer around.loops s.id name body around.is around.are other world in_range k e started
