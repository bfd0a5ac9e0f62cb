use Rattle.std.proofs.Common.{ℕ, Option, None, ◌∷◌, [], ap, subst, sym}
use Rattle.exceptions.specs.Exceptions.{Label}
use Rattle.task_machine.specs.Started.{running_children, StartsOne, StartsAll}
use Rattle.task_machine.specs.States.{state_of}
use Rattle.task_machine.specs.Worlds.{label_at}
use Rattle.task_machine.specs.declared.world.World.{World}
use Rattle.task_machine.proofs.Bodies.{body_runs}
use Rattle.task_machine.proofs.TaskFits.{cuts_fit, started_fits}
use Rattle.task_machine.proofs.task.Task.begin_children.Goals as goal

pub part_here-part-requires : goal.part_here-part-requires
part_here-part-requires c =
    record { cuts = cuts_fit (state_of c.args.self.now c.args.world.now) None c.requires.fits; lent = c.requires.fits.runs.lent }

pub start_over-requires-clause-cuts : goal.start_over-requires-clause-cuts
start_over-requires-clause-cuts c = cuts_fit (state_of c.args.self.now c.args.world.now) None c.requires.fits

pub start_over-requires-clause-lent : goal.start_over-requires-clause-lent
start_over-requires-clause-lent c = c.requires.fits.runs.lent

pub start-requires-clause-nursery : goal.start-requires-clause-nursery
start-requires-clause-nursery c = body_runs
    (label_at c.args.world.now) c.args.world.now.book c.args.self.now.frames.items c.nursery-nursery.result
    c.args.self.now.own.items c.nursery-nursery.ensures c.requires.fits.runs.opened

pub start_over-requires-clause-nursery : goal.start_over-requires-clause-nursery
start_over-requires-clause-nursery c =
    body_runs (label_at c.args.world.now) c.args.world.now.book c.args.self.now.frames.items c.nursery-nursery.result
    c.args.self.now.own.items c.nursery-nursery.ensures c.requires.fits.runs.opened

pub returns-in_ok-start-in-None-clause-fits : goal.returns-in_ok-start-in-None-clause-fits
returns-in_ok-start-in-None-clause-fits c =
    let s = c.in_ok-start-in-None.ensures.started in
    started_fits c.nursery-nursery.result s.nursery (None ∷ []) (state_of c.args.self.now c.args.world.now)
    (state_of c.args.self.now c.start.new.world) c.requires.fits s.was s.book
    (ap (λ (w : World). state_of c.args.self.now w) c.in_ok-start-in-None.ensures.rest)

pub returns-in_ok-start_over-in-Some-clause-fits : goal.returns-in_ok-start_over-in-Some-clause-fits
returns-in_ok-start_over-in-Some-clause-fits c =
    let s = c.in_ok-start_over-in-Some.ensures.started in
    started_fits c.nursery-nursery.result s.nursery (running_children c.in-Some.copies) (state_of c.args.self.now c.args.world.now)
    (state_of c.args.self.now c.start_over.new.world) c.requires.fits s.was s.book
    (ap (λ (w : World). state_of c.args.self.now w) c.in_ok-start_over-in-Some.ensures.rest)

pub returns-in_ok-start-in-None-clause-children : goal.returns-in_ok-start-in-None-clause-children
returns-in_ok-start-in-None-clause-children c =
    record {
      id = c.nursery-nursery.result;
      at = c.nursery-nursery.ensures;
      started =
          subst (λ (o : Option ℕ). StartsAll (state_of c.args.self.now c.args.world.now) (state_of c.args.self.now c.start.new.world) c.nursery-nursery.result c.args.name o
          c.args.body.now) (sym c.in-None.is) (
            c.part_here-part.result,
            c.part_here-part.ensures.buffer,
            c.part_here-part.ensures.range,
            subst (λ (l : Label). StartsOne (state_of c.args.self.now c.args.world.now) (state_of c.args.self.now c.start.new.world)
                c.nursery-nursery.result l c.part_here-part.result c.args.body.now) c.in_ok-label-in-None.ensures
                c.in_ok-start-in-None.ensures.started,
          );
    }

pub returns-in_ok-start_over-in-Some-clause-children : goal.returns-in_ok-start_over-in-Some-clause-children
returns-in_ok-start_over-in-Some-clause-children c =
    record {
      id = c.nursery-nursery.result;
      at = c.nursery-nursery.ensures;
      started =
          subst (λ (o : Option ℕ). StartsAll (state_of c.args.self.now c.args.world.now) (state_of c.args.self.now c.start_over.new.world) c.nursery-nursery.result c.args.name o
          c.args.body.now) (sym c.in-Some.is)
          c.in_ok-start_over-in-Some.ensures.started;
    }
