use Rattle.std.proofs.Common.{◌≡◌, ◌∷◌, [], ◌++◌, ap, ◌∙◌}
use Rattle.std.specs.Option.{option_map}
use Rattle.exceptions.specs.Held.{exc_of}
use Rattle.input_lines.specs.Part.{buffer_of}
use Rattle.job_meaning.specs.Moments.{tick_of}
use Rattle.task_machine.specs.declared.task.Task.{Task}
use Rattle.task_machine.specs.declared.world.World.{World}
use Rattle.block_exits.specs.Held.{kind_of, left_of}
use Rattle.task_machine.proofs.Exits.{exc_goes_on, leaving_noted}
use Rattle.task_machine.proofs.task.Task.exit.Goals as goal

pub returns-clause-at : goal.returns-clause-at
returns-clause-at c =
    let world = c.args.world.now in
    let left = c.leave-label in
    let tick : tick_of left.new.world.clock left.new.world.tick ≡ tick_of world.clock world.tick =
    ap (λ (w : World). tick_of w.clock w.tick) left.ensures.world in
    λ cancelled_from p ps scope a.
    let at = left.ensures.at cancelled_from p ps a in
    record {
      exc =
          exc_goes_on (kind_of c.args.kind) left.result.label p.label c.tick.result (tick_of world.clock world.tick) left.result.catches _
          (left_of c.in_ok-left.left) (option_map exc_of c.args.exc) _
          c.in_ok-exc.ensures c.in_ok-left.ensures at.label (at.caught scope) (c.tick.ensures ∙ tick);
      entry = c.in_ok-entry.entry;
      entries = c.in_ok-push.ensures.items ∙ ap (λ (t : Task). t.entries.items ++ c.in_ok-entry.entry ∷ []) left.ensures.stays;
      shown =
          leaving_noted world.clock (buffer_of c.args.self.now.part) c.in_ok-entry.entry
          (kind_of c.args.kind) left.result.label p.label c.tick-2.result
          world.tick left.result.catches _
          (left_of c.in_ok-left.left) (option_map exc_of c.args.exc) ((c.in_ok-entry.ensures (buffer_of c.args.self.now.part)).1)
          (c.in_ok-entry.ensures (buffer_of c.args.self.now.part)).0
          c.in_ok-left.ensures at.label (at.caught scope) (c.tick-2.ensures ∙ tick);
      around = at.around;
    }
