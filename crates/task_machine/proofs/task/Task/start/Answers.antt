use Rattle.std.proofs.Common.{ℕ, ap, ◌∙◌}
use Rattle.input_lines.specs.Part.{buffer_of, range_of}
use Rattle.job_meaning.specs.Moments.{a_round_after}
use Rattle.job_meaning.specs.declared.clock.Clock.{Clock}
use Rattle.task_machine.specs.declared.stop.TaskState.TheVariants.{ToBegin}
use Rattle.task_machine.specs.States.{state_of}
use Rattle.task_machine.proofs.Starts.{starts_one}
use Rattle.task_machine.proofs.task.Task.start.Goals as goal

pub returns-clause-started : goal.returns-clause-started
returns-clause-started c =
    let child = c.in_ok-child.ensures in
    starts_one (state_of c.args.self.now c.args.world.now) _ c.args.nursery c.args.label c.args.part c.args.body.now c.in_ok-child.child c.scope-scope.result
    c.in_ok-index.index
    c.scope-scope.ensures c.in_ok-index.ensures.index c.in_ok-index.ensures.started c.in_ok-push_back.ensures.items
    (record {
      label_is = child.label;
      input_is = ap buffer_of child.part;
      range_is = ap range_of child.part;
      home_is = child.home;
      frames = child.frames;
      own = child.own;
      task_state = child.task_state
          ∙ ap (λ (x : ℕ). ToBegin x)
          (c.a_round_after-at.ensures ∙ ap (λ (k : Clock). a_round_after k c.now.result) c.clock.ensures
          ∙ ap (a_round_after c.args.world.now.clock) c.now.ensures);
      entries = child.entries;
      cancelled_from = child.cancelled_from;
      cancelled = child.cancelled;
    })
