use Rattle.std.proofs.Common.{◌≡◌, ◌<◌, ◌∷◌, List, length, ap, sym, ◌∙◌, arith}
use Rattle.task_machine.specs.declared.task.Task.{Task}
use Rattle.task_machine.specs.declared.world.World.{World}
use Rattle.job_runner.specs.declared.runner.Runner.{Runner}
use Rattle.job_runner.proofs.Starting.{taking_none, row_there, taking_now, taking_tick, taking_begins, taken_awake, taking_more, taking_all}
use Rattle.job_runner.proofs.runner.Runner.take_started.Goals as goal

pub started-init : goal.started-init
started-init c = taking_none c.args.self.now c.args.row c.requires.agree c.requires.timers

pub start-requires-clause-agree : goal.start-requires-clause-agree
start-requires-clause-agree c = c.started.invariant.agree

pub start-requires-clause-parent : goal.start-requires-clause-parent
start-requires-clause-parent c = row_there c.started.invariant c.requires.row

pub ready-requires-clause-awake : goal.ready-requires-clause-awake
ready-requires-clause-awake c = taken_awake c.started.invariant c.in_ok-id.ensures.started

pub ready-requires-clause-now : goal.ready-requires-clause-now
ready-requires-clause-now c =
    taking_now c.started.invariant c.requires.now ∙ sym (taking_tick c.started.invariant)
    ∙ sym (ap (λ (w : World). w.tick) c.take_started.ensures.rest)

pub ready-requires-clause-bounded : goal.ready-requires-clause-bounded
ready-requires-clause-bounded c =
    let same = ap (λ (w : World). w.tick) c.take_started.ensures.rest ∙ taking_tick c.started.invariant in
    rw same c.requires.bounded

pub started-smaller : goal.started-smaller
started-smaller c =
    let e : length c.started.self.world.started.items ≡ length (c.in-Some.task ∷ c.take_started.new.self.started.items) =
    ap (λ (ts : List Task). length ts) c.in-Some.ensures.task in
    let g : length c.ready.new.self.world.started.items ≡ length c.take_started.new.self.started.items =
    ap (λ (r : Runner). length r.world.started.items) c.in_ok-ready.ensures.rest in
    let f : length c.ready.new.self.world.started.items < length c.started.self.world.started.items = omega (arith, e, g) in
    f

pub started-preserved : goal.started-preserved
started-preserved c =
    let tick = taking_begins c.started.invariant c.clock-clock.ensures c.now.ensures c.a_round_after-begins.ensures c.tick_of.ensures in
    taking_more c.started.invariant c.requires.row (record {
      task = c.in-Some.task;
      id = c.in_ok-id.id;
      task_table = c.start.new.self;
      left = c.take_started.new.self;
      first = c.in-Some.ensures.task;
      world = c.take_started.ensures.rest;
      starts = rw tick at c.in_ok-id.ensures.started;
      agree = c.in_ok-id.ensures.agree;
      ready = c.in_ok-ready.ensures;
    })

pub returns : goal.returns
returns c = taking_all c.take_started.new.self c.started.invariant c.in_default.ensures.task.0
    c.in_default.ensures.task.1 c.in_default.ensures.rest
