use Rattle.std.proofs.Common.{Option, None, List, [], ◌∷◌, ◌++◌, ap, sym, ◌∙◌, subst, refl, arith}
use Rattle.std.specs.Option.{option_map, option_copied}
use Rattle.exceptions.specs.declared.exc.Exc as held
use Rattle.exceptions.specs.Held.{exc_of}
use Rattle.job_tree.specs.Blocks.{handled_of, cleaned_of}
use Rattle.job_meaning.specs.Walk.{outcome_after}
use Rattle.turn_semantics.specs.Bound.{frames_length}
use Rattle.turn_semantics.specs.Midway.{Move}
use Rattle.task_machine.specs.declared.frame.Frame.TheVariants.{Scope, Event, Token, Received, Nursery, Repeat, Try, Handler, Cleanup}
use Rattle.task_machine.specs.declared.frame.Frame.{Frame}
use Rattle.task_machine.specs.declared.serving.ObjectAct.{ObjectAct}
use Rattle.task_machine.specs.declared.world.World.{World}
use Rattle.task_machine.specs.declared.stop.Moved.TheVariants.{On}
use Rattle.task_machine.specs.declared.stop.TaskState.{TaskState}
use Rattle.task_machine.specs.declared.stop.Moved.{Moved}
use Rattle.task_machine.specs.declared.task.Task.{Task}
use Rattle.task_machine.specs.Fitting.{Fits, waits_of}
use Rattle.task_machine.specs.Standing.{waits_by, StepsAs, with_frames}
use Rattle.task_machine.specs.Frames.{unboxed_exc, frames_of}
use Rattle.task_machine.specs.States.{state_of}
use Rattle.task_machine.specs.Tasks.{home_scope}
use Rattle.task_machine.specs.Worlds.{label_at}
use Rattle.task_machine.proofs.Fits.{ready_scope}
use Rattle.task_machine.proofs.StateLemmas.{state_eq}
use Rattle.task_machine.proofs.TaskFits.{exited_fits, waits_fits, acted_fits, frame_off, in_range_with, starts_with, popped_fits, popped_length, popped_body, pass_shorter, passed_fits, try_shorter, tried_fits, handled_fits}
use Rattle.task_machine.proofs.Advances.{takes_end, takes_exit, takes_event_left, takes_token, takes_received, takes_body, takes_pass, takes_try, takes_handler, takes_cleanup}
use Rattle.task_machine.proofs.Waiters.{keeps_task, keeps_then, keeps_acted}
use Rattle.task_machine.proofs.task.Task.advance.Goals as goal

pub exit-requires-clause-some : goal.exit-requires-clause-some
exit-requires-clause-some c =
    let self = c.args.self.now in
    let laws = c.stacks_are_chains.ensures in
    (ready_scope c.pop.new.self.items (Scope c.in-Scope.fail) tt self.part (home_scope self) self.own.items _ c.args.world.now.scopes
    (label_at c.args.world.now) c.args.world.now.book laws.chain laws.own laws.apart
    (popped_fits (state_of (record c.args.self.now { frames = c.pop.new.self }) c.args.world.now) c.args.self.now.frames.items c.in-Some.frame (Scope c.in-Scope.fail) c.in-Some.ensures.items c.in-Scope.is c.requires.fits)).some

pub exit-requires-clause-innermost : goal.exit-requires-clause-innermost
exit-requires-clause-innermost c =
    let self = c.args.self.now in
    let laws = c.stacks_are_chains.ensures in
    (ready_scope c.pop.new.self.items (Scope c.in-Scope.fail) tt self.part (home_scope self) self.own.items _ c.args.world.now.scopes
    (label_at c.args.world.now) c.args.world.now.book laws.chain laws.own laws.apart
    (popped_fits (state_of (record c.args.self.now { frames = c.pop.new.self }) c.args.world.now) c.args.self.now.frames.items c.in-Some.frame (Scope c.in-Scope.fail) c.in-Some.ensures.items c.in-Scope.is c.requires.fits)).innermost

pub exit-requires-clause-labelled : goal.exit-requires-clause-labelled
exit-requires-clause-labelled c =
    let self = c.args.self.now in
    let laws = c.stacks_are_chains.ensures in
    (ready_scope c.pop.new.self.items (Scope c.in-Scope.fail) tt self.part (home_scope self) self.own.items _ c.args.world.now.scopes
    (label_at c.args.world.now) c.args.world.now.book laws.chain laws.own laws.apart
    (popped_fits (state_of (record c.args.self.now { frames = c.pop.new.self }) c.args.world.now) c.args.self.now.frames.items c.in-Some.frame (Scope c.in-Scope.fail) c.in-Some.ensures.items c.in-Scope.is c.requires.fits)).labelled

pub leave-requires-clause-some : goal.leave-requires-clause-some
leave-requires-clause-some c =
    let self = c.args.self.now in
    let laws = c.stacks_are_chains.ensures in
    (ready_scope c.pop.new.self.items Event tt self.part (home_scope self) self.own.items _ c.args.world.now.scopes
    (label_at c.args.world.now) c.args.world.now.book laws.chain laws.own laws.apart
    (popped_fits (state_of (record c.args.self.now { frames = c.pop.new.self }) c.args.world.now) c.args.self.now.frames.items c.in-Some.frame Event c.in-Some.ensures.items c.in-Event.is c.requires.fits)).some

pub leave-requires-clause-innermost : goal.leave-requires-clause-innermost
leave-requires-clause-innermost c =
    let self = c.args.self.now in
    let laws = c.stacks_are_chains.ensures in
    (ready_scope c.pop.new.self.items Event tt self.part (home_scope self) self.own.items _ c.args.world.now.scopes
    (label_at c.args.world.now) c.args.world.now.book laws.chain laws.own laws.apart
    (popped_fits (state_of (record c.args.self.now { frames = c.pop.new.self }) c.args.world.now) c.args.self.now.frames.items c.in-Some.frame Event c.in-Some.ensures.items c.in-Event.is c.requires.fits)).innermost

pub leave-requires-clause-labelled : goal.leave-requires-clause-labelled
leave-requires-clause-labelled c =
    let self = c.args.self.now in
    let laws = c.stacks_are_chains.ensures in
    (ready_scope c.pop.new.self.items Event tt self.part (home_scope self) self.own.items _ c.args.world.now.scopes
    (label_at c.args.world.now) c.args.world.now.book laws.chain laws.own laws.apart
    (popped_fits (state_of (record c.args.self.now { frames = c.pop.new.self }) c.args.world.now) c.args.self.now.frames.items c.in-Some.frame Event c.in-Some.ensures.items c.in-Event.is c.requires.fits)).labelled

pub returns-in-Event-clause-fits : goal.returns-in-Event-clause-fits
returns-in-Event-clause-fits c =
    let laws = c.stacks_are_chains.ensures in
    let e = c.leave.ensures in
    exited_fits Event tt (state_of (record c.args.self.now { frames = c.pop.new.self }) c.args.world.now) (state_of c.leave.new.self c.leave.new.world)
    (record { chain = laws.chain; own = laws.own; apart = laws.apart })
    (popped_fits (state_of (record c.args.self.now { frames = c.pop.new.self }) c.args.world.now) c.args.self.now.frames.items c.in-Some.frame Event c.in-Some.ensures.items c.in-Event.is c.requires.fits) e.left e.own
    (state_eq _ _ _ _ (e.stays ∙ ap (λ (t : Task). record c.args.self.now {
      frames = c.pop.new.self;
      own = c.leave.new.self.own;
      cancelled_from = c.leave.new.self.cancelled_from;
      entries = t.entries;
    }) (sym e.stays)) e.world)

pub returns-in-Event-clause-shorter : goal.returns-in-Event-clause-shorter
returns-in-Event-clause-shorter c =
    λ u.
    let before = popped_length c.args.self.now.frames.items c.pop.new.self.items c.in-Some.frame Event c.in-Some.ensures.items c.in-Event.is in
    let after = ap (λ (t : Task). frames_length (frames_of (λ id. []) t.frames.items)) c.leave.ensures.stays in
    omega (arith, before, after)

pub returns-in-Event-clause-step : goal.returns-in-Event-clause-step
returns-in-Event-clause-step c =
    let e = c.leave.ensures in
    takes_event_left (state_of (record c.args.self.now { frames = c.pop.new.self }) c.args.world.now) (state_of c.leave.new.self c.leave.new.world) c.args.self.now.frames.items c.args.exc
    (c.in-Some.ensures.items ∙ ap (λ (f : Frame). c.pop.new.self.items ++ f ∷ []) c.in-Event.is) (state_eq _ _ _ _ e.stays e.world)
    (λ cancelled_from p ps at. (e.at cancelled_from p ps at).around) e.left

pub end_body-requires-clause-nursery : goal.end_body-requires-clause-nursery
end_body-requires-clause-nursery c =
    let self = c.args.self.now in
    popped_body (label_at c.args.world.now) c.args.world.now.book c.pop.new.self.items c.in-Nursery.id self.own.items
    (popped_fits (state_of (record c.args.self.now { frames = c.pop.new.self }) c.args.world.now) c.args.self.now.frames.items c.in-Some.frame (Nursery c.in-Nursery.id) c.in-Some.ensures.items c.in-Nursery.is c.requires.fits).runs.opened

pub returns-in_ok-exc-in-Scope-clause-fits : goal.returns-in_ok-exc-in-Scope-clause-fits
returns-in_ok-exc-in-Scope-clause-fits c =
    let laws = c.stacks_are_chains.ensures in
    let e = c.in_ok-exc-in-Scope.ensures in
    exited_fits (Scope c.in-Scope.fail) tt (state_of (record c.args.self.now { frames = c.pop.new.self }) c.args.world.now) (state_of c.exit.new.self c.exit.new.world)
    (record { chain = laws.chain; own = laws.own; apart = laws.apart })
    (popped_fits (state_of (record c.args.self.now { frames = c.pop.new.self }) c.args.world.now) c.args.self.now.frames.items c.in-Some.frame (Scope c.in-Scope.fail) c.in-Some.ensures.items c.in-Scope.is c.requires.fits) e.left e.own (state_eq _ _ _ _ e.stays e.world)

pub returns-in_ok-exc-in-Scope-clause-shorter : goal.returns-in_ok-exc-in-Scope-clause-shorter
returns-in_ok-exc-in-Scope-clause-shorter c =
    λ u.
    let before = popped_length c.args.self.now.frames.items c.pop.new.self.items c.in-Some.frame (Scope c.in-Scope.fail)
    c.in-Some.ensures.items c.in-Scope.is in
    let after = ap (λ (t : Task). frames_length (frames_of (λ id. []) t.frames.items)) c.in_ok-exc-in-Scope.ensures.stays in
    omega (arith, before, after)

pub returns-in_ok-exc-in-Scope-clause-step : goal.returns-in_ok-exc-in-Scope-clause-step
returns-in_ok-exc-in-Scope-clause-step c =
    let e = c.in_ok-exc-in-Scope.ensures in
    takes_exit (state_of (record c.args.self.now { frames = c.pop.new.self }) c.args.world.now) (state_of c.exit.new.self c.exit.new.world) c.args.self.now.frames.items c.in-Scope.fail c.args.exc
    c.in_ok-exc-in-Scope.exc (c.in-Some.ensures.items ∙ ap (λ (f : Frame). c.pop.new.self.items ++ f ∷ []) c.in-Scope.is) (state_eq _ _ _ _ e.stays e.world) e.at e.left

pub returns-in-Nursery-clause-fits : goal.returns-in-Nursery-clause-fits
returns-in-Nursery-clause-fits c =
    let e = c.end_body.ensures in
    let u = state_of c.end_body.new.self c.end_body.new.world in
    subst (λ (m : Moved). Fits u (waits_by m c.end_body.new.self.task_state)) (sym e.moved)
    (subst (λ (h : TaskState). Fits u (waits_of h)) (sym (ap (λ (t : Task). t.task_state) e.stays))
    (waits_fits c.in-Nursery.id (option_map exc_of c.args.exc) c.args.world.now.tick
    (state_of (record c.args.self.now { frames = c.pop.new.self }) c.args.world.now) u
    (popped_fits (state_of (record c.args.self.now { frames = c.pop.new.self }) c.args.world.now) c.args.self.now.frames.items c.in-Some.frame (Nursery c.in-Nursery.id) c.in-Some.ensures.items c.in-Nursery.is c.requires.fits) e.keys e.ended
    (state_eq _ _ _ _ (e.stays ∙ ap (λ (t : Task). record c.args.self.now { frames = c.pop.new.self; task_state = t.task_state }) (sym e.stays))
    e.rest)))

pub returns-in-Nursery-clause-step : goal.returns-in-Nursery-clause-step
returns-in-Nursery-clause-step c =
    let e = c.end_body.ensures in
    takes_body (state_of (record c.args.self.now { frames = c.pop.new.self }) c.args.world.now) (state_of c.end_body.new.self c.end_body.new.world) c.args.self.now.frames.items c.in-Nursery.id
    c.end_body.new.world.scopes c.end_body.new.world.book c.args.exc c.end_body.result (c.in-Some.ensures.items ∙ ap (λ (f : Frame). c.pop.new.self.items ++ f ∷ []) c.in-Nursery.is) e.moved
    (state_eq _ _ _ _ e.stays e.rest) e.ended e.at

pub returns-in_default-clause-step : goal.returns-in_default-clause-step
returns-in_default-clause-step c =
    let e = c.end.ensures in
    takes_end (state_of (record c.args.self.now { frames = c.pop.new.self }) c.args.world.now) (state_of c.end.new.self c.end.new.world) c.args.self.now.frames.items c.end.new.world.scopes c.args.exc c.end.result
    c.in_default.ensures.items c.in_default.ensures.variant.1 e.moved (state_eq _ _ _ _ e.stays e.rest) e.at

pub returns-in_ok-exc-in-Try-clause-fits : goal.returns-in_ok-exc-in-Try-clause-fits
returns-in_ok-exc-in-Try-clause-fits c =
    let e = c.in_ok-exc-in-Try.ensures in
    tried_fits (handled_of (option_copied c.in-Try.handler)) (cleaned_of c.in-Try.cleanup.now) (state_of (record c.args.self.now { frames = c.pop.new.self }) c.args.world.now)
    (state_of c.end_try.new.self c.args.world.now) (Try c.in-Try.handler c.in-Try.cleanup) (option_map exc_of c.args.exc) (option_map exc_of c.in_ok-exc-in-Try.exc) refl
    refl (popped_fits (state_of (record c.args.self.now { frames = c.pop.new.self }) c.args.world.now) c.args.self.now.frames.items c.in-Some.frame (Try c.in-Try.handler c.in-Try.cleanup) c.in-Some.ensures.items c.in-Try.is c.requires.fits)
    (e.step (λ id. []) []) e.blocks e.received (ap (λ (t : Task). state_of t c.args.world.now) e.stays)

pub returns-in_ok-exc-in-Try-clause-shorter : goal.returns-in_ok-exc-in-Try-clause-shorter
returns-in_ok-exc-in-Try-clause-shorter c =
    λ u.
    let f = Try c.in-Try.handler c.in-Try.cleanup in
    let before = popped_length c.args.self.now.frames.items c.pop.new.self.items c.in-Some.frame f c.in-Some.ensures.items c.in-Try.is in
    let after = ap (λ (o : Move). frames_length o.frames) (c.in_ok-exc-in-Try.ensures.step (λ id. []) []) in
    let less = try_shorter (handled_of (option_copied c.in-Try.handler)) (cleaned_of c.in-Try.cleanup.now)
    (frames_of (λ id. []) c.pop.new.self.items) [] (option_map exc_of c.args.exc) in
    omega (arith, before, after, less)

pub returns-in_ok-exc-in-Try-clause-step : goal.returns-in_ok-exc-in-Try-clause-step
returns-in_ok-exc-in-Try-clause-step c =
    let e = c.in_ok-exc-in-Try.ensures in
    takes_try (state_of (record c.args.self.now { frames = c.pop.new.self }) c.args.world.now) (state_of c.end_try.new.self c.args.world.now) c.args.self.now.frames.items c.in-Try.handler c.in-Try.cleanup c.args.exc
    c.in_ok-exc-in-Try.exc (c.in-Some.ensures.items ∙ ap (λ (f : Frame). c.pop.new.self.items ++ f ∷ []) c.in-Try.is) (ap (λ (t : Task). state_of t c.args.world.now) e.stays) e.step

pub returns-in_ok-exc-in-Handler-clause-fits : goal.returns-in_ok-exc-in-Handler-clause-fits
returns-in_ok-exc-in-Handler-clause-fits c =
    let e = c.in_ok-exc-in-Handler.ensures in
    handled_fits (cleaned_of c.in-Handler.cleanup.now) (option_map exc_of (unboxed_exc c.in-Handler.rest)) (state_of (record c.args.self.now { frames = c.pop.new.self }) c.args.world.now)
    (state_of c.end_handler.new.self c.args.world.now) (Handler c.in-Handler.rest c.in-Handler.cleanup) refl refl
    (popped_fits (state_of (record c.args.self.now { frames = c.pop.new.self }) c.args.world.now) c.args.self.now.frames.items c.in-Some.frame (Handler c.in-Handler.rest c.in-Handler.cleanup) c.in-Some.ensures.items c.in-Handler.is c.requires.fits)
    (e.frames (λ id. [])) e.blocks e.received (ap (λ (t : Task). state_of t c.args.world.now) e.stays)

pub returns-in_ok-exc-in-Handler-clause-shorter : goal.returns-in_ok-exc-in-Handler-clause-shorter
returns-in_ok-exc-in-Handler-clause-shorter c =
    λ u.
    let f = Handler c.in-Handler.rest c.in-Handler.cleanup in
    let before = popped_length c.args.self.now.frames.items c.pop.new.self.items c.in-Some.frame f c.in-Some.ensures.items
    c.in-Handler.is in
    let after = ap frames_length (c.in_ok-exc-in-Handler.ensures.frames (λ id. [])) in
    omega (arith, before, after)

pub returns-in_ok-exc-in-Handler-clause-step : goal.returns-in_ok-exc-in-Handler-clause-step
returns-in_ok-exc-in-Handler-clause-step c =
    let e = c.in_ok-exc-in-Handler.ensures in
    takes_handler (state_of (record c.args.self.now { frames = c.pop.new.self }) c.args.world.now) (state_of c.end_handler.new.self c.args.world.now) c.args.self.now.frames.items c.in-Handler.rest c.in-Handler.cleanup
    c.args.exc c.in_ok-exc-in-Handler.exc (c.in-Some.ensures.items ∙ ap (λ (f : Frame). c.pop.new.self.items ++ f ∷ []) c.in-Handler.is) (ap (λ (t : Task). state_of t c.args.world.now) e.stays) e.frames e.exc

pub returns-in-Cleanup-clause-fits : goal.returns-in-Cleanup-clause-fits
returns-in-Cleanup-clause-fits c =
    let f = Cleanup c.in-Cleanup.outcome in
    let fits = (popped_fits (state_of (record c.args.self.now { frames = c.pop.new.self }) c.args.world.now) c.args.self.now.frames.items c.in-Some.frame (Cleanup c.in-Cleanup.outcome) c.in-Some.ensures.items c.in-Cleanup.is c.requires.fits) in
    frame_off (state_of (record c.args.self.now { frames = c.pop.new.self }) c.args.world.now) f refl fits (in_range_with (state_of (record c.args.self.now { frames = c.pop.new.self }) c.args.world.now) f fits) (starts_with (state_of (record c.args.self.now { frames = c.pop.new.self }) c.args.world.now) f fits)

pub returns-in-Cleanup-clause-shorter : goal.returns-in-Cleanup-clause-shorter
returns-in-Cleanup-clause-shorter c =
    λ u.
    let before = popped_length c.args.self.now.frames.items c.pop.new.self.items c.in-Some.frame (Cleanup c.in-Cleanup.outcome)
    c.in-Some.ensures.items c.in-Cleanup.is in
    omega (arith, before)

pub returns-in-Cleanup-clause-step : goal.returns-in-Cleanup-clause-step
returns-in-Cleanup-clause-step c =
    takes_cleanup (state_of (record c.args.self.now { frames = c.pop.new.self }) c.args.world.now) c.args.self.now.frames.items c.in-Cleanup.outcome c.args.exc c.outcome_after.result (c.in-Some.ensures.items ∙ ap (λ (f : Frame). c.pop.new.self.items ++ f ∷ []) c.in-Cleanup.is)
    (c.outcome_after.ensures ∙ ap (λ (o : Option held.Exc). outcome_after (option_map exc_of o) (option_map exc_of c.args.exc)) c.unbox_exc.ensures)

pub returns-in_ok-moved-in-Steps-clause-step : goal.returns-in_ok-moved-in-Steps-clause-step
returns-in_ok-moved-in-Steps-clause-step c =
    subst (λ (whole : List Frame). StepsAs (with_frames (state_of (record c.args.self.now { frames = c.pop.new.self }) c.args.world.now) whole) (state_of c.go_on.new.self c.go_on.new.world) (option_map exc_of c.args.exc)
    c.in_ok-moved-in-Steps.moved) (sym (c.in-Some.ensures.items ∙ ap (λ (f : Frame). c.pop.new.self.items ++ f ∷ []) c.in-Steps.is)) c.in_ok-moved-in-Steps.ensures.step

pub next_pass-requires : goal.next_pass-requires
next_pass-requires c =
    (in_range_with (state_of (record c.args.self.now { frames = c.pop.new.self }) c.args.world.now) (Repeat c.in-Repeat.pass c.in-Repeat.left c.in-Repeat.cuts c.in-Repeat.body)
    (popped_fits (state_of (record c.args.self.now { frames = c.pop.new.self }) c.args.world.now) c.args.self.now.frames.items c.in-Some.frame (Repeat c.in-Repeat.pass c.in-Repeat.left c.in-Repeat.cuts c.in-Repeat.body) c.in-Some.ensures.items c.in-Repeat.is c.requires.fits)).1

pub returns-in_ok-exc-in-Repeat-clause-fits : goal.returns-in_ok-exc-in-Repeat-clause-fits
returns-in_ok-exc-in-Repeat-clause-fits c =
    let e = c.in_ok-exc-in-Repeat.ensures in
    passed_fits c.in-Repeat.pass c.in-Repeat.left c.in-Repeat.cuts c.in-Repeat.body.now (state_of (record c.args.self.now { frames = c.pop.new.self }) c.args.world.now) (state_of c.next_pass.new.self c.args.world.now)
    (Repeat c.in-Repeat.pass c.in-Repeat.left c.in-Repeat.cuts c.in-Repeat.body) (option_map exc_of c.args.exc) (option_map exc_of c.in_ok-exc-in-Repeat.exc) refl refl
    (popped_fits (state_of (record c.args.self.now { frames = c.pop.new.self }) c.args.world.now) c.args.self.now.frames.items c.in-Some.frame (Repeat c.in-Repeat.pass c.in-Repeat.left c.in-Repeat.cuts c.in-Repeat.body) c.in-Some.ensures.items c.in-Repeat.is c.requires.fits)
    (e.step (λ id. []) []) e.blocks e.received (ap (λ (t : Task). state_of t c.args.world.now) e.stays)

pub returns-in_ok-exc-in-Repeat-clause-shorter : goal.returns-in_ok-exc-in-Repeat-clause-shorter
returns-in_ok-exc-in-Repeat-clause-shorter c =
    λ u.
    let f = Repeat c.in-Repeat.pass c.in-Repeat.left c.in-Repeat.cuts c.in-Repeat.body in
    let before = popped_length c.args.self.now.frames.items c.pop.new.self.items c.in-Some.frame f c.in-Some.ensures.items c.in-Repeat.is in
    let after = ap (λ (o : Move). frames_length o.frames) (c.in_ok-exc-in-Repeat.ensures.step (λ id. []) []) in
    let less = pass_shorter c.in-Repeat.pass c.in-Repeat.left c.in-Repeat.cuts c.in-Repeat.body.now (frames_of (λ id. []) c.pop.new.self.items) []
    (option_map exc_of c.args.exc) in
    omega (arith, before, after, less)

pub returns-in_ok-exc-in-Repeat-clause-step : goal.returns-in_ok-exc-in-Repeat-clause-step
returns-in_ok-exc-in-Repeat-clause-step c =
    let e = c.in_ok-exc-in-Repeat.ensures in
    takes_pass (state_of (record c.args.self.now { frames = c.pop.new.self }) c.args.world.now) (state_of c.next_pass.new.self c.args.world.now) c.args.self.now.frames.items c.in-Repeat.pass c.in-Repeat.left
    c.in-Repeat.cuts c.in-Repeat.body c.args.exc c.in_ok-exc-in-Repeat.exc (c.in-Some.ensures.items ∙ ap (λ (f : Frame). c.pop.new.self.items ++ f ∷ []) c.in-Repeat.is) (ap (λ (t : Task). state_of t c.args.world.now) e.stays) e.step

pub returns-in_ok-exc-in-Token-clause-fits : goal.returns-in_ok-exc-in-Token-clause-fits
returns-in_ok-exc-in-Token-clause-fits c =
    let self = record c.args.self.now { frames = c.pop.new.self } in
    let s = state_of self c.args.world.now in
    let f = Token c.in-Token.limiter in
    let fits = popped_fits s c.args.self.now.frames.items c.in-Some.frame f c.in-Some.ensures.items c.in-Token.is c.requires.fits in
    acted_fits s (state_of self c.give_back.new.world) None (frame_off s f refl fits (in_range_with s f fits) (starts_with s f fits))
    (ap (λ (w : World). state_of self w) c.in_ok-exc-in-Token.ensures.rest)

pub returns-in_ok-exc-in-Token-clause-shorter : goal.returns-in_ok-exc-in-Token-clause-shorter
returns-in_ok-exc-in-Token-clause-shorter c =
    λ u.
    let before = popped_length c.args.self.now.frames.items c.pop.new.self.items c.in-Some.frame (Token c.in-Token.limiter)
    c.in-Some.ensures.items c.in-Token.is in
    omega (arith, before)

pub returns-in_ok-exc-in-Token-clause-step : goal.returns-in_ok-exc-in-Token-clause-step
returns-in_ok-exc-in-Token-clause-step c =
    let self = record c.args.self.now { frames = c.pop.new.self } in
    let e = c.in_ok-exc-in-Token.ensures in
    subst (λ (x : Option held.Exc). StepsAs (state_of c.args.self.now c.args.world.now) (state_of self c.give_back.new.world) (option_map exc_of c.args.exc)
    (On x)) (sym e.same)
    (takes_token (state_of self c.args.world.now) (state_of self c.give_back.new.world) c.args.self.now.frames.items c.in-Token.limiter c.args.exc
    (c.in-Some.ensures.items ∙ ap (λ (f : Frame). c.pop.new.self.items ++ f ∷ []) c.in-Token.is)
    (ap (λ (w : World). state_of self w) e.rest
    ∙ ap (λ (xs : List ObjectAct). record (state_of self c.args.world.now) { acts = xs }) e.noted))

pub returns-in_ok-exc-in-Token-clause-keeps : goal.returns-in_ok-exc-in-Token-clause-keeps
returns-in_ok-exc-in-Token-clause-keeps c =
    let self = record c.args.self.now { frames = c.pop.new.self } in
    keeps_then c.args.me c.args.self.now self self c.args.world.now c.args.world.now c.give_back.new.world
    (keeps_task c.args.me c.args.self.now self c.args.world.now refl c.requires.task_state)
    (keeps_acted c.args.me self c.args.world.now c.give_back.new.world c.in_ok-exc-in-Token.ensures.rest c.requires.task_state)

pub returns-in-Received-clause-fits : goal.returns-in-Received-clause-fits
returns-in-Received-clause-fits c =
    let s = state_of (record c.args.self.now { frames = c.pop.new.self }) c.args.world.now in
    let f = Received c.in-Received.part in
    let fits = popped_fits s c.args.self.now.frames.items c.in-Some.frame f c.in-Some.ensures.items c.in-Received.is c.requires.fits in
    frame_off s f refl fits (in_range_with s f fits) (starts_with s f fits)

pub returns-in-Received-clause-shorter : goal.returns-in-Received-clause-shorter
returns-in-Received-clause-shorter c =
    λ u.
    let before = popped_length c.args.self.now.frames.items c.pop.new.self.items c.in-Some.frame (Received c.in-Received.part)
    c.in-Some.ensures.items c.in-Received.is in
    omega (arith, before)

pub returns-in-Received-clause-step : goal.returns-in-Received-clause-step
returns-in-Received-clause-step c =
    takes_received (state_of (record c.args.self.now { frames = c.pop.new.self }) c.args.world.now) c.args.self.now.frames.items c.in-Received.part
    c.args.exc (c.in-Some.ensures.items ∙ ap (λ (f : Frame). c.pop.new.self.items ++ f ∷ []) c.in-Received.is)
