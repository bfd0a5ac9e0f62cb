use Rattle.std.proofs.Common.{None, [], ◌∷◌, ◌++◌, List, ap, sym, ◌∙◌, subst, refl, arith}
use Rattle.std.proofs.lemmas.List.{nil_from_length}
use Rattle.job_tree.specs.Blocks.{step_of, steps_of}
use Rattle.job_tree.specs.InRange.{AreInRange}
use Rattle.job_tree.specs.Starting.{StartsIn, StartsAt}
use Rattle.job_tree.specs.declared.step.Step.{Step}
use Rattle.job_meaning.specs.Rest as rest
use Rattle.turn_semantics.specs.Bound.{turn_length, frames_length}
use Rattle.turn_semantics.specs.Placed.{in_body}
use Rattle.task_machine.specs.declared.frame.Frame.TheVariants.{Steps}
use Rattle.task_machine.specs.declared.task.Task.{Task}
use Rattle.task_machine.specs.Frames.{frames_of}
use Rattle.task_machine.specs.Standing.{StepsAs, with_frames}
use Rattle.task_machine.specs.States.{State, state_of}
use Rattle.task_machine.specs.Waking.{IsInRangeTaskState}
use Rattle.task_machine.proofs.Advances.{takes_skipped, takes_last, takes_well}
use Rattle.task_machine.proofs.FrameLemmas.{frames_push}
use Rattle.task_machine.proofs.TaskFits.{frame_off, pushed_fits, in_range_with, starts_with, steps_longer}
use Rattle.task_machine.proofs.Waiters.{keeps_task, keeps_then}
use Rattle.task_machine.proofs.task.Task.go_on.Goals as goal

pub returns-in-Some-clause-fits : goal.returns-in-Some-clause-fits
returns-in-Some-clause-fits c =
    let s = (state_of c.args.self.now c.args.world.now) in
    let f = Steps c.args.steps in
    frame_off s f refl c.requires.fits (in_range_with s f c.requires.fits).1 (starts_with s f c.requires.fits).1

pub returns-in-Some-clause-shorter : goal.returns-in-Some-clause-shorter
returns-in-Some-clause-shorter c = λ u. steps_longer c.args.self.now.frames.items (Steps c.args.steps) (steps_of c.args.steps.now) refl

pub returns-in_default-split_first-clause-fits : goal.returns-in_default-split_first-clause-fits
returns-in_default-split_first-clause-fits c =
    let s = (state_of c.args.self.now c.args.world.now) in
    let f = Steps c.args.steps in
    frame_off s f refl c.requires.fits (in_range_with s f c.requires.fits).1 (starts_with s f c.requires.fits).1

pub returns-in_default-split_first-clause-shorter : goal.returns-in_default-split_first-clause-shorter
returns-in_default-split_first-clause-shorter c =
    λ u. steps_longer c.args.self.now.frames.items (Steps c.args.steps) (steps_of c.args.steps.now) refl

pub run-requires-clause-in_range : goal.run-requires-clause-in_range
run-requires-clause-in_range c =
    let all : AreInRange (steps_of c.args.steps.now) = (in_range_with (state_of c.args.self.now c.args.world.now) (Steps c.args.steps) c.requires.fits).0 in
    (subst (λ (ss : List Step). AreInRange (steps_of ss)) c.in-Some-split_first.ensures.cases.0 all).0

pub run-requires-clause-starts : goal.run-requires-clause-starts
run-requires-clause-starts c =
    let fs = c.args.self.now.frames.items in
    let all : StartsIn (in_body (frames_of (λ id. []) fs)) (steps_of c.args.steps.now) =
    (starts_with (state_of c.args.self.now c.args.world.now) (Steps c.args.steps) c.requires.fits).0 in
    subst (λ (xs : List rest.Frame). StartsAt (in_body xs) (step_of c.in-Some-split_first.step.now))
    (sym (c.in_ok-push.ensures.frames (λ id. [])))
    (subst (λ (ss : List Step). StartsIn (in_body (frames_of (λ id. []) fs)) (steps_of ss)) c.in-Some-split_first.ensures.cases.0 all).0

pub run-requires-clause-fits : goal.run-requires-clause-fits
run-requires-clause-fits c =
    let s = (state_of c.args.self.now c.args.world.now) in
    let fs = c.args.self.now.frames.items in
    let split = c.in-Some-split_first.ensures.cases.0 in
    let in_range = in_range_with s (Steps c.args.steps) c.requires.fits in
    let starts = starts_with s (Steps c.args.steps) c.requires.fits in
    pushed_fits s (state_of c.push.new.self c.args.world.now) (Steps c.args.steps) (Steps c.in-Some-split_first.rest) refl c.requires.fits
    c.in_ok-push.ensures.blocks c.in_ok-push.ensures.received (c.in_ok-push.ensures.frames (λ id. []))
    ((subst (λ (ss : List Step). AreInRange (steps_of ss)) split in_range.0).1, in_range.1)
    ((subst (λ (ss : List Step). StartsIn (in_body (frames_of (λ id. []) fs)) (steps_of ss)) split starts.0).1, starts.1)
    (ap (λ (t : Task). state_of t c.args.world.now) c.in_ok-push.ensures.stays)

pub returns-clause-shorter : goal.returns-clause-shorter
returns-clause-shorter c =
    λ u.
    let fs = c.args.self.now.frames.items in
    let ran = c.in_ok-moved.ensures.length in
    let before = ap frames_length (frames_push (λ id. []) fs (Steps c.args.steps)) in
    let after = ap frames_length (c.in_ok-push.ensures.frames (λ id. [])) in
    let split = ap (λ (ss : List Step). turn_length (steps_of ss)) c.in-Some-split_first.ensures.cases.0 in
    omega (arith, ran, before, after, split)

pub returns-in-Some-clause-step : goal.returns-in-Some-clause-step
returns-in-Some-clause-step c = takes_skipped (state_of c.args.self.now c.args.world.now) c.args.steps c.args.exc c.in-Some.exc c.in-Some.is

pub returns-in_default-split_first-clause-step : goal.returns-in_default-split_first-clause-step
returns-in_default-split_first-clause-step c =
    takes_last (state_of c.args.self.now c.args.world.now) c.args.steps c.args.exc (nil_from_length c.args.steps.now c.in_default-split_first.ensures.cases) c.in_default.is

pub returns-clause-step : goal.returns-clause-step
returns-clause-step c =
    let whole = c.args.self.now.frames.items ++ Steps c.args.steps ∷ [] in
    let u = state_of c.run.new.self c.run.new.world in
    takes_well (with_frames (state_of c.args.self.now c.args.world.now) whole) u c.in_ok-moved.moved c.args.exc c.in_default.is
    (subst (λ (s : State). StepsAs (with_frames s whole) u None c.in_ok-moved.moved)
    (ap (λ (t : Task). state_of t c.args.world.now) c.in_ok-push.ensures.stays)
    (c.in_ok-moved.ensures.step
    (record {
      outer = c.args.self.now.frames.items;
      steps = c.args.steps;
      left = c.in-Some-split_first.rest;
      first_is = c.in-Some-split_first.ensures.cases.0;
      held = c.in_ok-push.ensures.items;
    })))

pub returns-clause-keeps : goal.returns-clause-keeps
returns-clause-keeps c =
    let pushed = c.in_ok-push.ensures.stays in
    keeps_then c.args.me c.args.self.now c.push.new.self c.run.new.self c.args.world.now c.args.world.now c.run.new.world
    (keeps_task c.args.me c.args.self.now c.push.new.self c.args.world.now
    (pushed ∙ ap (λ (t : Task). record c.args.self.now { frames = c.push.new.self.frames; task_state = t.task_state }) (sym pushed))
    (subst IsInRangeTaskState (sym (ap (λ (t : Task). t.task_state) pushed)) c.requires.task_state)) c.in_ok-moved.ensures.keeps
