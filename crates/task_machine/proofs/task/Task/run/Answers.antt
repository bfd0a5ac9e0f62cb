use Rattle.std.proofs.Common.{ℕ, ◌-◌, false, Some, None, List, [], ◌∷◌, ap, ◌∙◌, refl, sym, subst}
use Rattle.job_tree.specs.Blocks.{step_of}
use Rattle.job_tree.specs.InRange.{IsInRangeStep}
use Rattle.job_tree.specs.Starting.{StartsAt}
use Rattle.job_tree.specs.declared.step.Step.{Step}
use Rattle.turn_semantics.specs.Placed.{in_body}
use Rattle.task_machine.specs.declared.world.World.{World}
use Rattle.task_machine.specs.Frames.{frames_of}
use Rattle.exceptions.specs.Exceptions.{raised}
use Rattle.job_tree.specs.declared.step.Step.TheVariants as code
use Rattle.job_meaning.specs.Moments.{tick_of, far}
use Rattle.job_meaning.specs.Asking as ask
use Rattle.job_meaning.specs.Rest.{asking}
use Rattle.job_meaning.specs.Rest as rest
use Rattle.turn_semantics.specs.Steps.{onward, blocks_on, sleeps}
use Rattle.task_machine.specs.declared.task.Task.{Task}
use Rattle.task_machine.specs.States.{state_of}
use Rattle.task_machine.proofs.AdvancesSteps.{takes_sleeps, takes_alone, takes_wait, takes_ask, takes_close, takes_cancel, takes_set}
use Rattle.task_machine.proofs.StateLemmas.{state_eq}
use Rattle.task_machine.proofs.TaskFits.{cuts_fit, acted_fits, cancelled_fits, set_fits}
use Rattle.task_machine.proofs.Waiters.{opened_still, keeps_acted, keeps_cancelled, keeps_set}
use Rattle.task_machine.proofs.task.Task.run.Goals as goal

pub ask-requires : goal.ask-requires
ask-requires c = record { cuts = cuts_fit (state_of c.args.self.now c.args.world.now) None c.requires.fits; lent = c.requires.fits.runs.lent }

pub ask-requires-in-Find : goal.ask-requires-in-Find
ask-requires-in-Find c = record { cuts = cuts_fit (state_of c.args.self.now c.args.world.now) None c.requires.fits; lent = c.requires.fits.runs.lent }

pub ask-requires-in-Head : goal.ask-requires-in-Head
ask-requires-in-Head c = record { cuts = cuts_fit (state_of c.args.self.now c.args.world.now) None c.requires.fits; lent = c.requires.fits.runs.lent }

pub ask-requires-in-Longest : goal.ask-requires-in-Longest
ask-requires-in-Longest c = record { cuts = cuts_fit (state_of c.args.self.now c.args.world.now) None c.requires.fits; lent = c.requires.fits.runs.lent }

pub ask-requires-in-Need : goal.ask-requires-in-Need
ask-requires-in-Need c = record { cuts = cuts_fit (state_of c.args.self.now c.args.world.now) None c.requires.fits; lent = c.requires.fits.runs.lent }

pub returns-in-Sleep-clause-step : goal.returns-in-Sleep-clause-step
returns-in-Sleep-clause-step c = λ a.
    takes_sleeps (state_of c.args.self.now c.args.world.now) c.args.step.now a (code.Sleep c.in-Sleep.ticks) (state_of c.sleep.new.self c.args.world.now) c.sleep.result c.in-Sleep.ticks c.in-Sleep.is
    (λ cancelled_from ss fs ps count. refl) (ap (λ (t : Task). state_of t c.args.world.now) c.sleep.ensures.stays) c.sleep.ensures.sleeps

pub returns-in-Checkpoint-clause-step : goal.returns-in-Checkpoint-clause-step
returns-in-Checkpoint-clause-step c = λ a.
    takes_sleeps (state_of c.args.self.now c.args.world.now) c.args.step.now a (code.Checkpoint) (state_of c.sleep-in-Checkpoint.new.self c.args.world.now) c.sleep-in-Checkpoint.result 0 c.in-Checkpoint.is
    (λ cancelled_from ss fs ps count. refl)
    (ap (λ (t : Task). state_of t c.args.world.now) c.sleep-in-Checkpoint.ensures.stays) c.sleep-in-Checkpoint.ensures.sleeps

pub returns-in-Forever-clause-step : goal.returns-in-Forever-clause-step
returns-in-Forever-clause-step c = λ a.
    takes_sleeps (state_of c.args.self.now c.args.world.now) c.args.step.now a (code.Forever) (state_of c.sleep-in-Forever.new.self c.args.world.now) c.sleep-in-Forever.result c.saturating_sub.result c.in-Forever.is
    (λ cancelled_from ss fs ps count. ap (λ (n : ℕ). sleeps c.args.world.now.clock cancelled_from false n c.args.world.now.tick (rest.steps_left ss ∷ fs) ps)
    (sym (c.saturating_sub.ensures ∙ ap (λ (t : ℕ). far - t) c.tick.ensures)))
    (ap (λ (t : Task). state_of t c.args.world.now) c.sleep-in-Forever.ensures.stays) c.sleep-in-Forever.ensures.sleeps

pub returns-in-Pace-clause-step : goal.returns-in-Pace-clause-step
returns-in-Pace-clause-step c = λ a.
    takes_alone (state_of c.args.self.now c.args.world.now) c.args.step.now a (code.Pace c.in-Pace.per_tick) (state_of c.ask.new.self c.args.world.now) c.ask.result
    (λ fs ps. blocks_on (asking ask.count (ask.paces c.in-Pace.per_tick)) fs ps) c.in-Pace.is (λ cancelled_from ss fs ps count. refl)
    (λ fs ps. record { frames = refl; places = refl; made = refl; begun = refl; waits = tt }) (λ fs ps. tt)
    (ap (λ (t : Task). state_of t c.args.world.now) c.ask.ensures.stays) (c.ask.ensures.asks c.args.world.now.clock)

pub returns-in-Find-clause-step : goal.returns-in-Find-clause-step
returns-in-Find-clause-step c = λ a.
    takes_alone (state_of c.args.self.now c.args.world.now) c.args.step.now a (code.Find c.in-Find.text) (state_of c.ask-in-Find.new.self c.args.world.now) c.ask-in-Find.result
    (λ fs ps. blocks_on (asking (ask.find c.bytes.result.now) ask.shows) fs ps) c.in-Find.is (λ cancelled_from ss fs ps count. ap (λ (bytes : List ℕ). blocks_on (asking (ask.find bytes) ask.shows) (rest.steps_left ss ∷ fs) ps) (sym c.bytes.ensures))
    (λ fs ps. record { frames = refl; places = refl; made = refl; begun = refl; waits = tt }) (λ fs ps. tt)
    (ap (λ (t : Task). state_of t c.args.world.now) c.ask-in-Find.ensures.stays) (c.ask-in-Find.ensures.asks c.args.world.now.clock)

pub returns-in-Head-clause-step : goal.returns-in-Head-clause-step
returns-in-Head-clause-step c = λ a.
    takes_alone (state_of c.args.self.now c.args.world.now) c.args.step.now a (code.Head c.in-Head.count) (state_of c.ask-in-Head.new.self c.args.world.now) c.ask-in-Head.result
    (λ fs ps. blocks_on (asking (ask.head c.in-Head.count) ask.shows) fs ps) c.in-Head.is (λ cancelled_from ss fs ps count. refl)
    (λ fs ps. record { frames = refl; places = refl; made = refl; begun = refl; waits = tt }) (λ fs ps. tt)
    (ap (λ (t : Task). state_of t c.args.world.now) c.ask-in-Head.ensures.stays) (c.ask-in-Head.ensures.asks c.args.world.now.clock)

pub returns-in-Longest-clause-step : goal.returns-in-Longest-clause-step
returns-in-Longest-clause-step c = λ a.
    takes_alone (state_of c.args.self.now c.args.world.now) c.args.step.now a (code.Longest) (state_of c.ask-in-Longest.new.self c.args.world.now) c.ask-in-Longest.result
    (λ fs ps. blocks_on (asking ask.longest ask.shows) fs ps) c.in-Longest.is (λ cancelled_from ss fs ps count. refl)
    (λ fs ps. record { frames = refl; places = refl; made = refl; begun = refl; waits = tt }) (λ fs ps. tt)
    (ap (λ (t : Task). state_of t c.args.world.now) c.ask-in-Longest.ensures.stays) (c.ask-in-Longest.ensures.asks c.args.world.now.clock)

pub returns-in-Need-clause-step : goal.returns-in-Need-clause-step
returns-in-Need-clause-step c = λ a.
    takes_alone (state_of c.args.self.now c.args.world.now) c.args.step.now a (code.Need c.in-Need.text c.in-Need.name) (state_of c.ask-in-Need.new.self c.args.world.now) c.ask-in-Need.result
    (λ fs ps. blocks_on (asking (ask.need c.bytes-in-Need.result.now) (ask.needs c.in-Need.name)) fs ps) c.in-Need.is (λ cancelled_from ss fs ps count. ap (λ (bytes : List ℕ). blocks_on (asking (ask.need bytes) (ask.needs c.in-Need.name)) (rest.steps_left ss ∷ fs) ps) (sym c.bytes-in-Need.ensures))
    (λ fs ps. record { frames = refl; places = refl; made = refl; begun = refl; waits = tt }) (λ fs ps. tt)
    (ap (λ (t : Task). state_of t c.args.world.now) c.ask-in-Need.ensures.stays) (c.ask-in-Need.ensures.asks c.args.world.now.clock)

pub returns-in_ok-moved-in-Raise-clause-step : goal.returns-in_ok-moved-in-Raise-clause-step
returns-in_ok-moved-in-Raise-clause-step c = λ a.
    takes_alone (state_of c.args.self.now c.args.world.now) c.args.step.now a (code.Raise c.in-Raise.name) (state_of c.args.self.now c.args.world.now) c.in_ok-moved-in-Raise.moved
    (λ fs ps. onward fs ps
    (Some (raised c.in-Raise.name c.args.self.now.label (tick_of c.args.world.now.clock c.args.world.now.tick)))) c.in-Raise.is
    (λ cancelled_from ss fs ps count. refl) (λ fs ps. record { frames = refl; places = refl; made = refl; begun = refl; waits = tt }) (λ fs ps. tt) refl
    c.in_ok-moved-in-Raise.ensures.raises

pub returns-in_ok-cancel-in-Cancel-clause-step : goal.returns-in_ok-cancel-in-Cancel-clause-step
returns-in_ok-cancel-in-Cancel-clause-step c = λ a.
    let e = c.in_ok-cancel-in-Cancel.ensures in
    takes_cancel (state_of c.args.self.now c.args.world.now) c.args.step.now a
    (state_of c.cancel.new.self c.cancel.new.world) c.in-Cancel.name
    c.in-Cancel.is (state_eq _ _ _ _ e.stays e.rest) e.at

pub returns-in_ok-cancel-in-Cancel-clause-fits : goal.returns-in_ok-cancel-in-Cancel-clause-fits
returns-in_ok-cancel-in-Cancel-clause-fits c =
    let e = c.in_ok-cancel-in-Cancel.ensures in
    cancelled_fits (state_of c.args.self.now c.args.world.now) (state_of c.cancel.new.self c.cancel.new.world) None c.requires.fits e.keys
    (state_eq _ _ _ _ e.stays e.rest)

pub returns-in_ok-cancel-in-Cancel-clause-keeps : goal.returns-in_ok-cancel-in-Cancel-clause-keeps
returns-in_ok-cancel-in-Cancel-clause-keeps c =
    let e = c.in_ok-cancel-in-Cancel.ensures in
    keeps_cancelled c.args.me c.args.self.now c.cancel.new.self c.args.world.now c.cancel.new.world e.stays e.rest c.requires.task_state

pub returns-in_ok-set-in-Set-clause-step : goal.returns-in_ok-set-in-Set-clause-step
returns-in_ok-set-in-Set-clause-step c = λ a.
    let e = c.in_ok-set-in-Set.ensures in
    takes_set (state_of c.args.self.now c.args.world.now) c.args.step.now a (state_of c.set.new.self c.set.new.world) c.in-Set.name
    c.stacks_are_chains.ensures.chain c.in-Set.is (state_eq _ _ _ _ e.stays e.rest) e.at

pub returns-in_ok-set-in-Set-clause-fits : goal.returns-in_ok-set-in-Set-clause-fits
returns-in_ok-set-in-Set-clause-fits c =
    let e = c.in_ok-set-in-Set.ensures in
    set_fits (state_of c.args.self.now c.args.world.now) (state_of c.set.new.self c.set.new.world) None c.requires.fits
    (state_eq _ _ _ _ e.stays e.rest)

pub returns-in_ok-set-in-Set-clause-keeps : goal.returns-in_ok-set-in-Set-clause-keeps
returns-in_ok-set-in-Set-clause-keeps c =
    let e = c.in_ok-set-in-Set.ensures in
    keeps_set c.args.me c.args.self.now c.set.new.self c.args.world.now c.set.new.world e.stays e.rest c.requires.task_state

pub returns-in-Wait-clause-step : goal.returns-in-Wait-clause-step
returns-in-Wait-clause-step c = λ a.
    takes_wait (state_of c.args.self.now c.args.world.now) c.args.step.now a (state_of c.wait_for.new.self c.args.world.now) c.wait_for.result
    c.in-Wait.name c.in-Wait.is (ap (λ (t : Task). state_of t c.args.world.now) c.wait_for.ensures.stays) c.wait_for.ensures.moves

pub returns-in-Wait-clause-keeps : goal.returns-in-Wait-clause-keeps
returns-in-Wait-clause-keeps c = record {
  task = c.wait_for.ensures.stays ∙ ap (λ (t : Task). record c.args.self.now {
    frames = t.frames;
    own = t.own;
    task_state = c.wait_for.new.self.task_state;
    entries = t.entries;
    cancelled_from = t.cancelled_from;
    cancelled = t.cancelled;
  }) (sym c.wait_for.ensures.stays);
  world = refl;
  in_range = c.wait_for.ensures.task_state c.requires.task_state;
  waiters = opened_still c.args.me c.args.world.now.book;
}

pub returns-in-Sleep-clause-keeps : goal.returns-in-Sleep-clause-keeps
returns-in-Sleep-clause-keeps c = record {
  task = c.sleep.ensures.stays ∙ ap (λ (t : Task). record c.args.self.now {
    frames = t.frames;
    own = t.own;
    task_state = c.sleep.new.self.task_state;
    entries = t.entries;
    cancelled_from = t.cancelled_from;
    cancelled = t.cancelled;
  }) (sym c.sleep.ensures.stays);
  world = refl;
  in_range = c.sleep.ensures.task_state c.requires.task_state;
  waiters = opened_still c.args.me c.args.world.now.book;
}

pub returns-in-Checkpoint-clause-keeps : goal.returns-in-Checkpoint-clause-keeps
returns-in-Checkpoint-clause-keeps c = record {
  task = c.sleep-in-Checkpoint.ensures.stays ∙ ap (λ (t : Task). record c.args.self.now {
    frames = t.frames;
    own = t.own;
    task_state = c.sleep-in-Checkpoint.new.self.task_state;
    entries = t.entries;
    cancelled_from = t.cancelled_from;
    cancelled = t.cancelled;
  }) (sym c.sleep-in-Checkpoint.ensures.stays);
  world = refl;
  in_range = c.sleep-in-Checkpoint.ensures.task_state c.requires.task_state;
  waiters = opened_still c.args.me c.args.world.now.book;
}

pub returns-in-Forever-clause-keeps : goal.returns-in-Forever-clause-keeps
returns-in-Forever-clause-keeps c = record {
  task = c.sleep-in-Forever.ensures.stays ∙ ap (λ (t : Task). record c.args.self.now {
    frames = t.frames;
    own = t.own;
    task_state = c.sleep-in-Forever.new.self.task_state;
    entries = t.entries;
    cancelled_from = t.cancelled_from;
    cancelled = t.cancelled;
  }) (sym c.sleep-in-Forever.ensures.stays);
  world = refl;
  in_range = c.sleep-in-Forever.ensures.task_state c.requires.task_state;
  waiters = opened_still c.args.me c.args.world.now.book;
}

pub ask_of-requires-clause-cuts : goal.ask_of-requires-clause-cuts
ask_of-requires-clause-cuts c = cuts_fit (state_of c.args.self.now c.args.world.now) None c.requires.fits

pub ask_of-requires-clause-lent : goal.ask_of-requires-clause-lent
ask_of-requires-clause-lent c = c.requires.fits.runs.lent

pub ask_of-requires-clause-in_range : goal.ask_of-requires-clause-in_range
ask_of-requires-clause-in_range c = subst (λ (s : Step). IsInRangeStep (step_of s)) c.in-Ask.is c.requires.in_range

pub ask_of-requires-clause-starts : goal.ask_of-requires-clause-starts
ask_of-requires-clause-starts c =
    subst (λ (s : Step). StartsAt (in_body (frames_of (λ id. []) c.args.self.now.frames.items)) (step_of s)) c.in-Ask.is c.requires.starts

pub returns-in-Ask-clause-step : goal.returns-in-Ask-clause-step
returns-in-Ask-clause-step c = λ a.
    takes_ask (state_of c.args.self.now c.args.world.now) c.args.step.now a (state_of c.ask_of.new.self c.args.world.now) c.ask_of.result
    c.in-Ask.name c.in-Ask.ask c.in-Ask.body c.in-Ask.is (ap (λ (t : Task). state_of t c.args.world.now) c.ask_of.ensures.stays)
    c.ask_of.ensures.moves

pub returns-in-Ask-clause-keeps : goal.returns-in-Ask-clause-keeps
returns-in-Ask-clause-keeps c = record {
  task = c.ask_of.ensures.stays ∙ ap (λ (t : Task). record c.args.self.now {
    frames = t.frames;
    own = t.own;
    task_state = c.ask_of.new.self.task_state;
    entries = t.entries;
    cancelled_from = t.cancelled_from;
    cancelled = t.cancelled;
  }) (sym c.ask_of.ensures.stays);
  world = refl;
  in_range = c.ask_of.ensures.task_state c.requires.task_state;
  waiters = opened_still c.args.me c.args.world.now.book;
}

pub returns-in_ok-close-in-Close-clause-step : goal.returns-in_ok-close-in-Close-clause-step
returns-in_ok-close-in-Close-clause-step c = λ a.
    let e = c.in_ok-close-in-Close.ensures in
    takes_close (state_of c.args.self.now c.args.world.now) c.args.step.now a (state_of c.args.self.now c.close.new.world) c.in-Close.name
    c.in-Close.is (ap (λ (w : World). state_of c.args.self.now w) e.rest) e.at

pub returns-in_ok-close-in-Close-clause-fits : goal.returns-in_ok-close-in-Close-clause-fits
returns-in_ok-close-in-Close-clause-fits c =
    acted_fits (state_of c.args.self.now c.args.world.now) (state_of c.args.self.now c.close.new.world) None c.requires.fits
    (ap (λ (w : World). state_of c.args.self.now w) c.in_ok-close-in-Close.ensures.rest)

pub returns-in_ok-close-in-Close-clause-keeps : goal.returns-in_ok-close-in-Close-clause-keeps
returns-in_ok-close-in-Close-clause-keeps c =
    keeps_acted c.args.me c.args.self.now c.args.world.now c.close.new.world c.in_ok-close-in-Close.ensures.rest c.requires.task_state
