-- A step of the code that is one of the steps of a block, as the definitions' step: one lemma for each kind.
use Rattle.input_lines.specs.declared.part.Part.{Part}
use Rattle.input_lines.specs.Part.{buffer_of, range_of}
use Rattle.input_lines.specs.Lines.{Range}
use Rattle.std.proofs.Common.{◌≡◌, ℕ, Bool, true, false, Option, Some, None, List, [], ◌∷◌, ◌++◌, refl, ap, sym, ◌∙◌, subst}
use Rattle.turn_semantics.specs.Lists.{IsAmong}
use Rattle.cancel_scopes.specs.Sight.{Tick, seen}
use Rattle.cancel_scopes.specs.Tree.{IsChain}
use Rattle.exceptions.specs.Exceptions.{Label}
use Rattle.job_tree.specs.Tree as tree
use Rattle.job_tree.specs.InRange.{AreInRange}
use Rattle.job_tree.specs.Blocks.{steps_of, step_of as step_in, handled_of, cleaned_of}
use Rattle.job_tree.specs.declared.object.Ask.{Ask}
use Rattle.job_tree.specs.declared.object.ObjectKind.{ObjectKind}
use Rattle.job_tree.specs.declared.deadline.Deadline.{Deadline}
use Rattle.job_tree.specs.declared.step.Step.{Step}
use Rattle.job_tree.specs.declared.step.Step.TheVariants as code
use Rattle.job_tree.specs.declared.step.Handler.{Handler}
use Rattle.job_meaning.specs.Log.{Table, opens, closes}
use Rattle.job_meaning.specs.Moments.{due}
use Rattle.job_meaning.specs.Walk.{Here, stack_for}
use Rattle.job_meaning.specs.Rest as rest
use Rattle.job_meaning.specs.Rest.{inside, path_in, part_in, asking}
use Rattle.nursery_book.specs.declared.book.NurseryBook.{NurseryBook}
use Rattle.turn_semantics.specs.Midway.{Place, label_among, stack_at, Move}
use Rattle.turn_semantics.specs.Names.{names_at, AreNew, IsNew, NewIn}
use Rattle.turn_semantics.specs.Steps.{onward, makes, sleeps, waits_on, asks_of, acts_on, signs_to, begins_passes, step_on, step_frames}
use Rattle.task_machine.specs.declared.frame.Frame.{Frame}
use Rattle.task_machine.specs.declared.frame.Frame.TheVariants.{Steps, Scope, Event, Nursery}
use Rattle.task_machine.specs.declared.serving.Act.TheVariants.{Opens}
use Rattle.task_machine.specs.declared.stop.Moved.{Moved}
use Rattle.task_machine.specs.declared.stop.Moved.TheVariants.{On}
use Rattle.task_machine.specs.Acts.{Enters, scoping_in}
use Rattle.task_machine.specs.Entered.{EntersAt, a_scope_at, an_event_at, EntersBlock, EntersNursery, CancelsAt, SetsAt, ClosesAt}
use Rattle.task_machine.specs.Fitting.{blocks_of, AreLoops}
use Rattle.task_machine.specs.Frames.{frame_of, frames_of}
use Rattle.task_machine.specs.Stacked.{AreAt, AwaitsEvent}
use Rattle.task_machine.specs.Standing.{AtStep, before_step, HasBlock, Stands, Took, StepsAs, with_frames}
use Rattle.task_machine.specs.Started.{StartsOne, StartsOver}
use Rattle.task_machine.specs.States.{State, here_at, now_at, path_at, scope_at, stack_in, lent_at}
use Rattle.task_machine.specs.Stops.{Numbers, MovesAs}
use Rattle.task_machine.proofs.FrameLemmas.{frames_pushed, path_inside, cuts_inside}
use Rattle.task_machine.proofs.Acting.{WaitsElse, waits_else}
use Rattle.task_machine.proofs.Blocks.{IsScope}
use Rattle.task_machine.proofs.Tooks.{LeavesAlone, took_onward, took_task_states, took_sleep, took_wait, took_ask, took_close, took_cancel, took_set}
use Rattle.task_machine.proofs.TooksEntered.{took_scope, took_object, took_nursery}
use Rattle.task_machine.proofs.TooksStarted.{here_inside, took_start, took_start_over}
use Rattle.task_machine.proofs.Advances.{takes_step, blocks_onto, own_keys, blocks_same, blocks_off}

-- the label of that name for what is entered in a state
abbrev pub label_there : State → List ℕ → Label
label_there b name = record { name = name; indices = path_at b }

-- ---- the state in which a step is done

module _ (b : State) (first : Step) (a : AtStep b first) where
  -- the frames before the step
  abbrev whole : List Frame
  whole = a.outer ++ Steps a.steps ∷ []

  -- a task has the same blocks once the first of its steps is taken
  pub blocks_put : blocks_of b.frames ≡ blocks_of whole
  blocks_put = sym (blocks_off a.outer b.frames (Steps a.left) a.held refl) ∙ blocks_off a.outer whole (Steps a.steps) refl refl

  -- the frames once the first step is taken: the steps after it, and the outer ones
  pub frames_put : (numbers : Numbers) →
      frames_of numbers b.frames ≡ rest.steps_left (steps_of a.left.now) ∷ frames_of numbers a.outer
  frames_put numbers = frames_pushed numbers a.outer b.frames (Steps a.left) a.held

  -- where the task is inside the frames that enclose its steps, as the definitions compute it from them, is where it is inside
  -- its passes
  pub inside_is : (numbers : Numbers) → inside (frames_of numbers a.outer) (here_at b) ≡ here_inside b
  inside_is numbers =
      ap (λ (path : List ℕ). record (here_at b) { part = part_in (buffer_of b.part) (frames_of numbers a.outer) (range_of b.part); path = path })
      (ap (λ (gs : List rest.Frame). path_in gs b.label.indices) (sym (frames_put numbers))
      ∙ path_inside numbers b.frames b.label.indices)
      ∙ ap (λ (lent : Range). record (here_at b) { part = lent; path = path_at b })
      (ap (λ (gs : List rest.Frame). part_in (buffer_of b.part) gs (range_of b.part)) (sym (frames_put numbers))
      ∙ cuts_inside numbers b.frames (buffer_of b.part) (range_of b.part))

  -- what the definitions do for the step
  abbrev step_there : Table → Numbers → List Place → ℕ → Move
  step_there cancelled_from numbers ps count =
      step_on cancelled_from (now_at b) (here_inside b) (step_in first) (steps_of a.left.now) (frames_of numbers a.outer) ps count

  -- what the definitions do for the step is their step; its scope, if it enters one, has a name that no enclosing one has
  pub takes_on : (u : State) (goes : Moved) →
      ((cancelled_from : Table) (numbers : Numbers) (ps : List Place) (count : ℕ) → Stands (before_step b first a) cancelled_from numbers None ps →
      IsNew (names_at ps) (step_in first) →
      Took (before_step b first a) u goes cancelled_from numbers
      (step_on cancelled_from (now_at b) (here_inside b) (step_in first) (steps_of a.left.now) (frames_of numbers a.outer) ps count)) →
      StepsAs (before_step b first a) u None goes
  takes_on u goes takes =
      takes_step b u whole a.outer (Steps a.steps) goes None refl
      (λ cancelled_from numbers ps count stands.
      subst
      (λ (ss : List Step). Took (before_step b first a) u goes cancelled_from numbers
      (step_frames cancelled_from (now_at b) (here_at b) (rest.steps_left (steps_of ss) ∷ frames_of numbers a.outer) ps None count))
      (sym a.first_is)
      (subst (λ (h : Here). Took (before_step b first a) u goes cancelled_from numbers
      (step_on cancelled_from (now_at b) h (step_in first) (steps_of a.left.now) (frames_of numbers a.outer) ps count))
      (sym (inside_is numbers))
      (takes cancelled_from numbers ps count stands
      (subst (λ (ss : List Step). AreNew (names_at ps) (steps_of ss)) a.first_is
      (subst (λ (gs : List rest.Frame). NewIn gs ps) (frames_pushed numbers a.outer whole (Steps a.steps) refl) stands.new).0).0)))

  -- the definitions' step, for a step that is known
  on_known : (s : Step) → first ≡ s → (cancelled_from : Table) (numbers : Numbers) (ps : List Place) (count : ℕ) →
      step_on cancelled_from (now_at b) (here_inside b) (step_in first) (steps_of a.left.now) (frames_of numbers a.outer) ps count
      ≡ step_on cancelled_from (now_at b) (here_inside b) (step_in s) (steps_of a.left.now) (frames_of numbers a.outer) ps count
  on_known s is cancelled_from numbers ps count =
      ap (λ (x : Step). step_on cancelled_from (now_at b) (here_inside b) (step_in x) (steps_of a.left.now) (frames_of numbers a.outer) ps count) is

  -- ---- a sleep

  -- a step that sleeps so many ticks, if the code stops or continues as a sleep of its ticks does, is the definitions' step
  pub takes_sleeps : (s : Step) (u : State) (goes : Moved) (ticks : ℕ) → first ≡ s →
      ((cancelled_from : Table) (ss : tree.Steps) (fs : List rest.Frame) (ps : List Place) (count : ℕ) →
      step_on cancelled_from (now_at b) (here_inside b) (step_in s) ss fs ps count
      ≡ sleeps b.clock cancelled_from false ticks b.tick (rest.steps_left ss ∷ fs) ps) →
      u ≡ record b { task_state = u.task_state } →
      ((cancelled_from : Table) (numbers : Numbers) (book : NurseryBook) (fs : List rest.Frame) (ps : List Place) →
      AreAt b.labels b.events cancelled_from (stack_in b) ps →
      MovesAs b.clock numbers book (lent_at b) goes u.task_state (sleeps b.clock cancelled_from false ticks b.tick fs ps)) →
      StepsAs (before_step b first a) u None goes
  takes_sleeps s u goes ticks is known stays sleep =
      takes_on u goes
      (λ cancelled_from numbers ps count stands new.
      subst (λ (v : State). Took (before_step b first a) v goes cancelled_from numbers
      (step_there cancelled_from numbers ps count)) (sym stays)
      (subst (λ (o : Move). Took (before_step b first a) (record b { task_state = u.task_state }) goes cancelled_from numbers o)
      (ap (λ (gs : List rest.Frame). sleeps b.clock cancelled_from false ticks b.tick gs ps) (frames_put numbers)
      ∙ sym (on_known s is cancelled_from numbers ps count ∙ known cancelled_from (steps_of a.left.now) (frames_of numbers a.outer) ps count))
      (took_sleep b whole cancelled_from numbers None ps stands u.task_state goes false ticks blocks_put
      (λ at. sleep cancelled_from numbers b.book (frames_of numbers b.frames) ps at))))

  -- ---- a kernel is asked, or an exception raised

  -- a step at which the task stops or continues, with its scopes and nurseries as they were
  pub takes_alone : (s : Step) (u : State) (goes : Moved) (move : List rest.Frame → List Place → Move) → first ≡ s →
      ((cancelled_from : Table) (ss : tree.Steps) (fs : List rest.Frame) (ps : List Place) (count : ℕ) →
      step_on cancelled_from (now_at b) (here_inside b) (step_in s) ss fs ps count ≡ move (rest.steps_left ss ∷ fs) ps) →
      ((fs : List rest.Frame) (ps : List Place) → LeavesAlone (move fs ps) fs ps) →
      ((fs : List rest.Frame) (ps : List Place) → WaitsElse (move fs ps).stopped) → u ≡ record b { task_state = u.task_state } →
      ((numbers : Numbers) (book : NurseryBook) (fs : List rest.Frame) (ps : List Place) →
      MovesAs b.clock numbers book (lent_at b) goes u.task_state (move fs ps)) →
      StepsAs (before_step b first a) u None goes
  takes_alone s u goes move is known alone others stays moves =
      takes_on u goes
      (λ cancelled_from numbers ps count stands new.
      let gs = rest.steps_left (steps_of a.left.now) ∷ frames_of numbers a.outer in
      let l : LeavesAlone (move gs ps) gs ps = alone gs ps in
      subst (λ (v : State). Took (before_step b first a) v goes cancelled_from numbers
      (step_there cancelled_from numbers ps count)) (sym stays)
      (subst (λ (o : Move). Took (before_step b first a) (record b { task_state = u.task_state }) goes cancelled_from numbers o)
      (sym (on_known s is cancelled_from numbers ps count ∙ known cancelled_from (steps_of a.left.now) (frames_of numbers a.outer) ps count))
      (took_task_states b whole cancelled_from numbers None ps stands b.frames u.task_state goes (move gs ps) blocks_put
      (l.frames ∙ sym (frames_put numbers)) l.places l.made l.begun l.waits (moves numbers b.book gs ps)
      (waits_else b.labels (stack_in b) (move gs ps).stopped u.task_state (move gs ps).places (others gs ps)))))

  -- ---- a wait for an event

  -- a `wait`, where the code stops for the innermost event of its name, if there is one, is the definitions' step
  pub takes_wait : (u : State) (goes : Moved) (name : List ℕ) → first ≡ code.Wait name → u ≡ record b { task_state = u.task_state } →
      ((cancelled_from : Table) (numbers : Numbers) (book : NurseryBook) (fs : List rest.Frame) (ps : List Place) →
      AreAt b.labels b.events cancelled_from (stack_in b) ps →
      MovesAs b.clock numbers book (lent_at b) goes u.task_state (waits_on (label_among true name ps) name b.tick fs ps)
      × AwaitsEvent b.labels (stack_in b) (waits_on (label_among true name ps) name b.tick fs ps).stopped u.task_state ps) →
      StepsAs (before_step b first a) u None goes
  takes_wait u goes name is stays wait =
      takes_on u goes
      (λ cancelled_from numbers ps count stands new.
      subst (λ (v : State). Took (before_step b first a) v goes cancelled_from numbers (step_there cancelled_from numbers ps count)) (sym stays)
      (subst (λ (o : Move). Took (before_step b first a) (record b { task_state = u.task_state }) goes cancelled_from numbers o)
      (ap (λ (gs : List rest.Frame). waits_on (label_among true name ps) name b.tick gs ps) (frames_put numbers)
      ∙ sym (on_known (code.Wait name) is cancelled_from numbers ps count))
      (took_wait b whole cancelled_from numbers None ps stands u.task_state goes name blocks_put
      (λ at. wait cancelled_from numbers b.book (frames_of numbers b.frames) ps at))))

  -- ---- a limiter or channel is asked, or a channel closed

  -- what is asked of the innermost limiter or channel of its name, if there is one and the code does not see a cancellation, is the
  -- definitions' step
  pub takes_ask : (u : State) (goes : Moved) (name : List ℕ) (ask : Ask) (body : tree.Steps) → first ≡ code.Ask name ask body →
      u ≡ record b { task_state = u.task_state } →
      ((cancelled_from : Table) (numbers : Numbers) (book : NurseryBook) (fs : List rest.Frame) (ps : List Place) →
      AreAt b.labels b.events cancelled_from (stack_in b) ps →
      (let o = asks_of b.clock (label_among true name ps) (seen (stack_for b.cancelled b.tick (stack_at cancelled_from ps).scopes) b.tick) name ask
      b.tick body fs ps in
      MovesAs b.clock numbers book (lent_at b) goes u.task_state o × AwaitsEvent b.labels (stack_in b) o.stopped u.task_state ps)) →
      StepsAs (before_step b first a) u None goes
  takes_ask u goes name ask body is stays asks =
      takes_on u goes
      (λ cancelled_from numbers ps count stands new.
      subst (λ (v : State). Took (before_step b first a) v goes cancelled_from numbers (step_there cancelled_from numbers ps count)) (sym stays)
      (subst (λ (o : Move). Took (before_step b first a) (record b { task_state = u.task_state }) goes cancelled_from numbers o)
      (ap (λ (gs : List rest.Frame). asks_of b.clock (label_among true name ps)
      (seen (stack_for b.cancelled b.tick (stack_at cancelled_from ps).scopes) b.tick) name ask b.tick body gs ps) (frames_put numbers)
      ∙ sym (on_known (code.Ask name ask body) is cancelled_from numbers ps count))
      (took_ask b whole cancelled_from numbers None ps stands u.task_state goes name ask body blocks_put
      (λ at. asks cancelled_from numbers b.book (frames_of numbers b.frames) ps at))))

  -- a `close`, where the code closes the innermost channel of its name, if there is one, is the definitions' step
  pub takes_close : (u : State) (name : List ℕ) → first ≡ code.Close name → u ≡ record b { acts = u.acts } → ClosesAt b u name →
      StepsAs (before_step b first a) u None (On None)
  takes_close u name is stays closed =
      takes_on u (On None)
      (λ cancelled_from numbers ps count stands new.
      subst (λ (v : State). Took (before_step b first a) v (On None) cancelled_from numbers
      (step_there cancelled_from numbers ps count)) (sym stays)
      (subst (λ (o : Move). Took (before_step b first a) (record b { acts = u.acts }) (On None) cancelled_from numbers o)
      (ap (λ (gs : List rest.Frame). makes (acts_on (label_among true name ps) b.tick closes) gs ps) (frames_put numbers)
      ∙ sym (on_known (code.Close name) is cancelled_from numbers ps count))
      (took_close b whole cancelled_from numbers None ps stands u.acts name blocks_put
      (subst (λ (v : State). ClosesAt b v name) stays closed))))

  -- ---- a scope is cancelled

  -- a `cancel`, where the code signs the innermost scope of its name, if there is one, is the definitions' step
  pub takes_cancel : (u : State) (name : List ℕ) → first ≡ code.Cancel name → u ≡ record b { tree = u.tree; cancelled = u.cancelled } →
      CancelsAt b u name →
      StepsAs (before_step b first a) u None (On None)
  takes_cancel u name is stays cancels =
      takes_on u (On None)
      (λ cancelled_from numbers ps count stands new.
      subst (λ (v : State). Took (before_step b first a) v (On None) cancelled_from numbers
      (step_there cancelled_from numbers ps count)) (sym stays)
      (subst (λ (o : Move). Took (before_step b first a) (record b { tree = u.tree; cancelled = u.cancelled }) (On None) cancelled_from numbers o)
      (ap (λ (gs : List rest.Frame). makes (signs_to (label_among false name ps) b.tick) gs ps) (frames_put numbers)
      ∙ sym (on_known (code.Cancel name) is cancelled_from numbers ps count))
      (took_cancel b whole cancelled_from numbers None ps stands u.tree u.cancelled name blocks_put
      (subst (λ (v : State). CancelsAt b v name) stays cancels))))

  -- a `set`, where the code sets the innermost event of its name, if there is one, is the definitions' step
  pub takes_set : (u : State) (name : List ℕ) → IsChain b.tree → first ≡ code.Set name →
      u ≡ record b { events = u.events; set = u.set; cancelled = u.cancelled } → SetsAt b u name →
      StepsAs (before_step b first a) u None (On None)
  takes_set u name chain is stays sets =
      takes_on u (On None)
      (λ cancelled_from numbers ps count stands new.
      subst (λ (v : State). Took (before_step b first a) v (On None) cancelled_from numbers
      (step_there cancelled_from numbers ps count)) (sym stays)
      (subst
      (λ (o : Move). Took (before_step b first a) (record b { events = u.events; set = u.set; cancelled = u.cancelled }) (On None) cancelled_from numbers o)
      (ap (λ (gs : List rest.Frame). makes (signs_to (label_among true name ps) b.tick) gs ps) (frames_put numbers)
      ∙ sym (on_known (code.Set name) is cancelled_from numbers ps count))
      (took_set b whole cancelled_from numbers None ps stands u.events u.set u.cancelled name chain blocks_put
      (subst (λ (v : State). SetsAt b v name) stays sets))))

  -- ---- a scope, nursery or event is entered

  module _ (u : State) (name : List ℕ) (shield is_event : Bool) (d : Tick) (body : tree.Steps) (started : u.started ≡ b.started)
      (entries : u.entries ≡ b.entries) (cancelled : u.cancelled ≡ b.cancelled)
      (enters : EntersAt b u (record { label = label_there b name; shield = shield; is_event = is_event }) d)
      (one : Enters (scope_at b) (label_there b name) is_event d (scoping_in b) (scoping_in u)) where
    -- where the code enters one with its label, shield and deadline, it makes the definitions' move
    enters_as : (cancelled_from : Table) (numbers : Numbers) (ps : List Place) → Stands (before_step b first a) cancelled_from numbers None ps →
        (IsAmong name (names_at ps) → ⊥) → (f : Frame) → IsScope f → u.acts ≡ b.acts → u.book ≡ b.book → EntersBlock b.frames u.frames f body →
        Took (before_step b first a) u (On None) cancelled_from numbers
        (makes (rest.enters (label_there b name) b.tick d ∷ [])
        (rest.steps_left body ∷ frame_of numbers f ∷ rest.steps_left (steps_of a.left.now) ∷ frames_of numbers a.outer)
        (record { label = label_there b name; shield = shield; is_event = is_event } ∷ ps))
    enters_as cancelled_from numbers ps stands fresh f scope undone book block =
        subst
        (λ (gs : List rest.Frame). Took (before_step b first a) u (On None) cancelled_from numbers
        (makes (rest.enters (label_there b name) b.tick d ∷ []) (rest.steps_left body ∷ frame_of numbers f ∷ gs)
        (record { label = label_there b name; shield = shield; is_event = is_event } ∷ ps)))
        (frames_put numbers)
        (took_scope b whole cancelled_from numbers None ps stands u
        (record { label = label_there b name; shield = shield; is_event = is_event }) d body blocks_put fresh started entries cancelled enters
        one f scope undone book block)

  module _ (u : State) (name : List ℕ) (deadline : Deadline) (shield : Bool) (body : tree.Steps) (started : u.started ≡ b.started)
      (entries : u.entries ≡ b.entries) (cancelled : u.cancelled ≡ b.cancelled) (undone : u.acts ≡ b.acts)
      (enters : EntersAt b u (a_scope_at (label_there b name) shield) (due b.clock deadline b.tick))
      (one : Enters (scope_at b) (label_there b name) false (due b.clock deadline b.tick) (scoping_in b) (scoping_in u)) where
    -- a `scope`, where the code enters one with its label, shield and deadline, is the definitions' step
    pub takes_scope : (fail : Bool) → first ≡ code.Scope name deadline shield fail body → u.book ≡ b.book →
        EntersBlock b.frames u.frames (Scope fail) body → StepsAs (before_step b first a) u None (On None)
    takes_scope fail is book block =
        takes_on u (On None)
        (λ cancelled_from numbers ps count stands fresh.
        subst (λ (o : Move). Took (before_step b first a) u (On None) cancelled_from numbers o)
        (sym (on_known (code.Scope name deadline shield fail body) is cancelled_from numbers ps count))
        (enters_as u name shield false (due b.clock deadline b.tick) body started entries cancelled enters one cancelled_from numbers ps stands
        (subst (λ (s : Step). IsNew (names_at ps) (step_in s)) is fresh).0 (Scope fail) tt undone book block))

    -- a `nursery`, where the code enters one with its label, shield and deadline, is the definitions' step
    pub takes_nursery : (me : ℕ) → first ≡ code.Nursery name deadline shield body → EntersNursery me b u (label_there b name) body →
        StepsAs (before_step b first a) u None (On None)
    takes_nursery me is n =
        takes_on u (On None)
        (λ cancelled_from numbers ps count stands fresh.
        subst (λ (o : Move). Took (before_step b first a) u (On None) cancelled_from numbers o)
        (sym (on_known (code.Nursery name deadline shield body) is cancelled_from numbers ps count))
        (subst
        (λ (gs : List rest.Frame). Took (before_step b first a) u (On None) cancelled_from numbers
        (makes (rest.enters (label_there b name) b.tick (due b.clock deadline b.tick) ∷ [])
        (rest.steps_left body ∷ rest.in_nursery [] ∷ gs) (a_scope_at (label_there b name) shield ∷ ps)))
        (frames_put numbers)
        (took_nursery b whole cancelled_from numbers None ps stands u (a_scope_at (label_there b name) shield) (due b.clock deadline b.tick) body
        blocks_put (subst (λ (s : Step). IsNew (names_at ps) (step_in s)) is fresh).0 started entries cancelled enters one me undone n)))

  -- an `event`, where the code enters one with its label, is the definitions' step
  pub takes_event : (u : State) (name : List ℕ) (body : tree.Steps) → first ≡ code.Event name body → u.started ≡ b.started →
      u.entries ≡ b.entries → u.cancelled ≡ b.cancelled → u.acts ≡ b.acts → u.book ≡ b.book → EntersAt b u (an_event_at (label_there b name)) None →
      Enters (scope_at b) (label_there b name) true None (scoping_in b) (scoping_in u) → EntersBlock b.frames u.frames Event body →
      StepsAs (before_step b first a) u None (On None)
  takes_event u name body is started entries cancelled undone book enters one block =
      takes_on u (On None)
      (λ cancelled_from numbers ps count stands fresh.
      subst (λ (o : Move). Took (before_step b first a) u (On None) cancelled_from numbers o)
      (sym (on_known (code.Event name body) is cancelled_from numbers ps count))
      (enters_as u name false true None body started entries cancelled enters one cancelled_from numbers ps stands
      (subst (λ (s : Step). IsNew (names_at ps) (step_in s)) is fresh).0 Event tt undone book block))

  -- a `limiter` or `channel`, where the code opens one with its label, and enters it, is the definitions' step
  pub takes_object : (u : State) (name : List ℕ) (kind : ObjectKind) (body : tree.Steps) → first ≡ code.Object name kind body →
      u.started ≡ b.started → u.entries ≡ b.entries → u.cancelled ≡ b.cancelled → u.book ≡ b.book →
      u.acts ≡ b.acts ++ record { object = label_there b name; act = Opens kind } ∷ [] → EntersAt b u (an_event_at (label_there b name)) None →
      Enters (scope_at b) (label_there b name) true None (scoping_in b) (scoping_in u) → EntersBlock b.frames u.frames Event body →
      StepsAs (before_step b first a) u None (On None)
  takes_object u name kind body is started entries cancelled book opened enters one block =
      takes_on u (On None)
      (λ cancelled_from numbers ps count stands fresh.
      subst (λ (o : Move). Took (before_step b first a) u (On None) cancelled_from numbers o)
      (sym (on_known (code.Object name kind body) is cancelled_from numbers ps count))
      (subst
      (λ (gs : List rest.Frame). Took (before_step b first a) u (On None) cancelled_from numbers
      (makes (rest.acts (label_there b name) b.tick (opens kind) ∷ rest.enters (label_there b name) b.tick None ∷ [])
      (rest.steps_left body ∷ rest.in_event ∷ gs) (an_event_at (label_there b name) ∷ ps)))
      (frames_put numbers)
      (took_object b whole cancelled_from numbers None ps stands u (an_event_at (label_there b name)) None body blocks_put
      (subst (λ (s : Step). IsNew (names_at ps) (step_in s)) is fresh).0 started entries cancelled enters one kind opened book block)))

  -- ---- children are started

  module _ (u : State) (fs ls : List Frame) (id : ℕ) (name : List ℕ) (body : tree.Steps) (within : a.outer ≡ fs ++ Nursery id ∷ ls)
      (are : AreLoops ls) (apart : HasBlock id (blocks_of fs) → ⊥) (world : u ≡ record b { book = u.book; started = u.started })
      (in_range : AreInRange body) where
    -- one child is started; no other block of the task has the nursery
    pub takes_start : first ≡ code.Start name None body → (part : Part) → buffer_of part ≡ buffer_of b.part → range_of part ≡ (lent_at b).range →
        StartsOne b u id (label_there b name) part body → StepsAs (before_step b first a) u None (On None)
    takes_start is part input_is range_is starts =
        takes_on u (On None)
        (λ cancelled_from numbers ps count stands new.
        subst (λ (o : Move). Took (before_step b first a) u (On None) cancelled_from numbers o)
        (sym (on_known (code.Start name None body) is cancelled_from numbers ps count))
        (took_start b whole fs ls a.outer id a.left u cancelled_from numbers None ps stands are within a.held blocks_put apart world name body count
        in_range part input_is range_is starts))

    -- and one for each of the cuts of its part
    pub takes_start_over : (k : ℕ) → first ≡ code.Start name (Some k) body → StartsOver b u id name k body k →
        StepsAs (before_step b first a) u None (On None)
    takes_start_over k is starts =
        takes_on u (On None)
        (λ cancelled_from numbers ps count stands new.
        subst (λ (o : Move). Took (before_step b first a) u (On None) cancelled_from numbers o)
        (sym (on_known (code.Start name (Some k) body) is cancelled_from numbers ps count))
        (took_start_over b whole fs ls a.outer id a.left u cancelled_from numbers None ps stands are within a.held blocks_put apart world name body
        count in_range k starts))

  -- ---- a `try` or a `repeat` begins

  -- a `try`, where the code puts its body inside its handler and cleanup, is the definitions' step
  pub takes_attempt : (u : State) (body : tree.Steps) (handler : Option Handler) (cleanup : Option tree.Steps) →
      first ≡ code.Try body handler cleanup → u ≡ with_frames b u.frames →
      ((numbers : Numbers) → frames_of numbers u.frames ≡ rest.steps_left body
      ∷ rest.in_try (handled_of handler) (cleaned_of cleanup) ∷ frames_of numbers b.frames) →
      StepsAs (before_step b first a) u None (On None)
  takes_attempt u body handler cleanup is stays held =
      takes_on u (On None)
      (λ cancelled_from numbers ps count stands new.
      subst (λ (v : State). Took (before_step b first a) v (On None) cancelled_from numbers
      (step_there cancelled_from numbers ps count)) (sym stays)
      (took_onward b whole cancelled_from numbers None ps stands u.frames None _
      (blocks_same b.frames u.frames (ap (λ (gs : List rest.Frame). blocks_onto gs []) (held own_keys)) ∙ blocks_put)
      (on_known (code.Try body handler cleanup) is cancelled_from numbers ps count
      ∙ ap (λ (gs : List rest.Frame). onward (rest.steps_left body ∷ rest.in_try (handled_of handler) (cleaned_of cleanup) ∷ gs) ps None)
      (sym (frames_put numbers))
      ∙ ap (λ (gs : List rest.Frame). onward gs ps None) (sym (held numbers)))))

  -- a `repeat` of the code that begins is one step of the definitions, whether it has a pass or not
  pub takes_repeat : (u : State) (times : ℕ) (over : Bool) (body : tree.Steps) → first ≡ code.Repeat times over body → u ≡ with_frames b u.frames →
      blocks_of u.frames ≡ blocks_of b.frames →
      ((numbers : Numbers) (ps : List Place) → begins_passes times over body (frames_of numbers b.frames) ps
      ≡ onward (frames_of numbers u.frames) ps None) →
      StepsAs (before_step b first a) u None (On None)
  takes_repeat u times over body is stays blocks begins =
      takes_on u (On None)
      (λ cancelled_from numbers ps count stands new.
      subst (λ (v : State). Took (before_step b first a) v (On None) cancelled_from numbers
      (step_there cancelled_from numbers ps count)) (sym stays)
      (took_onward b whole cancelled_from numbers None ps stands u.frames None _ (blocks ∙ blocks_put)
      (on_known (code.Repeat times over body) is cancelled_from numbers ps count
      ∙ ap (λ (gs : List rest.Frame). begins_passes times over body gs ps) (sym (frames_put numbers))
      ∙ begins numbers ps)))
