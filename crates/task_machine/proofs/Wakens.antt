-- What the code does first for a task that wakes, as the definitions' wake: one lemma for each way.
use Rattle.std.proofs.Common.{◌≡◌, ℕ, suc, Bool, true, false, Option, Some, None, List, ◌++◌, map, refl, ap, sym, ◌∙◌, subst}
use Rattle.std.specs.Prelude.{codes}
use Rattle.std.specs.Borrow.{Bor}
use Rattle.std.specs.Option.{option_map}
use Rattle.input_lines.specs.Lines.{Span}
use Rattle.input_lines.specs.Part.{buffer_of}
use Rattle.input_lines.specs.declared.line.Line.{Line}
use Rattle.exceptions.specs.declared.exc.Exc as held
use Rattle.exceptions.specs.Held.{exc_of}
use Rattle.exceptions.specs.Exceptions.{Label, Exc, cancelled, raised}
use Rattle.input_lines.specs.Answers.{AreLinesAt}
use Rattle.input_lines.specs.declared.kernel.Kernel.{Kernel}
use Rattle.job_tree.specs.Tree.{Steps}
use Rattle.job_tree.specs.declared.object.Ask.{Ask}
use Rattle.job_meaning.specs.Log.{Table, was_granted}
use Rattle.job_meaning.specs.Sharing.{What}
use Rattle.job_meaning.specs.Moments.{tick_of}
use Rattle.job_meaning.specs.Walk.{Here, event_on, pace_ticks}
use Rattle.job_meaning.specs.Rest as rest
use Rattle.job_meaning.specs.Rest.{inside, Stopped, to_begin, asking, asleep, waiting_for, queued, giving_up, awaiting, at_end}
use Rattle.job_meaning.specs.Asking as ask
use Rattle.nursery_book.specs.Nursery.{Nursery}
use Rattle.nursery_book.specs.Book.{nursery_at, HasNursery, Updates}
use Rattle.nursery_book.specs.declared.book.NurseryBook.{NurseryBook}
use Rattle.task_machine.specs.declared.entry.Entry.TheVariants as entries
use Rattle.turn_semantics.specs.Midway.{Place, label_among, stack_at, Move}
use Rattle.turn_semantics.specs.Steps.{onward, blocks_on, sleeps}
use Rattle.turn_semantics.specs.Wakes.{Wake, begins, sees, gives_up, is_due, has_answer, is_granted, settles, goes_on_with, gives_up_if, is_due_from, goes_on_granted, raises_granted, granted_move, granted_on, wake_of}
use Rattle.turn_semantics.proofs.Agreeing.{event_found}
use Rattle.block_exits.specs.declared.kind.Kind.TheVariants as kind
use Rattle.task_machine.specs.declared.stop.TaskState.{TaskState}
use Rattle.task_machine.specs.declared.stop.TaskState.TheVariants.{ToBegin, Asked, Asleep, Waiting, Queued, GivingUp, Awaits, Over}
use Rattle.task_machine.specs.declared.stop.Moved.{Moved}
use Rattle.task_machine.specs.declared.stop.Moved.TheVariants.{On, Stops}
use Rattle.task_machine.specs.declared.stop.Stop.TheVariants.{GiveUp}
use Rattle.task_machine.specs.declared.stop.Purpose.{Purpose}
use Rattle.task_machine.specs.declared.stop.Wake.TheVariants.{Seen}
use Rattle.task_machine.specs.Acts.{Leaves, scoping_in}
use Rattle.task_machine.specs.Events.{at_checkpoint}
use Rattle.task_machine.specs.Exits.{ExitsAt}
use Rattle.task_machine.specs.Fitting.{blocks_of}
use Rattle.task_machine.specs.Frames.{frames_of}
use Rattle.task_machine.specs.Stacked.{AreAt, IsKey, AwaitsEvent}
use Rattle.task_machine.specs.Standing.{Wakens, wake_at, HasBlock, Stands, IsOfOther, Took}
use Rattle.task_machine.specs.States.{State, here_at, now_at, stack_in, lent_at}
use Rattle.task_machine.specs.Stops.{Numbers, kernel_in, purpose_in, IsTaskState, MovesAs}
use Rattle.task_machine.specs.Waking.{WakesFrom}
use Rattle.task_machine.specs.Worlds.{NotesWait, NotesGrant}
use Rattle.task_machine.proofs.Tooks.{took_task_states, took_sleep}
use Rattle.task_machine.proofs.TooksWoken.{took_settled, took_lines, took_noted, took_left_queue, took_raises_granted, took_goes_on}
use Rattle.task_machine.proofs.Waits.{HasNotAsked, sees_as}

-- ---- where a task stopped, by its blocked state

-- a task that continues with an answer of a kernel stopped to ask for that, for the same purpose
pub task_states_asked : (numbers : Numbers) (book : NurseryBook) (kernel : Kernel) (purpose : Purpose) (stopped : Stopped) →
    IsTaskState numbers book (Asked kernel purpose) stopped →
    stopped ≡ asking (kernel_in kernel) (purpose_in purpose)
task_states_asked numbers book kernel purpose to_begin h = absurd h
task_states_asked numbers book kernel purpose (asking k p) h =
    sym (ap (λ (x : ask.Kernel). asking x (purpose_in purpose)) h.0 ∙ ap (λ (x : ask.Purpose). asking k x) h.1)
task_states_asked numbers book kernel purpose (asleep p n u) h = absurd h
task_states_asked numbers book kernel purpose (waiting_for name u) h = absurd h
task_states_asked numbers book kernel purpose (queued name a u steps) h = absurd h
task_states_asked numbers book kernel purpose (giving_up u) h = absurd h
task_states_asked numbers book kernel purpose (awaiting kids u exc) h = absurd h
task_states_asked numbers book kernel purpose (at_end u e) h = absurd h

-- a task that sleeps stopped to sleep as long
pub task_states_asleep : (numbers : Numbers) (book : NurseryBook) (paced : Bool) (ticks since : ℕ) (stopped : Stopped) →
    IsTaskState numbers book (Asleep paced ticks since) stopped → stopped ≡ asleep paced ticks since
task_states_asleep numbers book paced ticks since to_begin h = absurd h
task_states_asleep numbers book paced ticks since (asking k p) h = absurd h
task_states_asleep numbers book paced ticks since (asleep p n u) h =
    sym (ap (λ (b : Bool). asleep b ticks since) h.0 ∙ ap (λ (m : ℕ). asleep p m since) h.1 ∙ ap (λ (v : ℕ). asleep p n v) h.2)
task_states_asleep numbers book paced ticks since (waiting_for name u) h = absurd h
task_states_asleep numbers book paced ticks since (queued name a u steps) h = absurd h
task_states_asleep numbers book paced ticks since (giving_up u) h = absurd h
task_states_asleep numbers book paced ticks since (awaiting kids u exc) h = absurd h
task_states_asleep numbers book paced ticks since (at_end u e) h = absurd h

-- a task that waits for an event stopped to do so, by some name
pub record WaitsSo (since : ℕ) (stopped : Stopped) : Type 0 where
  pub name : List ℕ
  pub is : stopped ≡ waiting_for name since

pub task_states_waiting : (numbers : Numbers) (book : NurseryBook) (event since : ℕ) (stopped : Stopped) →
    IsTaskState numbers book (Waiting event since) stopped → WaitsSo since stopped
task_states_waiting numbers book event since to_begin h = absurd h
task_states_waiting numbers book event since (asking k p) h = absurd h
task_states_waiting numbers book event since (asleep p n u) h = absurd h
task_states_waiting numbers book event since (waiting_for name u) h =
    record { name = name; is = ap (λ (v : ℕ). waiting_for name v) (sym h) }
task_states_waiting numbers book event since (queued name a u steps) h = absurd h
task_states_waiting numbers book event since (giving_up u) h = absurd h
task_states_waiting numbers book event since (awaiting kids u exc) h = absurd h
task_states_waiting numbers book event since (at_end u e) h = absurd h

-- a task that asked a limiter or channel stopped to ask the same, by some name
pub record AskedSo (a : Ask) (since : ℕ) (body : Steps) (stopped : Stopped) : Type 0 where
  pub name : List ℕ
  pub is : stopped ≡ queued name a since body

pub task_states_queued : (numbers : Numbers) (book : NurseryBook) (object : ℕ) (a : Ask) (since : ℕ) (body : Bor Steps) (stopped : Stopped) →
    IsTaskState numbers book (Queued object a since body) stopped → AskedSo a since body.now stopped
task_states_queued numbers book object a since body to_begin h = absurd h
task_states_queued numbers book object a since body (asking k p) h = absurd h
task_states_queued numbers book object a since body (asleep p n u) h = absurd h
task_states_queued numbers book object a since body (waiting_for name u) h = absurd h
task_states_queued numbers book object a since body (queued name x u steps) h =
    record {
      name = name;
      is =
          sym (ap (λ (y : Ask). queued name y since body.now) h.0 ∙ ap (λ (v : ℕ). queued name x v body.now) h.1
          ∙ ap (λ (ss : Steps). queued name x u ss) h.2);
    }
task_states_queued numbers book object a since body (giving_up u) h = absurd h
task_states_queued numbers book object a since body (awaiting kids u exc) h = absurd h
task_states_queued numbers book object a since body (at_end u e) h = absurd h

-- a wait is for the nursery's children, as they are numbered, and its body ended so
pub record AwaitsSo (numbers : Numbers) (book : NurseryBook) (id since : ℕ) (stopped : Stopped) : Type 0 where
  pub exc : Option Exc
  pub is : stopped ≡ awaiting (numbers id) since exc
  pub body : HasNursery book id (λ n. n.body ≡ Some exc)

-- a task that continues when a nursery is settled stopped to wait for its children
pub task_states_awaits : (numbers : Numbers) (book : NurseryBook) (id since : ℕ) (stopped : Stopped) →
    IsTaskState numbers book (Awaits id since) stopped → AwaitsSo numbers book id since stopped
task_states_awaits numbers book id since to_begin h = absurd h
task_states_awaits numbers book id since (asking k p) h = absurd h
task_states_awaits numbers book id since (asleep p n u) h = absurd h
task_states_awaits numbers book id since (waiting_for name u) h = absurd h
task_states_awaits numbers book id since (queued name a u steps) h = absurd h
task_states_awaits numbers book id since (giving_up u) h = absurd h
task_states_awaits numbers book id since (awaiting kids u exc) h =
    record { exc = exc; is = sym (ap (λ (ns : List ℕ). awaiting ns since exc) h.0 ∙ ap (λ (n : ℕ). awaiting kids n exc) h.1); body = h.2 }
task_states_awaits numbers book id since (at_end u e) h = absurd h

-- ---- a task that wakes

-- a wake that continues, with this exception or none, wherever the task stopped
wakes_onward : (s : State) (exc : Option held.Exc) (w : Wake) →
    ((cancelled_from : Table) (numbers : Numbers) (stopped : Stopped) (fs : List rest.Frame) (ps : List Place) →
    IsTaskState numbers s.book s.task_state stopped →
    wake_of cancelled_from (now_at s) (here_at s) w stopped fs ps ≡ onward fs ps (option_map exc_of exc)) →
    Wakens s s (On exc) w
wakes_onward s exc w is cancelled_from numbers stopped ps stands task_state =
    subst (λ (o : Move). Took s s (On exc) cancelled_from numbers o) (sym (is cancelled_from numbers stopped (frames_of numbers s.frames) ps task_state))
    (took_task_states s s.frames cancelled_from numbers (Some stopped) ps stands s.frames s.task_state (On exc)
    (onward (frames_of numbers s.frames) ps (option_map exc_of exc)) refl refl refl refl refl tt (refl, refl) tt)

-- it begins
pub wakes_begin : (s : State) → Wakens s s (On None) begins
wakes_begin s = wakes_onward s None begins (λ cancelled_from numbers stopped fs ps h. refl)

-- a round ago it was cancelled at a checkpoint
pub wakes_gives_up : (s : State) (exc : Option held.Exc) → option_map exc_of exc ≡ Some cancelled → Wakens s s (On exc) gives_up
wakes_gives_up s exc is = wakes_onward s exc gives_up (λ cancelled_from numbers stopped fs ps h. ap (λ (e : Option Exc). onward fs ps e) (sym is))

-- its sleep is over
pub wakes_due : (s : State) (paced : Bool) (ticks since : ℕ) → s.task_state ≡ Asleep paced ticks since → Wakens s s (On None) is_due
wakes_due s paced ticks since sleeps_so =
    wakes_onward s None is_due
    (λ cancelled_from numbers stopped fs ps h.
    ap (λ (x : Stopped). is_due_from (here_at s) cancelled_from s.tick x fs ps)
    (task_states_asleep numbers s.book paced ticks since stopped
    (subst (λ (x : TaskState). IsTaskState numbers s.book x stopped) sleeps_so h)))

-- ---- a task that asked a limiter or channel

module _ (s : State) (object : ℕ) (a : Ask) (since : ℕ) (body : Bor Steps) (asked : s.task_state ≡ Queued object a since body) where
  -- by which name
  asked_so : (numbers : Numbers) (stopped : Stopped) → IsTaskState numbers s.book s.task_state stopped → AskedSo a since body.now stopped
  asked_so numbers stopped h =
      task_states_queued numbers s.book object a since body stopped (subst (λ (x : TaskState). IsTaskState numbers s.book x stopped) asked h)

  -- that name finds the label of the limiter or channel
  asked_at : (cancelled_from : Table) (numbers : Numbers) (stopped : Stopped) (ps : List Place) → Stands s cancelled_from numbers (Some stopped) ps →
      (w : AskedSo a since body.now stopped) → s.labels object ≡ label_among true w.name ps
  asked_at cancelled_from numbers stopped ps stands w =
      (subst (λ (x : TaskState). AwaitsEvent s.labels (stack_in s) (Some (queued w.name a since body.now)) x ps) asked
      (subst (λ (x : Stopped). AwaitsEvent s.labels (stack_in s) (Some x) s.task_state ps) w.is stands.event)).1

  -- it sees a cancellation: it leaves the queue, and raises
  pub wakes_left : (goes : Moved) →
      ((numbers : Numbers) (book : NurseryBook) (fs : List rest.Frame) (ps : List Place) →
      MovesAs s.clock numbers book (lent_at s) goes s.task_state (onward fs ps (Some cancelled))) → Wakens s s goes sees
  wakes_left goes raises cancelled_from numbers stopped ps stands task_state =
      let gs = frames_of numbers s.frames in
      let w : AskedSo a since body.now stopped = asked_so numbers stopped task_state in
      subst (λ (x : Stopped). Took s s goes cancelled_from numbers (wake_at s sees x cancelled_from numbers ps)) (sym w.is)
      (took_left_queue s cancelled_from numbers (Some stopped) ps stands (label_among true w.name ps) (inside gs (here_at s)) a since s.tick cancelled
      goes (raises numbers s.book gs ps))

  -- it waited as long as `forever`: it leaves the queue, and raises
  pub wakes_deadlocked : (goes : Moved) →
      ((numbers : Numbers) (book : NurseryBook) (fs : List rest.Frame) (ps : List Place) →
      MovesAs s.clock numbers book (lent_at s) goes s.task_state
      (onward fs ps (Some (raised (codes "Deadlock") s.label (tick_of s.clock s.tick))))) → Wakens s s goes is_due
  wakes_deadlocked goes raises cancelled_from numbers stopped ps stands task_state =
      let gs = frames_of numbers s.frames in
      let w : AskedSo a since body.now stopped = asked_so numbers stopped task_state in
      subst (λ (x : Stopped). Took s s goes cancelled_from numbers (wake_at s is_due x cancelled_from numbers ps)) (sym w.is)
      (took_left_queue s cancelled_from numbers (Some stopped) ps stands (label_among true w.name ps) (inside gs (here_at s)) a since s.tick
      (raised (codes "Deadlock") s.label (tick_of s.clock s.tick)) goes (raises numbers s.book gs ps))

  -- it is granted something
  module _ (what : What) where
    -- what the definitions do
    granted_so : (cancelled_from : Table) (numbers : Numbers) (stopped : Stopped) (ps : List Place) (o : Option Label) →
        Stands s cancelled_from numbers (Some stopped) ps → IsTaskState numbers s.book s.task_state stopped → s.labels object ≡ o →
        wake_at s (is_granted what) stopped cancelled_from numbers ps
        ≡ granted_on o (inside (frames_of numbers s.frames) (here_at s)) a since s.tick body.now what (frames_of numbers s.frames) ps
    granted_so cancelled_from numbers stopped ps o stands task_state found =
        let gs = frames_of numbers s.frames in
        let w : AskedSo a since body.now stopped = asked_so numbers stopped task_state in
        ap (λ (x : Stopped). wake_at s (is_granted what) x cancelled_from numbers ps) w.is
        ∙ ap (λ (l : Option Label). granted_on l (inside gs (here_at s)) a since s.tick body.now what gs ps)
        (sym (asked_at cancelled_from numbers stopped ps stands w) ∙ found)

    -- by a limiter or channel that has no label: nothing
    pub wakes_unlabelled : s.labels object ≡ None → Wakens s s (On None) (is_granted what)
    wakes_unlabelled found cancelled_from numbers stopped ps stands task_state =
        subst (λ (o : Move). Took s s (On None) cancelled_from numbers o)
        (sym (granted_so cancelled_from numbers stopped ps None stands task_state found))
        (took_task_states s s.frames cancelled_from numbers (Some stopped) ps stands s.frames s.task_state (On None)
        (onward (frames_of numbers s.frames) ps None) refl refl refl refl refl tt (refl, refl) tt)

    module _ (label : Label) (found : s.labels object ≡ Some label) where
      -- an exception, which it raises
      pub wakes_raised : (goes : Moved) (name : List ℕ) →
          ((here : Here) (t : ℕ) (fs : List rest.Frame) (ps : List Place) →
          granted_move label here a since t body.now what fs ps ≡ raises_granted label here a since t name fs ps) →
          ((numbers : Numbers) (book : NurseryBook) (fs : List rest.Frame) (ps : List Place) →
          MovesAs s.clock numbers book (lent_at s) goes s.task_state (onward fs ps (Some (raised name s.label (tick_of s.clock s.tick))))) →
          Wakens s s goes (is_granted what)
      wakes_raised goes name so raises cancelled_from numbers stopped ps stands task_state =
          let gs = frames_of numbers s.frames in
          subst (λ (o : Move). Took s s goes cancelled_from numbers o)
          (sym (granted_so cancelled_from numbers stopped ps (Some label) stands task_state found ∙ so (inside gs (here_at s)) s.tick gs ps))
          (took_raises_granted s cancelled_from numbers (Some stopped) ps stands label (inside gs (here_at s)) a since name goes
          (raises numbers s.book gs ps))

      -- what it asked for: it notes that, and goes on with its block, inside these frames
      pub wakes_granted : (u : State) (as_noted : Ask) (inner : List rest.Frame → List rest.Frame) →
          ((here : Here) (t : ℕ) (fs : List rest.Frame) (ps : List Place) →
          granted_move label here a since t body.now what fs ps
          ≡ goes_on_granted (was_granted as_noted label) label here a since t (inner fs) ps) →
          u ≡ record s { frames = u.frames; entries = u.entries } → blocks_of u.frames ≡ blocks_of s.frames →
          ((numbers : Numbers) → frames_of numbers u.frames ≡ inner (frames_of numbers s.frames)) →
          NotesGrant as_noted label (tick_of s.clock s.tick) s.entries u.entries → Wakens s u (On None) (is_granted what)
      wakes_granted u as_noted inner so stays same frames notes cancelled_from numbers stopped ps stands task_state =
          let gs = frames_of numbers s.frames in
          subst (λ (o : Move). Took s u (On None) cancelled_from numbers o)
          (sym (granted_so cancelled_from numbers stopped ps (Some label) stands task_state found ∙ so (inside gs (here_at s)) s.tick gs ps))
          (subst (λ (v : State). Took s v (On None) cancelled_from numbers
          (goes_on_granted (was_granted as_noted label) label (inside gs (here_at s)) a since s.tick (inner gs) ps)) (sym stays)
          (took_goes_on s cancelled_from numbers (Some stopped) ps stands u.frames u.entries (inner gs) label (inside gs (here_at s)) a as_noted since
          same (frames numbers) notes))

-- ---- a task that sees a cancellation

module _ (s : State) (fits : WakesFrom s.task_state (lent_at s) s.book Seen) (other : HasNotAsked s.task_state) where
  -- what the definitions do
  seen_so : (cancelled_from : Table) (numbers : Numbers) (stopped : Stopped) (ps : List Place) → Stands s cancelled_from numbers (Some stopped) ps →
      IsTaskState numbers s.book s.task_state stopped →
      wake_of cancelled_from (now_at s) (here_at s) sees stopped (frames_of numbers s.frames) ps
      ≡ gives_up_if (at_checkpoint s.clock s.events s.task_state) s.tick (frames_of numbers s.frames) ps
  seen_so cancelled_from numbers stopped ps stands h =
      sees_as (here_at s) s.labels s.events cancelled_from (stack_in s) ps numbers s.book (lent_at s) s.tick stands.places stands.own s.task_state stopped
      stands.event other fits h (frames_of numbers s.frames)

  -- it raises if it is not at a checkpoint
  seen_else : (exc : Option held.Exc) → option_map exc_of exc ≡ Some cancelled → at_checkpoint s.clock s.events s.task_state ≡ false →
      Wakens s s (On exc) sees
  seen_else exc is not_at cancelled_from numbers stopped ps stands task_state =
      let gs = frames_of numbers s.frames in
      subst (λ (o : Move). Took s s (On exc) cancelled_from numbers o)
      (sym (seen_so cancelled_from numbers stopped ps stands task_state ∙ ap (λ (b : Bool). gives_up_if b s.tick gs ps) not_at
      ∙ ap (λ (e : Option Exc). onward gs ps e) (sym is)))
      (took_task_states s s.frames cancelled_from numbers (Some stopped) ps stands s.frames s.task_state (On exc) (onward gs ps (option_map exc_of exc))
      refl refl refl refl refl tt (refl, refl) tt)

  -- at a checkpoint it gives up, and raises a round later
  checkpoint_else : (u : State) (goes : Moved) (due : ℕ) → at_checkpoint s.clock s.events s.task_state ≡ true → due ≡ suc s.tick →
      u ≡ record s { task_state = GivingUp s.tick } → goes ≡ Stops (GiveUp due) → Wakens s u goes sees
  checkpoint_else u goes due at later stays stops cancelled_from numbers stopped ps stands task_state =
      let gs = frames_of numbers s.frames in
      let o : Move = wake_of cancelled_from (now_at s) (here_at s) sees stopped gs ps in
      subst (λ (g : Moved). Took s u g cancelled_from numbers o) (sym stops)
      (subst (λ (v : State). Took s v (Stops (GiveUp due)) cancelled_from numbers o) (sym stays)
      (subst (λ (m : Move). Took s (record s { task_state = GivingUp s.tick }) (Stops (GiveUp due)) cancelled_from numbers m)
      (sym (seen_so cancelled_from numbers stopped ps stands task_state ∙ ap (λ (b : Bool). gives_up_if b s.tick gs ps) at))
      (took_task_states s s.frames cancelled_from numbers (Some stopped) ps stands s.frames (GivingUp s.tick) (Stops (GiveUp due))
      (blocks_on (giving_up s.tick) gs ps) refl refl refl refl refl tt (refl, (refl, later)) tt)))

-- it raises if it is not at a checkpoint
pub wakes_seen : (s : State) → WakesFrom s.task_state (lent_at s) s.book Seen → (exc : Option held.Exc) → option_map exc_of exc ≡ Some cancelled →
    at_checkpoint s.clock s.events s.task_state ≡ false → Wakens s s (On exc) sees
wakes_seen s fits exc is not_at = by_state s.task_state refl
  where
    else_so : HasNotAsked s.task_state → Wakens s s (On exc) sees
    else_so other = seen_else s fits other exc is not_at

    by_state : (x : TaskState) → s.task_state ≡ x → Wakens s s (On exc) sees
    by_state (ToBegin at) e = else_so (subst HasNotAsked (sym e) tt)
    by_state (Asked kernel purpose) e = else_so (subst HasNotAsked (sym e) tt)
    by_state (Asleep paced ticks since) e = else_so (subst HasNotAsked (sym e) tt)
    by_state (Waiting event since) e = else_so (subst HasNotAsked (sym e) tt)
    by_state (Queued object a since body) e = wakes_left s object a since body e (On exc) (λ numbers book fs ps. (is, refl))
    by_state (GivingUp since) e = else_so (subst HasNotAsked (sym e) tt)
    by_state (Awaits id since) e = else_so (subst HasNotAsked (sym e) tt)
    by_state Over e = else_so (subst HasNotAsked (sym e) tt)

-- at a checkpoint it gives up, and raises a round later
pub wakes_at_checkpoint : (s : State) → WakesFrom s.task_state (lent_at s) s.book Seen → (u : State) (goes : Moved) (due : ℕ) →
    at_checkpoint s.clock s.events s.task_state ≡ true → due ≡ suc s.tick → u ≡ record s { task_state = GivingUp s.tick } →
    goes ≡ Stops (GiveUp due) → Wakens s u goes sees
wakes_at_checkpoint s fits u goes due at later stays stops = by_state s.task_state refl
  where
    else_so : HasNotAsked s.task_state → Wakens s u goes sees
    else_so other = checkpoint_else s fits other u goes due at later stays stops

    by_state : (x : TaskState) → s.task_state ≡ x → Wakens s u goes sees
    by_state (ToBegin at) e = else_so (subst HasNotAsked (sym e) tt)
    by_state (Asked kernel purpose) e = else_so (subst HasNotAsked (sym e) tt)
    by_state (Asleep paced ticks since) e = else_so (subst HasNotAsked (sym e) tt)
    by_state (Waiting event since) e = else_so (subst HasNotAsked (sym e) tt)
    by_state (Queued object a since body) e =
        absurd (let f : false ≡ true = sym (ap (at_checkpoint s.clock s.events) e) ∙ at in cc)
    by_state (GivingUp since) e = else_so (subst HasNotAsked (sym e) tt)
    by_state (Awaits id since) e = else_so (subst HasNotAsked (sym e) tt)
    by_state Over e = else_so (subst HasNotAsked (sym e) tt)

-- ---- an event that is set

-- the task notes that it waited
pub wakes_noted : (s u : State) (key since : ℕ) → s.task_state ≡ Waiting key since → u ≡ record s { entries = u.entries } →
    NotesWait (s.labels key) (tick_of s.clock s.tick) s.entries u.entries → Wakens s u (On None) is_due
wakes_noted s u key since waits stays notes cancelled_from numbers stopped ps stands task_state =
    subst (λ (v : State). Took s v (On None) cancelled_from numbers (wake_at s is_due stopped cancelled_from numbers ps)) (sym stays)
    (subst (λ (x : Stopped). Took s (record s { entries = u.entries }) (On None) cancelled_from numbers (wake_at s is_due x cancelled_from numbers ps))
    (sym w.is)
    (took_noted s cancelled_from numbers (Some stopped) ps stands u.entries (event_on w.name (stack_at cancelled_from ps).events)
    (subst (λ (o : Option Label). NotesWait o (tick_of s.clock s.tick) s.entries u.entries)
    (event.1 ∙ sym (event_found cancelled_from w.name ps)) notes)))
  where
    w : WaitsSo since stopped
    w =
        task_states_waiting numbers s.book key since stopped
        (subst (λ (x : TaskState). IsTaskState numbers s.book x stopped) waits task_state)

    event : IsKey key (stack_in s) × (s.labels key ≡ label_among true w.name ps)
    event =
        subst (λ (x : TaskState). AwaitsEvent s.labels (stack_in s) (Some (waiting_for w.name since)) x ps) waits
        (subst (λ (x : Stopped). AwaitsEvent s.labels (stack_in s) (Some x) s.task_state ps) w.is stands.event)

-- ---- a kernel's answer

-- a task that asked a kernel for a purpose
module _ (s : State) (kernel : Kernel) (purpose : Purpose) (asked : s.task_state ≡ Asked kernel purpose) where
  -- what it does is what it does with the answer for its purpose
  answered_as : (cancelled_from : Table) (numbers : Numbers) (stopped : Stopped) (fs : List rest.Frame) (ps : List Place) (answer : ask.Answer) →
      IsTaskState numbers s.book s.task_state stopped →
      wake_of cancelled_from (now_at s) (here_at s) (has_answer answer) stopped fs ps
      ≡ goes_on_with cancelled_from s.tick (here_at s) answer (purpose_in purpose) fs ps
  answered_as cancelled_from numbers stopped fs ps answer h =
      ap (λ (x : Stopped). wake_of cancelled_from (now_at s) (here_at s) (has_answer answer) x fs ps)
      (task_states_asked numbers s.book kernel purpose stopped (subst (λ (x : TaskState). IsTaskState numbers s.book x stopped) asked h))

  -- there is nothing more to do with the answer
  pub wakes_answered : (answer : ask.Answer) →
      ((cancelled_from : Table) (fs : List rest.Frame) (ps : List Place) → goes_on_with cancelled_from s.tick (here_at s) answer (purpose_in purpose) fs
      ps ≡ onward fs ps None) →
      Wakens s s (On None) (has_answer answer)
  wakes_answered answer is =
      wakes_onward s None (has_answer answer)
      (λ cancelled_from numbers stopped fs ps h. answered_as cancelled_from numbers stopped fs ps answer h ∙ is cancelled_from fs ps)

  -- no line was there that was needed: it raises
  pub wakes_missing : (goes : Moved) (name : List ℕ) → purpose_in purpose ≡ ask.needs name →
      ((numbers : Numbers) (book : NurseryBook) (fs : List rest.Frame) (ps : List Place) →
      MovesAs s.clock numbers book (lent_at s) goes s.task_state
      (onward fs ps (Some (raised name s.label (tick_of s.clock s.tick))))) →
      Wakens s s goes (has_answer ask.missing)
  wakes_missing goes name for_name raises cancelled_from numbers stopped ps stands task_state =
      let gs = frames_of numbers s.frames in
      subst (λ (o : Move). Took s s goes cancelled_from numbers o)
      (sym (answered_as cancelled_from numbers stopped gs ps ask.missing task_state
      ∙ ap (λ (p : ask.Purpose). goes_on_with cancelled_from s.tick (here_at s) ask.missing p gs ps) for_name))
      (took_task_states s s.frames cancelled_from numbers (Some stopped) ps stands s.frames s.task_state goes
      (onward gs ps (Some (raised name s.label (tick_of s.clock s.tick)))) refl refl refl refl refl tt (raises numbers s.book gs ps) tt)

  -- lines were counted to sleep by
  pub wakes_counted : (u : State) (goes : Moved) (k n ticks : ℕ) → purpose_in purpose ≡ ask.paces k → ticks ≡ pace_ticks n k →
      u ≡ record s { task_state = u.task_state } →
      ((cancelled_from : Table) (numbers : Numbers) (book : NurseryBook) (fs : List rest.Frame) (ps : List Place) →
      AreAt s.labels s.events cancelled_from (stack_in s) ps →
      MovesAs s.clock numbers book (lent_at s) goes u.task_state (sleeps s.clock cancelled_from true ticks s.tick fs ps)) →
      Wakens s u goes (has_answer (ask.counted n))
  wakes_counted u goes k n ticks by_count long stays sleep cancelled_from numbers stopped ps stands task_state =
      let gs = frames_of numbers s.frames in
      subst (λ (v : State). Took s v goes cancelled_from numbers (wake_at s (has_answer (ask.counted n)) stopped cancelled_from numbers ps)) (sym stays)
      (subst (λ (o : Move). Took s (record s { task_state = u.task_state }) goes cancelled_from numbers o)
      (sym (answered_as cancelled_from numbers stopped gs ps (ask.counted n) task_state
      ∙ ap (λ (p : ask.Purpose). goes_on_with cancelled_from s.tick (here_at s) (ask.counted n) p gs ps) by_count
      ∙ ap (λ (x : ℕ). sleeps s.clock cancelled_from true x s.tick gs ps) (sym long)))
      (took_sleep s s.frames cancelled_from numbers (Some stopped) ps stands u.task_state goes true ticks refl
      (λ at. sleep cancelled_from numbers s.book gs ps at)))

  -- lines were found: it notes them
  pub wakes_lines : (spans : List Span) (lines : List Line) → AreLinesAt (buffer_of s.part) spans lines →
      Wakens s (record s { entries = s.entries ++ map entries.Line lines }) (On None) (has_answer (ask.lines spans))
  wakes_lines spans lines at cancelled_from numbers stopped ps stands task_state =
      let gs = frames_of numbers s.frames in
      subst (λ (o : Move). Took s (record s { entries = s.entries ++ map entries.Line lines }) (On None) cancelled_from numbers o)
      (sym (answered_as cancelled_from numbers stopped gs ps (ask.lines spans) task_state))
      (took_lines s cancelled_from numbers (Some stopped) ps spans lines stands at)

-- ---- a nursery that is settled

-- the nursery that it waits for is closed and left; none of its blocks has it
pub wakes_settled : (s u : State) (book : NurseryBook) (id since : ℕ) (exc goes : Option held.Exc) → s.task_state ≡ Awaits id since →
    (HasBlock id (blocks_of s.frames) → ⊥) → Updates s.book book id None →
    u ≡ record s { own = u.own; cancelled_from = u.cancelled_from; entries = u.entries; tree = u.tree; labels = u.labels; events = u.events; book = book } →
    ExitsAt (record s { book = book }) u kind.Nursery (option_map exc_of exc) (option_map exc_of goes) →
    Leaves (scoping_in s) (scoping_in u) →
    ((n : Nursery) → nursery_at s.book id ≡ Some n → IsOfOther s.own s.tree n → ⊥) →
    Wakens s u (On goes) (settles (option_map exc_of exc))
wakes_settled s u book id since exc goes waits apart closed stays exits one mine cancelled_from numbers stopped ps stands task_state =
    let w = task_states_awaits numbers s.book id since stopped (subst (λ (x : TaskState). IsTaskState numbers s.book x stopped) waits task_state) in
    took_settled s u book id (numbers id) since w.exc exc goes cancelled_from numbers ps
    (subst (λ (x : Stopped). Stands s cancelled_from numbers (Some x) ps) w.is stands) apart closed stays exits one mine
