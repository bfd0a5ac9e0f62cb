-- A task that stopped on its way: what it did so far, what is left of it, what that results in, and how much it is.
use Rattle.std.specs.Prelude.{ℕ, zero, suc, ◌+◌, ◌*◌, Bool, true, false, Option, Some, None, List, [], ◌∷◌, ◌++◌}
use Rattle.job_tree.specs.Tree.{Steps, Handled, Cleaned}
use Rattle.job_tree.specs.Names.{size_of, handled_size, cleaned_size}
use Rattle.job_tree.specs.declared.object.Ask.{Ask}
use Rattle.input_lines.specs.Lines.{Range}
use Rattle.exceptions.specs.Exceptions.{Label, Exc, cancelled}
use Rattle.cancel_scopes.specs.Sight.{Tick, Level, catches}
use Rattle.job_meaning.specs.Log.{Entry, Log, nil, entry, sign, entered, Act, act, task, followed_by, Member, Result}
use Rattle.job_meaning.specs.Moments.{tick_of, Now, only_at}
use Rattle.job_meaning.specs.declared.clock.Clock.{Clock}
use Rattle.job_meaning.specs.Walk.{label_over, part_in_pass, in_pass, passes, Levels, Stack, Mode, Here, walk, walk_handler, walk_cleanup, done_at, raised_at, and_then, sleep_result, pace_result, event_wait, event_on, label_on, asks_in, with_token_back, from_for, stack_for, Kind, a_scope, a_nursery, left_as, Left, left_with, exc_after, with_sign, nursery_result, handler_exc, outcome_after, with_outcome}
use Rattle.job_meaning.specs.Asking.{Kernel, answer_of, Purpose, shows, needs, paces, answer_result}

-- What a task did so far, in order. The children that it started are numbered 0, 1, .. within it, and their results are
-- given separately.
pub data Event : Type 0 where
  noted : (tick : ℕ) → (entry : Entry) → Event
  signs : (label : Label) → (tick : ℕ) → Event
  enters : (label : Label) → (tick : ℕ) → (deadline : Tick) → Event
  acts : (label : Label) → (moment : ℕ) → (done : Act) → Event
  starts : (child : ℕ) → (label : Label) → (tick : ℕ) → Event

-- the result of each child of a task, by its number: what is recorded of the children's outcomes
abbrev pub ChildOutcomes : Type 0
ChildOutcomes = ℕ → Result

-- the log of what was done, with what is recorded of the children
abbrev pub fill : ChildOutcomes → List Event → Log
fill outcomes [] = nil
fill outcomes (noted t e ∷ es) = entry t e (fill outcomes es)
fill outcomes (signs l t ∷ es) = sign l t (fill outcomes es)
fill outcomes (enters l t d ∷ es) = entered l t d (fill outcomes es)
fill outcomes (acts l t a ∷ es) = act l t a (fill outcomes es)
fill outcomes (starts i l t ∷ es) = task l t (outcomes i).end (outcomes i).exc (outcomes i).log (fill outcomes es)

-- children as members of their nursery
abbrev pub outcome_members : ChildOutcomes → List ℕ → List Member
outcome_members outcomes [] = []
outcome_members outcomes (i ∷ is) = record { end = (outcomes i).end; exc = (outcomes i).exc } ∷ outcome_members outcomes is

-- `k` consecutive numbers of children in order, from the given first one
abbrev pub consecutive : ℕ → ℕ → List ℕ
consecutive first zero = []
consecutive first (suc k) = consecutive first k ++ (first + k) ∷ []

-- the events of starting children 0 to k - 1 of a `start .. over`, which are numbered from the given number on
abbrev pub starts_over : List ℕ → Here → ℕ → ℕ → ℕ → List Event
starts_over name here t first zero = []
starts_over name here t first (suc k) = starts_over name here t first k ++ starts (first + k) (label_over name here k) t ∷ []

-- What a task has not finished. The frames are nested in each other, and the task's stack has a level for each scope and
-- nursery among them.
pub data Frame : Type 0 where
  -- the steps of a block that were not begun
  steps_left : (steps : Steps) → Frame
  -- a scope
  in_scope : (fail : Bool) → Frame
  -- an event, a limiter or a channel
  in_event : Frame
  -- the block of an `acquire`, which has a token of this limiter
  with_token : (limiter : Label) → Frame
  -- the block of a `receive`, whose part is the one that was received
  with_part : (received : Range) → Frame
  -- the body of a nursery, with the children started so far
  in_nursery : (children : List ℕ) → Frame
  -- a pass of a `repeat`, with its number, how many come after it, into how many cuts the part is divided for them if it is, and its block
  in_repeat : (pass left : ℕ) → (cuts : Option ℕ) → (body : Steps) → Frame
  -- the body of a `try`
  in_try : (handler : Handled) → (cleanup : Cleaned) → Frame
  -- a handler, with the rest of the split
  in_handler : (rest : Option Exc) → (cleanup : Cleaned) → Frame
  -- a cleanup, with the earlier outcome
  in_cleanup : (outcome : Option Exc) → Frame

-- The path of indices inside these frames, given the path of their task: a pass adds its number. It is computed from the
-- frames, so when a frame is left, this is again the path of what encloses it.
abbrev pub path_in : List Frame → List ℕ → List ℕ
path_in [] path = path
path_in (steps_left ss ∷ fs) path = path_in fs path
path_in (in_scope fail ∷ fs) path = path_in fs path
path_in (in_event ∷ fs) path = path_in fs path
path_in (with_token limiter ∷ fs) path = path_in fs path
path_in (with_part received ∷ fs) path = path_in fs path
path_in (in_nursery children ∷ fs) path = path_in fs path
path_in (in_repeat pass left cuts body ∷ fs) path = path_in fs path ++ pass ∷ []
path_in (in_try handler cleanup ∷ fs) path = path_in fs path
path_in (in_handler rest cleanup ∷ fs) path = path_in fs path
path_in (in_cleanup outcome ∷ fs) path = path_in fs path

-- The part of the input inside these frames, given that of their task: a pass of a `repeat over` has its cut,
-- and the block of a `receive` what was received.
abbrev pub part_in : List ℕ → List Frame → Range → Range
part_in input [] part = part
part_in input (steps_left ss ∷ fs) part = part_in input fs part
part_in input (in_scope fail ∷ fs) part = part_in input fs part
part_in input (in_event ∷ fs) part = part_in input fs part
part_in input (with_token limiter ∷ fs) part = part_in input fs part
part_in input (with_part received ∷ fs) part = received
part_in input (in_nursery children ∷ fs) part = part_in input fs part
part_in input (in_repeat pass left cuts body ∷ fs) part = part_in_pass input cuts pass (part_in input fs part)
part_in input (in_try handler cleanup ∷ fs) part = part_in input fs part
part_in input (in_handler rest cleanup ∷ fs) part = part_in input fs part
part_in input (in_cleanup outcome ∷ fs) part = part_in input fs part

-- where a task is inside these frames
abbrev pub inside : List Frame → Here → Here
inside fs here = record here { part = part_in here.input fs here.part; path = path_in fs here.path }

-- where a task stopped
pub data Stopped : Type 0 where
  -- it was started, and nothing of it was begun
  to_begin : Stopped
  -- it asked for a kernel's answer
  asking : (kernel : Kernel) → (purpose : Purpose) → Stopped
  -- it sleeps this number of ticks from this moment on, by `pace` or not
  asleep : (paced : Bool) → (ticks since : ℕ) → Stopped
  -- it waits for the event of this name that encloses it, from this moment on
  waiting_for : (event : List ℕ) → (since : ℕ) → Stopped
  -- it asked this of the limiter or channel of this name that encloses it, in this moment, and runs the block with what it is granted
  queued : (object : List ℕ) → (ask : Ask) → (since : ℕ) → (body : Steps) → Stopped
  -- it was cancelled in this moment at a checkpoint, which raises a round later
  giving_up : (since : ℕ) → Stopped
  -- it waits for these children of a nursery, its innermost one, whose body ended in this tick with this exception or none
  awaiting : (children : List ℕ) → (ended : ℕ) → (exc : Option Exc) → Stopped
  -- it ended
  at_end : (end : ℕ) → (exc : Option Exc) → Stopped

-- what is left of a task: where it stopped, and its frames, innermost first
pub record Rest : Type 0 where
  pub stopped : Stopped
  pub frames : List Frame

-- a block is left: it catches or not, and notes that
abbrev pub leaving_log : Clock → Kind → Label → Left → Result → Result
leaving_log clock kind label left r =
    record {
      end = r.end;
      own = r.own;
      exc = exc_after kind label (tick_of clock r.end) left;
      members = [];
      log = followed_by r.log (entry r.end (left_as kind label left.caught) nil);
    }

abbrev pub block_left : Clock → Kind → Level Label → Levels → Result → Result
block_left clock kind level outer r =
    leaving_log clock kind level.label
    (left_with (catches (from_for r.own r.end level.label level.from) level.shield (stack_for r.own r.end outer) r.end) r.exc) r

-- the innermost scope or nursery is left, if there is one, after what it results in
abbrev pub left_if : Clock → Kind → Levels → (Level Label → Result) → Result → Result
left_if clock kind [] inside r = r
left_if clock kind (l ∷ outer) inside r = block_left clock kind l outer (inside l)

abbrev pub outer_levels : Levels → Levels
outer_levels [] = []
outer_levels (l ∷ outer) = outer

-- the stack outside the innermost scope or nursery, and outside the innermost event
abbrev pub without_scope : Stack → Stack
without_scope st = record st { scopes = outer_levels st.scopes }

abbrev pub without_event : Stack → Stack
without_event st = record st { events = outer_levels st.events }

-- a nursery's body with the children that were started before
abbrev pub with_children : List Member → Result → Result
with_children ms r = record r { members = ms ++ r.members }

-- What a task results in, given its result so far, with these frames left on this stack. If no frame is left, it signs for
-- its home nursery if it ends with an exception.
unfoldable pub finish : Mode → ChildOutcomes → List Frame → Here → Stack → Result → Result
finish m outcomes [] here st r = with_sign st r
finish m outcomes (steps_left ss ∷ fs) here st r = finish m outcomes fs here st (and_then r (λ u. walk m ss (inside fs here) st u))
finish m outcomes (in_scope fail ∷ fs) here st r =
    finish m outcomes fs here (without_scope st) (left_if here.clock (a_scope fail) st.scopes (λ l. r) r)
finish m outcomes (in_event ∷ fs) here st r = finish m outcomes fs here (without_event st) r
finish m outcomes (with_token limiter ∷ fs) here st r = finish m outcomes fs here st (with_token_back limiter r)
finish m outcomes (with_part received ∷ fs) here st r = finish m outcomes fs here st r
finish m outcomes (in_nursery children ∷ fs) here st r =
    finish m outcomes fs here (without_scope st)
    (left_if here.clock a_nursery st.scopes
    (λ l. nursery_result here.clock l.label (with_children (outcome_members outcomes children) (with_sign st r))) r)
finish m outcomes (in_repeat pass left cuts body ∷ fs) here st r =
    finish m outcomes fs here st (and_then r (λ u. passes (suc pass) left (λ i v. walk m body (in_pass cuts i (inside fs here)) st v) u))
finish m outcomes (in_try handler cleanup ∷ fs) here st r =
    finish m outcomes fs here st (walk_cleanup m cleanup (inside fs here) st (walk_handler m handler (inside fs here) st r))
finish m outcomes (in_handler rest cleanup ∷ fs) here st r =
    finish m outcomes fs here st (walk_cleanup m cleanup (inside fs here) st (with_outcome (handler_exc r.exc rest) r))
finish m outcomes (in_cleanup outcome ∷ fs) here st r =
    finish m outcomes fs here st (with_outcome (outcome_after outcome r.exc) r)

-- a nursery whose body ended in tick u with this exception or none, after its children have ended too
abbrev pub wait_result : Clock → List Member → ℕ → Option Exc → Levels → Now → Result
wait_result clock ms u exc scopes now =
    left_if clock a_nursery scopes
    (λ l. nursery_result clock l.label (record { end = u; own = []; exc = exc; members = ms; log = nil })) (done_at now)

-- a task that asked in moment m, where a limiter or channel of the name encloses it
abbrev pub queue_result : Mode → Ask → Option Label → Here → Stack → ℕ → (Here → Now → Result) → Result
queue_result mode ask None here st m go = done_at (only_at m)
queue_result mode ask (Some label) here st m go = asks_in mode ask label here st m go

-- What the rest of a task that stopped in tick t results in, on its stack. An answer comes in the same tick, a sleep ends
-- when it is due or cancelled, a wait ends with the last child; and a task that ended has nothing left.
abbrev pub finished_from : Mode → ChildOutcomes → Stopped → List Frame → Here → Stack → Now → Result
finished_from m outcomes to_begin fs here st now = finish m outcomes fs here st (done_at now)
finished_from m outcomes (asking kernel purpose) fs here st now =
    finish m outcomes fs here st (answer_result (answer_of kernel (inside fs here)) purpose here st now)
finished_from m outcomes (asleep false n since) fs here st now = finish m outcomes fs here st (sleep_result here.clock st n since)
finished_from m outcomes (asleep true n since) fs here st now = finish m outcomes fs here st (pace_result here.clock st n since)
finished_from m outcomes (giving_up since) fs here st now = finish m outcomes fs here st (raised_at cancelled (only_at (suc since)))
finished_from m outcomes (waiting_for event since) fs here st now =
    finish m outcomes fs here st (event_wait here.clock st (event_on event st.events) (only_at since))
finished_from m outcomes (queued object ask since body) fs here st now =
    finish m outcomes fs here st
    (queue_result m ask (label_on object st.events) (inside fs here) st since (λ inner later. walk m body inner st later))
finished_from m outcomes (awaiting children u exc) fs here st now =
    finish m outcomes fs here (without_scope st) (wait_result here.clock (outcome_members outcomes children) u exc st.scopes now)
finished_from m outcomes (at_end u e) fs here st now = record { end = u; own = []; exc = e; members = []; log = nil }

-- what the rest of a task results in, on its stack
abbrev pub rest_comes_to : Mode → ChildOutcomes → Rest → Here → Stack → Now → Result
rest_comes_to m outcomes rest here st now = finished_from m outcomes rest.stopped rest.frames here st now

-- what the whole task results in, with what it did before
abbrev pub task_comes_to : Mode → ChildOutcomes → List Event → Rest → Here → Stack → Now → Result
task_comes_to m outcomes made rest here st now =
    let r = rest_comes_to m outcomes rest here st now in
    record r { log = followed_by (fill outcomes made) r.log }

-- the rest of a task that was started and has not begun
abbrev pub rest_at_start : Steps → Rest
rest_at_start steps = record { stopped = to_begin; frames = steps_left steps ∷ [] }

-- How much is left of a task: each turn makes it less. A step that was not begun counts 2, those of children still to
-- be started and of passes to come too, and an open nursery 1.
abbrev pub frame_weight : Frame → ℕ
frame_weight (steps_left ss) = 2 * size_of ss
frame_weight (in_scope fail) = 0
frame_weight in_event = 0
frame_weight (with_token limiter) = 0
frame_weight (with_part received) = 0
frame_weight (in_nursery children) = 1
frame_weight (in_repeat pass left cuts body) = 2 * (left * (1 + size_of body))
frame_weight (in_try handler cleanup) = 2 * (handled_size handler + cleaned_size cleanup)
frame_weight (in_handler rest cleanup) = 2 * cleaned_size cleanup
frame_weight (in_cleanup outcome) = 0

abbrev pub frames_weight : List Frame → ℕ
frames_weight [] = 0
frames_weight (f ∷ fs) = frame_weight f + frames_weight fs

-- a task that asks for a count continues with a sleep
abbrev pub asking_weight : Purpose → ℕ
asking_weight shows = 1
asking_weight (needs name) = 1
asking_weight (paces k) = 2

-- a checkpoint that is cancelled takes two turns
abbrev pub sleep_weight : Bool → ℕ → ℕ
sleep_weight paced (suc n) = 1
sleep_weight true zero = 1
sleep_weight false zero = 2

abbrev pub stop_weight : Stopped → ℕ
stop_weight to_begin = 1
stop_weight (asking kernel purpose) = asking_weight purpose
stop_weight (asleep paced n since) = sleep_weight paced n
stop_weight (waiting_for event since) = 2
stop_weight (queued object ask since body) = 1 + 2 * size_of body
stop_weight (giving_up since) = 1
stop_weight (awaiting children ended exc) = 1
stop_weight (at_end u e) = 0

abbrev pub rest_weight : Rest → ℕ
rest_weight rest = stop_weight rest.stopped + frames_weight rest.frames
