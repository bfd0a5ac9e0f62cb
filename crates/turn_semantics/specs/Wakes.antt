-- How a task that stopped continues: what wakes it, what it does first, and when it wakes so according to a table.
use Rattle.std.specs.Prelude.{◌≡◌, ◌⊎◌, ℕ, zero, suc, ◌+◌, ◌<◌, ◌≤◌, Bool, true, false, Option, Some, None, List, [], ◌∷◌, length, nat_le, codes}
use Rattle.job_tree.specs.declared.object.Ask.{Ask}
use Rattle.job_tree.specs.declared.object.Ask.TheVariants.{Acquire, Send, Receive}
use Rattle.job_tree.specs.Tree.{Steps}
use Rattle.input_lines.specs.Lines.{Span}
use Rattle.exceptions.specs.Exceptions.{Label, Exc, cancelled, raised, by_nursery, parts_of, group_of}
use Rattle.cancel_scopes.specs.Sight.{Tick, Level, sight, seen}
use Rattle.job_meaning.specs.Log.{asks, Member, Table, line, waited, Entry, was_granted}
use Rattle.job_meaning.specs.Sharing.{What, a_token, was_sent, a_part, closed_resource, end_of_channel, Granted}
use Rattle.job_meaning.specs.Moments.{a_round_after, wakes_at, tick_of, Now}
use Rattle.job_meaning.specs.declared.clock.Clock.{Clock}
use Rattle.job_meaning.specs.declared.clock.Clock.TheVariants.{ByTicks as by_ticks, ByRounds as by_rounds}
use Rattle.job_meaning.specs.Walk.{Stack, Here, event_on, last_grant, leaves_queue, in_time, set_moment, a_nursery, pace_ticks, with_exc, excs_of, latest}
use Rattle.job_meaning.specs.Asking.{Kernel, Answer, lines, missing, counted, answer_of, Purpose, shows, needs, paces}
use Rattle.job_meaning.specs.Rest.{Event, noted, acts, ChildOutcomes, outcome_members, Frame, steps_left, with_token, with_part, inside, Stopped, to_begin, asking, asleep, waiting_for, queued, giving_up, awaiting}
use Rattle.turn_semantics.specs.Midway.{Place, label_among, Tables, stack_at, Move, then_move, OwnFits, now_after}
use Rattle.turn_semantics.specs.Steps.{onward, blocks_on, makes, sleeps, leaves, cancelled_from_after, turn_of}

-- what wakes a task: its first turn, a cancellation that is seen, the round after a checkpoint that was cancelled, a sleep that
-- is due, a kernel's answer, what a limiter or channel grants, or the last member of its nursery, with the nursery's exception
pub data Wake : Type 0 where
  begins : Wake
  sees : Wake
  gives_up : Wake
  is_due : Wake
  has_answer : (answer : Answer) → Wake
  is_granted : (what : What) → Wake
  settles : (exc : Option Exc) → Wake

-- lines are noted in the order in which a kernel answers them
abbrev pub lines_made : ℕ → List Span → List Event
lines_made t [] = []
lines_made t (l ∷ ls) = noted t (line l) ∷ lines_made t ls

-- what a task does first with an answer: `need` raises if there is no line, and `pace` sleeps by the count
abbrev pub goes_on_with : Table → ℕ → Here → Answer → Purpose → List Frame → List Place → Move
goes_on_with cancelled_from t here (lines ls) purpose fs ps = makes (lines_made t ls) fs ps
goes_on_with cancelled_from t here missing (needs name) fs ps = onward fs ps (Some (raised name here.task (tick_of here.clock t)))
goes_on_with cancelled_from t here missing shows fs ps = onward fs ps None
goes_on_with cancelled_from t here missing (paces k) fs ps = onward fs ps None
goes_on_with cancelled_from t here (counted n) (paces k) fs ps = sleeps here.clock cancelled_from true (pace_ticks n k) t fs ps
goes_on_with cancelled_from t here (counted n) shows fs ps = onward fs ps None
goes_on_with cancelled_from t here (counted n) (needs name) fs ps = onward fs ps None

-- only a task that asked does something with an answer
abbrev pub with_answer : Table → ℕ → Here → Answer → Stopped → List Frame → List Place → Move
with_answer cancelled_from t here a (asking kernel purpose) fs ps = goes_on_with cancelled_from t here a purpose fs ps
with_answer cancelled_from t here a to_begin fs ps = onward fs ps None
with_answer cancelled_from t here a _ fs ps = onward fs ps None

-- a nursery whose last member ended is left
abbrev pub leaves_settled : Clock → Table → Now → Option Exc → List Frame → List Place → Move
leaves_settled clock cancelled_from now exc fs [] = onward fs [] exc
leaves_settled clock cancelled_from now exc fs (p ∷ ps) = leaves clock cancelled_from now a_nursery fs p ps exc

-- the moment in which a wait for an event ends
abbrev pub set_at : Clock → Option (Level Label) → ℕ → ℕ
set_at clock None since = since
set_at clock (Some l) since = set_moment clock l.from since

-- the moment in which a wait for the event of this name ends, by the moments of cancellation of a table
abbrev pub ends_at : Clock → Table → List ℕ → ℕ → List Place → ℕ
ends_at clock cancelled_from name since ps = set_at clock (event_on name (stack_at cancelled_from ps).events) since

-- where there are rounds, a wait for an event that is set by the next round is a checkpoint
abbrev pub is_checkpoint : Clock → (set since : ℕ) → Bool
is_checkpoint by_ticks set since = false
is_checkpoint by_rounds set since = nat_le set (suc since)

-- A task at a checkpoint raises a round later.
abbrev pub gives_up_if : Bool → ℕ → List Frame → List Place → Move
gives_up_if true t fs ps = blocks_on (giving_up t) fs ps
gives_up_if false t fs ps = onward fs ps (Some cancelled)

-- a wait that ends well is noted with the event's label
abbrev pub notes_wait : Option (Level Label) → ℕ → List Frame → List Place → Move
notes_wait None t fs ps = onward fs ps None
notes_wait (Some l) t fs ps = makes (noted t (waited l.label) ∷ []) fs ps

-- a task that left the queue raises, and it is known when it left
abbrev pub leaves_the_queue : Option Label → Here → Ask → (since t : ℕ) → Exc → List Frame → List Place → Move
leaves_the_queue None here ask since t e fs ps = onward fs ps (Some e)
leaves_the_queue (Some l) here ask since t e fs ps =
    record { frames = fs; places = ps; exc = Some e; made = acts l since (asks ask here.part (Some t)) ∷ []; begun = []; stopped = None }

-- a task goes on with a token or a part, or since its part was sent: the block of its step comes first
abbrev pub goes_on_granted : Entry → Label → Here → Ask → (since t : ℕ) → List Frame → List Place → Move
goes_on_granted e l here ask since t fs ps = makes (acts l since (asks ask here.part None) ∷ noted t e ∷ []) fs ps

abbrev pub raises_granted : Label → Here → Ask → (since t : ℕ) → List ℕ → List Frame → List Place → Move
raises_granted l here ask since t name fs ps =
    record {
      frames = fs;
      places = ps;
      exc = Some (raised name here.task (tick_of here.clock t));
      made = acts l since (asks ask here.part None) ∷ [];
      begun = [];
      stopped = None;
    }

-- what a task does first with what it was granted
abbrev pub granted_move : Label → Here → Ask → (since t : ℕ) → Steps → What → List Frame → List Place → Move
granted_move l here ask since t body a_token fs ps = goes_on_granted (was_granted Acquire l) l here ask since t (steps_left body ∷ with_token l ∷ fs) ps
granted_move l here ask since t body was_sent fs ps = goes_on_granted (was_granted Send l) l here ask since t (steps_left body ∷ fs) ps
granted_move l here ask since t body (a_part received) fs ps = goes_on_granted (was_granted Receive l) l here ask since t (steps_left body ∷ with_part received ∷ fs) ps
granted_move l here ask since t body closed_resource fs ps = raises_granted l here ask since t (codes "ClosedResource") fs ps
granted_move l here ask since t body end_of_channel fs ps = raises_granted l here ask since t (codes "EndOfChannel") fs ps

abbrev pub granted_on : Option Label → Here → Ask → (since t : ℕ) → Steps → What → List Frame → List Place → Move
granted_on None here ask since t body what fs ps = onward fs ps None
granted_on (Some l) here ask since t body what fs ps = granted_move l here ask since t body what fs ps

-- only a task that asked a limiter or channel does something with what is granted
abbrev pub with_grant : ℕ → Here → What → Stopped → List Frame → List Place → Move
with_grant t here what (queued object ask since body) fs ps = granted_on (label_among true object ps) (inside fs here) ask since t body what fs ps
with_grant t here what _ fs ps = onward fs ps None

-- A task that sees a cancellation raises, but for one at a checkpoint, which raises a round later.
abbrev pub sees_from : Here → Table → ℕ → Stopped → List Frame → List Place → Move
sees_from here cancelled_from t (asleep false zero since) fs ps = blocks_on (giving_up t) fs ps
sees_from here cancelled_from t (asleep false (suc n) since) fs ps = onward fs ps (Some cancelled)
sees_from here cancelled_from t to_begin fs ps = onward fs ps (Some cancelled)
sees_from here cancelled_from t (waiting_for event since) fs ps =
    gives_up_if (is_checkpoint here.clock (ends_at here.clock cancelled_from event since ps) since) t fs ps
sees_from here cancelled_from t (queued object ask since body) fs ps =
    leaves_the_queue (label_among true object ps) (inside fs here) ask since t cancelled fs ps
sees_from here cancelled_from t _ fs ps = onward fs ps (Some cancelled)

-- a task whose wait is over continues
abbrev pub is_due_from : Here → Table → ℕ → Stopped → List Frame → List Place → Move
is_due_from here cancelled_from t (waiting_for event since) fs ps = notes_wait (event_on event (stack_at cancelled_from ps).events) t fs ps
is_due_from here cancelled_from t (queued object ask since body) fs ps =
    leaves_the_queue (label_among true object ps) (inside fs here) ask since t (raised (codes "Deadlock") here.task (tick_of here.clock t)) fs ps
is_due_from here cancelled_from t _ fs ps = onward fs ps None

-- what a task that wakes does first, depending on where it stopped
abbrev pub wake_of : Table → Now → Here → Wake → Stopped → List Frame → List Place → Move
wake_of cancelled_from now here begins s fs ps = onward fs ps None
wake_of cancelled_from now here sees s fs ps = sees_from here cancelled_from now.at s fs ps
wake_of cancelled_from now here gives_up s fs ps = onward fs ps (Some cancelled)
wake_of cancelled_from now here is_due s fs ps = is_due_from here cancelled_from now.at s fs ps
wake_of cancelled_from now here (has_answer a) s fs ps = with_answer cancelled_from now.at here a s fs ps
wake_of cancelled_from now here (is_granted what) s fs ps = with_grant now.at here what s fs ps
wake_of cancelled_from now here (settles exc) s fs ps = leaves_settled here.clock cancelled_from now exc fs ps

-- a whole turn of a task that stopped there with these frames and these enclosing scopes and nurseries, and had started
-- the given number of children: the wake, and then at most n steps
unfoldable pub turn_from : ℕ → Table → Now → Here → Wake → Stopped → List Frame → List Place → ℕ → Move
turn_from n cancelled_from now here w s fs ps count =
    let o = wake_of cancelled_from now here w s fs ps in
    then_move o.stopped o
    (turn_of n (cancelled_from_after cancelled_from o.made) (now_after here.clock now o.made) here (record {
      frames = o.frames;
      places = o.places;
      exc = o.exc;
      count =
          count + length o.begun;
    }))

-- A nursery settles in the tick of its last member, or a round after it, with the group of what its members raised: it is the task's innermost
-- one, and its children ended as listed.
abbrev pub SettlesAt : Clock → ℕ → Option Exc → List Member → ℕ → Option Exc → List Place → Type 0
SettlesAt clock t exc ms ended e [] = ⊥
SettlesAt clock t exc ms ended e (p ∷ ps) =
    (a_round_after clock (latest ended ms) ≡ t) × (group_of (by_nursery p.label) (parts_of (with_exc e (excs_of ms))) ≡ exc)

-- a tick is before a moment
abbrev pub IsBefore : Tick → ℕ → Type 0
IsBefore None t = ⊥
IsBefore (Some from) t = from < t

-- A sleeper sees a cancellation when it begins to be seen, or in the first round of its sleep, if it was seen before.
abbrev pub SeesAt : Clock → (since t : ℕ) → Stack → Type 0
SeesAt clock since t st = (sight st.scopes ≡ Some t) ⊎ ((a_round_after clock since ≡ t) × (seen st.scopes t ≡ true))

-- a task that waits for an event sees a cancellation before the event is set, or at a checkpoint
abbrev pub SeesWaiting : Clock → (set since t : ℕ) → Stack → Type 0
SeesWaiting clock set since t st =
    (a_round_after clock since ≤ t) × SeesAt clock since t st
    × (((set ≤ a_round_after clock since) × (t ≤ a_round_after clock since)) ⊎ ((a_round_after clock since < set) × (t < set)))

-- it goes on when the event is set, or at a checkpoint a round later
abbrev pub GoesOnWaiting : Clock → (set since t : ℕ) → Stack → Type 0
GoesOnWaiting clock set since t st =
    ((set ≤ a_round_after clock since) × (a_round_after clock since ≡ t) × (seen st.scopes t ≡ false))
    ⊎ ((a_round_after clock since < set) × (set ≡ t) × (IsBefore (sight st.scopes) set → ⊥))

-- what a task is granted that asked in moment `since`, by the tables, if it comes in time
abbrev pub granted_to : Tables → Here → Option Label → (since : ℕ) → Stack → Option Granted
granted_to tables here None since st = None
granted_to tables here (Some l) since st =
    in_time since (leaves_queue (sight st.scopes) (last_grant here.clock since)) (tables.granted l here.task since)

-- a task leaves its queue in this moment, since nothing was granted to it in time
abbrev pub LeavesAt : Tables → Here → Option Label → (since t : ℕ) → Stack → Type 0
LeavesAt tables here l since t st =
    (granted_to tables here l since st ≡ None) × (leaves_queue (sight st.scopes) (last_grant here.clock since) ≡ t)

-- According to a table, and to what is recorded of its children, a task that stopped in one moment wakes in another one by this
-- wake: in the same moment if it begins or has the kernel's answer; a sleeper when it sees a cancellation on its stack, if that
-- is by the end of its sleep, or else at the end; one that gives up, a round later; and a task that waits, with its nursery. What
-- it has cancelled in the moment is what it had cancelled before, if it is the same moment; where moments are ticks, that is nothing.
abbrev pub WakesBy : Tables → ChildOutcomes → Here → Now → Now → Wake → Stopped → List Place → Type 0
WakesBy table outcomes here u now begins to_begin ps = (u ≡ now) × OwnFits here.clock now.own
WakesBy table outcomes here u now (has_answer a) (asking kernel purpose) ps = (u ≡ now) × (a ≡ answer_of kernel here) × OwnFits here.clock now.own
WakesBy table outcomes here u now sees (asleep paced n since) ps =
    (since < now.at) × (now.at ≤ wakes_at here.clock n since) × SeesAt here.clock since now.at (stack_at table.cancelled_from ps) × (now.own ≡ [])
WakesBy table outcomes here u now gives_up (giving_up since) ps = (suc since ≡ now.at) × (now.own ≡ [])
WakesBy table outcomes here u now is_due (asleep paced n since) ps =
    (wakes_at here.clock n since ≡ now.at) × (seen (stack_at table.cancelled_from ps).scopes now.at ≡ false) × (now.own ≡ [])
WakesBy table outcomes here u now sees (waiting_for event since) ps =
    SeesWaiting here.clock (ends_at here.clock table.cancelled_from event since ps) since now.at (stack_at table.cancelled_from ps) × (now.own ≡ [])
WakesBy table outcomes here u now is_due (waiting_for event since) ps =
    GoesOnWaiting here.clock (ends_at here.clock table.cancelled_from event since ps) since now.at (stack_at table.cancelled_from ps) × (now.own ≡ [])
WakesBy table outcomes here u now (is_granted what) (queued object ask since body) ps =
    (granted_to table here (label_among true object ps) since (stack_at table.cancelled_from ps) ≡ Some (record { at = now.at; what = what })) × (now.own ≡ [])
WakesBy table outcomes here u now sees (queued object ask since body) ps =
    LeavesAt table here (label_among true object ps) since now.at (stack_at table.cancelled_from ps)
    × (seen (stack_at table.cancelled_from ps).scopes now.at ≡ true) × (now.own ≡ [])
WakesBy table outcomes here u now is_due (queued object ask since body) ps =
    LeavesAt table here (label_among true object ps) since now.at (stack_at table.cancelled_from ps)
    × (seen (stack_at table.cancelled_from ps).scopes now.at ≡ false) × (now.own ≡ [])
WakesBy table outcomes here u now (settles exc) (awaiting children ended e) ps =
    SettlesAt here.clock now.at exc (outcome_members outcomes children) ended e ps × (now.own ≡ [])
WakesBy table outcomes here u now _ _ ps = ⊥

-- a wake that is possible after such a stop
pub data CanWake : Wake → Stopped → Type 0 where
  from_start : CanWake begins to_begin
  from_asking : {a : Answer} {kernel : Kernel} {purpose : Purpose} → CanWake (has_answer a) (asking kernel purpose)
  from_sleep : {paced : Bool} {n since : ℕ} → CanWake sees (asleep paced n since)
  from_due : {paced : Bool} {n since : ℕ} → CanWake is_due (asleep paced n since)
  from_seen_waiting : {event : List ℕ} {since : ℕ} → CanWake sees (waiting_for event since)
  from_set : {event : List ℕ} {since : ℕ} → CanWake is_due (waiting_for event since)
  from_granted : {what : What} {object : List ℕ} {ask : Ask} {since : ℕ} {body : Steps} → CanWake (is_granted what) (queued object ask since body)
  from_seen_queued : {object : List ℕ} {ask : Ask} {since : ℕ} {body : Steps} → CanWake sees (queued object ask since body)
  from_deadlock : {object : List ℕ} {ask : Ask} {since : ℕ} {body : Steps} → CanWake is_due (queued object ask since body)
  from_giving_up : {since : ℕ} → CanWake gives_up (giving_up since)
  from_wait : {exc : Option Exc} {children : List ℕ} {ended : ℕ} {e : Option Exc} → CanWake (settles exc) (awaiting children ended e)
