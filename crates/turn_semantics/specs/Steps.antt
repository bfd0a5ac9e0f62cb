-- One step of a task in the middle of a turn, and a whole turn.
use Rattle.std.specs.Prelude.{ℕ, zero, suc, ◌+◌, ◌-◌, Bool, true, false, not, Option, Some, None, List, [], ◌∷◌, ◌++◌}
use Rattle.job_tree.specs.Tree.{Step, sleep, checkpoint, forever, pace, find, head, longest, need, raise, cancel, set_event, wait_for, ask_for, close_channel, scope, nursery, event, object, start, repeat, attempt, Steps, stop, step, Handled, unhandled, except, Cleaned, uncleaned, finally}
use Rattle.job_tree.specs.declared.object.Ask.{Ask}
use Rattle.job_tree.specs.declared.object.ObjectKind.{ObjectKind}
use Rattle.input_lines.specs.Cuts.{cut_of}
use Rattle.exceptions.specs.Exceptions.{Label, Exc, cancelled, raised}
use Rattle.exceptions.specs.Split.{named, keep, drop}
use Rattle.cancel_scopes.specs.Sight.{Tick, earlier, next, seen, catches}
use Rattle.job_meaning.specs.Log.{Act, opens, gives_back, closes, Table, same_label}
use Rattle.job_meaning.specs.Moments.{tick_of, a_round_after, due, Now, far}
use Rattle.job_meaning.specs.declared.clock.Clock.{Clock}
use Rattle.job_meaning.specs.declared.clock.Clock.TheVariants.{ByTicks as by_ticks, ByRounds as by_rounds}
use Rattle.job_meaning.specs.Walk.{Here, cuts_over, from_for, stack_for, label_here, label_over, label_if, here_in, Kind, a_scope, left_as, left_with, exc_after, handler_exc, outcome_after}
use Rattle.job_meaning.specs.Rest.{Event, noted, signs, enters, acts, starts, starts_over, consecutive, Frame, steps_left, in_scope, in_event, with_token, with_part, in_nursery, in_repeat, in_try, in_handler, in_cleanup, inside, Stopped, asking, asleep, waiting_for, queued, giving_up, awaiting, at_end}
use Rattle.job_meaning.specs.Asking.{shows, needs, paces}
use Rattle.job_meaning.specs.Asking as ask
use Rattle.turn_semantics.specs.Midway.{Place, label_among, stack_at, Midway, Begun, Move, after_move, no_move, then_move, now_after}

-- ---- the moments of cancellation of the world

-- a label is cancelled in a tick, which is seen from the next one on
abbrev pub from_lowered_if : Bool → ℕ → Tick → Tick
from_lowered_if true t from = earlier from (next (Some t))
from_lowered_if false t from = from

abbrev pub cancelled_from_after_sign : Table → Label → ℕ → Table
cancelled_from_after_sign cancelled_from label t l = from_lowered_if (same_label l label) t (cancelled_from l)

-- a label is entered: its from is its deadline at first
abbrev pub from_entered_if : Bool → Tick → Tick → Tick
from_entered_if true deadline from = deadline
from_entered_if false deadline from = from

abbrev pub cancelled_from_after_entry : Table → Label → Tick → Table
cancelled_from_after_entry cancelled_from label deadline l = from_entered_if (same_label l label) deadline (cancelled_from l)

-- the moments of cancellation after these events
abbrev pub cancelled_from_after : Table → List Event → Table
cancelled_from_after cancelled_from [] = cancelled_from
cancelled_from_after cancelled_from (signs l t ∷ es) = cancelled_from_after (cancelled_from_after_sign cancelled_from l t) es
cancelled_from_after cancelled_from (enters l t d ∷ es) = cancelled_from_after (cancelled_from_after_entry cancelled_from l d) es
cancelled_from_after cancelled_from (_ ∷ es) = cancelled_from_after cancelled_from es

-- ---- what a step does

-- the task continues, with these frames and this outcome so far
abbrev pub onward : List Frame → List Place → Option Exc → Move
onward fs ps exc = record { frames = fs; places = ps; exc = exc; made = []; begun = []; stopped = None }

-- the task stops, with nothing raised
abbrev pub blocks_on : Stopped → List Frame → List Place → Move
blocks_on s fs ps = record { frames = fs; places = ps; exc = None; made = []; begun = []; stopped = Some s }

-- the task makes these events and continues, with nothing raised
abbrev pub makes : List Event → List Frame → List Place → Move
makes es fs ps = record { frames = fs; places = ps; exc = None; made = es; begun = []; stopped = None }

-- A sleep is a checkpoint. Where moments are ticks, a cancellation that is seen now is raised at once, and a sleep of no tick
-- continues. Where there are rounds, each sleep lets the others have a round.
abbrev pub falls_asleep : Clock → (seen_now : Bool) → (paced : Bool) → ℕ → ℕ → List Frame → List Place → Move
falls_asleep by_ticks true paced n t fs ps = onward fs ps (Some cancelled)
falls_asleep by_ticks false paced zero t fs ps = onward fs ps None
falls_asleep by_ticks false paced (suc n) t fs ps = blocks_on (asleep paced (suc n) t) fs ps
falls_asleep by_rounds seen_now paced n t fs ps = blocks_on (asleep paced n t) fs ps

abbrev pub sleeps : Clock → Table → (paced : Bool) → ℕ → ℕ → List Frame → List Place → Move
sleeps clock cancelled_from paced n t fs ps = falls_asleep clock (seen (stack_at cancelled_from ps).scopes t) paced n t fs ps

abbrev pub signs_to : Option Label → ℕ → List Event
signs_to None t = []
signs_to (Some l) t = signs l t ∷ []

-- a task waits for an event of this name that encloses it
abbrev pub waits_on : Option Label → List ℕ → ℕ → List Frame → List Place → Move
waits_on None name t fs ps = onward fs ps None
waits_on (Some l) name t fs ps = blocks_on (waiting_for name t) fs ps

-- A task that sees a cancellation, its own of this moment too, does not ask: it raises as a checkpoint does that is cancelled.
abbrev pub asks_if : Clock → (seen_now : Bool) → List ℕ → Ask → ℕ → Steps → List Frame → List Place → Move
asks_if clock false name ask t body fs ps = blocks_on (queued name ask t body) fs ps
asks_if by_ticks true name ask t body fs ps = onward fs ps (Some cancelled)
asks_if by_rounds true name ask t body fs ps = blocks_on (giving_up (suc t)) fs ps

-- a task asks something of a limiter or channel of this name that encloses it
abbrev pub asks_of : Clock → Option Label → (seen_now : Bool) → List ℕ → Ask → ℕ → Steps → List Frame → List Place → Move
asks_of clock None seen_now name ask t body fs ps = onward fs ps None
asks_of clock (Some l) seen_now name ask t body fs ps = asks_if clock seen_now name ask t body fs ps

-- an act on a limiter or channel
abbrev pub acts_on : Option Label → ℕ → Act → List Event
acts_on None t a = []
acts_on (Some l) t a = acts l t a ∷ []

-- the innermost scope or nursery
abbrev pub home_among : List Place → Option Label
home_among [] = None
home_among (p ∷ ps) = label_if (not p.is_event) p.label (home_among ps)

-- a task or body that ends with an exception signs for the innermost enclosing nursery: a nursery's body for its own
-- nursery, and a task, which has left all its own scopes and nurseries, for its home nursery
abbrev pub signs_home : Option Exc → List Place → ℕ → List Event
signs_home None ps t = []
signs_home (Some e) ps t = signs_to (home_among ps) t

-- children are started in the nursery whose body the task is in, perhaps in a pass of a `repeat` there
abbrev pub with_started : List ℕ → List Frame → List Frame
with_started more (in_nursery children ∷ fs) = in_nursery (children ++ more) ∷ fs
with_started more (in_repeat pass left cuts body ∷ fs) = in_repeat pass left cuts body ∷ with_started more fs
with_started more (steps_left ss ∷ fs) = steps_left ss ∷ with_started more fs
with_started more fs = fs

-- a child with this number, on its part
abbrev pub begun_one : ℕ → Here → Steps → List Place → Begun
begun_one i here body ps = record { number = i; here = here; places = ps; body = body }

-- children 0 to k - 1 of a `start .. over` of `of` cuts, numbered from `first` on
abbrev pub begun_over : List ℕ → Here → ℕ → Steps → List Place → ℕ → ℕ → List Begun
begun_over name here of body ps first zero = []
begun_over name here of body ps first (suc k) =
    begun_over name here of body ps first k
    ++ begun_one (first + k) (here_in (label_over name here k) (cut_of here.input here.part of k) here) body ps ∷ []

-- a scope or nursery is entered: its body comes first, then its exit
abbrev pub enters_block : Label → Bool → Tick → ℕ → Steps → Frame → List Frame → List Place → Move
enters_block label shield deadline t body exit fs ps =
    makes (enters label t deadline ∷ []) (steps_left body ∷ exit ∷ fs) (record { label = label; shield = shield; is_event = false } ∷ ps)

-- an event is entered: its body comes first
abbrev pub enters_event : Label → ℕ → Steps → List Frame → List Place → Move
enters_event label t body fs ps =
    makes (enters label t None ∷ []) (steps_left body ∷ in_event ∷ fs) (record { label = label; shield = false; is_event = true } ∷ ps)

-- a limiter or channel is opened and entered: its body comes first
abbrev pub enters_object : Label → ObjectKind → ℕ → Steps → List Frame → List Place → Move
enters_object label kind t body fs ps =
    makes (acts label t (opens kind) ∷ enters label t None ∷ []) (steps_left body ∷ in_event ∷ fs)
    (record { label = label; shield = false; is_event = true } ∷ ps)

-- a block that has a token has ended, and the token comes back
abbrev pub gives_token_back : Label → ℕ → List Frame → List Place → Option Exc → Move
gives_token_back label t fs ps exc =
    record { frames = fs; places = ps; exc = exc; made = acts label t gives_back ∷ []; begun = []; stopped = None }

-- the first pass of a `repeat`, if it has one, before what comes after it
abbrev pub begins_passes : ℕ → (over : Bool) → Steps → List Frame → List Place → Move
begins_passes zero over body fs ps = onward fs ps None
begins_passes (suc k) over body fs ps = onward (steps_left body ∷ in_repeat 0 k (cuts_over over (suc k)) body ∷ fs) ps None

-- One step of a block, at this point of the job, with nothing raised; the steps ss of the block come after it, and the
-- frames fs after them.
abbrev pub step_on : Table → Now → Here → Step → Steps → List Frame → List Place → ℕ → Move
step_on cancelled_from now here (sleep n) ss fs ps count = sleeps here.clock cancelled_from false n now.at (steps_left ss ∷ fs) ps
step_on cancelled_from now here checkpoint ss fs ps count = sleeps here.clock cancelled_from false 0 now.at (steps_left ss ∷ fs) ps
step_on cancelled_from now here forever ss fs ps count = sleeps here.clock cancelled_from false (far - tick_of here.clock now.at) now.at (steps_left ss ∷ fs) ps
step_on cancelled_from now here (pace k) ss fs ps count = blocks_on (asking ask.count (paces k)) (steps_left ss ∷ fs) ps
step_on cancelled_from now here (find text) ss fs ps count = blocks_on (asking (ask.find text) shows) (steps_left ss ∷ fs) ps
step_on cancelled_from now here (head n) ss fs ps count = blocks_on (asking (ask.head n) shows) (steps_left ss ∷ fs) ps
step_on cancelled_from now here longest ss fs ps count = blocks_on (asking ask.longest shows) (steps_left ss ∷ fs) ps
step_on cancelled_from now here (need text name) ss fs ps count = blocks_on (asking (ask.need text) (needs name)) (steps_left ss ∷ fs) ps
step_on cancelled_from now here (raise name) ss fs ps count = onward (steps_left ss ∷ fs) ps (Some (raised name here.task (tick_of here.clock now.at)))
step_on cancelled_from now here (cancel name) ss fs ps count = makes (signs_to (label_among false name ps) now.at) (steps_left ss ∷ fs) ps
step_on cancelled_from now here (set_event name) ss fs ps count = makes (signs_to (label_among true name ps) now.at) (steps_left ss ∷ fs) ps
step_on cancelled_from now here (wait_for name) ss fs ps count = waits_on (label_among true name ps) name now.at (steps_left ss ∷ fs) ps
step_on cancelled_from now here (ask_for name ask body) ss fs ps count =
    asks_of here.clock (label_among true name ps) (seen (stack_for now.own now.at (stack_at cancelled_from ps).scopes) now.at) name ask now.at body
    (steps_left ss ∷ fs) ps
step_on cancelled_from now here (close_channel name) ss fs ps count = makes (acts_on (label_among true name ps) now.at closes) (steps_left ss ∷ fs) ps
step_on cancelled_from now here (scope name deadline shield fail body) ss fs ps count =
    enters_block (label_here name here) shield (due here.clock deadline now.at) now.at body (in_scope fail) (steps_left ss ∷ fs) ps
step_on cancelled_from now here (nursery name deadline shield body) ss fs ps count =
    enters_block (label_here name here) shield (due here.clock deadline now.at) now.at body (in_nursery []) (steps_left ss ∷ fs) ps
step_on cancelled_from now here (event name body) ss fs ps count =
    enters_event (label_here name here) now.at body (steps_left ss ∷ fs) ps
step_on cancelled_from now here (object name kind body) ss fs ps count =
    enters_object (label_here name here) kind now.at body (steps_left ss ∷ fs) ps
step_on cancelled_from now here (start name None body) ss fs ps count =
    record {
      frames = steps_left ss ∷ with_started (count ∷ []) fs;
      places = ps;
      exc = None;
      made = starts count (label_here name here) (a_round_after here.clock now.at) ∷ [];
      begun = begun_one count (here_in (label_here name here) here.part here) body ps ∷ [];
      stopped = None;
    }
step_on cancelled_from now here (start name (Some k) body) ss fs ps count =
    record {
      frames = steps_left ss ∷ with_started (consecutive count k) fs;
      places = ps;
      exc = None;
      made = starts_over name here (a_round_after here.clock now.at) count k;
      begun = begun_over name here k body ps count k;
      stopped = None;
    }
step_on cancelled_from now here (repeat n over body) ss fs ps count = begins_passes n over body (steps_left ss ∷ fs) ps
step_on cancelled_from now here (attempt body handler cleanup) ss fs ps count =
    onward (steps_left body ∷ in_try handler cleanup ∷ steps_left ss ∷ fs) ps None

-- the steps of a block: an exception skips what is left of them
abbrev pub step_steps : Table → Now → Here → Steps → List Frame → List Place → Option Exc → ℕ → Move
step_steps cancelled_from now here ss fs ps (Some e) count = onward fs ps (Some e)
step_steps cancelled_from now here stop fs ps None count = onward fs ps None
step_steps cancelled_from now here (step s ss) fs ps None count = step_on cancelled_from now (inside fs here) s ss fs ps count

-- a scope or nursery is left: it catches or not, and notes that
abbrev pub leaves : Clock → Table → Now → Kind → List Frame → Place → List Place → Option Exc → Move
leaves clock cancelled_from now kind fs p ps exc =
    let left = left_with (catches (from_for now.own now.at p.label (cancelled_from p.label)) p.shield (stack_for now.own now.at (stack_at cancelled_from ps).scopes) now.at) exc in
    record {
      frames = fs;
      places = ps;
      exc = exc_after kind p.label (tick_of clock now.at) left;
      made = noted now.at (left_as kind p.label left.caught) ∷ [];
      begun = [];
      stopped = None;
    }

-- a handler runs if the exception has leaves of its name
abbrev pub handler_if : Option Exc → Option Exc → Exc → Steps → Cleaned → List Frame → List Place → Move
handler_if None rest e body cleanup fs ps = onward (in_try unhandled cleanup ∷ fs) ps (Some e)
handler_if (Some matched) rest e body cleanup fs ps = onward (steps_left body ∷ in_handler rest cleanup ∷ fs) ps None

-- the body of a `try` has ended: its handler, or its cleanup, or what comes after it
abbrev pub step_try : Handled → Cleaned → List Frame → List Place → Option Exc → Move
step_try unhandled uncleaned fs ps exc = onward fs ps exc
step_try unhandled (finally body) fs ps exc = onward (steps_left body ∷ in_cleanup exc ∷ fs) ps None
step_try (except name body) cleanup fs ps None = onward (in_try unhandled cleanup ∷ fs) ps None
step_try (except name body) cleanup fs ps (Some e) = handler_if (keep (named name) e) (drop (named name) e) e body cleanup fs ps

-- a pass has ended: the next one begins, if it ended without an exception and there is one
abbrev pub step_pass : ℕ → ℕ → (cuts : Option ℕ) → Steps → List Frame → List Place → Option Exc → Move
step_pass pass left cuts body fs ps (Some e) = onward fs ps (Some e)
step_pass pass zero cuts body fs ps None = onward fs ps None
step_pass pass (suc k) cuts body fs ps None = onward (steps_left body ∷ in_repeat (suc pass) k cuts body ∷ fs) ps None

-- a task that stops after this outcome: its last event is its sign, if it failed
abbrev pub ends_as : Stopped → Option Exc → ℕ → List Frame → List Place → Move
ends_as s exc t fs ps = record { frames = fs; places = ps; exc = None; made = signs_home exc ps t; begun = []; stopped = Some s }

-- One step by the innermost frame. A task with no frame left ends, and one whose nursery's body has ended waits.
abbrev pub step_frames : Table → Now → Here → List Frame → List Place → Option Exc → ℕ → Move
step_frames cancelled_from now here [] ps exc count = ends_as (at_end now.at exc) exc now.at [] ps
step_frames cancelled_from now here (steps_left ss ∷ fs) ps exc count = step_steps cancelled_from now here ss fs ps exc count
step_frames cancelled_from now here (in_scope fail ∷ fs) (p ∷ ps) exc count = leaves here.clock cancelled_from now (a_scope fail) fs p ps exc
step_frames cancelled_from now here (in_event ∷ fs) (p ∷ ps) exc count = onward fs ps exc
step_frames cancelled_from now here (with_token limiter ∷ fs) ps exc count = gives_token_back limiter now.at fs ps exc
step_frames cancelled_from now here (with_part received ∷ fs) ps exc count = onward fs ps exc
step_frames cancelled_from now here (in_nursery children ∷ fs) (p ∷ ps) exc count = ends_as (awaiting children now.at exc) exc now.at fs (p ∷ ps)
step_frames cancelled_from now here (in_repeat pass left cuts body ∷ fs) ps exc count = step_pass pass left cuts body fs ps exc
step_frames cancelled_from now here (in_try handler cleanup ∷ fs) ps exc count = step_try handler cleanup fs ps exc
step_frames cancelled_from now here (in_handler rest cleanup ∷ fs) ps exc count = onward (in_try unhandled cleanup ∷ fs) ps (handler_exc exc rest)
step_frames cancelled_from now here (in_cleanup outcome ∷ fs) ps exc count = onward fs ps (outcome_after outcome exc)
step_frames cancelled_from now here (_ ∷ fs) [] exc count = onward fs [] exc

-- one step of a task in a moment of a world with these moments of cancellation
unfoldable pub step_of : Table → Now → Here → Midway → Move
step_of cancelled_from now here m = step_frames cancelled_from now here m.frames m.places m.exc m.count

-- a turn: steps until the task stops, at most the given number; each reads the moments of cancellation that the steps before it
-- left
unfoldable pub turn_of : ℕ → Table → Now → Here → Midway → Move
turn_of zero cancelled_from now here m = no_move m
turn_of (suc n) cancelled_from now here m =
    let o = step_of cancelled_from now here m in
    then_move o.stopped o (turn_of n (cancelled_from_after cancelled_from o.made) (now_after here.clock now o.made) here (after_move m o))
