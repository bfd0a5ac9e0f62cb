-- A task in the middle of a turn, what a step of it does, and the task's result.
use Rattle.std.specs.Prelude.{◌≡◌, ℕ, ◌+◌, Bool, true, false, not, ◌&&◌, Option, Some, None, List, [], ◌∷◌, ◌++◌, length}
use Rattle.std.specs.Str.{bytes_eq}
use Rattle.job_tree.specs.Tree.{Steps}
use Rattle.exceptions.specs.Exceptions.{Label, Exc}
use Rattle.cancel_scopes.specs.Sight.{Level}
use Rattle.job_meaning.specs.Log.{nil, followed_by, Result, Table}
use Rattle.job_meaning.specs.Moments.{Now, only_at}
pub use Rattle.job_meaning.specs.Tables.{Tables, by_tables}
use Rattle.job_meaning.specs.declared.clock.Clock.{Clock}
use Rattle.job_meaning.specs.declared.clock.Clock.TheVariants.{ByTicks as by_ticks, ByRounds as by_rounds}
use Rattle.job_meaning.specs.Walk.{Stack, no_stack, Here, label_if, done_at, with_own}
use Rattle.turn_semantics.specs.Made.{SignedLabel, signed_in}
use Rattle.job_meaning.specs.Rest.{Event, ChildOutcomes, fill, Frame, Stopped, finish, finished_from, rest_comes_to, rest_at_start}

-- a scope or nursery that encloses a task, or an event, a limiter or a channel; its from is in the world's table
pub record Place : Type 0 where
  pub label : Label
  pub shield : Bool
  pub is_event : Bool

-- whether a place is an event, or whether it is none
abbrev pub is_of_kind : (events : Bool) → Place → Bool
is_of_kind true p = p.is_event
is_of_kind false p = not p.is_event

-- the label of the scope or nursery of this name that encloses the task, or of the event, limiter or channel
abbrev pub label_among : (events : Bool) → List ℕ → List Place → Option Label
label_among events name [] = None
label_among events name (p ∷ ps) = label_if (is_of_kind events p && bytes_eq name p.label.name) p.label (label_among events name ps)

-- a level more of the scopes or of the events of a stack
abbrev pub level_on : Bool → Level Label → Stack → Stack
level_on true l st = record st { events = l ∷ st.events }
level_on false l st = record st { scopes = l ∷ st.scopes }

-- the stack of a task with these enclosing scopes, nurseries and events, with the moments of cancellation of a table
abbrev pub stack_at : Table → List Place → Stack
stack_at cancelled_from [] = no_stack
stack_at cancelled_from (p ∷ ps) = level_on p.is_event (record { label = p.label; shield = p.shield; from = cancelled_from p.label }) (stack_at cancelled_from ps)

-- A task in the middle of a turn: the frames that it has not finished and the scopes, nurseries and events that enclose
-- it, both innermost first, its exception so far, and how many children it started.
pub record Midway : Type 0 where
  pub frames : List Frame
  pub places : List Place
  pub exc : Option Exc
  pub count : ℕ

-- a child that a turn started, by its number among its starter's; the scopes and nurseries that enclose it are those
-- that enclosed its starter at the start
pub record Begun : Type 0 where
  pub number : ℕ
  pub here : Here
  pub places : List Place
  pub body : Steps

-- The effect of a step, or of several of one turn, on a task: its frames, enclosing scopes and nurseries and
-- exception afterwards, the events and the children begun on the way, and where it stopped, if it did.
pub record Move : Type 0 where
  pub frames : List Frame
  pub places : List Place
  pub exc : Option Exc
  pub made : List Event
  pub begun : List Begun
  pub stopped : Option Stopped

-- the task after a move
abbrev pub after_move : Midway → Move → Midway
after_move m o = record { frames = o.frames; places = o.places; exc = o.exc; count = m.count + length o.begun }

-- no move
abbrev pub no_move : Midway → Move
no_move m = record { frames = m.frames; places = m.places; exc = m.exc; made = []; begun = []; stopped = None }

-- one move, and another one after it; a task that stopped does not continue
abbrev pub then_move : Option Stopped → Move → Move → Move
then_move None o q =
    record { frames = q.frames; places = q.places; exc = q.exc; made = o.made ++ q.made; begun = o.begun ++ q.begun; stopped = q.stopped }
then_move (Some s) o q = o

-- what a task has cancelled in this moment, after these signs of it; it counts only where there are rounds
abbrev pub own_with : Clock → List Label → List SignedLabel → List Label
own_with clock own [] = own
own_with clock own (s ∷ ss) = own_with clock (with_own clock (Some s.label) own) ss

-- and after these events
abbrev pub own_after : Clock → List Label → List Event → List Label
own_after clock own es = own_with clock own (signed_in es)

-- where moments are ticks, what a task has cancelled in a moment does not count, and nothing is kept of it
abbrev pub OwnFits : Clock → List Label → Type 0
OwnFits by_ticks own = own ≡ []
OwnFits by_rounds own = Unit {0}

-- where a task is in time after these events of the same moment
abbrev pub now_after : Clock → Now → List Event → Now
now_after clock now es = record { at = now.at; own = own_after clock now.own es }

-- a result so far, in this moment
abbrev pub so_far : Option Exc → Now → Result
so_far exc now = record { end = now.at; own = now.own; exc = exc; members = []; log = nil }

-- a result, with these events before it
abbrev pub after_events : ChildOutcomes → List Event → Result → Result
after_events outcomes es r = record r { log = followed_by (fill outcomes es) r.log }

-- the result of what is left of a task in the middle of a turn, with these frames, enclosing scopes and nurseries,
-- and exception
abbrev pub going_to : Tables → ChildOutcomes → Here → Now → List Frame → List Place → Option Exc → Result
going_to tables outcomes here now fs ps exc = finish (by_tables tables) outcomes fs here (stack_at tables.cancelled_from ps) (so_far exc now)

abbrev pub stop_comes_to : Option Stopped → Tables → ChildOutcomes → Here → Now → List Frame → List Place → Option Exc → Result
stop_comes_to None tables outcomes here now fs ps exc = going_to tables outcomes here now fs ps exc
stop_comes_to (Some s) tables outcomes here now fs ps exc = finished_from (by_tables tables) outcomes s fs here (stack_at tables.cancelled_from ps) now

-- the result of what is left of a task after a move
abbrev pub left_after : Tables → ChildOutcomes → Here → Now → Move → Result
left_after tables outcomes here now o = stop_comes_to o.stopped tables outcomes here (now_after here.clock now o.made) o.frames o.places o.exc

-- the result of what is left of a task in the middle of a turn
abbrev pub left_of : Tables → ChildOutcomes → Here → Now → Midway → Result
left_of tables outcomes here now m = going_to tables outcomes here now m.frames m.places m.exc

-- nothing is recorded of the children of a task that has none
abbrev pub no_outcomes : ChildOutcomes
no_outcomes i = done_at (only_at 0)

-- the result of a child that began in moment t, following tables from its start
abbrev pub begun_comes_to : Tables → ℕ → Begun → Result
begun_comes_to tables t b = rest_comes_to (by_tables tables) no_outcomes (rest_at_start b.body) b.here (stack_at tables.cancelled_from b.places) (only_at t)
