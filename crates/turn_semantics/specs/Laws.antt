-- The laws of steps and turns. Each is the contract of a function that does nothing.
use Rattle.std.specs.Prelude.{◌≡◌, ℕ, ◌<◌, Some, List, [], ◌∷◌, ◌++◌}
use Rattle.turn_semantics.specs.Lists.{IsAmong}
use Rattle.job_tree.specs.Tree.{Tree}
use Rattle.job_tree.specs.Names.{GivesNamesOnce}
use Rattle.exceptions.specs.Exceptions.{Label}
use Rattle.cancel_scopes.specs.Sight.{Tick}
use Rattle.job_meaning.specs.Log.{Table, from_by}
use Rattle.job_meaning.specs.Moments.{a_round_after, Now}
use Rattle.job_meaning.specs.declared.clock.Clock.{Clock}
use Rattle.job_meaning.specs.Walk.{Here}
use Rattle.job_meaning.specs.Rest.{steps_left, Event, ChildOutcomes, fill, Stopped, Rest, rest_comes_to, task_comes_to, inside}
use Rattle.turn_semantics.specs.Midway.{Place, Tables, by_tables, stack_at, Midway, Move, now_after}
use Rattle.turn_semantics.specs.Steps.{cancelled_from_after, step_of}
use Rattle.turn_semantics.specs.Placed.{Placed, IsSome, PlacedStop, outer_places}
use Rattle.turn_semantics.specs.Wakes.{Wake, wake_of, turn_from, WakesBy, CanWake}
use Rattle.turn_semantics.specs.Turned.{AgreesOn, AgreesAhead, AreOutcomes, MadeAt, made_sign, EntersIn, EntersOnceWith, Goes, TurnsOver}
use Rattle.turn_semantics.specs.Bound.{frames_length}
use Rattle.turn_semantics.specs.Names.{names_at, OwnNames, NewIn, NewStop, StaysNew}

-- each step keeps the promise
abbrev pub EachStepGoes : Type 0
EachStepGoes = (now : Now) (here : Here) (cancelled_from : Table) (m : Midway) → Placed m.frames m.places → Goes now here cancelled_from m (step_of cancelled_from now here m)

-- each turn keeps it, from the wake to the next stop, and comes to a stop
abbrev pub EachTurnKeeps : Type 0
EachTurnKeeps =
    (n : ℕ) (u now : Now) (here : Here) (cancelled_from : Table) (w : Wake) (rest : Rest) (ps : List Place) (count : ℕ) → CanWake w rest.stopped →
    PlacedStop rest.stopped rest.frames ps →
    TurnsOver u now here cancelled_from w rest ps count (turn_from n cancelled_from now here w rest.stopped rest.frames ps count)

abbrev pub EachTurnStops : Type 0
EachTurnStops =
    (n : ℕ) (now : Now) (here : Here) (cancelled_from : Table) (w : Wake) (rest : Rest) (ps : List Place) (count : ℕ) →
    frames_length (wake_of cancelled_from now here w rest.stopped rest.frames ps).frames < n →
    IsSome (turn_from n cancelled_from now here w rest.stopped rest.frames ps count).stopped

-- A turn that keeps the promise leaves the result of the task unchanged: what it did before, its stop and its frames
-- before the turn have the same result as what it has done, its stop and its frames after it.
abbrev pub TaskComesToTheSame : Type 0
TaskComesToTheSame =
    (u now : Now) (here : Here) (cancelled_from : Table) (w : Wake) (rest : Rest) (ps : List Place) (count : ℕ) (o : Move) (made : List Event)
    (s : Stopped) →
    TurnsOver u now here cancelled_from w rest ps count o → o.stopped ≡ Some s → (table : Tables) (outcomes : ChildOutcomes) →
    WakesBy table outcomes (inside rest.frames here) u now w rest.stopped ps →
    AgreesOn now.at table.cancelled_from cancelled_from ps →
    AgreesAhead now.at table.cancelled_from (fill outcomes o.made) (rest_comes_to (by_tables table) outcomes rest here (stack_at table.cancelled_from ps) u).log →
    AreOutcomes (a_round_after here.clock now.at) table outcomes o.begun →
    task_comes_to (by_tables table) outcomes made rest here (stack_at table.cancelled_from ps) u
    ≡ task_comes_to (by_tables table) outcomes (made ++ o.made) (record { stopped = s; frames = o.frames }) here (stack_at table.cancelled_from o.places) (now_after here.clock now o.made)

-- the from of a label that was not entered is lowered by exactly the signs made for it
abbrev pub CancelledFromIsLowered : Type 0
CancelledFromIsLowered = (es : List Event) (cancelled_from : Table) (l : Label) → (EntersIn l es → ⊥) →
    cancelled_from_after cancelled_from es l ≡ from_by (cancelled_from l) (made_sign l es)

-- and that of a label that was entered once, and was none of those before, starts as its deadline
abbrev pub CancelledFromIsOpened : Type 0
CancelledFromIsOpened =
    (clock : Clock) (t : ℕ) (es : List Event) (ls : List Label) (cancelled_from : Table) (l : Label) (d : Tick) → MadeAt clock t ls es → (IsAmong l ls → ⊥) →
    EntersOnceWith l d es →
    cancelled_from_after cancelled_from es l ≡ from_by d (made_sign l es)

-- in a job whose names are given once, none is the name of an enclosing scope
abbrev pub JobsBeginNew : Type 0
JobsBeginNew = (job : Tree) → GivesNamesOnce job → NewIn (steps_left job.steps ∷ []) []

-- and each step and each turn keep that, so the scopes that enclose a task have different labels
abbrev pub EachStepStaysNew : Type 0
EachStepStaysNew = (cancelled_from : Table) (now : Now) (here : Here) (m : Midway) → NewIn m.frames m.places → OwnNames (names_at m.places) →
    StaysNew (step_of cancelled_from now here m)

abbrev pub EachTurnStaysNew : Type 0
EachTurnStaysNew =
    (n : ℕ) (now : Now) (here : Here) (cancelled_from : Table) (w : Wake) (rest : Rest) (ps : List Place) (count : ℕ) → CanWake w rest.stopped →
    NewIn rest.frames (outer_places (Some rest.stopped) ps) → NewStop (Some rest.stopped) ps → OwnNames (names_at ps) →
    StaysNew (turn_from n cancelled_from now here w rest.stopped rest.frames ps count)
