-- Whole turns: from stop to stop, and the beginnings.
use Rattle.std.proofs.Common.{◌≡◌, ℕ, false, Option, Some, List, [], ◌∷◌, ◌++◌, ap, sym, ◌∙◌}
use Rattle.job_tree.specs.Tree.{Steps}
use Rattle.job_tree.specs.Starting.{StartsIn}
use Rattle.exceptions.specs.Exceptions.{Label}
use Rattle.job_meaning.specs.Log.{Result, Table}
use Rattle.job_meaning.specs.Moments.{a_round_after, Now, only_at}
use Rattle.job_meaning.specs.Walk.{Here}
use Rattle.job_meaning.specs.Rest.{Event, ChildOutcomes, fill, steps_left, Stopped, to_begin, Rest, rest_comes_to, task_comes_to, rest_at_start, inside}
use Rattle.job_meaning.proofs.Finish.{finish_begin}
use Rattle.turn_semantics.specs.Midway.{Place, Tables, by_tables, stack_at, Begun, Move, after_events, left_after, stop_comes_to, begun_comes_to, no_outcomes, now_after}
use Rattle.turn_semantics.specs.Placed.{PlacedStop}
use Rattle.turn_semantics.specs.Wakes.{Wake, WakesBy}
use Rattle.turn_semantics.specs.Turned.{AgreesOn, AgreesAhead, AreOutcomes, BegunIn, TurnsOver}
use Rattle.turn_semantics.proofs.Turns.{after_append}

-- A whole turn leaves the result of the task unchanged: what it did before, its stop and its frames before the turn
-- have the same result as what it has done, its stop and its frames after it.
pub turn_comes_to : (u now : Now) (here : Here) (cancelled_from : Table) (w : Wake) (rest : Rest) (ps : List Place) (count : ℕ) (o : Move)
    (made : List Event) (s : Stopped) →
    TurnsOver u now here cancelled_from w rest ps count o → o.stopped ≡ Some s → (table : Tables) (outcomes : ChildOutcomes) →
    WakesBy table outcomes (inside rest.frames here) u now w rest.stopped ps →
    AgreesOn now.at table.cancelled_from cancelled_from ps →
    AgreesAhead now.at table.cancelled_from (fill outcomes o.made) (rest_comes_to (by_tables table) outcomes rest here (stack_at table.cancelled_from ps) u).log →
    AreOutcomes (a_round_after here.clock now.at) table outcomes o.begun →
    task_comes_to (by_tables table) outcomes made rest here (stack_at table.cancelled_from ps) u
    ≡ task_comes_to (by_tables table) outcomes (made ++ o.made) (record { stopped = s; frames = o.frames }) here (stack_at table.cancelled_from o.places) (now_after here.clock now o.made)
turn_comes_to u now here cancelled_from w rest ps count o made s x e table outcomes g a b h =
    ap (λ (r : Result). after_events outcomes made r) (x.keeps table outcomes g a b h)
    ∙ (sym (after_append outcomes made o.made (left_after table outcomes here now o))
    ∙ ap (λ (z : Option Stopped). after_events outcomes (made ++ o.made) (stop_comes_to z table outcomes here (now_after here.clock now o.made) o.frames o.places o.exc)) e)

-- a task that was started, and whose block is no nursery's body, may begin inside any scopes and nurseries
pub start_placed : (body : Steps) (ps : List Place) → StartsIn false body →
    PlacedStop (rest_at_start body).stopped (rest_at_start body).frames ps
start_placed body ps h = (h, tt)

-- each of these children may begin
abbrev pub AllPlaced : List Begun → Type 0
AllPlaced [] = Unit {0}
AllPlaced (b ∷ bs) = PlacedStop to_begin (steps_left b.body ∷ []) b.places × AllPlaced bs

-- each child that is begun inside known scopes and nurseries may begin
pub begun_placed : (ls : List Label) (bs : List Begun) → BegunIn ls bs → AllPlaced bs
begun_placed ls [] a = tt
begun_placed ls (b ∷ bs) a = ((a.1, tt), begun_placed ls bs a.2)

-- the result of a child, before it began: the same whatever is recorded of the children, and the result of its
-- block's walk
pub begun_final_result : (table : Tables) (outcomes : ChildOutcomes) (t : ℕ) (b : Begun) →
    task_comes_to (by_tables table) outcomes [] (rest_at_start b.body) b.here (stack_at table.cancelled_from b.places) (only_at t) ≡ begun_comes_to table t b
begun_final_result table outcomes t b =
    finish_begin (by_tables table) outcomes b.body b.here (stack_at table.cancelled_from b.places) (only_at t)
    ∙ sym (finish_begin (by_tables table) no_outcomes b.body b.here (stack_at table.cancelled_from b.places) (only_at t))
