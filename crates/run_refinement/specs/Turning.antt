-- A turn of one task of the program, in the code and in the definitions.
use Rattle.std.specs.Prelude.{◌≡◌, ◌≢◌, true, ℕ, ◌+◌, ◌<◌, Some, List, [], ◌++◌, length, slice_get}
use Rattle.nursery_book.specs.Nursery.{is_settled}
use Rattle.nursery_book.specs.Book.{HasNursery}
use Rattle.job_tree.specs.Tree.{Tree as Job}
use Rattle.exceptions.specs.Exceptions.{Label}
use Rattle.job_meaning.specs.Moments.{tick_of, a_round_after}
use Rattle.job_meaning.specs.Rest as rest
use Rattle.turn_semantics.specs.Midway.{Tables, Begun, Move}
use Rattle.turn_semantics.specs.Names.{StaysNew}
use Rattle.turn_semantics.specs.Steps.{cancelled_from_after}
use Rattle.turn_semantics.specs.Turned.{TurnsOver}
use Rattle.turn_semantics.specs.Wakes.{Wake, turn_from}
use Rattle.task_machine.specs.States.{state_of}
use Rattle.task_machine.specs.declared.stop.Stop.{Stop}
use Rattle.task_machine.specs.declared.stop.Wake as code
use Rattle.task_machine.specs.declared.task.Task.{Task}
use Rattle.task_machine.specs.Fitting.{Fits, waits_of}
use Rattle.task_machine.specs.Standing.{TookTo, now_for, woken_at}
use Rattle.task_machine.specs.Stops.{Numbers}
use Rattle.task_machine.specs.Waking.{wake_in}
use Rattle.interleavings.specs.Going.{task_after_turn}
use Rattle.interleavings.specs.Runs.{turns_taken}
use Rattle.run_refinement.specs.RunState.{Interleaving, RunState}
use Rattle.run_refinement.specs.Step.{TakesTurn}
use Rattle.run_refinement.specs.Turn.{IsEntered, AreNew, child_at, serials_from}

-- A turn of the task with this serial number, one of m, in the code, is one turn of the definitions, after which the run is that of the
-- definitions again. The children that it began have the next serial numbers.
pub record Turning
    (k : Tables) (job : Job) (input : List ℕ) (t m s : ℕ) (old new : RunState) (numbers : ℕ → Numbers) (before after : Task) (stop : Stop)
    (was : Interleaving k job input t m) : Type 0
  where
    -- in the code
    pub woken_by : code.Wake
    pub code : TakesTurn t m s old new before after woken_by stop
    pub below : s < m
    pub fits : Fits (state_of before old.world) (waits_of before.task_state)
    -- a nursery that it waited for was settled
    pub over : (id : ℕ) → waits_of before.task_state ≡ Some id → HasNursery old.world.book id (λ n. is_settled n ≡ true)
    -- in the definitions
    pub wake : Wake
    pub own : List Label
    pub owns : own ≡ (now_for woken_by (state_of before old.world)).own
    pub move : Move
    pub stopped : rest.Stopped
    pub stops : move.stopped ≡ Some stopped
    pub took : TookTo (woken_at woken_by (state_of before old.world)) (state_of after new.world) stop was.cancelled_from (numbers s) move
    pub woken : wake ≡ wake_in old.world.book before.task_state woken_by
    pub steps : ℕ
    pub turned : move ≡ turn_from steps was.cancelled_from (record { at = t; own = own }) (was.at s).here wake (was.at s).rest.stopped (was.at s).rest.frames
        (was.at s).places (was.at s).count
    pub promise : TurnsOver (was.at s).stop (record { at = t; own = own }) (was.at s).here was.cancelled_from wake (was.at s).rest (was.at s).places
        (was.at s).count move
    pub names : StaysNew move
    pub fresh : AreNew (IsEntered was.at) move.made
    pub inputs : (i : ℕ) (b : Begun) → slice_get move.begun i ≡ Some b → b.here.input ≡ (was.at s).here.input
    -- the run after it
    pub is : Interleaving k job input t (m + length move.begun)
    pub counts : turns_taken is.reached ≡ turns_taken was.reached + 1
    pub cancelled_from : is.cancelled_from ≡ cancelled_from_after was.cancelled_from move.made
    pub of_task : is.at s ≡ task_after_turn k (record { at = t; own = own }) m (was.at s) move stopped
    pub of_child : (i : ℕ) (b : Begun) → slice_get move.begun i ≡ Some b → is.at (m + i) ≡ child_at k
        (a_round_after (was.at s).here.clock t) (m + i) b
    pub of_other : (p : ℕ) → p < m → p ≢ s → is.at p ≡ was.at p
    -- the children that it began, in the code
    pub child_after : (i : ℕ) → new.task (m + i) ≡ slice_get took.tasks i
    pub start_child : (i : ℕ) → i < length move.begun → new.start (m + i) ≡ tick_of old.world.clock (a_round_after old.world.clock t)
    pub more_children : new.children s ≡ old.children s ++ serials_from m (length move.begun)
    pub no_children : (i : ℕ) → i < length move.begun → new.children (m + i) ≡ []
