-- The turns of a batch, one after another, in the order of the picks.
use Rattle.std.specs.Prelude.{◌≡◌, ℕ, ◌+◌, Bool, true, false, nat_le, Option, Some, None, List, [], map}
use Rattle.task_table.specs.declared.entry.Call.{Call}
use Rattle.task_table.specs.declared.entry.Call.TheVariants.{Due, Seen}
use Rattle.task_table.specs.Batch.{Batches, HandsOut}
use Rattle.task_table.specs.Entries.{answers_placed, without_answer}
use Rattle.input_lines.specs.declared.answers.Answer.{Answer}
use Rattle.cancel_scopes.specs.Sight.{seen}
use Rattle.cancel_scopes.specs.Tree.{outer_of}
use Rattle.job_meaning.specs.Moments.{tick_of}
use Rattle.job_meaning.specs.declared.clock.Clock.{Clock}
use Rattle.job_meaning.specs.declared.clock.Clock.TheVariants.{ByTicks as by_ticks, ByRounds as by_rounds}
use Rattle.task_machine.specs.declared.stop.Stop.{Stop}
use Rattle.task_machine.specs.declared.stop.Stop.TheVariants.{Ask, Sleep, WaitFor, Queue, GiveUp, Wait, Ended}
use Rattle.task_machine.specs.declared.stop.Wake.{Wake}
use Rattle.task_machine.specs.declared.world.World.{World}
use Rattle.task_table.specs.declared.task_table.TaskTable.{TaskTable}
use Rattle.task_table.specs.TaskTable.{HasTurn, Ends}
use Rattle.job_runner.specs.declared.runner.Runner.{Runner}
use Rattle.job_runner.specs.Steps.{TakesStarted, TakesSet, TakesActs}

-- The task with an id continued with this wake to its next stop, and the tasks that it started, the events that it set and what it did to
-- limiters and channels were taken from the world.
pub record GoesOn (id : ℕ) (wake : Wake) (stop : Stop) (old new : Runner) : Type 0 where
  pub task_table : TaskTable
  pub world : World
  pub turn : HasTurn old.task_table task_table old.world world id wake stop
  pub after : Runner
  pub started : TakesStarted (record old { world = world; task_table = task_table; turns = old.turns + 1 }) after turn.row
  pub woken : Runner
  pub set : TakesSet after woken
  pub acts : TakesActs woken new turn.row

abbrev pub at_once : Clock → (sees_now is_due : Bool) → Option Call
at_once by_rounds sees_now is_due = None
at_once by_ticks true is_due = Some Seen
at_once by_ticks false true = Some Due
at_once by_ticks false false = None

-- How a task in a scope that waits until a moment continues in this one, if it does: where a moment is a tick, it may see a cancellation, or
-- that moment may have come.
abbrev pub call_at_once : World → Option ℕ → ℕ → Option Call
call_at_once world scope due = at_once world.clock (seen (outer_of world.scopes scope) world.tick) (nat_le due world.tick)

-- the tasks and what they share stay
abbrev pub IsSameRunState : Runner → Runner → Type 0
IsSameRunState old new = (new.task_table ≡ old.task_table) × (new.world ≡ old.world)

-- How a stop is handled: a task that has ended leaves, and its end may be recorded in its nursery. After another stop all tasks
-- stay as they are.
abbrev pub ComesOf : ℕ → Stop → Runner → Runner → Type 0
ComesOf id (Ask request) old new = IsSameRunState old new
ComesOf id (Sleep due) old new = IsSameRunState old new
ComesOf id (WaitFor event) old new = IsSameRunState old new
ComesOf id (Queue request) old new = IsSameRunState old new
ComesOf id (GiveUp due) old new = IsSameRunState old new
ComesOf id (Wait nursery) old new = IsSameRunState old new
ComesOf id (Ended exc) old new =
    Ends old.task_table new.task_table id (tick_of old.world.clock old.world.tick) exc × (new.world ≡ record old.world { book = new.world.book })

-- the task with an id had one turn, and no other task had
pub record TakesTurn (id : ℕ) (wake : Wake) (old new : Runner) : Type 0 where
  pub stop : Stop
  pub went : Runner
  pub goes : GoesOn id wake stop old went
  pub stopped : ComesOf id stop went new

-- Entries of the current batch were taken as the picker picked them among those left, and each had its turn with the wake of its
-- call and its answer.
pub data TakesTurns {P : Type 0} (picks : P → ℕ → ℕ → P → Type 0) : Runner → P → Runner → P → Type 0 where
  no_turn : (r : Runner) (picker : P) → TakesTurns picks r picker r picker
  and_turn :
      (first last new : Runner) (before picker after : P) (batch : Batches) (id : ℕ) (wake : Wake) → TakesTurns picks first before last picker →
      HandsOut picks last.batch batch picker after id wake → TakesTurn id wake (record last { batch = batch }) new →
      TakesTurns picks first before new after

-- a runner after the i-th answer is placed for the i-th request of its batch
abbrev pub with_answers : Runner → List Answer → Runner
with_answers r answers = record r { batch = record { current = answers_placed r.batch.current answers; next = r.batch.next } }

-- Every entry of the current batch had its turn, in the order of the picks, in the same moment. What the turns added is the current
-- batch now, and the sleepers were updated with the effective deadlines that were lowered. If nothing was added, what was done to limiters
-- and channels in the moment is served.
pub record Commits {P : Type 0} (picks : P → ℕ → ℕ → P → Type 0) (old new : Runner) (answers : List Answer) (before after : P) : Type 0 where
  pub last : Runner
  pub turns : TakesTurns picks (with_answers old answers) before last after
  pub none_left : last.batch.current ≡ []
  pub task_table : new.task_table ≡ last.task_table
  pub world : new.world ≡ record last.world { scopes = record (last.world.scopes) { changed = new.world.scopes.changed } }
  pub ready : new.batch.current ≡ map without_answer last.batch.next
  pub moment : new.world.tick ≡ old.world.tick
