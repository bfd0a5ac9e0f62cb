-- The run of the definitions by the tables of the job's meaning.
use Rattle.std.proofs.Common.{◌≡◌, ℕ, ◌+◌, ◌*◌, ◌≤◌, ◌^◌, List, None, arith}
use Rattle.clock.specs.Clock as timers
use Rattle.interleavings.specs.Laws.{IsSettledBy, meaning_tables}
use Rattle.turn_semantics.specs.Midway.{Tables}
use Rattle.job_meaning.specs.declared.clock.Clock.{Clock}
use Rattle.job_meaning.specs.declared.clock.Clock.TheVariants.{ByTicks as by_ticks, ByRounds as by_rounds}
use Rattle.job_meaning.proofs.Settled.{table_is_settled}
use Rattle.job_tree.specs.Names.{size_of}
use Rattle.job_tree.specs.Tree.{Tree as Job}
use Rattle.run_refinement.specs.RunState.{RunState, Refines}
use Rattle.run_refinement.proofs.Blocks.{state_turns}
use Rattle.task_machine.specs.declared.stop.Wake.{Wake}
use Rattle.task_machine.specs.declared.world.World.{World}
use Rattle.task_table.specs.declared.task_table.TaskTable.{TaskTable}
use Rattle.task_table.specs.TaskTable.{task_count}
use Rattle.job_runner.specs.declared.runner.Runner.{Runner}
use Rattle.job_runner.specs.Limits.{last_tick, last_of}
use Rattle.job_runner.specs.Shelves.{IsConsistent, IsSoundJob, IsGoing, IsTurning, state_in, state_turning}

-- the tables of the meaning of a runner's job over its input
abbrev pub meaning_of : Runner → Tables
meaning_of r = meaning_tables r.job.now r.input.now

-- they are settled
pub meaning_settled : (r : Runner) → IsSoundJob r.job.now r.input.now → IsSettledBy (meaning_of r) r.job.now r.input.now
meaning_settled r sound = table_is_settled r.job.now r.input.now sound.names sound.in_range sound.small

-- so the tasks of the program are a run of the definitions by it
pub meaning_run : (r : Runner) → IsGoing r →
    Refines (meaning_of r) r.job.now r.input.now r.world.tick (task_count r.task_table) None (state_in r)
meaning_run r going = going.interleaving (meaning_of r) (meaning_settled r going.sound)

-- a run had at most twice the job's size and one turns
pub turns_bounded : (r : Runner) → IsGoing r → r.turns ≤ 2 * size_of r.job.now.steps + 1
turns_bounded r going =
    state_turns (meaning_of r) r.job.now r.input.now r.world.tick (task_count r.task_table) None (state_in r) (meaning_run r going)

-- and so while a task has its turn
pub turning_run : {id : ℕ} {wake : Wake} (r : Runner) → IsTurning id wake r →
    Refines (meaning_of r) r.job.now r.input.now r.world.tick (task_count r.task_table) None (state_turning id wake r)
turning_run r turning = turning.interleaving (meaning_of r) (meaning_settled r turning.sound)

pub turning_bounded : {id : ℕ} {wake : Wake} (r : Runner) → IsTurning id wake r → r.turns ≤ 2 * size_of r.job.now.steps + 1
turning_bounded {id} {wake} r turning =
    state_turns (meaning_of r) r.job.now r.input.now r.world.tick (task_count r.task_table) None (state_turning id wake r)
    (turning_run r turning)

-- the moment and the number of tasks of a run may be said otherwise
pub run_in : {k : Tables} {job : Job} {input : List ℕ} {t u m n : ℕ} {state : RunState} → t ≡ u → m ≡ n →
    Refines k job input t m None state → Refines k job input u n None state
run_in e f c = rw (← e, ← f) c

-- a moment of a run is not too late to be counted
pub moment_bounded : {task_table : TaskTable} {world : World} {clock : timers.Clock} {last turns : ℕ} →
    IsConsistent task_table world clock last turns → world.tick ≤ 2 ^ 62
moment_bounded {world = world} {last = last} h = by_clock world.clock world.tick last h.within h.bounded
  where
    by_clock : (c : Clock) (t n : ℕ) → t ≤ last_of c n → n ≤ last_tick c → t ≤ 2 ^ 62
    by_clock by_ticks t n within bounded = omega (arith, within, bounded)
    by_clock by_rounds t n within bounded = omega (arith, within, bounded)
