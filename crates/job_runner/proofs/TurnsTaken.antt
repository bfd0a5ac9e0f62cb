-- A turn of a task, by what the code knows of it.
-- are kept as before.
use Rattle.std.proofs.Common.{◌≡◌, ℕ, ◌+◌, ◌<◌, ◌≤◌, ◌^◌, Some, None, ap, sym, ◌∙◌, arith}
use Rattle.std.specs.Prelude.{IsSome, is_some, IsSomeAnd}
use Rattle.clock.specs.Clock.{now_of, due_of}
use Rattle.cancel_scopes.specs.Tree.{Tree, IsOwn, IsChain, IsApart}
use Rattle.job_tree.specs.Formats.{most_steps}
use Rattle.job_tree.specs.Names.{size_of}
use Rattle.job_tree.proofs.Sizes.{few_steps}
use Rattle.task_machine.specs.declared.stop.Stop.{Stop}
use Rattle.task_machine.specs.declared.stop.Wake.{Wake}
use Rattle.task_machine.specs.declared.world.World.{World}
use Rattle.run_refinement.specs.Ready.{MayGo}
use Rattle.run_refinement.specs.Turn.{IsSound}
use Rattle.run_refinement.proofs.StateFits.{state_fits}
use Rattle.clock.specs.Waiting.{event_in}
use Rattle.task_table.specs.declared.task_table.TaskTable.{TaskTable}
use Rattle.task_table.specs.declared.task_table.Running.{Running}
use Rattle.task_table.specs.TaskTable.{running_at, task_count, MayTurn, HasTurn}
use Rattle.job_runner.specs.declared.runner.Runner.{Runner}
use Rattle.job_runner.specs.Shared.{what_of, call_by}
use Rattle.job_runner.specs.Shelves.{IsTurning, Stays, state_turning}
use Rattle.job_runner.specs.Steps.{TakesStarted, TakesSet, TakesActs, IsStopping}
use Rattle.job_runner.proofs.Known.{waiter_in}
use Rattle.job_runner.proofs.Lived.{task_at, row_below}
use Rattle.job_runner.proofs.Options.{some_is, some_of}
use Rattle.job_runner.proofs.Readied.{readied_timer}
use Rattle.job_runner.proofs.Shelving.{timer_else}
use Rattle.job_runner.proofs.States.{meaning_of, moment_bounded, turning_run, turning_bounded}
use Rattle.job_runner.proofs.Turning.{is_stopping}

-- ---- before it

-- a task that has its turn now and may continue may have its turn
pub may_turn : {id : ℕ} {r : Runner} (wake : Wake) → IsTurning id wake r → IsSound r.world.scopes →
    (x : Running) → running_at r.task_table id ≡ Some x → MayTurn r.world x.task wake
may_turn {id} {r} wake going sound x lives =
    let may = some_of (running_at r.task_table id) (λ (y : Running). MayGo r.world (what_of (call_by wake)) y.task wake) x lives going.goes in
    let c = turning_run r going in
    let at = task_at r.task_table going.shelved.consistent.agree id x lives in
    record {
      fits =
          state_fits (meaning_of r) r.job.now r.input.now r.world.tick (task_count r.task_table) None (state_turning id wake r) c sound x.row
          x.task at;
      in_range = (c.follows x.row x.task at).in_range;
      wake = may.fits;
    }

-- a run had at most 2,000,001 turns
pub turns_few : {id : ℕ} {wake : Wake} (r : Runner) → IsTurning id wake r → r.turns ≤ 2000001
turns_few r going =
    let few = turning_bounded r going in
    let size : size_of r.job.now.steps ≤ most_steps r.job.now.format = going.sound.in_range.size in
    let most : most_steps r.job.now.format ≤ 1000000 = few_steps r.job.now.format in
    omega (arith, few, size, most)

-- ---- after it

-- a turn is of the row that its task has
pub row_is : {id : ℕ} {ro : TaskTable} {w : World} {wake : Wake} {stop : Stop} (r : Runner) (row : ℕ) →
    IsSomeAnd (running_at r.task_table id) (λ (x : Running). x.row ≡ row) →
    (turn : HasTurn r.task_table ro r.world w id wake stop) → turn.row ≡ row
row_is {id} r row is turn =
    some_of (running_at r.task_table id) (λ (x : Running). x.row ≡ row) (record { task = turn.before; row = turn.row }) turn.lived is

-- the row of a task that had its turn is one of the table's
pub row_within : {id : ℕ} {r : Runner} {ro : TaskTable} {w : World} {wake : Wake} {stop : Stop} (row : ℕ) → IsTurning id wake r →
    IsSomeAnd (running_at r.task_table id) (λ (x : Running). x.row ≡ row) →
    HasTurn r.task_table ro r.world w id wake stop → row < task_count ro
row_within {id} {r} {ro} row going is turn =
    let e = row_is r row is turn in
    let lt : turn.row < task_count r.task_table =
    row_below r.task_table going.shelved.consistent.agree id (record { task = turn.before; row = turn.row }) turn.lived in
    let same : task_count ro ≡ task_count r.task_table = turn.same.many in
    omega (arith, e, lt, same)

-- after a turn each task that has a timer lives
pub timers_live : {id : ℕ} {r : Runner} {ro : TaskTable} {w : World} {wake : Wake} {stop : Stop} → IsTurning id wake r →
    HasTurn r.task_table ro r.world w id wake stop → (key due : ℕ) → due_of r.clock key ≡ Some due → IsSome (running_at ro key)
timers_live {r = r} going turn key due e =
    let y = some_is (running_at r.task_table key) (λ (z : Running). Stays r.world due z.task) (going.shelved.stay key due e) in
    ap is_some (turn.others key (timer_else going.shelved key due e) ∙ y.1)

-- and the clock shows the world's moment, which is not too late
pub turn_now : {id : ℕ} {r : Runner} {ro : TaskTable} {w : World} {wake : Wake} {stop : Stop} → IsTurning id wake r →
    HasTurn r.task_table ro r.world w id wake stop → now_of r.clock ≡ w.tick
turn_now going turn = going.shelved.consistent.now ∙ sym (ap (λ (x : World). x.tick) turn.keeps.world)

pub turn_bounded : {id : ℕ} {r : Runner} {ro : TaskTable} {w : World} {wake : Wake} {stop : Stop} → IsTurning id wake r →
    HasTurn r.task_table ro r.world w id wake stop → w.tick ≤ 2 ^ 62
turn_bounded going turn =
    let same = ap (λ (x : World). x.tick) turn.keeps.world in
    rw same (moment_bounded going.shelved.consistent)

-- after the started tasks were taken, the clock still shows the world's moment
pub started_now : (r : Runner) {after : Runner} {ro : TaskTable} {w : World} {turns row : ℕ} →
    TakesStarted (record r { world = w; task_table = ro; turns = turns }) after row → now_of r.clock ≡ w.tick →
    now_of after.clock ≡ after.world.tick
started_now r takes now = ap (λ (x : Runner). now_of x.clock) takes.ready.rest ∙ now ∙ sym (ap (λ (x : World). x.tick) takes.world)

-- which is not too late
pub started_bounded : (r : Runner) {after : Runner} {ro : TaskTable} {w : World} {turns row : ℕ} →
    TakesStarted (record r { world = w; task_table = ro; turns = turns }) after row → w.tick ≤ 2 ^ 62 → after.world.tick ≤ 2 ^ 62
started_bounded r takes bounded = let same = ap (λ (x : World). x.tick) takes.world in rw same bounded

-- and each task that waits for an event has a timer
pub started_timed : {id : ℕ} {wake : Wake} {r after : Runner} {ro : TaskTable} {w : World} {turns row : ℕ} → IsTurning id wake r →
    TakesStarted (record r { world = w; task_table = ro; turns = turns }) after row → (key event : ℕ) →
    event_in after.waiters key ≡ Some event → IsSome (due_of after.clock key)
started_timed going takes key event e =
    let z = waiter_in going.shelved.known key event (ap (λ (x : Runner). event_in x.waiters key) (sym takes.ready.rest) ∙ e) in
    ap is_some (readied_timer takes.ready key ∙ z.timer)

-- after a turn whose started tasks, events that were set and acts on limiters and channels were taken, its task is one that stopped so
pub goes_stopping : {id : ℕ} {r after woke new : Runner} {ro : TaskTable} {w : World} {wake : Wake} {stop : Stop} (row : ℕ) →
    IsTurning id wake r → IsSomeAnd (running_at r.task_table id) (λ (x : Running). x.row ≡ row) →
    (turn : HasTurn r.task_table ro r.world w id wake stop) → IsSound r.world.scopes → IsSound w.scopes →
    TakesStarted (record r { world = w; task_table = ro; turns = r.turns + 1 }) after row → TakesSet after woke → TakesActs woke new row →
    IsStopping id row stop new
goes_stopping {r = r} row going is turn sound sound_after takes sets acts =
    let e = row_is r row is turn in
    rw (← e) (is_stopping going turn sound sound_after (rw e takes) sets (rw e acts))

-- a tree is sound if its stacks are chains that begin with their own scopes, each once
pub scopes_sound : {tree other : Tree} → tree ≡ other → IsOwn tree → IsChain tree → IsApart tree → IsSound other
scopes_sound e own chain apart = rw (← e) (record { own = own; chain = chain; apart = apart })
