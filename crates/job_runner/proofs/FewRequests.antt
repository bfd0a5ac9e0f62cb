-- A batch has few requests: each is made by another task that has not ended.
use Rattle.std.proofs.Common.{◌≡◌, inl, inr, ℕ, suc, ◌+◌, ◌≤◌, Option, Some, None, List, [], ◌∷◌, length, refl, ap, sym, ◌∙◌, subst, arith}
use Rattle.std.specs.Prelude.{All, IsSome, is_some, ◌==◌, map}
use Rattle.std.proofs.lemmas.List.Elements.{All-head, All-tail, All-weaker}
use Rattle.turn_semantics.specs.Lists.{IsAmong}
use Rattle.task_table.specs.declared.entry.Call.{Call}
use Rattle.task_table.specs.declared.entry.Call.TheVariants.{Begin, Due, Seen, Settled, Granted, Ask}
use Rattle.task_table.specs.declared.entry.Entry.{Entry}
use Rattle.task_table.specs.Entries.{requests_of}
use Rattle.input_lines.specs.declared.answers.Answer.{Answer}
use Rattle.run_refinement.specs.Laws.{AreDistinct}
use Rattle.run_refinement.proofs.FewTasks.{state_few}
use Rattle.task_table.specs.TaskTable.{running_at, task_of, task_count, IsTaskTable}
use Rattle.task_table.specs.Rows.{times}
use Rattle.task_table.specs.declared.task_table.TaskTable.{TaskTable}
use Rattle.task_table.specs.declared.task_table.Running.{Running}
use Rattle.task_table.proofs.Times.{one_if, one_same, times_cons}
use Rattle.job_runner.specs.declared.runner.Runner.{Runner}
use Rattle.job_runner.specs.Shared.{later_calls}
use Rattle.job_runner.specs.Shelves.{AreShelved, GoesBy, IsCalled, IsCalledEntry, IsUnderway, state_in, running_times, times_shelved}
use Rattle.job_runner.proofs.Lived.{one_id, task_at}
use Rattle.job_runner.proofs.Options.{some_is}
use Rattle.job_runner.proofs.States.{meaning_of, meaning_run}
use Rattle.job_runner.proofs.Waking.{running_most}
use Rattle.job_tree.proofs.Sizes.{few_steps}

-- ---- the rows of entries

abbrev row_in : Option Running → ℕ
row_in None = 0
row_in (Some x) = x.row

-- the row of each entry's task
abbrev rows_in : TaskTable → List Entry → List ℕ
rows_in r [] = []
rows_in r (e ∷ es) = row_in (running_at r e.task) ∷ rows_in r es

rows_long : (r : TaskTable) (es : List Entry) → length (rows_in r es) ≡ length es
rows_long r [] = refl
rows_long r (e ∷ es) = ap suc (rows_long r es)

-- the task of an entry has not ended
record Runs (r : TaskTable) (e : Entry) : Type 0 where
  pub running : Running
  pub is : running_at r e.task ≡ Some running

-- a row that is among those of entries has its id among them
among : (r : TaskTable) → IsTaskTable r → (id : ℕ) (x : Running) → running_at r id ≡ Some x → (es : List Entry) → All (Runs r) es →
    IsAmong x.row (rows_in r es) →
    1 ≤ times id (map (λ (e : Entry). e.task) es)
among r agree id x e [] all i = absurd i
among r agree id x e (y ∷ es) all (inl h) =
    let f = All-head (Runs r) y es all in
    let same = one_id r agree id y.task x f.running e f.is (sym (h ∙ ap row_in f.is)) in
    let one = one_same y.task id same in
    let more = times_cons id y.task (map (λ (z : Entry). z.task) es) in
    omega (arith, one, more)
among r agree id x e (y ∷ es) all (inr i) =
    let some = among r agree id x e es (All-tail (Runs r) y es all) i in
    let more = times_cons id y.task (map (λ (z : Entry). z.task) es) in
    omega (arith, some, more)

-- entries of other tasks have other rows
rows_differ : (r : TaskTable) → IsTaskTable r → (es : List Entry) → All (Runs r) es → ((id : ℕ) → times id (map (λ (e : Entry). e.task) es) ≤ 1) →
    AreDistinct (rows_in r es)
rows_differ r agree [] all once = tt
rows_differ r agree (e ∷ es) all once = (no_other, rows_differ r agree es rest fewer)
  where
    rest : All (Runs r) es
    rest = All-tail (Runs r) e es all

    more : (id : ℕ) → times id (map (λ (z : Entry). z.task) (e ∷ es)) ≡ one_if (e.task == id) + times id (map (λ (z : Entry). z.task) es)
    more id = times_cons id e.task (map (λ (z : Entry). z.task) es)

    fewer : (id : ℕ) → times id (map (λ (z : Entry). z.task) es) ≤ 1
    fewer id = omega (arith, once id, more id)

    no_other : IsAmong (row_in (running_at r e.task)) (rows_in r es) → ⊥
    no_other i =
        let f = All-head (Runs r) e es all in
        let row = ap row_in f.is in
        let some = among r agree e.task f.running f.is es rest (subst (λ (n : ℕ). IsAmong n (rows_in r es)) row i) in
        let one = one_same e.task e.task refl in
        omega (arith, some, one, once e.task, more e.task)

-- each is of a task that has not ended
rows_live : (r : TaskTable) → IsTaskTable r → (es : List Entry) → All (Runs r) es → (s : ℕ) → IsAmong s (rows_in r es) → IsSome (task_of r s)
rows_live r agree [] all s i = absurd i
rows_live r agree (e ∷ es) all s (inl h) =
    let f = All-head (Runs r) e es all in
    let is = ap (task_of r) (h ∙ ap row_in f.is) ∙ task_at r agree e.task f.running f.is in
    ap is_some is
rows_live r agree (e ∷ es) all s (inr i) = rows_live r agree es (All-tail (Runs r) e es all) s i

-- ---- requests

-- an entry makes one request at most
one_request : (task : ℕ) (call : Call) (answer : Option Answer) (es : List Entry) →
    length (requests_of (record { task = task; call = call; answer = answer } ∷ es)) ≤ suc (length (requests_of es))
one_request task Begin answer es = omega arith
one_request task Due answer es = omega arith
one_request task Seen answer es = omega arith
one_request task Settled answer es = omega arith
one_request task (Granted grant) answer es = omega arith
one_request task (Ask request) answer es = omega arith

requests_fewer : (es : List Entry) → length (requests_of es) ≤ length es
requests_fewer [] = omega arith
requests_fewer (e ∷ es) = let one = one_request e.task e.call e.answer es in let fewer = requests_fewer es in omega (arith, one, fewer)

-- a batch of a run makes at most 4,000,000 requests
pub few_requests : (r : Runner) → IsUnderway r → length (requests_of r.batch.current) ≤ 4000000
few_requests r h =
    let distinct = rows_differ r.task_table shelved.consistent.agree r.batch.current all once in
    let few = state_few (meaning_of r) r.job.now r.input.now r.world.tick (task_count r.task_table) (state_in r) (meaning_run r h.going)
    (rows_in r.task_table r.batch.current) distinct (rows_live r.task_table shelved.consistent.agree r.batch.current all) in
    let long = rows_long r.task_table r.batch.current in
    let fewer = requests_fewer r.batch.current in
    let size = h.going.sound.in_range.size in
    let most = few_steps r.job.now.format in
    omega (arith, few, long, fewer, size, most)
  where
    shelved : AreShelved None r
    shelved = h.going.shelved

    runs : (e : Entry) → IsCalled r.task_table r.world e.task e.call → Runs r.task_table e
    runs e called = let x = some_is (running_at r.task_table e.task) (λ (y : Running). GoesBy r.world y.task e.call) called in
        record { running = x.0; is = x.1 }

    all : All (Runs r.task_table) r.batch.current
    all = All-weaker (IsCalledEntry r.task_table r.world) (Runs r.task_table) runs r.batch.current shelved.current

    once : (id : ℕ) → times id (map (λ (e : Entry). e.task) r.batch.current) ≤ 1
    once id =
        let all_times : times_shelved r.batch (later_calls r) r.clock id ≡ running_times r.world.book (running_at r.task_table id) = shelved.once id tt in
        let most = running_most r.world.book (running_at r.task_table id) in
        omega (arith, all_times, most)
