-- A task has ended: what it was before, and what stays of all others.
use Rattle.std.proofs.Common.{◌≡◌, ◌≢◌, inl, inr, ℕ, ◌+◌, ◌<◌, Option, Some, None, ◌++◌, map, refl, ap, sym, ◌∙◌, subst, arith}
use Rattle.std.specs.Prelude.{◌==◌, ◌⊎◌, All, slice_get}
use Rattle.std.proofs.Math.Path.{fun_ext}
use Rattle.std.proofs.lemmas.List.{append-nil}
use Rattle.std.specs.Option.{option_map}
use Rattle.std.proofs.lemmas.Bool.{cases_eq}
use Rattle.std.proofs.lemmas.Option.{none-some, same_Some}
use Rattle.task_table.specs.declared.entry.Call.{Call}
use Rattle.task_table.specs.declared.entry.Entry.{Entry}
use Rattle.task_table.specs.Entries.{Added}
use Rattle.exceptions.specs.Held.{exc_of}
use Rattle.exceptions.specs.declared.exc.Exc as held
use Rattle.interleavings.specs.Laws.{IsSettledBy}
use Rattle.turn_semantics.specs.Midway.{Tables}
use Rattle.job_meaning.specs.Moments.{tick_of}
use Rattle.nursery_book.specs.Book.{HasNursery}
use Rattle.nursery_book.specs.declared.book.NurseryBook.{NurseryBook}
use Rattle.task_machine.specs.declared.stop.Stop.TheVariants as stops
use Rattle.task_machine.specs.declared.task.Home.{Home}
use Rattle.task_machine.specs.declared.task.Task.{Task}
use Rattle.task_machine.specs.declared.world.World.{World}
use Rattle.task_machine.specs.Fitting.{blocks_of, waits_of}
use Rattle.task_machine.specs.Standing.{HasNurseryOf}
use Rattle.task_machine.specs.Worlds.{event_at}
use Rattle.run_refinement.specs.RunState.{LivesIn, HasHome, Refines}
use Rattle.run_refinement.specs.Leaving.{EndIsRecorded, Leaving}
use Rattle.run_refinement.specs.Ready.{Keeps, AreHomesOf}
use Rattle.run_refinement.proofs.Found.{finds, puts}
use Rattle.run_refinement.proofs.Keeping.{homes_left, goes_left, settled_same}
use Rattle.run_refinement.proofs.Left.{state_left}
use Rattle.run_refinement.proofs.Recorded.{same_owner}
use Rattle.task_table.specs.declared.task_table.TaskTable.{TaskTable}
use Rattle.task_table.specs.declared.task_table.Running.{Running}
use Rattle.task_table.specs.TaskTable.{Sharing, running_at, task_of, ended_task_of, parent_of, id_of, path_by, task_count, IsTaskTable, Ends}
use Rattle.task_table.proofs.Times.{all_others}
use Rattle.job_runner.specs.declared.runner.Runner.{Runner}
use Rattle.job_runner.specs.Shelves.{GoesBy, IsCalled, IsCalledAdded, IsCalledEntry, IsCalledLater, ContinuesLater, Stays, AllStay, AreKnown, times_shelved, running_times, state_in, IsConsistent, IsRefined}
use Rattle.job_runner.specs.Shared.{what_of, granted_among, granted_if, granted_of, ready_calls, later_calls, round_act_of, sharing_in}
use Rattle.job_runner.specs.Steps.{asked_in, state_after, IsStopping}
use Rattle.job_runner.proofs.Granted.{among_absent, absent_ready, if_none}
use Rattle.job_runner.proofs.Known.{slots_kept, waits_kept}
use Rattle.job_runner.proofs.Lived.{LivesBy, lives_by, task_at}
use Rattle.job_runner.proofs.Options.{some_kept}
use Rattle.job_runner.proofs.Shelving.{timer_else}
use Rattle.job_runner.proofs.Staying.{same_event, stays_still, continues_still}
use Rattle.job_runner.proofs.States.{meaning_of, meaning_settled}
use Rattle.job_runner.proofs.Stopped.{stopped_task}

-- a home is a place of a nursery
pub home_is : (o : Option Home) (nursery index : ℕ) → option_map {U = ℕ × ℕ} (λ (h : Home). (h.nursery, h.index)) o
    ≡ Some (nursery, index) → (y : Home) × (o ≡ Some y) × (y.nursery ≡ nursery) × (y.index ≡ index)
home_is None nursery index e = absurd (none-some (nursery, index) e)
home_is (Some y) nursery index e =
    let f : Some (y.nursery, y.index) ≡ Some (nursery, index) = e in
    let g = same_Some (y.nursery, y.index) (nursery, index) f in
    (y, refl, ap (λ (z : ℕ × ℕ). z.0) g, ap (λ (z : ℕ × ℕ). z.1) g)

-- the nursery and the place of a child that runs may be said otherwise
runs_in : {n m p q : ℕ} (book : NurseryBook) → n ≡ m → p ≡ q → HasNursery book n (λ x. slice_get x.children p ≡ Some None) →
    HasNursery book m (λ x. slice_get x.children q ≡ Some None)
runs_in book a b h = rw (← a, ← b) h

-- ---- the task that ended

-- what the runner holds then of limiters and channels: it asked nothing
abbrev shared_then : Runner → ℕ → Option held.Exc → Sharing
shared_then r row exc = record (sharing_in r) { round = map round_act_of r.round.items ++ asked_in r.world row (stops.Ended exc) }

-- the task with the nursery that is the home of the one of this row
pub record HasWaiter (r : Runner) (row : ℕ) (home : Home) : Type 0 where
  pub task : Task
  pub is : task_of r.task_table (parent_of r.task_table row) ≡ Some task
  pub owned : HasNurseryOf home.nursery (blocks_of task.frames.items) (waits_of task.task_state)
  pub lives : LivesBy r.task_table (parent_of r.task_table row) task
  pub earlier : parent_of r.task_table row < row
  pub runs : HasNursery r.world.book home.nursery (λ n. slice_get n.children home.index ≡ Some None)

module _ {r : Runner} {task_table : TaskTable} {id row : ℕ} {exc : Option held.Exc} (h : IsStopping id row (stops.Ended exc) r)
    (e : Ends r.task_table task_table id (tick_of r.world.clock r.world.tick) exc) where
  -- the row that gets the end is that of the task that stopped
  pub its_row : e.row ≡ row
  its_row =
      let x = stopped_task h in
      let same : x.0 ≡ record { task = e.task; row = e.row } = same_Some x.0 (record { task = e.task; row = e.row }) (sym x.1 ∙ e.lived) in
      sym (ap (λ (y : Running). y.row) same) ∙ x.2

  -- and the task lived in it until then
  pub was_there : task_of r.task_table row ≡ Some e.task
  was_there = rw its_row at (task_at r.task_table h.shelved.consistent.agree id (record { task = e.task; row = e.row }) e.lived)

  -- the run up to then is one of the definitions, in which the end of this task is not recorded yet
  pub state_before : Refines (meaning_of r) r.job.now r.input.now r.world.tick (task_count r.task_table) (Some row) (state_after row (stops.Ended exc) r)
  state_before = (h.interleaving (meaning_of r) (meaning_settled r h.sound)).is

  -- the task with the nursery that is its home has not ended, has an earlier row, and its end is not
  -- recorded in the nursery yet
  pub waiter_of : (home : Home) → e.task.home ≡ Some home → HasWaiter r row home
  waiter_of home is =
      record {
        task = keeps.task;
        is = keeps.lives;
        owned = keeps.owned;
        lives = lives_by r.task_table h.shelved.consistent.agree (parent_of r.task_table row) keeps.task keeps.lives;
        earlier = rw same at its.earlier;
        runs =
            let n = finds r.world.book home.nursery (λ n. (n.scope ≡ home.scope) × (slice_get n.children home.index ≡ Some None))
            its.runs in
            puts r.world.book home.nursery n.0 (λ n. slice_get n.children home.index ≡ Some None) n.1 n.2.1;
      }
    where
      keeps : Keeps (state_after row (stops.Ended exc) r) (parent_of r.task_table row) home.nursery
      keeps = h.shelved.consistent.homes (shared_then r row exc) row e.task home was_there is

      its : LivesIn (state_after row (stops.Ended exc) r) state_before.interleaving.at state_before.numbers row home
      its = subst (HasHome (state_after row (stops.Ended exc) r) state_before.interleaving.at state_before.numbers row) is (state_before.follows row e.task was_there).home

      same : its.parent ≡ parent_of r.task_table row
      same =
          same_owner (meaning_of r) r.job.now r.input.now r.world.tick (task_count r.task_table) (Some row) (state_after row (stops.Ended exc) r)
          state_before its.parent (parent_of r.task_table row) its.starter
          keeps.task home.nursery its.lives keeps.lives its.owned keeps.owned

  -- its row is still one of the table's
  pub tell_row : row < task_count task_table
  tell_row =
      let many = e.same.many in
      rw many (lives_by r.task_table h.shelved.consistent.agree row e.task was_there).below

  module _ (nursery index : ℕ) (f : option_map {U = ℕ × ℕ} (λ (x : Home). (x.nursery, x.index)) e.task.home ≡ Some (nursery, index)) where
    -- what `tell` requires
    pub tell_runs : HasNursery r.world.book nursery (λ n. slice_get n.children index ≡ Some None)
    tell_runs =
        let y = home_is e.task.home nursery index f in
        runs_in r.world.book y.2 y.3 (waiter_of y.0 y.1).runs

    -- and the row of the task that started it is one of the table's too, where it has a home
    pub tell_parent : parent_of task_table row < task_count task_table
    tell_parent =
        let y = home_is e.task.home nursery index f in
        let parent = e.same.parent row in
        let many = e.same.many in
        rw (parent, many) (waiter_of y.0 y.1).lives.below

-- ---- all others

-- the runner after the task has left, and its end is recorded
abbrev pub ended_runner : Runner → TaskTable → NurseryBook → Runner
ended_runner r task_table book = record r { task_table = task_table; world = record r.world { book = book } }

module _ {r : Runner} {task_table : TaskTable} {id row : ℕ} {exc : Option held.Exc} (h : IsStopping id row (stops.Ended exc) r)
    (e : Ends r.task_table task_table id (tick_of r.world.clock r.world.tick) exc) (agree : IsTaskTable task_table) (book : NurseryBook)
    (recorded : EndIsRecorded r.world.tick r.world.book book e.task.home (option_map exc_of exc)) where
  abbrev world_after : World
  world_after = record r.world { book = book }

  left_by : (k : Tables) → (settled : IsSettledBy k r.job.now r.input.now) →
      Leaving r.world.tick row (state_after row (stops.Ended exc) r) (state_in (ended_runner r task_table book)) ((h.interleaving k settled).is.interleaving.at row) e.task
      (option_map exc_of exc)
  left_by k settled =
      record {
        was = was_there h e;
        ended = (h.interleaving k settled).ended;
        world = refl;
        turns = refl;
        recorded = recorded;
        left = ap (task_of task_table) (sym at) ∙ e.left;
        kept = ap (ended_task_of task_table) (sym at) ∙ e.kept;
        others = λ p differs. let d : p ≢ e.row = λ f. differs (f ∙ at) in (e.same.task p d, e.same.ended_task p d);
        start = e.same.start;
        children = e.same.children;
        path = λ p. ap (λ (parent : ℕ → ℕ). path_by p parent p) (fun_ext e.same.parent);
        objects = record {
          through = refl;
          object = λ l. refl;
          round = sym (append-nil (map round_act_of r.round.items));
          granted = granted_left;
          grants = λ object asker u. refl;
        };
      }
    where
      at : e.row ≡ row
      at = its_row h e

      -- nothing is granted to the task that ended, and to the others as before
      granted_left : (p : ℕ) → granted_of task_table (ready_calls r) p ≡ granted_of r.task_table (ready_calls r) p
      granted_left p = ap (λ (i : ℕ). granted_if i (ready_calls r) p (running_at task_table i)) (e.same.id p) ∙ by_id (cases_eq (id_of r.task_table p) id)
        where
          if_absent : (q : ℕ) (o : Option Running) → granted_among id (ready_calls r) ≡ None → granted_if id (ready_calls r) q o ≡ None
          if_absent q None none = refl
          if_absent q (Some x) none = if_none (x.row == q) (granted_among id (ready_calls r)) none

          by_id : (id_of r.task_table p ≡ id) ⊎ (id_of r.task_table p ≢ id) →
              granted_if (id_of r.task_table p) (ready_calls r) p (running_at task_table (id_of r.task_table p))
              ≡ granted_of r.task_table (ready_calls r) p
          by_id (inl same) =
              let no = h.shelved.away id refl in
              rw same (ap (granted_if id (ready_calls r) p) e.removed
              ∙ sym (if_absent p (running_at r.task_table id) (among_absent id (ready_calls r) (absent_ready r id (omega (arith, no))))))
          by_id (inr differs) = ap (granted_if (id_of r.task_table p) (ready_calls r) p) (e.others (id_of r.task_table p) differs)

  -- after its end is recorded, the run is one of the definitions, and no end is left to record
  pub interleaving_after : IsRefined (ended_runner r task_table book)
  interleaving_after k settled =
      let many = e.same.many in
      rw many (state_left k r.job.now r.input.now r.world.tick (task_count r.task_table) row (state_after row (stops.Ended exc) r)
      (state_in (ended_runner r task_table book)) e.task (option_map exc_of exc) (h.interleaving k settled).is (left_by k settled))

  leaving : Leaving r.world.tick row (state_after row (stops.Ended exc) r) (state_in (ended_runner r task_table book)) ((state_before h e).interleaving.at row) e.task
      (option_map exc_of exc)
  unfolding state_before
  leaving = left_by (meaning_of r) (meaning_settled r h.sound)

  homes_after : AreHomesOf (state_in (ended_runner r task_table book)) (parent_of task_table)
  homes_after p x home lives is =
      let parent = e.same.parent p in
      rw parent (homes_left (meaning_of r) r.job.now r.input.now r.world.tick (task_count r.task_table) row (state_after row (stops.Ended exc) r)
      (state_in (ended_runner r task_table book)) e.task (option_map exc_of exc) (state_before h e) leaving (parent_of r.task_table)
      (h.shelved.consistent.homes (shared_then r row exc)) p x home lives is)

  pub consistent_after : IsConsistent task_table world_after r.clock r.limit r.turns
  consistent_after = record {
    agree = agree;
    homes = λ shared p x home lives is. (let k = homes_after p x home lives is in record { task = k.task; lives = k.lives; owned = k.owned });
    now = h.shelved.consistent.now;
    limit = h.shelved.consistent.limit;
    within = h.shelved.consistent.within;
    bounded = h.shelved.consistent.bounded;
    none_started = h.shelved.consistent.none_started;
    none_set = h.shelved.consistent.none_set;
    none_done = h.shelved.consistent.none_done;
  }

  goes_after : (x : Task) (call : Call) → GoesBy r.world x call → GoesBy world_after x call
  goes_after x call goes answer wake right is =
      goes_left (meaning_of r) r.job.now r.input.now r.world.tick (task_count r.task_table) row (state_after row (stops.Ended exc) r)
      (state_in (ended_runner r task_table book)) e.task (option_map exc_of exc) (state_before h e) leaving x (what_of call) wake
      (goes answer wake right is)

  called_after : (key : ℕ) (call : Call) → key ≢ id → IsCalled r.task_table r.world key call → IsCalled task_table world_after key call
  called_after key call differs =
      some_kept (running_at r.task_table key) (running_at task_table key) (λ (x : Running). GoesBy r.world x.task call)
      (λ (x : Running). GoesBy world_after x.task call) (λ x is. e.others key differs ∙ is) (λ x is goes. goes_after x.task call goes)

  none : times_shelved r.batch (later_calls r) r.clock id ≡ 0
  none = h.shelved.away id refl

  -- each other task stays until the moment until which it did
  stays_after : (due : ℕ) (x : Task) → Stays r.world due x → Stays world_after due x
  stays_after due x =
      stays_still r.world world_after x due refl refl refl
      (same_event (event_at r.world) (event_at r.world) x.task_state refl) (λ nursery waits over.
      settled_same (meaning_of r) r.job.now r.input.now r.world.tick (task_count r.task_table) row (state_after row (stops.Ended exc) r)
      (state_in (ended_runner r task_table book)) e.task (option_map exc_of exc) (state_before h e) leaving nursery over)

  pub stay_after : AllStay task_table world_after r.clock
  stay_after key due f =
      some_kept (running_at r.task_table key) (running_at task_table key) (λ (y : Running). Stays r.world due y.task)
      (λ (y : Running). Stays world_after due y.task) (λ x is. e.others key (timer_else h.shelved key due f) ∙ is)
      (λ x is. stays_after due x.task) (h.shelved.stay key due f)

  pub known_after : AreKnown task_table world_after r.clock r.sleepers r.waiters
  known_after = record {
    sleep_slots = λ key. h.shelved.known.sleep_slots key
        ∙ slots_kept r.task_table task_table r.clock (λ other due f. e.others other (timer_else h.shelved other due f)) key;
    sights = h.shelved.known.sights;
    waiting = λ key. h.shelved.known.waiting key
        ∙ waits_kept (event_at r.world) r.task_table task_table r.clock
        (λ other due f. e.others other (timer_else h.shelved other due f)) key;
  }

  -- those that were added to the next batch live still, and are ready by the same calls
  pub added_after : All (IsCalledAdded task_table world_after) r.batch.next
  added_after =
      let no = none in
      all_others (λ (a : Added). a.0) id r.batch.next (omega (arith, no)) (IsCalledAdded r.task_table r.world)
      (IsCalledAdded task_table world_after) h.shelved.next (λ a differs c. called_after a.0 a.1 differs c)

  -- so do those that continue in the next moment
  pub later_after : All (IsCalledLater task_table world_after) (later_calls r)
  later_after =
      let no = none in
      all_others (λ (a : Added). a.0) id (later_calls r) (omega (arith, no)) (IsCalledLater r.task_table r.world)
      (IsCalledLater task_table world_after) h.shelved.later (λ a differs.
      some_kept (running_at r.task_table a.0) (running_at task_table a.0) (λ (x : Running). ContinuesLater r.world x.task a.1)
      (λ (x : Running). ContinuesLater world_after x.task a.1) (λ x is. e.others a.0 differs ∙ is)
      (λ x is. continues_still r.world world_after x.task a.1 refl (λ due. stays_after due x.task)))

  pub entries_after : All (IsCalledEntry task_table world_after) r.batch.current
  entries_after =
      let no = none in
      all_others (λ (x : Entry). x.task) id r.batch.current (omega (arith, no)) (IsCalledEntry r.task_table r.world)
      (IsCalledEntry task_table world_after) h.shelved.current (λ x differs c. called_after x.task x.call differs c)

  -- a task that ended is kept nowhere, and how often each other one has to be kept
  pub once_after : (n : ℕ → ℕ) → n id ≡ 0 →
      ((other : ℕ) → other ≢ id → times_shelved r.batch (later_calls r) r.clock other + n other ≡ running_times book (running_at r.task_table other)) →
      (other : ℕ) → times_shelved r.batch (later_calls r) r.clock other + n other ≡ running_times book (running_at task_table other)
  once_after n none_more kept other =
      elim (cases_eq other id) [
        | inl same ↦
            let a : times_shelved r.batch (later_calls r) r.clock id ≡ 0 = none in
            let removed : running_times book (running_at task_table id) ≡ 0 = ap (running_times book) e.removed in
            rw same (omega (arith, a, none_more, removed))
        | inr differs ↦ kept other differs ∙ sym (ap (running_times book) (e.others other differs))
      ]
