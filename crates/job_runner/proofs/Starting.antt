-- Tasks that were started are taken one by one: each has the next row and a new id, and begins a round later.
use Rattle.std.proofs.Common.{◌≡◌, ◌≢◌, ℕ, zero, suc, ◌+◌, ◌<◌, ◌≤◌, inl, inr, true, false, Option, Some, None, List, [], ◌∷◌, ◌++◌, length, refl, ap, sym, ◌∙◌, subst, arith}
use Rattle.std.specs.Prelude.{◌==◌, slice_get, IsSome, is_some}
use Rattle.std.proofs.lemmas.Bool.{cases_eq, cases_lt}
use Rattle.std.proofs.lemmas.Bool.Decides.{eqb_tells}
use Rattle.std.proofs.lemmas.List.{append-nil, append_assoc, length_push}
use Rattle.std.proofs.lemmas.Option.{none-some, same_Some, slice_get_past, slice_get_within}
use Rattle.clock.specs.Clock.{now_of, due_of}
use Rattle.task_table.specs.declared.entry.Call.TheVariants.{Begin}
use Rattle.job_meaning.specs.Moments.{tick_of, a_round_after}
use Rattle.job_meaning.specs.declared.clock.Clock.{Clock}
use Rattle.task_machine.specs.declared.task.Task.{Task}
use Rattle.task_machine.specs.declared.world.World.{World}
use Rattle.run_refinement.specs.Turn.{serials_from}
use Rattle.task_table.specs.declared.task_table.TaskTable.{TaskTable}
use Rattle.task_table.specs.declared.task_table.Running.{Running}
use Rattle.task_table.specs.Rows.{times}
use Rattle.task_table.specs.TaskTable.{running_at, task_of, task_by, start_of, children_of, parent_of, task_count, IsTaskTable, Starts}
use Rattle.task_table.proofs.Lists.{Changes, changes_push, value_at}
use Rattle.task_table.proofs.Times.{one_if, one_same, times_none, times_push, times_there}
use Rattle.job_runner.specs.declared.runner.Runner.{Runner}
use Rattle.job_runner.specs.Steps.{StartsAll, IsReadied, TakesStarted}
use Rattle.job_runner.proofs.Readied.{readied_none, readied_more, readied_there, readied_timer}

-- one more serial number after the given number of consecutive ones
pub serials_more : (m n : ℕ) → serials_from m n ++ (m + n) ∷ [] ≡ serials_from m (n + 1)
serials_more m zero = ap (λ (x : ℕ). x ∷ []) (let e : m + 0 ≡ m = omega arith in e)
serials_more m (suc n) =
    let e : suc m + n ≡ m + suc n = omega arith in
    let f : suc n + 1 ≡ suc (n + 1) = omega arith in
    ap (λ (xs : List ℕ). m ∷ xs) (ap (λ (x : ℕ). serials_from (suc m) n ++ x ∷ []) (sym e) ∙ serials_more (suc m) n)
    ∙ ap (serials_from m) (sym f)

-- ---- tasks of a task table

-- no task has a row past those of the table
pub none_past : (r : TaskTable) (p : ℕ) → task_count r ≤ p → task_of r p ≡ None
none_past r p le = ap (task_by r.live) (slice_get_past r.rows.items p le)

-- no task at all
pub starts_none : (r : TaskTable) (parent tick : ℕ) → StartsAll r r parent [] tick []
starts_none r parent tick = record {
  as_many = refl;
  lives = λ i id task e. absurd (none-some id e);
  once = λ id. omega arith;
  others = λ id h. refl;
  more = (let e : task_count r ≡ task_count r + 0 = omega arith in e);
  task = λ i. none_past r (task_count r + i) (omega arith);
  start = λ i lt. absurd (omega (arith, lt));
  childless = λ i lt. absurd (omega (arith, lt));
  parent_is = λ i lt. absurd (omega (arith, lt));
  child = sym (append-nil (children_of r parent));
  same_task = λ p lt. refl;
  same_ended_task = λ p. refl;
  same_start = λ p lt. refl;
  same_children = λ p lt differs. refl;
  same_parent = λ p lt. refl;
  same_id = λ p lt. refl;
}

-- one more
module _ {old mid new : TaskTable} {parent : ℕ} {tasks : List Task} {tick : ℕ} {ids : List ℕ} {task : Task} {id : ℕ}
    (a : StartsAll old mid parent tasks tick ids) (s : Starts mid new parent task tick id) (there : parent < task_count old) where
  longer : length (tasks ++ task ∷ []) ≡ length tasks + 1
  longer = length_push tasks task

  -- the last task and its id are at this place
  task_last : Changes (slice_get tasks) (slice_get (tasks ++ task ∷ [])) (length tasks) None (Some task)
  task_last = changes_push tasks task

  id_last : Changes (slice_get ids) (slice_get (ids ++ id ∷ [])) (length tasks) None (Some id)
  id_last = let long = a.as_many in rw (← long) (changes_push ids id)

  -- its id is none of those before it
  not_before : times id ids ≡ 0
  not_before = times_none id ids (λ i e.
      let lt : i < length tasks = (let le = slice_get_within ids i id e in let long = a.as_many in omega (arith, le, long)) in
      let t = value_at tasks i lt in
      none-some _ (sym s.fresh ∙ (a.lives i id t.0 e t.1).1))

  counted : (other : ℕ) → times other (ids ++ id ∷ []) ≡ times other ids + one_if (id == other)
  counted other = times_push other ids id

  fresh : running_at old id ≡ None
  fresh = sym (a.others id not_before) ∙ s.fresh

  lives_more : (i key : ℕ) (x : Task) → slice_get (ids ++ id ∷ []) i ≡ Some key → slice_get (tasks ++ task ∷ []) i ≡ Some x →
      (running_at old key ≡ None) × (running_at new key ≡ Some (record { task = x; row = task_count old + i }))
  lives_more i key x e f =
      elim (cases_eq i (length tasks)) [
        | inl is ↦
            let same_id : id ≡ key = same_Some id key (sym id_last.is ∙ (ap (slice_get (ids ++ id ∷ [])) (sym is) ∙ e)) in
            let same_task : task ≡ x = same_Some task x (sym task_last.is ∙ (ap (slice_get (tasks ++ task ∷ [])) (sym is) ∙ f)) in
            let row = a.more in
            rw (← same_id, ← same_task, is, ← row) (fresh, s.lives)
        | inr differs ↦
            let before : slice_get ids i ≡ Some key = sym (id_last.others i differs) ∙ e in
            let h = a.lives i key x before (sym (task_last.others i differs) ∙ f) in
            let apart : key ≢ id = λ same. (let n = times_there key ids i before in
            let z : times key ids ≡ 0 = ap (λ (k : ℕ). times k ids) same ∙ not_before in
            omega (arith, n, z)) in
            (h.0, s.others key apart ∙ h.1)
      ]

  once_more : (other : ℕ) → times other (ids ++ id ∷ []) ≤ 1
  once_more other =
      let c = counted other in
      elim (eqb_tells id other) [
        | inl h ↦
            let one : one_if (id == other) ≡ 1 = ap one_if h.0 in
            let z : times other ids ≡ 0 = rw h.1 at not_before in
            omega (arith, c, one, z)
        | inr h ↦
            let none : one_if (id == other) ≡ 0 = ap one_if h.0 in
            let z = a.once other in
            omega (arith, c, none, z)
      ]

  others_more : (other : ℕ) → times other (ids ++ id ∷ []) ≡ 0 → running_at new other ≡ running_at old other
  others_more other h =
      let c = counted other in
      s.others other (λ (e : other ≡ id). (let one = one_same id other (sym e) in omega (arith, c, one, h)))
      ∙ a.others other (omega (arith, c, h))

  -- what is said of the row of each started task
  row_else : (i : ℕ) → i ≢ length tasks → task_count old + i ≢ task_count mid
  row_else i differs e = let more = a.more in differs (omega (arith, e, more))

  same_task_else : (p : ℕ) → p ≢ task_count mid → task_of new p ≡ task_of mid p
  same_task_else p differs =
      elim (cases_lt p (task_count mid)) [
        | inl lt ↦ s.same_task p lt
        | inr le ↦
            let more = s.more in
            none_past new p (omega (arith, le, differs, more)) ∙ sym (none_past mid p le)
      ]

  task_more : (i : ℕ) → task_of new (task_count old + i) ≡ slice_get (tasks ++ task ∷ []) i
  task_more i =
      elim (cases_eq i (length tasks)) [
        | inl is ↦ rw is (ap (task_of new) (sym a.more) ∙ s.task ∙ sym task_last.is)
        | inr differs ↦ same_task_else (task_count old + i) (row_else i differs) ∙ a.task i ∙ sym (task_last.others i differs)
      ]

  at_more : {A : Type 0} (get : TaskTable → ℕ → A) (x : A) → ((p : ℕ) → p < task_count mid → p ≢ parent → get new p ≡ get mid p) →
      get new (task_count mid) ≡ x → ((i : ℕ) → i < length tasks → get mid (task_count old + i) ≡ x) →
      (i : ℕ) → i < length (tasks ++ task ∷ []) → get new (task_count old + i) ≡ x
  at_more get x same last before i lt =
      let more : task_count mid ≡ task_count old + length tasks = a.more in
      elim (cases_eq i (length tasks)) [
        | inl is ↦ rw is (ap (get new) (sym more) ∙ last)
        | inr differs ↦
            let below : i < length tasks = omega (arith, lt, longer, differs) in
            same (task_count old + i) (omega (arith, below, more)) (λ e. omega (arith, e, there)) ∙ before i below
      ]

  less : (p : ℕ) → p < task_count old → p < task_count mid
  less p lt = let more = a.more in omega (arith, lt, more)

  -- a task that is started after others is one more of them: it has the row after theirs, and an id of its own
  pub starts_more : StartsAll old new parent (tasks ++ task ∷ []) tick (ids ++ id ∷ [])
  starts_more = record {
    as_many = length_push ids id ∙ ap (λ (n : ℕ). n + 1) a.as_many ∙ sym longer;
    lives = lives_more;
    once = once_more;
    others = others_more;
    more = (let more = a.more in let last = s.more in omega (arith, more, last, longer));
    task = task_more;
    start = at_more start_of tick (λ p lt differs. s.same_start p lt) s.start a.start;
    childless = at_more children_of [] s.same_children s.childless a.childless;
    parent_is = at_more parent_of parent (λ p lt differs. s.same_parent p lt) s.parent_is a.parent_is;
    child =
        (let before = a.child in
        let row = a.more in
        let serials : children_of mid parent ++ task_count mid ∷ []
        ≡ children_of old parent ++ serials_from (task_count old) (length (tasks ++ task ∷ [])) =
        rw (before, row, append_assoc, serials_more (task_count old) (length tasks), ← longer) refl in
        s.child ∙ serials);
    same_task = λ p lt. s.same_task p (less p lt) ∙ a.same_task p lt;
    same_ended_task = λ p. s.same_ended_task p ∙ a.same_ended_task p;
    same_start = λ p lt. s.same_start p (less p lt) ∙ a.same_start p lt;
    same_children = λ p lt differs. s.same_children p (less p lt) differs ∙ a.same_children p lt differs;
    same_parent = λ p lt. s.same_parent p (less p lt) ∙ a.same_parent p lt;
    same_id = λ p lt. s.same_id p (less p lt) ∙ a.same_id p lt;
  }

-- ---- the runner

-- the tick in which tasks begin that are started now
abbrev pub begin_tick : World → ℕ
begin_tick world = tick_of world.clock (a_round_after world.clock world.tick)

-- some of the tasks that waited in the world were taken
pub record Taking (old now : Runner) (parent : ℕ) : Type 0 where
  pub taken : List Task
  pub ids : List ℕ
  pub left : old.world.started.items ≡ taken ++ now.world.started.items
  pub starts : StartsAll old.task_table now.task_table parent taken (begin_tick old.world) ids
  pub agree : IsTaskTable now.task_table
  pub world : now.world ≡ record old.world { started = now.world.started }
  pub ready : IsReadied ids Begin (record old { task_table = now.task_table; world = now.world }) now
  -- a task that does not live has no timer
  pub timers : (id : ℕ) → running_at now.task_table id ≡ None → due_of now.clock id ≡ None

-- one task was taken from the world: it has the next row and its id, and begins a round later
pub record TakesOne (old now : Runner) (parent : ℕ) : Type 0 where
  pub task : Task
  pub id : ℕ
  pub task_table : TaskTable
  pub left : World
  pub first : old.world.started.items ≡ task ∷ left.started.items
  pub world : left ≡ record old.world { started = left.started }
  pub starts : Starts old.task_table task_table parent task (begin_tick old.world) id
  pub agree : IsTaskTable task_table
  pub ready : IsReadied (id ∷ []) Begin (record old { task_table = task_table; world = left }) now

-- at first no task that waited in the world was taken
pub taking_none : (r : Runner) (parent : ℕ) → IsTaskTable r.task_table →
    ((id due : ℕ) → due_of r.clock id ≡ Some due → IsSome (running_at r.task_table id)) → Taking r r parent
taking_none r parent agree lives = record {
  taken = [];
  ids = [];
  left = refl;
  starts = starts_none r.task_table parent (begin_tick r.world);
  agree = agree;
  world = refl;
  ready = readied_none Begin r;
  timers = λ id none. by_due id (due_of r.clock id) refl none;
}
  where
    by_due : (id : ℕ) (o : Option ℕ) → due_of r.clock id ≡ o → running_at r.task_table id ≡ None → o ≡ None
    by_due id None e none = refl
    by_due id (Some due) e none =
        absurd (let f : false ≡ true = sym (ap (λ (x : Option Running). is_some x) none) ∙ lives id due e in cc)

-- the starter's row is still one of the table's, after tasks were taken
pub row_there : {old now : Runner} {parent : ℕ} → Taking old now parent → parent < task_count old.task_table →
    parent < task_count now.task_table
row_there t lt = let more = t.starts.more in omega (arith, lt, more)

-- the clock still shows the moment, which is the world's
pub taking_now : {old now : Runner} {parent : ℕ} → Taking old now parent → now_of old.clock ≡ old.world.tick → now_of now.clock ≡ old.world.tick
taking_now t now = ap (λ (r : Runner). now_of r.clock) t.ready.rest ∙ now

pub taking_tick : {old now : Runner} {parent : ℕ} → Taking old now parent → now.world.tick ≡ old.world.tick
taking_tick t = ap (λ (w : World). w.tick) t.world

-- the tick in which they begin is still the same
pub taking_begins : {old now : Runner} {parent moment begins tick : ℕ} {clock : Clock} → Taking old now parent → clock ≡ old.world.clock →
    moment ≡ old.world.tick → begins ≡ a_round_after clock moment → tick ≡ tick_of clock begins → tick ≡ begin_tick now.world
taking_begins {old} {now} {clock = clock} t clock_is moment_is begins_is tick_is =
    tick_is ∙ ap (tick_of clock) (begins_is ∙ ap (a_round_after clock) moment_is)
    ∙ ap (λ (c : Clock). tick_of c (a_round_after c old.world.tick)) clock_is ∙ ap begin_tick (sym t.world)

-- a task that is taken has no timer
pub taken_awake : {old now : Runner} {task_table : TaskTable} {parent tick id : ℕ} {task : Task} → Taking old now parent →
    Starts now.task_table task_table parent task tick id → due_of now.clock id ≡ None
taken_awake {id = id} t starts = t.timers id starts.fresh

-- one more task was taken
pub taking_more : {old mid now : Runner} {parent : ℕ} → Taking old mid parent → parent < task_count old.task_table →
    TakesOne mid now parent → Taking old now parent
taking_more {old} {mid} {now} {parent} t there one = record {
  taken = t.taken ++ one.task ∷ [];
  ids = t.ids ++ one.id ∷ [];
  left =
      t.left ∙ ap (λ (ts : List Task). t.taken ++ ts) one.first ∙ sym (append_assoc t.taken (one.task ∷ []) one.left.started.items)
      ∙ ap (λ (w : World). (t.taken ++ one.task ∷ []) ++ w.started.items) (sym world_is);
  starts = rw table_is (starts_more t.starts started there);
  agree = rw table_is one.agree;
  world = world_is ∙ one.world ∙ ap (λ (x : World). record x { started = one.left.started }) t.world
      ∙ ap (λ (x : World). record old.world { started = x.started }) (sym world_is);
  ready =
      readied_more (record old { task_table = mid.task_table; world = mid.world }) mid now.task_table now.world
      (ap (λ (x : World). x.clock) same) t.ready
      (readied_there mid one.task_table one.left one.ready);
  timers = timers;
}
  where
    world_is : now.world ≡ one.left
    world_is = ap (λ (r : Runner). r.world) one.ready.rest

    table_is : now.task_table ≡ one.task_table
    table_is = ap (λ (r : Runner). r.task_table) one.ready.rest

    same : now.world ≡ record mid.world { started = one.left.started }
    same = world_is ∙ one.world

    started : Starts mid.task_table one.task_table parent one.task (begin_tick old.world) one.id
    started =
        subst (λ (n : ℕ). Starts mid.task_table one.task_table parent one.task n one.id)
        (ap (λ (w : World). begin_tick w) t.world) one.starts

    timers : (id : ℕ) → running_at now.task_table id ≡ None → due_of now.clock id ≡ None
    timers id none =
        elim (cases_eq id one.id) [
          | inl e ↦
              let lives = ap (λ (r : TaskTable). running_at r id) table_is ∙ (ap (running_at one.task_table) e ∙ one.starts.lives) in
              absurd (none-some _ (sym none ∙ lives))
          | inr differs ↦
              let removed : running_at one.task_table id ≡ None = sym (ap (λ (r : TaskTable). running_at r id) table_is) ∙ none in
              readied_timer one.ready id ∙ t.timers id (sym (one.starts.others id differs) ∙ removed)
        ]

-- once no task waits in the world, all that were started are taken
pub taking_all : {old now : Runner} {parent : ℕ} (w : World) → Taking old now parent → now.world.started.items ≡ [] → w.started.items ≡ [] →
    w ≡ record now.world { started = w.started } → TakesStarted old (record now { world = w }) parent
taking_all {old} {now} {parent} w t none left world = record {
  ids = t.ids;
  starts =
      (let all : old.world.started.items ≡ t.taken = t.left ∙ ap (λ (ts : List Task). t.taken ++ ts) none ∙ append-nil t.taken in
      rw all t.starts);
  agree = t.agree;
  world = world ∙ ap (λ (x : World). record x { started = w.started }) t.world;
  none_left = left;
  ready =
      subst (λ (x : World). IsReadied t.ids Begin (record old { task_table = now.task_table; world = x }) (record now { world = x })) (sym world)
      (record {
        next = t.ready.next;
        later = t.ready.later;
        current = t.ready.current;
        later_current = t.ready.later_current;
        rest = ap (λ (r : Runner). record r { world = record now.world { started = w.started } }) t.ready.rest;
      });
}
