-- The tasks of the program: which task a nursery belongs to, and which serial numbers exist.
use Rattle.std.proofs.Common.{◌≡◌, ◌⊎◌, inl, inr, ℕ, ◌<◌, ◌≤◌, true, Option, Some, None, List, refl, ap, sym, ◌∙◌, subst, arith}
use Rattle.std.proofs.lemmas.Bool.{cases_lt}
use Rattle.std.specs.Prelude.{slice_get}
use Rattle.std.specs.Option.{option_map}
use Rattle.nursery_book.specs.Nursery.{Nursery}
use Rattle.nursery_book.specs.Book.{nursery_at, HasNursery}
use Rattle.job_tree.specs.Tree.{Tree as Job}
use Rattle.job_meaning.specs.Log.{Table}
use Rattle.task_machine.specs.States.{state_of}
use Rattle.task_machine.specs.declared.task.Home.{Home}
use Rattle.task_machine.specs.declared.task.Own.{Own}
use Rattle.task_machine.specs.declared.task.Task.{Task}
use Rattle.task_machine.specs.Acts.{scoping_of}
use Rattle.task_machine.specs.Fitting.{blocks_of, waits_of, AreOthers}
use Rattle.task_machine.specs.Frames.{frames_of}
use Rattle.task_machine.specs.Standing.{here_of, HasNurseryOf, Stands}
use Rattle.task_machine.specs.Stops.{Numbers, IsTaskState}
use Rattle.task_machine.specs.Tasks.{home_of}
use Rattle.task_machine.specs.Waking.{IsInRangeTaskState}
use Rattle.task_machine.specs.Worlds.{label_at}
use Rattle.interleavings.specs.Interleaving.{Started, live}
use Rattle.interleavings.specs.Rows.{entered_made}
use Rattle.run_refinement.specs.RunState.{RunState, EndedTask, Notes, Tracks, CanGoOn, HasHome, HasMembers, IsSince, LastEnds, Follows, OpenedBy, Refines}
use Rattle.run_refinement.specs.Turn.{IsEntered}
use Rattle.run_refinement.proofs.ActsKeep.{not_both}
use Rattle.run_refinement.proofs.Parts.{own_or}
use Rattle.task_machine.proofs.Apart.{has_scope}
use Rattle.task_machine.proofs.Stacked.{one_of}
use Rattle.run_refinement.proofs.Found.{finds}
use Rattle.turn_semantics.specs.Midway.{Tables}

-- ---- a task and its home, apart

-- what ties a task to one of the definitions, but for its home
pub record Stood (state : RunState) (f : Table) (input : List ℕ) (t : ℕ) (at : ℕ → Started) (leaving : Option ℕ) (s : ℕ) (task : Task)
    (n : Numbers) (q : Started) : Type 0
  where
    pub here : here_of state.world.clock task ≡ q.here
    pub since : IsSince t task.cancelled.items task.task_state q.stop
    pub last : LastEnds at n q state.world.book task.task_state
    pub input_is : q.here.input ≡ input
    pub lives : (leaving ≡ Some s → ⊥) → live q.rest.stopped ≡ true
    pub frames : frames_of n task.frames.items ≡ q.rest.frames
    pub stands : Stands (state_of task state.world) f n (Some q.rest.stopped) q.places
    pub task_state : IsTaskState n state.world.book task.task_state q.rest.stopped
    pub in_range : IsInRangeTaskState task.task_state
    pub goes : CanGoOn task state.world
    pub notes : Notes state.world.clock input q.made task.entries.items
    pub tracks : Tracks (IsEntered at) f (scoping_of task state.world) (entered_made q.made)
    pub nurseries :
        (id : ℕ) → HasNurseryOf id (blocks_of task.frames.items) (waits_of task.task_state) →
        HasNursery state.world.book id (λ n0. HasMembers state at t n q id n0)

stood_follows : (state : RunState) (f : Table) (input : List ℕ) (t : ℕ) (at : ℕ → Started) (numbers : ℕ → Numbers) (leaving : Option ℕ) (s : ℕ)
    (task : Task) →
    Stood state f input t at leaving s task (numbers s) (at s) → HasHome state at numbers s task.home →
    Follows state f input t at numbers leaving s task
stood_follows state f input t at numbers leaving s task h home =
    record {
      here = h.here;
      since = h.since;
      last = h.last;
      input_is = h.input_is;
      lives = h.lives;
      frames = h.frames;
      stands = h.stands;
      task_state = h.task_state;
      in_range = h.in_range;
      goes = h.goes;
      notes = h.notes;
      tracks = h.tracks;
      home = home;
      nurseries = h.nurseries;
    }

-- with the numbers and the task that these are
pub follows_by : (state : RunState) (f : Table) (input : List ℕ) (t : ℕ) (at : ℕ → Started) (numbers : ℕ → Numbers) (leaving : Option ℕ) (s : ℕ)
    (task : Task) (n : Numbers)
    (q : Started) → numbers s ≡ n → at s ≡ q → Stood state f input t at leaving s task n q → HasHome state at numbers s task.home →
    Follows state f input t at numbers leaving s task
follows_by state f input t at numbers leaving s task n q e g h home =
    stood_follows state f input t at numbers leaving s task
    (subst (λ (z : Numbers). Stood state f input t at leaving s task z (at s)) (sym e)
    (subst (λ (z : Started). Stood state f input t at leaving s task n z) (sym g) h))
    home

-- ---- the tasks of the program

module _ (k : Tables) (job : Job) (input : List ℕ) (t m : ℕ) (leaving : Option ℕ) (state : RunState) (c : Refines k job input t m leaving state)
  where
    -- no task has a later serial number than those given
    pub ended_task_below : (s : ℕ) (g : EndedTask) → state.ended_task s ≡ Some g → s < m
    ended_task_below s g e = by_order (cases_lt s m)
      where
        by_order : (s < m) ⊎ (m ≤ s) → s < m
        by_order (inl h) = h
        by_order (inr h) = absurd (not_both (c.unborn s h).1 e)

    -- the scope of a task's nursery is one that the task opened
    pub owner : (s : ℕ) (a : Task) → state.task s ≡ Some a → (id : ℕ) (n : Nursery) →
        HasNurseryOf id (blocks_of a.frames.items) (waits_of a.task_state) →
        nursery_at state.world.book id ≡ Some n → OpenedBy state n.scope s
    owner s a e id n has at = by_own (own_or n.scope a.own.items)
      where
        by_own : AreOthers n.scope a.own.items ⊎ ((i : ℕ) × (o : Own) × (slice_get a.own.items i ≡ Some o) × (o.id ≡ n.scope)) →
            OpenedBy state n.scope s
        by_own (inl others) =
            absurd (has_scope (label_at state.world) state.world.book (blocks_of a.frames.items) a.own.items (waits_of a.task_state) id n
            (c.follows s a e).goes.opened has at others)
        by_own (inr h) = record { task = a; lives = e; index = h.0; scope = h.1; own = h.2; is = h.3 }

    -- so no two tasks have the same nursery
    pub one_nursery : (s u : ℕ) (a b : Task) → state.task s ≡ Some a → state.task u ≡ Some b → (id : ℕ) (n : Nursery) →
        HasNurseryOf id (blocks_of a.frames.items) (waits_of a.task_state) →
        HasNurseryOf id (blocks_of b.frames.items) (waits_of b.task_state) → nursery_at state.world.book id ≡ Some n → s ≡ u
    one_nursery s u a b e f id n has too at = c.apart n.scope s u (owner s a e id n has at) (owner u b f id n too at)

    -- and the task whose nursery is another's home is the earlier
    pub home_earlier : (p : ℕ) (a : Task) → state.task p ≡ Some a → (id index : ℕ) → home_of a ≡ Some (id, index) → (u : ℕ) (b : Task) →
        state.task u ≡ Some b →
        HasNurseryOf id (blocks_of b.frames.items) (waits_of b.task_state) → u < p
    home_earlier p a e id index at u b f has = by_home a.home refl (c.follows p a e).home
      where
        by_home : (h : Option Home) → a.home ≡ h → HasHome state c.interleaving.at c.numbers p h → u < p
        by_home None g h =
            let none : home_of a ≡ None = ap (option_map (λ (x : Home). (x.nursery, x.index))) g in
            absurd (not_both none at)
        by_home (Some home) g l =
            let here : home_of a ≡ Some (home.nursery, home.index) = ap (option_map (λ (x : Home). (x.nursery, x.index))) g in
            let same : home.nursery ≡ id = ap (λ (z : ℕ × ℕ). z.0) (one_of (home.nursery, home.index) (id, index) (sym here ∙ at)) in
            let n = finds state.world.book home.nursery _ l.runs in
            let one : l.parent ≡ u =
            one_nursery l.parent u l.starter b l.lives f home.nursery n.0 l.owned
            (subst (λ (key : ℕ). HasNurseryOf key (blocks_of b.frames.items) (waits_of b.task_state)) (sym same) has) n.1 in
            let earlier : l.parent < p = l.earlier in
            omega arith
