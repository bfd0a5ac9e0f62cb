-- The tasks of the program as the code holds them, and their relation to a run of the definitions.
use Rattle.std.specs.Prelude.{◌≡◌, ◌≢◌, ◌⊎◌, true, ℕ, suc, ◌<◌, ◌≤◌, Option, Some, None, List, [], ◌∷◌, ◌++◌, All, map, length, slice_get}
use Rattle.std.specs.Option.{option_map}
use Rattle.input_lines.specs.Part.{buffer_of}
use Rattle.turn_semantics.specs.Lists.{IsAmong}
use Rattle.exceptions.specs.Exceptions.{Label, Exc}
use Rattle.cancel_scopes.specs.Sight.{Tick}
use Rattle.cancel_scopes.specs.Tree.{Stack, stack_of, IsOpen}
use Rattle.nursery_book.specs.Nursery.{End, Nursery}
use Rattle.nursery_book.specs.Book.{HasNursery}
use Rattle.nursery_book.specs.declared.book.NurseryBook.{NurseryBook}
use Rattle.task_machine.specs.declared.stop.TaskState.{TaskState}
use Rattle.task_machine.specs.declared.stop.TaskState.TheVariants.{ToBegin, Asked, Awaits}
use Rattle.job_tree.specs.Tree.{Tree as Job}
use Rattle.job_tree.specs.InRange.{IsInRange}
use Rattle.job_meaning.specs.Log.{Table}
use Rattle.job_meaning.specs.Moments.{clock_of, tick_of, Now, only_at}
use Rattle.job_meaning.specs.declared.clock.Clock.{Clock}
use Rattle.job_meaning.specs.Meaning.{cancelled_from_by}
use Rattle.job_meaning.specs.Rest as rest
use Rattle.job_meaning.specs.declared.limits.TheConstants.{MAX_INPUT}
use Rattle.task_machine.specs.States.{state_of}
use Rattle.task_machine.specs.declared.entry.Entry.{Entry}
use Rattle.task_machine.specs.declared.entry.ScopeFrom.{ScopeFrom}
use Rattle.task_machine.specs.Noted.{entry_of, from_of, IsSlice, shown_made}
use Rattle.task_machine.specs.declared.task.Home.{Home}
use Rattle.task_machine.specs.declared.task.Own.{Own}
use Rattle.task_machine.specs.declared.task.Task.{Task}
use Rattle.task_machine.specs.declared.world.World.{World}
use Rattle.task_machine.specs.Acts.{Scoping, scoping_of, kept_from}
use Rattle.task_machine.specs.Fitting.{blocks_of, CanRun, AreOthers, waits_of}
use Rattle.task_machine.specs.Frames.{frames_of}
use Rattle.task_machine.specs.Standing.{here_of, HasNurseryOf, Stands}
use Rattle.task_machine.specs.Stops.{Numbers, IsTaskState}
use Rattle.task_machine.specs.Tasks.{home_of, home_scope}
use Rattle.task_machine.specs.Waking.{IsInRangeTaskState}
use Rattle.task_machine.specs.Worlds.{label_at, event_at}
use Rattle.turn_semantics.specs.Midway.{Tables, label_among}
use Rattle.job_meaning.specs.Sharing.{Grants, by_moment, unopened, granted_before}
use Rattle.objects.specs.Held.{object_in}
use Rattle.objects.specs.declared.object.Object.{Object}
use Rattle.objects.specs.Whats.{What}
use Rattle.interleavings.specs.Interleaving.{Started, live}
use Rattle.interleavings.specs.Acts.{acts_of, acts_of_all, InOrder, granted_so_far}
use Rattle.interleavings.specs.Rows.{entered_made, children_made}
use Rattle.interleavings.specs.Runs.{Reached, turns_taken}
use Rattle.run_refinement.specs.Sharing.{RoundAct, done_by, done_before, done_from, object_after, waits_in, SameObject, AreAskedBefore, AsksBefore, asked_at}

-- ---- a run of the definitions, and its tasks by their serial numbers

-- no two tasks have the same serial number
abbrev pub AreApart : List Started → Type 0
AreApart [] = Unit {0}
AreApart (q ∷ qs) = ((x : Started) → IsAmong x qs → x.serial ≢ q.serial) × AreApart qs

-- A run reaches these moments of cancellation and this moment with m tasks, whose serial numbers are those below m. The task at a
-- number that no task has has done nothing.
pub record Interleaving (k : Tables) (job : Job) (input : List ℕ) (t m : ℕ) : Type 0 where
  pub cancelled_from : Table
  pub tasks : List Started
  pub reached : Reached k job input cancelled_from t m tasks
  pub at : ℕ → Started
  pub has : (s : ℕ) → s < m → IsAmong (at s) tasks × ((at s).serial ≡ s)
  pub one : (q : Started) → IsAmong q tasks → (q ≡ at q.serial) × (q.serial < m)
  pub differ : AreApart tasks
  pub none : (s : ℕ) → m ≤ s → (at s).made ≡ []

-- ---- what the code holds

-- what is kept of a task that has ended, with its tick
pub record EndedTask : Type 0 where
  pub label : Label
  pub end : ℕ
  pub exc : Option Exc
  pub entries : List Entry
  pub cancelled_from : List ScopeFrom

-- The world of a run, how many turns its tasks had, and by its serial number each task that has not ended, and what is kept of
-- each that has, with the tick in which each was started, the serial numbers of its children in order, and those from the root to it. Of
-- limiters and channels: the moment up to which they have served what was done to them; each of them by its label; what was done to them
-- since, in the order of turns; what was granted to each task that goes on in that moment; and all that was granted up to it.
pub record RunState : Type 0 where
  pub world : World
  pub turns : ℕ
  pub task : ℕ → Option Task
  pub ended_task : ℕ → Option EndedTask
  pub start : ℕ → ℕ
  pub children : ℕ → List ℕ
  pub path : ℕ → List ℕ
  pub through : ℕ
  pub object : Label → Option Object
  pub round : List RoundAct
  pub granted : ℕ → Option What
  pub grants : Grants

-- ---- one task

-- what a task noted corresponds to its events, and each line is the slice of the input at its place
pub record Notes (clock : Clock) (input : List ℕ) (made : List rest.Event) (entries : List Entry) : Type 0 where
  pub shown : map entry_of entries ≡ shown_made clock input made
  pub slices : All (IsSlice input) entries

-- the scopes that a task opened and did not leave have different keys
abbrev pub Differ : List Own → Type 0
Differ [] = Unit {0}
Differ (o ∷ own) = AreOthers o.id own × Differ own

-- this index among the moments of cancellation of a task is that of no scope that encloses it
abbrev pub IsPast : ℕ → List Own → Type 0
IsPast i own = All (λ (o : Own). o.at ≢ i) own

-- The moments of cancellation of a task are those of the labels that it entered. A scope that encloses it has its label at its
-- index, and the label's from; and that of a scope that it left was kept, whose label no scope has now.
pub record Tracks (known : Label → Type 0) (f : Table) (s : Scoping) (entered : List Label) : Type 0 where
  pub labels : map (λ (x : ScopeFrom). x.label) s.cancelled_from ≡ entered
  pub differ : Differ s.own
  pub named : (o : Own) (i : ℕ) → slice_get s.own i ≡ Some o → (x : ScopeFrom) × (slice_get s.cancelled_from o.at ≡ Some x)
      × (s.labels o.id ≡ Some x.label)
  pub kept :
      (o : Own) (i : ℕ) → slice_get s.own i ≡ Some o →
      (st : Stack) × (l : Label) × (stack_of s.tree o.id ≡ Some st) × (s.labels o.id ≡ Some l) × (kept_from (s.events o.id) st ≡ f l)
  pub left :
      (i : ℕ) (x : ScopeFrom) → slice_get s.cancelled_from i ≡ Some x → IsPast i s.own →
      (x.seen ≡ f x.label) × ((key : ℕ) → s.labels key ≡ Some x.label → ⊥) × known x.label

-- Between its turns a task can run what it has left, and its scopes and nurseries are open: all that a turn requires of it,
-- except for the scopes of other tasks (`Fits`).
abbrev pub CanGoOn : Task → World → Type 0
CanGoOn task world =
    CanRun (buffer_of task.part) task.frames.items (home_scope task) task.own.items (length task.cancelled_from.items) world.scopes (label_at world) world.book
    (waits_of task.task_state)

-- The home of a task that was started by another, which has not ended: one of the other's nurseries, in which this task runs at
-- its place, as the child with this serial number.
pub record LivesIn (state : RunState) (at : ℕ → Started) (numbers : ℕ → Numbers) (s : ℕ) (home : Home) : Type 0 where
  pub parent : ℕ
  pub starter : Task
  pub lives : state.task parent ≡ Some starter
  pub earlier : parent < s
  pub owned : HasNurseryOf home.nursery (blocks_of starter.frames.items) (waits_of starter.task_state)
  pub runs : HasNursery state.world.book home.nursery (λ n. (n.scope ≡ home.scope) × (slice_get n.children home.index ≡ Some None))
  pub number : ℕ
  pub stands : slice_get (numbers parent home.nursery) home.index ≡ Some number
  pub below : number < (at parent).count
  pub serial : (at parent).child number ≡ s

-- only the root, which is the first task, has none
abbrev pub HasHome : RunState → (ℕ → Started) → (ℕ → Numbers) → ℕ → Option Home → Type 0
HasHome state at numbers s None = s ≡ 0
HasHome state at numbers s (Some home) = LivesIn state at numbers s home

-- a member of a nursery at an index: while it runs it is a task with that home, and afterwards one that has ended so, by this
-- moment
abbrev pub IsMember : RunState → (ℕ → Started) → ℕ → ℕ → ℕ → ℕ → Option End → Type 0
IsMember state at last id index serial None = ⊥
IsMember state at last id index serial (Some None) = (c : Task) × (state.task serial ≡ Some c) × (home_of c ≡ Some (id, index))
IsMember state at last id index serial (Some (Some exc)) =
    (g : EndedTask) × (end : ℕ) × (state.ended_task serial ≡ Some g) × (end ≤ last) × ((at serial).rest.stopped ≡ rest.at_end end exc)

-- Each nursery of a task has as many children as it has numbers there, and each is the task with its serial number. The moment in which
-- a member ended last is not later than this one.
pub record HasMembers (state : RunState) (at : ℕ → Started) (t : ℕ) (numbers : Numbers) (q : Started) (id : ℕ) (n : Nursery) : Type 0 where
  pub long : length (numbers id) ≡ length n.children
  pub last : n.last ≤ t
  pub members :
      (index number : ℕ) → slice_get (numbers id) index ≡ Some number →
      (number < q.count) × IsMember state at n.last id index (q.child number) (slice_get n.children index)

-- Where a task is in time since it stopped: one that has not begun begins in its moment; and for one that asked, what it has cancelled
-- itself in this moment counts on.
abbrev pub IsSince : ℕ → List Label → TaskState → Now → Type 0
IsSince t cancelled (ToBegin at) stop = stop ≡ only_at at
IsSince t cancelled (Asked kernel purpose) stop = (stop.at ≤ t) × (stop.own ≡ cancelled)
IsSince t cancelled task_state stop = Unit {0}

-- a child of a nursery of this task ended in this moment
pub record SomeEnded (at : ℕ → Started) (numbers : Numbers) (q : Started) (id last : ℕ) : Type 0 where
  pub index : ℕ
  pub number : ℕ
  pub is : slice_get (numbers id) index ≡ Some number
  pub exc : Option Exc
  pub ended : (at (q.child number)).rest.stopped ≡ rest.at_end last exc

-- Of the nursery that a task waits for, the body did not end after the moment in which a member ended last, and either the body or a
-- child ended in that moment.
abbrev pub LastEnds : (ℕ → Started) → Numbers → Started → NurseryBook → TaskState → Type 0
LastEnds at numbers q book (Awaits id since) =
    HasNursery book id (λ n. (since ≤ n.last) × ((since ≡ n.last) ⊎ SomeEnded at numbers q id n.last))
LastEnds at numbers q book task_state = Unit {0}

-- A task that has not ended, or whose end is not recorded yet, and its relation to the task of the definitions with its serial
-- number.
pub record Follows (state : RunState) (f : Table) (input : List ℕ) (t : ℕ) (at : ℕ → Started) (numbers : ℕ → Numbers) (leaving : Option ℕ)
    (s : ℕ) (task : Task) : Type 0
  where
    pub here : here_of state.world.clock task ≡ (at s).here
    pub since : IsSince t task.cancelled.items task.task_state (at s).stop
    pub last : LastEnds at (numbers s) (at s) state.world.book task.task_state
    pub input_is : (at s).here.input ≡ input
    pub lives : (leaving ≡ Some s → ⊥) → live (at s).rest.stopped ≡ true
    pub frames : frames_of (numbers s) task.frames.items ≡ (at s).rest.frames
    pub stands : Stands (state_of task state.world) f (numbers s) (Some (at s).rest.stopped) (at s).places
    pub task_state : IsTaskState (numbers s) state.world.book task.task_state (at s).rest.stopped
    pub in_range : IsInRangeTaskState task.task_state
    pub goes : CanGoOn task state.world
    pub notes : Notes state.world.clock input (at s).made task.entries.items
    pub tracks : Tracks (λ l. (p : ℕ) × IsAmong l (entered_made (at p).made)) f (scoping_of task state.world) (entered_made (at s).made)
    pub home : HasHome state at numbers s task.home
    pub nurseries :
        (id : ℕ) → HasNurseryOf id (blocks_of task.frames.items) (waits_of task.task_state) →
        HasNursery state.world.book id (λ n. HasMembers state at t (numbers s) (at s) id n)

-- one that has ended
pub record HasEnded (clock : Clock) (f : Table) (input : List ℕ) (t : ℕ) (q : Started) (g : EndedTask) : Type 0 where
  pub label : g.label ≡ q.here.task
  pub end : ℕ
  pub stopped : q.rest.stopped ≡ rest.at_end end g.exc
  pub tick : g.end ≡ tick_of clock end
  pub before : end ≤ t
  pub notes : Notes clock input q.made g.entries
  pub cancelled_from : map from_of g.cancelled_from ≡ cancelled_from_by f (entered_made q.made)

-- ---- all tasks

-- each child that was started has the label of its starter's event, and its tick as its start
abbrev pub AreStarted : Clock → (ℕ → ℕ) → (ℕ → Started) → (ℕ → ℕ) → List rest.Event → Type 0
AreStarted clock start at child [] = Unit {0}
AreStarted clock start at child (rest.noted t e ∷ es) = AreStarted clock start at child es
AreStarted clock start at child (rest.signs l t ∷ es) = AreStarted clock start at child es
AreStarted clock start at child (rest.enters l t d ∷ es) = AreStarted clock start at child es
AreStarted clock start at child (rest.acts l t a ∷ es) = AreStarted clock start at child es
AreStarted clock start at child (rest.starts i l t ∷ es) =
    ((at (child i)).here.task ≡ l) × (start (child i) ≡ tick_of clock t) × AreStarted clock start at child es

-- a scope that a task opened and did not leave
pub record OpenedBy (state : RunState) (key s : ℕ) : Type 0 where
  pub task : Task
  pub lives : state.task s ≡ Some task
  pub index : ℕ
  pub scope : Own
  pub own : slice_get task.own.items index ≡ Some scope
  pub is : scope.id ≡ key

-- What is granted to a task in a moment, by what these tasks did, in the order of records: nothing, if it is in no queue, or has asked in
-- this moment.
abbrev pub GrantedAt : RunState → List Started → ℕ → Started → rest.Stopped → Type 0
GrantedAt state taken s q (rest.queued object ask since body) =
    (since < state.through → (l : Label) → label_among true object q.places ≡ Some l →
    granted_before (suc state.through) (granted_so_far taken l q.here.task since)
    ≡ option_map (λ (w : What). record { at = state.through; what = w }) (state.granted s))
    × (state.through ≤ since → state.granted s ≡ None)
GrantedAt state taken s q _ = state.granted s ≡ None

-- Limiters and channels of the code, without those who wait no more, are those of the definitions after what was done to them before a moment, in the order of records; what
-- was done since is kept for each task; and what they grant in that moment is known.
pub record Shares (state : RunState) (tasks : List Started) (at : ℕ → Started) (m : ℕ) : Type 0 where
  pub round : (s : ℕ) → s < m → (l : Label) →
      done_from state.through (acts_of l (at s)) ≡ done_by s l state.world.tick (at s).here.task state.round
  pub served : (taken : List Started) → InOrder tasks (0 ∷ []) taken → (l : Label) →
      SameObject at state.through (option_map (object_in (waits_in state.task)) (state.object l)) (object_after unopened (by_moment (done_before state.through (acts_of_all l taken))))
  pub granted : (taken : List Started) → InOrder tasks (0 ∷ []) taken → (s : ℕ) → s < m → GrantedAt state taken s (at s) (at s).rest.stopped
  pub ungranted : (s : ℕ) → m ≤ s → state.granted s ≡ None
  -- all that was granted up to that moment
  pub grants : (taken : List Started) → InOrder tasks (0 ∷ []) taken → (object asker : Label) (u : ℕ) →
      state.grants object asker u ≡ granted_before (suc state.through) (granted_so_far taken object asker u)
  -- only tasks of the run did something since
  pub known : (a : RoundAct) → IsAmong a state.round → a.serial < m
  -- who is in a queue asked before that moment
  pub asked : (l : Label) → AreAskedBefore state.through (state.object l)
  -- and a task does not ask twice in one moment
  pub once : (s : ℕ) → s < m → AsksBefore (asked_at state.world.tick (at s).rest.stopped) (at s).made

-- The tasks of the program are a run of the definitions in this moment with m tasks, where a table is followed. One task may have
-- ended whose end is not recorded yet.
pub record Refines (k : Tables) (job : Job) (input : List ℕ) (t m : ℕ) (leaving : Option ℕ) (state : RunState) : Type 0 where
  pub interleaving : Interleaving k job input t m
  pub numbers : ℕ → Numbers
  pub counted : turns_taken interleaving.reached ≡ state.turns
  pub clock : state.world.clock ≡ clock_of job.format
  pub tick : state.world.tick ≡ t
  pub in_range : IsInRange job
  pub small : length input ≤ MAX_INPUT
  pub some : 0 < m
  pub begun : state.start 0 ≡ 0
  -- each task has ended, or has not
  pub unborn : (s : ℕ) → m ≤ s → (state.task s ≡ None) × (state.ended_task s ≡ None)
  pub ended : (s : ℕ) → s < m → state.task s ≡ None → (g : EndedTask) × (state.ended_task s ≡ Some g) × HasEnded state.world.clock interleaving.cancelled_from
      input t (interleaving.at s) g
  pub follows : (s : ℕ) (task : Task) → state.task s ≡ Some task → Follows state interleaving.cancelled_from input t interleaving.at numbers leaving s task
  -- each open scope belongs to exactly one task; it has a label, and no other scope has the same one
  pub owned : (key : ℕ) → IsOpen state.world.scopes key → (s : ℕ) × OpenedBy state key s
  pub apart : (key s u : ℕ) → OpenedBy state key s → OpenedBy state key u → s ≡ u
  pub labelled : (key : ℕ) (l : Label) → label_at state.world key ≡ Some l → IsOpen state.world.scopes key
  -- each event is an open scope
  pub opened : (key : ℕ) (set : Tick) → event_at state.world key ≡ Some set → IsOpen state.world.scopes key
  -- and is set from the next moment on at the latest, if it is
  pub soon : (key from : ℕ) → event_at state.world key ≡ Some (Some from) → from ≤ suc t
  pub started : (s : ℕ) → s < m → AreStarted state.world.clock state.start interleaving.at (interleaving.at s).child
      (interleaving.at s).made
  pub children : (s : ℕ) → s < m → state.children s ≡ children_made (interleaving.at s).child (interleaving.at s).made
  -- limiters and channels have served what was done before this moment, or in it too
  pub through : (state.through ≡ t) ⊎ (state.through ≡ suc t)
  pub path_of_root : state.path 0 ≡ 0 ∷ []
  pub path_of_child : (s c : ℕ) → s < m → IsAmong c (state.children s) → state.path c ≡ state.path s ++ c ∷ []
  pub shares : Shares state interleaving.tasks interleaving.at m
