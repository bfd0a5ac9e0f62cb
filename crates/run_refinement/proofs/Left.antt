-- A task leaves: its end is recorded in its nursery, and what is left of it is kept. All others continue unchanged.
use Rattle.std.proofs.lemmas.Bool.{eqb-true, eq-eqb}
use Rattle.std.proofs.Common.{◌≡◌, ◌≢◌, ◌⊎◌, inl, inr, ◌==◌, Bool, true, false, ℕ, suc, ◌<◌, ◌≤◌, Option, Some, None, List, [], ◌∷◌, map, length, refl, ap, sym, ◌∙◌, subst, arith, ◌++◌}
use Rattle.std.specs.Prelude.{IsSome, slice_get, slice_set}
use Rattle.std.specs.Option.{option_map}
use Rattle.std.proofs.lemmas.List.Elements.{All-nil}
use Rattle.turn_semantics.specs.Lists.{IsAmong}
use Rattle.cancel_scopes.specs.Tree.{IsOpen}
use Rattle.exceptions.specs.Exceptions.{Label, Exc}
use Rattle.job_tree.specs.Tree.{Tree as Job}
use Rattle.job_meaning.specs.Log.{Table}
use Rattle.job_meaning.specs.Meaning.{From, cancelled_from_by}
use Rattle.job_meaning.specs.Moments.{tick_of}
use Rattle.job_meaning.specs.declared.clock.Clock.{Clock}
use Rattle.job_meaning.specs.Rest as rest
use Rattle.nursery_book.specs.Nursery.{End, Nursery, with_child}
use Rattle.nursery_book.specs.Book.{nursery_at, HasNursery}
use Rattle.nursery_book.specs.declared.book.NurseryBook.{NurseryBook}
use Rattle.task_machine.specs.States.{state_of}
use Rattle.task_machine.specs.declared.entry.ScopeFrom.{ScopeFrom}
use Rattle.task_machine.specs.Noted.{from_of}
use Rattle.turn_semantics.specs.Midway.{Tables, Place}
use Rattle.turn_semantics.specs.Placed.{PlacedStop}
use Rattle.task_machine.specs.declared.stop.TaskState.{TaskState}
use Rattle.task_machine.specs.declared.stop.TaskState.TheVariants.{ToBegin, Asked, Asleep, Waiting, GivingUp, Awaits, Over, Queued}
use Rattle.task_machine.specs.declared.task.Home.{Home}
use Rattle.task_machine.specs.declared.task.Own.{Own}
use Rattle.task_machine.specs.declared.task.Task.{Task}
use Rattle.task_machine.specs.declared.world.World.{World}
use Rattle.task_machine.specs.Acts.{scoping_of}
use Rattle.task_machine.specs.Fitting.{Block, a_scope, a_nursery, blocks_of, IsMine, Opened, waits_of}
use Rattle.task_machine.specs.Frames.{frames_of}
use Rattle.task_machine.specs.Labels.{Labels}
use Rattle.task_machine.specs.Standing.{here_of, HasNurseryOf, Stands}
use Rattle.task_machine.specs.Stops.{Numbers, IsTaskState}
use Rattle.task_machine.specs.Tasks.{home_of}
use Rattle.task_machine.specs.Worlds.{label_at, event_at}
use Rattle.task_machine.proofs.Stopping.{no_blocks}
use Rattle.interleavings.specs.Interleaving.{Started}
use Rattle.interleavings.specs.Rows.{entered_made}
use Rattle.run_refinement.specs.RunState.{RunState, EndedTask, IsPast, Notes, Tracks, CanGoOn, LivesIn, HasHome, IsMember, HasMembers, SomeEnded, LastEnds, Follows, HasEnded, AreStarted, OpenedBy, Refines}
use Rattle.run_refinement.specs.Leaving.{Leaving}
use Rattle.run_refinement.proofs.Recorded.{same_owner, AllLike, Recorded, stays, tells, recorded, set_long, set_at, set_else, all_like, carry}
use Rattle.run_refinement.proofs.LabelsApart.{below_of}
use Rattle.run_refinement.proofs.Found.{finds, gives, puts}
use Rattle.run_refinement.proofs.SharesKept.{shares_kept}
use Rattle.run_refinement.specs.Sharing.{waits_in, waits_by, is_queued}
use Rattle.objects.specs.declared.ticket.Ticket.{Ticket}
use Rattle.run_refinement.proofs.ActsKeep.{same_or}

-- ---- what stays of a task

opened_kept : (labels : Labels) (old new : NurseryBook) (bs : List Block) (own : List Own) (waits : Option ℕ) → AllLike old new →
    Opened labels old bs own waits → Opened labels new bs own waits
opened_kept labels old new [] [] None like h = h
opened_kept labels old new [] [] (Some key) like h = absurd h
opened_kept labels old new [] (o ∷ own) None like h = absurd h
opened_kept labels old new [] (o ∷ own) (Some key) like h = (
  h.0,
  carry old new key (λ n. IsMine labels o n × IsSome n.body) (λ n. IsMine labels o n × IsSome n.body) like
      (λ n m l i. (
        record { scope = l.scope ∙ i.0.scope; label = i.0.label ∙ ap (λ (x : Label). Some x) (sym l.label) },
        subst IsSome (sym l.body) i.1,
      )) h.1,
)
opened_kept labels old new (b ∷ bs) [] waits like h = absurd h
opened_kept labels old new (a_scope ∷ bs) (o ∷ own) waits like h = (h.0, h.1, opened_kept labels old new bs own waits like h.2)
opened_kept labels old new (a_nursery key ∷ bs) (o ∷ own) waits like h = (
  carry old new key (λ n. IsMine labels o n × (n.body ≡ None)) (λ n. IsMine labels o n × (n.body ≡ None)) like
      (λ n m l i. (record { scope = l.scope ∙ i.0.scope; label = i.0.label ∙ ap (λ (x : Label). Some x) (sym l.label) }, l.body ∙ i.1)) h.0,
  h.1,
  opened_kept labels old new bs own waits like h.2,
)

task_state_kept : (numbers : Numbers) (old new : NurseryBook) (task_state : TaskState) (stopped : rest.Stopped) → AllLike old new →
    IsTaskState numbers old task_state stopped → IsTaskState numbers new task_state stopped
task_state_kept numbers old new (ToBegin at) rest.to_begin like h = h
task_state_kept numbers old new (Asked kernel purpose) (rest.asking k p) like h = h
task_state_kept numbers old new (Asleep paced ticks since) (rest.asleep p n u) like h = h
task_state_kept numbers old new (Waiting event since) (rest.waiting_for name u) like h = h
task_state_kept numbers old new (Queued object ask since body) (rest.queued name a u steps) like h = h
task_state_kept numbers old new (GivingUp since) (rest.giving_up u) like h = h
task_state_kept numbers old new (Awaits id since) (rest.awaiting children u exc) like h =
    (h.0, h.1, carry old new id (λ n. n.body ≡ Some exc) (λ n. n.body ≡ Some exc) like (λ n m l e. l.body ∙ e) h.2)
task_state_kept numbers old new Over (rest.at_end u e) like h = h
task_state_kept numbers old new _ _ like h = absurd h

-- The state of a task, and how it continues, in a world with another book.
stands_kept : (task : Task) (w : World) (book : NurseryBook) (f : Table) (numbers : Numbers) (stopped : rest.Stopped) (ps : List Place) →
    AllLike w.book book →
    Stands (state_of task w) f numbers (Some stopped) ps →
    Stands (state_of task (record w { book = book })) f numbers (Some stopped) ps
stands_kept task w book f numbers stopped ps like h =
    record {
      places = h.places;
      numbered =
          λ id i. carry w.book book id (λ n. length (numbers id) ≡ length n.children) (λ n. length (numbers id) ≡ length n.children) like
          (λ n m l e. e ∙ sym l.long)
          (h.numbered id i);
      placed = h.placed;
      new = h.new;
      stop = h.stop;
      own = h.own;
      event = h.event;
    }

goes_kept : (task : Task) (w : World) (book : NurseryBook) → AllLike w.book book → CanGoOn task w → CanGoOn task (record w { book = book })
goes_kept task w book like h =
    record {
      in_range = h.in_range;
      lent = h.lent;
      starts = h.starts;
      home = h.home;
      scope = h.scope;
      first = h.first;
      cancelled_from = h.cancelled_from;
      opened = opened_kept (label_at w) w.book book (blocks_of task.frames.items) task.own.items (waits_of task.task_state) like h.opened;
    }

-- ---- the task that left

-- it has no frame and waits for nothing
pub ended_blocks : (task : Task) (numbers : Numbers) (ps : List Place) (stopped : rest.Stopped) (u : ℕ) (e : Option Exc) →
    PlacedStop stopped (frames_of numbers task.frames.items) ps →
    stopped ≡ rest.at_end u e → blocks_of task.frames.items ≡ []
ended_blocks task numbers ps stopped u e placed ends =
    no_blocks numbers task.frames.items (subst (λ (x : rest.Stopped). PlacedStop x (frames_of numbers task.frames.items) ps) ends placed)

-- a task that has ended waits for no nursery
pub over_task_state : (numbers : Numbers) (book : NurseryBook) (task_state : TaskState) (u : ℕ) (e : Option Exc) →
    IsTaskState numbers book task_state (rest.at_end u e) → waits_of task_state ≡ None
over_task_state numbers book (ToBegin at) u e h = absurd h
over_task_state numbers book (Asked kernel purpose) u e h = absurd h
over_task_state numbers book (Asleep paced ticks since) u e h = absurd h
over_task_state numbers book (Waiting event since) u e h = absurd h
over_task_state numbers book (Queued object ask since body) u e h = absurd h
over_task_state numbers book (GivingUp since) u e h = absurd h
over_task_state numbers book (Awaits id since) u e h = absurd h
over_task_state numbers book Over u e h = refl

-- and is in no queue
no_queue : (numbers : Numbers) (book : NurseryBook) (task_state : TaskState) (u : ℕ) (e : Option Exc) (since : ℕ) →
    IsTaskState numbers book task_state (rest.at_end u e) → is_queued task_state since ≡ false
no_queue numbers book (Queued object ask v body) u e since h = absurd h
no_queue numbers book (ToBegin at) u e since h = refl
no_queue numbers book (Asked kernel purpose) u e since h = refl
no_queue numbers book (Asleep paced ticks v) u e since h = refl
no_queue numbers book (Waiting event v) u e since h = refl
no_queue numbers book (GivingUp v) u e since h = refl
no_queue numbers book (Awaits id v) u e since h = refl
no_queue numbers book Over u e since h = refl

none_opened : (labels : Labels) (book : NurseryBook) (own : List Own) → Opened labels book [] own None → own ≡ []
none_opened labels book [] h = refl
none_opened labels book (o ∷ own) h = absurd h

-- all its moments of cancellation are past ones
past_cancelled_from : (f : Table) (cancelled_from : List ScopeFrom) → ((i : ℕ) (x : ScopeFrom) → slice_get cancelled_from i ≡ Some x → x.seen ≡ f x.label) →
    map from_of cancelled_from ≡ cancelled_from_by f (map (λ (x : ScopeFrom). x.label) cancelled_from)
past_cancelled_from f [] h = refl
past_cancelled_from f (x ∷ cancelled_from) h =
    ap (λ (d : Option ℕ). record { label = x.label; seen = d } ∷ map from_of cancelled_from) (h 0 x refl)
    ∙ ap (λ (fs : List From). record { label = x.label; seen = f x.label } ∷ fs) (past_cancelled_from f cancelled_from (λ i y e. h (suc i) y e))

started_kept : (clock : Clock) (old new : ℕ → ℕ) (at : ℕ → Started) (child : ℕ → ℕ) (es : List rest.Event) →
    ((p : ℕ) → new p ≡ old p) → AreStarted clock old at child es → AreStarted clock new at child es
started_kept clock old new at child [] same h = tt
started_kept clock old new at child (rest.noted t e ∷ es) same h = started_kept clock old new at child es same h
started_kept clock old new at child (rest.acts shared t done ∷ es) same h = started_kept clock old new at child es same h
started_kept clock old new at child (rest.signs l t ∷ es) same h = started_kept clock old new at child es same h
started_kept clock old new at child (rest.enters l t d ∷ es) same h = started_kept clock old new at child es same h
started_kept clock old new at child (rest.starts i l t ∷ es) same h = (
  h.0,
  same (child i)
      ∙ h.1,
  started_kept clock old new at child es same h.2,
)

-- a home is a place of a nursery
home_parts : (h : Option Home) (id index : ℕ) → option_map {U = ℕ × ℕ} (λ (x : Home). (x.nursery, x.index)) h ≡ Some (id, index) →
    (y : Home) × (h ≡ Some y) × (y.nursery ≡ id) × (y.index ≡ index)
home_parts None id index e = absurd (let f : None ≡ Some (id, index) = e in cc)
home_parts (Some y) id index e =
    let f : Some (y.nursery, y.index) ≡ Some (id, index) = e in
    let g : (y.nursery, y.index) ≡ (id, index) = cc in
    (y, refl, ap (λ (z : ℕ × ℕ). z.0) g, ap (λ (z : ℕ × ℕ). z.1) g)

-- ---- the tasks without it

-- a task that has ended leaves, and its end is recorded in its home: then no task's end is left to record
pub state_left : (k : Tables) (job : Job) (input : List ℕ) (t m s : ℕ) (old new : RunState) (task : Task) (exc : Option Exc) →
    (c : Refines k job input t m (Some s) old) →
    Leaving t s old new (c.interleaving.at s) task exc → Refines k job input t m None new
state_left k job input t m s old new task exc c l =
    record {
      interleaving = c.interleaving;
      numbers = c.numbers;
      counted = c.counted ∙ sym l.turns;
      clock = clock ∙ c.clock;
      tick = ap (λ (w : World). w.tick) l.world ∙ c.tick;
      in_range = c.in_range;
      small = c.small;
      some = c.some;
      begun = l.start 0 ∙ c.begun;
      unborn = λ p le. let differs : p ≢ s = (λ e. absurd (omega (arith, e, le, less))) in
          ((l.others p differs).0 ∙ (c.unborn p le).0, (l.others p differs).1 ∙ (c.unborn p le).1);
      ended = λ p lt e. let g = ended_after p lt e in
          (g.0, g.1, subst (λ (x : Clock). HasEnded x f input t (c.interleaving.at p) g.0) (sym clock) g.2);
      follows = follows_after;
      owned = λ key o. let h = c.owned key (subst (λ (tree : _). IsOpen tree key) scopes o) in (h.0, opened_after key h.0 h.1);
      apart = λ key p u a b. c.apart key p u (opened_before key p a) (opened_before key u b);
      labelled = λ key label e. subst (λ (tree : _). IsOpen tree key) (sym scopes)
          (c.labelled key label (ap (λ (w : World). label_at w key) (sym l.world) ∙ e));
      opened = λ key set e. subst (λ (tree : _). IsOpen tree key) (sym scopes)
          (c.opened key set (ap (λ (w : World). event_at w key) (sym l.world) ∙ e));
      soon = λ key from e. c.soon key from (ap (λ (w : World). event_at w key) (sym l.world) ∙ e);
      started = λ p lt.
          subst (λ (x : Clock). AreStarted x new.start c.interleaving.at (c.interleaving.at p).child (c.interleaving.at p).made) (sym clock)
          (started_kept old.world.clock old.start new.start c.interleaving.at (c.interleaving.at p).child (c.interleaving.at p).made l.start
          (c.started p lt));
      children = λ p lt. l.children p ∙ c.children p lt;
      through = subst (λ (v : ℕ). (v ≡ t) ⊎ (v ≡ suc t)) (sym l.objects.through) c.through;
      path_of_root = l.path 0 ∙ c.path_of_root;
      path_of_child = λ p child lt i. l.path child ∙ (c.path_of_child p child lt (subst (IsAmong child) (l.children p) i)
          ∙ ap (λ (ps : List ℕ). ps ++ child ∷ []) (sym (l.path p)));
      shares = shares_kept old new c.interleaving.tasks c.interleaving.at m same_waits (ap (λ (w : World). w.tick) l.world) l.objects c.shares;
    }
  where
    q : Started
    q = c.interleaving.at s

    f : Table
    f = c.interleaving.cancelled_from

    book : NurseryBook
    book = new.world.book

    less : s < m
    less = below_of c s task l.was

    it : Follows old f input t c.interleaving.at c.numbers (Some s) s task
    it = c.follows s task l.was

    clock : new.world.clock ≡ old.world.clock
    clock = ap (λ (w : World). w.clock) l.world

    scopes : new.world.scopes ≡ old.world.scopes
    scopes = ap (λ (w : World). w.scopes) l.world

    -- it had no nursery and no scope
    blocks : blocks_of task.frames.items ≡ []
    blocks = ended_blocks task (c.numbers s) q.places q.rest.stopped t exc it.stands.placed l.ended

    waits : waits_of task.task_state ≡ None
    waits = over_task_state (c.numbers s) old.world.book task.task_state t exc
        (subst (λ (x : rest.Stopped). IsTaskState (c.numbers s) old.world.book task.task_state x) l.ended it.task_state)

    own : task.own.items ≡ []
    own =
        none_opened (label_at old.world) old.world.book task.own.items
        (subst (λ (w : Option ℕ). Opened (label_at old.world) old.world.book [] task.own.items w) waits
        (subst (λ (bs : List Block). Opened (label_at old.world) old.world.book bs task.own.items (waits_of task.task_state)) blocks
        it.goes.opened))

    -- and is in no queue
    same_waits : (ticket : Ticket) → waits_in new.task ticket ≡ waits_in old.task ticket
    same_waits ticket = by_row (same_or ticket.row s)
      where
        by_row : (ticket.row ≡ s) ⊎ (ticket.row ≢ s) → waits_in new.task ticket ≡ waits_in old.task ticket
        by_row (inl e) =
            ap (λ (o : Option Task). waits_by o ticket.since) (ap new.task e ∙ l.left)
            ∙ (sym (no_queue (c.numbers s) old.world.book task.task_state t exc ticket.since
            (subst (λ (x : rest.Stopped). IsTaskState (c.numbers s) old.world.book task.task_state x) l.ended it.task_state))
            ∙ sym (ap (λ (o : Option Task). waits_by o ticket.since) (ap old.task e ∙ l.was)))
        by_row (inr differs) = ap (λ (o : Option Task). waits_by o ticket.since) (l.others ticket.row differs).0

    no_nursery : (id : ℕ) (x : Task) → old.task s ≡ Some x → HasNurseryOf id (blocks_of x.frames.items) (waits_of x.task_state) → ⊥
    no_nursery id x e h =
        by_either
        (subst (λ (w : Option ℕ). HasNurseryOf id [] w) waits
        (subst (λ (bs : List Block). HasNurseryOf id bs (waits_of task.task_state)) blocks
        (subst (λ (y : Task). HasNurseryOf id (blocks_of y.frames.items) (waits_of y.task_state)) is h)))
      where
        is : x ≡ task
        is = let g : Some x ≡ Some task = sym e ∙ l.was in cc

        by_either : HasNurseryOf id [] None → ⊥
        by_either (inl h) = h
        by_either (inr e) = absurd (let g : None ≡ Some id = e in cc)

    -- what is kept of it
    kept : EndedTask
    kept = record { label = task.label; end = tick_of old.world.clock t; exc = exc; entries = task.entries.items; cancelled_from = task.cancelled_from.items }

    is_kept : HasEnded old.world.clock f input t q kept
    is_kept =
        record {
          label = ap (λ (h : _). h.task) it.here;
          end = t;
          stopped = l.ended;
          tick = refl;
          before = omega arith;
          notes = it.notes;
          cancelled_from =
              past_cancelled_from f task.cancelled_from.items
              (λ i x e. (it.tracks.left i x e (subst (λ (os : List Own). IsPast i os) (sym own) (All-nil (λ (o : Own). o.at ≢ i)))).0)
              ∙ ap (cancelled_from_by f) it.tracks.labels;
        }

    -- the others are there as before
    there : (p : ℕ) (x : Task) → new.task p ≡ Some x → p ≢ s
    there p x e g = absurd (let h : None ≡ Some x = sym l.left ∙ ap new.task (sym g) ∙ e in cc)

    before : (p : ℕ) (x : Task) → new.task p ≡ Some x → old.task p ≡ Some x
    before p x e = sym (l.others p (there p x e)).0 ∙ e

    after : (p : ℕ) (x : Task) → p ≢ s → old.task p ≡ Some x → new.task p ≡ Some x
    after p x differs e = (l.others p differs).0 ∙ e

    opened_before : (key p : ℕ) → OpenedBy new key p → OpenedBy old key p
    opened_before key p o = record {
      task = o.task;
      lives = before p o.task o.lives;
      index = o.index;
      scope = o.scope;
      own = o.own;
      is =
          o.is;
    }

    opened_after : (key p : ℕ) → OpenedBy old key p → OpenedBy new key p
    opened_after key p o =
        record { task = o.task; lives = after p o.task differs o.lives; index = o.index; scope = o.scope; own = o.own; is = o.is }
      where
        differs : p ≢ s
        differs g =
            let e : Some o.task ≡ Some task = sym o.lives ∙ ap old.task g ∙ l.was in
            let is : o.task ≡ task = cc in
            let none : None ≡ Some o.scope = ap (λ (os : List Own). slice_get os o.index) (sym own)
            ∙ ap (λ (x : Task). slice_get x.own.items o.index) (sym is) ∙ o.own in
            absurd cc

    ended_after : (p : ℕ) → p < m → new.task p ≡ None → (g : EndedTask) × (new.ended_task p ≡ Some g) × HasEnded old.world.clock f input t
        (c.interleaving.at p) g
    ended_after p lt e = by_same (p == s) refl
      where
        by_same : (b : Bool) → (p == s) ≡ b → (g : EndedTask) × (new.ended_task p ≡ Some g) × HasEnded old.world.clock f input t (c.interleaving.at p)
            g
        by_same true h =
            let is : p ≡ s = eqb-true p s h in (
              kept,
              ap new.ended_task is ∙ l.kept,
              subst (λ (n : ℕ). HasEnded old.world.clock f input t (c.interleaving.at n) kept) (sym is)
                  is_kept,
            )
        by_same false h =
            let differs : p ≢ s = λ g. absurd (let x : true ≡ false = sym (eq-eqb p s g) ∙ h in cc) in
            let g = c.ended p lt (sym (l.others p differs).0 ∙ e) in
            (g.0, (l.others p differs).1 ∙ g.1, g.2)

    like : AllLike old.world.book book
    like = all_like t old.world.book book task.home exc l.recorded

    -- the child with a number at the place where it was started
    at_place : (y : Home) → task.home ≡ Some y → (u : ℕ) (b : Task) → old.task u ≡ Some b → (id index number : ℕ) →
        HasNurseryOf id (blocks_of b.frames.items) (waits_of b.task_state) →
        slice_get (c.numbers u id) index ≡ Some number → y.nursery ≡ id → y.index ≡ index → (c.interleaving.at u).child number ≡ s
    at_place y e u b lives id index number owned stands is_nursery is_place =
        ap (λ (x : Started). x.child number) (ap c.interleaving.at (sym same)) ∙ ap (c.interleaving.at its.parent).child one ∙ its.serial
      where
        its : LivesIn old c.interleaving.at c.numbers s y
        its = subst (λ (h : Option Home). HasHome old c.interleaving.at c.numbers s h) e it.home

        same : its.parent ≡ u
        same =
            same_owner k job input t m (Some s) old c its.parent u its.starter b y.nursery its.lives lives its.owned
            (subst (λ (n : ℕ). HasNurseryOf n (blocks_of b.frames.items) (waits_of b.task_state)) (sym is_nursery) owned)

        both : Some number ≡ Some its.number
        both =
            sym stands ∙ ap (λ (n : ℕ). slice_get (c.numbers u id) n) (sym is_place)
            ∙ ap (λ (n : ℕ). slice_get (c.numbers u n) y.index) (sym is_nursery)
            ∙ ap (λ (n : ℕ). slice_get (c.numbers n y.nursery) y.index) (sym same) ∙ its.stands

        one : number ≡ its.number
        one = let e = both in cc

    -- the number of the task at its place in its home
    at_home : (y : Home) → task.home ≡ Some y → (u : ℕ) (b : Task) → old.task u ≡ Some b → (id : ℕ) →
        HasNurseryOf id (blocks_of b.frames.items) (waits_of b.task_state) → y.nursery ≡ id →
        (number : ℕ) × (slice_get (c.numbers u id) y.index ≡ Some number) × ((c.interleaving.at u).child number ≡ s)
    at_home y e u b lives id owned is_nursery = (
      its.number,
      ap (λ (n : ℕ). slice_get (c.numbers u n) y.index) (sym is_nursery)
          ∙ ap (λ (n : ℕ). slice_get (c.numbers n y.nursery) y.index) (sym same) ∙ its.stands,
      ap (λ (n : ℕ). (c.interleaving.at n).child its.number) (sym same) ∙ its.serial,
    )
      where
        its : LivesIn old c.interleaving.at c.numbers s y
        its = subst (λ (h : Option Home). HasHome old c.interleaving.at c.numbers s h) e it.home

        same : its.parent ≡ u
        same =
            same_owner k job input t m (Some s) old c its.parent u its.starter b y.nursery its.lives lives its.owned
            (subst (λ (n : ℕ). HasNurseryOf n (blocks_of b.frames.items) (waits_of b.task_state)) (sym is_nursery) owned)

    member_kept : (last later id index serial : ℕ) (end : Option End) → last ≤ later → (home_of task ≡ Some (id, index) → ⊥) →
        IsMember old c.interleaving.at last id index serial end → IsMember new c.interleaving.at later id index serial end
    member_kept last later id index serial None le other h = absurd h
    member_kept last later id index serial (Some None) le other h = (h.0, after serial h.0 differs h.1, h.2)
      where
        differs : serial ≢ s
        differs g =
            let e : Some h.0 ≡ Some task = sym h.1 ∙ ap old.task g ∙ l.was in
            let is : h.0 ≡ task = cc in
            other (ap home_of (sym is) ∙ h.2)
    member_kept last later id index serial (Some (Some x)) le other h = by_same (serial == s) refl
      where
        by_same : (b : Bool) → (serial == s) ≡ b → IsMember new c.interleaving.at later id index serial (Some (Some x))
        by_same true e =
            let is : serial ≡ s = eqb-true serial s e in
            let ends : rest.at_end h.1 x ≡ rest.at_end t exc = sym h.4 ∙ ap (λ (n : ℕ). (c.interleaving.at n).rest.stopped) is ∙ l.ended in
            let same : x ≡ exc = cc in
            let now : h.1 ≡ t = cc in
            let before : h.1 ≤ last = h.3 in (
              kept,
              t,
              ap new.ended_task is ∙ l.kept,
              omega (arith, now, before, le),
              ap (λ (n : ℕ). (c.interleaving.at n).rest.stopped) is ∙ l.ended
                  ∙ ap (λ (y : Option Exc). rest.at_end t y) (sym same),
            )
        by_same false e =
            let differs : serial ≢ s = λ g. absurd (let z : true ≡ false = sym (eq-eqb serial s g) ∙ e in cc) in
            (h.0, h.1, (l.others serial differs).1 ∙ h.2, (let a = h.3 in omega (arith, a, le)), h.4)

    follows_after : (p : ℕ) (x : Task) → new.task p ≡ Some x → Follows new f input t c.interleaving.at c.numbers None p x
    follows_after p x e =
        record {
          here = ap (λ (z : Clock). here_of z x) clock ∙ g.here;
          since = g.since;
          last = last_after x.task_state refl g.last;
          input_is = g.input_is;
          lives = λ no. g.lives (λ z. let w : s ≡ p = cc in there p x e (sym w));
          frames = g.frames;
          stands =
              subst (λ (w : World). Stands (state_of x w) f (c.numbers p) (Some r.rest.stopped) r.places) (sym l.world)
              (stands_kept x old.world book f (c.numbers p) r.rest.stopped r.places like g.stands);
          task_state = task_state_kept (c.numbers p) old.world.book book x.task_state r.rest.stopped like g.task_state;
          in_range = g.in_range;
          goes = subst (CanGoOn x) (sym l.world) (goes_kept x old.world book like g.goes);
          notes = subst (λ (z : Clock). Notes z input r.made x.entries.items) (sym clock) g.notes;
          tracks = subst (λ (w : World). Tracks (λ l. (u : ℕ) × IsAmong l (entered_made (c.interleaving.at u).made)) f (scoping_of x w)
              (entered_made r.made)) (sym l.world) g.tracks;
          home = by_home x.home g.home;
          nurseries = nurseries;
        }
      where
        r : Started
        r = c.interleaving.at p

        lives : old.task p ≡ Some x
        lives = before p x e

        g : Follows old f input t c.interleaving.at c.numbers (Some s) p x
        g = c.follows p x lives

        by_home : (h : Option Home) → HasHome old c.interleaving.at c.numbers p h → HasHome new c.interleaving.at c.numbers p h
        by_home None h = h
        by_home (Some home) h =
            record {
              parent = h.parent;
              starter = h.starter;
              lives = after h.parent h.starter (λ z. no_nursery home.nursery h.starter (ap old.task (sym z) ∙ h.lives) h.owned) h.lives;
              earlier = h.earlier;
              owned = h.owned;
              runs = by_recorded task.home refl (recorded t old.world.book book task.home exc l.recorded home.nursery n.0 n.1);
              number = h.number;
              stands = h.stands;
              below = h.below;
              serial = h.serial;
            }
          where
            Runs : Nursery → Type 0
            Runs n = (n.scope ≡ home.scope) × (slice_get n.children home.index ≡ Some None)

            n : (n : Nursery) × (nursery_at old.world.book home.nursery ≡ Some n) × Runs n
            n = finds old.world.book home.nursery Runs h.runs

            by_recorded : (y : Option Home) → task.home ≡ y → Recorded t book exc home.nursery n.0 y → HasNursery book home.nursery Runs
            by_recorded _ is (stays y z w) = puts book home.nursery n.0 Runs z n.2
            by_recorded _ is (tells y z w) =
                puts book home.nursery (with_child y.index exc t n.0) Runs w (
                  n.2.0,
                  set_else n.0.children y.index home.index (Some exc)
                      (λ v. there p x e (sym h.serial ∙ at_place y is h.parent h.starter h.lives home.nursery home.index h.number h.owned
                      h.stands z v)) ∙ n.2.1,
                )

        -- if it waits, the last member of its nursery ended when the book says so
        last_after : (task_state : TaskState) → x.task_state ≡ task_state →
            LastEnds c.interleaving.at (c.numbers p) r old.world.book task_state → LastEnds c.interleaving.at (c.numbers p) r book
            task_state
        last_after (Awaits id since) is h = by_recorded task.home refl (recorded t old.world.book book task.home exc l.recorded id n.0 n.1)
          where
            Last : Nursery → Type 0
            Last n = (since ≤ n.last) × ((since ≡ n.last) ⊎ SomeEnded c.interleaving.at (c.numbers p) r id n.last)

            n : (n : Nursery) × (nursery_at old.world.book id ≡ Some n) × Last n
            n = finds old.world.book id Last h

            has : HasNurseryOf id (blocks_of x.frames.items) (waits_of x.task_state)
            has = inr (ap waits_of is)

            by_recorded : (y : Option Home) → task.home ≡ y → Recorded t book exc id n.0 y → HasNursery book id Last
            by_recorded _ home (stays y z w) = puts book id n.0 Last z n.2
            by_recorded _ home (tells y z w) =
                let before : n.0.last ≤ t =
                (gives old.world.book id n.0 (λ n. HasMembers old c.interleaving.at t (c.numbers p) r id n) n.1 (g.nurseries id has)).last
                in
                let slept : since ≤ n.0.last = n.2.0 in
                let number = at_home y home p x lives id has z in
                puts book id (with_child y.index exc t n.0) Last w (
                  omega (arith, before, slept),
                  inr (record {
                    index = y.index;
                    number = number.0;
                    is = number.1;
                    exc = exc;
                    ended = ap (λ (a : ℕ). (c.interleaving.at a).rest.stopped) number.2 ∙ l.ended;
                  }),
                )
        last_after (ToBegin at) is h = tt
        last_after (Asked kernel purpose) is h = tt
        last_after (Asleep paced ticks since) is h = tt
        last_after (Waiting event since) is h = tt
        last_after (Queued object ask since body) is h = tt
        last_after (GivingUp since) is h = tt
        last_after Over is h = tt

        nurseries : (id : ℕ) → HasNurseryOf id (blocks_of x.frames.items) (waits_of x.task_state) →
            HasNursery book id (λ n. HasMembers new c.interleaving.at t (c.numbers p) r id n)
        nurseries id h = by_recorded task.home refl (recorded t old.world.book book task.home exc l.recorded id n.0 n.1)
          where
            Members : RunState → Nursery → Type 0
            Members state n = HasMembers state c.interleaving.at t (c.numbers p) r id n

            n : (n : Nursery) × (nursery_at old.world.book id ≡ Some n) × Members old n
            n = finds old.world.book id (Members old) (g.nurseries id h)

            by_recorded : (y : Option Home) → task.home ≡ y → Recorded t book exc id n.0 y → HasNursery book id (Members new)
            by_recorded _ is (stays y z w) =
                puts book id n.0 (Members new) z
                (record {
                  long = n.2.long;
                  last = n.2.last;
                  members =
                      λ index number stands. let m = n.2.members index number stands in (
                        m.0,
                        member_kept n.0.last n.0.last id index (r.child number) (slice_get n.0.children index) (omega arith)
                            (λ v. let a = home_parts task.home id index v in w a.0 (sym is ∙ a.1) a.2) m.1,
                      );
                })
            by_recorded _ is (tells y z w) =
                puts book id (with_child y.index exc t n.0) (Members new) w
                (record {
                  last = omega arith;
                  long = n.2.long ∙ sym (set_long n.0.children y.index (Some exc));
                  members = λ index number stands. let m = n.2.members index number stands in
                      (m.0, by_place index number stands m.1 (y.index == index) refl);
                })
              where
                by_end : (index serial : ℕ) (end : Option End) → IsMember old c.interleaving.at n.0.last id index serial end →
                    (v : End) × (end ≡ Some v)
                by_end index serial None v = absurd v
                by_end index serial (Some v) a = (v, refl)

                by_place : (index number : ℕ) → slice_get (c.numbers p id) index ≡ Some number →
                    IsMember old c.interleaving.at n.0.last id index (r.child number) (slice_get n.0.children index) →
                    (b : Bool) → (y.index == index) ≡ b → IsMember new c.interleaving.at t id index (r.child number)
                    (slice_get (slice_set n.0.children y.index (Some exc)) index)
                by_place index number stands m true v =
                    let at : y.index ≡ index = eqb-true y.index index v in
                    let was = by_end index (r.child number) (slice_get n.0.children index) m in
                    let is_s : r.child number ≡ s = at_place y is p x lives id index number h stands z at in
                    let has_end : slice_get (slice_set n.0.children y.index (Some exc)) index ≡ Some (Some exc) =
                    ap (λ (a : ℕ). slice_get (slice_set n.0.children y.index (Some exc)) a) (sym at)
                    ∙ set_at n.0.children y.index (Some exc) was.0 (ap (λ (a : ℕ). slice_get n.0.children a) at ∙ was.1) in
                    subst (IsMember new c.interleaving.at t id index (r.child number)) (sym has_end)
                    (kept, t, ap new.ended_task is_s ∙ l.kept, omega arith, ap (λ (a : ℕ). (c.interleaving.at a).rest.stopped) is_s ∙ l.ended)
                by_place index number stands m false v =
                    let differs : y.index ≢ index = λ a. absurd (let b : true ≡ false = sym (eq-eqb y.index index a) ∙ v in cc) in
                    subst (IsMember new c.interleaving.at t id index (r.child number))
                    (sym (set_else n.0.children y.index index (Some exc) differs))
                    (member_kept n.0.last t id index (r.child number) (slice_get n.0.children index) n.2.last
                    (λ a. let h = home_parts task.home id index a in let same : Some h.0 ≡ Some y = sym h.1 ∙ is in let one : h.0 ≡ y =
                    cc in
                    differs (ap (λ (z : Home). z.index) (sym one) ∙ h.3)) m)
