-- What stays the same for other tasks when one has its turn or leaves: a task that may continue may still do so, and
-- each home has its owner.
use Rattle.task_machine.specs.Frames.{Lent}
use Rattle.std.proofs.Common.{◌≡◌, ◌≢◌, ◌⊎◌, inl, inr, true, false, ℕ, zero, suc, ◌+◌, ◌-◌, ◌<◌, ◌≤◌, min, Option, Some, None, List, [], ◌∷◌, length, refl, ap, sym, ◌∙◌, subst, arith}
use Rattle.std.proofs.lemmas.Bool.{cases_lt}
use Rattle.std.specs.Prelude.{is_some, slice_get}
use Rattle.std.specs.List.{list_all}
use Rattle.turn_semantics.specs.Lists.{IsAmong}
use Rattle.exceptions.specs.Exceptions.{Exc}
use Rattle.cancel_scopes.specs.Sight.{seen}
use Rattle.cancel_scopes.specs.Tree.{outer_of}
use Rattle.nursery_book.specs.Nursery.{End, Nursery, is_settled}
use Rattle.nursery_book.specs.Book.{nursery_at, HasNursery}
use Rattle.nursery_book.specs.declared.book.NurseryBook.{NurseryBook}
use Rattle.job_tree.specs.Tree.{Tree as Job}
use Rattle.job_tree.specs.Names.{GivesNamesOnce}
use Rattle.job_tree.specs.Starting.{StartsInNurseries}
use Rattle.job_meaning.specs.Log.{Table}
use Rattle.job_meaning.specs.Moments.{a_round_after, wakes_at}
use Rattle.job_meaning.specs.declared.clock.Clock.{Clock}
use Rattle.interleavings.specs.Laws.{IsSettledBy}
use Rattle.job_meaning.specs.Rest as rest
use Rattle.job_meaning.proofs.Clips.{seen_near}
use Rattle.turn_semantics.specs.Midway.{Tables, stack_at}
use Rattle.turn_semantics.specs.Turned.{AgreesOn}
use Rattle.task_machine.specs.declared.stop.TaskState.{TaskState}
use Rattle.task_machine.specs.declared.stop.TaskState.TheVariants.{ToBegin, Asked, Asleep, Waiting, GivingUp, Awaits, Over, Queued}
use Rattle.task_machine.specs.declared.stop.Stop.{Stop}
use Rattle.task_machine.specs.declared.stop.Wake.{Wake}
use Rattle.task_machine.specs.declared.stop.Wake.TheVariants.{Due, Seen, Settled, Granted}
use Rattle.task_machine.specs.declared.task.Home.{Home}
use Rattle.task_machine.specs.declared.task.Task.{Task}
use Rattle.task_machine.specs.declared.world.World.{World}
use Rattle.task_machine.specs.Fitting.{Block, blocks_of, waits_of}
use Rattle.task_machine.specs.Standing.{HasNurseryOf, IsBegun}
use Rattle.task_machine.specs.Events.{set_by}
use Rattle.task_machine.specs.Stacked.{AreAt}
use Rattle.task_machine.specs.Stops.{IsTaskState}
use Rattle.task_machine.specs.Tasks.{scope_of, lent_of}
use Rattle.task_machine.specs.Waking.{WakesFrom}
use Rattle.task_machine.specs.Worlds.{label_at, event_at}
use Rattle.task_machine.proofs.Stacked.{one_of, seen_at}
use Rattle.interleavings.specs.Interleaving.{Started, RunInvariant, AllFrom}
use Rattle.interleavings.specs.Going.{root_result}
use Rattle.interleavings.specs.Woken.{SeesNow, IsOver}
use Rattle.interleavings.proofs.Contract.{near_places}
use Rattle.interleavings.proofs.Waking.{sees_alike, over_alike}
use Rattle.interleavings.proofs.Running.{runs_keep_invariant}
use Rattle.run_refinement.specs.RunState.{RunState, LivesIn, HasHome, Follows, Refines}
use Rattle.run_refinement.specs.Leaving.{Leaving}
use Rattle.run_refinement.specs.Ready.{IsTimely, MayGo, Keeps, AreHomesOf}
use Rattle.run_refinement.specs.Turn.{numbers_then, leaving_by}
use Rattle.run_refinement.specs.Turning.{Turning}
use Rattle.run_refinement.proofs.ActsKeep.{not_both, same_or}
use Rattle.run_refinement.proofs.EventsStay.{set_alike, event_still}
use Rattle.run_refinement.proofs.StateTurn.{acted, nursery_same}
use Rattle.run_refinement.proofs.Left.{ended_blocks, over_task_state}
use Rattle.run_refinement.proofs.OtherHomes.{mover_owned}
use Rattle.run_refinement.proofs.OtherNurseries.{same_nursery}
use Rattle.run_refinement.proofs.Found.{below_length}
use Rattle.run_refinement.proofs.Parts.{begun_at}
use Rattle.run_refinement.proofs.Found.{finds, gives}
use Rattle.run_refinement.proofs.Going.{settled_children}
use Rattle.task_machine.proofs.Stopping.{settled_from}
use Rattle.run_refinement.proofs.Recorded.{same_owner, Recorded, stays, tells, recorded}
use Rattle.objects.specs.Whats.{What}
use Rattle.job_meaning.specs.Walk.{last_grant}

-- ---- a wake in another world

-- one that fits does so where what the task waits for is the same
fits_still : (task_state : TaskState) (part : Lent) (old new : NurseryBook) (wake : Wake) →
    ((id : ℕ) → waits_of task_state ≡ Some id → nursery_at new id ≡ nursery_at old id) → WakesFrom task_state part old wake →
    WakesFrom task_state part new wake
fits_still (Awaits id since) part old new Due same h = same_nursery (λ n. is_settled n ≡ true) old new id (same id refl) h
fits_still (Awaits id since) part old new Settled same h = same_nursery (λ n. is_settled n ≡ true) old new id (same id refl) h
fits_still _ part old new _ same h = h

-- a wait for an event ends in the same moment, as far as can be known by this one
abbrev pub SetsAlike : World → World → TaskState → Type 0
SetsAlike old new (Waiting key since) =
    min (suc old.tick) (set_by old.clock (event_at old key) since) ≡ min (suc old.tick) (set_by old.clock (event_at new key) since)
SetsAlike old new task_state = Unit {0}

-- and is timely where the same is seen in the same moment
timely_still : (old new : World) (what : Option What) (scope : Option ℕ) (task_state : TaskState) (wake : Wake) → new.clock ≡ old.clock → new.tick ≡ old.tick →
    seen (outer_of new.scopes scope) new.tick ≡ seen (outer_of old.scopes scope) old.tick →
    ((id : ℕ) → waits_of task_state ≡ Some id → nursery_at new.book id ≡ nursery_at old.book id) → SetsAlike old new task_state →
    IsTimely old what scope task_state wake → IsTimely new what scope task_state wake
timely_still old new what scope (ToBegin at) wake clock tick seeing same sets h = h ∙ sym tick
timely_still old new what scope (Asleep paced ticks since) Due clock tick seeing same sets h =
    (ap (λ (x : Clock). wakes_at x ticks since) clock ∙ h.0 ∙ sym tick, seeing ∙ h.1)
timely_still old new what scope (Asleep paced ticks since) Seen clock tick seeing same sets h =
    (subst (λ (v : ℕ). since < v) (sym tick) h.0, seeing ∙ h.1)
timely_still old new what scope (Waiting key since) Due clock tick seeing same sets h =
    subst (λ (x : Clock). IsOver x (set_by x (event_at new key) since) since new.tick (seen (outer_of new.scopes scope) new.tick)) (sym clock)
    (subst (λ (v : ℕ). IsOver old.clock (set_by old.clock (event_at new key) since) since v (seen (outer_of new.scopes scope) new.tick))
    (sym tick)
    (over_alike old.clock (set_by old.clock (event_at old key) since) (set_by old.clock (event_at new key) since) since old.tick
    (seen (outer_of old.scopes scope) old.tick) (seen (outer_of new.scopes scope) new.tick) sets seeing h))
timely_still old new what scope (Waiting key since) Seen clock tick seeing same sets h = (
  subst (λ (x : Clock). SeesNow x (set_by x (event_at new key) since) since new.tick) (sym clock)
      (subst (λ (v : ℕ). SeesNow old.clock (set_by old.clock (event_at new key) since) since v) (sym tick)
      (sees_alike old.clock (set_by old.clock (event_at old key) since) (set_by old.clock (event_at new key) since) since old.tick sets h.0)),
  seeing ∙ h.1,
)
timely_still old new what scope (Queued object ask since body) (Granted grant) clock tick seeing same sets h = h
timely_still old new what scope (Queued object ask since body) Seen clock tick seeing same sets h =
    (h.0, subst (λ (v : ℕ). since < v) (sym tick) h.1, seeing ∙ h.2)
timely_still old new what scope (Queued object ask since body) Due clock tick seeing same sets h = (
  h.0,
  subst (λ (v : ℕ). since < v) (sym tick) h.1,
  ap (λ (x : Clock). last_grant x since) clock ∙ (h.2 ∙ sym tick),
  seeing ∙ h.3,
)
timely_still old new what scope (GivingUp since) wake clock tick seeing same sets h = h ∙ sym tick
timely_still old new what scope (Awaits id since) wake clock tick seeing same sets h =
    same_nursery (λ n. a_round_after new.clock n.last ≤ new.tick) old.book new.book id (same id refl)
    (subst (λ (x : Clock). HasNursery old.book id (λ n. a_round_after x n.last ≤ new.tick)) (sym clock)
    (subst (λ (v : ℕ). HasNursery old.book id (λ n. a_round_after old.clock n.last ≤ v)) (sym tick) h))
timely_still old new what scope _ _ clock tick seeing same sets h = h

-- so a task may continue in another world where a nursery that it waits for is the same, if it is settled
may_still : (old new : World) (what : Option What) (task : Task) (wake : Wake) → new.clock ≡ old.clock → new.tick ≡ old.tick →
    seen (outer_of new.scopes (scope_of task)) new.tick ≡ seen (outer_of old.scopes (scope_of task)) old.tick →
    ((id : ℕ) → waits_of task.task_state ≡ Some id → HasNursery old.book id (λ n. is_settled n ≡ true) →
    nursery_at new.book id ≡ nursery_at old.book id) → SetsAlike old new task.task_state → MayGo old what task wake → MayGo new what task wake
may_still old new what task wake clock tick seeing same sets may =
    record {
      fits = fits_still task.task_state (lent_of task) old.book new.book wake there may.fits;
      timely = timely_still old new what (scope_of task) task.task_state wake clock tick seeing there sets may.timely;
    }
  where
    there : (id : ℕ) → waits_of task.task_state ≡ Some id → nursery_at new.book id ≡ nursery_at old.book id
    there id e = same id e (settled_from task.task_state (lent_of task) old.book wake id may.fits e)

-- ---- a turn of another task

-- what a task sees is the same after it
pub seen_still : {k : Tables} {job : Job} {input : List ℕ} {t m s : ℕ} {old new : RunState} {before after : Task} {stop : Stop} →
    IsSettledBy k job input → GivesNamesOnce job → StartsInNurseries job →
    (c : Refines k job input t m None old) → (T : Turning k job input t m s old new c.numbers before after stop c.interleaving) → (u : ℕ) → u < m →
    u ≢ s → (task : Task) → old.task u ≡ Some task →
    Follows new T.is.cancelled_from input t T.is.at (numbers_then c.numbers s m T.took.numbers_after) (leaving_by stop s) u task →
    seen (outer_of new.world.scopes (scope_of task)) t ≡ seen (outer_of old.world.scopes (scope_of task)) t
seen_still {k} {job} {input} {t} {m} {s} {old} {new} {before} {after} {stop} settled names starting c T u below differs task lives now =
    seen_at (label_at new.world) (event_at new.world) T.is.cancelled_from (outer_of new.world.scopes (scope_of task)) (T.is.at u).places t now.stands.places
    ∙ ap (λ (x : Started). seen (stack_at T.is.cancelled_from x.places).scopes t) other
    ∙ sym seen_after ∙ seen_before
    ∙ sym (seen_at (label_at old.world) (event_at old.world) c.interleaving.cancelled_from (outer_of old.world.scopes (scope_of task)) q.places t
    (c.follows u task lives).stands.places)
  where
    q : Started
    q = c.interleaving.at u

    other : T.is.at u ≡ q
    other = T.of_other u below differs

    IsOn : Table → List Started → Type 0
    IsOn f qs = RunInvariant k f (root_result k job input) qs × AllFrom k qs t × ((x : Started) → IsAmong x qs → AgreesOn t k.cancelled_from f x.places)

    on_before : IsOn c.interleaving.cancelled_from c.interleaving.tasks
    on_before = runs_keep_invariant k job input settled names starting c.interleaving.cancelled_from t m c.interleaving.tasks c.interleaving.reached

    on_after : IsOn T.is.cancelled_from T.is.tasks
    on_after = runs_keep_invariant k job input settled names starting T.is.cancelled_from t (m + length T.move.begun) T.is.tasks T.is.reached

    less : u < m + length T.move.begun
    less = omega (arith, below)

    seen_before : seen (stack_at k.cancelled_from q.places).scopes t ≡ seen (stack_at c.interleaving.cancelled_from q.places).scopes t
    seen_before =
        seen_near (suc t) (stack_at k.cancelled_from q.places).scopes (stack_at c.interleaving.cancelled_from q.places).scopes t
        (near_places t k.cancelled_from c.interleaving.cancelled_from q.places (on_before.2 q (c.interleaving.has u below).0)).0 (omega arith)

    seen_after : seen (stack_at k.cancelled_from q.places).scopes t ≡ seen (stack_at T.is.cancelled_from q.places).scopes t
    seen_after =
        seen_near (suc t) (stack_at k.cancelled_from q.places).scopes (stack_at T.is.cancelled_from q.places).scopes t
        (near_places t k.cancelled_from T.is.cancelled_from q.places (on_after.2 q (subst (λ (x : Started). IsAmong x T.is.tasks) other (T.is.has u less).0))).0
        (omega arith)

-- a task that may continue may still do so
pub still_goes : {k : Tables} {job : Job} {input : List ℕ} {t m s : ℕ} {old new : RunState} {before after : Task} {stop : Stop} →
    IsSettledBy k job input → GivesNamesOnce job → StartsInNurseries job →
    (c : Refines k job input t m None old) → (T : Turning k job input t m s old new c.numbers before after stop c.interleaving) → (u : ℕ) → u < m →
    u ≢ s → (task : Task) → old.task u ≡ Some task →
    Follows new T.is.cancelled_from input t T.is.at (numbers_then c.numbers s m T.took.numbers_after) (leaving_by stop s) u task → (what : Option What) (wake : Wake) →
    MayGo old.world what task wake → MayGo new.world what task wake
still_goes {t = t} {old = old} {new = new} settled names starting c T u below differs task lives now what wake may =
    may_still old.world new.world what task wake (ap (λ (w : World). w.clock) T.code.world) tick same
    (λ id e over. nursery_same c T u task differs lives id (inr e)) (sets task.task_state refl) may
  where
    places : AreAt (label_at new.world) (event_at new.world) T.is.cancelled_from (outer_of new.world.scopes (scope_of task)) (c.interleaving.at u).places
    places =
        subst (λ (x : Started). AreAt (label_at new.world) (event_at new.world) T.is.cancelled_from (outer_of new.world.scopes (scope_of task)) x.places)
        (T.of_other u below differs) now.stands.places

    sets : (task_state : TaskState) → task.task_state ≡ task_state → SetsAlike old.world new.world task_state
    sets (Waiting key since) is =
        set_alike old.world.clock old.world.tick (event_at old.world) (event_at new.world) old.world.set.items
        new.world.set.items key since
        (event_still c T (acted c T settled names starting) u task lives now.goes.scope places key since is)
    sets (ToBegin at) is = tt
    sets (Asked kernel purpose) is = tt
    sets (Asleep paced ticks since) is = tt
    sets (Queued object ask since body) is = tt
    sets (GivingUp since) is = tt
    sets (Awaits id since) is = tt
    sets Over is = tt

    tick : new.world.tick ≡ old.world.tick
    tick = ap (λ (w : World). w.tick) T.code.world

    same : seen (outer_of new.world.scopes (scope_of task)) new.world.tick ≡ seen (outer_of old.world.scopes (scope_of task)) old.world.tick
    same =
        ap (λ (v : ℕ). seen (outer_of new.world.scopes (scope_of task)) v) (tick ∙ c.tick)
        ∙ seen_still settled names starting c T u below differs task lives now
        ∙ ap (λ (v : ℕ). seen (outer_of old.world.scopes (scope_of task)) v) (sym c.tick)

-- and a nursery of a task is as it was
pub still_waits : {k : Tables} {job : Job} {input : List ℕ} {t m s : ℕ} {old new : RunState} {before after : Task} {stop : Stop} →
    (c : Refines k job input t m None old) →
    Turning k job input t m s old new c.numbers before after stop c.interleaving → (u : ℕ) → u ≢ s → (task : Task) → old.task u ≡ Some task →
    (P : Nursery → Type 0) → (id : ℕ) →
    HasNurseryOf id (blocks_of task.frames.items) (waits_of task.task_state) → HasNursery old.world.book id P → HasNursery new.world.book id P
still_waits {old = old} {new = new} c T u differs task lives P id has h =
    same_nursery P old.world.book new.world.book id (nursery_same c T u task differs lives id has) h

-- ---- homes after a turn

-- after a turn each home is a nursery of its owner still, and the owner of a new child's is the mover
pub homes_kept : {k : Tables} {job : Job} {input : List ℕ} {t m s : ℕ} {old new : RunState} {before after : Task} {stop : Stop} →
    (c : Refines k job input t m None old) →
    (T : Turning k job input t m s old new c.numbers before after stop c.interleaving) → (parent next : ℕ → ℕ) →
    ((p : ℕ) → p < m → next p ≡ parent p) →
    ((i : ℕ) → i < length T.move.begun → next (m + i) ≡ s) → AreHomesOf old parent → AreHomesOf new next
homes_kept {k} {job} {input} {t} {m} {s} {old} {new} {before} {after} {stop} c T parent next same born homes p x home lives at_home =
    by_order (cases_lt p m)
  where
    -- the home of a task that was there
    old_home : p < m → (task : Task) → old.task p ≡ Some task → task.home ≡ Some home → Keeps new (parent p) home.nursery
    old_home below task was at = by_parent (same_or l.parent s)
      where
        l : LivesIn old c.interleaving.at c.numbers p home
        l = subst (HasHome old c.interleaving.at c.numbers p) at (c.follows p task was).home

        keeps : Keeps old (parent p) home.nursery
        keeps = homes p task home was at

        one : l.parent ≡ parent p
        one = same_owner k job input t m None old c l.parent (parent p) l.starter keeps.task home.nursery l.lives keeps.lives l.owned
            keeps.owned

        by_parent : (l.parent ≡ s) ⊎ (l.parent ≢ s) → Keeps new (parent p) home.nursery
        by_parent (inl e) = subst (λ (n : ℕ). Keeps new n home.nursery) (sym e ∙ one)
            (record { task = after; lives = T.code.task_after; owned = (mover_owned c T p home l e).1 })
        by_parent (inr differs) =
            let low : l.parent < m = (let a : l.parent < p = l.earlier in omega (arith, a, below)) in
            subst (λ (n : ℕ). Keeps new n home.nursery) one (record {
              task = l.starter;
              lives = T.code.other_after l.parent low differs
                  ∙ l.lives;
              owned = l.owned;
            })

    by_old : p < m → Keeps new (parent p) home.nursery
    by_old below = by_mover (same_or p s)
      where
        by_mover : (p ≡ s) ⊎ (p ≢ s) → Keeps new (parent p) home.nursery
        by_mover (inl e) =
            let is : x ≡ after = one_of x after (sym lives ∙ (ap new.task e ∙ T.code.task_after)) in
            old_home below before (ap old.task e ∙ T.code.task) (sym (ap (λ (z : Task). z.home) T.code.stays) ∙ ap (λ (z : Task). z.home) (sym is)
            ∙ at_home)
        by_mover (inr differs) = old_home below x (sym (T.code.other_after p below differs) ∙ lives) at_home

    -- that of one that was started
    new_home : (i : ℕ) → new.task (m + i) ≡ Some x → Keeps new (next (m + i)) home.nursery
    new_home i e =
        subst (λ (n : ℕ). Keeps new n home.nursery) (sym (born i (below_length T.move.begun i b.0 b.1)))
        (record {
          task = after;
          lives = T.code.task_after;
          owned = subst (λ (h : Home).
              HasNurseryOf h.nursery (blocks_of after.frames.items) (waits_of after.task_state)) is b.2.owned;
        })
      where
        b : (b : _) × (slice_get T.move.begun i ≡ Some b) × IsBegun old.world.clock (a_round_after old.world.clock old.world.tick)
            T.took.numbers_after new.world.book (blocks_of after.frames.items)
            (waits_of after.task_state) x b
        b =
            begun_at old.world.clock (a_round_after old.world.clock old.world.tick) T.took.numbers_after new.world.book
            (blocks_of after.frames.items) (waits_of after.task_state) T.took.tasks T.move.begun
            T.took.begun i x
            (sym (T.child_after i) ∙ e)

        is : b.2.home ≡ home
        is = one_of b.2.home home (sym b.2.at_home ∙ at_home)

    by_order : (p < m) ⊎ (m ≤ p) → Keeps new (next p) home.nursery
    by_order (inl below) = subst (λ (n : ℕ). Keeps new n home.nursery) (sym (same p below)) (by_old below)
    by_order (inr le) =
        let e : m + (p - m) ≡ p = omega (arith, le) in
        subst (λ (n : ℕ). Keeps new (next n) home.nursery) e (new_home (p - m) (ap new.task e ∙ lives))

-- ---- a task leaves

module _ (k : Tables) (job : Job) (input : List ℕ) (t m s : ℕ) (old new : RunState) (task : Task) (exc : Option Exc)
    (c : Refines k job input t m (Some s) old)
    (l : Leaving t s old new (c.interleaving.at s) task exc) where
  -- it had no nursery
  no_nursery : (id : ℕ) (x : Task) → old.task s ≡ Some x → HasNurseryOf id (blocks_of x.frames.items) (waits_of x.task_state) → ⊥
  no_nursery id x e h =
      by_either
      (subst (λ (w : Option ℕ). HasNurseryOf id [] w) waits
      (subst (λ (bs : List Block). HasNurseryOf id bs (waits_of task.task_state)) blocks
      (subst (λ (y : Task). HasNurseryOf id (blocks_of y.frames.items) (waits_of y.task_state)) is h)))
    where
      q : Started
      q = c.interleaving.at s

      it : Follows old c.interleaving.cancelled_from input t c.interleaving.at c.numbers (Some s) s task
      it = c.follows s task l.was

      blocks : blocks_of task.frames.items ≡ []
      blocks = ended_blocks task (c.numbers s) q.places q.rest.stopped t exc it.stands.placed l.ended

      waits : waits_of task.task_state ≡ None
      waits = over_task_state (c.numbers s) old.world.book task.task_state t exc
          (subst (λ (z : rest.Stopped). IsTaskState (c.numbers s) old.world.book task.task_state z) l.ended it.task_state)

      is : x ≡ task
      is = one_of x task (sym e ∙ l.was)

      by_either : HasNurseryOf id [] None → ⊥
      by_either (inl h) = h
      by_either (inr e) = not_both refl e

  -- so the home of each other task has its owner
  pub homes_left : (parent : ℕ → ℕ) → AreHomesOf old parent → AreHomesOf new parent
  homes_left parent homes p x home lives at_home =
      record { task = keeps.task; lives = (l.others (parent p) parent_differs).0 ∙ keeps.lives; owned = keeps.owned }
    where
      differs : p ≢ s
      differs e = not_both (ap new.task e ∙ l.left) lives

      keeps : Keeps old (parent p) home.nursery
      keeps = homes p x home (sym (l.others p differs).0 ∙ lives) at_home

      parent_differs : parent p ≢ s
      parent_differs e = no_nursery home.nursery keeps.task (ap old.task (sym e) ∙ keeps.lives) keeps.owned

  none_runs : (es : List End) (index : ℕ) → list_all is_some es ≡ true → slice_get es index ≡ Some None → ⊥
  none_runs [] index e f = not_both refl f
  none_runs (None ∷ es) index e f = absurd (let g : false ≡ true = e in cc)
  none_runs (Some x ∷ es) zero e f = absurd (let g : Some x ≡ None = one_of (Some x) None f in cc)
  none_runs (Some x ∷ es) (suc index) e f = none_runs es index e f

  -- a nursery that is settled is as it was after an end is recorded: it is not the home of a task that ends
  pub settled_same : (id : ℕ) → HasNursery old.world.book id (λ n. is_settled n ≡ true) →
      nursery_at new.world.book id ≡ nursery_at old.world.book id
  settled_same id h = by_recorded task.home refl (recorded t old.world.book new.world.book task.home exc l.recorded id n.0 n.1)
    where
      n : (n : Nursery) × (nursery_at old.world.book id ≡ Some n) × (is_settled n ≡ true)
      n = finds old.world.book id (λ n. is_settled n ≡ true) h

      by_recorded : (home : Option Home) → task.home ≡ home → Recorded t new.world.book exc id n.0 home →
          nursery_at new.world.book id ≡ nursery_at old.world.book id
      by_recorded _ is (stays y e z) = e ∙ sym n.1
      by_recorded _ is (tells y z e) =
          let its = subst (λ (h : Option Home). HasHome old c.interleaving.at c.numbers s h) is (c.follows s task l.was).home in
          let runs = gives old.world.book id n.0 (λ n. (n.scope ≡ y.scope) × (slice_get n.children y.index ≡ Some None)) n.1
          (subst (λ (key : ℕ). HasNursery old.world.book key (λ n. (n.scope ≡ y.scope) × (slice_get n.children y.index ≡ Some None))) z
          its.runs) in
          absurd (none_runs n.0.children y.index (settled_children n.0 n.2) runs.1)

  -- and a task that may continue may still do so
  pub goes_left : (x : Task) (what : Option What) (wake : Wake) → MayGo old.world what x wake → MayGo new.world what x wake
  goes_left x what wake may =
      may_still old.world new.world what x wake (ap (λ (w : World). w.clock) l.world) (ap (λ (w : World). w.tick) l.world)
      (ap (λ (w : World). seen (outer_of w.scopes (scope_of x)) w.tick) l.world) (λ id e over. settled_same id over)
      (sets x.task_state) may
    where
      sets : (task_state : TaskState) → SetsAlike old.world new.world task_state
      sets (Waiting key since) =
          ap (λ (w : World). min (suc old.world.tick) (set_by old.world.clock (event_at w key) since)) (sym l.world)
      sets (ToBegin at) = tt
      sets (Asked kernel purpose) = tt
      sets (Asleep paced ticks since) = tt
      sets (Queued object ask since body) = tt
      sets (GivingUp since) = tt
      sets (Awaits id since) = tt
      sets Over = tt
