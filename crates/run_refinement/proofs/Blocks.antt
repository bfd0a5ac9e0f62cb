-- If all tasks of the program stay, the run is blocked, and while one has not ended, one has a moment in which it continues.
-- And how long the program continues.
use Rattle.std.proofs.Common.{◌≡◌, ◌⊎◌, inl, inr, ◌&&◌, Bool, true, false, ℕ, zero, suc, ◌+◌, ◌*◌, ◌<◌, ◌≤◌, max, Option, Some, None, List, [], ◌∷◌, length, refl, ap, sym, ◌∙◌, subst, arith}
use Rattle.std.specs.Prelude.{is_some, slice_get}
use Rattle.std.specs.List.{list_all}
use Rattle.turn_semantics.specs.Lists.{IsAmong}
use Rattle.exceptions.specs.Exceptions.{Exc}
use Rattle.cancel_scopes.specs.Tree.{outer_of}
use Rattle.nursery_book.specs.Nursery.{End, Nursery, is_settled}
use Rattle.nursery_book.specs.Book.{nursery_at, HasNursery}
use Rattle.nursery_book.specs.declared.book.NurseryBook.{NurseryBook}
use Rattle.job_tree.specs.Tree.{Tree as Job, Steps}
use Rattle.job_tree.specs.Names.{GivesNamesOnce, size_of}
use Rattle.job_tree.specs.Starting.{StartsInNurseries}
use Rattle.cancel_scopes.specs.Sight.{sight, Tick}
use Rattle.job_meaning.specs.Log.{Table}
use Rattle.job_meaning.specs.Moments.{clock_of, tick_of, a_round_after, wakes_at, Now}
use Rattle.job_meaning.specs.declared.clock.Clock.{Clock}
use Rattle.job_meaning.specs.Walk.{Here, latest}
use Rattle.job_meaning.specs.Before.{upto}
use Rattle.interleavings.specs.Laws.{IsSettledBy, meaning_tables}
use Rattle.job_meaning.specs.Meaning.{meaning_end}
use Rattle.job_meaning.specs.Rest.{Stopped, to_begin, asking, asleep, waiting_for, giving_up, awaiting, at_end, queued, inside}
use Rattle.turn_semantics.specs.Midway.{Tables, stack_at, label_among}
use Rattle.turn_semantics.specs.Wakes.{ends_at}
use Rattle.task_machine.specs.declared.stop.TaskState.{TaskState}
use Rattle.task_machine.specs.declared.stop.TaskState.TheVariants.{ToBegin, Asked, Asleep, Waiting, GivingUp, Awaits, Over, Queued}
use Rattle.task_machine.specs.declared.task.Home.{Home}
use Rattle.task_machine.specs.declared.task.Task.{Task}
use Rattle.task_machine.specs.Fitting.{waits_of}
use Rattle.task_machine.specs.Events.{set_by, wait_ends}
use Rattle.task_machine.specs.Stacked.{AwaitsEvent}
use Rattle.task_machine.specs.Standing.{Stands}
use Rattle.task_machine.specs.States.{state_of}
use Rattle.task_machine.specs.Stops.{IsTaskState}
use Rattle.task_machine.specs.Tasks.{scope_of}
use Rattle.task_machine.specs.Worlds.{label_at, event_at}
use Rattle.task_machine.proofs.Stacked.{sight_at}
use Rattle.interleavings.specs.Interleaving.{Started, live, Unended, Settling, StaysUntil, Blocked, members_by, leaves_by}
use Rattle.interleavings.specs.Laws.{HasNextTurn, GoesOn}
use Rattle.interleavings.specs.Runs.{turns_taken, keeping}
use Rattle.interleavings.proofs.Running.{blocked_runs_go_on, limits_are_exact, runs_end}
use Rattle.run_refinement.specs.RunState.{RunState, HasHome, IsMember, HasMembers, IsSince, Refines}
use Rattle.run_refinement.specs.Ready.{StaysTo, AllStay, HasMoment, HasNext}
use Rattle.run_refinement.proofs.ActsKeep.{not_both}
use Rattle.run_refinement.proofs.EventPlaces.{HasEvent, has_event, awaited_set}
use Rattle.run_refinement.proofs.LabelsApart.{below_of}
use Rattle.run_refinement.proofs.Found.{below_length}
use Rattle.run_refinement.proofs.Found.{gives, finds, puts}
use Rattle.run_refinement.proofs.Going.{ends, waited}
use Rattle.objects.specs.Whats.{What}
use Rattle.job_tree.specs.declared.object.Ask.{Ask}
use Rattle.task_machine.specs.declared.world.World.{World}

-- ---- a nursery that is not settled

-- where not all children have ended, one runs
running_at : (es : List End) → list_all is_some es ≡ false → (i : ℕ) × (slice_get es i ≡ Some None)
running_at [] e = absurd (let f : true ≡ false = e in cc)
running_at (None ∷ es) e = (zero, refl)
running_at (Some exc ∷ es) e = let r = running_at es e in (suc r.0, r.1)

unsettled_children : (n : Nursery) (exc : Option Exc) → n.body ≡ Some exc → is_settled n ≡ false → list_all is_some n.children ≡ false
unsettled_children n exc e s = sym (ap (λ (b : End). is_some b && list_all is_some n.children) e) ∙ s

got_below : (xs : List ℕ) (i : ℕ) → i < length xs → (x : ℕ) × (slice_get xs i ≡ Some x)
got_below [] i lt = absurd (omega (arith, lt))
got_below (x ∷ xs) zero lt = (x, refl)
got_below (x ∷ xs) (suc i) lt = got_below xs i (omega (arith, lt))

among_at : (xs : List ℕ) (i x : ℕ) → slice_get xs i ≡ Some x → IsAmong x xs
among_at [] i x e = absurd (not_both refl e)
among_at (y ∷ xs) zero x e = inl (let f : Some y ≡ Some x = e in cc)
among_at (y ∷ xs) (suc i) x e = inr (among_at xs i x e)

-- ---- tasks that stay

-- a task that has not ended is live
pub task_lives : (k : Tables) (job : Job) (input : List ℕ) (t m : ℕ) (state : RunState) → (c : Refines k job input t m None state) →
    (s : ℕ) (task : Task) → state.task s ≡ Some task →
    live (c.interleaving.at s).rest.stopped ≡ true
task_lives k job input t m state c s task e = (c.follows s task e).lives (λ f. not_both refl f)

-- A child of the nursery for which a task waits runs, where that nursery is not settled.
record Running (state : RunState) (q : Started) (children : List ℕ) : Type 0 where
  pub number : ℕ
  pub among : IsAmong number children
  pub below : number < q.count
  pub task : Task
  pub lives : state.task (q.child number) ≡ Some task

module _ (k : Tables) (job : Job) (input : List ℕ) (t m : ℕ) (state : RunState) (c : Refines k job input t m None state) where
  abbrev at : ℕ → Started
  at = c.interleaving.at

  abbrev qs : List Started
  qs = c.interleaving.tasks

  running_child : (s : ℕ) (task : Task) (id : ℕ) (children : List ℕ) (exc : Option Exc) → state.task s ≡ Some task →
      waits_of task.task_state ≡ Some id → c.numbers s id ≡ children → HasNursery state.world.book id (λ n. n.body ≡ Some exc) →
      (n : Nursery) → nursery_at state.world.book id ≡ Some n → is_settled n ≡ false → Running state (at s) children
  running_child s task id children exc lives awaits numbers body n is open_one =
      record {
        number = number.0;
        among = among_at children index.0 number.0 (ap (λ (is : List ℕ). slice_get is index.0) (sym numbers) ∙ number.1);
        below = member.0;
        task = runs.0;
        lives = runs.1;
      }
    where
      has : HasMembers state at t (c.numbers s) (at s) id n
      has =
          gives state.world.book id n (λ n. HasMembers state at t (c.numbers s) (at s) id n) is
          ((c.follows s task lives).nurseries id (inr awaits))

      index : (i : ℕ) × (slice_get n.children i ≡ Some None)
      index =
          running_at n.children (unsettled_children n exc (gives state.world.book id n (λ n. n.body ≡ Some exc) is body) open_one)

      number : (x : ℕ) × (slice_get (c.numbers s id) index.0 ≡ Some x)
      number =
          let a : length (c.numbers s id) ≡ length n.children = has.long in
          let b : index.0 < length n.children = below_length n.children index.0 None index.1 in
          got_below (c.numbers s id) index.0 (omega (arith, a, b))

      member : (number.0 < (at s).count) × IsMember state at n.last id index.0 ((at s).child number.0) (slice_get n.children index.0)
      member = has.members index.0 number.0 number.1

      runs : IsMember state at n.last id index.0 ((at s).child number.0) (Some None)
      runs = subst (IsMember state at n.last id index.0 ((at s).child number.0)) index.1 member.1

  -- a task with that serial number has not ended
  child_lives : (s : ℕ) (children : List ℕ) (r : Running state (at s) children) (x : Started) → IsAmong x qs → x.serial ≡ (at s).child r.number →
      live x.rest.stopped ≡ true
  child_lives s children r x j e =
      ap (λ (y : Started). live y.rest.stopped) ((c.interleaving.one x j).0 ∙ ap at e)
      ∙ task_lives k job input t m state c ((at s).child r.number) r.task r.lives

-- a task that does not continue before a moment does not before an earlier one
sight_less : (v u : ℕ) (s : Tick) → v ≤ u → upto u s ≡ u → upto v s ≡ v
sight_less v u None le e = refl
sight_less v u (Some x) le e = omega (arith, le, e)

either_less : (v u x : ℕ) (s : Tick) → v ≤ u → (upto u s ≡ u) ⊎ (u ≤ x) → (upto v s ≡ v) ⊎ (v ≤ x)
either_less v u x s le (inl e) = inl (sight_less v u s le e)
either_less v u x s le (inr h) = inr (omega (arith, le, h))

granted_less : (v u x : ℕ) (what : Option What) → v ≤ u → (what ≡ None) ⊎ (u ≤ x) → (what ≡ None) ⊎ (v ≤ x)
granted_less v u x what le (inl e) = inl e
granted_less v u x what le (inr h) = inr (omega (arith, le, h))

stays_less : (world : World) (through : ℕ) (what : Option What) (v u : ℕ) (scope : Option ℕ) (task_state : TaskState) → v ≤ u →
    StaysTo world through what u scope task_state → StaysTo world through what v scope task_state
stays_less world through what v u scope (ToBegin at) le h = omega (arith, le, h)
stays_less world through what v u scope (Asked kernel purpose) le h = h
stays_less world through what v u scope (Asleep paced ticks since) le h =
    (let e = h.0 in omega (arith, le, e), either_less v u (a_round_after world.clock since) (sight (outer_of world.scopes scope)) le h.1)
stays_less world through what v u scope (Waiting event since) le h =
    (let e = h.0 in omega (arith, le, e), either_less v u (a_round_after world.clock since) (sight (outer_of world.scopes scope)) le h.1)
stays_less world through what v u scope (Queued object wanted since body) le h = (
  granted_less v u through what le h.0,
  let e = h.1 in omega (arith, le, e),
  either_less v u (suc since) (sight (outer_of world.scopes scope)) le h.2,
)
stays_less world through what v u scope (GivingUp since) le h = omega (arith, le, h)
stays_less world through what v u scope (Awaits id since) le h =
    let n = finds world.book id (λ n. (is_settled n ≡ false) ⊎ (u ≤ a_round_after world.clock n.last)) h in
    puts world.book id n.0 (λ n. (is_settled n ≡ false) ⊎ (v ≤ a_round_after world.clock n.last)) n.1 (by_nursery (a_round_after world.clock n.0.last) n.2)
  where
    by_nursery : {A : Type 0} (x : ℕ) → A ⊎ (u ≤ x) → A ⊎ (v ≤ x)
    by_nursery x (inl e) = inl e
    by_nursery x (inr g) = inr (omega (arith, le, g))
stays_less world through what v u scope Over le h = h

pub all_stay_less : (state : RunState) (v u : ℕ) → v ≤ u → AllStay state u → AllStay state v
all_stay_less state v u le stay s task lives =
    stays_less state.world state.through (state.granted s) v u (scope_of task) task.task_state le (stay s task lives)

-- where what a task sees is known, the definitions know the same
pub sight_known : {k : Tables} {job : Job} {input : List ℕ} {t m : ℕ} {state : RunState} → (c : Refines k job input t m None state) → (s : ℕ) (task : Task) →
    state.task s ≡ Some task → (u : ℕ) → upto u (sight (outer_of state.world.scopes (scope_of task))) ≡ u →
    upto u (sight (stack_at c.interleaving.cancelled_from (c.interleaving.at s).places).scopes) ≡ u
sight_known {state = state} c s task lives u e =
    ap (upto u)
    (sym (sight_at (label_at state.world) (event_at state.world) c.interleaving.cancelled_from (outer_of state.world.scopes (scope_of task))
    (c.interleaving.at s).places (c.follows s task lives).stands.places)) ∙ e

-- each task in a queue leaves it by a moment or later, by the moments that the run keeps and what the tables grant
abbrev pub InQueues : {k : Tables} {job : Job} {input : List ℕ} {t m : ℕ} {state : RunState} → (tables : Tables) → Refines k job input t m None state →
    ℕ → Type 0
InQueues {state = state} tables c u =
    (s : ℕ) (task : Task) → state.task s ≡ Some task → (name : List ℕ) (wanted : Ask) (since : ℕ) (body : Steps) →
    (c.interleaving.at s).rest.stopped ≡ queued name wanted since body →
    u ≤ leaves_by (keeping c.interleaving.cancelled_from tables) (inside (c.interleaving.at s).rest.frames (c.interleaving.at s).here)
    (label_among true name (c.interleaving.at s).places) since (stack_at c.interleaving.cancelled_from (c.interleaving.at s).places)

-- if no task of the program continues before a moment, the run is blocked until then
pub state_blocked : (k : Tables) (job : Job) (input : List ℕ) (t m : ℕ) (state : RunState) → (c : Refines k job input t m None state) → (u : ℕ) →
    AllStay state u → InQueues k c u →
    Blocked (keeping c.interleaving.cancelled_from k) c.interleaving.tasks u
state_blocked k job input t m state c u stay queue q i =
    subst (λ (x : Started). StaysUntil (keeping c.interleaving.cancelled_from k) c.interleaving.tasks u x x.rest.stopped) (sym (c.interleaving.one q i).0)
    (by_task q.serial (c.interleaving.one q i).1 (state.task q.serial) refl)
  where
    at : ℕ → Started
    at = c.interleaving.at

    qs : List Started
    qs = c.interleaving.tasks

    f : Table
    f = c.interleaving.cancelled_from

    book : NurseryBook
    book = state.world.book

    clock : (s : ℕ) (task : Task) → state.task s ≡ Some task → state.world.clock ≡ (at s).here.clock
    clock s task lives = ap (λ (h : Here). h.clock) (c.follows s task lives).here

    -- a task that waits does so for a child that runs, or its nursery is left later
    waits : (s : ℕ) (task : Task) (id since v : ℕ) (children : List ℕ) (exc : Option Exc) → state.task s ≡ Some task →
        task.task_state ≡ Awaits id since → c.numbers s id ≡ children → since ≡ v →
        HasNursery book id (λ n. n.body ≡ Some exc) →
        HasNursery book id (λ n. (is_settled n ≡ false) ⊎ (u ≤ a_round_after state.world.clock n.last)) →
        Unended qs (at s) children ⊎ Settling qs (at s) children v u
    waits s task id since v children exc lives e numbers same body to = by_settled (is_settled n.0) refl n.2
      where
        n : (n : Nursery) × (nursery_at book id ≡ Some n) × ((is_settled n ≡ false) ⊎ (u ≤ a_round_after state.world.clock n.last))
        n = finds book id (λ n. (is_settled n ≡ false) ⊎ (u ≤ a_round_after state.world.clock n.last)) to

        by_settled : (b : Bool) → is_settled n.0 ≡ b → (is_settled n.0 ≡ false) ⊎ (u ≤ a_round_after state.world.clock n.0.last) →
            Unended qs (at s) children ⊎ Settling qs (at s) children v u
        by_settled false g h =
            let r = running_child k job input t m state c s task id children exc lives (ap waits_of e) numbers body n.0 n.1 g in
            inl (record {
              number = r.number;
              among = r.among;
              below = r.below;
              alive = child_lives k job input t m state c s children r;
            })
        by_settled true g (inl h) = absurd (let b : true ≡ false = sym g ∙ h in cc)
        by_settled true g (inr h) =
            let w = waited k job input t m state c s task lives id since v children e numbers same n.0 n.1 g in
            inr (record {
              ends = ends at n.0.last (at s).child;
              numbers = w.numbers;
              over = w.over;
              later =
                  subst (λ (x : Clock). u ≤ a_round_after x (latest v (members_by (ends at n.0.last (at s).child) children)))
                  (clock s task lives)
                  (subst (λ (y : ℕ). u ≤ a_round_after state.world.clock y) (sym w.last) h);
            })

    by_sight : (s : ℕ) (task : Task) → state.task s ≡ Some task → (since v : ℕ) → since ≡ v →
        (upto u (sight (outer_of state.world.scopes (scope_of task))) ≡ u) ⊎ (u ≤ a_round_after state.world.clock since) →
        (upto u (sight (stack_at f (at s).places).scopes) ≡ u) ⊎ (u ≤ a_round_after (at s).here.clock v)
    by_sight s task lives since v same (inl g) = inl (sight_known c s task lives u g)
    by_sight s task lives since v same (inr g) =
        inr (subst (λ (x : Clock). u ≤ a_round_after x v) (clock s task lives)
        (subst (λ (x : ℕ). u ≤ a_round_after state.world.clock x) same g))

    by_task_state : (s : ℕ) (task : Task) → state.task s ≡ Some task → (task_state : TaskState) (stopped : Stopped) → task.task_state ≡ task_state →
        IsTaskState (c.numbers s) book task_state stopped → IsSince t task.cancelled.items task_state (at s).stop →
        AwaitsEvent (label_at state.world) (outer_of state.world.scopes (scope_of task)) (Some stopped) task_state (at s).places →
        HasEvent stopped (at s).places → (at s).rest.stopped ≡ stopped →
        StaysTo state.world state.through (state.granted s) u (scope_of task) task_state → StaysUntil (keeping f k) qs u (at s) stopped
    by_task_state s task lives (ToBegin v) to_begin e h since event some is to = subst (λ (x : Now). u ≤ x.at) (sym since) to
    by_task_state s task lives (Asked kernel purpose) (asking asked p) e h since event some is to = absurd to
    by_task_state s task lives (Asleep paced ticks since) (asleep p n v) e h stop event some is to = (
      subst (λ (x : Clock). u ≤ wakes_at x n v) (clock s task lives)
          (subst (λ (x : ℕ). u ≤ wakes_at state.world.clock x v) h.1
          (subst (λ (x : ℕ). u ≤ wakes_at state.world.clock ticks x) h.2 to.0)),
      by_sight s task lives since v h.2 to.1,
    )
    by_task_state s task lives (Waiting key since) (waiting_for name v) e h stop event some is to = (
      subst (λ (x : ℕ). u ≤ max (a_round_after (at s).here.clock x) (ends_at (at s).here.clock f name x (at s).places)) h
          (subst (λ (x : ℕ). u ≤ max (a_round_after (at s).here.clock since) x) same_end
          (subst (λ (x : Clock). u ≤ wait_ends x (event_at state.world key) since) (clock s task lives) to.0)),
      by_sight s task lives since v h to.1,
    )
      where
        it : Stands (state_of task state.world) f (c.numbers s) (Some (at s).rest.stopped) (at s).places
        it = (c.follows s task lives).stands

        same_end : set_by (at s).here.clock (event_at state.world key) since ≡ ends_at (at s).here.clock f name since (at s).places
        same_end =
            (awaited_set (label_at state.world) (event_at state.world) f (outer_of state.world.scopes (scope_of task)) (at s).places key name
            (at s).here.clock since it.own it.places event.0 event.1 some).0
    by_task_state s task lives (Queued key wanted since body) (queued name a v steps) e h stop event some is to = queue s task lives name a v steps is
    by_task_state s task lives (GivingUp since) (giving_up v) e h stop event some is to = subst (λ (x : ℕ). u ≤ suc x) h to
    by_task_state s task lives (Awaits id since) (awaiting children v exc) e h stop event some is to =
        waits s task id since v children exc lives e h.0 h.1 h.2 to
    by_task_state s task lives Over (at_end v x) e h since event some is to = absurd to
    by_task_state s task lives _ _ e h since event some is to = absurd h

    by_task : (s : ℕ) → s < m → (o : Option Task) → state.task s ≡ o → StaysUntil (keeping f k) qs u (at s) (at s).rest.stopped
    by_task s lt None e = subst (StaysUntil (keeping f k) qs u (at s)) (sym (c.ended s lt e).2.stopped) tt
    by_task s lt (Some task) e =
        by_task_state s task e task.task_state (at s).rest.stopped refl (c.follows s task e).task_state (c.follows s task e).since
        (c.follows s task e).stands.event
        (has_event (at s).rest.stopped _ (at s).places (c.follows s task e).stands.placed) refl (stay s task e)

-- while a task has not ended, one has a moment in which it continues
pub state_goes_on : (k : Tables) (job : Job) (input : List ℕ) (t m : ℕ) (state : RunState) → IsSettledBy k job input → GivesNamesOnce job →
    StartsInNurseries job →
    (c : Refines k job input t m None state) → (u : ℕ) → AllStay state u → (s : ℕ) (task : Task) → state.task s ≡ Some task → HasNext state
state_goes_on k job input t m state settled names starting c u stay s task lives = by_task (state.task p) refl
  where
    at : ℕ → Started
    at = c.interleaving.at

    qs : List Started
    qs = c.interleaving.tasks

    z : GoesOn qs
    z =
        blocked_runs_go_on k job input names starting settled c.interleaving.cancelled_from t m qs c.interleaving.reached 0
        (state_blocked k job input t m state c 0 (all_stay_less state 0 u (omega arith) stay) (λ p task e name wanted since body is. omega arith)) (at s)
        (c.interleaving.has s (below_of c s task lives)).0 (task_lives k job input t m state c s task lives)

    p : ℕ
    p = z.next.serial

    has : HasNextTurn qs (at p) (at p).rest.stopped
    has = subst (λ (x : Started). HasNextTurn qs x x.rest.stopped) (c.interleaving.one z.next z.among).0 z.has

    -- the nursery that a task waits for is settled, if all children have ended that it waits for
    settles : (y : Task) (id since v : ℕ) (children : List ℕ) (exc : Option Exc) → state.task p ≡ Some y → y.task_state ≡ Awaits id since →
        c.numbers p id ≡ children → HasNursery state.world.book id (λ n. n.body ≡ Some exc) → Settling qs (at p) children v 0 →
        HasNursery state.world.book id (λ n. is_settled n ≡ true)
    settles y id since v children exc there e numbers body over = by_settled (is_settled n.0) refl
      where
        n : (n : Nursery) × (nursery_at state.world.book id ≡ Some n) × (n.body ≡ Some exc)
        n = finds state.world.book id (λ n. n.body ≡ Some exc) body

        by_settled : (b : Bool) → is_settled n.0 ≡ b → HasNursery state.world.book id (λ n. is_settled n ≡ true)
        by_settled true g = puts state.world.book id n.0 (λ n. is_settled n ≡ true) n.1 g
        by_settled false g =
            let r = running_child k job input t m state c p y id children exc there (ap waits_of e) numbers body n.0 n.1 g in
            let x = c.interleaving.has ((at p).child r.number) (below_of c ((at p).child r.number) r.task r.lives) in
            let alive = child_lives k job input t m state c p children r (at ((at p).child r.number)) x.0 x.1 in
            let ended = over.over r.number r.among (at ((at p).child r.number)) x.0 x.1 in
            absurd (let f : true ≡ false = sym alive ∙ ap live ended in cc)

    moment : (y : Task) → state.task p ≡ Some y → (task_state : TaskState) (stopped : Stopped) → y.task_state ≡ task_state →
        IsTaskState (c.numbers p) state.world.book task_state stopped → HasNextTurn qs (at p) stopped →
        StaysTo state.world state.through (state.granted p) u (scope_of y) task_state → HasMoment state.world.book task_state
    moment y there (ToBegin v) stopped e h next to = tt
    moment y there (Asked kernel purpose) stopped e h next to = absurd to
    moment y there (Asleep paced ticks since) stopped e h next to = tt
    moment y there (Waiting key since) stopped e h next to = tt
    moment y there (Queued key wanted since body) stopped e h next to = tt
    moment y there (GivingUp since) stopped e h next to = tt
    moment y there (Awaits id since) (awaiting children v exc) e h next to = settles y id since v children exc there e h.0 h.2 next
    moment y there (Awaits id since) _ e h next to = absurd h
    moment y there Over stopped e h next to = absurd to

    by_task : (o : Option Task) → state.task p ≡ o → HasNext state
    by_task None e =
        absurd (subst (HasNextTurn qs (at p)) (c.ended p (c.interleaving.one z.next z.among).1 e).2.stopped has)
    by_task (Some y) e =
        record {
          serial = p;
          task = y;
          lives = e;
          has = moment y e y.task_state (at p).rest.stopped refl (c.follows p y e).task_state has (stay p y e);
        }

-- ---- how long the program continues

-- while a task has not ended, the job does not end before the present tick
pub state_in_time : (job : Job) (input : List ℕ) (t m : ℕ) (state : RunState) → GivesNamesOnce job → StartsInNurseries job →
    Refines (meaning_tables job input) job input t m None state →
    (s : ℕ) (task : Task) → state.task s ≡ Some task → tick_of (clock_of job.format) t ≤ meaning_end job input
state_in_time job input t m state names starting c s task lives =
    limits_are_exact job input names c.in_range c.small starting c.interleaving.cancelled_from t m c.interleaving.tasks c.interleaving.reached (c.interleaving.at s)
    (c.interleaving.has s (below_of c s task lives)).0 (task_lives (meaning_tables job input) job input t m state c s task lives)

-- the program has at most this number of turns
pub state_turns : (k : Tables) (job : Job) (input : List ℕ) (t m : ℕ) (leaving : Option ℕ) (state : RunState) →
    Refines k job input t m leaving state → state.turns ≤ 2 * size_of job.steps + 1
state_turns k job input t m leaving state c =
    let a = runs_end k job input c.interleaving.cancelled_from t m c.interleaving.tasks c.interleaving.reached in let b : turns_taken c.interleaving.reached ≡ state.turns =
    c.counted in omega (arith, a, b)

-- ---- the root is the last to end

none_below : (k : Tables) (job : Job) (input : List ℕ) (t m : ℕ) (state : RunState) → Refines k job input t m None state → state.task 0 ≡ None →
    (n p : ℕ) → p < n → state.task p ≡ None
none_below k job input t m state c none zero p lt = absurd (omega (arith, lt))
none_below k job input t m state c none (suc n) p lt =
    by_task (state.task p) refl (λ z below. none_below k job input t m state c none n z below)
  where
    by_home : (task : Task) → state.task p ≡ Some task → (home : Option Home) → HasHome state c.interleaving.at c.numbers p home →
        ((z : ℕ) → z < n → state.task z ≡ None) → ⊥
    by_home task e None h none_before = not_both none (ap state.task (sym h) ∙ e)
    by_home task e (Some home) h none_before =
        not_both (none_before h.parent (let a : h.parent < p = h.earlier in omega (arith, a, lt))) h.lives

    by_task : (o : Option Task) → state.task p ≡ o → ((z : ℕ) → z < n → state.task z ≡ None) → state.task p ≡ None
    by_task None e none_before = e
    by_task (Some task) e none_before = absurd (by_home task e task.home (c.follows p task e).home none_before)

-- once the root has ended, every task has
pub root_last : (k : Tables) (job : Job) (input : List ℕ) (t m : ℕ) (state : RunState) → Refines k job input t m None state → state.task 0 ≡ None →
    (p : ℕ) → state.task p ≡ None
root_last k job input t m state c none p = none_below k job input t m state c none (suc p) p (omega arith)
