-- The tasks of the program after a turn of one of them: the task, its new children and all others have their relation to the run
-- after it.
use Rattle.std.proofs.Common.{◌≡◌, ◌≢◌, ◌⊎◌, inl, inr, ℕ, zero, suc, ◌+◌, ◌-◌, ◌<◌, ◌≤◌, Option, Some, None, List, [], ◌∷◌, ◌++◌, length, refl, ap, sym, ◌∙◌, subst, arith}
use Rattle.std.proofs.lemmas.Bool.{cases_lt}
use Rattle.std.specs.Prelude.{slice_get}
use Rattle.turn_semantics.specs.Lists.{IsAmong}
use Rattle.exceptions.specs.Exceptions.{Label}
use Rattle.cancel_scopes.specs.Tree.{Stack, stack_of, IsOpen}
use Rattle.job_tree.specs.Names.{GivesNamesOnce}
use Rattle.job_tree.specs.Starting.{StartsInNurseries}
use Rattle.job_tree.specs.Tree.{Tree as Job}
use Rattle.interleavings.specs.Laws.{IsSettledBy}
use Rattle.job_meaning.specs.Log.{Table}
use Rattle.job_meaning.specs.Meaning.{From, cancelled_from_by}
use Rattle.job_meaning.specs.Moments.{tick_of, a_round_after}
use Rattle.job_meaning.specs.declared.clock.Clock.{Clock}
use Rattle.job_meaning.specs.Walk.{Here}
use Rattle.job_meaning.specs.Rest.{Event, noted, signs, enters, acts, starts}
use Rattle.turn_semantics.specs.Midway.{Tables, Begun}
use Rattle.turn_semantics.specs.Turned.{MadeAt, Starts, labels_of}
use Rattle.task_machine.specs.declared.stop.Stop.{Stop}
use Rattle.task_machine.specs.declared.task.Own.{Own}
use Rattle.task_machine.specs.declared.task.Task.{Task}
use Rattle.task_machine.specs.declared.world.World.{World}
use Rattle.task_machine.specs.Acts.{scoping_of}
use Rattle.task_machine.specs.Fitting.{blocks_of, waits_of, AreOthers}
use Rattle.task_machine.specs.Stops.{Numbers}
use Rattle.task_machine.specs.Worlds.{label_at}
use Rattle.interleavings.specs.Interleaving.{Started, StartsChild, Kid, RunInvariant}
use Rattle.interleavings.specs.Going.{root_result, child_from}
use Rattle.interleavings.specs.Rows.{entered_made}
use Rattle.interleavings.proofs.Running.{runs_keep_invariant}
use Rattle.interleavings.proofs.Turning.{old_child, later_child}
use Rattle.run_refinement.specs.RunState.{RunState, EndedTask, Follows, HasEnded, AreStarted, OpenedBy, Refines}
use Rattle.run_refinement.specs.Turn.{IsEntered, numbers_then, leaving_by}
use Rattle.run_refinement.specs.Turning.{Turning}
use Rattle.run_refinement.proofs.ActsKeep.{not_both, same_or}
use Rattle.run_refinement.proofs.ActsCancelledFrom.{unmoved}
use Rattle.run_refinement.proofs.ActsEvents.{events_acts, soon_acts}
use Rattle.run_refinement.proofs.ActsOthers.{labelled_acts}
use Rattle.run_refinement.proofs.ActsStay.{Stays, stays, IsElse, else_acts}
use Rattle.run_refinement.proofs.ActsTracks.{all_got}
use Rattle.run_refinement.proofs.Children.{children_kept}
use Rattle.run_refinement.proofs.StateTurn.{else_own, own_open}
use Rattle.run_refinement.proofs.LabelsApart.{one_entered, below_of, opened_entered, labels_apart, labels_known, sound_of}
use Rattle.run_refinement.proofs.Mover.{mover_follows}
use Rattle.run_refinement.proofs.NewChildren.{child_follows}
use Rattle.run_refinement.proofs.OtherScopes.{open_stack}
use Rattle.run_refinement.proofs.Parts.{own_or, begun_at}
use Rattle.task_machine.proofs.Stacked.{one_of}
use Rattle.run_refinement.proofs.Found.{below_length, past_length, nth}
use Rattle.run_refinement.proofs.Taken.{tasks_long}
use Rattle.run_refinement.proofs.SharesTurned.{shares_turned, paths_turned}

-- ---- moments of cancellation

-- two tables with the same moments of cancellation of these labels
pub cancelled_from_same : (f g : Table) (ls : List Label) → ((l : Label) → IsAmong l ls → g l ≡ f l) → cancelled_from_by g ls ≡ cancelled_from_by f ls
cancelled_from_same f g [] same = refl
cancelled_from_same f g (l ∷ ls) same =
    ap (λ (d : Option ℕ). record { label = l; seen = d } ∷ cancelled_from_by g ls) (same l (inl refl))
    ∙ ap (λ (fs : List From). record { label = l; seen = f l } ∷ fs) (cancelled_from_same f g ls (λ x i. same x (inr i)))

-- ---- what was started

-- the child of a number has the label and the start that it had
abbrev pub IsSameChild : (was are : ℕ → ℕ) (at now : ℕ → Started) (child later : ℕ → ℕ) → ℕ → Type 0
IsSameChild was are at now child later i = ((now (later i)).here.task ≡ (at (child i)).here.task) × (are (later i) ≡ was (child i))

-- children that keep their labels and starts are still as their starter's events say
pub started_same : (clock : Clock) (was are : ℕ → ℕ) (at now : ℕ → Started) (child later : ℕ → ℕ) (es : List Event) →
    ((i : ℕ) → StartsChild i es → IsSameChild was are at now child later i) →
    AreStarted clock was at child es → AreStarted clock are now later es
started_same clock was are at now child later [] same h = tt
started_same clock was are at now child later (noted t e ∷ es) same h = started_same clock was are at now child later es same h
started_same clock was are at now child later (acts shared t done ∷ es) same h = started_same clock was are at now child later es same h
started_same clock was are at now child later (signs l t ∷ es) same h = started_same clock was are at now child later es same h
started_same clock was are at now child later (enters l t d ∷ es) same h = started_same clock was are at now child later es same h
started_same clock was are at now child later (starts i l t ∷ es) same h =
    let o = same i (inl refl) in
    (o.0 ∙ h.0, o.1 ∙ h.1, started_same clock was are at now child later es (λ j among. same j (inr among)) h.2)

-- children that are as events say, and as further ones say, are as all of them say
pub started_join : (clock : Clock) (start : ℕ → ℕ) (at : ℕ → Started) (child : ℕ → ℕ) (es fs : List Event) →
    AreStarted clock start at child es → AreStarted clock start at child fs → AreStarted clock start at child (es ++ fs)
started_join clock start at child [] fs h k = k
started_join clock start at child (noted t e ∷ es) fs h k = started_join clock start at child es fs h k
started_join clock start at child (acts shared t done ∷ es) fs h k = started_join clock start at child es fs h k
started_join clock start at child (signs l t ∷ es) fs h k = started_join clock start at child es fs h k
started_join clock start at child (enters l t d ∷ es) fs h k = started_join clock start at child es fs h k
started_join clock start at child (starts i l t ∷ es) fs h k = (h.0, h.1, started_join clock start at child es fs h.2 k)

-- the child of a number has this label, and was started in this tick
abbrev pub IsStartedAs : (start : ℕ → ℕ) (at : ℕ → Started) (t n : ℕ) (b : Begun) → Type 0
IsStartedAs start at t n b = ((at n).here.task ≡ b.here.task) × (start n ≡ t)

-- the events of a turn start the children begun in it, numbered on
pub started_now : (clock : Clock) (start : ℕ → ℕ) (at : ℕ → Started) (child : ℕ → ℕ) (t : ℕ) (ls : List Label) (n : ℕ) (es : List Event)
    (bs : List Begun) → MadeAt clock t ls es → Starts n es bs →
    ((i : ℕ) (b : Begun) → slice_get bs i ≡ Some b → IsStartedAs start at (tick_of clock (a_round_after clock t)) (child (n + i)) b) →
    AreStarted clock start at child es
started_now clock start at child t ls n [] bs made h are = tt
started_now clock start at child t ls n (noted u e ∷ es) bs made h are = started_now clock start at child t ls n es bs made.1 h are
started_now clock start at child t ls n (acts shared u done ∷ es) bs made h are = started_now clock start at child t ls n es bs made.1 h are
started_now clock start at child t ls n (signs l u ∷ es) bs made h are = started_now clock start at child t ls n es bs made.2 h are
started_now clock start at child t ls n (enters l u d ∷ es) bs made h are = started_now clock start at child t (l ∷ ls) n es bs made.1 h are
started_now clock start at child t ls n (starts i l u ∷ es) [] made h are = absurd h
started_now clock start at child t ls n (starts i l u ∷ es) (b ∷ bs) made h are =
    let is : i ≡ n = h.0 in
    let first : i ≡ n + 0 = omega (arith, is) in
    let o = are zero b refl in (
      ap (λ (x : ℕ). (at (child x)).here.task) first ∙ (o.0 ∙ sym h.2),
      ap (λ (x : ℕ). start (child x)) first ∙ (o.1 ∙ ap (tick_of clock) (sym made.0)),
      started_now clock start at child t ls (suc n) es bs made.1 h.3
          (λ j c e. let on : n + suc j ≡ suc n + j = omega arith in subst (λ (x : ℕ). IsStartedAs start at
          (tick_of clock (a_round_after clock t)) (child x) c) on
          (are (suc j) c e)),
    )

-- ---- after a turn

module _ (k : Tables) (job : Job) (input : List ℕ) (t m s : ℕ) (old new : RunState) (before after : Task) (stop : Stop)
    (settled : IsSettledBy k job input) (names : GivesNamesOnce job)
    (starting : StartsInNurseries job) (c : Refines k job input t m None old)
    (T : Turning k job input t m s old new c.numbers before after stop c.interleaving) where
  abbrev numbers : ℕ → Numbers
  numbers = numbers_then c.numbers s m T.took.numbers_after

  abbrev q : Started
  q = c.interleaving.at s

  on : RunInvariant k c.interleaving.cancelled_from (root_result k job input) c.interleaving.tasks
  on = (runs_keep_invariant k job input settled names starting c.interleaving.cancelled_from t m c.interleaving.tasks c.interleaving.reached).0

  clock : new.world.clock ≡ old.world.clock
  clock = ap (λ (w : World). w.clock) T.code.world

  -- a serial number is that of the task, of one that was there, or of a new one
  abbrev Whose : ℕ → Type 0
  Whose p = (p ≡ s) ⊎ (((p < m) × (p ≢ s)) ⊎ ((i : ℕ) × (m + i ≡ p)))

  whose : (p : ℕ) → Whose p
  whose p = by_order (same_or p s) (cases_lt p m)
    where
      by_order : (p ≡ s) ⊎ (p ≢ s) → (p < m) ⊎ (m ≤ p) → Whose p
      by_order (inl e) o = inl e
      by_order (inr differs) (inl below) = inr (inl (below, differs))
      by_order (inr differs) (inr le) = inr (inr (p - m, omega (arith, le)))

  none_born : (p : ℕ) → m + length T.move.begun ≤ p → new.task p ≡ None
  none_born p le =
      let is : m + (p - m) ≡ p = omega (arith, le) in
      let count : length T.took.tasks ≡ length T.move.begun = tasks_long T in
      ap new.task (sym is) ∙ (T.child_after (p - m) ∙ past_length T.took.tasks (p - m) (omega (arith, count, le)))

  -- ---- which tasks have ended

  -- no scope has a label that such a task entered
  none_has : (p : ℕ) → p < m → old.task p ≡ None → (l : Label) → IsAmong l (entered_made (c.interleaving.at p).made) → (key : ℕ) →
      label_at old.world key ≡ Some l → ⊥
  none_has p below ended l i key e =
      let x = c.owned key (c.labelled key l e) in
      let same : x.0 ≡ p = one_entered c.interleaving settled names starting l x.0 p (below_of c x.0 x.1.task x.1.lives) below
      (opened_entered c key x.0 l x.1 e) i in
      not_both ended (ap old.task (sym same) ∙ x.1.lives)

  ended_other : (p : ℕ) → p < m → p ≢ s → old.task p ≡ None → (g : EndedTask) × (new.ended_task p ≡ Some g) × HasEnded old.world.clock T.is.cancelled_from input
      t (T.is.at p) g
  ended_other p below differs e = (
    g.0,
    T.code.ended_task_after p ∙ g.1,
    subst (λ (x : Started). HasEnded old.world.clock T.is.cancelled_from input t x g.0)
        (sym (T.of_other p below differs)) still,
  )
    where
      g : (g : EndedTask) × (old.ended_task p ≡ Some g) × HasEnded old.world.clock c.interleaving.cancelled_from input t (c.interleaving.at p) g
      g = c.ended p below e

      same_from : (l : Label) → IsAmong l (entered_made (c.interleaving.at p).made) → T.is.cancelled_from l ≡ c.interleaving.cancelled_from l
      same_from l i = ap (λ (f : Table). f l) T.cancelled_from
          ∙ (unmoved (IsEntered c.interleaving.at) c.interleaving.cancelled_from l T.took.acts (none_has p below e l i) (p, i) T.fresh).0

      still : HasEnded old.world.clock T.is.cancelled_from input t (c.interleaving.at p) g.0
      still =
          record {
            label = g.2.label;
            end = g.2.end;
            stopped = g.2.stopped;
            tick = g.2.tick;
            before = g.2.before;
            notes = g.2.notes;
            cancelled_from = g.2.cancelled_from ∙ sym (cancelled_from_same c.interleaving.cancelled_from T.is.cancelled_from (entered_made (c.interleaving.at p).made) same_from);
          }

  ended_after : (p : ℕ) → p < m + length T.move.begun → new.task p ≡ None → (g : EndedTask) × (new.ended_task p ≡ Some g)
      × HasEnded old.world.clock T.is.cancelled_from input t (T.is.at p) g
  ended_after p less e = by_whose (whose p)
    where
      by_whose : Whose p → (g : EndedTask) × (new.ended_task p ≡ Some g) × HasEnded old.world.clock T.is.cancelled_from input t (T.is.at p) g
      by_whose (inl is) = absurd (not_both e (ap new.task is ∙ T.code.task_after))
      by_whose (inr (inl o)) = ended_other p o.0 o.1 (sym (T.code.other_after p o.0 o.1) ∙ e)
      by_whose (inr (inr i)) =
          let count : length T.took.tasks ≡ length T.move.begun = tasks_long T in
          let is : m + i.0 ≡ p = i.1 in
          let x = nth T.took.tasks i.0 (omega (arith, count, is, less)) in
          absurd (not_both e (ap new.task (sym is) ∙ (T.child_after i.0 ∙ x.1)))

  -- ---- scopes

  -- the task that opened a scope that is none of this task's is another
  differs_by : (key p : ℕ) → AreOthers key before.own.items → OpenedBy old key p → p ≢ s
  differs_by key p others o e =
      let is : o.task ≡ before = one_of o.task before (sym o.lives ∙ (ap old.task e ∙ T.code.task)) in
      all_got (λ (x : Own). x.id ≢ key) before.own.items o.index o.scope others
      (sym (ap (λ (z : Task). slice_get z.own.items o.index) is) ∙ o.own) o.is

  opened_on : (key p : ℕ) → p ≢ s → OpenedBy old key p → OpenedBy new key p
  opened_on key p differs o =
      record {
        task = o.task;
        lives = T.code.other_after p (below_of c p o.task o.lives) differs ∙ o.lives;
        index = o.index;
        scope = o.scope;
        own = o.own;
        is = o.is;
      }

  opened_back : (key p : ℕ) → p < m → p ≢ s → OpenedBy new key p → OpenedBy old key p
  opened_back key p below differs o =
      record {
        task = o.task;
        lives = sym (T.code.other_after p below differs) ∙ o.lives;
        index = o.index;
        scope = o.scope;
        own = o.own;
        is =
            o.is;
      }

  owned_after : (key : ℕ) → IsOpen new.world.scopes key → (p : ℕ) × OpenedBy new key p
  owned_after key opens = by_own (own_or key after.own.items)
    where
      by_own : AreOthers key after.own.items ⊎ ((i : ℕ) × (o : Own) × (slice_get after.own.items i ≡ Some o) × (o.id ≡ key)) → (p : ℕ)
          × OpenedBy new key p
      by_own (inl others) =
          let was : IsElse key (scoping_of before old.world) = else_acts T.took.acts (opens, others) in
          let x = c.owned key was.0 in
          (x.0, opened_on key x.0 (differs_by key x.0 was.1 x.1) x.1)
      by_own (inr h) = (s, record { task = after; lives = T.code.task_after; index = h.0; scope = h.1; own = h.2; is = h.3 })

  -- no scope is the task's and that of another
  not_both_own : (key u : ℕ) → u < m → u ≢ s → OpenedBy new key s → OpenedBy new key u → ⊥
  not_both_own key u below differs mine theirs =
      all_got (λ (x : Own). x.id ≢ key) after.own.items mine.index mine.scope stay.others
      (sym (ap (λ (z : Task). slice_get z.own.items mine.index) is) ∙ mine.own) mine.is
    where
      o : OpenedBy old key u
      o = opened_back key u below differs theirs

      others : AreOthers key before.own.items
      others = subst (λ (i : ℕ). AreOthers i before.own.items) o.is (else_own c T u o.task differs o.lives o.scope o.index o.own)

      opens : IsOpen old.world.scopes key
      opens = subst (IsOpen old.world.scopes) o.is (own_open c u o.task o.lives o.scope o.index o.own)

      st : (x : Stack) × (stack_of old.world.scopes key ≡ Some x)
      st = open_stack old.world.scopes key opens

      stay : Stays key st.0 (scoping_of before old.world) (scoping_of after new.world)
      stay = stays T.took.acts (sound_of (scoping_of before old.world) T.code.sound) st.1 others

      is : mine.task ≡ after
      is = one_of mine.task after (sym mine.lives ∙ T.code.task_after)

  -- a new task opened none yet
  child_owns_none : (key i : ℕ) → OpenedBy new key (m + i) → ⊥
  child_owns_none key i o =
      let b = begun_at old.world.clock (a_round_after old.world.clock old.world.tick) T.took.numbers_after new.world.book
      (blocks_of after.frames.items) (waits_of after.task_state) T.took.tasks T.move.begun
      T.took.begun i o.task (sym (T.child_after i) ∙ o.lives) in
      not_both refl (sym (ap (λ (os : List Own). slice_get os o.index) b.2.own) ∙ o.own)

  apart_after : (key p u : ℕ) → OpenedBy new key p → OpenedBy new key u → p ≡ u
  apart_after key p u a b = by_both (whose p) (whose u)
    where
      by_both : Whose p → Whose u → p ≡ u
      by_both (inr (inr i)) w = absurd (child_owns_none key i.0 (subst (OpenedBy new key) (sym i.1) a))
      by_both (inl e) (inl f) = e ∙ sym f
      by_both (inl e) (inr (inl o)) = absurd (not_both_own key u o.0 o.1 (subst (OpenedBy new key) e a) b)
      by_both (inl e) (inr (inr i)) = absurd (child_owns_none key i.0 (subst (OpenedBy new key) (sym i.1) b))
      by_both (inr (inl o)) (inl f) = absurd (not_both_own key p o.0 o.1 (subst (OpenedBy new key) f b) a)
      by_both (inr (inl o)) (inr (inl v)) = c.apart key p u (opened_back key p o.0 o.1 a) (opened_back key u v.0 v.1 b)
      by_both (inr (inl o)) (inr (inr i)) = absurd (child_owns_none key i.0 (subst (OpenedBy new key) (sym i.1) b))

  -- ---- what was started

  same_label : (p : ℕ) → p < m → (T.is.at p).here.task ≡ (c.interleaving.at p).here.task
  same_label p below = by_same (same_or p s)
    where
      by_same : (p ≡ s) ⊎ (p ≢ s) → (T.is.at p).here.task ≡ (c.interleaving.at p).here.task
      by_same (inl e) =
          ap (λ (u : ℕ). (T.is.at u).here.task) e
          ∙ (ap (λ (x : Started). x.here.task) T.of_task ∙ sym (ap (λ (u : ℕ). (c.interleaving.at u).here.task) e))
      by_same (inr differs) = ap (λ (x : Started). x.here.task) (T.of_other p below differs)

  -- a child was there before the turn
  child_below : (p : ℕ) → p < m → (i : ℕ) → StartsChild i (c.interleaving.at p).made → (c.interleaving.at p).child i < m
  child_below p below i among =
      let x = c.interleaving.has p below in
      let kid : Kid c.interleaving.tasks (c.interleaving.at p) i = on.kids (c.interleaving.at p) x.0 i (on.numbered (c.interleaving.at p) x.0 i among) in
      subst (λ (n : ℕ). n < m) kid.serial (c.interleaving.one kid.kid kid.among).1

  same_child : (p : ℕ) → p < m → (i : ℕ) → StartsChild i (c.interleaving.at p).made →
      IsSameChild old.start new.start c.interleaving.at T.is.at (c.interleaving.at p).child (c.interleaving.at p).child i
  same_child p below i among =
      let lower : (c.interleaving.at p).child i < m = child_below p below i among in
      (same_label ((c.interleaving.at p).child i) lower, T.code.start_after ((c.interleaving.at p).child i) lower)

  started_mover : AreStarted old.world.clock new.start T.is.at (T.is.at s).child (T.is.at s).made
  started_mover =
      subst (λ (x : Started). AreStarted old.world.clock new.start T.is.at x.child x.made) (sym T.of_task)
      (started_join old.world.clock new.start T.is.at child q.made T.move.made
      (started_same old.world.clock old.start new.start c.interleaving.at T.is.at q.child child q.made same (c.started s T.below))
      (started_now old.world.clock new.start T.is.at child t (labels_of q.places) q.count T.move.made T.move.begun
      (subst (λ (clock : Clock). MadeAt clock t (labels_of q.places) T.move.made) (sym here_clock) T.promise.made_now) T.promise.starts
      are))
    where
      child : ℕ → ℕ
      child = child_from q.count q.child m

      same : (i : ℕ) → StartsChild i q.made → IsSameChild old.start new.start c.interleaving.at T.is.at q.child child i
      same i among =
          let e : child i ≡ q.child i = old_child q.count q.child m i (on.numbered q (c.interleaving.has s T.below).0 i among) in
          let o = same_child s T.below i among in
          (ap (λ (n : ℕ). (T.is.at n).here.task) e ∙ o.0, ap new.start e ∙ o.1)

      here_clock : old.world.clock ≡ q.here.clock
      here_clock = ap (λ (h : Here). h.clock) (c.follows s before T.code.task).here

      are : (i : ℕ) (b : Begun) → slice_get T.move.begun i ≡ Some b →
          IsStartedAs new.start T.is.at (tick_of old.world.clock (a_round_after old.world.clock t)) (child (q.count + i)) b
      are i b e =
          let f : m + (q.count + i - q.count) ≡ m + i = omega arith in
          let is : child (q.count + i) ≡ m + i = later_child q.count q.child m (q.count + i) (omega arith) ∙ f in (
            ap (λ (n : ℕ). (T.is.at n).here.task) is ∙ ap (λ (x : Started). x.here.task) (T.of_child i b e),
            ap new.start is
                ∙ T.start_child i (below_length T.move.begun i b e),
          )

  started_after : (p : ℕ) → p < m + length T.move.begun → AreStarted old.world.clock new.start T.is.at (T.is.at p).child (T.is.at p).made
  started_after p less = by_whose (whose p)
    where
      by_whose : Whose p → AreStarted old.world.clock new.start T.is.at (T.is.at p).child (T.is.at p).made
      by_whose (inl e) = subst (λ (u : ℕ). AreStarted old.world.clock new.start T.is.at (T.is.at u).child (T.is.at u).made) (sym e)
          started_mover
      by_whose (inr (inl o)) =
          subst (λ (x : Started). AreStarted old.world.clock new.start T.is.at x.child x.made) (sym (T.of_other p o.0 o.1))
          (started_same old.world.clock old.start new.start c.interleaving.at T.is.at (c.interleaving.at p).child
          (c.interleaving.at p).child (c.interleaving.at p).made
          (same_child p o.0) (c.started p o.0))
      by_whose (inr (inr i)) =
          let is : m + i.0 ≡ p = i.1 in
          let b = nth T.move.begun i.0 (omega (arith, is, less)) in
          subst (λ (x : Started). AreStarted old.world.clock new.start T.is.at x.child x.made)
          (sym (ap T.is.at (sym is) ∙ T.of_child i.0 b.0 b.1)) tt

  -- ---- all of it

  module _ (others : (u : ℕ) → u < m → u ≢ s → (task : Task) → old.task u ≡ Some task →
      Follows new T.is.cancelled_from input t T.is.at numbers (leaving_by stop s) u task) where
    follows_after : (p : ℕ) (task : Task) → new.task p ≡ Some task →
        Follows new T.is.cancelled_from input t T.is.at numbers (leaving_by stop s) p task
    follows_after p task e = by_whose (whose p)
      where
        by_whose : Whose p → Follows new T.is.cancelled_from input t T.is.at numbers (leaving_by stop s) p task
        by_whose (inl is) =
            subst (λ (u : ℕ). Follows new T.is.cancelled_from input t T.is.at numbers (leaving_by stop s) u task) (sym is)
            (subst (λ (x : Task). Follows new T.is.cancelled_from input t T.is.at numbers (leaving_by stop s) s x)
            (one_of after task (sym T.code.task_after ∙ (ap new.task (sym is) ∙ e)))
            (mover_follows k job input t m s old new before after stop c T (λ u le. ap entered_made (c.interleaving.none u le))
            (labels_apart c settled names starting) (labels_known c)))
        by_whose (inr (inl o)) = others p o.0 o.1 task (sym (T.code.other_after p o.0 o.1) ∙ e)
        by_whose (inr (inr i)) =
            subst (λ (u : ℕ). Follows new T.is.cancelled_from input t T.is.at numbers (leaving_by stop s) u task) i.1
            (child_follows k job input t m s old new before after stop c T
            (λ j b begun. T.inputs j b begun ∙ (c.follows s before T.code.task).input_is) i.0 task
            (sym (T.child_after i.0) ∙ (ap new.task i.1 ∙ e)) (leaving_by stop s))

    state_after : (x : Refines k job input t (m + length T.move.begun) (leaving_by stop s) new) × (x.interleaving.at ≡ T.is.at)
    state_after = (
      record {
        interleaving = T.is;
        numbers = numbers;
        counted = T.counts ∙ (ap (λ (n : ℕ). n + 1) c.counted ∙ sym T.code.turns);
        clock = clock ∙ c.clock;
        tick = ap (λ (w : World). w.tick) T.code.world ∙ c.tick;
        in_range = c.in_range;
        small = c.small;
        some = (let first : 0 < m = c.some in omega (arith, first));
        begun = T.code.start_after 0 c.some ∙ c.begun;
        unborn = λ p le. (none_born p le, T.code.ended_task_after p ∙ (c.unborn p (omega (arith, le))).1);
        ended = λ p less e. let g = ended_after p less e in
            (g.0, g.1, subst (λ (x : Clock). HasEnded x T.is.cancelled_from input t (T.is.at p) g.0) (sym clock) g.2);
        follows = follows_after;
        owned = owned_after;
        apart = apart_after;
        labelled = labelled_acts T.took.acts c.labelled;
        opened = events_acts T.took.acts c.opened;
        soon =
            λ key from e. subst (λ (v : ℕ). from ≤ suc v) c.tick
            (soon_acts T.took.acts (λ i x is. subst (λ (v : ℕ). x ≤ suc v) (sym c.tick) (c.soon i x is)) key from e);
        started = λ p less.
            subst (λ (x : Clock). AreStarted x new.start T.is.at (T.is.at p).child (T.is.at p).made) (sym clock) (started_after p less);
        children = children_kept k job input t m s old new before after stop settled names starting c T;
        through = inl (T.code.through_after ∙ T.code.unserved);
        path_of_root = T.code.path_after 0 c.some ∙ c.path_of_root;
        path_of_child = paths_turned k job input t m s old new before after stop settled names starting c T;
        shares = shares_turned k job input t m s old new before after stop settled names starting c T;
      },
      refl,
    )

-- The tasks of the program after a turn are those of the run after it, with the new tasks, if every other task that was there has
-- its relation to the run after it.
pub state_turned : {k : Tables} {job : Job} {input : List ℕ} {t m s : ℕ} {old new : RunState} {before after : Task} {stop : Stop} →
    (c : Refines k job input t m None old) →
    (T : Turning k job input t m s old new c.numbers before after stop c.interleaving) → IsSettledBy k job input → GivesNamesOnce job →
    StartsInNurseries job →
    ((u : ℕ) → u < m → u ≢ s → (task : Task) → old.task u ≡ Some task →
    Follows new T.is.cancelled_from input t T.is.at (numbers_then c.numbers s m T.took.numbers_after) (leaving_by stop s) u task) →
    (x : Refines k job input t (m + length T.move.begun) (leaving_by stop s) new) × (x.interleaving.at ≡ T.is.at)
state_turned {k} {job} {input} {t} {m} {s} {old} {new} {before} {after} {stop} c T settled names starting others =
    state_after k job input t m s old new before after stop settled names starting c T others
