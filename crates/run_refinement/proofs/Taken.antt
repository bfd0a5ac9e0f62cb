-- A turn of the code, with all that is known of it.
use Rattle.task_machine.specs.Tasks.{lent_of}
use Rattle.std.proofs.Common.{◌≡◌, ℕ, suc, ◌<◌, Option, Some, None, List, [], ◌∷◌, ◌++◌, length, refl, ap, ◌∙◌, subst, arith}
use Rattle.std.specs.List.{slice_get}
use Rattle.job_tree.specs.Tree.{Tree as Job}
use Rattle.job_tree.specs.Names.{GivesNamesOnce}
use Rattle.job_tree.specs.Starting.{StartsInNurseries}
use Rattle.job_meaning.specs.Log.{Table}
use Rattle.job_meaning.specs.Moments.{a_round_after, Now, only_at}
use Rattle.job_meaning.specs.declared.clock.Clock.{Clock}
use Rattle.job_meaning.specs.Walk.{Here}
use Rattle.interleavings.specs.Laws.{IsSettledBy}
use Rattle.job_meaning.specs.Rest as rest
use Rattle.nursery_book.specs.declared.book.NurseryBook.{NurseryBook}
use Rattle.turn_semantics.specs.Midway.{Tables, Place, Begun, Move}
use Rattle.turn_semantics.specs.Wakes as wakes
use Rattle.turn_semantics.specs.Wakes.{turn_from, CanWake}
use Rattle.turn_semantics.specs.Placed.{PlacedStop, outer_places}
use Rattle.turn_semantics.specs.Names.{NewIn}
use Rattle.turn_semantics.specs.Turned.{TurnsOver}
use Rattle.turn_semantics.proofs.Waking.{turned_from}
use Rattle.turn_semantics.proofs.Names.{turn_stays_new}
use Rattle.task_machine.specs.States.{State, state_of, here_at}
use Rattle.task_machine.specs.declared.stop.Stop.{Stop}
use Rattle.task_machine.specs.declared.stop.Wake.{Wake}
use Rattle.task_machine.specs.declared.stop.Wake.TheVariants.{Begin, Due, Seen, Answer, Settled, Granted}
use Rattle.task_machine.specs.declared.task.Task.{Task}
use Rattle.task_machine.specs.Fitting.{Block, blocks_of, Fits, waits_of}
use Rattle.task_machine.specs.Frames.{frames_of}
use Rattle.task_machine.specs.Standing.{AreBegun, TookTo, now_for, woken_at, TookTurn}
use Rattle.task_machine.specs.Stops.{Numbers, IsTaskState}
use Rattle.task_machine.specs.Waking.{wake_in}
use Rattle.task_machine.proofs.Stopping.{settled_from, stop_of}
use Rattle.interleavings.specs.Interleaving.{Started}
use Rattle.interleavings.specs.Woken.{MayWake}
use Rattle.run_refinement.specs.RunState.{Interleaving, RunState, Follows, Refines}
use Rattle.run_refinement.specs.Step.{TakesTurn}
use Rattle.run_refinement.specs.Turn.{serials_from}
use Rattle.run_refinement.specs.Turning.{Turning}
use Rattle.run_refinement.proofs.Inputs.{on_at, turn_on_input}
use Rattle.run_refinement.proofs.Goes.{may_can, WentOn, went_on}
use Rattle.run_refinement.proofs.Fresh.{fresh_after}
use Rattle.run_refinement.proofs.LabelsApart.{below_of}
use Rattle.interleavings.specs.Runs.{keeping}

-- as many tasks as children begun
pub begun_long : (clock : Clock) (at : ℕ) (numbers : Numbers) (book : NurseryBook) (bs : List Block) (waits : Option ℕ) (ts : List Task)
    (cs : List Begun) →
    AreBegun clock at numbers book bs waits ts cs →
    length ts ≡ length cs
begun_long clock at numbers book bs waits [] [] h = refl
begun_long clock at numbers book bs waits [] (c ∷ cs) h = absurd h
begun_long clock at numbers book bs waits (t ∷ ts) [] h = absurd h
begun_long clock at numbers book bs waits (t ∷ ts) (c ∷ cs) h = ap suc (begun_long clock at numbers book bs waits ts cs h.1)

-- a turn of the code starts as many tasks as that of the definitions begins children
pub tasks_long : {k : Tables} {job : Job} {input : List ℕ} {t m s : ℕ} {old new : RunState} {numbers : ℕ → Numbers} {before after : Task}
    {stop : Stop} {was : Interleaving k job input t m} →
    (T : Turning k job input t m s old new numbers before after stop was) → length T.took.tasks ≡ length T.move.begun
tasks_long {old = old} {new = new} {after = after} T =
    begun_long old.world.clock (a_round_after old.world.clock old.world.tick) T.took.numbers_after new.world.book
    (blocks_of after.frames.items) (waits_of after.task_state) T.took.tasks T.move.begun
    T.took.begun

-- ---- a turn of the definitions, at the moment, the point and the frames of a task

took_at : (v s u : State) (stop : Stop) (cancelled_from : Table) (numbers : Numbers) (n : ℕ) (w : wakes.Wake) (stopped : rest.Stopped)
    (ps : List Place) (count : ℕ) (was now : Now) (here : Here) (fs : List rest.Frame) → was ≡ now → here_at s ≡ here →
    frames_of numbers s.frames ≡ fs →
    TookTo v u stop cancelled_from numbers (turn_from n cancelled_from was (here_at s) w stopped (frames_of numbers s.frames) ps count) →
    TookTo v u stop cancelled_from numbers (turn_from n cancelled_from now here w stopped fs ps count)
took_at v s u stop cancelled_from numbers n w stopped ps count was now here fs moment at held h =
    subst (λ (gs : List rest.Frame). TookTo v u stop cancelled_from numbers (turn_from n cancelled_from now here w stopped gs ps count)) held
    (subst (λ (x : Here). TookTo v u stop cancelled_from numbers (turn_from n cancelled_from now x w stopped (frames_of numbers s.frames) ps count)) at
    (subst (λ (x : Now). TookTo v u stop cancelled_from numbers (turn_from n cancelled_from x (here_at s) w stopped (frames_of numbers s.frames) ps count))
    moment
    h))

-- a task that wakes is in the world's moment
now_at_tick : (w : Wake) (s : State) (t : ℕ) → s.tick ≡ t → now_for w s ≡ record { at = t; own = (now_for w s).own }
now_at_tick Begin s t e = ap (λ (m : ℕ). only_at m) e
now_at_tick Due s t e = ap (λ (m : ℕ). only_at m) e
now_at_tick Seen s t e = ap (λ (m : ℕ). only_at m) e
now_at_tick (Granted grant) s t e = ap (λ (m : ℕ). only_at m) e
now_at_tick (Answer answer) s t e = ap (λ (m : ℕ). record { at = m; own = s.cancelled }) e
now_at_tick Settled s t e = ap (λ (m : ℕ). only_at m) e

-- What the code says of a turn is one turn of the definitions.
pub turning : (k : Tables) (job : Job) (input : List ℕ) (t m s : ℕ) (old new : RunState) (before after : Task) (wake : Wake) (stop : Stop) →
    IsSettledBy k job input → GivesNamesOnce job → StartsInNurseries job → (c : Refines k job input t m None old) →
    TakesTurn t m s old new before after wake stop → Fits (state_of before old.world) (waits_of before.task_state) →
    MayWake (keeping c.interleaving.cancelled_from k) c.interleaving.tasks (record { at = t; own = (now_for wake (state_of before old.world)).own })
    (c.interleaving.at s) (wake_in old.world.book before.task_state wake)
    (c.interleaving.at s).rest.stopped →
    Turning k job input t m s old new c.numbers before after stop c.interleaving
turning k job input t m s old new before after wake stop settled names starting c code fits may =
    record {
      woken_by = wake;
      code = code;
      below = less;
      fits = fits;
      over = λ id e. settled_from before.task_state (lent_of before) old.world.book wake id code.goes.fits e;
      wake = w;
      own = now.own;
      owns = refl;
      move = o;
      stopped = at_stop.0;
      stops = at_stop.1;
      took = took;
      woken = refl;
      steps = turn.steps;
      turned = refl;
      promise = promise;
      names = turn_stays_new turn.steps now q.here c.interleaving.cancelled_from w q.rest q.places q.count can
          (subst (λ (gs : List rest.Frame). NewIn gs (outer_places (Some q.rest.stopped) q.places)) f.frames f.stands.new) f.stands.stop f.stands.own;
      fresh = fresh_after k job input t m s now.own c.interleaving o at_stop.0 settled names starting less went;
      inputs = on_at q.here.input o.begun (turn_on_input turn.steps c.interleaving.cancelled_from now q.here w q.rest.stopped q.rest.frames q.places
          q.count);
      is = went.is;
      counts = went.counts;
      cancelled_from = went.cancelled_from;
      of_task = went.of_task;
      of_child = went.of_child;
      of_other = went.of_other;
      child_after = λ i. code.child_after i ∙ ap (λ (ts : List Task). slice_get ts i) started;
      start_child = λ i lt. code.start_child i (is_below i lt);
      more_children = code.more_children ∙ ap (λ (n : ℕ). old.children s ++ serials_from m n) (ap (λ (ts : List Task). length ts) started ∙ many);
      no_children = λ i lt. code.no_children i (is_below i lt);
    }
  where
    q : Started
    q = c.interleaving.at s

    f : Follows old c.interleaving.cancelled_from input t c.interleaving.at c.numbers None s before
    f = c.follows s before code.task

    less : s < m
    less = below_of c s before code.task

    now : Now
    now = record { at = t; own = (now_for wake (state_of before old.world)).own }

    w : wakes.Wake
    w = wake_in old.world.book before.task_state wake

    can : CanWake w q.rest.stopped
    can = may_can (keeping c.interleaving.cancelled_from k) c.interleaving.tasks now q w q.rest.stopped may

    turn : TookTurn (state_of before old.world) (state_of after new.world) wake stop c.interleaving.cancelled_from (c.numbers s) q.rest.stopped q.places q.count
    turn = code.turn c.interleaving.cancelled_from (c.numbers s) q.places q.count q.rest.stopped f.task_state f.stands

    o : Move
    o = turn_from turn.steps c.interleaving.cancelled_from now q.here w q.rest.stopped q.rest.frames q.places q.count

    took : TookTo (woken_at wake (state_of before old.world)) (state_of after new.world) stop c.interleaving.cancelled_from (c.numbers s) o
    took =
        took_at (woken_at wake (state_of before old.world)) (state_of before old.world) (state_of after new.world) stop c.interleaving.cancelled_from
        (c.numbers s) turn.steps w q.rest.stopped q.places q.count (now_for wake (state_of before old.world)) now q.here q.rest.frames
        (now_at_tick wake (state_of before old.world) t c.tick) f.here f.frames turn.took

    at_stop : (x : rest.Stopped) × (o.stopped ≡ Some x) × IsTaskState took.numbers_after new.world.book after.task_state x
    at_stop = stop_of old.world.clock took.numbers_after new.world.book (lent_of after) stop after.task_state o took.moves

    promise : TurnsOver q.stop now q.here c.interleaving.cancelled_from w q.rest q.places q.count o
    promise =
        turned_from turn.steps q.stop now q.here c.interleaving.cancelled_from w q.rest q.places q.count can
        (subst (λ (gs : List rest.Frame). PlacedStop q.rest.stopped gs q.places) f.frames f.stands.placed)

    went : WentOn k job input t m s now.own c.interleaving o at_stop.0
    went = went_on k job input t m s now.own c.interleaving w o at_stop.0 less may promise at_stop.1

    started : new.world.started.items ≡ took.tasks
    started = took.started ∙ ap (λ (ts : List Task). ts ++ took.tasks) code.none_left

    many : length took.tasks ≡ length o.begun
    many = begun_long old.world.clock (a_round_after old.world.clock old.world.tick) took.numbers_after new.world.book _ _ took.tasks
        o.begun took.begun

    is_below : (i : ℕ) → i < length o.begun → i < length new.world.started.items
    is_below i lt = let e = ap (λ (ts : List Task). length ts) started in omega (arith, e, many, lt)
