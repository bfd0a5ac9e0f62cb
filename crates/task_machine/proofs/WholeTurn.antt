-- A whole turn: the wake, and the steps after it.
use Rattle.std.proofs.Common.{◌≡◌, inl, ℕ, zero, ◌+◌, Option, Some, None, List, length, refl, sym, subst}
use Rattle.std.specs.Option.{option_map}
use Rattle.exceptions.specs.Exceptions.{Exc}
use Rattle.exceptions.specs.Held.{exc_of}
use Rattle.exceptions.specs.declared.exc.Exc as held
use Rattle.job_meaning.specs.Log.{Table}
use Rattle.job_meaning.specs.Moments.{Now}
use Rattle.job_meaning.specs.Walk.{Here}
use Rattle.job_meaning.specs.Rest as rest
use Rattle.job_meaning.specs.Rest.{Stopped, to_begin, asking, asleep, waiting_for, queued, giving_up, awaiting, at_end}
use Rattle.nursery_book.specs.declared.book.NurseryBook.{NurseryBook}
use Rattle.turn_semantics.specs.Midway.{Place, Midway, Move, then_move, own_after, now_after}
use Rattle.turn_semantics.specs.Placed.{PlacedAfter}
use Rattle.turn_semantics.specs.Names.{NewIn, OwnNames, names_at, StaysNew}
use Rattle.turn_semantics.specs.Steps.{cancelled_from_after, turn_of}
use Rattle.turn_semantics.specs.Wakes.{CanWake, from_start, from_asking, from_sleep, from_due, from_seen_waiting, from_set, from_granted, from_seen_queued, from_deadlock, from_giving_up, from_wait, turn_from}
use Rattle.turn_semantics.specs.Wakes as wakes
use Rattle.turn_semantics.proofs.Waking.{turned_from}
use Rattle.turn_semantics.proofs.Names.{turn_stays_new}
use Rattle.task_machine.specs.declared.stop.TaskState.{TaskState}
use Rattle.task_machine.specs.declared.stop.TaskState.TheVariants.{ToBegin, Asked, Asleep, Waiting, Queued, GivingUp, Awaits, Over}
use Rattle.task_machine.specs.declared.stop.Moved.TheVariants.{On, Stops}
use Rattle.task_machine.specs.declared.stop.Stop.{Stop}
use Rattle.task_machine.specs.declared.stop.Wake.{Wake}
use Rattle.task_machine.specs.declared.stop.Wake.TheVariants.{Begin, Due, Seen, Answer, Granted, Settled}
use Rattle.task_machine.specs.Frames.{frames_of, Lent}
use Rattle.task_machine.specs.Standing.{Stands, Took, StopsAfter, wake_at, TookTo, now_for, woken_at, TookTurn}
use Rattle.task_machine.specs.States.{State, here_at, now_at, lent_at}
use Rattle.task_machine.specs.Stops.{Numbers, IsTaskState, StopsAs}
use Rattle.task_machine.specs.Waking.{WakesFrom, wake_in}
use Rattle.task_machine.proofs.Cancelled.{own_on}
use Rattle.task_machine.proofs.Taking.{took_then}
use Rattle.task_machine.proofs.TurnGoes.{now_is}

-- a wake that fits the blocked state is possible after the stop
pub can_wake : (task_state : TaskState) (part : Lent) (book : NurseryBook) (numbers : Numbers) (w : Wake) (s : Stopped) → WakesFrom task_state part book w →
    IsTaskState numbers book task_state s → CanWake (wake_in book task_state w) s
can_wake (ToBegin x) part book numbers Begin to_begin f h = from_start
can_wake (ToBegin x) part book numbers Begin (asking l q) f h = absurd h
can_wake (ToBegin x) part book numbers Begin (asleep r2 m v) f h = absurd h
can_wake (ToBegin x) part book numbers Begin (waiting_for name v) f h = absurd h
can_wake (ToBegin x) part book numbers Begin (queued name a v steps) f h = absurd h
can_wake (ToBegin x) part book numbers Begin (giving_up v) f h = absurd h
can_wake (ToBegin x) part book numbers Begin (awaiting cs v e) f h = absurd h
can_wake (ToBegin x) part book numbers Begin (at_end v e) f h = absurd h
can_wake (ToBegin x) part book numbers Due to_begin f h = from_start
can_wake (ToBegin x) part book numbers Due (asking l q) f h = absurd h
can_wake (ToBegin x) part book numbers Due (asleep r2 m v) f h = absurd h
can_wake (ToBegin x) part book numbers Due (waiting_for name v) f h = absurd h
can_wake (ToBegin x) part book numbers Due (queued name a v steps) f h = absurd h
can_wake (ToBegin x) part book numbers Due (giving_up v) f h = absurd h
can_wake (ToBegin x) part book numbers Due (awaiting cs v e) f h = absurd h
can_wake (ToBegin x) part book numbers Due (at_end v e) f h = absurd h
can_wake (ToBegin x) part book numbers Seen s f h = absurd f
can_wake (ToBegin x) part book numbers (Answer a) s f h = absurd f
can_wake (ToBegin x) part book numbers (Granted grant) s f h = absurd f
can_wake (ToBegin x) part book numbers Settled s f h = absurd f
can_wake (Asked k p) part book numbers Begin s f h = absurd f
can_wake (Asked k p) part book numbers Due s f h = absurd f
can_wake (Asked k p) part book numbers Seen s f h = absurd f
can_wake (Asked k p) part book numbers (Answer a) to_begin f h = absurd h
can_wake (Asked k p) part book numbers (Answer a) (asking l q) f h = from_asking
can_wake (Asked k p) part book numbers (Answer a) (asleep r2 m v) f h = absurd h
can_wake (Asked k p) part book numbers (Answer a) (waiting_for name v) f h = absurd h
can_wake (Asked k p) part book numbers (Answer a) (queued name b v steps) f h = absurd h
can_wake (Asked k p) part book numbers (Answer a) (giving_up v) f h = absurd h
can_wake (Asked k p) part book numbers (Answer a) (awaiting cs v e) f h = absurd h
can_wake (Asked k p) part book numbers (Answer a) (at_end v e) f h = absurd h
can_wake (Asked k p) part book numbers (Granted grant) s f h = absurd f
can_wake (Asked k p) part book numbers Settled s f h = absurd f
can_wake (Asleep r n u) part book numbers Begin s f h = absurd f
can_wake (Asleep r n u) part book numbers Due to_begin f h = absurd h
can_wake (Asleep r n u) part book numbers Due (asking l q) f h = absurd h
can_wake (Asleep r n u) part book numbers Due (asleep r2 m v) f h = from_due
can_wake (Asleep r n u) part book numbers Due (waiting_for name v) f h = absurd h
can_wake (Asleep r n u) part book numbers Due (queued name a v steps) f h = absurd h
can_wake (Asleep r n u) part book numbers Due (giving_up v) f h = absurd h
can_wake (Asleep r n u) part book numbers Due (awaiting cs v e) f h = absurd h
can_wake (Asleep r n u) part book numbers Due (at_end v e) f h = absurd h
can_wake (Asleep r n u) part book numbers Seen to_begin f h = absurd h
can_wake (Asleep r n u) part book numbers Seen (asking l q) f h = absurd h
can_wake (Asleep r n u) part book numbers Seen (asleep r2 m v) f h = from_sleep
can_wake (Asleep r n u) part book numbers Seen (waiting_for name v) f h = absurd h
can_wake (Asleep r n u) part book numbers Seen (queued name a v steps) f h = absurd h
can_wake (Asleep r n u) part book numbers Seen (giving_up v) f h = absurd h
can_wake (Asleep r n u) part book numbers Seen (awaiting cs v e) f h = absurd h
can_wake (Asleep r n u) part book numbers Seen (at_end v e) f h = absurd h
can_wake (Asleep r n u) part book numbers (Answer a) s f h = absurd f
can_wake (Asleep r n u) part book numbers (Granted grant) s f h = absurd f
can_wake (Asleep r n u) part book numbers Settled s f h = absurd f
can_wake (Waiting event u) part book numbers Begin s f h = absurd f
can_wake (Waiting event u) part book numbers Due to_begin f h = absurd h
can_wake (Waiting event u) part book numbers Due (asking l q) f h = absurd h
can_wake (Waiting event u) part book numbers Due (asleep r2 m v) f h = absurd h
can_wake (Waiting event u) part book numbers Due (waiting_for name v) f h = from_set
can_wake (Waiting event u) part book numbers Due (queued name a v steps) f h = absurd h
can_wake (Waiting event u) part book numbers Due (giving_up v) f h = absurd h
can_wake (Waiting event u) part book numbers Due (awaiting cs v e) f h = absurd h
can_wake (Waiting event u) part book numbers Due (at_end v e) f h = absurd h
can_wake (Waiting event u) part book numbers Seen to_begin f h = absurd h
can_wake (Waiting event u) part book numbers Seen (asking l q) f h = absurd h
can_wake (Waiting event u) part book numbers Seen (asleep r2 m v) f h = absurd h
can_wake (Waiting event u) part book numbers Seen (waiting_for name v) f h = from_seen_waiting
can_wake (Waiting event u) part book numbers Seen (queued name a v steps) f h = absurd h
can_wake (Waiting event u) part book numbers Seen (giving_up v) f h = absurd h
can_wake (Waiting event u) part book numbers Seen (awaiting cs v e) f h = absurd h
can_wake (Waiting event u) part book numbers Seen (at_end v e) f h = absurd h
can_wake (Waiting event u) part book numbers (Answer a) s f h = absurd f
can_wake (Waiting event u) part book numbers (Granted grant) s f h = absurd f
can_wake (Waiting event u) part book numbers Settled s f h = absurd f
can_wake (Queued object a u body) part book numbers Begin s f h = absurd f
can_wake (Queued object a u body) part book numbers Due to_begin f h = absurd h
can_wake (Queued object a u body) part book numbers Due (asking l q) f h = absurd h
can_wake (Queued object a u body) part book numbers Due (asleep r2 m v) f h = absurd h
can_wake (Queued object a u body) part book numbers Due (waiting_for name v) f h = absurd h
can_wake (Queued object a u body) part book numbers Due (queued name b v steps) f h = from_deadlock
can_wake (Queued object a u body) part book numbers Due (giving_up v) f h = absurd h
can_wake (Queued object a u body) part book numbers Due (awaiting cs v e) f h = absurd h
can_wake (Queued object a u body) part book numbers Due (at_end v e) f h = absurd h
can_wake (Queued object a u body) part book numbers Seen to_begin f h = absurd h
can_wake (Queued object a u body) part book numbers Seen (asking l q) f h = absurd h
can_wake (Queued object a u body) part book numbers Seen (asleep r2 m v) f h = absurd h
can_wake (Queued object a u body) part book numbers Seen (waiting_for name v) f h = absurd h
can_wake (Queued object a u body) part book numbers Seen (queued name b v steps) f h = from_seen_queued
can_wake (Queued object a u body) part book numbers Seen (giving_up v) f h = absurd h
can_wake (Queued object a u body) part book numbers Seen (awaiting cs v e) f h = absurd h
can_wake (Queued object a u body) part book numbers Seen (at_end v e) f h = absurd h
can_wake (Queued object a u body) part book numbers (Answer answer) s f h = absurd f
can_wake (Queued object a u body) part book numbers (Granted grant) to_begin f h = absurd h
can_wake (Queued object a u body) part book numbers (Granted grant) (asking l q) f h = absurd h
can_wake (Queued object a u body) part book numbers (Granted grant) (asleep r2 m v) f h = absurd h
can_wake (Queued object a u body) part book numbers (Granted grant) (waiting_for name v) f h = absurd h
can_wake (Queued object a u body) part book numbers (Granted grant) (queued name b v steps) f h = from_granted
can_wake (Queued object a u body) part book numbers (Granted grant) (giving_up v) f h = absurd h
can_wake (Queued object a u body) part book numbers (Granted grant) (awaiting cs v e) f h = absurd h
can_wake (Queued object a u body) part book numbers (Granted grant) (at_end v e) f h = absurd h
can_wake (Queued object a u body) part book numbers Settled s f h = absurd f
can_wake (GivingUp u) part book numbers Begin s f h = absurd f
can_wake (GivingUp u) part book numbers Due to_begin f h = absurd h
can_wake (GivingUp u) part book numbers Due (asking l q) f h = absurd h
can_wake (GivingUp u) part book numbers Due (asleep r2 m v) f h = absurd h
can_wake (GivingUp u) part book numbers Due (waiting_for name v) f h = absurd h
can_wake (GivingUp u) part book numbers Due (queued name a v steps) f h = absurd h
can_wake (GivingUp u) part book numbers Due (giving_up v) f h = from_giving_up
can_wake (GivingUp u) part book numbers Due (awaiting cs v e) f h = absurd h
can_wake (GivingUp u) part book numbers Due (at_end v e) f h = absurd h
can_wake (GivingUp u) part book numbers Seen s f h = absurd f
can_wake (GivingUp u) part book numbers (Answer a) s f h = absurd f
can_wake (GivingUp u) part book numbers (Granted grant) s f h = absurd f
can_wake (GivingUp u) part book numbers Settled s f h = absurd f
can_wake (Awaits id u) part book numbers Begin s f h = absurd f
can_wake (Awaits id u) part book numbers Due to_begin f h = absurd h
can_wake (Awaits id u) part book numbers Due (asking l q) f h = absurd h
can_wake (Awaits id u) part book numbers Due (asleep r2 m v) f h = absurd h
can_wake (Awaits id u) part book numbers Due (waiting_for name v) f h = absurd h
can_wake (Awaits id u) part book numbers Due (queued name a v steps) f h = absurd h
can_wake (Awaits id u) part book numbers Due (giving_up v) f h = absurd h
can_wake (Awaits id u) part book numbers Due (awaiting cs v e) f h = from_wait
can_wake (Awaits id u) part book numbers Due (at_end v e) f h = absurd h
can_wake (Awaits id u) part book numbers Seen s f h = absurd f
can_wake (Awaits id u) part book numbers (Answer a) s f h = absurd f
can_wake (Awaits id u) part book numbers (Granted grant) s f h = absurd f
can_wake (Awaits id u) part book numbers Settled to_begin f h = absurd h
can_wake (Awaits id u) part book numbers Settled (asking l q) f h = absurd h
can_wake (Awaits id u) part book numbers Settled (asleep r2 m v) f h = absurd h
can_wake (Awaits id u) part book numbers Settled (waiting_for name v) f h = absurd h
can_wake (Awaits id u) part book numbers Settled (queued name a v steps) f h = absurd h
can_wake (Awaits id u) part book numbers Settled (giving_up v) f h = absurd h
can_wake (Awaits id u) part book numbers Settled (awaiting cs v e) f h = from_wait
can_wake (Awaits id u) part book numbers Settled (at_end v e) f h = absurd h
can_wake Over part book numbers Begin s f h = absurd f
can_wake Over part book numbers Due s f h = absurd f
can_wake Over part book numbers Seen s f h = absurd f
can_wake Over part book numbers (Answer a) s f h = absurd f
can_wake Over part book numbers (Granted grant) s f h = absurd f
can_wake Over part book numbers Settled s f h = absurd f

-- ---- the state of a task that continues after its wake

placed_on : (o : Move) (cancelled_from : Table) (t : Now) (here : Here) (count : ℕ) → o.stopped ≡ None →
    (let p = then_move o.stopped o (turn_of zero cancelled_from t here (record { frames = o.frames; places = o.places; exc = o.exc; count = count }))
    in PlacedAfter p.stopped p.frames p.places) →
    PlacedAfter None o.frames o.places
unfolding turn_of
placed_on o cancelled_from t here count e h =
    subst (λ (s : Option Stopped).
    (let p = then_move s o (turn_of zero cancelled_from t here (record { frames = o.frames; places = o.places; exc = o.exc; count = count })) in
    PlacedAfter p.stopped p.frames p.places)) e h

names_on : (o : Move) (cancelled_from : Table) (t : Now) (here : Here) (count : ℕ) → o.stopped ≡ None →
    StaysNew (then_move o.stopped o
    (turn_of zero cancelled_from t here (record { frames = o.frames; places = o.places; exc = o.exc; count = count }))) → NewIn o.frames o.places
    × OwnNames (names_at o.places)
unfolding turn_of
names_on o cancelled_from t here count e h =
    let k = subst (λ (s : Option Stopped). StaysNew (then_move s o
    (turn_of zero cancelled_from t here (record { frames = o.frames; places = o.places; exc = o.exc; count = count })))) e h in (k.frames, k.own)

-- a task that woke and continues is in the middle of its turn, where the wake of the definitions leaves it
pub wake_stands : (s u : State) (exc : Option held.Exc) (cancelled_from : Table) (numbers : Numbers) (ps : List Place) (count : ℕ)
    (stopped : Stopped) (w : wakes.Wake) → CanWake w stopped → Stands s cancelled_from numbers (Some stopped) ps →
    (took : Took s u (On exc) cancelled_from numbers (wake_at s w stopped cancelled_from numbers ps)) →
    Stands u (cancelled_from_after cancelled_from (wake_at s w stopped cancelled_from numbers ps).made) took.numbers_after None
    (wake_at s w stopped cancelled_from numbers ps).places
unfolding turn_from
wake_stands s u exc cancelled_from numbers ps count stopped w can stands took =
    let o = wake_at s w stopped cancelled_from numbers ps in
    let r : rest.Rest = record { stopped = stopped; frames = frames_of numbers s.frames } in
    let kept = (turned_from zero (now_at s) (now_at s) (here_at s) cancelled_from w r ps count can stands.placed).placed in
    let none : o.stopped ≡ None = took.moves.1 in
    let names = names_on o _ (now_after s.clock (now_at s) o.made) (here_at s) _ none
    (turn_stays_new zero (now_at s) (here_at s) cancelled_from w r ps count can stands.new stands.stop
    stands.own) in
    record {
      places = took.places;
      numbered = λ id has. took.nurseries.numbered id (inl has);
      placed = subst (λ (fs : List rest.Frame). PlacedAfter None fs o.places) (sym took.frames_after)
          (placed_on o _ (now_after s.clock (now_at s) o.made) (here_at s) _ none kept);
      new = subst (λ (fs : List rest.Frame). NewIn fs o.places) (sym took.frames_after) names.0;
      stop = tt;
      own = names.1;
      event = tt;
    }

-- ---- the whole turn

-- a turn from a state, in its moment
record TurnsIn (s u : State) (w : wakes.Wake) (stop : Stop) (cancelled_from : Table) (numbers : Numbers) (stopped : Stopped) (ps : List Place)
    (count : ℕ) : Type 0 where
  steps : ℕ
  took : TookTo s u stop cancelled_from numbers (turn_from steps cancelled_from (now_at s) (here_at s) w stopped (frames_of numbers s.frames) ps count)

-- it stopped in its wake
at_once : (s u : State) (w : wakes.Wake) (stop : Stop) (cancelled_from : Table) (numbers : Numbers) (ps : List Place) (count : ℕ)
    (stopped : Stopped) → TookTo s u stop cancelled_from numbers (wake_at s w stopped cancelled_from numbers ps) →
    TurnsIn s u w stop cancelled_from numbers stopped ps count
unfolding turn_from
at_once s u w stop cancelled_from numbers ps count stopped took =
    let o = wake_at s w stopped cancelled_from numbers ps in
    record {
      steps = zero;
      took = subst (λ (p : Move). TookTo s u stop cancelled_from numbers p) (sym (then_none o.stopped o _ took.moves.1)) took;
    }
  where
    then_none : (x : Option Stopped) (o q : Move) → StopsAs s.clock took.numbers_after u.book (lent_at u) stop u.task_state x →
        then_move x o q ≡ o
    then_none None o q h = absurd h
    then_none (Some x) o q h = refl

-- it went on, and stopped later
later_on : (s m u : State) (w : wakes.Wake) (exc : Option held.Exc) (stop : Stop) (cancelled_from : Table) (numbers : Numbers)
    (ps : List Place) (count : ℕ) (stopped : Stopped) → m.part ≡ s.part → m.label ≡ s.label → m.clock ≡ s.clock → m.tick ≡ s.tick →
    CanWake w stopped → Stands s cancelled_from numbers (Some stopped) ps →
    Took s m (On exc) cancelled_from numbers (wake_at s w stopped cancelled_from numbers ps) →
    StopsAfter m u (option_map exc_of exc) stop → TurnsIn s u w stop cancelled_from numbers stopped ps count
unfolding turn_from
later_on s m u w exc stop cancelled_from numbers ps count stopped part label clock tick can stands took steps =
    let k : Midway = record { frames = o.frames; places = o.places; exc = o.exc; count = count + length o.begun } in
    let x = steps (cancelled_from_after cancelled_from o.made) took.numbers_after o.places (count + length o.begun)
    (wake_stands s m exc cancelled_from numbers ps count stopped w can stands took) in
    record {
      steps = x.steps;
      took =
          took_then s m u exc (Stops stop) cancelled_from numbers o
          (turn_of x.steps (cancelled_from_after cancelled_from o.made) (now_after s.clock (now_at s) o.made) (here_at s) k) took
          (subst (λ (t : Now). TookTo m u stop (cancelled_from_after cancelled_from o.made) took.numbers_after
          (turn_of x.steps (cancelled_from_after cancelled_from o.made) t (here_at s) k)) now
          (subst (λ (h : Here). TookTo m u stop (cancelled_from_after cancelled_from o.made) took.numbers_after
          (turn_of x.steps (cancelled_from_after cancelled_from o.made) (now_at m) h k)) here
          (subst (λ (y : Midway). TookTo m u stop (cancelled_from_after cancelled_from o.made) took.numbers_after
          (turn_of x.steps (cancelled_from_after cancelled_from o.made) (now_at m) (here_at m) y))
          (same (frames_of took.numbers_after m.frames) o.frames (option_map exc_of exc) o.exc took.frames_after took.moves.0)
          x.took)))
          part clock tick;
    }
  where
    o : Move
    o = wake_at s w stopped cancelled_from numbers ps

    here : here_at m ≡ here_at s
    here = cc

    now : now_at m ≡ now_after s.clock (now_at s) o.made
    now = now_is m.tick s.tick m.cancelled (own_after s.clock s.cancelled o.made) tick
        (own_on s.clock s.cancelled m.cancelled o.made o.stopped took.moves.1 took.own)

    same : {ps : List Place} {n : ℕ} (fs gs : List rest.Frame) (d e : Option Exc) → fs ≡ gs → d ≡ e →
        (let y : Midway = record { frames = fs; places = ps; exc = d; count = n } in y)
        ≡ record { frames = gs; places = ps; exc = e; count = n }
    same fs gs d e f g = cc

-- ---- from the state in which the task was woken

-- where a task that wakes is in time
now_woken : (wake : Wake) (s : State) → now_at (woken_at wake s) ≡ now_for wake s
now_woken Begin s = refl
now_woken Due s = refl
now_woken Seen s = refl
now_woken (Answer answer) s = refl
now_woken (Granted grant) s = refl
now_woken Settled s = refl

-- what it cancelled before does not change its places
pub woken_stands : (wake : Wake) (s : State) (cancelled_from : Table) (numbers : Numbers) (stopped : Option Stopped) (ps : List Place) →
    Stands s cancelled_from numbers stopped ps → Stands (woken_at wake s) cancelled_from numbers stopped ps
woken_stands wake s cancelled_from numbers stopped ps stands =
    record {
      places = stands.places;
      numbered = stands.numbered;
      placed = stands.placed;
      new = stands.new;
      stop = stands.stop;
      own = stands.own;
      event = stands.event;
    }

turns_woken : (s u : State) (wake : Wake) (stop : Stop) (cancelled_from : Table) (numbers : Numbers) (ps : List Place) (count : ℕ)
    (stopped : Stopped) → TurnsIn (woken_at wake s) u (wake_in s.book s.task_state wake) stop cancelled_from numbers stopped ps count →
    TookTurn s u wake stop cancelled_from numbers stopped ps count
turns_woken s u wake stop cancelled_from numbers ps count stopped t =
    record {
      steps = t.steps;
      took =
          subst (λ (n : Now). TookTo (woken_at wake s) u stop cancelled_from numbers
          (turn_from t.steps cancelled_from n (here_at s) (wake_in s.book s.task_state wake) stopped (frames_of numbers s.frames) ps count))
          (now_woken wake s) t.took;
    }

-- it stopped in its wake
pub turns_at_once : (s u : State) (wake : Wake) (stop : Stop) (cancelled_from : Table) (numbers : Numbers) (ps : List Place) (count : ℕ)
    (stopped : Stopped) →
    TookTo (woken_at wake s) u stop cancelled_from numbers
    (wake_at (woken_at wake s) (wake_in s.book s.task_state wake) stopped cancelled_from numbers ps) →
    TookTurn s u wake stop cancelled_from numbers stopped ps count
turns_at_once s u wake stop cancelled_from numbers ps count stopped took =
    turns_woken s u wake stop cancelled_from numbers ps count stopped
    (at_once (woken_at wake s) u (wake_in s.book s.task_state wake) stop cancelled_from numbers ps count stopped took)

-- it went on, and stopped later
pub turns_later : (s m u : State) (wake : Wake) (exc : Option held.Exc) (stop : Stop) (cancelled_from : Table) (numbers : Numbers)
    (ps : List Place) (count : ℕ) (stopped : Stopped) → m.part ≡ s.part → m.label ≡ s.label → m.clock ≡ s.clock → m.tick ≡ s.tick →
    CanWake (wake_in s.book s.task_state wake) stopped → Stands s cancelled_from numbers (Some stopped) ps →
    Took (woken_at wake s) m (On exc) cancelled_from numbers
    (wake_at (woken_at wake s) (wake_in s.book s.task_state wake) stopped cancelled_from numbers ps) →
    StopsAfter m u (option_map exc_of exc) stop → TookTurn s u wake stop cancelled_from numbers stopped ps count
turns_later s m u wake exc stop cancelled_from numbers ps count stopped part label clock tick can stands took steps =
    turns_woken s u wake stop cancelled_from numbers ps count stopped
    (later_on (woken_at wake s) m u (wake_in s.book s.task_state wake) exc stop cancelled_from numbers ps count stopped part label clock tick can
    (woken_stands wake s cancelled_from numbers (Some stopped) ps stands) took steps)
