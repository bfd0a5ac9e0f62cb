-- What a turn promises of a task: its result is the same as before, and what it did, began and left.
use Rattle.std.specs.Prelude.{◌≡◌, ◌⊎◌, ℕ, suc, ◌+◌, ◌-◌, ◌<◌, Bool, true, false, Option, Some, None, List, [], ◌∷◌, length}
use Rattle.exceptions.specs.Exceptions.{Label}
use Rattle.cancel_scopes.specs.Sight.{Tick, earlier, seen}
use Rattle.job_meaning.specs.Log.{Act, asks, Log, nil, entry, sign, entered, act, task, Result, Table, same_label, tick_if}
use Rattle.job_meaning.specs.Moments.{a_round_after, Now}
use Rattle.job_meaning.specs.declared.clock.Clock.{Clock}
use Rattle.job_meaning.specs.declared.clock.Clock.TheVariants.{ByTicks as by_ticks, ByRounds as by_rounds}
use Rattle.job_meaning.specs.Walk.{Here}
use Rattle.job_meaning.specs.Before.{upto}
use Rattle.job_tree.specs.Starting.{StartsIn}
use Rattle.job_tree.specs.declared.object.Ask.{Ask}
use Rattle.job_meaning.specs.Rest.{Event, noted, signs, enters, acts, starts, ChildOutcomes, fill, Frame, Stopped, to_begin, asking, asleep, waiting_for, queued, giving_up, awaiting, at_end, Rest, rest_comes_to, rest_at_start, rest_weight, frames_weight, stop_weight, inside}
use Rattle.turn_semantics.specs.Lists.{Each, Exists, IsAmong}
use Rattle.turn_semantics.specs.Made.{EnteredLabel, SignedLabel, StartedChild, entered_in, signed_in, started_in, labels_entered}
use Rattle.turn_semantics.specs.Midway.{Place, label_among, Tables, by_tables, stack_at, Midway, Begun, Move, OwnFits, after_events, left_of, left_after, begun_comes_to}
use Rattle.turn_semantics.specs.Placed.{PlacedAfter, outer_places, home_after, KidsAfter, HasChild, HasChildAfter, AllHoused}
use Rattle.turn_semantics.specs.Wakes.{Wake, WakesBy}
use Rattle.turn_semantics.specs.Steps.{cancelled_from_after}

-- ---- what is required of a table

-- a table agrees with moments of cancellation at tick t on these enclosing scopes and nurseries: each from is the same, or both
-- are later than t
abbrev pub AgreesOn : ℕ → Table → Table → List Place → Type 0
AgreesOn t table cancelled_from ps = Each (λ (p : Place). upto (suc t) (table p.label) ≡ upto (suc t) (cancelled_from p.label)) ps

-- a table agrees at tick t with the deadline of each label that a task itself enters, according to its log
abbrev pub AgreesIn : ℕ → Table → Log → Type 0
AgreesIn t table nil = Unit {0}
AgreesIn t table (entry u e rest) = AgreesIn t table rest
AgreesIn t table (sign l u rest) = AgreesIn t table rest
AgreesIn t table (entered l u d rest) = (upto (suc t) (table l) ≡ upto (suc t) d) × AgreesIn t table rest
AgreesIn t table (act l u a rest) = AgreesIn t table rest
AgreesIn t table (task l s u e own rest) = AgreesIn t table rest

-- A table agrees at tick t with the deadlines of these labels that a move enters; or with those of all labels that the task
-- enters from before the move on, which is known for a settled table before it is known what the move enters.
abbrev pub AgreesAhead : ℕ → Table → Log → Log → Type 0
AgreesAhead t table made ahead = AgreesIn t table made ⊎ AgreesIn t table ahead

-- what is recorded of each child begun in moment t is the result of following the table from its start
abbrev pub AreOutcomes : ℕ → Tables → ChildOutcomes → List Begun → Type 0
AreOutcomes t table outcomes bs = Each (λ (b : Begun). outcomes b.number ≡ begun_comes_to table t b) bs

-- ---- what was made

-- the labels of enclosing scopes and nurseries
abbrev pub labels_of : List Place → List Label
labels_of [] = []
labels_of (p ∷ ps) = p.label ∷ labels_of ps

-- each enclosing scope or nursery has a label among these
abbrev pub AllKnown : List Place → List Label → Type 0
AllKnown ps ls = Each (λ (p : Place). IsAmong p.label ls) ps

-- the labels known after others were entered: those known before, and these
abbrev pub known_with : List Label → List Label → List Label
known_with ls [] = ls
known_with ls (l ∷ others) = known_with (l ∷ ls) others

-- the labels known after these events
abbrev pub known_after : List Label → List Event → List Label
known_after ls es = known_with ls (labels_entered es)

-- an act is in moment t, but for what was asked before
abbrev pub ActAt : ℕ → Act → ℕ → Type 0
ActAt t (asks ask part left) u = Unit {0}
ActAt t _ u = u ≡ t

-- each event is in moment t, but for the start of a child, which begins a round later, and for what was asked before; and each sign is for
-- a label that was known then: of a scope or nursery that enclosed the task before, or that was entered since
abbrev pub MadeAt : Clock → ℕ → List Label → List Event → Type 0
MadeAt clock t ls [] = Unit {0}
MadeAt clock t ls (noted u e ∷ es) = (u ≡ t) × MadeAt clock t ls es
MadeAt clock t ls (signs l u ∷ es) = (u ≡ t) × IsAmong l ls × MadeAt clock t ls es
MadeAt clock t ls (enters l u d ∷ es) = (u ≡ t) × MadeAt clock t (l ∷ ls) es
MadeAt clock t ls (acts l u a ∷ es) = ActAt t a u × MadeAt clock t ls es
MadeAt clock t ls (starts i l u ∷ es) = (u ≡ a_round_after clock t) × MadeAt clock t ls es

-- nothing is asked of a limiter or channel by these events
abbrev pub AsksNothing : List Event → Type 0
AsksNothing [] = Unit {0}
AsksNothing (acts l u (asks ask part left) ∷ es) = ⊥
AsksNothing (_ ∷ es) = AsksNothing es

-- a task leaves its queue in moment t, or it was granted what it asked
abbrev pub LeavesIn : ℕ → Tick → Type 0
LeavesIn t None = Unit {0}
LeavesIn t (Some u) = u ≡ t

-- the first of these events is what a task asked of the object of a label, in the moment in which it did so, and nothing else is asked
abbrev pub AsksFirst : ℕ → Option Label → Here → Ask → (since : ℕ) → List Event → Type 0
AsksFirst t None here ask since es = AsksNothing es
AsksFirst t (Some l) here ask since (acts k u (asks a part left) ∷ es) =
    (k ≡ l) × (u ≡ since) × (a ≡ ask) × (part ≡ here.part) × LeavesIn t left × AsksNothing es
AsksFirst t (Some l) here ask since _ = ⊥

-- A turn from a queue makes first what its task asked, of which it is known now whether it was granted, or left the queue. Nothing else
-- is asked in a turn.
abbrev pub AskedFirst : ℕ → Here → Option Stopped → List Frame → List Place → List Event → Type 0
AskedFirst t here (Some (queued object ask since body)) fs ps es = AsksFirst t (label_among true object ps) (inside fs here) ask since es
AskedFirst t here _ fs ps es = AsksNothing es

-- the children begun are those that were started, in order, and numbered consecutively from n
abbrev pub AreStarts : ℕ → List StartedChild → List Begun → Type 0
AreStarts n [] [] = Unit {0}
AreStarts n [] (b ∷ bs) = ⊥
AreStarts n (s ∷ ss) [] = ⊥
AreStarts n (s ∷ ss) (b ∷ bs) = (s.number ≡ n) × (b.number ≡ n) × (s.label ≡ b.here.task) × AreStarts (suc n) ss bs

abbrev pub Starts : ℕ → List Event → List Begun → Type 0
Starts n es bs = AreStarts n (started_in es) bs

-- each child is enclosed by scopes and nurseries with labels among these, and its own block is no nursery's body
abbrev pub BegunIn : List Label → List Begun → Type 0
BegunIn ls [] = Unit {0}
BegunIn ls (b ∷ bs) = AllKnown b.places ls × StartsIn false b.body × BegunIn ls bs

-- each child counts time by this clock
abbrev pub AllBy : Clock → List Begun → Type 0
AllBy clock bs = Each (λ (b : Begun). b.here.clock ≡ clock) bs

-- the first moment of a sign for a label
abbrev pub first_sign : Label → List SignedLabel → Tick
first_sign l [] = None
first_sign l (s ∷ ss) = earlier (tick_if (same_label l s.label) s.tick) (first_sign l ss)

abbrev pub made_sign : Label → List Event → Tick
made_sign l es = first_sign l (signed_in es)

-- the label is entered among these events
abbrev pub EntersIn : Label → List Event → Type 0
EntersIn l es = Exists (λ (e : EnteredLabel). l ≡ e.label) (entered_in es)

-- the label is entered among these events once, with this deadline
abbrev pub IsOnceWith : Label → Tick → List EnteredLabel → Type 0
IsOnceWith l d [] = ⊥
IsOnceWith l d (e ∷ es) =
    ((l ≡ e.label) × (d ≡ e.deadline) × (Exists (λ (o : EnteredLabel). l ≡ o.label) es → ⊥)) ⊎ (((l ≡ e.label) → ⊥) × IsOnceWith l d es)

abbrev pub EntersOnceWith : Label → Tick → List Event → Type 0
EntersOnceWith l d es = IsOnceWith l d (entered_in es)

-- ---- how it stopped

-- where moments are ticks, a task falls asleep only for a tick or more, and only if it sees no cancellation
abbrev pub FallsAsleep : Clock → ℕ → (seen_now : Bool) → Type 0
FallsAsleep by_ticks n seen_now = (0 < n) × (seen_now ≡ false)
FallsAsleep by_rounds n seen_now = Unit {0}

-- How a task stops in moment t, with these moments of cancellation after the turn: a sleep begins now; a task that is in a queue asked now, and
-- sees no cancellation; for a body that waits, and
-- for a task that gives up or ended, it is now.
abbrev pub StopsAt : Clock → ℕ → Table → Option Stopped → List Place → Type 0
StopsAt clock t cancelled_from None ps = Unit {0}
StopsAt clock t cancelled_from (Some to_begin) ps = ⊥
StopsAt clock t cancelled_from (Some (asking kernel purpose)) ps = Unit {0}
StopsAt clock t cancelled_from (Some (asleep paced n since)) ps = (since ≡ t) × FallsAsleep clock n (seen (stack_at cancelled_from ps).scopes t)
StopsAt clock t cancelled_from (Some (waiting_for event since)) ps = since ≡ t
StopsAt clock t cancelled_from (Some (queued object ask since body)) ps = (since ≡ t) × (seen (stack_at cancelled_from ps).scopes t ≡ false)
StopsAt clock t cancelled_from (Some (giving_up since)) ps = (since ≡ t) ⊎ (since ≡ suc t)
StopsAt clock t cancelled_from (Some (awaiting children ended e)) ps = ended ≡ t
StopsAt clock t cancelled_from (Some (at_end u e)) ps = u ≡ t

-- ---- weights

abbrev pub weight_of_stop : Option Stopped → ℕ
weight_of_stop None = 0
weight_of_stop (Some s) = stop_weight s

-- A task whose ask is refused gives up two rounds later, as at a checkpoint, where it has a turn in each of them: so many rounds it skips.
abbrev pub rounds_skipped : ℕ → Option Stopped → ℕ
rounds_skipped t None = 0
rounds_skipped t (Some (giving_up since)) = since - t
rounds_skipped t (Some to_begin) = 0
rounds_skipped t (Some _) = 0

abbrev pub weight_of_begun : List Begun → ℕ
weight_of_begun [] = 0
weight_of_begun (b ∷ bs) = rest_weight (rest_at_start b.body) + weight_of_begun bs

-- ---- the promise

-- What a move begins with: the moment, the task, and the moments of cancellation of the world; whether the task had stopped, its
-- frames and its enclosing scopes and nurseries, and how many children it had started. `Given` is what else is required of a
-- table and of what is recorded of the children, `before` is the result of what was left of the task by them, and `bound` is
-- above the weight of what is left after the move.
pub record TurnContext : Type 1 where
  pub now : Now
  pub here : Here
  pub cancelled_from : Table
  pub Given : Tables → ChildOutcomes → Type 0
  pub before : Tables → ChildOutcomes → Result
  pub bound : ℕ
  pub stopped : Option Stopped
  pub frames : List Frame
  pub places : List Place
  pub count : ℕ

-- What is promised of a move: of one step, of several, or of a whole turn with the wake before it.
pub record Turned (c : TurnContext) (o : Move) : Type 0 where
  -- For each table that agrees in the moment with the moments of cancellation of the scopes and nurseries that enclose the task,
  -- and with the deadlines of what the move enters, and each record of outcomes that fits the children begun: what was left
  -- results in the events made, followed by the result of what is left after the move. Of the table this requires only that it
  -- agrees in the moment with the moments of cancellation after the move: for others a sign takes effect from the next moment on.
  pub keeps :
      (table : Tables) (outcomes : ChildOutcomes) → c.Given table outcomes → AgreesOn c.now.at table.cancelled_from c.cancelled_from c.places →
      AgreesAhead c.now.at table.cancelled_from (fill outcomes o.made) (c.before table outcomes).log →
      AreOutcomes (a_round_after c.here.clock c.now.at) table outcomes o.begun → c.before table outcomes ≡ after_events outcomes o.made (left_after table outcomes c.here c.now o)
  -- the frames that are left fit the enclosing scopes and nurseries
  pub placed : PlacedAfter o.stopped o.frames o.places
  -- outside the scopes and nurseries of the task's own frames are those of its home, as before
  pub at_home : home_after o.stopped o.frames o.places ≡ home_after c.stopped c.frames c.places
  -- the numbers of children in its nurseries stay below the count
  pub kids : KidsAfter c.count c.stopped c.frames → KidsAfter (c.count + length o.begun) o.stopped o.frames
  -- each child begun belongs to a nursery of the task, and is enclosed by it and those that enclose it
  pub housed : AllHoused o.begun o.stopped o.frames o.places
  -- and each child of a nursery whose body had not ended stays in it
  pub stays :
      (i : ℕ) (home : List Place) → HasChild i home c.frames (outer_places c.stopped c.places) →
      HasChildAfter i home o.stopped o.frames o.places
  -- each event is made now, and signs are for labels of scopes and nurseries that enclose the task
  pub made_now : MadeAt c.here.clock c.now.at (labels_of c.places) o.made
  -- what the task had asked is made first, and nothing else is asked
  pub asked : AskedFirst c.now.at c.here c.stopped c.frames c.places o.made
  -- each scope or nursery that encloses the task did so before, or was entered on the way
  pub places : AllKnown o.places (known_after (labels_of c.places) o.made)
  -- the children begun are the starts made, in order, numbered after those before
  pub starts : Starts c.count o.made o.begun
  -- each is enclosed by scopes and nurseries that enclosed its starter or were entered on the way, and its block is no
  -- nursery's body
  pub begun_in : BegunIn (known_after (labels_of c.places) o.made) o.begun
  -- and counts time as its starter does
  pub clocks : AllBy c.here.clock o.begun
  -- how the task stopped
  pub stops : StopsAt c.here.clock c.now.at (cancelled_from_after c.cancelled_from o.made) o.stopped o.places
  -- the weight of what is left, the children's included, is less than the bound, by one more for a round that is skipped
  pub weight : weight_of_stop o.stopped + frames_weight o.frames + weight_of_begun o.begun + rounds_skipped c.now.at o.stopped < c.bound

-- the promise of steps of a task that is in the middle of a turn
abbrev pub Goes : Now → Here → Table → Midway → Move → Type 0
Goes now here cancelled_from m o =
    Turned (record {
      now = now;
      here = here;
      cancelled_from = cancelled_from;
      Given = λ table outcomes. OwnFits here.clock now.own;
      before = λ table outcomes. left_of table outcomes here now m;
      bound = 1 + frames_weight m.frames;
      stopped = None;
      frames = m.frames;
      places = m.places;
      count = m.count;
    }) o

-- the promise of a turn of a task that stopped in one moment, and wakes in another one by this wake
abbrev pub TurnsOver : Now → Now → Here → Table → Wake → Rest → List Place → ℕ → Move → Type 0
TurnsOver u now here cancelled_from w rest ps count o =
    Turned (record {
      now = now;
      here = here;
      cancelled_from = cancelled_from;
      Given = λ table outcomes. WakesBy table outcomes (inside rest.frames here) u now w rest.stopped ps;
      before = λ table outcomes. rest_comes_to (by_tables table) outcomes rest here (stack_at table.cancelled_from ps) u;
      bound = rest_weight rest;
      stopped = Some rest.stopped;
      frames = rest.frames;
      places = ps;
      count = count;
    }) o
