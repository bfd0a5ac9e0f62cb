-- An interleaving that agrees with a table: what is kept of each started task, and what holds of all of them together.
use Rattle.std.specs.Prelude.{◌≡◌, ℕ, suc, ◌+◌, ◌<◌, ◌≤◌, min, max, Bool, true, false, Option, Some, None, List, [], ◌∷◌, ◌⊎◌, if◌then◌else◌}
use Rattle.turn_semantics.specs.Lists.{Exists}
use Rattle.turn_semantics.specs.Made.{EnteredLabel, StartedChild, entered_in, started_in}
use Rattle.turn_semantics.specs.Lists.{IsAmong}
use Rattle.exceptions.specs.Exceptions.{Label}
use Rattle.cancel_scopes.specs.Sight.{Tick, sight}
use Rattle.job_meaning.specs.Log.{Log, nil, entry, sign, entered, act, task, Member, Result, same_label, least_sign, from_by, times_entered, Table}
use Rattle.job_meaning.specs.Moments.{a_round_after, wakes_at, Now, only_at}
use Rattle.job_meaning.specs.declared.clock.Clock.{Clock}
use Rattle.job_meaning.specs.Walk.{Stack, Here, last_grant, leaves_queue, sleep_result, pace_result, event_on, event_wait, latest}
use Rattle.job_meaning.specs.Before.{upto}
use Rattle.job_meaning.specs.Rest.{Event, ChildOutcomes, outcome_members, inside, Stopped, to_begin, asking, asleep, waiting_for, queued, giving_up, awaiting, at_end, Rest, rest_comes_to, task_comes_to}
use Rattle.job_meaning.specs.Sharing.{Granted}
use Rattle.turn_semantics.specs.Midway.{Place, label_among, Tables, by_tables, stack_at}
use Rattle.turn_semantics.specs.Placed.{PlacedStop}
use Rattle.turn_semantics.specs.Wakes.{set_at, ends_at, granted_to}
use Rattle.turn_semantics.specs.Turned.{made_sign}

-- ---- one started task

-- A started task. Its serial number distinguishes it from all others, and is never used again. It is at a point of the
-- job, enclosed by these scopes and nurseries (innermost first), since its last stop, in that moment, with that rest to do;
-- it has made these events and started `count` children, each of which has a serial number. The last three fields depend
-- on the tables that are followed, and no code keeps them: what is recorded of its children's outcomes, the task's whole
-- result, and the log of what it has left.
pub record Started : Type 0 where
  pub serial : ℕ
  pub here : Here
  pub places : List Place
  pub stop : Now
  pub rest : Rest
  pub made : List Event
  pub count : ℕ
  pub child : ℕ → ℕ
  pub outcomes : ChildOutcomes
  pub final_result : Result
  pub left : Log

-- another record of outcomes says the same of the children that a task has started
abbrev pub Tells : Started → ChildOutcomes → Type 0
Tells q outcomes = (i : ℕ) → i < q.count → outcomes i ≡ q.outcomes i

-- what a task has done and the result of its rest when the tables are followed are together its whole result
pub record Fits (k : Tables) (q : Started) : Type 0 where
  pub comes : (outcomes : ChildOutcomes) → Tells q outcomes → task_comes_to (by_tables k) outcomes q.made q.rest q.here (stack_at k.cancelled_from q.places) q.stop ≡ q.final_result
  pub lefts : (outcomes : ChildOutcomes) → Tells q outcomes → (rest_comes_to (by_tables k) outcomes q.rest q.here (stack_at k.cancelled_from q.places) q.stop).log ≡ q.left

-- ---- sums over what all tasks have done and what all have left

-- how often a label is among those that were entered
abbrev pub times_among : Label → List EnteredLabel → ℕ
times_among l [] = 0
times_among l (e ∷ es) = (if same_label l e.label then 1 else 0) + times_among l es

-- and how often it is entered among events
unfoldable pub times_made : Label → List Event → ℕ
times_made l es = times_among l (entered_in es)

-- as far as c, the first sign for a label among what all have done
unfoldable pub made_least : ℕ → Label → List Started → ℕ
made_least c l [] = c
made_least c l (q ∷ qs) = min (upto c (made_sign l q.made)) (made_least c l qs)

-- and among what all have done and have left
unfoldable pub all_least : ℕ → Label → List Started → ℕ
all_least c l [] = c
all_least c l (q ∷ qs) = min (min (upto c (made_sign l q.made)) (upto c (least_sign l q.left))) (all_least c l qs)

-- how often all together entered a label
unfoldable pub made_times : Label → List Started → ℕ
made_times l [] = 0
made_times l (q ∷ qs) = times_made l q.made + made_times l qs

-- and how often they entered it or have it left to enter
unfoldable pub all_times : Label → List Started → ℕ
all_times l [] = 0
all_times l (q ∷ qs) = (times_made l q.made + times_entered l q.left) + all_times l qs

-- a label is entered with a deadline, in a log
abbrev pub EnteredIn : Label → Tick → Log → Type 0
EnteredIn l d nil = ⊥
EnteredIn l d (entry t e rest) = EnteredIn l d rest
EnteredIn l d (sign m t rest) = EnteredIn l d rest
EnteredIn l d (entered m t x rest) = ((l ≡ m) × (d ≡ x)) ⊎ EnteredIn l d rest
EnteredIn l d (act m t a rest) = EnteredIn l d rest
EnteredIn l d (task m s u e own rest) = EnteredIn l d own ⊎ EnteredIn l d rest

-- and among events
abbrev pub EntersWith : Label → Tick → List Event → Type 0
EntersWith l d es = Exists (λ (e : EnteredLabel). (l ≡ e.label) × (d ≡ e.deadline)) (entered_in es)

-- a child with that number is started among events
abbrev pub StartsChild : ℕ → List Event → Type 0
StartsChild i es = Exists (λ (s : StartedChild). i ≡ s.number) (started_in es)

-- ---- all started tasks

-- the task that is child number i of q: it was started later, and its result is the one that is recorded for it
pub record Kid (qs : List Started) (q : Started) (i : ℕ) : Type 0 where
  pub kid : Started
  pub among : IsAmong kid qs
  pub serial : kid.serial ≡ q.child i
  pub later : q.serial < kid.serial
  pub same : kid.final_result ≡ q.outcomes i

-- The from of a label that was entered with deadline d. In the table it is determined by the deadline and the first of
-- all signs; in the run by the deadline and the first of the signs made so far.
pub record HasFrom (k f : Table) (whole : Log) (qs : List Started) (l : Label) (d : Tick) : Type 0 where
  pub settled : k l ≡ from_by d (least_sign l whole)
  pub kept : (c : ℕ) → upto (suc c) (f l) ≡ min (upto (suc c) d) (suc (made_least c l qs))

-- some task entered the label
pub record Entered (qs : List Started) (l : Label) : Type 0 where
  pub deadline : Tick
  pub by : Started
  pub among : IsAmong by qs
  pub made : EntersWith l deadline by.made

abbrev pub EachPlace : (Label → Type 0) → List Place → Type 0
EachPlace P [] = Unit {0}
EachPlace P (p ∷ ps) = P p.label × EachPlace P ps

-- the result of the task with serial number 0 is the whole result
pub record Root (whole : Result) (qs : List Started) : Type 0 where
  pub root : Started
  pub among : IsAmong root qs
  pub first : root.serial ≡ 0
  pub comes : root.final_result ≡ whole

-- the task that started q, earlier than q
pub record Parent (qs : List Started) (q : Started) : Type 0 where
  pub starter : Started
  pub among : IsAmong starter qs
  pub earlier : starter.serial < q.serial
  pub number : ℕ
  pub started : StartsChild number starter.made
  pub same : q.final_result ≡ starter.outcomes number

-- An interleaving that agrees with tables: k are the tables that are followed, f contains the moments of cancellation that the run
-- keeps, `whole` is the result of following k, and qs are all tasks ever started.
pub record RunInvariant (k : Tables) (f : Table) (whole : Result) (qs : List Started) : Type 0 where
  -- what each task has done and what it has left are its whole result
  pub fits : (q : Started) → IsAmong q qs → Fits k q
  -- the frames of each fit the scopes and nurseries that enclose it
  pub shape : (q : Started) → IsAmong q qs → PlacedStop q.rest.stopped q.rest.frames q.places
  -- the children are numbered, and each is a task
  pub numbered : (q : Started) → IsAmong q qs → (i : ℕ) → StartsChild i q.made → i < q.count
  pub kids : (q : Started) → IsAmong q qs → (i : ℕ) → i < q.count → Kid qs q i
  -- each task but the root was started by another
  pub parents : (q : Started) → IsAmong q qs → (q.final_result ≡ whole) ⊎ Parent qs q
  -- the signs of the whole are those made and those left to make
  pub signed : (c : ℕ) (l : Label) → upto c (least_sign l whole.log) ≡ all_least c l qs
  -- no label is entered twice
  pub once : (l : Label) → all_times l qs ≤ 1
  -- a sign was made only for a label that was entered
  pub made : (c : ℕ) (l : Label) → made_times l qs ≡ 0 → made_least c l qs ≡ c
  -- the table has the from of each label that is left to enter
  pub follows : (q : Started) → IsAmong q qs → (l : Label) (d : Tick) → EnteredIn l d q.left → k.cancelled_from l ≡ from_by d (least_sign l whole.log)
  -- the table and the run have the moments of cancellation of each label that was entered
  pub known : (q : Started) → IsAmong q qs → (l : Label) (d : Tick) → EntersWith l d q.made → HasFrom k.cancelled_from f whole.log qs l d
  -- each scope and nursery that encloses a task was entered
  pub placed : (q : Started) → IsAmong q qs → EachPlace (Entered qs) q.places
  pub root : Root whole qs

-- ---- when tasks continue

abbrev pub live : Stopped → Bool
live to_begin = true
live (at_end u e) = false
live _ = true

-- the result of a sleep, by `pace` or not
abbrev pub slept : Clock → (paced : Bool) → Stack → ℕ → ℕ → Result
slept clock false st n since = sleep_result clock st n since
slept clock true st n since = pace_result clock st n since

-- the moment in which a task that asked in moment `since` is granted something, or else leaves the queue
abbrev pub granted_or_left : Option Granted → ℕ → ℕ
granted_or_left None left = left
granted_or_left (Some g) left = g.at

abbrev pub leaves_by : Tables → Here → Option Label → (since : ℕ) → Stack → ℕ
leaves_by k here l since st =
    granted_or_left (granted_to k here l since st) (leaves_queue (sight st.scopes) (last_grant here.clock since))

-- the moment in which a task that stopped in moment t has its next turn; for one in a queue it is given
abbrev pub goes_on : Clock → ChildOutcomes → Stopped → Stack → (leaves t : ℕ) → ℕ
goes_on clock outcomes to_begin st leaves t = t
goes_on clock outcomes (asking kernel purpose) st leaves t = t
goes_on clock outcomes (asleep paced n since) st leaves t = min (slept clock paced st n since).end (wakes_at clock n since)
goes_on clock outcomes (waiting_for event since) st leaves t =
    min (event_wait clock st (event_on event st.events) (only_at since)).end (max (a_round_after clock since) (set_at clock (event_on event st.events) since))
goes_on clock outcomes (queued object ask since body) st leaves t = leaves
goes_on clock outcomes (giving_up since) st leaves t = suc since
goes_on clock outcomes (awaiting children ended exc) st leaves t = a_round_after clock (latest ended (outcome_members outcomes children))
goes_on clock outcomes (at_end u e) st leaves t = u

-- the moment in which a task leaves the queue that it is in, by tables, if it is in one
abbrev pub leaves_at : Tables → Stopped → Here → List Place → ℕ
leaves_at k (queued object ask since body) here ps = leaves_by k here (label_among true object ps) since (stack_at k.cancelled_from ps)
leaves_at k _ here ps = 0

-- the moment in which a started task has its next turn, according to tables
abbrev pub resumes : Tables → Started → ℕ
resumes k q =
    goes_on q.here.clock q.outcomes q.rest.stopped (stack_at k.cancelled_from q.places) (leaves_at k q.rest.stopped q.here q.places) q.stop.at

-- nothing that was not done yet happens before moment v
abbrev pub AllFrom : Tables → List Started → ℕ → Type 0
AllFrom k qs v = (q : Started) → IsAmong q qs → live q.rest.stopped ≡ true → v ≤ resumes k q

-- one of the children for which q waits has not ended: the task with its serial number is live
pub record Unended (qs : List Started) (q : Started) (children : List ℕ) : Type 0 where
  pub number : ℕ
  pub among : IsAmong number children
  pub below : number < q.count
  pub alive : (c : Started) → IsAmong c qs → c.serial ≡ q.child number → live c.rest.stopped ≡ true

-- how children ended, by their numbers, as members of their nursery
abbrev pub members_by : (ℕ → Member) → List ℕ → List Member
members_by ends [] = []
members_by ends (i ∷ is) = ends i ∷ members_by ends is

-- the children for which q waits have ended, and its nursery is left in moment u or later
pub record Settling (qs : List Started) (q : Started) (children : List ℕ) (ended u : ℕ) : Type 0 where
  pub ends : ℕ → Member
  pub numbers : (i : ℕ) → IsAmong i children → i < q.count
  pub over : (i : ℕ) → IsAmong i children → (c : Started) → IsAmong c qs → c.serial ≡ q.child i →
      c.rest.stopped ≡ at_end (ends i).end (ends i).exc
  pub later : u ≤ a_round_after q.here.clock (latest ended (members_by ends children))

-- A task has its next turn in moment u or later: it begins then; it is due then, or its event is set then, and it sees no
-- cancellation before, or its wait has not taken a round by then; it is in a queue by the moments that the run keeps and the grants of the
-- tables that are followed; or a child has not ended for which it waits.
abbrev pub StaysUntil : Tables → List Started → ℕ → Started → Stopped → Type 0
StaysUntil f qs u q to_begin = u ≤ q.stop.at
StaysUntil f qs u q (asking kernel purpose) = u ≤ q.stop.at
StaysUntil f qs u q (asleep paced n since) =
    (u ≤ wakes_at q.here.clock n since)
    × ((upto u (sight (stack_at f.cancelled_from q.places).scopes) ≡ u) ⊎ (u ≤ a_round_after q.here.clock since))
StaysUntil f qs u q (waiting_for event since) =
    (u ≤ max (a_round_after q.here.clock since) (ends_at q.here.clock f.cancelled_from event since q.places))
    × ((upto u (sight (stack_at f.cancelled_from q.places).scopes) ≡ u) ⊎ (u ≤ a_round_after q.here.clock since))
StaysUntil f qs u q (queued object ask since body) =
    u ≤ leaves_by f (inside q.rest.frames q.here) (label_among true object q.places) since (stack_at f.cancelled_from q.places)
StaysUntil f qs u q (giving_up since) = u ≤ suc since
StaysUntil f qs u q (awaiting children ended exc) = Unended qs q children ⊎ Settling qs q children ended u
StaysUntil f qs u q (at_end t e) = Unit {0}

-- each task has its next turn in moment u or later, by the moments that the run keeps and the grants of the tables that are followed
abbrev pub Blocked : Tables → List Started → ℕ → Type 0
Blocked f qs u = (q : Started) → IsAmong q qs → StaysUntil f qs u q q.rest.stopped
