-- What holds of each task of a run: its acts on limiters and channels were by now, who is in a queue saw no cancellation when it asked, and
-- its children have rising serial numbers.
use Rattle.std.proofs.Common.{◌≡◌, ◌⊎◌, inl, inr, ℕ, suc, ◌+◌, ◌≤◌, Bool, true, false, Option, Some, None, List, [], ◌∷◌, ◌++◌, length, refl, ap, sym, ◌∙◌, subst, arith}
use Rattle.exceptions.specs.Exceptions.{Label}
use Rattle.cancel_scopes.specs.Sight.{Tick, seen}
use Rattle.job_tree.specs.Tree.{Tree as Job}
use Rattle.job_tree.specs.Names.{GivesNamesOnce}
use Rattle.job_tree.specs.Starting.{StartsInNurseries}
use Rattle.job_tree.specs.declared.object.Ask.{Ask}
use Rattle.job_meaning.specs.Log.{Act, opens, asks, gives_back, closes, Table, same_label}
use Rattle.job_meaning.specs.Moments.{a_round_after, Now}
use Rattle.job_meaning.specs.declared.clock.Clock.{Clock}
use Rattle.job_meaning.specs.Sharing.{Done, done_if}
use Rattle.job_meaning.specs.Walk.{Here}
use Rattle.job_meaning.specs.Rest.{Event, noted, signs, enters, acts, starts, Frame, Stopped, to_begin, asking, asleep, waiting_for, queued, giving_up, awaiting, at_end, inside}
use Rattle.job_meaning.proofs.Clips.{seen_near}
use Rattle.turn_semantics.specs.Lists.{Each, IsAmong}
use Rattle.turn_semantics.specs.Midway.{Place, label_among, Tables, stack_at, Begun, Move}
use Rattle.turn_semantics.specs.Steps.{cancelled_from_after}
use Rattle.turn_semantics.specs.Turned.{AgreesOn, MadeAt, AsksNothing, LeavesIn, AsksFirst, AskedFirst, StopsAt, TurnsOver}
use Rattle.turn_semantics.specs.Wakes.{Wake}
use Rattle.interleavings.specs.Interleaving.{Started}
use Rattle.interleavings.specs.Acts.{acts_made, asked_on, acts_pending, acts_of, acts_of_all}
use Rattle.interleavings.specs.Going.{task_after_turn, children_from}
use Rattle.interleavings.specs.Laws.{IsSettledBy}
use Rattle.interleavings.specs.Runs.{Reached, begun, turn, jump}
use Rattle.interleavings.proofs.Contract.{near_places}
use Rattle.interleavings.proofs.Picking.{front_same}
use Rattle.interleavings.proofs.Readings.{in_either}
use Rattle.interleavings.proofs.Running.{runs_keep_invariant}

-- ---- acts by a moment

-- a task left its queue by this moment, if it did
abbrev pub LeftBy : ℕ → Tick → Type 0
LeftBy t None = Unit {0}
LeftBy t (Some u) = u ≤ t

abbrev pub ActBy : ℕ → Act → Type 0
ActBy t (opens kind) = Unit {0}
ActBy t (asks ask part left) = LeftBy t left
ActBy t gives_back = Unit {0}
ActBy t closes = Unit {0}

abbrev pub EventsBy : ℕ → List Event → Type 0
EventsBy t [] = Unit {0}
EventsBy t (acts l u a ∷ es) = (u ≤ t) × ActBy t a × EventsBy t es
EventsBy t (noted u e ∷ es) = EventsBy t es
EventsBy t (signs l u ∷ es) = EventsBy t es
EventsBy t (enters l u d ∷ es) = EventsBy t es
EventsBy t (starts i l u ∷ es) = EventsBy t es

left_later : (t v : ℕ) (left : Tick) → t ≤ v → LeftBy t left → LeftBy v left
left_later t v None le h = tt
left_later t v (Some u) le h = omega (arith, le, h)

act_later : (t v : ℕ) (a : Act) → t ≤ v → ActBy t a → ActBy v a
act_later t v (opens kind) le h = tt
act_later t v (asks ask part left) le h = left_later t v left le h
act_later t v gives_back le h = tt
act_later t v closes le h = tt

events_later : (t v : ℕ) (es : List Event) → t ≤ v → EventsBy t es → EventsBy v es
events_later t v [] le h = tt
events_later t v (acts l u a ∷ es) le h = (let e = h.0 in omega (arith, le, e), act_later t v a le h.1, events_later t v es le h.2)
events_later t v (noted u e ∷ es) le h = events_later t v es le h
events_later t v (signs l u ∷ es) le h = events_later t v es le h
events_later t v (enters l u d ∷ es) le h = events_later t v es le h
events_later t v (starts i l u ∷ es) le h = events_later t v es le h

events_append : (t : ℕ) (xs ys : List Event) → EventsBy t xs → EventsBy t ys → EventsBy t (xs ++ ys)
events_append t [] ys h k = k
events_append t (acts l u a ∷ xs) ys h k = (h.0, h.1, events_append t xs ys h.2 k)
events_append t (noted u e ∷ xs) ys h k = events_append t xs ys h k
events_append t (signs l u ∷ xs) ys h k = events_append t xs ys h k
events_append t (enters l u d ∷ xs) ys h k = events_append t xs ys h k
events_append t (starts i l u ∷ xs) ys h k = events_append t xs ys h k

-- acts that ask nothing are of the moment of the turn
events_now : (clock : Clock) (t : ℕ) (ls : List Label) (es : List Event) → MadeAt clock t ls es → AsksNothing es → EventsBy t es
events_now clock t ls [] h k = tt
events_now clock t ls (acts l u (opens kind) ∷ es) h k = (let e : u ≡ t = h.0 in omega (arith, e), tt, events_now clock t ls es h.1 k)
events_now clock t ls (acts l u (asks ask part left) ∷ es) h k = absurd k
events_now clock t ls (acts l u gives_back ∷ es) h k = (let e : u ≡ t = h.0 in omega (arith, e), tt, events_now clock t ls es h.1 k)
events_now clock t ls (acts l u closes ∷ es) h k = (let e : u ≡ t = h.0 in omega (arith, e), tt, events_now clock t ls es h.1 k)
events_now clock t ls (noted u e ∷ es) h k = events_now clock t ls es h.1 k
events_now clock t ls (signs l u ∷ es) h k = events_now clock t ls es h.2 k
events_now clock t ls (enters l u d ∷ es) h k = events_now clock t (l ∷ ls) es h.1 k
events_now clock t ls (starts i l u ∷ es) h k = events_now clock t ls es h.1 k

left_now : (t : ℕ) (left : Tick) → LeavesIn t left → LeftBy t left
left_now t None h = tt
left_now t (Some u) h = omega (arith, h)

-- and what was asked before comes first
first_by : (clock : Clock) (t : ℕ) (ls : List Label) (o : Option Label) (here : Here) (ask : Ask) (since : ℕ) (es : List Event) → since ≤ t →
    MadeAt clock t ls es → AsksFirst t o here ask since es → EventsBy t es
first_by clock t ls None here ask since es le h k = events_now clock t ls es h k
first_by clock t ls (Some l) here ask since [] le h k = absurd k
first_by clock t ls (Some l) here ask since (acts m u (asks a part left) ∷ es) le h k =
    (let e : u ≡ since = k.1 in omega (arith, e, le), left_now t left k.4, events_now clock t ls es h.1 k.5)
first_by clock t ls (Some l) here ask since (acts m u (opens kind) ∷ es) le h k = absurd k
first_by clock t ls (Some l) here ask since (acts m u gives_back ∷ es) le h k = absurd k
first_by clock t ls (Some l) here ask since (acts m u closes ∷ es) le h k = absurd k
first_by clock t ls (Some l) here ask since (noted u e ∷ es) le h k = absurd k
first_by clock t ls (Some l) here ask since (signs m u ∷ es) le h k = absurd k
first_by clock t ls (Some l) here ask since (enters m u d ∷ es) le h k = absurd k
first_by clock t ls (Some l) here ask since (starts i m u ∷ es) le h k = absurd k

-- ---- where a task stopped

-- who is in a queue asked by now, and saw no cancellation then
abbrev pub StopBy : Tables → ℕ → List Place → Stopped → Type 0
StopBy k t ps (queued object ask since body) = (since ≤ t) × (seen (stack_at k.cancelled_from ps).scopes since ≡ false)
StopBy k t ps to_begin = Unit {0}
StopBy k t ps _ = Unit {0}

stop_later : (k : Tables) (t v : ℕ) (ps : List Place) (s : Stopped) → t ≤ v → StopBy k t ps s → StopBy k v ps s
stop_later k t v ps (queued object ask since body) le h = (let e = h.0 in omega (arith, le, e), h.1)
stop_later k t v ps to_begin le h = tt
stop_later k t v ps (asking kernel purpose) le h = tt
stop_later k t v ps (asleep paced n since) le h = tt
stop_later k t v ps (waiting_for event since) le h = tt
stop_later k t v ps (giving_up since) le h = tt
stop_later k t v ps (awaiting children ended exc) le h = tt
stop_later k t v ps (at_end u e) le h = tt

stop_now : (k : Tables) (clock : Clock) (t : ℕ) (f : Table) (ps : List Place) (s : Stopped) → AgreesOn t k.cancelled_from f ps →
    StopsAt clock t f (Some s) ps → StopBy k t ps s
stop_now k clock t f ps (queued object ask since body) agrees h =
    (let e : since ≡ t = h.0 in omega (arith, e), unseen)
  where
    unseen : seen (stack_at k.cancelled_from ps).scopes since ≡ false
    unseen =
        ap (λ (u : ℕ). seen (stack_at k.cancelled_from ps).scopes u) h.0
        ∙ (seen_near (suc t) (stack_at k.cancelled_from ps).scopes (stack_at f ps).scopes t (near_places t k.cancelled_from f ps agrees).0 (omega arith)
        ∙ h.1)
stop_now k clock t f ps to_begin agrees h = tt
stop_now k clock t f ps (asking kernel purpose) agrees h = tt
stop_now k clock t f ps (asleep paced n since) agrees h = tt
stop_now k clock t f ps (waiting_for event since) agrees h = tt
stop_now k clock t f ps (giving_up since) agrees h = tt
stop_now k clock t f ps (awaiting children ended exc) agrees h = tt
stop_now k clock t f ps (at_end u e) agrees h = tt

-- the events of a turn of a task that stopped so
turn_by : (k : Tables) (clock : Clock) (t : ℕ) (ls : List Label) (here : Here) (fs : List Frame) (ps : List Place) (s : Stopped) (es : List Event) →
    StopBy k t ps s → MadeAt clock t ls es → AskedFirst t here (Some s) fs ps es → EventsBy t es
turn_by k clock t ls here fs ps (queued object ask since body) es h made asked =
    first_by clock t ls (label_among true object ps) (inside fs here) ask since es h.0 made asked
turn_by k clock t ls here fs ps to_begin es h made asked = events_now clock t ls es made asked
turn_by k clock t ls here fs ps (asking kernel purpose) es h made asked = events_now clock t ls es made asked
turn_by k clock t ls here fs ps (asleep paced n since) es h made asked = events_now clock t ls es made asked
turn_by k clock t ls here fs ps (waiting_for event since) es h made asked = events_now clock t ls es made asked
turn_by k clock t ls here fs ps (giving_up since) es h made asked = events_now clock t ls es made asked
turn_by k clock t ls here fs ps (awaiting children ended exc) es h made asked = events_now clock t ls es made asked
turn_by k clock t ls here fs ps (at_end u e) es h made asked = events_now clock t ls es made asked

-- ---- a run

-- all of a task is by this moment
pub record IsBy (k : Tables) (t : ℕ) (q : Started) : Type 0 where
  pub made : EventsBy t q.made
  pub stop : StopBy k t q.places q.rest.stopped

by_later : (k : Tables) (t v : ℕ) (q : Started) → t ≤ v → IsBy k t q → IsBy k v q
by_later k t v q le h =
    record { made = events_later t v q.made le h.made; stop = stop_later k t v q.places q.rest.stopped le h.stop }

begun_by : (k : Tables) (u t m : ℕ) (bs : List Begun) (x : Started) → IsAmong x (children_from k u m bs) → IsBy k t x
unfolding children_from
begun_by k u t m [] x i = absurd i
begun_by k u t m (b ∷ bs) x (inl e) = subst (λ (z : Started). IsBy k t z) (sym e) (record { made = tt; stop = tt })
begun_by k u t m (b ∷ bs) x (inr i) = begun_by k u t (suc m) bs x i

-- how a turn stops
stops_so : (k : Tables) (f : Table) (now : Now) (q : Started) (wake : Wake) (o : Move) (s : Stopped) →
    TurnsOver q.stop now q.here f wake q.rest q.places q.count o → o.stopped ≡ Some s →
    StopsAt q.here.clock now.at (cancelled_from_after f o.made) (Some s) o.places
stops_so k f now q wake o s w e =
    subst (λ (x : Option Stopped). StopsAt q.here.clock now.at (cancelled_from_after f o.made) x o.places) e w.stops

pub all_by : (k : Tables) (job : Job) (input : List ℕ) → IsSettledBy k job input → GivesNamesOnce job → StartsInNurseries job → (f : Table) (t m : ℕ)
    (qs : List Started) → Reached k job input f t m qs → (x : Started) → IsAmong x qs → IsBy k t x
all_by k job input settled names starting _ _ _ _ (begun f) x (inl e) =
    subst (λ (z : Started). IsBy k 0 z) (sym e) (record { made = tt; stop = tt })
all_by k job input settled names starting _ _ _ _ (begun f) x (inr i) = absurd i
all_by k job input settled names starting _ _ _ _ (jump f t u m qs r le blocked) x i =
    by_later k t u x le (all_by k job input settled names starting f t m qs r x i)
all_by k job input settled names starting _ _ _ _ (turn f now m q qs others wake o s r at may goes stops) x i =
    by_place x i (all_by k job input settled names starting f now.at m qs r)
  where
    after : List Started
    after = (task_after_turn k now m q o s ∷ children_from k (a_round_after q.here.clock now.at) m o.begun) ++ others

    agrees : AgreesOn now.at k.cancelled_from (cancelled_from_after f o.made) o.places
    agrees =
        (runs_keep_invariant k job input settled names starting (cancelled_from_after f o.made) now.at (m + length o.begun) after
        (turn f now m q qs others wake o s r at may goes stops)).2 (task_after_turn k now m q o s) (inl refl)

    of_task : IsBy k now.at q → IsBy k now.at (task_after_turn k now m q o s)
    of_task h =
        record {
          made =
              events_append now.at q.made o.made h.made
              (turn_by k q.here.clock now.at _ q.here q.rest.frames q.places q.rest.stopped o.made h.stop goes.made_now goes.asked);
          stop = stop_now k q.here.clock now.at (cancelled_from_after f o.made) o.places s agrees (stops_so k f now q wake o s goes stops);
        }

    by_place : (x : Started) → IsAmong x after → ((y : Started) → IsAmong y qs → IsBy k now.at y) → IsBy k now.at x
    by_place x (inl e) all = subst (λ (z : Started). IsBy k now.at z) (sym e) (of_task (all q ((front_same q qs others at).back q (inl refl))))
    by_place x (inr i) all = by_part (in_either x (children_from k (a_round_after q.here.clock now.at) m o.begun) others i)
      where
        by_part : IsAmong x (children_from k (a_round_after q.here.clock now.at) m o.begun) ⊎ IsAmong x others → IsBy k now.at x
        by_part (inl j) = begun_by k (a_round_after q.here.clock now.at) now.at m o.begun x j
        by_part (inr j) = all x ((front_same q qs others at).back x (inr j))

-- ---- what tasks did

-- an act is by this moment
abbrev pub DoneBy : ℕ → Done → Type 0
DoneBy t d = (d.at ≤ t) × ActBy t d.act

each_if : (P : Done → Type 0) (b : Bool) (d : Done) (ds : List Done) → P d → Each P ds → Each P (done_if b d ds)
each_if P true d ds h k = (h, k)
each_if P false d ds h k = k

pub each_append : {A : Type 0} (P : A → Type 0) (xs ys : List A) → Each P xs → Each P ys → Each P (xs ++ ys)
each_append P [] ys h k = k
each_append P (x ∷ xs) ys h k = (h.0, each_append P xs ys h.1 k)

made_by : (t : ℕ) (l task : Label) (es : List Event) → EventsBy t es → Each (DoneBy t) (acts_made l task es)
made_by t l task [] h = tt
made_by t l task (acts m u a ∷ es) h =
    each_if (DoneBy t) (same_label l m) (record { at = u; task = task; act = a }) (acts_made l task es) (h.0, h.1) (made_by t l task es h.2)
made_by t l task (noted u e ∷ es) h = made_by t l task es h
made_by t l task (signs m u ∷ es) h = made_by t l task es h
made_by t l task (enters m u d ∷ es) h = made_by t l task es h
made_by t l task (starts i m u ∷ es) h = made_by t l task es h

pending_by : (k : Tables) (t : ℕ) (l : Label) (here : Here) (fs : List Frame) (ps : List Place) (s : Stopped) → StopBy k t ps s →
    Each (DoneBy t) (acts_pending l here fs ps s)
pending_by k t l here fs ps (queued object ask since body) h = by_label (label_among true object ps)
  where
    by_label : (o : Option Label) → Each (DoneBy t) (asked_on l o here.task (inside fs here) ask since)
    by_label None = tt
    by_label (Some m) = each_if (DoneBy t) (same_label l m) _ [] (h.0, tt) tt
pending_by k t l here fs ps to_begin h = tt
pending_by k t l here fs ps (asking kernel purpose) h = tt
pending_by k t l here fs ps (asleep paced n since) h = tt
pending_by k t l here fs ps (waiting_for event since) h = tt
pending_by k t l here fs ps (giving_up since) h = tt
pending_by k t l here fs ps (awaiting children ended exc) h = tt
pending_by k t l here fs ps (at_end u e) h = tt

pub acts_by_now : (k : Tables) (t : ℕ) (l : Label) (q : Started) → IsBy k t q → Each (DoneBy t) (acts_of l q)
acts_by_now k t l q h =
    each_append (DoneBy t) (acts_made l q.here.task q.made) (acts_pending l q.here q.rest.frames q.places q.rest.stopped)
    (made_by t l q.here.task q.made h.made) (pending_by k t l q.here q.rest.frames q.places q.rest.stopped h.stop)

pub all_acts_by : (k : Tables) (t : ℕ) (l : Label) (taken : List Started) → ((q : Started) → IsAmong q taken → IsBy k t q) →
    Each (DoneBy t) (acts_of_all l taken)
all_acts_by k t l [] h = tt
all_acts_by k t l (q ∷ taken) h =
    each_append (DoneBy t) (acts_of l q) (acts_of_all l taken) (acts_by_now k t l q (h q (inl refl)))
    (all_acts_by k t l taken (λ x i. h x (inr i)))
