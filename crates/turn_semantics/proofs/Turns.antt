-- A whole turn keeps the result of the task, and what its steps promise.
use Rattle.std.proofs.Common.{◌≡◌, inl, inr, ℕ, zero, suc, ◌+◌, Option, Some, None, List, ◌++◌, length, refl, ap, sym, ◌∙◌, subst, length-append, arith}
use Rattle.turn_semantics.specs.Lists.{IsAmong}
use Rattle.exceptions.specs.Exceptions.{Label}
use Rattle.job_meaning.specs.Log.{Log, nil, entry, sign, entered, act, task, followed_by, Result, Table}
use Rattle.job_meaning.specs.Moments.{a_round_after, Now}
use Rattle.job_meaning.specs.declared.clock.Clock.{Clock}
use Rattle.job_meaning.specs.Walk.{Here}
use Rattle.job_meaning.specs.Rest.{Event, ChildOutcomes, fill, Frame, Stopped, to_begin, asking, asleep, waiting_for, queued, giving_up, awaiting, at_end, frames_weight}
use Rattle.job_meaning.proofs.Finish.{followed_assoc, fill_append}
use Rattle.turn_semantics.specs.Midway.{Place, Tables, Midway, Move, after_move, no_move, then_move, OwnFits, now_after, after_events, left_of, left_after, stop_comes_to}
use Rattle.turn_semantics.specs.Steps.{cancelled_from_after, step_of, turn_of}
use Rattle.turn_semantics.specs.Placed.{Placed, PlacedAfter, home_after, KidsAfter, HasChildAfter, AllHoused}
use Rattle.turn_semantics.specs.Turned.{AgreesOn, AgreesIn, AgreesAhead, AreOutcomes, labels_of, AllKnown, known_after, StopsAt, BegunIn, TurnContext, Turned, Goes}
use Rattle.turn_semantics.proofs.Keeps.{outcomes_of_first, outcomes_of_second, step_keeps}
use Rattle.turn_semantics.proofs.Events.{known_append, known_grows, place_known, all_own, all_grow, known_stays, made_append, made_grows, own_append, own_fits, begun_append, begun_grow, clocks_append, starts_append, cancelled_from_append, weight_append, agrees_after}
use Rattle.turn_semantics.proofs.Cases.{step_cases}
use Rattle.turn_semantics.proofs.Houses.{has_going, housed_append, housed_on, step_housed, step_stays}
use Rattle.turn_semantics.proofs.Kids.{kids_grow, step_kids}
use Rattle.turn_semantics.proofs.Asks.{asked_append, step_asks}

-- ---- events, one after another

-- events before a result, in two parts
pub after_append : (outcomes : ChildOutcomes) (es fs : List Event) (r : Result) → after_events outcomes (es ++ fs) r ≡ after_events outcomes es (after_events outcomes fs r)
after_append outcomes es fs r =
    ap (λ (x : Log). record r { log = x }) (ap (λ (x : Log). followed_by x r.log) (fill_append outcomes es fs)
    ∙ followed_assoc (fill outcomes es) (fill outcomes fs) r.log)

-- a table that agrees with a log agrees with the first part of it
pub agrees_in_first : (t : ℕ) (table : Table) (a b : Log) → AgreesIn t table (followed_by a b) → AgreesIn t table a
agrees_in_first t table nil b h = tt
agrees_in_first t table (entry u e a) b h = agrees_in_first t table a b h
agrees_in_first t table (sign l u a) b h = agrees_in_first t table a b h
agrees_in_first t table (entered l u d a) b h = (h.0, agrees_in_first t table a b h.1)
agrees_in_first t table (act l u done a) b h = agrees_in_first t table a b h
agrees_in_first t table (task l s u e own a) b h = agrees_in_first t table a b h

-- and with the second
pub agrees_in_second : (t : ℕ) (table : Table) (a b : Log) → AgreesIn t table (followed_by a b) → AgreesIn t table b
agrees_in_second t table nil b h = h
agrees_in_second t table (entry u e a) b h = agrees_in_second t table a b h
agrees_in_second t table (sign l u a) b h = agrees_in_second t table a b h
agrees_in_second t table (entered l u d a) b h = agrees_in_second t table a b h.1
agrees_in_second t table (act l u done a) b h = agrees_in_second t table a b h
agrees_in_second t table (task l s u e own a) b h = agrees_in_second t table a b h

-- ---- one step, and no step

-- a step keeps the promise
pub turned_step : (now : Now) (here : Here) (cancelled_from : Table) (m : Midway) → Placed m.frames m.places →
    Goes now here cancelled_from m (step_of cancelled_from now here m)
turned_step now here cancelled_from m p =
    let c = step_cases now cancelled_from here m p in
    record {
      keeps = λ table outcomes g a b h. step_keeps table cancelled_from outcomes now here m g a p h;
      placed = c.placed;
      at_home = c.at_home;
      kids = step_kids now cancelled_from here m;
      housed = step_housed now cancelled_from here m p;
      stays = λ i home h. step_stays now cancelled_from here i home m p h;
      made_now = c.made_now;
      asked = step_asks now cancelled_from here m;
      places = c.places;
      starts = c.starts_made;
      begun_in = c.begun_in;
      clocks = c.clocks;
      stops = c.stops;
      weight = let w = c.weight in omega arith;
    }

-- and a turn of no steps keeps it
pub turned_nothing : (now : Now) (here : Here) (cancelled_from : Table) (m : Midway) → Placed m.frames m.places → Goes now here cancelled_from m (no_move m)
turned_nothing now here cancelled_from m p =
    record {
      keeps = λ table outcomes g a b h. refl;
      placed = p;
      at_home = refl;
      kids = λ k. kids_grow m.count (m.count + 0) (omega arith) m.frames k;
      housed = tt;
      stays = λ i home h. inr h;
      made_now = tt;
      asked = tt;
      places = all_own m.places;
      starts = tt;
      begun_in = tt;
      clocks = tt;
      stops = tt;
      weight = omega arith;
    }

-- ---- a move, and another from where it led

stops_append : (clock : Clock) (t : ℕ) (cancelled_from : Table) (made : List Event) (s : Option Stopped) (ps : List Place) (more : List Event) →
    StopsAt clock t (cancelled_from_after (cancelled_from_after cancelled_from made) more) s ps → StopsAt clock t (cancelled_from_after cancelled_from (made ++ more)) s ps
stops_append clock t cancelled_from made None ps more h = h
stops_append clock t cancelled_from made (Some to_begin) ps more h = h
stops_append clock t cancelled_from made (Some (asking kernel purpose)) ps more h = h
stops_append clock t cancelled_from made (Some (asleep paced n since)) ps more h =
    subst (λ (f : Table). StopsAt clock t f (Some (asleep paced n since)) ps) (sym (cancelled_from_append made more cancelled_from)) h
stops_append clock t cancelled_from made (Some (waiting_for event since)) ps more h = h
stops_append clock t cancelled_from made (Some (queued object ask since body)) ps more h =
    subst (λ (f : Table). StopsAt clock t f (Some (queued object ask since body)) ps) (sym (cancelled_from_append made more cancelled_from)) h
stops_append clock t cancelled_from made (Some (giving_up since)) ps more h = h
stops_append clock t cancelled_from made (Some (awaiting children u e)) ps more h = h
stops_append clock t cancelled_from made (Some (at_end u e)) ps more h = h

-- a move that did not stop, and one from where it led
module _ (now : Now) (here : Here) (cancelled_from : Table) (Given : Tables → ChildOutcomes → Type 0)
    (fits : (table : Tables) (outcomes : ChildOutcomes) → Given table outcomes → OwnFits here.clock now.own) (before : Tables → ChildOutcomes → Result) (bound : ℕ)
    (was : Option Stopped) (fs : List Frame) (ps : List Place) (n : ℕ)
  where
    abbrev pub begins : TurnContext
    begins = record {
      now = now;
      here = here;
      cancelled_from = cancelled_from;
      Given = Given;
      before = before;
      bound = bound;
      stopped = was;
      frames = fs;
      places = ps;
      count = n;
    }

    -- a table that agrees with the moments of cancellation before a move agrees with those after it
    pub turned_agrees : (o : Move) → Turned begins o → (table : Tables) (outcomes : ChildOutcomes) →
        AgreesOn now.at table.cancelled_from cancelled_from ps → AgreesIn now.at table.cancelled_from (fill outcomes o.made) → AgreesOn now.at table.cancelled_from (cancelled_from_after cancelled_from o.made) o.places
    turned_agrees o h table outcomes a b = agrees_after here.clock now.at table.cancelled_from outcomes o.made ps o.places cancelled_from h.made_now h.places a b

    -- the two of them keep the promise of one
    pub turned_then : (o q : Move) → o.stopped ≡ None → Turned begins o →
        Goes (now_after here.clock now o.made) here (cancelled_from_after cancelled_from o.made) (record { frames = o.frames; places = o.places; exc = o.exc; count = n + length o.begun })
        q →
        Turned begins (then_move None o q)
    turned_then o q s x y =
        record {
          keeps = keeps;
          placed = y.placed;
          at_home = y.at_home ∙ (ap (λ (z : Option Stopped). home_after z o.frames o.places) (sym s) ∙ x.at_home);
          kids = λ k. subst (λ (c : ℕ). KidsAfter c q.stopped q.frames)
              (in_all n (length o.begun) (length q.begun) (length (o.begun ++ q.begun)) (length-append o.begun q.begun))
              (y.kids (kids_there k));
          housed = housed_append o.begun q.begun q.stopped q.frames q.places
              (housed_on o.frames o.places q.stopped q.frames q.places y.stays o.begun houses_there) y.housed;
          stays = λ i home h. y.stays i home (has_going i home o.frames o.places (has_there i home (x.stays i home h)));
          made_now = made_append here.clock now.at o.made q.made (labels_of ps) x.made_now
              (made_grows here.clock now.at (labels_of o.places) between known q.made y.made_now);
          asked = asked_append now.at here was fs ps o.made q.made x.asked y.asked;
          places = subst (λ (ls : List Label). AllKnown q.places ls) (sym (known_append o.made q.made (labels_of ps)))
              (all_grow (known_after (labels_of o.places) q.made) (known_after between q.made)
              (known_grows (labels_of o.places) between known q.made) q.places y.places);
          starts = starts_append o.made q.made n o.begun q.begun x.starts y.starts;
          begun_in = subst (λ (ls : List Label). BegunIn ls (o.begun ++ q.begun)) (sym (known_append o.made q.made (labels_of ps)))
              (begun_append (known_after between q.made) o.begun q.begun
              (begun_grow between (known_after between q.made) (λ l k. known_stays l q.made between k) o.begun x.begun_in)
              (begun_grow (known_after (labels_of o.places) q.made) (known_after between q.made)
              (known_grows (labels_of o.places) between known q.made) q.begun y.begun_in));
          clocks = clocks_append here.clock o.begun q.begun x.clocks y.clocks;
          stops = stops_append here.clock now.at cancelled_from o.made q.stopped q.places q.made y.stops;
          weight = let e = weight_append o.begun q.begun in let g = x.weight in let h = y.weight in omega arith;
        }
      where
        in_all : (n a b c : ℕ) → c ≡ a + b → n + a + b ≡ n + c
        in_all n a b c e = omega arith

        kids_there : KidsAfter n was fs → KidsAfter (n + length o.begun) None o.frames
        kids_there k = subst (λ (z : Option Stopped). KidsAfter (n + length o.begun) z o.frames) s (x.kids k)

        houses_there : AllHoused o.begun None o.frames o.places
        houses_there = subst (λ (z : Option Stopped). AllHoused o.begun z o.frames o.places) s x.housed

        has_there : (i : ℕ) (home : List Place) → HasChildAfter i home o.stopped o.frames o.places →
            HasChildAfter i home None o.frames o.places
        has_there i home h = subst (λ (z : Option Stopped). HasChildAfter i home z o.frames o.places) s h

        after : Midway
        after = record { frames = o.frames; places = o.places; exc = o.exc; count = n + length o.begun }

        later : Now
        later = now_after here.clock now o.made

        joined : (table : Tables) (outcomes : ChildOutcomes) → left_after table outcomes here later q ≡ left_after table outcomes here now (then_move None o q)
        joined table outcomes = ap after_own (sym (own_append here.clock o.made q.made now.own))
          where
            after_own : List Label → Result
            after_own own = stop_comes_to q.stopped table outcomes here (record { at = now.at; own = own }) q.frames q.places q.exc

        between : List Label
        between = known_after (labels_of ps) o.made

        known : (l : Label) → IsAmong l (labels_of o.places) → IsAmong l between
        known l k = place_known between o.places x.places l k

        on : (table : Tables) (outcomes : ChildOutcomes) → left_after table outcomes here now o ≡ left_of table outcomes here later after
        on table outcomes = ap (λ (z : Option Stopped). stop_comes_to z table outcomes here later o.frames o.places o.exc) s

        -- by a table that agrees with what both moves enter
        both : (table : Tables) (outcomes : ChildOutcomes) → Given table outcomes → AgreesOn now.at table.cancelled_from cancelled_from ps → AgreesIn now.at table.cancelled_from (fill outcomes o.made) →
            AgreesAhead now.at table.cancelled_from (fill outcomes o.made) (before table outcomes).log →
            AgreesAhead now.at table.cancelled_from (fill outcomes q.made) (left_of table outcomes here later after).log → AreOutcomes (a_round_after here.clock now.at) table outcomes (o.begun ++ q.begun) →
            before table outcomes ≡ after_events outcomes (o.made ++ q.made) (left_after table outcomes here now (then_move None o q))
        both table outcomes g a made ahead more h =
            x.keeps table outcomes g a ahead (outcomes_of_first (a_round_after here.clock now.at) table outcomes o.begun q.begun h)
            ∙ ap (λ (r : Result). after_events outcomes o.made r) (on table outcomes
            ∙ y.keeps table outcomes (own_fits here.clock now.own o.made (fits table outcomes g)) (turned_agrees o x table outcomes a made) more (outcomes_of_second (a_round_after here.clock now.at) table outcomes o.begun q.begun h))
            ∙ sym (after_append outcomes o.made q.made (left_after table outcomes here later q))
            ∙ ap (λ (r : Result). after_events outcomes (o.made ++ q.made) r) (joined table outcomes)

        keeps : (table : Tables) (outcomes : ChildOutcomes) → Given table outcomes → AgreesOn now.at table.cancelled_from cancelled_from ps →
            AgreesAhead now.at table.cancelled_from (fill outcomes (o.made ++ q.made)) (before table outcomes).log → AreOutcomes (a_round_after here.clock now.at) table outcomes (o.begun ++ q.begun) →
            before table outcomes ≡ after_events outcomes (o.made ++ q.made) (left_after table outcomes here now (then_move None o q))
        keeps table outcomes g a (inl b) h =
            let parts = subst (λ (l : Log). AgreesIn now.at table.cancelled_from l) (fill_append outcomes o.made q.made) b in
            let made = agrees_in_first now.at table.cancelled_from (fill outcomes o.made) (fill outcomes q.made) parts in
            both table outcomes g a made (inl made) (inl (agrees_in_second now.at table.cancelled_from (fill outcomes o.made) (fill outcomes q.made) parts)) h
        keeps table outcomes g a (inr b) h =
            let left = (left_of table outcomes here later after).log in
            let first : before table outcomes ≡ after_events outcomes o.made (left_of table outcomes here later after) =
            x.keeps table outcomes g a (inr b) (outcomes_of_first (a_round_after here.clock now.at) table outcomes o.begun q.begun h)
            ∙ ap (λ (r : Result). after_events outcomes o.made r) (on table outcomes) in
            let parts : AgreesIn now.at table.cancelled_from (followed_by (fill outcomes o.made) left) = subst (λ (r : Result). AgreesIn now.at table.cancelled_from r.log) first b in
            both table outcomes g a (agrees_in_first now.at table.cancelled_from (fill outcomes o.made) left parts) (inr b)
            (inr (agrees_in_second now.at table.cancelled_from (fill outcomes o.made) left parts)) h

    -- a move, and then a turn from there
    pub turned_on : (s : Option Stopped) (o q : Move) → o.stopped ≡ s → Turned begins o →
        (Placed o.frames o.places → Goes (now_after here.clock now o.made) here (cancelled_from_after cancelled_from o.made)
        (record { frames = o.frames; places = o.places; exc = o.exc; count = n + length o.begun }) q) →
        Turned begins (then_move s o q)
    turned_on (Some s) o q e x go = x
    turned_on None o q e x go = turned_then o q e x (go (subst (λ (s : Option Stopped). PlacedAfter s o.frames o.places) e x.placed))

-- ---- a whole turn

-- a turn from the middle keeps the promise
pub turned_turn : (n : ℕ) (now : Now) (here : Here) (cancelled_from : Table) (m : Midway) → Placed m.frames m.places →
    Goes now here cancelled_from m (turn_of n cancelled_from now here m)
unfolding turn_of
turned_turn zero now here cancelled_from m p = turned_nothing now here cancelled_from m p
turned_turn (suc n) now here cancelled_from m p =
    let o = step_of cancelled_from now here m in
    turned_on now here cancelled_from (λ table outcomes. OwnFits here.clock now.own) (λ table outcomes g. g) (λ table outcomes. left_of table outcomes here now m) (1 + frames_weight m.frames) None m.frames
    m.places m.count
    o.stopped o (turn_of n (cancelled_from_after cancelled_from o.made) (now_after here.clock now o.made) here (after_move m o)) refl (turned_step now here cancelled_from m p)
    (λ q. turned_turn n (now_after here.clock now o.made) here (cancelled_from_after cancelled_from o.made) (after_move m o) q)
