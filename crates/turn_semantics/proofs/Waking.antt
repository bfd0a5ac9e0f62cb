-- A task that wakes has the same result as when it stopped, and so does its whole turn.
use Rattle.std.proofs.Common.{◌≡◌, inl, ℕ, zero, suc, ◌+◌, ◌-◌, ◌*◌, ◌<◌, ◌≤◌, Bool, true, false, Option, Some, None, List, [], ◌∷◌, length, refl, ap, sym, ◌∙◌, subst, arith}
use Rattle.std.specs.Prelude.{codes}
use Rattle.job_tree.specs.Tree.{Steps}
use Rattle.job_tree.specs.Names.{size_of}
use Rattle.job_tree.specs.Starting.{StartsIn}
use Rattle.job_tree.specs.declared.object.Ask.{Ask}
use Rattle.job_tree.specs.declared.object.Ask.TheVariants.{Acquire, Send, Receive}
use Rattle.input_lines.specs.Lines.{Span}
use Rattle.exceptions.specs.Exceptions.{Label, Exc, cancelled, raised, by_nursery, parts_of, group_of}
use Rattle.cancel_scopes.specs.Sight.{Level, seen}
use Rattle.job_meaning.specs.Log.{Entry, Log, nil, entry, followed_by, line, waited, was_granted, Result, Table}
use Rattle.job_meaning.specs.Sharing.{What, a_token, was_sent, a_part, closed_resource, end_of_channel}
use Rattle.job_meaning.specs.Moments.{a_round_after, wakes_at, tick_of, Now, only_at}
use Rattle.job_meaning.specs.declared.clock.Clock.{Clock}
use Rattle.job_meaning.specs.Walk.{Here, event_on, raise_result, raised_at, done_at, pace_ticks, log_of_lines, lines_result, a_nursery, nursery_result, with_exc, excs_of, latest}
use Rattle.job_meaning.specs.Rest.{fill, ChildOutcomes, outcome_members, Frame, steps_left, with_token, with_part, Stopped, asleep, waiting_for, awaiting, Rest, block_left, finish, finished_from, rest_comes_to, rest_weight, frames_weight, asking_weight, sleep_weight, stop_weight, inside}
use Rattle.job_meaning.specs.Asking.{Answer, lines, missing, counted, answer_of, Purpose, shows, needs, paces, answer_result}
use Rattle.job_meaning.proofs.Clips.{followed_nil}
use Rattle.job_meaning.proofs.Finish.{finish_after}
use Rattle.turn_semantics.specs.Midway.{Place, Tables, by_tables, label_among, stack_at, Midway, own_after, OwnFits, now_after, so_far, after_events, left_after}
use Rattle.turn_semantics.specs.Steps.{makes, cancelled_from_after, turn_of}
use Rattle.turn_semantics.specs.Placed.{in_body, Placed, IsSome, PlacedStop, home_places, home_after}
use Rattle.turn_semantics.specs.Wakes.{Wake, lines_made, goes_on_with, leaves_settled, ends_at, is_checkpoint, gives_up_if, notes_wait, leaves_the_queue, goes_on_granted, raises_granted, granted_on, sees_from, is_due_from, wake_of, turn_from, SettlesAt, SeesAt, SeesWaiting, GoesOnWaiting, WakesBy, CanWake, from_start, from_asking, from_sleep, from_due, from_seen_waiting, from_set, from_granted, from_seen_queued, from_deadlock, from_giving_up, from_wait}
use Rattle.turn_semantics.specs.Turned.{AgreesOn, labels_of, MadeAt, Starts, known_after, TurnsOver}
use Rattle.turn_semantics.proofs.Agreeing.{label_of, event_found, slept}
use Rattle.turn_semantics.proofs.Waits.{slept_seen, paced_seen, checkpoint_seen, slept_due, raises_in, noted_wait, event_seen, event_goes_on, checkpoint_alike}
use Rattle.turn_semantics.proofs.Passes.{starts_anywhere}
use Rattle.turn_semantics.proofs.Queued.{wakes_granted, wakes_leaving}
use Rattle.turn_semantics.proofs.Keeps.{of_kind, keeps_sleeps, block_leaves}
use Rattle.turn_semantics.proofs.Events.{none_fits, all_own, all_grow, known_stays}
use Rattle.turn_semantics.proofs.Cases.{Case, onward_case, sleep_case, leaves_case}
use Rattle.turn_semantics.proofs.Houses.{wake_housed, wake_stays}
use Rattle.turn_semantics.proofs.Kids.{wake_kids}
use Rattle.turn_semantics.proofs.Asks.{wake_asks}
use Rattle.turn_semantics.proofs.Turns.{turned_on, turned_turn}

-- ---- lines

fill_lines : (outcomes : ChildOutcomes) (t : ℕ) (ls : List Span) → fill outcomes (lines_made t ls) ≡ log_of_lines t ls
fill_lines outcomes t [] = refl
fill_lines outcomes t (l ∷ ls) = ap (λ (x : Log). entry t (line l) x) (fill_lines outcomes t ls)

own_lines : (clock : Clock) (own : List Label) (t : ℕ) (ls : List Span) → own ≡ own_after clock own (lines_made t ls)
own_lines clock own t [] = refl
own_lines clock own t (l ∷ ls) = own_lines clock own t ls

lines_now : (clock : Clock) (t : ℕ) (known : List Label) (ls : List Span) → MadeAt clock t known (lines_made t ls)
lines_now clock t known [] = tt
lines_now clock t known (l ∷ ls) = (refl, lines_now clock t known ls)

lines_start : (t n : ℕ) (ls : List Span) → Starts n (lines_made t ls) []
lines_start t n [] = tt
lines_start t n (l ∷ ls) = lines_start t n ls

-- ---- the result of a task that wakes

module _ (table : Tables) (cancelled_from : Table) (outcomes : ChildOutcomes) (now : Now) (here : Here) where
  -- lines are noted, and the task continues in the same moment
  wakes_lines : (ls : List Span) (fs : List Frame) (ps : List Place) →
      finish (by_tables table) outcomes fs here (stack_at table.cancelled_from ps) (lines_result ls now)
      ≡ after_events outcomes (lines_made now.at ls) (left_after table outcomes here now (makes (lines_made now.at ls) fs ps))
  unfolding lines_result
  wakes_lines ls fs ps =
      ap (λ (x : Log). finish (by_tables table) outcomes fs here (stack_at table.cancelled_from ps) (record (done_at now) { log = x }))
      (sym (fill_lines outcomes now.at ls) ∙ sym (followed_nil (fill outcomes (lines_made now.at ls))))
      ∙ (ap (λ (own : List Label). finish (by_tables table) outcomes fs here (stack_at table.cancelled_from ps)
      (record { end = now.at; own = own; exc = None; members = []; log = followed_by (fill outcomes (lines_made now.at ls)) nil }))
      (own_lines here.clock now.own now.at ls)
      ∙ finish_after fs (fill outcomes (lines_made now.at ls)) (by_tables table) outcomes here (stack_at table.cancelled_from ps)
      (done_at (now_after here.clock now (lines_made now.at ls))))

  -- an answer, by what it is for
  wakes_answer : (a : Answer) (purpose : Purpose) (fs : List Frame) (ps : List Place) → OwnFits here.clock now.own → AgreesOn now.at table.cancelled_from cancelled_from ps →
      finish (by_tables table) outcomes fs here (stack_at table.cancelled_from ps) (answer_result a purpose here (stack_at table.cancelled_from ps) now)
      ≡ after_events outcomes (goes_on_with cancelled_from now.at here a purpose fs ps).made
      (left_after table outcomes here now (goes_on_with cancelled_from now.at here a purpose fs ps))
  unfolding raise_result
  wakes_answer (lines ls) purpose fs ps own g = wakes_lines ls fs ps
  wakes_answer missing (needs name) fs ps own g = refl
  wakes_answer missing shows fs ps own g = refl
  wakes_answer missing (paces k) fs ps own g = refl
  wakes_answer (counted n) (paces k) fs ps own g = keeps_sleeps table cancelled_from outcomes now here true (pace_ticks n k) fs ps own g
  wakes_answer (counted n) shows fs ps own g = refl
  wakes_answer (counted n) (needs name) fs ps own g = refl

  -- a nursery has settled
  wakes_settled : (exc : Option Exc) (children : List ℕ) (ended : ℕ) (e : Option Exc) (u : Now) (fs : List Frame) (ps : List Place) →
      PlacedStop (awaiting children ended e) fs ps → AgreesOn now.at table.cancelled_from cancelled_from ps → SettlesAt here.clock now.at exc (outcome_members outcomes children) ended e ps → now.own ≡ [] →
      finished_from (by_tables table) outcomes (awaiting children ended e) fs here (stack_at table.cancelled_from ps) u
      ≡ after_events outcomes (leaves_settled here.clock cancelled_from now exc fs ps).made (left_after table outcomes here now (leaves_settled here.clock cancelled_from now exc fs ps))
  unfolding nursery_result
  wakes_settled exc children ended e u fs (p ∷ ps) w g s own =
      ap (λ (q : Place). finished_from (by_tables table) outcomes (awaiting children ended e) fs here (stack_at table.cancelled_from (q ∷ ps)) u) (of_kind p false w.0)
      ∙ at_last (a_round_after here.clock (latest ended (outcome_members outcomes children))) (group_of (by_nursery p.label)
      (parts_of (with_exc e (excs_of (outcome_members outcomes children))))) s.0 s.1 (sym own)
      ∙ block_leaves table cancelled_from outcomes now here a_nursery fs p ps exc g
    where
      left : Result → Result
      left r =
          finish (by_tables table) outcomes fs here (stack_at table.cancelled_from ps)
          (block_left here.clock a_nursery (record { label = p.label; shield = p.shield; from = table.cancelled_from p.label }) (stack_at table.cancelled_from ps).scopes r)

      ended_with : Option Exc → ℕ → List Label → Result
      ended_with x v ls = so_far x (record { at = v; own = ls })

      at_last : (v : ℕ) (x : Option Exc) → v ≡ now.at → x ≡ exc → [] ≡ now.own → left (ended_with x v []) ≡ left (ended_with exc now.at now.own)
      at_last v x e f g = λ i. left (ended_with (f i) (e i) (g i))
  wakes_settled exc children ended e u fs [] w g s own = absurd s

  -- a moment in which a task has cancelled nothing
  nothing_own : (v : ℕ) → v ≡ now.at → now.own ≡ [] → only_at v ≡ now
  nothing_own v e own = λ i. at_own (e i) (sym own i)
    where
      at_own : ℕ → List Label → Now
      at_own v ls = record { at = v; own = ls }

  -- a task that sees a cancellation
  wakes_seen : (u : Now) (paced : Bool) (n since : ℕ) (fs : List Frame) (ps : List Place) → since < now.at →
      now.at ≤ wakes_at here.clock n since →
      SeesAt here.clock since now.at (stack_at table.cancelled_from ps) → now.own ≡ [] →
      finished_from (by_tables table) outcomes (asleep paced n since) fs here (stack_at table.cancelled_from ps) u
      ≡ after_events outcomes (sees_from here cancelled_from now.at (asleep paced n since) fs ps).made
      (left_after table outcomes here now (sees_from here cancelled_from now.at (asleep paced n since) fs ps))
  wakes_seen u false zero since fs ps lt le s own =
      ap (λ (r : Result). finish (by_tables table) outcomes fs here (stack_at table.cancelled_from ps) r)
      (checkpoint_seen here.clock (stack_at table.cancelled_from ps) since now.at lt le s)
  wakes_seen u false (suc n) since fs ps lt le s own =
      ap (λ (r : Result). finish (by_tables table) outcomes fs here (stack_at table.cancelled_from ps) r)
      (slept_seen here.clock (stack_at table.cancelled_from ps) n since now.at lt le s ∙ ap (λ (v : Now). raised_at cancelled v) (nothing_own now.at refl own))
  wakes_seen u true n since fs ps lt le s own =
      ap (λ (r : Result). finish (by_tables table) outcomes fs here (stack_at table.cancelled_from ps) r)
      (paced_seen here.clock (stack_at table.cancelled_from ps) n since now.at lt le s ∙ ap (λ (v : Now). raised_at cancelled v) (nothing_own now.at refl own))

  -- a task whose sleep ends
  wakes_due : (u : Now) (paced : Bool) (n since : ℕ) (fs : List Frame) (ps : List Place) → wakes_at here.clock n since ≡ now.at →
      seen (stack_at table.cancelled_from ps).scopes now.at ≡ false → now.own ≡ [] →
      finished_from (by_tables table) outcomes (asleep paced n since) fs here (stack_at table.cancelled_from ps) u
      ≡ finish (by_tables table) outcomes fs here (stack_at table.cancelled_from ps) (done_at now)
  wakes_due u paced n since fs ps e s own = by_pace paced
      (ap (λ (r : Result). finish (by_tables table) outcomes fs here (stack_at table.cancelled_from ps) r)
      (slept_due paced here.clock (stack_at table.cancelled_from ps) n since (subst (λ (v : ℕ). seen (stack_at table.cancelled_from ps).scopes v ≡ false) (sym e) s)
      ∙ ap (λ (v : Now). done_at v) (nothing_own (wakes_at here.clock n since) e own)))
    where
      by_pace : (paced : Bool) →
          finish (by_tables table) outcomes fs here (stack_at table.cancelled_from ps) (slept paced here.clock (stack_at table.cancelled_from ps) n since)
          ≡ finish (by_tables table) outcomes fs here (stack_at table.cancelled_from ps) (done_at now) →
          finished_from (by_tables table) outcomes (asleep paced n since) fs here (stack_at table.cancelled_from ps) u
          ≡ finish (by_tables table) outcomes fs here (stack_at table.cancelled_from ps) (done_at now)
      by_pace false h = h
      by_pace true h = h

  -- a task that waits for an event and sees a cancellation
  wakes_seen_waiting : (u : Now) (name : List ℕ) (since : ℕ) (fs : List Frame) (ps : List Place) → IsSome (label_among true name ps) →
      AgreesOn now.at table.cancelled_from cancelled_from ps →
      SeesWaiting here.clock (ends_at here.clock table.cancelled_from name since ps) since now.at (stack_at table.cancelled_from ps) → now.own ≡ [] →
      finished_from (by_tables table) outcomes (waiting_for name since) fs here (stack_at table.cancelled_from ps) u
      ≡ after_events outcomes (sees_from here cancelled_from now.at (waiting_for name since) fs ps).made
      (left_after table outcomes here now (sees_from here cancelled_from now.at (waiting_for name since) fs ps))
  wakes_seen_waiting u name since fs ps p g s own =
      ap (λ (r : Result). finish (by_tables table) outcomes fs here (stack_at table.cancelled_from ps) r)
      (event_seen here.clock (stack_at table.cancelled_from ps) (event_on name (stack_at table.cancelled_from ps).events) since now.at
      (subst (λ (o : Option Label). IsSome o) (sym (event_found table.cancelled_from name ps)) p) s
      ∙ ap (λ (b : Bool). raised_at cancelled (only_at (raises_in b now.at))) (checkpoint_alike here.clock now.at since table.cancelled_from cancelled_from name ps s.0 g))
      ∙ by_checkpoint (is_checkpoint here.clock (ends_at here.clock cancelled_from name since ps) since)
    where
      by_checkpoint : (b : Bool) →
          finish (by_tables table) outcomes fs here (stack_at table.cancelled_from ps) (raised_at cancelled (only_at (raises_in b now.at)))
          ≡ after_events outcomes (gives_up_if b now.at fs ps).made (left_after table outcomes here now (gives_up_if b now.at fs ps))
      by_checkpoint true = refl
      by_checkpoint false =
          ap (λ (v : Now). finish (by_tables table) outcomes fs here (stack_at table.cancelled_from ps) (raised_at cancelled v)) (nothing_own now.at refl own)

  -- a task whose wait for an event ends
  wakes_set : (u : Now) (name : List ℕ) (since : ℕ) (fs : List Frame) (ps : List Place) → IsSome (label_among true name ps) →
      GoesOnWaiting here.clock (ends_at here.clock table.cancelled_from name since ps) since now.at (stack_at table.cancelled_from ps) → now.own ≡ [] →
      finished_from (by_tables table) outcomes (waiting_for name since) fs here (stack_at table.cancelled_from ps) u
      ≡ after_events outcomes (is_due_from here cancelled_from now.at (waiting_for name since) fs ps).made
      (left_after table outcomes here now (is_due_from here cancelled_from now.at (waiting_for name since) fs ps))
  wakes_set u name since fs ps p s own =
      ap (λ (r : Result). finish (by_tables table) outcomes fs here (stack_at table.cancelled_from ps) r)
      (event_goes_on here.clock (stack_at table.cancelled_from ps) (event_on name (stack_at table.cancelled_from ps).events) since now.at
      (subst (λ (o : Option Label). IsSome o) (sym (event_found table.cancelled_from name ps)) p) s
      ∙ ap (λ (o : Option Label). noted_wait o now.at) (event_found table.cancelled_from name ps ∙ sym (event_found cancelled_from name ps)))
      ∙ by_event (event_on name (stack_at cancelled_from ps).events)
    where
      by_event : (o : Option (Level Label)) →
          finish (by_tables table) outcomes fs here (stack_at table.cancelled_from ps) (noted_wait (label_of o) now.at)
          ≡ after_events outcomes (notes_wait o now.at fs ps).made (left_after table outcomes here now (notes_wait o now.at fs ps))
      by_event None = ap (λ (v : Now). finish (by_tables table) outcomes fs here (stack_at table.cancelled_from ps) (done_at v)) (nothing_own now.at refl own)
      by_event (Some l) =
          finish_after fs (entry now.at (waited l.label) nil) (by_tables table) outcomes here (stack_at table.cancelled_from ps) (done_at (only_at now.at))
          ∙ ap (λ (v : Now). after_events outcomes (notes_wait (Some l) now.at fs ps).made
          (finish (by_tables table) outcomes fs here (stack_at table.cancelled_from ps) (done_at v))) (nothing_own now.at refl own)

  -- each wake
  pub wake_keeps : (u : Now) {w : Wake} {s : Stopped} → CanWake w s → (fs : List Frame) (ps : List Place) → PlacedStop s fs ps →
      AgreesOn now.at table.cancelled_from cancelled_from ps → WakesBy table outcomes (inside fs here) u now w s ps →
      finished_from (by_tables table) outcomes s fs here (stack_at table.cancelled_from ps) u
      ≡ after_events outcomes (wake_of cancelled_from now here w s fs ps).made (left_after table outcomes here now (wake_of cancelled_from now here w s fs ps))
  wake_keeps u from_start fs ps p g e = ap (λ (v : Now). finish (by_tables table) outcomes fs here (stack_at table.cancelled_from ps) (done_at v)) e.0
  wake_keeps u (from_asking {a} {kernel} {purpose}) fs ps p g e =
      ap (λ (v : Now). finish (by_tables table) outcomes fs here (stack_at table.cancelled_from ps)
      (answer_result (answer_of kernel (inside fs here)) purpose here (stack_at table.cancelled_from ps) v)) e.0
      ∙ (ap (λ (b : Answer). finish (by_tables table) outcomes fs here (stack_at table.cancelled_from ps) (answer_result b purpose here (stack_at table.cancelled_from ps) now))
      (sym e.1)
      ∙ wakes_answer a purpose fs ps e.2 g)
  wake_keeps u (from_sleep {paced} {n} {since}) fs ps p g e = wakes_seen u paced n since fs ps e.0 e.1 e.2 e.3
  wake_keeps u (from_due {paced} {n} {since}) fs ps p g e = wakes_due u paced n since fs ps e.0 e.1 e.2
  wake_keeps u (from_seen_waiting {event = name} {since}) fs ps p g e = wakes_seen_waiting u name since fs ps p.0 g e.0 e.1
  wake_keeps u (from_set {event = name} {since}) fs ps p g e = wakes_set u name since fs ps p.0 e.0 e.1
  wake_keeps u (from_granted {what} {object = name} {ask} {since} {body}) fs ps p g e =
      wakes_granted table outcomes now here u what name ask since body fs ps p.0 e.0 e.1
  wake_keeps u (from_seen_queued {object = name} {ask} {since} {body}) fs ps p g e =
      wakes_leaving table outcomes now here u true name ask since body fs ps p.0 e.0 e.1 e.2
  wake_keeps u (from_deadlock {object = name} {ask} {since} {body}) fs ps p g e =
      wakes_leaving table outcomes now here u false name ask since body fs ps p.0 e.0 e.1 e.2
  wake_keeps u (from_giving_up {since}) fs ps p g e =
      ap (λ (v : Now). finish (by_tables table) outcomes fs here (stack_at table.cancelled_from ps) (raised_at cancelled v)) (nothing_own (suc since) e.0 e.1)
  wake_keeps u (from_wait {exc} {children} {ended} {e}) fs ps p g h = wakes_settled exc children ended e u fs ps p g h.0 h.1

-- ---- what a wake makes and leaves

-- a task that asks has a weight
asking_weighs : (purpose : Purpose) → 1 ≤ asking_weight purpose
asking_weighs shows = omega arith
asking_weighs (needs name) = omega arith
asking_weighs (paces k) = omega arith

-- and so has one that sleeps
sleep_some : (paced : Bool) (n : ℕ) → 1 ≤ sleep_weight paced n
sleep_some false zero = omega arith
sleep_some false (suc n) = omega arith
sleep_some true zero = omega arith
sleep_some true (suc n) = omega arith

lines_case : (clock : Clock) (t : ℕ) (cancelled_from : Table) (w : ℕ) (ls : List Span) (fs : List Frame) (ps : List Place) (count : ℕ) → Placed fs ps →
    frames_weight fs ≤ w →
    Case clock t cancelled_from w (home_places fs ps) ps count (makes (lines_made t ls) fs ps)
lines_case clock t cancelled_from w ls fs ps count p le =
    record {
      placed = p;
      at_home = refl;
      made_now = lines_now clock t (labels_of ps) ls;
      places = all_grow (labels_of ps) (known_after (labels_of ps) (lines_made t ls))
          (λ l k. known_stays l (lines_made t ls) (labels_of ps) k) ps (all_own ps);
      starts_made = lines_start t count ls;
      begun_in = tt;
      clocks = tt;
      stops = tt;
      weight = omega arith;
    }

-- the wake's part of the promise: it takes at least 1 of the weight
answered_case : (t : ℕ) (cancelled_from : Table) (here : Here) (a : Answer) (purpose : Purpose) (fs : List Frame) (ps : List Place) (count w : ℕ) →
    Placed fs ps → 1 + w ≡ asking_weight purpose + frames_weight fs →
    Case here.clock t cancelled_from w (home_places fs ps) ps count (goes_on_with cancelled_from t here a purpose fs ps)
answered_case t cancelled_from here (lines ls) purpose fs ps count w p e =
    lines_case here.clock t cancelled_from w ls fs ps count p (let h = asking_weighs purpose in omega arith)
answered_case t cancelled_from here missing (needs name) fs ps count w p e = onward_case here.clock t cancelled_from w _ fs ps _ count p refl (omega arith)
answered_case t cancelled_from here missing shows fs ps count w p e = onward_case here.clock t cancelled_from w _ fs ps _ count p refl (omega arith)
answered_case t cancelled_from here missing (paces k) fs ps count w p e = onward_case here.clock t cancelled_from w _ fs ps _ count p refl (omega arith)
answered_case t cancelled_from here (counted n) (paces k) fs ps count w p e = sleep_case here.clock t cancelled_from true (pace_ticks n k) w _ fs ps count p refl (omega arith)
answered_case t cancelled_from here (counted n) shows fs ps count w p e = onward_case here.clock t cancelled_from w _ fs ps _ count p refl (omega arith)
answered_case t cancelled_from here (counted n) (needs name) fs ps count w p e = onward_case here.clock t cancelled_from w _ fs ps _ count p refl (omega arith)

settled_case : (clock : Clock) (now : Now) (cancelled_from : Table) (exc : Option Exc) (children : List ℕ) (ended : ℕ) (x : Option Exc) (fs : List Frame)
    (ps : List Place) (count w : ℕ) →
    PlacedStop (awaiting children ended x) fs ps → 1 + w ≡ 1 + frames_weight fs →
    Case clock now.at cancelled_from w (home_after (Some (awaiting children ended x)) fs ps) ps count (leaves_settled clock cancelled_from now exc fs ps)
settled_case clock now cancelled_from exc children ended x fs (p ∷ ps) count w q e = leaves_case clock now cancelled_from a_nursery w _ fs p ps exc count q.1 refl (omega arith)
settled_case clock now cancelled_from exc children ended x fs [] count w q e = absurd q

-- a task that gives up, or raises
giving_case : (clock : Clock) (t : ℕ) (cancelled_from : Table) (b : Bool) (w : ℕ) (fs : List Frame) (ps : List Place) (count : ℕ) → Placed fs ps →
    1 + frames_weight fs ≤ w → Case clock t cancelled_from w (home_places fs ps) ps count (gives_up_if b t fs ps)
giving_case clock t cancelled_from true w fs ps count p le =
    record {
      placed = p;
      at_home = refl;
      made_now = tt;
      places = all_own ps;
      starts_made = tt;
      begun_in = tt;
      clocks = tt;
      stops = inl refl;
      weight = omega arith;
    }
giving_case clock t cancelled_from false w fs ps count p le = onward_case clock t cancelled_from w _ fs ps _ count p refl (omega arith)

-- a wait that ended well
noted_case : (clock : Clock) (t : ℕ) (cancelled_from : Table) (o : Option (Level Label)) (w : ℕ) (fs : List Frame) (ps : List Place) (count : ℕ) → Placed fs ps →
    frames_weight fs ≤ w → Case clock t cancelled_from w (home_places fs ps) ps count (notes_wait o t fs ps)
noted_case clock t cancelled_from None w fs ps count p le = onward_case clock t cancelled_from w _ fs ps _ count p refl le
noted_case clock t cancelled_from (Some l) w fs ps count p le =
    record {
      placed = p;
      at_home = refl;
      made_now = (refl, tt);
      places = all_own ps;
      starts_made = tt;
      begun_in = tt;
      clocks = tt;
      stops = tt;
      weight = omega arith;
    }

-- a task that left its queue
leaving_case : (clock : Clock) (t : ℕ) (cancelled_from : Table) (o : Option Label) (at : Here) (ask : Ask) (since : ℕ) (e : Exc) (w : ℕ) (fs : List Frame)
    (ps : List Place) (count : ℕ) → Placed fs ps → frames_weight fs ≤ w →
    Case clock t cancelled_from w (home_places fs ps) ps count (leaves_the_queue o at ask since t e fs ps)
leaving_case clock t cancelled_from None at ask since e w fs ps count p le = onward_case clock t cancelled_from w _ fs ps _ count p refl le
leaving_case clock t cancelled_from (Some l) at ask since e w fs ps count p le =
    record {
      placed = p;
      at_home = refl;
      made_now = (tt, tt);
      places = all_own ps;
      starts_made = tt;
      begun_in = tt;
      clocks = tt;
      stops = tt;
      weight = omega arith;
    }

-- one that goes on in the block of its step
going_case : (clock : Clock) (t : ℕ) (cancelled_from : Table) (e : Entry) (l : Label) (at : Here) (ask : Ask) (since w : ℕ) (home : List Place) (fs : List Frame)
    (ps : List Place) (count : ℕ) → Placed fs ps → home_places fs ps ≡ home → frames_weight fs ≤ w →
    Case clock t cancelled_from w home ps count (goes_on_granted e l at ask since t fs ps)
going_case clock t cancelled_from e l at ask since w home fs ps count p h le =
    record {
      placed = p;
      at_home = h;
      made_now = (tt, (refl, tt));
      places = all_own ps;
      starts_made = tt;
      begun_in = tt;
      clocks = tt;
      stops = tt;
      weight = omega arith;
    }

-- and one that raises what it was granted
raising_case : (clock : Clock) (t : ℕ) (cancelled_from : Table) (l : Label) (at : Here) (ask : Ask) (since : ℕ) (name : List ℕ) (w : ℕ) (fs : List Frame)
    (ps : List Place) (count : ℕ) → Placed fs ps → frames_weight fs ≤ w →
    Case clock t cancelled_from w (home_places fs ps) ps count (raises_granted l at ask since t name fs ps)
raising_case clock t cancelled_from l at ask since name w fs ps count p le =
    record {
      placed = p;
      at_home = refl;
      made_now = (tt, tt);
      places = all_own ps;
      starts_made = tt;
      begun_in = tt;
      clocks = tt;
      stops = tt;
      weight = omega arith;
    }

-- a task that was granted something
granted_case : (clock : Clock) (t : ℕ) (cancelled_from : Table) (what : What) (o : Option Label) (at : Here) (ask : Ask) (since : ℕ) (body : Steps) (w : ℕ)
    (fs : List Frame) (ps : List Place) (count : ℕ) → StartsIn false body → Placed fs ps → 2 * size_of body + frames_weight fs ≤ w →
    Case clock t cancelled_from w (home_places fs ps) ps count (granted_on o at ask since t body what fs ps)
granted_case clock t cancelled_from what None at ask since body w fs ps count s p le =
    onward_case clock t cancelled_from w _ fs ps _ count p refl (omega arith)
granted_case clock t cancelled_from a_token (Some l) at ask since body w fs ps count s p le =
    going_case clock t cancelled_from (was_granted Acquire l) l at ask since w _ (steps_left body ∷ with_token l ∷ fs) ps count (s, p) refl (omega arith)
granted_case clock t cancelled_from was_sent (Some l) at ask since body w fs ps count s p le =
    going_case clock t cancelled_from (was_granted Send l) l at ask since w _ (steps_left body ∷ fs) ps count (starts_anywhere body (in_body fs) s, p) refl (omega arith)
granted_case clock t cancelled_from (a_part received) (Some l) at ask since body w fs ps count s p le =
    going_case clock t cancelled_from (was_granted Receive l) l at ask since w _ (steps_left body ∷ with_part received ∷ fs) ps count (s, p) refl (omega arith)
granted_case clock t cancelled_from closed_resource (Some l) at ask since body w fs ps count s p le =
    raising_case clock t cancelled_from l at ask since _ w fs ps count p (omega arith)
granted_case clock t cancelled_from end_of_channel (Some l) at ask since body w fs ps count s p le =
    raising_case clock t cancelled_from l at ask since _ w fs ps count p (omega arith)

wake_case : (now : Now) (cancelled_from : Table) (here : Here) {w : Wake} {s : Stopped} → CanWake w s →
    (fs : List Frame) (ps : List Place) (count b : ℕ) →
    PlacedStop s fs ps → 1 + b ≡ stop_weight s + frames_weight fs →
    Case here.clock now.at cancelled_from b (home_after (Some s) fs ps) ps count (wake_of cancelled_from now here w s fs ps)
wake_case now cancelled_from here from_start fs ps count b p e = onward_case here.clock now.at cancelled_from b _ fs ps _ count p refl (omega arith)
wake_case now cancelled_from here (from_asking {a} {kernel} {purpose}) fs ps count b p e = answered_case now.at cancelled_from here a purpose fs ps count b p.1 e
wake_case now cancelled_from here (from_sleep {paced = false} {n = zero} {since}) fs ps count b p e =
    giving_case here.clock now.at cancelled_from true b fs ps count p (omega arith)
wake_case now cancelled_from here (from_sleep {paced = false} {n = suc n} {since}) fs ps count b p e =
    onward_case here.clock now.at cancelled_from b _ fs ps _ count p refl (omega arith)
wake_case now cancelled_from here (from_sleep {paced = true} {n} {since}) fs ps count b p e =
    onward_case here.clock now.at cancelled_from b _ fs ps _ count p refl (let h = sleep_some true n in omega arith)
wake_case now cancelled_from here (from_seen_waiting {event = name} {since}) fs ps count b p e =
    giving_case here.clock now.at cancelled_from (is_checkpoint here.clock (ends_at here.clock cancelled_from name since ps) since) b fs ps count p.1 (omega arith)
wake_case now cancelled_from here (from_set {event = name} {since}) fs ps count b p e =
    noted_case here.clock now.at cancelled_from (event_on name (stack_at cancelled_from ps).events) b fs ps count p.1 (omega arith)
wake_case now cancelled_from here (from_granted {what} {object = name} {ask} {since} {body}) fs ps count b p e =
    granted_case here.clock now.at cancelled_from what (label_among true name ps) (inside fs here) ask since body b fs ps count p.1 p.2 (omega arith)
wake_case now cancelled_from here (from_seen_queued {object = name} {ask} {since} {body}) fs ps count b p e =
    leaving_case here.clock now.at cancelled_from (label_among true name ps) (inside fs here) ask since cancelled b fs ps count p.2 (omega arith)
wake_case now cancelled_from here (from_deadlock {object = name} {ask} {since} {body}) fs ps count b p e =
    leaving_case here.clock now.at cancelled_from (label_among true name ps) (inside fs here) ask since
    (raised (codes "Deadlock") here.task (tick_of here.clock now.at)) b fs ps count p.2 (omega arith)
wake_case now cancelled_from here (from_giving_up {since}) fs ps count b p e = onward_case here.clock now.at cancelled_from b _ fs ps _ count p refl (omega arith)
wake_case now cancelled_from here (from_due {paced} {n} {since}) fs ps count b p e =
    onward_case here.clock now.at cancelled_from b _ fs ps _ count p refl (let h = sleep_some paced n in omega arith)
wake_case now cancelled_from here (from_wait {exc} {children} {ended} {e}) fs ps count b p h =
    settled_case here.clock now cancelled_from exc children ended e fs ps count b p h

-- a stop that can be woken from has a weight
wakes_weigh : {w : Wake} {s : Stopped} → CanWake w s → (fs : List Frame) → 1 ≤ stop_weight s + frames_weight fs
wakes_weigh from_start fs = omega arith
wakes_weigh (from_asking {a} {kernel} {purpose}) fs = let h = asking_weighs purpose in omega arith
wakes_weigh (from_sleep {paced} {n} {since}) fs = let h = sleep_some paced n in omega arith
wakes_weigh (from_due {paced} {n} {since}) fs = let h = sleep_some paced n in omega arith
wakes_weigh (from_seen_waiting {event = name} {since}) fs = omega arith
wakes_weigh (from_set {event = name} {since}) fs = omega arith
wakes_weigh (from_granted {what} {object = name} {ask} {since} {body}) fs = omega arith
wakes_weigh (from_seen_queued {object = name} {ask} {since} {body}) fs = omega arith
wakes_weigh (from_deadlock {object = name} {ask} {since} {body}) fs = omega arith
wakes_weigh (from_giving_up {since}) fs = omega arith
wakes_weigh (from_wait {exc} {children} {ended} {e}) fs = omega arith

-- what a task has cancelled when it wakes is as it has to be
pub wakes_fit : (table : Tables) (outcomes : ChildOutcomes) (here : Here) (u now : Now) {w : Wake} {s : Stopped} → CanWake w s → (ps : List Place) →
    WakesBy table outcomes here u now w s ps → OwnFits here.clock now.own
wakes_fit table outcomes here u now from_start ps e = e.1
wakes_fit table outcomes here u now from_asking ps e = e.2
wakes_fit table outcomes here u now from_sleep ps e = none_fits here.clock now.own e.3
wakes_fit table outcomes here u now from_due ps e = none_fits here.clock now.own e.2
wakes_fit table outcomes here u now from_seen_waiting ps e = none_fits here.clock now.own e.1
wakes_fit table outcomes here u now from_set ps e = none_fits here.clock now.own e.1
wakes_fit table outcomes here u now from_granted ps e = none_fits here.clock now.own e.1
wakes_fit table outcomes here u now from_seen_queued ps e = none_fits here.clock now.own e.2
wakes_fit table outcomes here u now from_deadlock ps e = none_fits here.clock now.own e.2
wakes_fit table outcomes here u now from_giving_up ps e = none_fits here.clock now.own e.1
wakes_fit table outcomes here u now from_wait ps e = none_fits here.clock now.own e.1

-- the wake keeps the whole promise
pub turned_wake : (u now : Now) (here : Here) (cancelled_from : Table) (w : Wake) (rest : Rest) (ps : List Place) (count : ℕ) → CanWake w rest.stopped →
    PlacedStop rest.stopped rest.frames ps →
    TurnsOver u now here cancelled_from w rest ps count (wake_of cancelled_from now here w rest.stopped rest.frames ps)
turned_wake u now here cancelled_from w rest ps count c p =
    record {
      keeps = λ table outcomes g a b h. wake_keeps table cancelled_from outcomes now here u c rest.frames ps p a g;
      placed = all.placed;
      at_home = all.at_home;
      kids = wake_kids now cancelled_from here w rest.stopped rest.frames ps count;
      housed = wake_housed now cancelled_from here w rest.stopped rest.frames ps;
      stays = λ i home h. wake_stays now cancelled_from here i home c rest.frames ps h;
      made_now = all.made_now;
      asked = wake_asks now cancelled_from here c rest.frames ps;
      places = all.places;
      starts = all.starts_made;
      begun_in = all.begun_in;
      clocks = all.clocks;
      stops = all.stops;
      weight = let h = all.weight in let i = wakes_weigh c rest.frames in omega arith;
    }
  where
    one_less : (n : ℕ) → 1 ≤ n → 1 + (n - 1) ≡ n
    one_less n le = omega arith

    all : Case here.clock now.at cancelled_from (rest_weight rest - 1) (home_after (Some rest.stopped) rest.frames ps) ps count
        (wake_of cancelled_from now here w rest.stopped rest.frames ps)
    all = wake_case now cancelled_from here c rest.frames ps count (rest_weight rest - 1) p (one_less (rest_weight rest) (wakes_weigh c rest.frames))

-- A whole turn: the wake, and then as many steps as it takes to the next stop.
pub turned_from : (n : ℕ) (u now : Now) (here : Here) (cancelled_from : Table) (w : Wake) (rest : Rest) (ps : List Place) (count : ℕ) →
    CanWake w rest.stopped → PlacedStop rest.stopped rest.frames ps →
    TurnsOver u now here cancelled_from w rest ps count (turn_from n cancelled_from now here w rest.stopped rest.frames ps count)
unfolding turn_from
turned_from n u now here cancelled_from w rest ps count c p =
    let o = wake_of cancelled_from now here w rest.stopped rest.frames ps in
    let m : Midway = record { frames = o.frames; places = o.places; exc = o.exc; count = count + length o.begun } in
    turned_on now here cancelled_from (λ table outcomes. WakesBy table outcomes (inside rest.frames here) u now w rest.stopped ps) (λ table outcomes e. wakes_fit table outcomes (inside rest.frames here) u now c ps e)
    (λ table outcomes. rest_comes_to (by_tables table) outcomes rest here (stack_at table.cancelled_from ps) u)
    (rest_weight rest) (Some rest.stopped) rest.frames ps count
    o.stopped o (turn_of n (cancelled_from_after cancelled_from o.made) (now_after here.clock now o.made) here m) refl (turned_wake u now here cancelled_from w rest ps count c p)
    (λ q. turned_turn n (now_after here.clock now o.made) here (cancelled_from_after cancelled_from o.made) m q)
