-- What each step of a turn makes, begins and leaves, case by case.
use Rattle.std.proofs.Common.{◌≡◌, inl, inr, ℕ, zero, suc, ◌+◌, ◌-◌, ◌*◌, ◌≤◌, Bool, true, false, not, ◌&&◌, Option, Some, None, List, [], ◌∷◌, ◌++◌, length, refl, ap, sym, ◌∙◌, subst, arith}
use Rattle.std.specs.Prelude.{is_some}
use Rattle.std.specs.Str.{bytes_eq}
use Rattle.turn_semantics.specs.Lists.{IsAmong}
use Rattle.job_tree.specs.Tree.{Step, sleep, checkpoint, forever, pace, find, head, longest, need, raise, cancel, set_event, wait_for, ask_for, close_channel, scope, nursery, event, object, start, repeat, attempt, Steps, stop, step, Handled, unhandled, except, Cleaned, uncleaned, finally}
use Rattle.job_tree.specs.Names.{size_of}
use Rattle.job_tree.specs.declared.object.Ask.{Ask}
use Rattle.job_tree.specs.declared.object.ObjectKind.{ObjectKind}
use Rattle.job_tree.specs.Starting.{starts_in_pass, StartsIn, StartsAt, HandlerStarts, CleanupStarts}
use Rattle.input_lines.specs.Cuts.{cut_of}
use Rattle.exceptions.specs.Exceptions.{Label, Exc, cancelled}
use Rattle.exceptions.specs.Split.{named, keep, drop}
use Rattle.cancel_scopes.specs.Sight.{Tick, seen}
use Rattle.job_meaning.specs.Log.{closes, Table}
use Rattle.job_meaning.specs.Moments.{tick_of, a_round_after, due, Now, far}
use Rattle.job_meaning.specs.declared.clock.Clock.{Clock}
use Rattle.job_meaning.specs.declared.clock.Clock.TheVariants.{ByTicks as by_ticks, ByRounds as by_rounds}
use Rattle.job_meaning.specs.Walk.{Here, stack_for, here_in, label_here, label_over, label_if, Kind, a_scope}
use Rattle.job_meaning.specs.Rest.{Event, starts, starts_over, sleep_weight, consecutive, Frame, steps_left, in_scope, in_event, with_token, with_part, in_nursery, in_repeat, in_try, in_handler, in_cleanup, inside, asking, asleep, frames_weight}
use Rattle.job_meaning.specs.Asking.{Kernel, Purpose, Suits, shows, needs, paces}
use Rattle.job_meaning.specs.Asking as ask
use Rattle.job_meaning.proofs.Late.{unseen_for}
use Rattle.turn_semantics.specs.Midway.{Place, is_of_kind, label_among, stack_at, Midway, Begun, Move}
use Rattle.turn_semantics.specs.Steps.{cancelled_from_after, onward, blocks_on, makes, falls_asleep, sleeps, signs_to, waits_on, asks_if, asks_of, acts_on, home_among, signs_home, with_started, begun_one, begun_over, enters_block, enters_event, enters_object, gives_token_back, step_on, step_steps, leaves, handler_if, step_try, step_frames, step_of, begins_passes, step_pass}
use Rattle.turn_semantics.specs.Placed.{in_body, Placed, IsSome, PlacedAfter, home_places, home_after}
use Rattle.turn_semantics.specs.Turned.{labels_of, AllKnown, known_after, MadeAt, Starts, BegunIn, AllBy, FallsAsleep, StopsAt, weight_of_stop, weight_of_begun, rounds_skipped}
use Rattle.turn_semantics.proofs.Events.{all_own, all_grow, known_stays, begun_append, clocks_append, made_append, starts_append, weight_append}
use Rattle.std.proofs.Math.Nat.{suc-mul}

-- what a move from these enclosing scopes and nurseries with this weight promises, except for the
-- result of the task
pub record Case (clock : Clock) (t : ℕ) (cancelled_from : Table) (weight_before : ℕ) (home ps : List Place) (count : ℕ) (o : Move) : Type 0 where
  pub placed : PlacedAfter o.stopped o.frames o.places
  pub at_home : home_after o.stopped o.frames o.places ≡ home
  pub made_now : MadeAt clock t (labels_of ps) o.made
  pub places : AllKnown o.places (known_after (labels_of ps) o.made)
  pub starts_made : Starts count o.made o.begun
  pub begun_in : BegunIn (known_after (labels_of ps) o.made) o.begun
  pub clocks : AllBy clock o.begun
  pub stops : StopsAt clock t (cancelled_from_after cancelled_from o.made) o.stopped o.places
  pub weight : weight_of_stop o.stopped + frames_weight o.frames + weight_of_begun o.begun + rounds_skipped t o.stopped ≤ weight_before

-- a label that is found, if one is, is known
abbrev Found : Option Label → List Label → Type 0
Found None ls = Unit {0}
Found (Some l) ls = IsAmong l ls

found_further : (o : Option Label) (m : Label) (ls : List Label) → Found o ls → Found o (m ∷ ls)
found_further None m ls k = tt
found_further (Some l) m ls k = inr k

found_first : (b : Bool) (m : Label) (o : Option Label) (ls : List Label) → Found o ls → Found (label_if b m o) (m ∷ ls)
found_first true m o ls k = inl refl
found_first false m o ls k = found_further o m ls k

-- one that is found by its name among the enclosing scopes, nurseries and events belongs to one of them
found_among : (events : Bool) (name : List ℕ) (ps : List Place) → Found (label_among events name ps) (labels_of ps)
found_among events name [] = tt
found_among events name (p ∷ ps) =
    found_first (is_of_kind events p && bytes_eq name p.label.name) p.label (label_among events name ps) (labels_of ps) (found_among events name ps)

-- so is the innermost enclosing scope or nursery
found_home : (ps : List Place) → Found (home_among ps) (labels_of ps)
found_home [] = tt
found_home (p ∷ ps) = found_first (not p.is_event) p.label (home_among ps) (labels_of ps) (found_home ps)

-- a sign for a label that was found is for a known one
signed_known : (clock : Clock) (ps : List Place) (t : ℕ) (o : Option Label) → Found o (labels_of ps) → MadeAt clock t (labels_of ps) (signs_to o t)
signed_known clock ps t None k = tt
signed_known clock ps t (Some l) k = (refl, k, tt)

-- so the sign of a task or body that failed is for a known one
home_known : (clock : Clock) (e : Option Exc) (ps : List Place) (t : ℕ) → MadeAt clock t (labels_of ps) (signs_home e ps t)
home_known clock None ps t = tt
home_known clock (Some e) ps t = signed_known clock ps t (home_among ps) (found_home ps)

-- signs begin no child, and enter nothing
signs_start : (o : Option Label) (t n : ℕ) → Starts n (signs_to o t) []
signs_start None t n = tt
signs_start (Some l) t n = tt

home_start : (e : Option Exc) (ps : List Place) (t n : ℕ) → Starts n (signs_home e ps t) []
home_start None ps t n = tt
home_start (Some e) ps t n = signs_start (home_among ps) t n

still_known : (ps : List Place) (es : List Event) → AllKnown ps (known_after (labels_of ps) es)
still_known ps es = all_grow (labels_of ps) (known_after (labels_of ps) es) (λ l k. known_stays l es (labels_of ps) k) ps (all_own ps)

-- ---- shapes of moves

-- a move that continues, and makes nothing
pub onward_case : (clock : Clock) (t : ℕ) (cancelled_from : Table) (w : ℕ) (home : List Place) (fs : List Frame) (ps : List Place) (exc : Option Exc) (count : ℕ) →
    Placed fs ps → home_places fs ps ≡ home → frames_weight fs ≤ w → Case clock t cancelled_from w home ps count (onward fs ps exc)
onward_case clock t cancelled_from w home fs ps exc count p h le =
    record {
      placed = p;
      at_home = h;
      made_now = tt;
      places = all_own ps;
      starts_made = tt;
      begun_in = tt;
      clocks = tt;
      stops = tt;
      weight =
          omega arith;
    }

-- the weight of a sleep
sleep_weighs : (paced : Bool) (n : ℕ) → sleep_weight paced n ≤ sleep_weight paced 0
sleep_weighs false zero = omega arith
sleep_weighs false (suc n) = omega arith
sleep_weighs true zero = omega arith
sleep_weighs true (suc n) = omega arith

-- a sleep
pub sleep_case : (clock : Clock) (t : ℕ) (cancelled_from : Table) (paced : Bool) (n w : ℕ) (home : List Place) (fs : List Frame) (ps : List Place)
    (count : ℕ) → Placed fs ps →
    home_places fs ps ≡ home → sleep_weight paced 0 + frames_weight fs ≤ w → Case clock t cancelled_from w home ps count (sleeps clock cancelled_from paced n t fs ps)
sleep_case clock t cancelled_from paced n w home fs ps count p h le = by_clock clock (seen (stack_at cancelled_from ps).scopes t) refl n
  where
    falls : (clock : Clock) (n : ℕ) → FallsAsleep clock n (seen (stack_at cancelled_from ps).scopes t) →
        Case clock t cancelled_from w home ps count (blocks_on (asleep paced n t) fs ps)
    falls clock n f =
        record {
          placed = p;
          at_home = h;
          made_now = tt;
          places = all_own ps;
          starts_made = tt;
          begun_in = tt;
          clocks = tt;
          stops = (refl, f);
          weight = let i = sleep_weighs paced n in omega arith;
        }

    by_clock : (clock : Clock) (b : Bool) → seen (stack_at cancelled_from ps).scopes t ≡ b → (n : ℕ) →
        Case clock t cancelled_from w home ps count (falls_asleep clock b paced n t fs ps)
    by_clock by_ticks true e n = onward_case by_ticks t cancelled_from w home fs ps (Some cancelled) count p h (omega arith)
    by_clock by_ticks false e zero = onward_case by_ticks t cancelled_from w home fs ps None count p h (omega arith)
    by_clock by_ticks false e (suc n) = falls by_ticks (suc n) (omega arith, e)
    by_clock by_rounds b e n = falls by_rounds n tt

-- the case of a step that asks a kernel
asks_case : (clock : Clock) (t : ℕ) (cancelled_from : Table) (kernel : Kernel) (purpose : Purpose) (w : ℕ) (home : List Place) (fs : List Frame) (ps : List Place)
    (count : ℕ) →
    Suits kernel purpose → Placed fs ps → home_places fs ps ≡ home → weight_of_stop (Some (asking kernel purpose)) + frames_weight fs ≤ w →
    Case clock t cancelled_from w home ps count (blocks_on (asking kernel purpose) fs ps)
asks_case clock t cancelled_from kernel purpose w home fs ps count suits p h le =
    record {
      placed = (suits, p);
      at_home = h;
      made_now = tt;
      places = all_own ps;
      starts_made = tt;
      begun_in = tt;
      clocks = tt;
      stops = tt;
      weight =
          omega arith;
    }

-- the case of a step that enters a scope or nursery
enter_case : (clock : Clock) (t : ℕ) (cancelled_from : Table) (label : Label) (shield : Bool) (deadline : Tick) (body : Steps) (exit : Frame) (w : ℕ)
    (home : List Place) (fs : List Frame) (ps : List Place) (count : ℕ) →
    Placed (steps_left body ∷ exit ∷ fs) (record { label = label; shield = shield; is_event = false } ∷ ps) →
    home_places (steps_left body ∷ exit ∷ fs) (record { label = label; shield = shield; is_event = false } ∷ ps) ≡ home →
    frames_weight (steps_left body ∷ exit ∷ fs) ≤ w →
    Case clock t cancelled_from w home ps count (enters_block label shield deadline t body exit fs ps)
enter_case clock t cancelled_from label shield deadline body exit w home fs ps count p h le =
    record {
      placed = p;
      at_home = h;
      made_now = (refl, tt);
      places = (inl refl, all_grow (labels_of ps) (label ∷ labels_of ps) (λ l k. inr k) ps (all_own ps));
      starts_made = tt;
      begun_in = tt;
      clocks = tt;
      stops = tt;
      weight = omega arith;
    }

-- the case of a step that signs for what it found: a `cancel` or a `set`
signs_case : (clock : Clock) (t : ℕ) (cancelled_from : Table) (o : Option Label) (w : ℕ) (home : List Place) (fs : List Frame) (ps : List Place) (count : ℕ) →
    Found o (labels_of ps) → Placed fs ps → home_places fs ps ≡ home → frames_weight fs ≤ w →
    Case clock t cancelled_from w home ps count (makes (signs_to o t) fs ps)
signs_case clock t cancelled_from o w home fs ps count k p h le =
    record {
      placed = p;
      at_home = h;
      made_now = signed_known clock ps t o k;
      places = still_known ps (signs_to o t);
      starts_made = signs_start o t count;
      begun_in = tt;
      clocks = tt;
      stops = tt;
      weight = omega arith;
    }

-- the case of a step that waits for an event
waits_case : (clock : Clock) (t : ℕ) (cancelled_from : Table) (name : List ℕ) (w : ℕ) (home : List Place) (fs : List Frame) (ps : List Place) (count : ℕ) →
    Placed fs ps → home_places fs ps ≡ home → 2 + frames_weight fs ≤ w →
    Case clock t cancelled_from w home ps count (waits_on (label_among true name ps) name t fs ps)
waits_case clock t cancelled_from name w home fs ps count p h le = by_label (label_among true name ps) refl
  where
    found : (o : Option Label) → label_among true name ps ≡ o → IsSome o → IsSome (label_among true name ps)
    found o e s = subst (λ (x : Option Label). IsSome x) (sym e) s

    by_label : (o : Option Label) → label_among true name ps ≡ o → Case clock t cancelled_from w home ps count (waits_on o name t fs ps)
    by_label None e = onward_case clock t cancelled_from w home fs ps None count p h (omega arith)
    by_label (Some l) e =
        record {
          placed = (found (Some l) e tt, p);
          at_home = h;
          made_now = tt;
          places = all_own ps;
          starts_made = tt;
          begun_in = tt;
          clocks = tt;
          stops = refl;
          weight = omega arith;
        }

-- the case of a step that asks something of a limiter or channel
queues_case : (clock : Clock) (t : ℕ) (cancelled_from : Table) (b : Bool) (name : List ℕ) (ask : Ask) (body : Steps) (w : ℕ) (home : List Place)
    (fs : List Frame) (ps : List Place) (count : ℕ) → StartsIn false body → Placed fs ps → home_places fs ps ≡ home →
    2 + 2 * size_of body + frames_weight fs ≤ w → (b ≡ false → seen (stack_at cancelled_from ps).scopes t ≡ false) →
    Case clock t cancelled_from w home ps count (asks_of clock (label_among true name ps) b name ask t body fs ps)
queues_case clock t cancelled_from b name ask body w home fs ps count s p h le unseen = by_label (label_among true name ps) refl
  where
    found : (o : Option Label) → label_among true name ps ≡ o → IsSome o → IsSome (label_among true name ps)
    found o e i = subst (λ (x : Option Label). IsSome x) (sym e) i

    by_seen : (clock : Clock) (b : Bool) → (b ≡ false → seen (stack_at cancelled_from ps).scopes t ≡ false) → IsSome (label_among true name ps) → Case clock t cancelled_from w home ps count (asks_if clock b name ask t body fs ps)
    by_seen by_ticks true e i = onward_case by_ticks t cancelled_from w home fs ps (Some cancelled) count p h (omega arith)
    by_seen by_rounds true e i =
        record {
          placed = p;
          at_home = h;
          made_now = tt;
          places = all_own ps;
          starts_made = tt;
          begun_in = tt;
          clocks = tt;
          stops = inr refl;
          weight = omega arith;
        }
    by_seen by_ticks false e i =
        record {
          placed = (i, s, p);
          at_home = h;
          made_now = tt;
          places = all_own ps;
          starts_made = tt;
          begun_in = tt;
          clocks = tt;
          stops = (refl, e refl);
          weight = omega arith;
        }
    by_seen by_rounds false e i =
        record {
          placed = (i, s, p);
          at_home = h;
          made_now = tt;
          places = all_own ps;
          starts_made = tt;
          begun_in = tt;
          clocks = tt;
          stops = (refl, e refl);
          weight = omega arith;
        }

    by_label : (o : Option Label) → label_among true name ps ≡ o → Case clock t cancelled_from w home ps count (asks_of clock o b name ask t body fs ps)
    by_label None e = onward_case clock t cancelled_from w home fs ps None count p h (omega arith)
    by_label (Some l) e = by_seen clock b unseen (found (Some l) e tt)

-- the case of a step that closes a channel, if there is one
closes_case : (clock : Clock) (t : ℕ) (cancelled_from : Table) (o : Option Label) (w : ℕ) (home : List Place) (fs : List Frame) (ps : List Place) (count : ℕ) →
    Placed fs ps → home_places fs ps ≡ home → frames_weight fs ≤ w → Case clock t cancelled_from w home ps count (makes (acts_on o t closes) fs ps)
closes_case clock t cancelled_from None w home fs ps count p h le = onward_case clock t cancelled_from w home fs ps None count p h le
closes_case clock t cancelled_from (Some l) w home fs ps count p h le =
    record {
      placed = p;
      at_home = h;
      made_now = (refl, tt);
      places = all_own ps;
      starts_made = tt;
      begun_in = tt;
      clocks = tt;
      stops = tt;
      weight = omega arith;
    }

-- the case of a step that opens a limiter or channel, and enters it
object_case : (clock : Clock) (t : ℕ) (cancelled_from : Table) (label : Label) (kind : ObjectKind) (body : Steps) (w : ℕ) (home : List Place)
    (fs : List Frame) (ps : List Place) (count : ℕ) → StartsIn false body → Placed fs ps → home_places fs ps ≡ home →
    frames_weight (steps_left body ∷ in_event ∷ fs) ≤ w → Case clock t cancelled_from w home ps count (enters_object label kind t body fs ps)
object_case clock t cancelled_from label kind body w home fs ps count b p h le =
    record {
      placed = (b, (refl, p));
      at_home = h;
      made_now = (refl, (refl, tt));
      places = (inl refl, all_grow (labels_of ps) (label ∷ labels_of ps) (λ l k. inr k) ps (all_own ps));
      starts_made = tt;
      begun_in = tt;
      clocks = tt;
      stops = tt;
      weight = omega arith;
    }

-- a token that is given back
token_case : (clock : Clock) (t : ℕ) (cancelled_from : Table) (limiter : Label) (fs : List Frame) (ps : List Place) (exc : Option Exc) (count : ℕ) →
    Placed fs ps →
    Case clock t cancelled_from (frames_weight (with_token limiter ∷ fs)) (home_places fs ps) ps count (gives_token_back limiter t fs ps exc)
token_case clock t cancelled_from limiter fs ps exc count p =
    record {
      placed = p;
      at_home = refl;
      made_now = (refl, tt);
      places = all_own ps;
      starts_made = tt;
      begun_in = tt;
      clocks = tt;
      stops = tt;
      weight = omega arith;
    }

-- the case of a step that enters an event
event_case : (clock : Clock) (t : ℕ) (cancelled_from : Table) (label : Label) (body : Steps) (w : ℕ) (home : List Place) (fs : List Frame) (ps : List Place)
    (count : ℕ) → StartsIn false body → Placed fs ps → home_places fs ps ≡ home → frames_weight (steps_left body ∷ in_event ∷ fs) ≤ w →
    Case clock t cancelled_from w home ps count (enters_event label t body fs ps)
event_case clock t cancelled_from label body w home fs ps count b p h le =
    record {
      placed = (b, (refl, p));
      at_home = h;
      made_now = (refl, tt);
      places = (inl refl, all_grow (labels_of ps) (label ∷ labels_of ps) (λ l k. inr k) ps (all_own ps));
      starts_made = tt;
      begun_in = tt;
      clocks = tt;
      stops = tt;
      weight = omega arith;
    }

-- a scope or nursery that is left
pub leaves_case : (clock : Clock) (now : Now) (cancelled_from : Table) (kind : Kind) (w : ℕ) (home : List Place) (fs : List Frame) (p : Place) (ps : List Place)
    (exc : Option Exc) (count : ℕ) → Placed fs ps → home_places fs ps ≡ home → frames_weight fs ≤ w →
    Case clock now.at cancelled_from w home (p ∷ ps) count (leaves clock cancelled_from now kind fs p ps exc)
leaves_case clock now cancelled_from kind w home fs p ps exc count q h le =
    record {
      placed = q;
      at_home = h;
      made_now = (refl, tt);
      places = all_grow (labels_of ps) (p.label ∷ labels_of ps) (λ l k. inr k) ps (all_own ps);
      starts_made = tt;
      begun_in = tt;
      clocks = tt;
      stops = tt;
      weight = omega arith;
    }

-- an event that is left
event_left_case : (clock : Clock) (t : ℕ) (cancelled_from : Table) (fs : List Frame) (p : Place) (ps : List Place) (exc : Option Exc) (count : ℕ) → Placed fs ps →
    Case clock t cancelled_from (frames_weight (in_event ∷ fs)) (home_places fs ps) (p ∷ ps) count (onward fs ps exc)
event_left_case clock t cancelled_from fs p ps exc count q =
    record {
      placed = q;
      at_home = refl;
      made_now = tt;
      places = all_grow (labels_of ps) (p.label ∷ labels_of ps) (λ l k. inr k) ps (all_own ps);
      starts_made = tt;
      begun_in = tt;
      clocks = tt;
      stops = tt;
      weight = omega arith;
    }

-- ---- starts

-- steps are directly in a nursery's body as before when it has more children
body_started : (more : List ℕ) (fs : List Frame) → in_body (with_started more fs) ≡ in_body fs
body_started more [] = refl
body_started more (in_nursery children ∷ fs) = refl
body_started more (steps_left ss ∷ fs) = body_started more fs
body_started more (in_scope fail ∷ fs) = refl
body_started more (in_event ∷ fs) = refl
body_started more (with_token limiter ∷ fs) = refl
body_started more (with_part received ∷ fs) = refl
body_started more (in_repeat pass left cuts again ∷ fs) = ap (starts_in_pass (is_some cuts)) (body_started more fs)
body_started more (in_try handler cleanup ∷ fs) = refl
body_started more (in_handler rest cleanup ∷ fs) = refl
body_started more (in_cleanup outcome ∷ fs) = refl

-- a nursery's frame with more children
placed_started : (more : List ℕ) (fs : List Frame) (ps : List Place) → Placed fs ps → Placed (with_started more fs) ps
placed_started more [] ps p = p
placed_started more (in_nursery children ∷ fs) [] p = absurd p
placed_started more (in_nursery children ∷ fs) (q ∷ ps) p = p
placed_started more (steps_left ss ∷ fs) ps p =
    (subst (λ (x : Bool). StartsIn x ss) (sym (body_started more fs)) p.0, placed_started more fs ps p.1)
placed_started more (in_scope fail ∷ fs) ps p = p
placed_started more (in_event ∷ fs) ps p = p
placed_started more (with_token limiter ∷ fs) ps p = p
placed_started more (with_part received ∷ fs) ps p = p
placed_started more (in_repeat pass left cuts again ∷ fs) ps p =
    (subst (λ (x : Bool). StartsIn (starts_in_pass (is_some cuts) x) again) (sym (body_started more fs)) p.0, placed_started more fs ps p.1)
placed_started more (in_try handler cleanup ∷ fs) ps p = p
placed_started more (in_handler rest cleanup ∷ fs) ps p = p
placed_started more (in_cleanup outcome ∷ fs) ps p = p

home_started : (more : List ℕ) (fs : List Frame) (ps : List Place) → home_places (with_started more fs) ps ≡ home_places fs ps
home_started more [] ps = refl
home_started more (in_nursery children ∷ fs) [] = refl
home_started more (in_nursery children ∷ fs) (p ∷ ps) = refl
home_started more (steps_left ss ∷ fs) ps = home_started more fs ps
home_started more (in_scope fail ∷ fs) ps = refl
home_started more (in_event ∷ fs) ps = refl
home_started more (with_token limiter ∷ fs) ps = refl
home_started more (with_part received ∷ fs) ps = refl
home_started more (in_repeat pass left cuts again ∷ fs) ps = home_started more fs ps
home_started more (in_try handler cleanup ∷ fs) ps = refl
home_started more (in_handler rest cleanup ∷ fs) ps = refl
home_started more (in_cleanup outcome ∷ fs) ps = refl

weight_started : (more : List ℕ) (fs : List Frame) → frames_weight (with_started more fs) ≡ frames_weight fs
weight_started more [] = refl
weight_started more (in_nursery children ∷ fs) = refl
weight_started more (steps_left ss ∷ fs) = let e = weight_started more fs in omega arith
weight_started more (in_scope fail ∷ fs) = refl
weight_started more (in_event ∷ fs) = refl
weight_started more (with_token limiter ∷ fs) = refl
weight_started more (with_part received ∷ fs) = refl
weight_started more (in_repeat pass left cuts again ∷ fs) = let e = weight_started more fs in omega arith
weight_started more (in_try handler cleanup ∷ fs) = refl
weight_started more (in_handler rest cleanup ∷ fs) = refl
weight_started more (in_cleanup outcome ∷ fs) = refl

-- a `start .. over` begins the given number of children
pub over_length : (name : List ℕ) (here : Here) (of : ℕ) (body : Steps) (ps : List Place) (first k : ℕ) →
    length (begun_over name here of body ps first k) ≡ k
over_length name here of body ps first zero = refl
over_length name here of body ps first (suc k) =
    length_one (begun_over name here of body ps first k) _ ∙ ap (λ (n : ℕ). suc n) (over_length name here of body ps first k)
  where
    length_one : (bs : List Begun) (b : Begun) → length (bs ++ b ∷ []) ≡ suc (length bs)
    length_one [] b = refl
    length_one (c ∷ bs) b = ap (λ (n : ℕ). suc n) (length_one bs b)

over_starts : (name : List ℕ) (here : Here) (t of : ℕ) (body : Steps) (ps : List Place) (first k : ℕ) →
    Starts first (starts_over name here t first k) (begun_over name here of body ps first k)
over_starts name here t of body ps first zero = tt
over_starts name here t of body ps first (suc k) =
    let b = begun_one (first + k) (here_in (label_over name here k) (cut_of here.input here.part of k) here) body ps in
    starts_append (starts_over name here t first k) (starts (first + k) (label_over name here k) t ∷ []) first
    (begun_over name here of body ps first k) (b ∷ [])
    (over_starts name here t of body ps first k)
    (last (sym (over_length name here of body ps first k)))
  where
    last : {n : ℕ} → k ≡ n →
        Starts (first + n) (starts (first + k) (label_over name here k) t ∷ [])
        (begun_one (first + k) (here_in (label_over name here k) (cut_of here.input here.part of k) here) body ps ∷ [])
    last e = (ap (λ (n : ℕ). first + n) e, ap (λ (n : ℕ). first + n) e, refl, tt)

over_begun : (name : List ℕ) (here : Here) (of : ℕ) (body : Steps) (ps : List Place) (first : ℕ) (ls : List Label) → AllKnown ps ls →
    StartsIn false body → (k : ℕ) → BegunIn ls (begun_over name here of body ps first k)
over_begun name here of body ps first ls a i zero = tt
over_begun name here of body ps first ls a i (suc k) =
    begun_append ls (begun_over name here of body ps first k) _ (over_begun name here of body ps first ls a i k) (a, i, tt)

over_weight : (name : List ℕ) (here : Here) (of : ℕ) (body : Steps) (ps : List Place) (first k : ℕ) →
    weight_of_begun (begun_over name here of body ps first k) ≤ 2 * (k * (1 + size_of body))
over_weight name here of body ps first zero = omega arith
over_weight name here of body ps first (suc k) =
    let b = begun_one (first + k) (here_in (label_over name here k) (cut_of here.input here.part of k) here) body ps in
    let e = weight_append (begun_over name here of body ps first k) (b ∷ []) in
    let h = over_weight name here of body ps first k in
    let m = times (1 + size_of body) k in
    omega arith
  where
    times : (x k : ℕ) → suc k * x ≡ x + k * x
    times x k = omega arith

over_made : (clock : Clock) (name : List ℕ) (here : Here) (t first : ℕ) (ls : List Label) (k : ℕ) →
    MadeAt clock t ls (starts_over name here (a_round_after clock t) first k)
over_made clock name here t first ls zero = tt
over_made clock name here t first ls (suc k) =
    made_append clock t (starts_over name here (a_round_after clock t) first k)
    (starts (first + k) (label_over name here k) (a_round_after clock t) ∷ []) ls
    (over_made clock name here t first ls k) (refl, tt)

over_clocks : (name : List ℕ) (here : Here) (of : ℕ) (body : Steps) (ps : List Place) (first k : ℕ) →
    AllBy here.clock (begun_over name here of body ps first k)
over_clocks name here of body ps first zero = tt
over_clocks name here of body ps first (suc k) =
    clocks_append here.clock (begun_over name here of body ps first k) _ (over_clocks name here of body ps first k) (refl, tt)

-- the case of a step that starts one child or several
start_case : (now : Now) (cancelled_from : Table) (here : Here) (name : List ℕ) (over : Option ℕ) (body ss : Steps) (fs : List Frame) (ps : List Place)
    (count : ℕ) →
    StartsIn false body → StartsIn (in_body fs) ss → Placed fs ps →
    Case here.clock now.at cancelled_from (frames_weight (steps_left (step (start name over body) ss) ∷ fs)) (home_places fs ps) ps count
    (step_on cancelled_from now here (start name over body) ss fs ps count)
start_case now cancelled_from here name None body ss fs ps count i b p =
    record {
      placed = (subst (λ (x : Bool). StartsIn x ss) (sym (body_started (count ∷ []) fs)) b, placed_started (count ∷ []) fs ps p);
      at_home = home_started (count ∷ []) fs ps;
      made_now = (refl, tt);
      places = all_own ps;
      starts_made = (refl, refl, refl, tt);
      begun_in = (all_own ps, i, tt);
      clocks = (refl, tt);
      stops = tt;
      weight = let e = weight_started (count ∷ []) fs in omega arith;
    }
start_case now cancelled_from here name (Some k) body ss fs ps count i b p =
    record {
      placed = (
        subst (λ (x : Bool). StartsIn x ss) (sym (body_started (consecutive count k) fs)) b,
        placed_started (consecutive count k) fs ps p,
      );
      at_home = home_started (consecutive count k) fs ps;
      made_now = over_made here.clock name here now.at count (labels_of ps) k;
      places = still_known ps (starts_over name here (a_round_after here.clock now.at) count k);
      starts_made = over_starts name here (a_round_after here.clock now.at) k body ps count k;
      begun_in = over_begun name here k body ps count (known_after (labels_of ps) (starts_over name here (a_round_after here.clock now.at) count k))
          (still_known ps (starts_over name here (a_round_after here.clock now.at) count k)) i k;
      clocks = over_clocks name here k body ps count k;
      stops = tt;
      weight = let e = weight_started (consecutive count k) fs in let h = over_weight name here k body ps count k in omega arith;
    }

-- ---- passes

-- the first pass of a `repeat`
passes_case : (clock : Clock) (t : ℕ) (cancelled_from : Table) (n : ℕ) (over : Bool) (body : Steps) (w : ℕ) (home : List Place) (fs : List Frame) (ps : List Place) (count : ℕ) →
    StartsIn (starts_in_pass over (in_body fs)) body → Placed fs ps → home_places fs ps ≡ home →
    2 * (n * (1 + size_of body)) + frames_weight fs ≤ w →
    Case clock t cancelled_from w home ps count (begins_passes n over body fs ps)
passes_case clock t cancelled_from zero over body w home fs ps count b p h le = onward_case clock t cancelled_from _ _ fs ps None count p h (omega arith)
passes_case clock t cancelled_from (suc k) false body w home fs ps count b p h le =
    let e = suc-mul k (1 + size_of body) in
    onward_case clock t cancelled_from _ _ (steps_left body ∷ in_repeat 0 k None body ∷ fs) ps None count (b, (b, p)) h (omega arith)
passes_case clock t cancelled_from (suc k) true body w home fs ps count b p h le =
    let e = suc-mul k (1 + size_of body) in
    onward_case clock t cancelled_from _ _ (steps_left body ∷ in_repeat 0 k (Some (suc k)) body ∷ fs) ps None count (b, (b, p)) h (omega arith)

-- a pass has ended
pass_case : (clock : Clock) (t : ℕ) (cancelled_from : Table) (pass left : ℕ) (cuts : Option ℕ) (body : Steps) (fs : List Frame) (ps : List Place) (exc : Option Exc) (count : ℕ) →
    StartsIn (starts_in_pass (is_some cuts) (in_body fs)) body → Placed fs ps →
    Case clock t cancelled_from (frames_weight (in_repeat pass left cuts body ∷ fs)) (home_places fs ps) ps count (step_pass pass left cuts body fs ps exc)
pass_case clock t cancelled_from pass left cuts body fs ps (Some e) count b p = onward_case clock t cancelled_from _ _ fs ps (Some e) count p refl (omega arith)
pass_case clock t cancelled_from pass zero cuts body fs ps None count b p = onward_case clock t cancelled_from _ _ fs ps None count p refl (omega arith)
pass_case clock t cancelled_from pass (suc k) cuts body fs ps None count b p =
    let e = suc-mul k (1 + size_of body) in
    onward_case clock t cancelled_from _ _ (steps_left body ∷ in_repeat (suc pass) k cuts body ∷ fs) ps None count (b, (b, p)) refl (omega arith)

-- ---- each kind of step, and of frame

step_case : (now : Now) (cancelled_from : Table) (here : Here) (s : Step) (ss : Steps) (fs : List Frame) (ps : List Place) (count : ℕ) →
    StartsAt (in_body fs) s → StartsIn (in_body fs) ss → Placed fs ps →
    Case here.clock now.at cancelled_from (frames_weight (steps_left (step s ss) ∷ fs)) (home_places fs ps) ps count (step_on cancelled_from now here s ss fs ps count)
step_case now cancelled_from here (sleep n) ss fs ps count a b p = sleep_case here.clock now.at cancelled_from false n _ _ (steps_left ss ∷ fs) ps count (b, p) refl (omega arith)
step_case now cancelled_from here checkpoint ss fs ps count a b p = sleep_case here.clock now.at cancelled_from false 0 _ _ (steps_left ss ∷ fs) ps count (b, p) refl (omega arith)
step_case now cancelled_from here forever ss fs ps count a b p =
    sleep_case here.clock now.at cancelled_from false (far - tick_of here.clock now.at) _ _ (steps_left ss ∷ fs) ps count (b, p) refl (omega arith)
step_case now cancelled_from here (pace k) ss fs ps count a b p =
    asks_case here.clock now.at cancelled_from ask.count (paces k) _ _ (steps_left ss ∷ fs) ps count tt (b, p) refl (omega arith)
step_case now cancelled_from here (find text) ss fs ps count a b p =
    asks_case here.clock now.at cancelled_from (ask.find text) shows _ _ (steps_left ss ∷ fs) ps count tt (b, p) refl (omega arith)
step_case now cancelled_from here (head n) ss fs ps count a b p =
    asks_case here.clock now.at cancelled_from (ask.head n) shows _ _ (steps_left ss ∷ fs) ps count tt (b, p) refl (omega arith)
step_case now cancelled_from here longest ss fs ps count a b p =
    asks_case here.clock now.at cancelled_from ask.longest shows _ _ (steps_left ss ∷ fs) ps count tt (b, p) refl (omega arith)
step_case now cancelled_from here (need text name) ss fs ps count a b p =
    asks_case here.clock now.at cancelled_from (ask.need text) (needs name) _ _ (steps_left ss ∷ fs) ps count tt (b, p) refl (omega arith)
step_case now cancelled_from here (raise name) ss fs ps count a b p = onward_case here.clock now.at cancelled_from _ _ (steps_left ss ∷ fs) ps _ count (b, p) refl (omega arith)
step_case now cancelled_from here (cancel name) ss fs ps count a b p =
    signs_case here.clock now.at cancelled_from (label_among false name ps) _ _ (steps_left ss ∷ fs) ps count (found_among false name ps) (b, p) refl (omega arith)
step_case now cancelled_from here (set_event name) ss fs ps count a b p =
    signs_case here.clock now.at cancelled_from (label_among true name ps) _ _ (steps_left ss ∷ fs) ps count (found_among true name ps) (b, p) refl (omega arith)
step_case now cancelled_from here (wait_for name) ss fs ps count a b p =
    waits_case here.clock now.at cancelled_from name _ _ (steps_left ss ∷ fs) ps count (b, p) refl (omega arith)
step_case now cancelled_from here (ask_for name ask body) ss fs ps count a b p =
    queues_case here.clock now.at cancelled_from (seen (stack_for now.own now.at (stack_at cancelled_from ps).scopes) now.at) name ask body _ _
    (steps_left ss ∷ fs) ps count a (b, p) refl (omega arith) (unseen_for now.own now.at (stack_at cancelled_from ps).scopes)
step_case now cancelled_from here (close_channel name) ss fs ps count a b p =
    closes_case here.clock now.at cancelled_from (label_among true name ps) _ _ (steps_left ss ∷ fs) ps count (b, p) refl (omega arith)
step_case now cancelled_from here (scope name d shield fail body) ss fs ps count a b p =
    enter_case here.clock now.at cancelled_from (label_here name here) shield (due here.clock d now.at) body (in_scope fail) _ _ (steps_left ss ∷ fs) ps count (a, (refl, (b, p))) refl
    (omega arith)
step_case now cancelled_from here (nursery name d shield body) ss fs ps count a b p =
    enter_case here.clock now.at cancelled_from (label_here name here) shield (due here.clock d now.at) body (in_nursery []) _ _ (steps_left ss ∷ fs) ps count (a, (refl, (b, p))) refl
    (omega arith)
step_case now cancelled_from here (event name body) ss fs ps count a b p =
    event_case here.clock now.at cancelled_from (label_here name here) body _ _ (steps_left ss ∷ fs) ps count a (b, p) refl (omega arith)
step_case now cancelled_from here (object name kind body) ss fs ps count a b p =
    object_case here.clock now.at cancelled_from (label_here name here) kind body _ _ (steps_left ss ∷ fs) ps count a (b, p) refl (omega arith)
step_case now cancelled_from here (start name over body) ss fs ps count a b p = start_case now cancelled_from here name over body ss fs ps count a.1 b p
step_case now cancelled_from here (repeat n over body) ss fs ps count a b p =
    passes_case here.clock now.at cancelled_from n over body _ _ (steps_left ss ∷ fs) ps count a (b, p) refl (omega arith)
step_case now cancelled_from here (attempt body handler cleanup) ss fs ps count a b p =
    onward_case here.clock now.at cancelled_from _ _ (steps_left body ∷ in_try handler cleanup ∷ steps_left ss ∷ fs) ps None count (a.0, (a.1, a.2, (b, p))) refl
    (omega arith)

steps_case : (now : Now) (cancelled_from : Table) (here : Here) (ss : Steps) (fs : List Frame) (ps : List Place) (exc : Option Exc) (count : ℕ) →
    StartsIn (in_body fs) ss → Placed fs ps → Case here.clock now.at cancelled_from (frames_weight (steps_left ss ∷ fs)) (home_places fs ps) ps count
    (step_steps cancelled_from now here ss fs ps exc count)
steps_case now cancelled_from here ss fs ps (Some e) count b p = onward_case here.clock now.at cancelled_from _ _ fs ps (Some e) count p refl (omega arith)
steps_case now cancelled_from here stop fs ps None count b p = onward_case here.clock now.at cancelled_from _ _ fs ps None count p refl (omega arith)
steps_case now cancelled_from here (step s ss) fs ps None count b p = step_case now cancelled_from (inside fs here) s ss fs ps count b.0 b.1 p

try_case : (clock : Clock) (t : ℕ) (cancelled_from : Table) (handler : Handled) (cleanup : Cleaned) (fs : List Frame) (ps : List Place) (exc : Option Exc)
    (count : ℕ) →
    HandlerStarts handler → CleanupStarts cleanup → Placed fs ps →
    Case clock t cancelled_from (frames_weight (in_try handler cleanup ∷ fs)) (home_places fs ps) ps count (step_try handler cleanup fs ps exc)
try_case clock t cancelled_from unhandled uncleaned fs ps exc count a b p = onward_case clock t cancelled_from _ _ fs ps exc count p refl (omega arith)
try_case clock t cancelled_from unhandled (finally body) fs ps exc count a b p =
    onward_case clock t cancelled_from _ _ (steps_left body ∷ in_cleanup exc ∷ fs) ps None count (b, p) refl (omega arith)
try_case clock t cancelled_from (except name body) cleanup fs ps None count a b p =
    onward_case clock t cancelled_from _ _ (in_try unhandled cleanup ∷ fs) ps None count (tt, b, p) refl (omega arith)
try_case clock t cancelled_from (except name body) cleanup fs ps (Some e) count a b p = by_match (keep (named name) e)
  where
    by_match : (o : Option Exc) → Case clock t cancelled_from (frames_weight (in_try (except name body) cleanup ∷ fs)) (home_places fs ps) ps count
        (handler_if o (drop (named name) e) e body cleanup fs ps)
    by_match None = onward_case clock t cancelled_from _ _ (in_try unhandled cleanup ∷ fs) ps (Some e) count (tt, b, p) refl (omega arith)
    by_match (Some x) = onward_case clock t cancelled_from _ _ (steps_left body ∷ in_handler (drop (named name) e) cleanup ∷ fs) ps None count (a, (b, p))
        refl (omega arith)

frames_case : (now : Now) (cancelled_from : Table) (here : Here) (fs : List Frame) (ps : List Place) (exc : Option Exc) (count : ℕ) → Placed fs ps →
    Case here.clock now.at cancelled_from (frames_weight fs) (home_places fs ps) ps count (step_frames cancelled_from now here fs ps exc count)
frames_case now cancelled_from here [] ps exc count p =
    record {
      placed = refl;
      at_home = refl;
      made_now = home_known here.clock exc ps now.at;
      places = still_known ps (signs_home exc ps now.at);
      starts_made = home_start exc ps now.at count;
      begun_in = tt;
      clocks = tt;
      stops = refl;
      weight = omega arith;
    }
frames_case now cancelled_from here (steps_left ss ∷ fs) ps exc count p = steps_case now cancelled_from here ss fs ps exc count p.0 p.1
frames_case now cancelled_from here (in_scope fail ∷ fs) [] exc count p = absurd p
frames_case now cancelled_from here (in_scope fail ∷ fs) (q ∷ ps) exc count p =
    leaves_case here.clock now cancelled_from (a_scope fail) _ _ fs q ps exc count p.1 refl (omega arith)
frames_case now cancelled_from here (in_event ∷ fs) [] exc count p = absurd p
frames_case now cancelled_from here (in_event ∷ fs) (q ∷ ps) exc count p = event_left_case here.clock now.at cancelled_from fs q ps exc count p.1
frames_case now cancelled_from here (with_token limiter ∷ fs) ps exc count p = token_case here.clock now.at cancelled_from limiter fs ps exc count p
frames_case now cancelled_from here (with_part received ∷ fs) ps exc count p = onward_case here.clock now.at cancelled_from _ _ fs ps _ count p refl (omega arith)
frames_case now cancelled_from here (in_nursery children ∷ fs) [] exc count p = absurd p
frames_case now cancelled_from here (in_nursery children ∷ fs) (q ∷ ps) exc count p =
    record {
      placed = p;
      at_home = refl;
      made_now = home_known here.clock exc (q ∷ ps) now.at;
      places = still_known (q ∷ ps) (signs_home exc (q ∷ ps) now.at);
      starts_made = home_start exc (q ∷ ps) now.at count;
      begun_in = tt;
      clocks = tt;
      stops = refl;
      weight = omega arith;
    }
frames_case now cancelled_from here (in_repeat pass left cuts body ∷ fs) ps exc count p = pass_case here.clock now.at cancelled_from pass left cuts body fs ps exc count p.0 p.1
frames_case now cancelled_from here (in_try handler cleanup ∷ fs) ps exc count p = try_case here.clock now.at cancelled_from handler cleanup fs ps exc count p.0 p.1 p.2
frames_case now cancelled_from here (in_handler rest cleanup ∷ fs) ps exc count p =
    onward_case here.clock now.at cancelled_from _ _ (in_try unhandled cleanup ∷ fs) ps _ count (tt, p.0, p.1) refl (omega arith)
frames_case now cancelled_from here (in_cleanup outcome ∷ fs) ps exc count p = onward_case here.clock now.at cancelled_from _ _ fs ps _ count p refl (omega arith)

-- one step of a turn
pub step_cases : (now : Now) (cancelled_from : Table) (here : Here) (m : Midway) → Placed m.frames m.places →
    Case here.clock now.at cancelled_from (frames_weight m.frames) (home_places m.frames m.places) m.places m.count (step_of cancelled_from now here m)
unfolding step_of
step_cases now cancelled_from here m p = frames_case now cancelled_from here m.frames m.places m.exc m.count p
