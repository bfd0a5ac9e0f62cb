-- Each child that a task begins belongs to a nursery of the task, which keeps it until it is settled.
use Rattle.std.proofs.Common.{◌≡◌, ◌⊎◌, inl, inr, ℕ, zero, suc, ◌+◌, ◌-◌, ◌<◌, Bool, true, false, IsTrue, Option, Some, None, List, [], ◌∷◌, ◌++◌, refl, ap, arith}
use Rattle.turn_semantics.specs.Lists.{IsAmong}
use Rattle.job_tree.specs.Tree.{Step, sleep, checkpoint, forever, pace, find, head, longest, need, raise, cancel, set_event, wait_for, ask_for, close_channel, scope, nursery, event, object, start, repeat, attempt, Steps, stop, step, Handled, unhandled, except, Cleaned, uncleaned, finally}
use Rattle.job_tree.specs.Starting.{StartsIn, StartsAt}
use Rattle.std.specs.Prelude.{codes}
use Rattle.job_tree.specs.declared.object.Ask.{Ask}
use Rattle.exceptions.specs.Exceptions.{Label, Exc, cancelled, raised}
use Rattle.exceptions.specs.Split.{named, keep, drop}
use Rattle.cancel_scopes.specs.Sight.{Level, seen}
use Rattle.job_meaning.specs.Log.{Table}
use Rattle.job_meaning.specs.Sharing.{What, a_token, was_sent, a_part, closed_resource, end_of_channel}
use Rattle.job_meaning.specs.Moments.{tick_of, Now, far}
use Rattle.job_meaning.specs.declared.clock.Clock.{Clock}
use Rattle.job_meaning.specs.declared.clock.Clock.TheVariants.{ByTicks as by_ticks, ByRounds as by_rounds}
use Rattle.job_meaning.specs.Walk.{Here, stack_for, event_on, pace_ticks}
use Rattle.job_meaning.specs.Rest.{consecutive, Frame, steps_left, in_scope, in_event, with_token, with_part, in_nursery, in_repeat, in_try, in_handler, in_cleanup, inside, Stopped, to_begin, asking, asleep, waiting_for, queued, giving_up, awaiting, at_end}
use Rattle.job_meaning.specs.Asking.{Answer, lines, missing, counted, Purpose, shows, needs, paces}
use Rattle.turn_semantics.specs.Midway.{Place, label_among, stack_at, Midway, Begun, Move}
use Rattle.turn_semantics.specs.Steps.{sleeps, falls_asleep, waits_on, asks_of, with_started, begun_over, handler_if, step_try, step_on, step_steps, step_frames, step_of, begins_passes, step_pass}
use Rattle.turn_semantics.specs.Wakes.{Wake, begins, sees, gives_up, is_due, has_answer, is_granted, settles, goes_on_with, with_answer, leaves_settled, ends_at, is_checkpoint, gives_up_if, notes_wait, leaves_the_queue, granted_on, with_grant, sees_from, is_due_from, wake_of, CanWake, from_start, from_asking, from_sleep, from_due, from_seen_waiting, from_set, from_granted, from_seen_queued, from_deadlock, from_giving_up, from_wait}
use Rattle.turn_semantics.specs.Placed.{in_body, Placed, outer_places, HasChild, HasChildAfter, AllHoused}
use Rattle.turn_semantics.proofs.Keeps.{last_or_before}
use Rattle.turn_semantics.proofs.Passes.{loop_body}

among_left : (i : ℕ) (is js : List ℕ) → IsAmong i is → IsAmong i (is ++ js)
among_left i [] js a = absurd a
among_left i (k ∷ is) js (inl e) = inl e
among_left i (k ∷ is) js (inr a) = inr (among_left i is js a)

among_right : (i : ℕ) (is js : List ℕ) → IsAmong i js → IsAmong i (is ++ js)
among_right i [] js a = a
among_right i (k ∷ is) js a = inr (among_right i is js a)

numbered_has : (first i k : ℕ) → i < k → IsAmong (first + i) (consecutive first k)
numbered_has first i zero lt = absurd (omega arith)
numbered_has first i (suc k) lt = by_last (last_or_before i k lt) (λ l. numbered_has first i k l)
  where
    by_last : (i ≡ k) ⊎ (i < k) → (i < k → IsAmong (first + i) (consecutive first k)) →
        IsAmong (first + i) (consecutive first k ++ (first + k) ∷ [])
    by_last (inl e) more = among_right (first + i) (consecutive first k) ((first + k) ∷ []) (inl (ap (λ (n : ℕ). first + n) e))
    by_last (inr l) more = among_left (first + i) (consecutive first k) ((first + k) ∷ []) (more l)

-- a child of a task that continues is one of a nursery among its frames
pub has_going : (i : ℕ) (home : List Place) (fs : List Frame) (ps : List Place) → HasChildAfter i home None fs ps → HasChild i home fs ps
has_going i home fs ps (inl e) = absurd e
has_going i home fs ps (inr h) = h

-- children that are housed, and more of them
pub housed_append : (bs cs : List Begun) (s : Option Stopped) (fs : List Frame) (ps : List Place) →
    AllHoused bs s fs ps → AllHoused cs s fs ps → AllHoused (bs ++ cs) s fs ps
housed_append [] cs s fs ps a b = b
housed_append (x ∷ bs) cs s fs ps a b = (a.0, housed_append bs cs s fs ps a.1 b)

-- children stay housed where each child stays
pub housed_on : (fs : List Frame) (ps : List Place) (s : Option Stopped) (gs : List Frame) (qs : List Place) →
    ((i : ℕ) (home : List Place) → HasChild i home fs ps → HasChildAfter i home s gs qs) →
    (bs : List Begun) → AllHoused bs None fs ps → AllHoused bs s gs qs
housed_on fs ps s gs qs h [] a = tt
housed_on fs ps s gs qs h (b ∷ bs) a = (h b.number b.places (has_going b.number b.places fs ps a.0), housed_on fs ps s gs qs h bs a.1)

-- ---- each step

module _ (now : Now) (cancelled_from : Table) (here : Here) (i : ℕ) (home : List Place) where
  -- the task has the child after a move
  abbrev pub Stays : Move → Type 0
  Stays o = HasChildAfter i home o.stopped o.frames o.places

  stays_sleeps : (clock : Clock) (paced : Bool) (n t : ℕ) (fs : List Frame) (ps : List Place) → HasChild i home fs ps → Stays (sleeps clock cancelled_from paced n t fs ps)
  stays_sleeps clock paced n t fs ps h = by_clock clock (seen (stack_at cancelled_from ps).scopes t) n
    where
      by_clock : (clock : Clock) (b : Bool) (n : ℕ) → Stays (falls_asleep clock b paced n t fs ps)
      by_clock by_ticks true n = inr h
      by_clock by_ticks false zero = inr h
      by_clock by_ticks false (suc n) = inr h
      by_clock by_rounds b n = inr h

  stays_started : (more : List ℕ) (fs : List Frame) (ps : List Place) → HasChild i home fs ps → HasChild i home (with_started more fs) ps
  stays_started more [] ps h = h
  stays_started more (in_nursery children ∷ fs) [] h = h
  stays_started more (in_nursery children ∷ fs) (p ∷ ps) (inl e) = inl (among_left i children more e.0, e.1)
  stays_started more (in_nursery children ∷ fs) (p ∷ ps) (inr h) = inr h
  stays_started more (steps_left ss ∷ fs) ps h = stays_started more fs ps h
  stays_started more (in_scope fail ∷ fs) ps h = h
  stays_started more (in_event ∷ fs) ps h = h
  stays_started more (with_token limiter ∷ fs) ps h = h
  stays_started more (with_part received ∷ fs) ps h = h
  stays_started more (in_repeat pass left cuts again ∷ fs) ps h = stays_started more fs ps h
  stays_started more (in_try handler cleanup ∷ fs) ps h = h
  stays_started more (in_handler rest cleanup ∷ fs) ps h = h
  stays_started more (in_cleanup outcome ∷ fs) ps h = h

  stays_waits : (o : Option Label) (name : List ℕ) (t : ℕ) (fs : List Frame) (ps : List Place) → HasChild i home fs ps →
      Stays (waits_on o name t fs ps)
  stays_waits None name t fs ps h = inr h
  stays_waits (Some l) name t fs ps h = inr h

  stays_asks : (clock : Clock) (o : Option Label) (b : Bool) (name : List ℕ) (ask : Ask) (t : ℕ) (body : Steps) (fs : List Frame) (ps : List Place) →
      HasChild i home fs ps → Stays (asks_of clock o b name ask t body fs ps)
  stays_asks clock None b name ask t body fs ps h = inr h
  stays_asks by_ticks (Some l) true name ask t body fs ps h = inr h
  stays_asks by_ticks (Some l) false name ask t body fs ps h = inr h
  stays_asks by_rounds (Some l) true name ask t body fs ps h = inr h
  stays_asks by_rounds (Some l) false name ask t body fs ps h = inr h

  stays_passes : (m : ℕ) (over : Bool) (body : Steps) (fs : List Frame) (ps : List Place) → HasChild i home fs ps → Stays (begins_passes m over body fs ps)
  stays_passes zero over body fs ps h = inr h
  stays_passes (suc m) over body fs ps h = inr h

  stays_pass : (pass left : ℕ) (cuts : Option ℕ) (body : Steps) (fs : List Frame) (ps : List Place) (exc : Option Exc) → HasChild i home fs ps →
      Stays (step_pass pass left cuts body fs ps exc)
  stays_pass pass left cuts body fs ps (Some e) h = inr h
  stays_pass pass zero cuts body fs ps None h = inr h
  stays_pass pass (suc m) cuts body fs ps None h = inr h

  stays_step : (at : Here) (s : Step) (ss : Steps) (fs : List Frame) (ps : List Place) (n : ℕ) → HasChild i home fs ps →
      Stays (step_on cancelled_from now at s ss fs ps n)
  stays_step at (sleep m) ss fs ps n h = stays_sleeps at.clock false m now.at (steps_left ss ∷ fs) ps h
  stays_step at checkpoint ss fs ps n h = stays_sleeps at.clock false 0 now.at (steps_left ss ∷ fs) ps h
  stays_step at forever ss fs ps n h = stays_sleeps at.clock false (far - tick_of at.clock now.at) now.at (steps_left ss ∷ fs) ps h
  stays_step at (pace m) ss fs ps n h = inr h
  stays_step at (find text) ss fs ps n h = inr h
  stays_step at (head m) ss fs ps n h = inr h
  stays_step at longest ss fs ps n h = inr h
  stays_step at (need text name) ss fs ps n h = inr h
  stays_step at (raise name) ss fs ps n h = inr h
  stays_step at (cancel name) ss fs ps n h = inr h
  stays_step at (set_event name) ss fs ps n h = inr h
  stays_step at (wait_for name) ss fs ps n h = stays_waits (label_among true name ps) name now.at (steps_left ss ∷ fs) ps h
  stays_step at (ask_for name ask body) ss fs ps n h =
      stays_asks at.clock (label_among true name ps) (seen (stack_for now.own now.at (stack_at cancelled_from ps).scopes) now.at) name ask now.at body
      (steps_left ss ∷ fs) ps h
  stays_step at (close_channel name) ss fs ps n h = inr h
  stays_step at (scope name d shield fail body) ss fs ps n h = inr h
  stays_step at (nursery name d shield body) ss fs ps n h = inr (inr h)
  stays_step at (event name body) ss fs ps n h = inr h
  stays_step at (object name kind body) ss fs ps n h = inr h
  stays_step at (start name None body) ss fs ps n h = inr (stays_started (n ∷ []) fs ps h)
  stays_step at (start name (Some c) body) ss fs ps n h = inr (stays_started (consecutive n c) fs ps h)
  stays_step at (repeat m over body) ss fs ps n h = stays_passes m over body (steps_left ss ∷ fs) ps h
  stays_step at (attempt body handler cleanup) ss fs ps n h = inr h

  stays_steps : (ss : Steps) (fs : List Frame) (ps : List Place) (exc : Option Exc) (n : ℕ) → HasChild i home fs ps →
      Stays (step_steps cancelled_from now here ss fs ps exc n)
  stays_steps ss fs ps (Some e) n h = inr h
  stays_steps stop fs ps None n h = inr h
  stays_steps (step s ss) fs ps None n h = stays_step (inside fs here) s ss fs ps n h

  stays_try : (handler : Handled) (cleanup : Cleaned) (fs : List Frame) (ps : List Place) (exc : Option Exc) → HasChild i home fs ps →
      Stays (step_try handler cleanup fs ps exc)
  stays_try unhandled uncleaned fs ps exc h = inr h
  stays_try unhandled (finally body) fs ps exc h = inr h
  stays_try (except name body) cleanup fs ps None h = inr h
  stays_try (except name body) cleanup fs ps (Some e) h = by_match (keep (named name) e)
    where
      by_match : (o : Option Exc) → Stays (handler_if o (drop (named name) e) e body cleanup fs ps)
      by_match None = inr h
      by_match (Some x) = inr h

  stays_frames : (fs : List Frame) (ps : List Place) (exc : Option Exc) (n : ℕ) → Placed fs ps → HasChild i home fs ps →
      Stays (step_frames cancelled_from now here fs ps exc n)
  stays_frames [] ps exc n p h = inr h
  stays_frames (steps_left ss ∷ fs) ps exc n p h = stays_steps ss fs ps exc n h
  stays_frames (in_scope fail ∷ fs) [] exc n p h = absurd p
  stays_frames (in_scope fail ∷ fs) (q ∷ ps) exc n p h = inr h
  stays_frames (in_event ∷ fs) [] exc n p h = absurd p
  stays_frames (in_event ∷ fs) (q ∷ ps) exc n p h = inr h
  stays_frames (with_token limiter ∷ fs) ps exc n p h = inr h
  stays_frames (with_part received ∷ fs) ps exc n p h = inr h
  stays_frames (in_nursery children ∷ fs) [] exc n p h = absurd p
  stays_frames (in_nursery children ∷ fs) (q ∷ ps) exc n p (inl e) = inl e
  stays_frames (in_nursery children ∷ fs) (q ∷ ps) exc n p (inr h) = inr h
  stays_frames (in_repeat pass left cuts body ∷ fs) ps exc n p h = stays_pass pass left cuts body fs ps exc h
  stays_frames (in_try handler cleanup ∷ fs) ps exc n p h = stays_try handler cleanup fs ps exc h
  stays_frames (in_handler rest cleanup ∷ fs) ps exc n p h = inr h
  stays_frames (in_cleanup outcome ∷ fs) ps exc n p h = inr h

  -- one step
  pub step_stays : (m : Midway) → Placed m.frames m.places → HasChild i home m.frames m.places → Stays (step_of cancelled_from now here m)
  unfolding step_of
  step_stays m p h = stays_frames m.frames m.places m.exc m.count p h

  stays_answered : (a : Answer) (purpose : Purpose) (fs : List Frame) (ps : List Place) → HasChild i home fs ps →
      Stays (goes_on_with cancelled_from now.at here a purpose fs ps)
  stays_answered (lines ls) purpose fs ps h = inr h
  stays_answered missing (needs name) fs ps h = inr h
  stays_answered missing shows fs ps h = inr h
  stays_answered missing (paces c) fs ps h = inr h
  stays_answered (counted m) (paces c) fs ps h = stays_sleeps here.clock true (pace_ticks m c) now.at fs ps h
  stays_answered (counted m) shows fs ps h = inr h
  stays_answered (counted m) (needs name) fs ps h = inr h

  stays_giving : (b : Bool) (t : ℕ) (fs : List Frame) (ps : List Place) → HasChild i home fs ps → Stays (gives_up_if b t fs ps)
  stays_giving true t fs ps h = inr h
  stays_giving false t fs ps h = inr h

  stays_noted : (o : Option (Level Label)) (t : ℕ) (fs : List Frame) (ps : List Place) → HasChild i home fs ps → Stays (notes_wait o t fs ps)
  stays_noted None t fs ps h = inr h
  stays_noted (Some l) t fs ps h = inr h

  stays_leaving : (o : Option Label) (at : Here) (ask : Ask) (since t : ℕ) (e : Exc) (fs : List Frame) (ps : List Place) → HasChild i home fs ps →
      Stays (leaves_the_queue o at ask since t e fs ps)
  stays_leaving None at ask since t e fs ps h = inr h
  stays_leaving (Some l) at ask since t e fs ps h = inr h

  stays_granted : (what : What) (o : Option Label) (at : Here) (ask : Ask) (since t : ℕ) (body : Steps) (fs : List Frame) (ps : List Place) →
      HasChild i home fs ps → Stays (granted_on o at ask since t body what fs ps)
  stays_granted what None at ask since t body fs ps h = inr h
  stays_granted a_token (Some l) at ask since t body fs ps h = inr h
  stays_granted was_sent (Some l) at ask since t body fs ps h = inr h
  stays_granted (a_part received) (Some l) at ask since t body fs ps h = inr h
  stays_granted closed_resource (Some l) at ask since t body fs ps h = inr h
  stays_granted end_of_channel (Some l) at ask since t body fs ps h = inr h

  -- a wake
  pub wake_stays : {w : Wake} {s : Stopped} → CanWake w s → (fs : List Frame) (ps : List Place) →
      HasChild i home fs (outer_places (Some s) ps) →
      Stays (wake_of cancelled_from now here w s fs ps)
  wake_stays from_start fs ps h = inr h
  wake_stays (from_asking {a} {kernel} {purpose}) fs ps h = stays_answered a purpose fs ps h
  wake_stays (from_sleep {paced = false} {n = zero} {since}) fs ps h = inr h
  wake_stays (from_sleep {paced = false} {n = suc n} {since}) fs ps h = inr h
  wake_stays (from_sleep {paced = true} {n} {since}) fs ps h = inr h
  wake_stays (from_seen_waiting {event = name} {since}) fs ps h =
      stays_giving (is_checkpoint here.clock (ends_at here.clock cancelled_from name since ps) since) now.at fs ps h
  wake_stays (from_set {event = name} {since}) fs ps h = stays_noted (event_on name (stack_at cancelled_from ps).events) now.at fs ps h
  wake_stays (from_granted {what} {object = name} {ask} {since} {body}) fs ps h =
      stays_granted what (label_among true name ps) (inside fs here) ask since now.at body fs ps h
  wake_stays (from_seen_queued {object = name} {ask} {since} {body}) fs ps h =
      stays_leaving (label_among true name ps) (inside fs here) ask since now.at cancelled fs ps h
  wake_stays (from_deadlock {object = name} {ask} {since} {body}) fs ps h =
      stays_leaving (label_among true name ps) (inside fs here) ask since now.at (raised (codes "Deadlock") here.task (tick_of here.clock now.at)) fs ps h
  wake_stays from_giving_up fs ps h = inr h
  wake_stays from_due fs ps h = inr h
  wake_stays from_wait fs [] h = inr h
  wake_stays from_wait fs (p ∷ ps) h = inr h

-- ---- children begun

over_housed : (name : List ℕ) (here : Here) (of : ℕ) (body : Steps) (ps : List Place) (first : ℕ) (fs : List Frame) (k : ℕ) →
    ((i : ℕ) → i < k → HasChild (first + i) ps fs ps) → AllHoused (begun_over name here of body ps first k) None fs ps
over_housed name here of body ps first fs zero h = tt
over_housed name here of body ps first fs (suc k) h =
    housed_append (begun_over name here of body ps first k) _ None fs ps
    (over_housed name here of body ps first fs k (λ i lt. h i (below i lt))) (inr (h k (omega arith)), tt)
  where
    below : (i : ℕ) → i < k → i < suc k
    below i lt = omega arith

-- a child that is started in a nursery's body, perhaps in passes there, is one of that nursery
started_housed : (i : ℕ) (more : List ℕ) (fs : List Frame) (ps : List Place) → IsTrue (in_body fs) → Placed fs ps → IsAmong i more →
    HasChild i ps (with_started more fs) ps
started_housed i more (in_nursery children ∷ fs) (p ∷ ps) b w a = inl (among_right i children more a, refl)
started_housed i more (in_nursery children ∷ fs) [] b w a = absurd w
started_housed i more (steps_left ss ∷ fs) ps b w a = started_housed i more fs ps b w.1 a
started_housed i more (in_repeat pass left cuts again ∷ fs) ps b w a =
    started_housed i more fs ps (loop_body cuts (in_body fs) b) w.1 a
started_housed i more [] ps b w a = absurd (cc)
started_housed i more (in_scope fail ∷ fs) ps b w a = absurd (cc)
started_housed i more (in_event ∷ fs) ps b w a = absurd (cc)
started_housed i more (with_token limiter ∷ fs) ps b w a = absurd (cc)
started_housed i more (with_part received ∷ fs) ps b w a = absurd (cc)
started_housed i more (in_try handler cleanup ∷ fs) ps b w a = absurd (cc)
started_housed i more (in_handler rest cleanup ∷ fs) ps b w a = absurd (cc)
started_housed i more (in_cleanup outcome ∷ fs) ps b w a = absurd (cc)

module _ (now : Now) (cancelled_from : Table) (here : Here) where
  -- each child that a move begins is housed after it
  abbrev pub Housed : Move → Type 0
  Housed o = AllHoused o.begun o.stopped o.frames o.places

  housed_sleeps : (clock : Clock) (paced : Bool) (n t : ℕ) (fs : List Frame) (ps : List Place) → Housed (sleeps clock cancelled_from paced n t fs ps)
  housed_sleeps clock paced n t fs ps = by_clock clock (seen (stack_at cancelled_from ps).scopes t) n
    where
      by_clock : (clock : Clock) (b : Bool) (n : ℕ) → Housed (falls_asleep clock b paced n t fs ps)
      by_clock by_ticks true n = tt
      by_clock by_ticks false zero = tt
      by_clock by_ticks false (suc n) = tt
      by_clock by_rounds b n = tt

  housed_start : (at : Here) (name : List ℕ) (over : Option ℕ) (body ss : Steps) (fs : List Frame) (ps : List Place) (n : ℕ) →
      IsTrue (in_body fs) → Placed fs ps →
      Housed (step_on cancelled_from now at (start name over body) ss fs ps n)
  housed_start at name None body ss fs ps n b w = (inr (started_housed n (n ∷ []) fs ps b w (inl refl)), tt)
  housed_start at name (Some k) body ss fs ps n b w =
      over_housed name at k body ps n (steps_left ss ∷ with_started (consecutive n k) fs) k
      (λ i lt. started_housed (n + i) (consecutive n k) fs ps b w (numbered_has n i k lt))

  housed_waits : (o : Option Label) (name : List ℕ) (t : ℕ) (fs : List Frame) (ps : List Place) → Housed (waits_on o name t fs ps)
  housed_waits None name t fs ps = tt
  housed_waits (Some l) name t fs ps = tt

  housed_asks : (clock : Clock) (o : Option Label) (b : Bool) (name : List ℕ) (ask : Ask) (t : ℕ) (body : Steps) (fs : List Frame) (ps : List Place) →
      Housed (asks_of clock o b name ask t body fs ps)
  housed_asks clock None b name ask t body fs ps = tt
  housed_asks by_ticks (Some l) true name ask t body fs ps = tt
  housed_asks by_ticks (Some l) false name ask t body fs ps = tt
  housed_asks by_rounds (Some l) true name ask t body fs ps = tt
  housed_asks by_rounds (Some l) false name ask t body fs ps = tt

  housed_passes : (m : ℕ) (over : Bool) (body : Steps) (fs : List Frame) (ps : List Place) → Housed (begins_passes m over body fs ps)
  housed_passes zero over body fs ps = tt
  housed_passes (suc m) over body fs ps = tt

  housed_pass : (pass left : ℕ) (cuts : Option ℕ) (body : Steps) (fs : List Frame) (ps : List Place) (exc : Option Exc) →
      Housed (step_pass pass left cuts body fs ps exc)
  housed_pass pass left cuts body fs ps (Some e) = tt
  housed_pass pass zero cuts body fs ps None = tt
  housed_pass pass (suc m) cuts body fs ps None = tt

  housed_step : (at : Here) (s : Step) (ss : Steps) (fs : List Frame) (ps : List Place) (n : ℕ) → StartsAt (in_body fs) s → Placed fs ps →
      Housed (step_on cancelled_from now at s ss fs ps n)
  housed_step at (sleep m) ss fs ps n b p = housed_sleeps at.clock false m now.at (steps_left ss ∷ fs) ps
  housed_step at checkpoint ss fs ps n b p = housed_sleeps at.clock false 0 now.at (steps_left ss ∷ fs) ps
  housed_step at forever ss fs ps n b p = housed_sleeps at.clock false (far - tick_of at.clock now.at) now.at (steps_left ss ∷ fs) ps
  housed_step at (pace m) ss fs ps n b p = tt
  housed_step at (find text) ss fs ps n b p = tt
  housed_step at (head m) ss fs ps n b p = tt
  housed_step at longest ss fs ps n b p = tt
  housed_step at (need text name) ss fs ps n b p = tt
  housed_step at (raise name) ss fs ps n b p = tt
  housed_step at (cancel name) ss fs ps n b p = tt
  housed_step at (set_event name) ss fs ps n b p = tt
  housed_step at (wait_for name) ss fs ps n b p = housed_waits (label_among true name ps) name now.at (steps_left ss ∷ fs) ps
  housed_step at (ask_for name ask body) ss fs ps n b p =
      housed_asks at.clock (label_among true name ps) (seen (stack_for now.own now.at (stack_at cancelled_from ps).scopes) now.at) name ask now.at body
      (steps_left ss ∷ fs) ps
  housed_step at (close_channel name) ss fs ps n b p = tt
  housed_step at (scope name d shield fail body) ss fs ps n b p = tt
  housed_step at (nursery name d shield body) ss fs ps n b p = tt
  housed_step at (event name body) ss fs ps n b p = tt
  housed_step at (object name kind body) ss fs ps n b p = tt
  housed_step at (start name over body) ss fs ps n b p = housed_start at name over body ss fs ps n b.0 p
  housed_step at (repeat m over body) ss fs ps n b p = housed_passes m over body (steps_left ss ∷ fs) ps
  housed_step at (attempt body handler cleanup) ss fs ps n b p = tt

  housed_steps : (ss : Steps) (fs : List Frame) (ps : List Place) (exc : Option Exc) (n : ℕ) → StartsIn (in_body fs) ss → Placed fs ps →
      Housed (step_steps cancelled_from now here ss fs ps exc n)
  housed_steps ss fs ps (Some e) n b p = tt
  housed_steps stop fs ps None n b p = tt
  housed_steps (step s ss) fs ps None n b p = housed_step (inside fs here) s ss fs ps n b.0 p

  housed_try : (handler : Handled) (cleanup : Cleaned) (fs : List Frame) (ps : List Place) (exc : Option Exc) →
      Housed (step_try handler cleanup fs ps exc)
  housed_try unhandled uncleaned fs ps exc = tt
  housed_try unhandled (finally body) fs ps exc = tt
  housed_try (except name body) cleanup fs ps None = tt
  housed_try (except name body) cleanup fs ps (Some e) = by_match (keep (named name) e)
    where
      by_match : (o : Option Exc) → Housed (handler_if o (drop (named name) e) e body cleanup fs ps)
      by_match None = tt
      by_match (Some x) = tt

  housed_frames : (fs : List Frame) (ps : List Place) (exc : Option Exc) (n : ℕ) → Placed fs ps →
      Housed (step_frames cancelled_from now here fs ps exc n)
  housed_frames [] ps exc n p = tt
  housed_frames (steps_left ss ∷ fs) ps exc n p = housed_steps ss fs ps exc n p.0 p.1
  housed_frames (in_scope fail ∷ fs) [] exc n p = tt
  housed_frames (in_scope fail ∷ fs) (q ∷ ps) exc n p = tt
  housed_frames (in_event ∷ fs) [] exc n p = tt
  housed_frames (in_event ∷ fs) (q ∷ ps) exc n p = tt
  housed_frames (with_token limiter ∷ fs) ps exc n p = tt
  housed_frames (with_part received ∷ fs) ps exc n p = tt
  housed_frames (in_nursery children ∷ fs) [] exc n p = tt
  housed_frames (in_nursery children ∷ fs) (q ∷ ps) exc n p = tt
  housed_frames (in_repeat pass left cuts body ∷ fs) ps exc n p = housed_pass pass left cuts body fs ps exc
  housed_frames (in_try handler cleanup ∷ fs) ps exc n p = housed_try handler cleanup fs ps exc
  housed_frames (in_handler rest cleanup ∷ fs) ps exc n p = tt
  housed_frames (in_cleanup outcome ∷ fs) ps exc n p = tt

  -- one step
  pub step_housed : (m : Midway) → Placed m.frames m.places → Housed (step_of cancelled_from now here m)
  unfolding step_of
  step_housed m p = housed_frames m.frames m.places m.exc m.count p

  housed_answered : (a : Answer) (purpose : Purpose) (fs : List Frame) (ps : List Place) →
      Housed (goes_on_with cancelled_from now.at here a purpose fs ps)
  housed_answered (lines ls) purpose fs ps = tt
  housed_answered missing (needs name) fs ps = tt
  housed_answered missing shows fs ps = tt
  housed_answered missing (paces c) fs ps = tt
  housed_answered (counted m) (paces c) fs ps = housed_sleeps here.clock true (pace_ticks m c) now.at fs ps
  housed_answered (counted m) shows fs ps = tt
  housed_answered (counted m) (needs name) fs ps = tt

  housed_with : (a : Answer) (s : Stopped) (fs : List Frame) (ps : List Place) → Housed (with_answer cancelled_from now.at here a s fs ps)
  housed_with a (asking kernel purpose) fs ps = housed_answered a purpose fs ps
  housed_with a to_begin fs ps = tt
  housed_with a (asleep paced m since) fs ps = tt
  housed_with a (waiting_for name since) fs ps = tt
  housed_with a (queued name ask since body) fs ps = tt
  housed_with a (giving_up since) fs ps = tt
  housed_with a (awaiting children ended exc) fs ps = tt
  housed_with a (at_end u e) fs ps = tt

  housed_settled : (exc : Option Exc) (fs : List Frame) (ps : List Place) → Housed (leaves_settled here.clock cancelled_from now exc fs ps)
  housed_settled exc fs [] = tt
  housed_settled exc fs (p ∷ ps) = tt

  housed_giving : (b : Bool) (t : ℕ) (fs : List Frame) (ps : List Place) → Housed (gives_up_if b t fs ps)
  housed_giving true t fs ps = tt
  housed_giving false t fs ps = tt

  housed_noted : (o : Option (Level Label)) (t : ℕ) (fs : List Frame) (ps : List Place) → Housed (notes_wait o t fs ps)
  housed_noted None t fs ps = tt
  housed_noted (Some l) t fs ps = tt

  housed_leaving : (o : Option Label) (at : Here) (ask : Ask) (since t : ℕ) (e : Exc) (fs : List Frame) (ps : List Place) →
      Housed (leaves_the_queue o at ask since t e fs ps)
  housed_leaving None at ask since t e fs ps = tt
  housed_leaving (Some l) at ask since t e fs ps = tt

  housed_granted : (what : What) (o : Option Label) (at : Here) (ask : Ask) (since t : ℕ) (body : Steps) (fs : List Frame) (ps : List Place) →
      Housed (granted_on o at ask since t body what fs ps)
  housed_granted what None at ask since t body fs ps = tt
  housed_granted a_token (Some l) at ask since t body fs ps = tt
  housed_granted was_sent (Some l) at ask since t body fs ps = tt
  housed_granted (a_part received) (Some l) at ask since t body fs ps = tt
  housed_granted closed_resource (Some l) at ask since t body fs ps = tt
  housed_granted end_of_channel (Some l) at ask since t body fs ps = tt

  housed_grant : (what : What) (s : Stopped) (fs : List Frame) (ps : List Place) → Housed (with_grant now.at here what s fs ps)
  housed_grant what (queued name ask since body) fs ps = housed_granted what (label_among true name ps) (inside fs here) ask since now.at body fs ps
  housed_grant what to_begin fs ps = tt
  housed_grant what (asking kernel purpose) fs ps = tt
  housed_grant what (asleep paced n since) fs ps = tt
  housed_grant what (waiting_for name since) fs ps = tt
  housed_grant what (giving_up since) fs ps = tt
  housed_grant what (awaiting children ended exc) fs ps = tt
  housed_grant what (at_end u e) fs ps = tt

  housed_seen : (t : ℕ) (s : Stopped) (fs : List Frame) (ps : List Place) → Housed (sees_from here cancelled_from t s fs ps)
  housed_seen t (asleep false zero since) fs ps = tt
  housed_seen t (asleep false (suc n) since) fs ps = tt
  housed_seen t (asleep true n since) fs ps = tt
  housed_seen t to_begin fs ps = tt
  housed_seen t (asking kernel purpose) fs ps = tt
  housed_seen t (waiting_for name since) fs ps =
      housed_giving (is_checkpoint here.clock (ends_at here.clock cancelled_from name since ps) since) t fs ps
  housed_seen t (queued name ask since body) fs ps = housed_leaving (label_among true name ps) (inside fs here) ask since t cancelled fs ps
  housed_seen t (giving_up since) fs ps = tt
  housed_seen t (awaiting children ended exc) fs ps = tt
  housed_seen t (at_end u e) fs ps = tt

  housed_due : (t : ℕ) (s : Stopped) (fs : List Frame) (ps : List Place) → Housed (is_due_from here cancelled_from t s fs ps)
  housed_due t (waiting_for name since) fs ps = housed_noted (event_on name (stack_at cancelled_from ps).events) t fs ps
  housed_due t to_begin fs ps = tt
  housed_due t (asking kernel purpose) fs ps = tt
  housed_due t (asleep paced n since) fs ps = tt
  housed_due t (queued name ask since body) fs ps =
      housed_leaving (label_among true name ps) (inside fs here) ask since t (raised (codes "Deadlock") here.task (tick_of here.clock t)) fs ps
  housed_due t (giving_up since) fs ps = tt
  housed_due t (awaiting children ended exc) fs ps = tt
  housed_due t (at_end u e) fs ps = tt

  -- a wake begins none
  pub wake_housed : (w : Wake) (s : Stopped) (fs : List Frame) (ps : List Place) → Housed (wake_of cancelled_from now here w s fs ps)
  wake_housed begins s fs ps = tt
  wake_housed sees s fs ps = housed_seen now.at s fs ps
  wake_housed gives_up s fs ps = tt
  wake_housed is_due s fs ps = housed_due now.at s fs ps
  wake_housed (has_answer a) s fs ps = housed_with a s fs ps
  wake_housed (is_granted what) s fs ps = housed_grant what s fs ps
  wake_housed (settles exc) s fs ps = housed_settled exc fs ps
