-- The children of a task's nurseries are numbered below its count.
use Rattle.std.proofs.Common.{ℕ, zero, suc, ◌+◌, ◌-◌, ◌≤◌, Bool, true, false, Option, Some, None, List, [], ◌∷◌, ◌++◌, length, sym, subst, arith}
use Rattle.job_tree.specs.Tree.{Step, sleep, checkpoint, forever, pace, find, head, longest, need, raise, cancel, set_event, wait_for, ask_for, close_channel, scope, nursery, event, object, start, repeat, attempt, Steps, stop, step, Handled, unhandled, except, Cleaned, uncleaned, finally}
use Rattle.std.specs.Prelude.{codes}
use Rattle.job_tree.specs.declared.object.Ask.{Ask}
use Rattle.exceptions.specs.Exceptions.{Label, Exc, cancelled, raised}
use Rattle.exceptions.specs.Split.{named, keep, drop}
use Rattle.cancel_scopes.specs.Sight.{Level, seen}
use Rattle.job_meaning.specs.Log.{Table}
use Rattle.job_meaning.specs.Sharing.{What, a_token, was_sent, a_part, closed_resource, end_of_channel}
use Rattle.job_meaning.specs.Moments.{tick_of, Now, far}
use Rattle.job_meaning.specs.declared.clock.Clock.{Clock}
use Rattle.job_meaning.specs.declared.clock.Clock.TheVariants.{ByTicks as by_ticks, ByRounds as by_rounds}
use Rattle.job_meaning.specs.Walk.{Here, stack_for, event_on, pace_ticks}
use Rattle.job_meaning.specs.Rest.{consecutive, Frame, steps_left, in_scope, in_event, with_token, with_part, in_nursery, in_repeat, in_try, in_handler, in_cleanup, inside, Stopped, to_begin, asking, asleep, waiting_for, queued, giving_up, awaiting, at_end}
use Rattle.job_meaning.specs.Asking.{Answer, lines, missing, counted, Purpose, shows, needs, paces}
use Rattle.turn_semantics.specs.Midway.{Place, label_among, stack_at, Midway, Move}
use Rattle.turn_semantics.specs.Steps.{sleeps, falls_asleep, waits_on, asks_of, with_started, handler_if, step_try, step_on, step_steps, step_frames, step_of, begins_passes, step_pass}
use Rattle.turn_semantics.specs.Wakes.{Wake, begins, sees, gives_up, is_due, has_answer, is_granted, settles, goes_on_with, with_answer, leaves_settled, ends_at, is_checkpoint, gives_up_if, notes_wait, leaves_the_queue, granted_on, with_grant, sees_from, is_due_from, wake_of}
use Rattle.turn_semantics.specs.Placed.{AllBelow, KidsBelow, KidsAfter}
use Rattle.turn_semantics.proofs.Cases.{over_length}

all_grow : (n m : ℕ) → n ≤ m → (is : List ℕ) → AllBelow n is → AllBelow m is
all_grow n m le [] a = tt
all_grow n m le (i ∷ is) a = (let h = a.0 in omega arith, all_grow n m le is a.1)

-- and below a greater count
pub kids_grow : (n m : ℕ) → n ≤ m → (fs : List Frame) → KidsBelow n fs → KidsBelow m fs
kids_grow n m le [] k = tt
kids_grow n m le (steps_left ss ∷ fs) k = kids_grow n m le fs k
kids_grow n m le (in_scope fail ∷ fs) k = kids_grow n m le fs k
kids_grow n m le (in_event ∷ fs) k = kids_grow n m le fs k
kids_grow n m le (with_token limiter ∷ fs) k = kids_grow n m le fs k
kids_grow n m le (with_part received ∷ fs) k = kids_grow n m le fs k
kids_grow n m le (in_nursery children ∷ fs) k = (all_grow n m le children k.0, kids_grow n m le fs k.1)
kids_grow n m le (in_repeat pass left cuts again ∷ fs) k = kids_grow n m le fs k
kids_grow n m le (in_try handler cleanup ∷ fs) k = kids_grow n m le fs k
kids_grow n m le (in_handler rest cleanup ∷ fs) k = kids_grow n m le fs k
kids_grow n m le (in_cleanup outcome ∷ fs) k = kids_grow n m le fs k

-- a step that begins no child
same_kids : (n : ℕ) (fs : List Frame) → KidsBelow n fs → KidsBelow (n + 0) fs
same_kids n fs k = kids_grow n (n + 0) (omega arith) fs k

all_append : (n : ℕ) (is js : List ℕ) → AllBelow n is → AllBelow n js → AllBelow n (is ++ js)
all_append n [] js a b = b
all_append n (i ∷ is) js a b = (a.0, all_append n is js a.1 b)

numbered_below : (first k : ℕ) → AllBelow (first + k) (consecutive first k)
numbered_below first zero = tt
numbered_below first (suc k) =
    all_append (first + suc k) (consecutive first k) ((first + k) ∷ [])
    (all_grow (first + k) (first + suc k) (omega arith) (consecutive first k) (numbered_below first k)) (omega arith, tt)

-- children that are started now are below the new count
kids_started : (n m : ℕ) → n ≤ m → (more : List ℕ) → AllBelow m more → (fs : List Frame) → KidsBelow n fs →
    KidsBelow m (with_started more fs)
kids_started n m le more a [] k = tt
kids_started n m le more a (in_nursery children ∷ fs) k =
    (all_append m children more (all_grow n m le children k.0) a, kids_grow n m le fs k.1)
kids_started n m le more a (steps_left ss ∷ fs) k = kids_started n m le more a fs k
kids_started n m le more a (in_scope fail ∷ fs) k = kids_grow n m le fs k
kids_started n m le more a (in_event ∷ fs) k = kids_grow n m le fs k
kids_started n m le more a (with_token limiter ∷ fs) k = kids_grow n m le fs k
kids_started n m le more a (with_part received ∷ fs) k = kids_grow n m le fs k
kids_started n m le more a (in_repeat pass left cuts again ∷ fs) k = kids_started n m le more a fs k
kids_started n m le more a (in_try handler cleanup ∷ fs) k = kids_grow n m le fs k
kids_started n m le more a (in_handler rest cleanup ∷ fs) k = kids_grow n m le fs k
kids_started n m le more a (in_cleanup outcome ∷ fs) k = kids_grow n m le fs k

-- the children of the frames of a task that stopped
pub kids_left : (n : ℕ) (s : Option Stopped) (fs : List Frame) → KidsAfter n s fs → KidsBelow n fs
kids_left n None fs k = k
kids_left n (Some to_begin) fs k = k
kids_left n (Some (asking kernel purpose)) fs k = k
kids_left n (Some (asleep paced m since)) fs k = k
kids_left n (Some (waiting_for name since)) fs k = k
kids_left n (Some (queued name ask since body)) fs k = k
kids_left n (Some (giving_up since)) fs k = k
kids_left n (Some (awaiting children ended exc)) fs k = k.1
kids_left n (Some (at_end u e)) fs k = k

module _ (now : Now) (cancelled_from : Table) (here : Here) (n : ℕ) where
  -- the children of the task after a move are below the count then
  abbrev pub Kept : Move → Type 0
  Kept o = KidsAfter (n + length o.begun) o.stopped o.frames

  kids_sleeps : (clock : Clock) (paced : Bool) (ticks t : ℕ) (fs : List Frame) (ps : List Place) → KidsBelow n fs →
      Kept (sleeps clock cancelled_from paced ticks t fs ps)
  kids_sleeps clock paced ticks t fs ps k = by_clock clock (seen (stack_at cancelled_from ps).scopes t) ticks
    where
      by_clock : (clock : Clock) (b : Bool) (ticks : ℕ) → Kept (falls_asleep clock b paced ticks t fs ps)
      by_clock by_ticks true ticks = same_kids n fs k
      by_clock by_ticks false zero = same_kids n fs k
      by_clock by_ticks false (suc ticks) = same_kids n fs k
      by_clock by_rounds b ticks = same_kids n fs k

  kids_waits : (o : Option Label) (name : List ℕ) (t : ℕ) (fs : List Frame) (ps : List Place) → KidsBelow n fs → Kept (waits_on o name t fs ps)
  kids_waits None name t fs ps k = same_kids n fs k
  kids_waits (Some l) name t fs ps k = same_kids n fs k

  kids_asks : (clock : Clock) (o : Option Label) (b : Bool) (name : List ℕ) (ask : Ask) (t : ℕ) (body : Steps) (fs : List Frame) (ps : List Place) →
      KidsBelow n fs → Kept (asks_of clock o b name ask t body fs ps)
  kids_asks clock None b name ask t body fs ps k = same_kids n fs k
  kids_asks by_ticks (Some l) true name ask t body fs ps k = same_kids n fs k
  kids_asks by_ticks (Some l) false name ask t body fs ps k = same_kids n fs k
  kids_asks by_rounds (Some l) true name ask t body fs ps k = same_kids n fs k
  kids_asks by_rounds (Some l) false name ask t body fs ps k = same_kids n fs k

  kids_passes : (m : ℕ) (over : Bool) (body : Steps) (fs : List Frame) (ps : List Place) → KidsBelow n fs → Kept (begins_passes m over body fs ps)
  kids_passes zero over body fs ps k = same_kids n fs k
  kids_passes (suc m) over body fs ps k = same_kids n fs k

  kids_pass : (pass left : ℕ) (cuts : Option ℕ) (body : Steps) (fs : List Frame) (ps : List Place) (exc : Option Exc) → KidsBelow n fs →
      Kept (step_pass pass left cuts body fs ps exc)
  kids_pass pass left cuts body fs ps (Some e) k = same_kids n fs k
  kids_pass pass zero cuts body fs ps None k = same_kids n fs k
  kids_pass pass (suc m) cuts body fs ps None k = same_kids n fs k

  kids_step : (at : Here) (s : Step) (ss : Steps) (fs : List Frame) (ps : List Place) → KidsBelow n fs →
      Kept (step_on cancelled_from now at s ss fs ps n)
  kids_step at (sleep m) ss fs ps k = kids_sleeps at.clock false m now.at (steps_left ss ∷ fs) ps k
  kids_step at checkpoint ss fs ps k = kids_sleeps at.clock false 0 now.at (steps_left ss ∷ fs) ps k
  kids_step at forever ss fs ps k = kids_sleeps at.clock false (far - tick_of at.clock now.at) now.at (steps_left ss ∷ fs) ps k
  kids_step at (pace m) ss fs ps k = same_kids n fs k
  kids_step at (find text) ss fs ps k = same_kids n fs k
  kids_step at (head m) ss fs ps k = same_kids n fs k
  kids_step at longest ss fs ps k = same_kids n fs k
  kids_step at (need text name) ss fs ps k = same_kids n fs k
  kids_step at (raise name) ss fs ps k = same_kids n fs k
  kids_step at (cancel name) ss fs ps k = same_kids n fs k
  kids_step at (set_event name) ss fs ps k = same_kids n fs k
  kids_step at (wait_for name) ss fs ps k = kids_waits (label_among true name ps) name now.at (steps_left ss ∷ fs) ps k
  kids_step at (ask_for name ask body) ss fs ps k =
      kids_asks at.clock (label_among true name ps) (seen (stack_for now.own now.at (stack_at cancelled_from ps).scopes) now.at) name ask now.at body
      (steps_left ss ∷ fs) ps k
  kids_step at (close_channel name) ss fs ps k = same_kids n fs k
  kids_step at (scope name d shield fail body) ss fs ps k = same_kids n fs k
  kids_step at (nursery name d shield body) ss fs ps k = (tt, same_kids n fs k)
  kids_step at (event name body) ss fs ps k = same_kids n fs k
  kids_step at (object name kind body) ss fs ps k = same_kids n fs k
  kids_step at (start name None body) ss fs ps k = kids_started n (n + 1) (omega arith) (n ∷ []) (omega arith, tt) fs k
  kids_step at (start name (Some c) body) ss fs ps k =
      let e = over_length name at c body ps n c in
      kids_started n (n + length (step_on cancelled_from now at (start name (Some c) body) ss fs ps n).begun) (omega arith) (consecutive n c)
      (subst (λ (z : ℕ). AllBelow (n + z) (consecutive n c)) (sym e) (numbered_below n c)) fs k
  kids_step at (repeat m over body) ss fs ps k = kids_passes m over body (steps_left ss ∷ fs) ps k
  kids_step at (attempt body handler cleanup) ss fs ps k = same_kids n fs k

  kids_steps : (ss : Steps) (fs : List Frame) (ps : List Place) (exc : Option Exc) → KidsBelow n fs →
      Kept (step_steps cancelled_from now here ss fs ps exc n)
  kids_steps ss fs ps (Some e) k = same_kids n fs k
  kids_steps stop fs ps None k = same_kids n fs k
  kids_steps (step s ss) fs ps None k = kids_step (inside fs here) s ss fs ps k

  kids_try : (handler : Handled) (cleanup : Cleaned) (fs : List Frame) (ps : List Place) (exc : Option Exc) → KidsBelow n fs →
      Kept (step_try handler cleanup fs ps exc)
  kids_try unhandled uncleaned fs ps exc k = same_kids n fs k
  kids_try unhandled (finally body) fs ps exc k = same_kids n fs k
  kids_try (except name body) cleanup fs ps None k = same_kids n fs k
  kids_try (except name body) cleanup fs ps (Some e) k = by_match (keep (named name) e)
    where
      by_match : (o : Option Exc) → Kept (handler_if o (drop (named name) e) e body cleanup fs ps)
      by_match None = same_kids n fs k
      by_match (Some x) = same_kids n fs k

  kids_frames : (fs : List Frame) (ps : List Place) (exc : Option Exc) → KidsBelow n fs → Kept (step_frames cancelled_from now here fs ps exc n)
  kids_frames [] ps exc k = tt
  kids_frames (steps_left ss ∷ fs) ps exc k = kids_steps ss fs ps exc k
  kids_frames (in_scope fail ∷ fs) [] exc k = same_kids n fs k
  kids_frames (in_scope fail ∷ fs) (p ∷ ps) exc k = same_kids n fs k
  kids_frames (in_event ∷ fs) [] exc k = same_kids n fs k
  kids_frames (in_event ∷ fs) (p ∷ ps) exc k = same_kids n fs k
  kids_frames (with_token limiter ∷ fs) ps exc k = same_kids n fs k
  kids_frames (with_part received ∷ fs) ps exc k = same_kids n fs k
  kids_frames (in_nursery children ∷ fs) [] exc k = same_kids n fs k.1
  kids_frames (in_nursery children ∷ fs) (p ∷ ps) exc k = same_kids n (in_nursery children ∷ fs) k
  kids_frames (in_repeat pass left cuts body ∷ fs) ps exc k = kids_pass pass left cuts body fs ps exc k
  kids_frames (in_try handler cleanup ∷ fs) ps exc k = kids_try handler cleanup fs ps exc k
  kids_frames (in_handler rest cleanup ∷ fs) ps exc k = same_kids n fs k
  kids_frames (in_cleanup outcome ∷ fs) ps exc k = same_kids n fs k

  kids_answered : (a : Answer) (purpose : Purpose) (fs : List Frame) (ps : List Place) → KidsBelow n fs →
      Kept (goes_on_with cancelled_from now.at here a purpose fs ps)
  kids_answered (lines ls) purpose fs ps k = same_kids n fs k
  kids_answered missing (needs name) fs ps k = same_kids n fs k
  kids_answered missing shows fs ps k = same_kids n fs k
  kids_answered missing (paces c) fs ps k = same_kids n fs k
  kids_answered (counted m) (paces c) fs ps k = kids_sleeps here.clock true (pace_ticks m c) now.at fs ps k
  kids_answered (counted m) shows fs ps k = same_kids n fs k
  kids_answered (counted m) (needs name) fs ps k = same_kids n fs k

  kids_with : (a : Answer) (s : Stopped) (fs : List Frame) (ps : List Place) → KidsBelow n fs → Kept (with_answer cancelled_from now.at here a s fs ps)
  kids_with a (asking kernel purpose) fs ps k = kids_answered a purpose fs ps k
  kids_with a to_begin fs ps k = same_kids n fs k
  kids_with a (asleep paced m since) fs ps k = same_kids n fs k
  kids_with a (waiting_for name since) fs ps k = same_kids n fs k
  kids_with a (queued name ask since body) fs ps k = same_kids n fs k
  kids_with a (giving_up since) fs ps k = same_kids n fs k
  kids_with a (awaiting children ended exc) fs ps k = same_kids n fs k
  kids_with a (at_end u e) fs ps k = same_kids n fs k

  kids_settled : (exc : Option Exc) (fs : List Frame) (ps : List Place) → KidsBelow n fs → Kept (leaves_settled here.clock cancelled_from now exc fs ps)
  kids_settled exc fs [] k = same_kids n fs k
  kids_settled exc fs (p ∷ ps) k = same_kids n fs k

  kids_giving : (b : Bool) (t : ℕ) (fs : List Frame) (ps : List Place) → KidsBelow n fs → Kept (gives_up_if b t fs ps)
  kids_giving true t fs ps k = same_kids n fs k
  kids_giving false t fs ps k = same_kids n fs k

  kids_noted : (o : Option (Level Label)) (t : ℕ) (fs : List Frame) (ps : List Place) → KidsBelow n fs → Kept (notes_wait o t fs ps)
  kids_noted None t fs ps k = same_kids n fs k
  kids_noted (Some l) t fs ps k = same_kids n fs k

  kids_leaving : (o : Option Label) (at : Here) (ask : Ask) (since t : ℕ) (e : Exc) (fs : List Frame) (ps : List Place) → KidsBelow n fs →
      Kept (leaves_the_queue o at ask since t e fs ps)
  kids_leaving None at ask since t e fs ps k = same_kids n fs k
  kids_leaving (Some l) at ask since t e fs ps k = same_kids n fs k

  kids_granted : (what : What) (o : Option Label) (at : Here) (ask : Ask) (since t : ℕ) (body : Steps) (fs : List Frame) (ps : List Place) → KidsBelow n fs →
      Kept (granted_on o at ask since t body what fs ps)
  kids_granted what None at ask since t body fs ps k = same_kids n fs k
  kids_granted a_token (Some l) at ask since t body fs ps k = same_kids n fs k
  kids_granted was_sent (Some l) at ask since t body fs ps k = same_kids n fs k
  kids_granted (a_part received) (Some l) at ask since t body fs ps k = same_kids n fs k
  kids_granted closed_resource (Some l) at ask since t body fs ps k = same_kids n fs k
  kids_granted end_of_channel (Some l) at ask since t body fs ps k = same_kids n fs k

  kids_grant : (what : What) (s : Stopped) (fs : List Frame) (ps : List Place) → KidsBelow n fs → Kept (with_grant now.at here what s fs ps)
  kids_grant what (queued name ask since body) fs ps k = kids_granted what (label_among true name ps) (inside fs here) ask since now.at body fs ps k
  kids_grant what to_begin fs ps k = same_kids n fs k
  kids_grant what (asking kernel purpose) fs ps k = same_kids n fs k
  kids_grant what (asleep paced m since) fs ps k = same_kids n fs k
  kids_grant what (waiting_for name since) fs ps k = same_kids n fs k
  kids_grant what (giving_up since) fs ps k = same_kids n fs k
  kids_grant what (awaiting children ended exc) fs ps k = same_kids n fs k
  kids_grant what (at_end u e) fs ps k = same_kids n fs k

  kids_seen : (t : ℕ) (s : Stopped) (fs : List Frame) (ps : List Place) → KidsBelow n fs → Kept (sees_from here cancelled_from t s fs ps)
  kids_seen t (asleep false zero since) fs ps k = same_kids n fs k
  kids_seen t (asleep false (suc m) since) fs ps k = same_kids n fs k
  kids_seen t (asleep true m since) fs ps k = same_kids n fs k
  kids_seen t to_begin fs ps k = same_kids n fs k
  kids_seen t (asking kernel purpose) fs ps k = same_kids n fs k
  kids_seen t (waiting_for name since) fs ps k =
      kids_giving (is_checkpoint here.clock (ends_at here.clock cancelled_from name since ps) since) t fs ps k
  kids_seen t (queued name ask since body) fs ps k =
      kids_leaving (label_among true name ps) (inside fs here) ask since t cancelled fs ps k
  kids_seen t (giving_up since) fs ps k = same_kids n fs k
  kids_seen t (awaiting children ended exc) fs ps k = same_kids n fs k
  kids_seen t (at_end u e) fs ps k = same_kids n fs k

  kids_due : (t : ℕ) (s : Stopped) (fs : List Frame) (ps : List Place) → KidsBelow n fs → Kept (is_due_from here cancelled_from t s fs ps)
  kids_due t (waiting_for name since) fs ps k = kids_noted (event_on name (stack_at cancelled_from ps).events) t fs ps k
  kids_due t to_begin fs ps k = same_kids n fs k
  kids_due t (asking kernel purpose) fs ps k = same_kids n fs k
  kids_due t (asleep paced m since) fs ps k = same_kids n fs k
  kids_due t (queued name ask since body) fs ps k = kids_leaving (label_among true name ps) (inside fs here) ask since t
      (raised (codes "Deadlock") here.task (tick_of here.clock t)) fs ps k
  kids_due t (giving_up since) fs ps k = same_kids n fs k
  kids_due t (awaiting children ended exc) fs ps k = same_kids n fs k
  kids_due t (at_end u e) fs ps k = same_kids n fs k

  kids_woken : (w : Wake) (s : Stopped) (fs : List Frame) (ps : List Place) → KidsBelow n fs → Kept (wake_of cancelled_from now here w s fs ps)
  kids_woken begins s fs ps k = same_kids n fs k
  kids_woken sees s fs ps k = kids_seen now.at s fs ps k
  kids_woken gives_up s fs ps k = same_kids n fs k
  kids_woken is_due s fs ps k = kids_due now.at s fs ps k
  kids_woken (has_answer a) s fs ps k = kids_with a s fs ps k
  kids_woken (is_granted what) s fs ps k = kids_grant what s fs ps k
  kids_woken (settles exc) s fs ps k = kids_settled exc fs ps k

-- one step
pub step_kids : (now : Now) (cancelled_from : Table) (here : Here) (m : Midway) → KidsBelow m.count m.frames →
    KidsAfter (m.count + length (step_of cancelled_from now here m).begun) (step_of cancelled_from now here m).stopped (step_of cancelled_from now here m).frames
unfolding step_of
step_kids now cancelled_from here m k = kids_frames now cancelled_from here m.count m.frames m.places m.exc k

-- a wake
pub wake_kids : (now : Now) (cancelled_from : Table) (here : Here) (w : Wake) (s : Stopped) (fs : List Frame) (ps : List Place) (n : ℕ) →
    KidsAfter n (Some s) fs →
    KidsAfter (n + length (wake_of cancelled_from now here w s fs ps).begun) (wake_of cancelled_from now here w s fs ps).stopped
    (wake_of cancelled_from now here w s fs ps).frames
wake_kids now cancelled_from here w s fs ps n k = kids_woken now cancelled_from here n w s fs ps (kids_left n (Some s) fs k)
