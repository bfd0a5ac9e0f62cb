-- Each child that begins in a turn is on the input that its starter is on, and a task that has to begin has received nothing.
use Rattle.std.proofs.Common.{◌≡◌, ℕ, zero, suc, ◌+◌, ◌-◌, Bool, true, false, Option, Some, None, List, [], ◌∷◌, ◌++◌, length, refl, subst}
use Rattle.std.specs.Prelude.{slice_get, codes}
use Rattle.exceptions.specs.Exceptions.{Label, Exc, cancelled, raised}
use Rattle.exceptions.specs.Split.{named, keep, drop}
use Rattle.cancel_scopes.specs.Sight.{Level, seen}
use Rattle.job_tree.specs.Tree.{Step, sleep, checkpoint, forever, pace, find, head, longest, need, raise, cancel, set_event, wait_for, scope, nursery, event, start, repeat, attempt, Steps, stop, step, Handled, unhandled, except, Cleaned, uncleaned, finally, ask_for, close_channel, object}
use Rattle.job_meaning.specs.Asking.{Answer, lines, missing, counted, shows, needs, paces}
use Rattle.job_meaning.specs.Log.{Table}
use Rattle.job_meaning.specs.Moments.{far, tick_of, Now}
use Rattle.job_meaning.specs.declared.clock.Clock.{Clock}
use Rattle.job_meaning.specs.declared.clock.Clock.TheVariants.{ByTicks as by_ticks, ByRounds as by_rounds}
use Rattle.job_meaning.specs.Walk.{Here, event_on, pace_ticks, stack_for}
use Rattle.job_meaning.specs.Rest.{Frame, steps_left, in_scope, in_event, in_nursery, in_repeat, in_try, in_handler, in_cleanup, Stopped, to_begin, asking, asleep, waiting_for, giving_up, awaiting, at_end, inside, with_token, with_part, queued}
use Rattle.turn_semantics.specs.Midway.{Place, label_among, stack_at, Midway, Begun, Move, after_move, then_move, now_after}
use Rattle.turn_semantics.specs.Steps.{cancelled_from_after, falls_asleep, waits_on, begun_over, begins_passes, step_on, step_steps, handler_if, step_try, step_pass, step_frames, step_of, turn_of, asks_of}
use Rattle.turn_semantics.specs.Wakes.{Wake, begins, sees, gives_up, is_due, has_answer, settles, ends_at, is_checkpoint, gives_up_if, notes_wait, is_due_from, with_answer, sees_from, wake_of, turn_from, is_granted, with_grant, granted_on, leaves_the_queue}
use Rattle.input_lines.specs.Part.{range_of}
use Rattle.task_machine.specs.declared.frame.Frame as held
use Rattle.task_machine.specs.declared.frame.Frame.TheVariants as frames
use Rattle.task_machine.specs.Fitting.{received_in}
use Rattle.task_machine.specs.Frames.{frame_of, frames_onto, frames_of}
use Rattle.run_refinement.proofs.ActsKeep.{not_both}
use Rattle.task_machine.proofs.Stacked.{one_of}
use Rattle.job_tree.specs.declared.object.Ask.{Ask}
use Rattle.job_meaning.specs.Sharing.{What, a_token, was_sent, a_part, closed_resource, end_of_channel}

-- each of these children is on this input
abbrev pub AllOn : List ℕ → List Begun → Type 0
AllOn input [] = Unit {0}
AllOn input (b ∷ bs) = (b.here.input ≡ input) × AllOn input bs

-- if all children begun are on one input, the one at an index is
pub on_at : (input : List ℕ) (bs : List Begun) → AllOn input bs → (i : ℕ) (b : Begun) → slice_get bs i ≡ Some b → b.here.input ≡ input
on_at input [] h i b e = absurd (not_both refl e)
on_at input (c ∷ bs) h zero b e = subst (λ (z : Begun). z.here.input ≡ input) (one_of c b e) h.0
on_at input (c ∷ bs) h (suc i) b e = on_at input bs h.1 i b e

on_append : (input : List ℕ) (bs cs : List Begun) → AllOn input bs → AllOn input cs → AllOn input (bs ++ cs)
on_append input [] cs h k = k
on_append input (b ∷ bs) cs h k = (h.0, on_append input bs cs h.1 k)

over_on : (name : List ℕ) (here : Here) (of : ℕ) (body : Steps) (ps : List Place) (first k : ℕ) →
    AllOn here.input (begun_over name here of body ps first k)
over_on name here of body ps first zero = tt
over_on name here of body ps first (suc k) =
    on_append here.input (begun_over name here of body ps first k) _ (over_on name here of body ps first k) (refl, tt)

asleep_on : (input : List ℕ) (clock : Clock) (b paced : Bool) (n t : ℕ) (fs : List Frame) (ps : List Place) →
    AllOn input (falls_asleep clock b paced n t fs ps).begun
asleep_on input by_ticks true paced n t fs ps = tt
asleep_on input by_ticks false paced zero t fs ps = tt
asleep_on input by_ticks false paced (suc n) t fs ps = tt
asleep_on input by_rounds b paced n t fs ps = tt

waits_on_input : (input : List ℕ) (o : Option Label) (name : List ℕ) (t : ℕ) (fs : List Frame) (ps : List Place) →
    AllOn input (waits_on o name t fs ps).begun
waits_on_input input None name t fs ps = tt
waits_on_input input (Some l) name t fs ps = tt

asked_on_input : (input : List ℕ) (clock : Clock) (o : Option Label) (b : Bool) (name : List ℕ) (ask : Ask) (t : ℕ) (body : Steps) (fs : List Frame)
    (ps : List Place) → AllOn input (asks_of clock o b name ask t body fs ps).begun
asked_on_input input clock None b name ask t body fs ps = tt
asked_on_input input clock (Some l) false name ask t body fs ps = tt
asked_on_input input by_ticks (Some l) true name ask t body fs ps = tt
asked_on_input input by_rounds (Some l) true name ask t body fs ps = tt

passes_on : (input : List ℕ) (n : ℕ) (over : Bool) (body : Steps) (fs : List Frame) (ps : List Place) → AllOn input (begins_passes n over body fs ps).begun
passes_on input zero over body fs ps = tt
passes_on input (suc k) over body fs ps = tt

one_on : (input : List ℕ) (cancelled_from : Table) (now : Now) (here : Here) (s : Step) (ss : Steps) (fs : List Frame) (ps : List Place) (count : ℕ)
    →
    here.input ≡ input →
    AllOn input (step_on cancelled_from now here s ss fs ps count).begun
one_on input cancelled_from now here (sleep n) ss fs ps count e = asleep_on input here.clock (seen (stack_at cancelled_from ps).scopes now.at) false n now.at
    (steps_left ss ∷ fs) ps
one_on input cancelled_from now here checkpoint ss fs ps count e = asleep_on input here.clock (seen (stack_at cancelled_from ps).scopes now.at) false 0 now.at
    (steps_left ss ∷ fs) ps
one_on input cancelled_from now here forever ss fs ps count e = asleep_on input here.clock (seen (stack_at cancelled_from ps).scopes now.at) false
    (far - tick_of here.clock now.at) now.at (steps_left ss ∷ fs) ps
one_on input cancelled_from now here (pace k) ss fs ps count e = tt
one_on input cancelled_from now here (find text) ss fs ps count e = tt
one_on input cancelled_from now here (head n) ss fs ps count e = tt
one_on input cancelled_from now here longest ss fs ps count e = tt
one_on input cancelled_from now here (need text name) ss fs ps count e = tt
one_on input cancelled_from now here (raise name) ss fs ps count e = tt
one_on input cancelled_from now here (cancel name) ss fs ps count e = tt
one_on input cancelled_from now here (set_event name) ss fs ps count e = tt
one_on input cancelled_from now here (wait_for name) ss fs ps count e = waits_on_input input (label_among true name ps) name now.at (steps_left ss ∷ fs) ps
one_on input cancelled_from now here (scope name d shield fail body) ss fs ps count e = tt
one_on input cancelled_from now here (nursery name d shield body) ss fs ps count e = tt
one_on input cancelled_from now here (event name body) ss fs ps count e = tt
one_on input cancelled_from now here (ask_for name ask body) ss fs ps count e =
    asked_on_input input here.clock (label_among true name ps) (seen (stack_for now.own now.at (stack_at cancelled_from ps).scopes) now.at) name ask now.at body
    (steps_left ss ∷ fs) ps
one_on input cancelled_from now here (close_channel name) ss fs ps count e = tt
one_on input cancelled_from now here (object name kind body) ss fs ps count e = tt
one_on input cancelled_from now here (start name None body) ss fs ps count e = (e, tt)
one_on input cancelled_from now here (start name (Some k) body) ss fs ps count e =
    subst (λ (xs : List ℕ). AllOn xs (begun_over name here k body ps count k)) e (over_on name here k body ps count k)
one_on input cancelled_from now here (repeat n over body) ss fs ps count e = passes_on input n over body (steps_left ss ∷ fs) ps
one_on input cancelled_from now here (attempt body handler cleanup) ss fs ps count e = tt

block_on : (cancelled_from : Table) (now : Now) (here : Here) (ss : Steps) (fs : List Frame) (ps : List Place) (exc : Option Exc) (count : ℕ) →
    AllOn here.input (step_steps cancelled_from now here ss fs ps exc count).begun
block_on cancelled_from now here ss fs ps (Some e) count = tt
block_on cancelled_from now here stop fs ps None count = tt
block_on cancelled_from now here (step s ss) fs ps None count = one_on here.input cancelled_from now (inside fs here) s ss fs ps count refl

pass_on : (input : List ℕ) (pass left : ℕ) (cuts : Option ℕ) (body : Steps) (fs : List Frame) (ps : List Place) (exc : Option Exc) →
    AllOn input (step_pass pass left cuts body fs ps exc).begun
pass_on input pass left cuts body fs ps (Some e) = tt
pass_on input pass zero cuts body fs ps None = tt
pass_on input pass (suc k) cuts body fs ps None = tt

try_on : (input : List ℕ) (handler : Handled) (cleanup : Cleaned) (fs : List Frame) (ps : List Place) (exc : Option Exc) →
    AllOn input (step_try handler cleanup fs ps exc).begun
try_on input unhandled uncleaned fs ps exc = tt
try_on input unhandled (finally body) fs ps exc = tt
try_on input (except name body) cleanup fs ps None = tt
try_on input (except name body) cleanup fs ps (Some e) = by_match (keep (named name) e)
  where
    by_match : (o : Option Exc) → AllOn input (handler_if o (drop (named name) e) e body cleanup fs ps).begun
    by_match None = tt
    by_match (Some x) = tt

frame_on : (cancelled_from : Table) (now : Now) (here : Here) (fs : List Frame) (ps : List Place) (exc : Option Exc) (count : ℕ) →
    AllOn here.input (step_frames cancelled_from now here fs ps exc count).begun
frame_on cancelled_from now here [] ps exc count = tt
frame_on cancelled_from now here (steps_left ss ∷ fs) ps exc count = block_on cancelled_from now here ss fs ps exc count
frame_on cancelled_from now here (in_scope fail ∷ fs) [] exc count = tt
frame_on cancelled_from now here (in_scope fail ∷ fs) (p ∷ ps) exc count = tt
frame_on cancelled_from now here (in_event ∷ fs) [] exc count = tt
frame_on cancelled_from now here (in_event ∷ fs) (p ∷ ps) exc count = tt
frame_on cancelled_from now here (in_nursery children ∷ fs) [] exc count = tt
frame_on cancelled_from now here (in_nursery children ∷ fs) (p ∷ ps) exc count = tt
frame_on cancelled_from now here (in_repeat pass left cuts body ∷ fs) ps exc count = pass_on here.input pass left cuts body fs ps exc
frame_on cancelled_from now here (in_try handler cleanup ∷ fs) ps exc count = try_on here.input handler cleanup fs ps exc
frame_on cancelled_from now here (in_handler rest cleanup ∷ fs) ps exc count = tt
frame_on cancelled_from now here (with_token limiter ∷ fs) ps exc count = tt
frame_on cancelled_from now here (with_part received ∷ fs) ps exc count = tt
frame_on cancelled_from now here (in_cleanup outcome ∷ fs) ps exc count = tt

step_on_input : (cancelled_from : Table) (now : Now) (here : Here) (m : Midway) → AllOn here.input (step_of cancelled_from now here m).begun
unfolding step_of
step_on_input cancelled_from now here m = frame_on cancelled_from now here m.frames m.places m.exc m.count

then_on : (input : List ℕ) (s : Option Stopped) (o q : Move) → AllOn input o.begun → AllOn input q.begun →
    AllOn input (then_move s o q).begun
then_on input None o q h k = on_append input o.begun q.begun h k
then_on input (Some s) o q h k = h

steps_on_input : (n : ℕ) (cancelled_from : Table) (now : Now) (here : Here) (m : Midway) → AllOn here.input (turn_of n cancelled_from now here m).begun
unfolding turn_of
steps_on_input zero cancelled_from now here m = tt
steps_on_input (suc n) cancelled_from now here m =
    let o = step_of cancelled_from now here m in
    then_on here.input o.stopped o (turn_of n (cancelled_from_after cancelled_from o.made) (now_after here.clock now o.made) here (after_move m o))
    (step_on_input cancelled_from now here m)
    (steps_on_input n (cancelled_from_after cancelled_from o.made) (now_after here.clock now o.made) here (after_move m o))

answer_on : (input : List ℕ) (cancelled_from : Table) (t : ℕ) (here : Here) (a : Answer) (s : Stopped) (fs : List Frame) (ps : List Place) →
    AllOn input (with_answer cancelled_from t here a s fs ps).begun
answer_on input cancelled_from t here (lines ls) (asking kernel purpose) fs ps = tt
answer_on input cancelled_from t here missing (asking kernel (needs name)) fs ps = tt
answer_on input cancelled_from t here missing (asking kernel shows) fs ps = tt
answer_on input cancelled_from t here missing (asking kernel (paces k)) fs ps = tt
answer_on input cancelled_from t here (counted n) (asking kernel (paces k)) fs ps = asleep_on input here.clock (seen (stack_at cancelled_from ps).scopes t) true
    (pace_ticks n k) t fs ps
answer_on input cancelled_from t here (counted n) (asking kernel shows) fs ps = tt
answer_on input cancelled_from t here (counted n) (asking kernel (needs name)) fs ps = tt
answer_on input cancelled_from t here a to_begin fs ps = tt
answer_on input cancelled_from t here a (asleep paced n since) fs ps = tt
answer_on input cancelled_from t here a (waiting_for e since) fs ps = tt
answer_on input cancelled_from t here a (queued name ask since body) fs ps = tt
answer_on input cancelled_from t here a (giving_up since) fs ps = tt
answer_on input cancelled_from t here a (awaiting children ended exc) fs ps = tt
answer_on input cancelled_from t here a (at_end u e) fs ps = tt

gives_up_on : (input : List ℕ) (b : Bool) (t : ℕ) (fs : List Frame) (ps : List Place) → AllOn input (gives_up_if b t fs ps).begun
gives_up_on input true t fs ps = tt
gives_up_on input false t fs ps = tt

left_on : (input : List ℕ) (o : Option Label) (here : Here) (ask : Ask) (since t : ℕ) (e : Exc) (fs : List Frame) (ps : List Place) →
    AllOn input (leaves_the_queue o here ask since t e fs ps).begun
left_on input None here ask since t e fs ps = tt
left_on input (Some l) here ask since t e fs ps = tt

sees_on : (input : List ℕ) (here : Here) (cancelled_from : Table) (t : ℕ) (s : Stopped) (fs : List Frame) (ps : List Place) →
    AllOn input (sees_from here cancelled_from t s fs ps).begun
sees_on input here cancelled_from t (asleep false zero since) fs ps = tt
sees_on input here cancelled_from t (asleep false (suc n) since) fs ps = tt
sees_on input here cancelled_from t (asleep true n since) fs ps = tt
sees_on input here cancelled_from t to_begin fs ps = tt
sees_on input here cancelled_from t (asking kernel purpose) fs ps = tt
sees_on input here cancelled_from t (waiting_for e since) fs ps =
    gives_up_on input (is_checkpoint here.clock (ends_at here.clock cancelled_from e since ps) since) t fs ps
sees_on input here cancelled_from t (queued name ask since body) fs ps =
    left_on input (label_among true name ps) (inside fs here) ask since t cancelled fs ps
sees_on input here cancelled_from t (giving_up since) fs ps = tt
sees_on input here cancelled_from t (awaiting children ended exc) fs ps = tt
sees_on input here cancelled_from t (at_end u e) fs ps = tt

granted_on_input : (input : List ℕ) (o : Option Label) (here : Here) (ask : Ask) (since t : ℕ) (body : Steps) (what : What) (fs : List Frame)
    (ps : List Place) → AllOn input (granted_on o here ask since t body what fs ps).begun
granted_on_input input None here ask since t body what fs ps = tt
granted_on_input input (Some l) here ask since t body a_token fs ps = tt
granted_on_input input (Some l) here ask since t body was_sent fs ps = tt
granted_on_input input (Some l) here ask since t body (a_part received) fs ps = tt
granted_on_input input (Some l) here ask since t body closed_resource fs ps = tt
granted_on_input input (Some l) here ask since t body end_of_channel fs ps = tt

grant_on : (input : List ℕ) (t : ℕ) (here : Here) (what : What) (s : Stopped) (fs : List Frame) (ps : List Place) →
    AllOn input (with_grant t here what s fs ps).begun
grant_on input t here what (queued name ask since body) fs ps =
    granted_on_input input (label_among true name ps) (inside fs here) ask since t body what fs ps
grant_on input t here what to_begin fs ps = tt
grant_on input t here what (asking kernel purpose) fs ps = tt
grant_on input t here what (asleep paced n since) fs ps = tt
grant_on input t here what (waiting_for e since) fs ps = tt
grant_on input t here what (giving_up since) fs ps = tt
grant_on input t here what (awaiting children ended exc) fs ps = tt
grant_on input t here what (at_end u e) fs ps = tt

note_on : (input : List ℕ) (o : Option (Level Label)) (t : ℕ) (fs : List Frame) (ps : List Place) → AllOn input (notes_wait o t fs ps).begun
note_on input None t fs ps = tt
note_on input (Some l) t fs ps = tt

due_on : (input : List ℕ) (here : Here) (cancelled_from : Table) (t : ℕ) (s : Stopped) (fs : List Frame) (ps : List Place) →
    AllOn input (is_due_from here cancelled_from t s fs ps).begun
due_on input here cancelled_from t (waiting_for e since) fs ps = note_on input (event_on e (stack_at cancelled_from ps).events) t fs ps
due_on input here cancelled_from t (queued name ask since body) fs ps =
    left_on input (label_among true name ps) (inside fs here) ask since t (raised (codes "Deadlock") here.task (tick_of here.clock t)) fs ps
due_on input here cancelled_from t to_begin fs ps = tt
due_on input here cancelled_from t (asking kernel purpose) fs ps = tt
due_on input here cancelled_from t (asleep paced n since) fs ps = tt
due_on input here cancelled_from t (giving_up since) fs ps = tt
due_on input here cancelled_from t (awaiting children ended exc) fs ps = tt
due_on input here cancelled_from t (at_end u e) fs ps = tt

wake_on : (input : List ℕ) (cancelled_from : Table) (now : Now) (here : Here) (w : Wake) (s : Stopped) (fs : List Frame) (ps : List Place) →
    AllOn input (wake_of cancelled_from now here w s fs ps).begun
wake_on input cancelled_from now here begins s fs ps = tt
wake_on input cancelled_from now here sees s fs ps = sees_on input here cancelled_from now.at s fs ps
wake_on input cancelled_from now here gives_up s fs ps = tt
wake_on input cancelled_from now here is_due s fs ps = due_on input here cancelled_from now.at s fs ps
wake_on input cancelled_from now here (has_answer a) s fs ps = answer_on input cancelled_from now.at here a s fs ps
wake_on input cancelled_from now here (is_granted what) s fs ps = grant_on input now.at here what s fs ps
wake_on input cancelled_from now here (settles exc) s fs [] = tt
wake_on input cancelled_from now here (settles exc) s fs (p ∷ ps) = tt

-- a whole turn
pub turn_on_input : (n : ℕ) (cancelled_from : Table) (now : Now) (here : Here) (w : Wake) (s : Stopped) (fs : List Frame) (ps : List Place)
    (count : ℕ) →
    AllOn here.input (turn_from n cancelled_from now here w s fs ps count).begun
unfolding turn_from
turn_on_input n cancelled_from now here w s fs ps count =
    let o = wake_of cancelled_from now here w s fs ps in
    then_on here.input o.stopped o
    (turn_of n (cancelled_from_after cancelled_from o.made) (now_after here.clock now o.made) here (record {
      frames = o.frames;
      places = o.places;
      exc = o.exc;
      count =
          count + length o.begun;
    }))
    (wake_on here.input cancelled_from now here w s fs ps)
    (steps_on_input n (cancelled_from_after cancelled_from o.made) (now_after here.clock now o.made) here (record {
      frames = o.frames;
      places = o.places;
      exc = o.exc;
      count =
          count + length o.begun;
    }))

-- a task that has to begin has received no part
pub none_received : (children : ℕ → List ℕ) (fs : List held.Frame) (body : Steps) → frames_of children fs ≡ steps_left body ∷ [] → received_in fs ≡ []
none_received children [] body e = refl
none_received children (f ∷ []) body e = by_frame f e
  where
    by_frame : (f : held.Frame) → frame_of children f ∷ [] ≡ steps_left body ∷ [] → received_in (f ∷ []) ≡ []
    by_frame (frames.Steps steps) e = refl
    by_frame (frames.Scope fail) e = refl
    by_frame frames.Event e = refl
    by_frame (frames.Token limiter) e = refl
    by_frame (frames.Received part) e = absurd (let g : with_part (range_of part) ≡ steps_left body = cc in cc)
    by_frame (frames.Nursery id) e = refl
    by_frame (frames.Repeat pass left cuts body) e = refl
    by_frame (frames.Try handler cleanup) e = refl
    by_frame (frames.Handler others cleanup) e = refl
    by_frame (frames.Cleanup outcome) e = refl
none_received children (f ∷ g ∷ fs) body e = absurd (by_long fs (frame_of children g) (frame_of children f) [] e)
  where
    by_long : (gs : List held.Frame) (x y : Frame) (outer : List Frame) → frames_onto children gs (x ∷ y ∷ outer) ≡ steps_left body ∷ [] → ⊥
    by_long [] x y outer h = absurd (let z : y ∷ outer ≡ [] = cc in cc)
    by_long (h ∷ gs) x y outer z = by_long gs (frame_of children h) x (y ∷ outer) z
