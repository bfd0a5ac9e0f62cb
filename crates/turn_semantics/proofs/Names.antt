-- No scope is entered that has the name of an enclosing one: each step of a task keeps that.
use Rattle.std.proofs.Common.{◌≡◌, inl, inr, ℕ, zero, suc, ◌+◌, Bool, true, false, Option, Some, None, List, [], ◌∷◌, ◌++◌, length, refl, subst}
use Rattle.turn_semantics.specs.Lists.{IsAmong}
use Rattle.job_tree.specs.Tree.{Step, sleep, checkpoint, forever, pace, find, head, longest, need, raise, cancel, set_event, wait_for, ask_for, close_channel, scope, nursery, event, object, start, repeat, attempt, Steps, stop, step, Handled, unhandled, except, Cleaned, uncleaned, finally, Tree}
use Rattle.job_tree.specs.Names.{names_of, names_in, handled_names, cleaned_names, GivesNamesOnce}
use Rattle.std.specs.Prelude.{codes}
use Rattle.job_tree.specs.declared.object.Ask.{Ask}
use Rattle.exceptions.specs.Exceptions.{Label, Exc, cancelled, raised}
use Rattle.exceptions.specs.Split.{named, keep, drop}
use Rattle.cancel_scopes.specs.Sight.{Level, seen}
use Rattle.job_meaning.specs.Log.{Table}
use Rattle.job_meaning.specs.Sharing.{What, a_token, was_sent, a_part, closed_resource, end_of_channel}
use Rattle.job_meaning.specs.Moments.{tick_of, Now}
use Rattle.job_meaning.specs.declared.clock.Clock.{Clock}
use Rattle.job_meaning.specs.declared.clock.Clock.TheVariants.{ByTicks as by_ticks, ByRounds as by_rounds}
use Rattle.job_meaning.specs.Walk.{Here, stack_for, event_on}
use Rattle.job_meaning.specs.Rest.{Frame, steps_left, in_scope, in_event, with_token, with_part, in_nursery, in_repeat, in_try, in_handler, in_cleanup, inside, Stopped, awaiting, Rest}
use Rattle.job_meaning.specs.Asking.{Answer, lines, missing, counted, Purpose, shows, needs, paces}
use Rattle.job_meaning.proofs.Distinct.{Among, among_left, among_right, Distinct, distinct_left, distinct_right, distinct_by_bytes}
use Rattle.turn_semantics.specs.Midway.{Place, label_among, stack_at, Midway, Begun, Move, after_move, then_move, now_after}
use Rattle.turn_semantics.specs.Wakes.{Wake, goes_on_with, leaves_settled, ends_at, is_checkpoint, gives_up_if, notes_wait, leaves_the_queue, granted_on, wake_of, turn_from, CanWake, from_start, from_sleep, from_due, from_seen_waiting, from_set, from_granted, from_seen_queued, from_deadlock, from_asking, from_giving_up, from_wait}
use Rattle.turn_semantics.specs.Placed.{outer_places}
use Rattle.turn_semantics.specs.Steps.{falls_asleep, sleeps, waits_on, asks_of, with_started, begun_over, step_on, step_steps, handler_if, step_try, step_frames, step_of, cancelled_from_after, turn_of, begins_passes, step_pass}
use Rattle.turn_semantics.specs.Names.{names_at, OwnNames, AreNew, IsNew, IsNewHandler, IsNewCleanup, NewIn, NewStop, AllNew, StaysNew}

-- ---- steps whose names are given once

-- no name of one list is in the other
abbrev NoName : List (List ℕ) → List (List ℕ) → Type 0
NoName ns around = (n : List ℕ) → Among n ns → IsAmong n around → ⊥

more_around : (name : List ℕ) (ns around : List (List ℕ)) → (Among name ns → ⊥) → NoName ns around → NoName ns (name ∷ around)
more_around name ns around d h n i (inl e) = d (subst (λ (x : List ℕ). Among x ns) e i)
more_around name ns around d h n i (inr j) = h n i j

mutual
  -- steps that give each name once, and none of an enclosing scope, enter no scope that has the name of an enclosing
  -- one
  pub new_steps : (ss : Steps) (around : List (List ℕ)) → Distinct (names_of ss) → NoName (names_of ss) around → AreNew around ss
  new_steps stop around d h = tt
  new_steps (step s ss) around d h = (
    new_step s around (distinct_left (names_in s) (names_of ss) d) (λ n i. h n (among_left n (names_in s) (names_of ss) i)),
    new_steps ss around (distinct_right (names_in s) (names_of ss) d) (λ n i. h n (among_right n (names_in s) (names_of ss) i)),
  )

  -- the same of one step
  pub new_step : (s : Step) (around : List (List ℕ)) → Distinct (names_in s) → NoName (names_in s) around → IsNew around s
  new_step (sleep n) around d h = tt
  new_step checkpoint around d h = tt
  new_step forever around d h = tt
  new_step (pace k) around d h = tt
  new_step (find text) around d h = tt
  new_step (head n) around d h = tt
  new_step longest around d h = tt
  new_step (need text name) around d h = tt
  new_step (raise name) around d h = tt
  new_step (cancel name) around d h = tt
  new_step (set_event name) around d h = tt
  new_step (wait_for name) around d h = tt
  new_step (ask_for name ask body) around d h = new_steps body around d h
  new_step (close_channel name) around d h = tt
  new_step (scope name deadline shield fail body) around d h =
      (h name (inl refl), new_steps body (name ∷ around) d.1 (more_around name (names_of body) around d.0 (λ n i. h n (inr i))))
  new_step (nursery name deadline shield body) around d h =
      (h name (inl refl), new_steps body (name ∷ around) d.1 (more_around name (names_of body) around d.0 (λ n i. h n (inr i))))
  new_step (event name body) around d h =
      (h name (inl refl), new_steps body (name ∷ around) d.1 (more_around name (names_of body) around d.0 (λ n i. h n (inr i))))
  new_step (object name kind body) around d h =
      (h name (inl refl), new_steps body (name ∷ around) d.1 (more_around name (names_of body) around d.0 (λ n i. h n (inr i))))
  new_step (start name over body) around d h = new_steps body around d.1 (λ n i. h n (inr i))
  new_step (repeat count over body) around d h = new_steps body around d h
  new_step (attempt body handler cleanup) around d h =
      let front = distinct_left (names_of body ++ handled_names handler) (cleaned_names cleanup) d in (
        new_steps body around (distinct_left (names_of body) (handled_names handler) front)
            (λ n i. h n (among_left n (names_of body ++ handled_names handler) (cleaned_names cleanup)
            (among_left n (names_of body) (handled_names handler) i))),
        new_handler handler around (distinct_right (names_of body) (handled_names handler) front)
            (λ n i. h n (among_left n (names_of body ++ handled_names handler) (cleaned_names cleanup)
            (among_right n (names_of body) (handled_names handler) i))),
        new_cleanup cleanup around (distinct_right (names_of body ++ handled_names handler) (cleaned_names cleanup) d)
            (λ n i. h n (among_right n (names_of body ++ handled_names handler) (cleaned_names cleanup) i)),
      )

  new_handler : (x : Handled) (around : List (List ℕ)) → Distinct (handled_names x) → NoName (handled_names x) around → IsNewHandler around x
  new_handler unhandled around d h = tt
  new_handler (except name body) around d h = new_steps body around d h

  new_cleanup : (x : Cleaned) (around : List (List ℕ)) → Distinct (cleaned_names x) → NoName (cleaned_names x) around → IsNewCleanup around x
  new_cleanup uncleaned around d h = tt
  new_cleanup (finally body) around d h = new_steps body around d h

-- a job whose names are given once
pub new_job : (job : Tree) → GivesNamesOnce job → NewIn (steps_left job.steps ∷ []) []
new_job job once = (new_steps job.steps [] (distinct_by_bytes (job.name ∷ names_of job.steps) once).1 (λ n i j. j), tt)

-- ---- steps of a task

asleep_new : (clock : Clock) (b paced : Bool) (n t : ℕ) (fs : List Frame) (ps : List Place) → NewIn fs ps → OwnNames (names_at ps) →
    StaysNew (falls_asleep clock b paced n t fs ps)
asleep_new by_ticks true paced n t fs ps h own = record { frames = h; stop = tt; own = own; begun = tt }
asleep_new by_ticks false paced zero t fs ps h own = record { frames = h; stop = tt; own = own; begun = tt }
asleep_new by_ticks false paced (suc n) t fs ps h own = record { frames = h; stop = tt; own = own; begun = tt }
asleep_new by_rounds b paced n t fs ps h own = record { frames = h; stop = tt; own = own; begun = tt }

sleeps_new : (clock : Clock) (cancelled_from : Table) (paced : Bool) (n t : ℕ) (fs : List Frame) (ps : List Place) → NewIn fs ps →
    OwnNames (names_at ps) →
    StaysNew (sleeps clock cancelled_from paced n t fs ps)
sleeps_new clock cancelled_from paced n t fs ps h own = asleep_new clock (seen (stack_at cancelled_from ps).scopes t) paced n t fs ps h own

started_new : (more : List ℕ) (fs : List Frame) (ps : List Place) → NewIn fs ps → NewIn (with_started more fs) ps
started_new more [] ps h = h
started_new more (steps_left ss ∷ fs) ps h = (h.0, started_new more fs ps h.1)
started_new more (in_scope fail ∷ fs) ps h = h
started_new more (in_event ∷ fs) ps h = h
started_new more (with_token limiter ∷ fs) ps h = h
started_new more (with_part received ∷ fs) ps h = h
started_new more (in_nursery children ∷ fs) [] h = h
started_new more (in_nursery children ∷ fs) (p ∷ ps) h = h
started_new more (in_repeat pass left cuts again ∷ fs) ps h = (h.0, started_new more fs ps h.1)
started_new more (in_try handler cleanup ∷ fs) ps h = h
started_new more (in_handler rest cleanup ∷ fs) ps h = h
started_new more (in_cleanup outcome ∷ fs) ps h = h

all_new_append : (a b : List Begun) → AllNew a → AllNew b → AllNew (a ++ b)
all_new_append [] b h k = k
all_new_append (x ∷ a) b h k = (h.0, h.1, all_new_append a b h.2 k)

over_new : (name : List ℕ) (here : Here) (of : ℕ) (body : Steps) (ps : List Place) (first k : ℕ) → AreNew (names_at ps) body →
    OwnNames (names_at ps) →
    AllNew (begun_over name here of body ps first k)
over_new name here of body ps first zero h own = tt
over_new name here of body ps first (suc k) h own =
    all_new_append (begun_over name here of body ps first k) _ (over_new name here of body ps first k h own) (h, own, tt)

waits_new : (o : Option Label) (name : List ℕ) (t : ℕ) (fs : List Frame) (ps : List Place) → NewIn fs ps → OwnNames (names_at ps) →
    StaysNew (waits_on o name t fs ps)
waits_new None name t fs ps h own = record { frames = h; stop = tt; own = own; begun = tt }
waits_new (Some l) name t fs ps h own = record { frames = h; stop = tt; own = own; begun = tt }

asks_new : (clock : Clock) (o : Option Label) (b : Bool) (name : List ℕ) (ask : Ask) (t : ℕ) (body : Steps) (fs : List Frame) (ps : List Place) →
    AreNew (names_at ps) body → NewIn fs ps → OwnNames (names_at ps) → StaysNew (asks_of clock o b name ask t body fs ps)
asks_new clock None b name ask t body fs ps a h own = record { frames = h; stop = tt; own = own; begun = tt }
asks_new by_ticks (Some l) true name ask t body fs ps a h own = record { frames = h; stop = tt; own = own; begun = tt }
asks_new by_ticks (Some l) false name ask t body fs ps a h own = record { frames = h; stop = a; own = own; begun = tt }
asks_new by_rounds (Some l) true name ask t body fs ps a h own = record { frames = h; stop = tt; own = own; begun = tt }
asks_new by_rounds (Some l) false name ask t body fs ps a h own = record { frames = h; stop = a; own = own; begun = tt }

passes_new : (n : ℕ) (over : Bool) (body : Steps) (fs : List Frame) (ps : List Place) → AreNew (names_at ps) body → NewIn fs ps →
    OwnNames (names_at ps) → StaysNew (begins_passes n over body fs ps)
passes_new zero over body fs ps a h own = record { frames = h; stop = tt; own = own; begun = tt }
passes_new (suc n) over body fs ps a h own = record { frames = (a, (a, h)); stop = tt; own = own; begun = tt }

pass_new : (pass left : ℕ) (cuts : Option ℕ) (body : Steps) (fs : List Frame) (ps : List Place) (exc : Option Exc) → AreNew (names_at ps) body →
    NewIn fs ps → OwnNames (names_at ps) → StaysNew (step_pass pass left cuts body fs ps exc)
pass_new pass left cuts body fs ps (Some e) a h own = record { frames = h; stop = tt; own = own; begun = tt }
pass_new pass zero cuts body fs ps None a h own = record { frames = h; stop = tt; own = own; begun = tt }
pass_new pass (suc n) cuts body fs ps None a h own = record { frames = (a, (a, h)); stop = tt; own = own; begun = tt }

step_new : (cancelled_from : Table) (now : Now) (here : Here) (s : Step) (ss : Steps) (fs : List Frame) (ps : List Place) (count : ℕ) →
    IsNew (names_at ps) s → AreNew (names_at ps) ss →
    NewIn fs ps → OwnNames (names_at ps) → StaysNew (step_on cancelled_from now here s ss fs ps count)
step_new cancelled_from now here (sleep n) ss fs ps count i a h own = sleeps_new here.clock cancelled_from false n now.at (steps_left ss ∷ fs) ps (a, h) own
step_new cancelled_from now here checkpoint ss fs ps count i a h own = sleeps_new here.clock cancelled_from false 0 now.at (steps_left ss ∷ fs) ps (a, h) own
step_new cancelled_from now here forever ss fs ps count i a h own = sleeps_new here.clock cancelled_from false _ now.at (steps_left ss ∷ fs) ps (a, h) own
step_new cancelled_from now here (pace k) ss fs ps count i a h own = record { frames = (a, h); stop = tt; own = own; begun = tt }
step_new cancelled_from now here (find text) ss fs ps count i a h own = record { frames = (a, h); stop = tt; own = own; begun = tt }
step_new cancelled_from now here (head n) ss fs ps count i a h own = record { frames = (a, h); stop = tt; own = own; begun = tt }
step_new cancelled_from now here longest ss fs ps count i a h own = record { frames = (a, h); stop = tt; own = own; begun = tt }
step_new cancelled_from now here (need text name) ss fs ps count i a h own = record { frames = (a, h); stop = tt; own = own; begun = tt }
step_new cancelled_from now here (raise name) ss fs ps count i a h own = record { frames = (a, h); stop = tt; own = own; begun = tt }
step_new cancelled_from now here (cancel name) ss fs ps count i a h own = record { frames = (a, h); stop = tt; own = own; begun = tt }
step_new cancelled_from now here (set_event name) ss fs ps count i a h own = record { frames = (a, h); stop = tt; own = own; begun = tt }
step_new cancelled_from now here (wait_for name) ss fs ps count i a h own =
    waits_new (label_among true name ps) name now.at (steps_left ss ∷ fs) ps (a, h) own
step_new cancelled_from now here (ask_for name ask body) ss fs ps count i a h own =
    asks_new here.clock (label_among true name ps) (seen (stack_for now.own now.at (stack_at cancelled_from ps).scopes) now.at) name ask now.at body
    (steps_left ss ∷ fs) ps i (a, h) own
step_new cancelled_from now here (close_channel name) ss fs ps count i a h own = record { frames = (a, h); stop = tt; own = own; begun = tt }
step_new cancelled_from now here (scope name deadline shield fail body) ss fs ps count i a h own =
    record { frames = (i.1, (a, h)); stop = tt; own = (i.0, own); begun = tt }
step_new cancelled_from now here (nursery name deadline shield body) ss fs ps count i a h own =
    record { frames = (i.1, (a, h)); stop = tt; own = (i.0, own); begun = tt }
step_new cancelled_from now here (event name body) ss fs ps count i a h own =
    record { frames = (i.1, (a, h)); stop = tt; own = (i.0, own); begun = tt }
step_new cancelled_from now here (object name kind body) ss fs ps count i a h own =
    record { frames = (i.1, (a, h)); stop = tt; own = (i.0, own); begun = tt }
step_new cancelled_from now here (start name None body) ss fs ps count i a h own =
    record { frames = (a, started_new (count ∷ []) fs ps h); stop = tt; own = own; begun = (i, own, tt) }
step_new cancelled_from now here (start name (Some k) body) ss fs ps count i a h own =
    record { frames = (a, started_new _ fs ps h); stop = tt; own = own; begun = over_new name here k body ps count k i own }
step_new cancelled_from now here (repeat n over body) ss fs ps count i a h own = passes_new n over body (steps_left ss ∷ fs) ps i (a, h) own
step_new cancelled_from now here (attempt body handler cleanup) ss fs ps count i a h own =
    record { frames = (i.0, (i.1, i.2, (a, h))); stop = tt; own = own; begun = tt }

steps_new : (cancelled_from : Table) (now : Now) (here : Here) (ss : Steps) (fs : List Frame) (ps : List Place) (exc : Option Exc) (count : ℕ) →
    AreNew (names_at ps) ss →
    NewIn fs ps → OwnNames (names_at ps) → StaysNew (step_steps cancelled_from now here ss fs ps exc count)
steps_new cancelled_from now here ss fs ps (Some e) count a h own = record { frames = h; stop = tt; own = own; begun = tt }
steps_new cancelled_from now here stop fs ps None count a h own = record { frames = h; stop = tt; own = own; begun = tt }
steps_new cancelled_from now here (step s ss) fs ps None count a h own = step_new cancelled_from now (inside fs here) s ss fs ps count a.0 a.1 h own

handler_new : (matched rest : Option Exc) (e : Exc) (body : Steps) (cleanup : Cleaned) (fs : List Frame) (ps : List Place) →
    AreNew (names_at ps) body →
    IsNewCleanup (names_at ps) cleanup → NewIn fs ps → OwnNames (names_at ps) → StaysNew (handler_if matched rest e body cleanup fs ps)
handler_new None rest e body cleanup fs ps a c h own = record { frames = (tt, c, h); stop = tt; own = own; begun = tt }
handler_new (Some m) rest e body cleanup fs ps a c h own = record { frames = (a, (c, h)); stop = tt; own = own; begun = tt }

try_new : (handler : Handled) (cleanup : Cleaned) (fs : List Frame) (ps : List Place) (exc : Option Exc) →
    IsNewHandler (names_at ps) handler →
    IsNewCleanup (names_at ps) cleanup → NewIn fs ps → OwnNames (names_at ps) → StaysNew (step_try handler cleanup fs ps exc)
try_new unhandled uncleaned fs ps exc a c h own = record { frames = h; stop = tt; own = own; begun = tt }
try_new unhandled (finally body) fs ps exc a c h own = record { frames = (c, h); stop = tt; own = own; begun = tt }
try_new (except name body) cleanup fs ps None a c h own = record { frames = (tt, c, h); stop = tt; own = own; begun = tt }
try_new (except name body) cleanup fs ps (Some e) a c h own =
    handler_new (keep (named name) e) (drop (named name) e) e body cleanup fs ps a c h own

frames_new : (cancelled_from : Table) (now : Now) (here : Here) (fs : List Frame) (ps : List Place) (exc : Option Exc) (count : ℕ) → NewIn fs ps →
    OwnNames (names_at ps) →
    StaysNew (step_frames cancelled_from now here fs ps exc count)
frames_new cancelled_from now here [] ps exc count h own = record { frames = tt; stop = tt; own = own; begun = tt }
frames_new cancelled_from now here (steps_left ss ∷ fs) ps exc count h own = steps_new cancelled_from now here ss fs ps exc count h.0 h.1 own
frames_new cancelled_from now here (in_scope fail ∷ fs) [] exc count h own = record { frames = h; stop = tt; own = own; begun = tt }
frames_new cancelled_from now here (in_scope fail ∷ fs) (p ∷ ps) exc count h own = record { frames = h; stop = tt; own = own.1; begun = tt }
frames_new cancelled_from now here (in_event ∷ fs) [] exc count h own = record { frames = h; stop = tt; own = own; begun = tt }
frames_new cancelled_from now here (in_event ∷ fs) (p ∷ ps) exc count h own = record { frames = h; stop = tt; own = own.1; begun = tt }
frames_new cancelled_from now here (with_token limiter ∷ fs) ps exc count h own = record { frames = h; stop = tt; own = own; begun = tt }
frames_new cancelled_from now here (with_part received ∷ fs) ps exc count h own = record { frames = h; stop = tt; own = own; begun = tt }
frames_new cancelled_from now here (in_nursery children ∷ fs) [] exc count h own = record { frames = h; stop = tt; own = own; begun = tt }
frames_new cancelled_from now here (in_nursery children ∷ fs) (p ∷ ps) exc count h own = record { frames = h; stop = tt; own = own; begun = tt }
frames_new cancelled_from now here (in_repeat pass left cuts body ∷ fs) ps exc count h own = pass_new pass left cuts body fs ps exc h.0 h.1 own
frames_new cancelled_from now here (in_try handler cleanup ∷ fs) ps exc count h own = try_new handler cleanup fs ps exc h.0 h.1 h.2 own
frames_new cancelled_from now here (in_handler rest cleanup ∷ fs) ps exc count h own = record { frames = (tt, h.0, h.1); stop = tt; own = own; begun = tt }
frames_new cancelled_from now here (in_cleanup outcome ∷ fs) ps exc count h own = record { frames = h; stop = tt; own = own; begun = tt }

-- a step of a task keeps it
pub step_stays_new : (cancelled_from : Table) (now : Now) (here : Here) (m : Midway) → NewIn m.frames m.places → OwnNames (names_at m.places) →
    StaysNew (step_of cancelled_from now here m)
unfolding step_of
step_stays_new cancelled_from now here m h own = frames_new cancelled_from now here m.frames m.places m.exc m.count h own

-- ---- a turn

answer_new : (cancelled_from : Table) (now : Now) (here : Here) (a : Answer) (purpose : Purpose) (fs : List Frame) (ps : List Place) → NewIn fs ps →
    OwnNames (names_at ps) →
    StaysNew (goes_on_with cancelled_from now.at here a purpose fs ps)
answer_new cancelled_from now here (lines ls) purpose fs ps h own = record { frames = h; stop = tt; own = own; begun = tt }
answer_new cancelled_from now here missing shows fs ps h own = record { frames = h; stop = tt; own = own; begun = tt }
answer_new cancelled_from now here missing (needs name) fs ps h own = record { frames = h; stop = tt; own = own; begun = tt }
answer_new cancelled_from now here missing (paces k) fs ps h own = record { frames = h; stop = tt; own = own; begun = tt }
answer_new cancelled_from now here (counted n) shows fs ps h own = record { frames = h; stop = tt; own = own; begun = tt }
answer_new cancelled_from now here (counted n) (needs name) fs ps h own = record { frames = h; stop = tt; own = own; begun = tt }
answer_new cancelled_from now here (counted n) (paces k) fs ps h own = sleeps_new here.clock cancelled_from true _ now.at fs ps h own

-- a nursery whose last member ended is left
settled_new : (clock : Clock) (cancelled_from : Table) (now : Now) (exc : Option Exc) (children : List ℕ) (ended : ℕ) (e : Option Exc) (fs : List Frame)
    (ps : List Place) →
    NewIn fs (outer_places (Some (awaiting children ended e)) ps) → OwnNames (names_at ps) → StaysNew (leaves_settled clock cancelled_from now exc fs ps)
settled_new clock cancelled_from now exc children ended e fs [] h own = record { frames = h; stop = tt; own = own; begun = tt }
settled_new clock cancelled_from now exc children ended e fs (p ∷ ps) h own = record { frames = h; stop = tt; own = own.1; begun = tt }

gives_new : (b : Bool) (t : ℕ) (fs : List Frame) (ps : List Place) → NewIn fs ps → OwnNames (names_at ps) → StaysNew (gives_up_if b t fs ps)
gives_new true t fs ps h own = record { frames = h; stop = tt; own = own; begun = tt }
gives_new false t fs ps h own = record { frames = h; stop = tt; own = own; begun = tt }

notes_new : (o : Option (Level Label)) (t : ℕ) (fs : List Frame) (ps : List Place) → NewIn fs ps → OwnNames (names_at ps) →
    StaysNew (notes_wait o t fs ps)
notes_new None t fs ps h own = record { frames = h; stop = tt; own = own; begun = tt }
notes_new (Some l) t fs ps h own = record { frames = h; stop = tt; own = own; begun = tt }

leaving_new : (o : Option Label) (here : Here) (ask : Ask) (since t : ℕ) (e : Exc) (fs : List Frame) (ps : List Place) → NewIn fs ps →
    OwnNames (names_at ps) → StaysNew (leaves_the_queue o here ask since t e fs ps)
leaving_new None here ask since t e fs ps h own = record { frames = h; stop = tt; own = own; begun = tt }
leaving_new (Some l) here ask since t e fs ps h own = record { frames = h; stop = tt; own = own; begun = tt }

granted_new : (what : What) (o : Option Label) (here : Here) (ask : Ask) (since t : ℕ) (body : Steps) (fs : List Frame) (ps : List Place) →
    AreNew (names_at ps) body → NewIn fs ps → OwnNames (names_at ps) → StaysNew (granted_on o here ask since t body what fs ps)
granted_new what None here ask since t body fs ps a h own = record { frames = h; stop = tt; own = own; begun = tt }
granted_new a_token (Some l) here ask since t body fs ps a h own = record { frames = (a, h); stop = tt; own = own; begun = tt }
granted_new was_sent (Some l) here ask since t body fs ps a h own = record { frames = (a, h); stop = tt; own = own; begun = tt }
granted_new (a_part received) (Some l) here ask since t body fs ps a h own = record { frames = (a, h); stop = tt; own = own; begun = tt }
granted_new closed_resource (Some l) here ask since t body fs ps a h own = record { frames = h; stop = tt; own = own; begun = tt }
granted_new end_of_channel (Some l) here ask since t body fs ps a h own = record { frames = h; stop = tt; own = own; begun = tt }

wake_new : (cancelled_from : Table) (now : Now) (here : Here) {w : Wake} {s : Stopped} → CanWake w s → (fs : List Frame) (ps : List Place) →
    NewIn fs (outer_places (Some s) ps) → NewStop (Some s) ps →
    OwnNames (names_at ps) → StaysNew (wake_of cancelled_from now here w s fs ps)
wake_new cancelled_from now here from_start fs ps h z own = record { frames = h; stop = tt; own = own; begun = tt }
wake_new cancelled_from now here (from_asking {a} {kernel} {purpose}) fs ps h z own = answer_new cancelled_from now here a purpose fs ps h own
wake_new cancelled_from now here (from_sleep {paced = false} {n = zero} {since}) fs ps h z own = record { frames = h; stop = tt; own = own; begun = tt }
wake_new cancelled_from now here (from_sleep {paced = false} {n = suc n} {since}) fs ps h z own = record { frames = h; stop = tt; own = own; begun = tt }
wake_new cancelled_from now here (from_sleep {paced = true} {n} {since}) fs ps h z own = record { frames = h; stop = tt; own = own; begun = tt }
wake_new cancelled_from now here (from_seen_waiting {event = name} {since}) fs ps h z own =
    gives_new (is_checkpoint here.clock (ends_at here.clock cancelled_from name since ps) since) now.at fs ps h own
wake_new cancelled_from now here (from_set {event = name} {since}) fs ps h z own = notes_new (event_on name (stack_at cancelled_from ps).events) now.at fs ps h own
wake_new cancelled_from now here (from_granted {what} {object = name} {ask} {since} {body}) fs ps h z own =
    granted_new what (label_among true name ps) (inside fs here) ask since now.at body fs ps z h own
wake_new cancelled_from now here (from_seen_queued {object = name} {ask} {since} {body}) fs ps h z own =
    leaving_new (label_among true name ps) (inside fs here) ask since now.at cancelled fs ps h own
wake_new cancelled_from now here (from_deadlock {object = name} {ask} {since} {body}) fs ps h z own =
    leaving_new (label_among true name ps) (inside fs here) ask since now.at (raised (codes "Deadlock") here.task (tick_of here.clock now.at)) fs ps h own
wake_new cancelled_from now here (from_giving_up {since}) fs ps h z own = record { frames = h; stop = tt; own = own; begun = tt }
wake_new cancelled_from now here (from_due {paced} {n} {since}) fs ps h z own = record { frames = h; stop = tt; own = own; begun = tt }
wake_new cancelled_from now here (from_wait {exc} {children} {ended} {e}) fs ps h z own = settled_new here.clock cancelled_from now exc children ended e fs ps h own

then_new : (s : Option Stopped) (o q : Move) → o.stopped ≡ s → StaysNew o → (s ≡ None → StaysNew q) → StaysNew (then_move s o q)
then_new (Some s) o q e h k = h
then_new None o q e h k = let g =
    k refl in record { frames = g.frames; stop = g.stop; own = g.own; begun = all_new_append o.begun q.begun h.begun g.begun }

-- the frames of a task that did not stop
not_stopped : (o : Move) → o.stopped ≡ None → NewIn o.frames (outer_places o.stopped o.places) → NewIn o.frames o.places
not_stopped o e h = subst (λ (s : Option Stopped). NewIn o.frames (outer_places s o.places)) e h

turn_new : (n : ℕ) (cancelled_from : Table) (now : Now) (here : Here) (m : Midway) → NewIn m.frames m.places → OwnNames (names_at m.places) →
    StaysNew (turn_of n cancelled_from now here m)
unfolding turn_of
turn_new zero cancelled_from now here m h own = record { frames = h; stop = tt; own = own; begun = tt }
turn_new (suc n) cancelled_from now here m h own =
    let o = step_of cancelled_from now here m in
    let one : StaysNew o = step_stays_new cancelled_from now here m h own in
    then_new o.stopped o (turn_of n (cancelled_from_after cancelled_from o.made) (now_after here.clock now o.made) here (after_move m o)) refl one
    (λ e. turn_new n (cancelled_from_after cancelled_from o.made) (now_after here.clock now o.made) here (after_move m o) (not_stopped o e one.frames) one.own)

-- a whole turn keeps it
pub turn_stays_new : (n : ℕ) (now : Now) (here : Here) (cancelled_from : Table) (w : Wake) (rest : Rest) (ps : List Place) (count : ℕ) →
    CanWake w rest.stopped →
    NewIn rest.frames (outer_places (Some rest.stopped) ps) → NewStop (Some rest.stopped) ps → OwnNames (names_at ps) →
    StaysNew (turn_from n cancelled_from now here w rest.stopped rest.frames ps count)
unfolding turn_from
turn_stays_new n now here cancelled_from w rest ps count c h z own =
    let o = wake_of cancelled_from now here w rest.stopped rest.frames ps in
    let one : StaysNew o = wake_new cancelled_from now here c rest.frames ps h z own in
    then_new o.stopped o _ refl one
    (λ e. turn_new n (cancelled_from_after cancelled_from o.made) (now_after here.clock now o.made) here (record {
      frames = o.frames;
      places = o.places;
      exc = o.exc;
      count =
          count + length o.begun;
    }) (not_stopped o e one.frames) one.own)
