-- Each step of a turn leaves the result of the task unchanged.
use Rattle.std.proofs.Common.{◌≡◌, ℕ, zero, suc, ◌+◌, ◌-◌, ◌<◌, Bool, true, false, IsTrue, ◌⊎◌, inl, inr, Option, Some, None, List, [], ◌∷◌, ◌++◌, refl, ap, sym, ◌∙◌, subst, append_assoc, nat_lt, arith}
use Rattle.std.proofs.lemmas.Bool.Decides.{nat_tests}
use Rattle.job_tree.specs.Tree.{Step, sleep, checkpoint, forever, pace, find, head, longest, need, raise, cancel, set_event, wait_for, ask_for, close_channel, scope, nursery, event, object, start, repeat, attempt, Steps, stop, step, Handled, unhandled, except, Cleaned, uncleaned, finally}
use Rattle.job_tree.specs.Starting.{StartsIn, StartsAt}
use Rattle.input_lines.specs.Lines.{Range, Span}
use Rattle.input_lines.specs.Cuts.{cut_of}
use Rattle.input_lines.specs.Kernels.{needed_in}
use Rattle.exceptions.specs.Exceptions.{Label, Exc, cancelled}
use Rattle.exceptions.specs.Split.{named, keep, drop}
use Rattle.cancel_scopes.specs.Sight.{Level, seen}
use Rattle.job_meaning.specs.Log.{Log, Member, Result, Table}
use Rattle.job_meaning.specs.Moments.{tick_of, a_round_after, Now, only_at, far}
use Rattle.job_meaning.specs.declared.clock.Clock.{Clock}
use Rattle.job_meaning.specs.declared.clock.Clock.TheVariants.{ByTicks as by_ticks, ByRounds as by_rounds}
use Rattle.job_meaning.specs.Walk.{Mode, Here, walk, walk_step, and_then, then_if, in_sequence, now_of, part_in_pass, in_pass, passes, child, label_on, event_on, event_wait, cancel_result, set_result, sign_of, sign_if, home_of, with_sign, here_in, label_here, label_over, Kind, a_scope, left_with, done_at, need_result, raise_result, raised_at, with_own}
use Rattle.job_meaning.specs.Rest.{Event, starts, starts_over, consecutive, fill, ChildOutcomes, outcome_members, Frame, steps_left, in_scope, in_event, with_token, with_part, in_nursery, in_repeat, in_try, in_handler, in_cleanup, path_in, part_in, inside, with_children, leaving_log, block_left, wait_result, finish}
use Rattle.job_meaning.specs.Asking.{one_line, needs, answer_result}
use Rattle.job_meaning.proofs.Clips.{followed_nil}
use Rattle.job_meaning.proofs.Finish.{after, finish_after, finish_begin, finish_stop, finish_step, finish_raised, finish_scope, finish_event, finish_leave_event, finish_nursery, finish_children, just_started, each_started, finish_try, finish_handler, finish_unhandled, finish_no_handler, finish_uncleaned, finish_cleanup, finish_handled, finish_cleaned, finish_leave, finish_wait, finish_no_pass, finish_first_pass, finish_next_pass, finish_last_pass, finish_raised_pass}
use Rattle.turn_semantics.specs.Midway.{Place, Tables, by_tables, label_among, stack_at, Midway, Begun, Move, own_after, OwnFits, now_after, so_far, after_events, going_to, left_after, left_of, no_outcomes, begun_comes_to}
use Rattle.turn_semantics.specs.Steps.{onward, makes, falls_asleep, sleeps, signs_to, waits_on, home_among, signs_home, with_started, begun_one, begun_over, step_on, step_steps, leaves, handler_if, step_try, step_frames, step_of, begins_passes, step_pass}
use Rattle.turn_semantics.specs.Placed.{in_body, Placed}
use Rattle.turn_semantics.specs.Turned.{AgreesOn, AreOutcomes}
use Rattle.turn_semantics.proofs.Agreeing.{seen_alike, catches_alike, scope_at_places, event_at_places, home_at_places, label_of, event_found, slept, sleep_seen, sleep_none}
use Rattle.turn_semantics.proofs.Events.{own_append}
use Rattle.turn_semantics.proofs.Queued.{keeps_ask, keeps_close, keeps_object, keeps_token, keeps_part}
use Rattle.turn_semantics.proofs.Passes.{loop_body}

-- ---- the log of what a step makes

fill_signs_to : (outcomes : ChildOutcomes) (o : Option Label) (t : ℕ) → fill outcomes (signs_to o t) ≡ sign_of o t
fill_signs_to outcomes None t = refl
fill_signs_to outcomes (Some l) t = refl

fill_home : (outcomes : ChildOutcomes) (table : Table) (e : Option Exc) (ps : List Place) (t : ℕ) →
    fill outcomes (signs_home e ps t) ≡ sign_if e (home_of (stack_at table ps).scopes) t
fill_home outcomes table None ps t = refl
fill_home outcomes table (Some e) ps t =
    fill_signs_to outcomes (home_among ps) t ∙ ap (λ (o : Option Label). sign_of o t) (sym (home_at_places table ps))

-- what a task has cancelled in this moment after a `cancel`
own_signed : (clock : Clock) (own : List Label) (o : Option Label) (t : ℕ) → with_own clock o own ≡ own_after clock own (signs_to o t)
own_signed by_ticks own None t = refl
own_signed by_ticks own (Some l) t = refl
own_signed by_rounds own None t = refl
own_signed by_rounds own (Some l) t = refl

-- and after a `start .. over`
own_started : (clock : Clock) (own : List Label) (name : List ℕ) (here : Here) (t first k : ℕ) →
    own ≡ own_after clock own (starts_over name here t first k)
own_started clock own name here t first zero = refl
own_started clock own name here t first (suc k) =
    own_started clock own name here t first k
    ∙ sym (own_append clock (starts_over name here t first k) (starts (first + k) (label_over name here k) t ∷ []) own)

-- a child's whole walk, as its starter's has it
pub begun_walk : (table : Tables) (t : ℕ) (b : Begun) →
    begun_comes_to table t b ≡ with_sign (stack_at table.cancelled_from b.places) (walk (by_tables table) b.body b.here (stack_at table.cancelled_from b.places) (only_at t))
begun_walk table t b = finish_begin (by_tables table) no_outcomes b.body b.here (stack_at table.cancelled_from b.places) (only_at t)

-- what is recorded of children is recorded of the first of them
pub outcomes_of_first : (t : ℕ) (table : Tables) (outcomes : ChildOutcomes) (bs cs : List Begun) → AreOutcomes t table outcomes (bs ++ cs) → AreOutcomes t table outcomes bs
outcomes_of_first t table outcomes [] cs h = tt
outcomes_of_first t table outcomes (b ∷ bs) cs h = (h.0, outcomes_of_first t table outcomes bs cs h.1)

-- and of the others
pub outcomes_of_second : (t : ℕ) (table : Tables) (outcomes : ChildOutcomes) (bs cs : List Begun) → AreOutcomes t table outcomes (bs ++ cs) → AreOutcomes t table outcomes cs
outcomes_of_second t table outcomes [] cs h = h
outcomes_of_second t table outcomes (b ∷ bs) cs h = outcomes_of_second t table outcomes bs cs h.1

-- a number below the next of k is k, or below it
pub last_or_before : (i k : ℕ) → i < suc k → (i ≡ k) ⊎ (i < k)
last_or_before i k lt = by_order (nat_lt i k) refl
  where
    by_order : (b : Bool) → nat_lt i k ≡ b → (i ≡ k) ⊎ (i < k)
    by_order true e = inr (grind (arith, nat_tests))
    by_order false e = inl (grind (arith, nat_tests))

-- ---- children that were started

-- the results of children come first, whatever follows
children_and_then : (ms : List Member) (r : Result) (go : Now → Result) → and_then (with_children ms r) go ≡ with_children ms (and_then r go)
unfolding and_then
children_and_then ms r go = by_exc r.exc
  where
    by_exc : (o : Option Exc) → then_if o (with_children ms r) go ≡ with_children ms (then_if o r go)
    by_exc None =
        ap (λ (x : List Member). record (in_sequence r (go (now_of r))) { members = x }) (append_assoc ms r.members (go (now_of r)).members)
    by_exc (Some e) = refl

-- a task is where it was when its nursery has more children
path_started : (more : List ℕ) (fs : List Frame) (path : List ℕ) → path_in (with_started more fs) path ≡ path_in fs path
path_started more [] path = refl
path_started more (in_nursery children ∷ fs) path = refl
path_started more (steps_left ss ∷ fs) path = path_started more fs path
path_started more (in_scope fail ∷ fs) path = refl
path_started more (in_event ∷ fs) path = refl
path_started more (with_token limiter ∷ fs) path = refl
path_started more (with_part received ∷ fs) path = refl
path_started more (in_repeat pass left cuts again ∷ fs) path = ap (λ (x : List ℕ). x ++ pass ∷ []) (path_started more fs path)
path_started more (in_try handler cleanup ∷ fs) path = refl
path_started more (in_handler rest cleanup ∷ fs) path = refl
path_started more (in_cleanup outcome ∷ fs) path = refl

-- and on the same part
part_started : (more : List ℕ) (fs : List Frame) (input : List ℕ) (part : Range) → part_in input (with_started more fs) part ≡ part_in input fs part
part_started more [] input part = refl
part_started more (in_nursery children ∷ fs) input part = refl
part_started more (steps_left ss ∷ fs) input part = part_started more fs input part
part_started more (in_scope fail ∷ fs) input part = refl
part_started more (in_event ∷ fs) input part = refl
part_started more (with_token limiter ∷ fs) input part = refl
part_started more (with_part received ∷ fs) input part = refl
part_started more (in_repeat pass left cuts again ∷ fs) input part =
    ap (λ (r : Range). part_in_pass input cuts pass r) (part_started more fs input part)
part_started more (in_try handler cleanup ∷ fs) input part = refl
part_started more (in_handler rest cleanup ∷ fs) input part = refl
part_started more (in_cleanup outcome ∷ fs) input part = refl

inside_started : (more : List ℕ) (fs : List Frame) (here : Here) → inside (with_started more fs) here ≡ inside fs here
inside_started more fs here =
    ap (λ (x : List ℕ). record here { part = part_in here.input (with_started more fs) here.part; path = x }) (path_started more fs here.path)
    ∙ ap (λ (r : Range). record here { part = r; path = path_in fs here.path }) (part_started more fs here.input here.part)

-- a place, with what is known of its kind
pub of_kind : (p : Place) (b : Bool) → p.is_event ≡ b → p ≡ record { label = p.label; shield = p.shield; is_event = b }
of_kind p b e = ap as_kind e
  where
    as_kind : Bool → Place
    as_kind x = record { label = p.label; shield = p.shield; is_event = x }

-- children that were started in a nursery's body, perhaps in passes there, are among those of the nursery
finish_with : (fs : List Frame) (m : Mode) (outcomes : ChildOutcomes) (more : List ℕ) (here : Here) (table : Table) (ps : List Place) (r : Result) →
    IsTrue (in_body fs) → Placed fs ps →
    finish m outcomes fs here (stack_at table ps) (with_children (outcome_members outcomes more) r)
    ≡ finish m outcomes (with_started more fs) here (stack_at table ps) r
unfolding finish
finish_with (in_nursery children ∷ fs) m outcomes more here table (p ∷ ps) r b w =
    subst (λ (q : Place). finish m outcomes (in_nursery children ∷ fs) here (stack_at table (q ∷ ps)) (with_children (outcome_members outcomes more) r)
    ≡ finish m outcomes (in_nursery (children ++ more) ∷ fs) here (stack_at table (q ∷ ps)) r) (sym (of_kind p false w.0))
    (sym (finish_children fs m outcomes children more here (record { label = p.label; shield = p.shield; from = table p.label }) (stack_at table ps) r))
finish_with (steps_left ss ∷ fs) m outcomes more here table ps r b w =
    ap (λ (x : Result). finish m outcomes fs here (stack_at table ps) x)
    (children_and_then (outcome_members outcomes more) r (λ u. walk m ss (inside fs here) (stack_at table ps) u))
    ∙ (finish_with fs m outcomes more here table ps (and_then r (λ u. walk m ss (inside fs here) (stack_at table ps) u)) b w.1
    ∙ ap (λ (at : Here). finish m outcomes (with_started more fs) here (stack_at table ps) (and_then r (λ u. walk m ss at (stack_at table ps) u)))
    (sym (inside_started more fs here)))
finish_with (in_repeat pass left cuts again ∷ fs) m outcomes more here table ps r b w =
    ap (λ (x : Result). finish m outcomes fs here (stack_at table ps) x)
    (children_and_then (outcome_members outcomes more) r (λ u. passes (suc pass) left (λ i v. walk m again (in_pass cuts i (inside fs here)) (stack_at table ps) v) u))
    ∙ (finish_with fs m outcomes more here table ps
    (and_then r (λ u. passes (suc pass) left (λ i v. walk m again (in_pass cuts i (inside fs here)) (stack_at table ps) v) u)) (loop_body cuts (in_body fs) b) w.1
    ∙ ap (λ (at : Here). finish m outcomes (with_started more fs) here (stack_at table ps)
    (and_then r (λ u. passes (suc pass) left (λ i v. walk m again (in_pass cuts i at) (stack_at table ps) v) u)))
    (sym (inside_started more fs here)))
finish_with (in_nursery children ∷ fs) m outcomes more here table [] r b w = absurd w
finish_with [] m outcomes more here table ps r b w = absurd (cc)
finish_with (in_scope fail ∷ fs) m outcomes more here table ps r b w = absurd (cc)
finish_with (in_event ∷ fs) m outcomes more here table ps r b w = absurd (cc)
finish_with (with_token limiter ∷ fs) m outcomes more here table ps r b w = absurd (cc)
finish_with (with_part received ∷ fs) m outcomes more here table ps r b w = absurd (cc)
finish_with (in_try handler cleanup ∷ fs) m outcomes more here table ps r b w = absurd (cc)
finish_with (in_handler rest cleanup ∷ fs) m outcomes more here table ps r b w = absurd (cc)
finish_with (in_cleanup outcome ∷ fs) m outcomes more here table ps r b w = absurd (cc)

-- in a world with these moments of cancellation, and by a table that agrees with them
module _ (table : Tables) (cancelled_from : Table) (outcomes : ChildOutcomes) (now : Now) (here : Here) where
  -- the move leaves the result of the task unchanged
  abbrev pub Keeps : List Frame → List Place → Option Exc → Move → Type 0
  Keeps fs ps exc o = going_to table outcomes here now fs ps exc ≡ after_events outcomes o.made (left_after table outcomes here now o)

  -- a step that opens no frame, by its result
  first_step : (s : Step) (ss : Steps) (fs : List Frame) (ps : List Place) (r : Result) →
      walk_step (by_tables table) s (inside fs here) (stack_at table.cancelled_from ps) now ≡ r →
      going_to table outcomes here now (steps_left (step s ss) ∷ fs) ps None
      ≡ finish (by_tables table) outcomes (steps_left ss ∷ fs) here (stack_at table.cancelled_from ps) r
  first_step s ss fs ps r e =
      finish_step fs (by_tables table) outcomes s ss here (stack_at table.cancelled_from ps) now
      ∙ ap (λ (x : Result). finish (by_tables table) outcomes (steps_left ss ∷ fs) here (stack_at table.cancelled_from ps) x) e

  -- what is left with a sleep to come
  pub keeps_sleeps : (paced : Bool) (n : ℕ) (fs : List Frame) (ps : List Place) → OwnFits here.clock now.own → AgreesOn now.at table.cancelled_from cancelled_from ps →
      finish (by_tables table) outcomes fs here (stack_at table.cancelled_from ps) (slept paced here.clock (stack_at table.cancelled_from ps) n now.at)
      ≡ after_events outcomes (sleeps here.clock cancelled_from paced n now.at fs ps).made
      (left_after table outcomes here now (sleeps here.clock cancelled_from paced n now.at fs ps))
  keeps_sleeps paced n fs ps own a =
      by_clock here.clock refl own (seen (stack_at cancelled_from ps).scopes now.at) (seen_alike now.at table.cancelled_from cancelled_from ps a) paced n
    where
      at_own : List Label → Now
      at_own ls = record { at = now.at; own = ls }

      nothing_own : now.own ≡ [] → only_at now.at ≡ now
      nothing_own e = ap at_own (sym e)

      by_clock : (clock : Clock) → here.clock ≡ clock → OwnFits clock now.own → (b : Bool) → seen (stack_at table.cancelled_from ps).scopes now.at ≡ b →
          (paced : Bool) (n : ℕ) →
          finish (by_tables table) outcomes fs here (stack_at table.cancelled_from ps) (slept paced here.clock (stack_at table.cancelled_from ps) n now.at)
          ≡ after_events outcomes (falls_asleep clock b paced n now.at fs ps).made
          (left_after table outcomes here now (falls_asleep clock b paced n now.at fs ps))
      by_clock by_ticks c own true e paced n =
          ap (λ (x : Result). finish (by_tables table) outcomes fs here (stack_at table.cancelled_from ps) x)
          (ap (λ (x : Clock). slept paced x (stack_at table.cancelled_from ps) n now.at) c ∙ sleep_seen paced (stack_at table.cancelled_from ps) n now.at e
          ∙ ap (λ (x : Now). raised_at cancelled x) (nothing_own own))
      by_clock by_ticks c own false e paced zero =
          ap (λ (x : Result). finish (by_tables table) outcomes fs here (stack_at table.cancelled_from ps) x)
          (ap (λ (x : Clock). slept paced x (stack_at table.cancelled_from ps) 0 now.at) c ∙ sleep_none paced (stack_at table.cancelled_from ps) now.at e
          ∙ ap (λ (x : Now). done_at x) (nothing_own own))
      by_clock by_ticks c own false e false (suc n) = refl
      by_clock by_ticks c own false e true (suc n) = refl
      by_clock by_rounds c own b e false n = refl
      by_clock by_rounds c own b e true n = refl

  -- a sleep
  keeps_sleep : (s : Step) (n : ℕ) (ss : Steps) (fs : List Frame) (ps : List Place) →
      walk_step (by_tables table) s (inside fs here) (stack_at table.cancelled_from ps) now ≡ slept false here.clock (stack_at table.cancelled_from ps) n now.at →
      OwnFits here.clock now.own → AgreesOn now.at table.cancelled_from cancelled_from ps →
      Keeps (steps_left (step s ss) ∷ fs) ps None (sleeps here.clock cancelled_from false n now.at (steps_left ss ∷ fs) ps)
  keeps_sleep s n ss fs ps e own a =
      first_step s ss fs ps (slept false here.clock (stack_at table.cancelled_from ps) n now.at) e ∙ keeps_sleeps false n (steps_left ss ∷ fs) ps own a

  -- a step that signs for a label that it finds
  keeps_sign : (s : Step) (found o : Option Label) (ss : Steps) (fs : List Frame) (ps : List Place) →
      walk_step (by_tables table) s (inside fs here) (stack_at table.cancelled_from ps) now
      ≡ record { end = now.at; own = with_own here.clock found now.own; exc = None; members = []; log = sign_of found now.at } →
      found ≡ o → Keeps (steps_left (step s ss) ∷ fs) ps None (makes (signs_to o now.at) (steps_left ss ∷ fs) ps)
  keeps_sign s found o ss fs ps w e =
      first_step s ss fs ps (after (fill outcomes made) (done_at (now_after here.clock now made)))
      (w ∙ both (ap (λ (x : Option Label). with_own here.clock x now.own) e ∙ own_signed here.clock now.own o now.at)
      (ap (λ (x : Option Label). sign_of x now.at) e ∙ sym (fill_signs_to outcomes o now.at) ∙ sym (followed_nil (fill outcomes made))))
      ∙ finish_after (steps_left ss ∷ fs) (fill outcomes made) (by_tables table) outcomes here (stack_at table.cancelled_from ps)
      (done_at (now_after here.clock now made))
    where
      made : List Event
      made = signs_to o now.at

      both : {ls ms : List Label} {x y : Log} → ls ≡ ms → x ≡ y →
          ◌≡◌ {A = Result} (record { end = now.at; own = ls; exc = None; members = []; log = x })
          (record { end = now.at; own = ms; exc = None; members = []; log = y })
      both e f = cc

  -- a `cancel`
  keeps_cancel : (name : List ℕ) (ss : Steps) (fs : List Frame) (ps : List Place) →
      Keeps (steps_left (step (cancel name) ss) ∷ fs) ps None (makes (signs_to (label_among false name ps) now.at) (steps_left ss ∷ fs) ps)
  unfolding walk cancel_result
  keeps_cancel name ss fs ps =
      keeps_sign (cancel name) (label_on name (stack_at table.cancelled_from ps).scopes) (label_among false name ps) ss fs ps refl (scope_at_places table.cancelled_from name ps)

  -- a `set`
  keeps_set : (name : List ℕ) (ss : Steps) (fs : List Frame) (ps : List Place) →
      Keeps (steps_left (step (set_event name) ss) ∷ fs) ps None (makes (signs_to (label_among true name ps) now.at) (steps_left ss ∷ fs) ps)
  unfolding walk set_result
  keeps_set name ss fs ps =
      keeps_sign (set_event name) (label_on name (stack_at table.cancelled_from ps).events) (label_among true name ps) ss fs ps refl (event_at_places table.cancelled_from name ps)

  -- a wait for an event begins, if there is one
  wait_begins : (name : List ℕ) (fs : List Frame) (ps : List Place) (o : Option Label) (l : Option (Level Label)) →
      event_on name (stack_at table.cancelled_from ps).events ≡ l → label_of l ≡ o →
      finish (by_tables table) outcomes fs here (stack_at table.cancelled_from ps) (event_wait here.clock (stack_at table.cancelled_from ps) (event_on name (stack_at table.cancelled_from ps).events) now)
      ≡ after_events outcomes (waits_on o name now.at fs ps).made (left_after table outcomes here now (waits_on o name now.at fs ps))
  unfolding event_wait
  wait_begins name fs ps None None e f =
      ap (λ (x : Option (Level Label)). finish (by_tables table) outcomes fs here (stack_at table.cancelled_from ps) (event_wait here.clock (stack_at table.cancelled_from ps) x now)) e
  wait_begins name fs ps (Some m) (Some l) e f =
      ap (λ (x : Option (Level Label)). finish (by_tables table) outcomes fs here (stack_at table.cancelled_from ps) (event_wait here.clock (stack_at table.cancelled_from ps) x now)) e
      ∙ sym (ap (λ (x : Option (Level Label)). finish (by_tables table) outcomes fs here (stack_at table.cancelled_from ps)
      (event_wait here.clock (stack_at table.cancelled_from ps) x (only_at now.at))) e)
  wait_begins name fs ps None (Some l) e f = absurd (cc)
  wait_begins name fs ps (Some m) None e f = absurd (cc)

  keeps_waits : (name : List ℕ) (ss : Steps) (fs : List Frame) (ps : List Place) →
      Keeps (steps_left (step (wait_for name) ss) ∷ fs) ps None (waits_on (label_among true name ps) name now.at (steps_left ss ∷ fs) ps)
  unfolding walk
  keeps_waits name ss fs ps =
      finish_step fs (by_tables table) outcomes (wait_for name) ss here (stack_at table.cancelled_from ps) now
      ∙ wait_begins name (steps_left ss ∷ fs) ps (label_among true name ps) (event_on name (stack_at table.cancelled_from ps).events) refl (event_found table.cancelled_from name ps)

  -- children of a `start .. over` are recorded by their numbers
  outcomes_of_copies : (at : Here) (name : List ℕ) (of : ℕ) (body : Steps) (ps : List Place) (first k : ℕ) →
      AreOutcomes (a_round_after here.clock now.at) table outcomes (begun_over name at of body ps first k) →
      (i : ℕ) → i < k →
      outcomes (first + i)
      ≡ with_sign (stack_at table.cancelled_from ps) (walk (by_tables table) body (here_in (label_over name at i) (cut_of at.input at.part of i) at)
      (stack_at table.cancelled_from ps) (only_at (a_round_after here.clock now.at)))
  outcomes_of_copies at name of body ps first zero h i lt = absurd (omega arith)
  outcomes_of_copies at name of body ps first (suc k) h i lt =
      by_last (last_or_before i k lt) (λ l. outcomes_of_copies at name of body ps first k (outcomes_of_first (a_round_after here.clock now.at) table outcomes front (one ∷ []) h) i l)
    where
      front : List Begun
      front = begun_over name at of body ps first k

      one : Begun
      one = begun_one (first + k) (here_in (label_over name at k) (cut_of at.input at.part of k) at) body ps

      Tells : ℕ → Type 0
      Tells i =
          outcomes (first + i)
          ≡ with_sign (stack_at table.cancelled_from ps) (walk (by_tables table) body (here_in (label_over name at i) (cut_of at.input at.part of i) at)
          (stack_at table.cancelled_from ps) (only_at (a_round_after here.clock now.at)))

      by_last : (i ≡ k) ⊎ (i < k) → (i < k → Tells i) → Tells i
      by_last (inl e) more = subst Tells (sym e) ((outcomes_of_second (a_round_after here.clock now.at) table outcomes front (one ∷ []) h).0 ∙ begun_walk table (a_round_after here.clock now.at) one)
      by_last (inr l) more = more l

  -- the steps after children that were started
  goes_started : (ss : Steps) (fs : List Frame) (ps : List Place) (more : List ℕ) (a : Log) → IsTrue (in_body fs) → Placed fs ps →
      finish (by_tables table) outcomes (steps_left ss ∷ fs) here (stack_at table.cancelled_from ps) (just_started outcomes more a now)
      ≡ after a (finish (by_tables table) outcomes (steps_left ss ∷ with_started more fs) here (stack_at table.cancelled_from ps) (done_at now))
  unfolding finish and_then
  goes_started ss fs ps more a b w =
      finish_with fs (by_tables table) outcomes more here table.cancelled_from ps (after a (walk (by_tables table) ss (inside fs here) (stack_at table.cancelled_from ps) now)) b w
      ∙ (finish_after (with_started more fs) a (by_tables table) outcomes here (stack_at table.cancelled_from ps)
      (walk (by_tables table) ss (inside fs here) (stack_at table.cancelled_from ps) now)
      ∙ ap (λ (at : Here). after a (finish (by_tables table) outcomes (with_started more fs) here (stack_at table.cancelled_from ps)
      (walk (by_tables table) ss at (stack_at table.cancelled_from ps) now))) (sym (inside_started more fs here)))

  -- a child, or several, are started
  keeps_start : (name : List ℕ) (over : Option ℕ) (body ss : Steps) (fs : List Frame) (ps : List Place) (count : ℕ) → IsTrue (in_body fs) →
      Placed fs ps →
      AreOutcomes (a_round_after here.clock now.at) table outcomes (step_on cancelled_from now (inside fs here) (start name over body) ss fs ps count).begun →
      Keeps (steps_left (step (start name over body) ss) ∷ fs) ps None
      (step_on cancelled_from now (inside fs here) (start name over body) ss fs ps count)
  unfolding walk child
  keeps_start name None body ss fs ps count b w h =
      finish_step fs (by_tables table) outcomes (start name None body) ss here (stack_at table.cancelled_from ps) now
      ∙ (ap (λ (r : Result). finish (by_tables table) outcomes (steps_left ss ∷ fs) here (stack_at table.cancelled_from ps)
      (child (label_here name (inside fs here)) (a_round_after here.clock now.at) r now))
      (sym (h.0 ∙ begun_walk table (a_round_after here.clock now.at) (begun_one count (here_in (label_here name (inside fs here)) (inside fs here).part here) body ps)))
      ∙ goes_started ss fs ps (count ∷ []) (fill outcomes (starts count (label_here name (inside fs here)) (a_round_after here.clock now.at) ∷ [])) b w)
  keeps_start name (Some k) body ss fs ps count b w h =
      finish_step fs (by_tables table) outcomes (start name (Some k) body) ss here (stack_at table.cancelled_from ps) now
      ∙ (ap (λ (r : Result). finish (by_tables table) outcomes (steps_left ss ∷ fs) here (stack_at table.cancelled_from ps) r)
      (each_started outcomes name (inside fs here) (a_round_after here.clock now.at) now count k (λ i. with_sign (stack_at table.cancelled_from ps)
      (walk (by_tables table) body (here_in (label_over name (inside fs here) i) (cut_of here.input (inside fs here).part k i) here) (stack_at table.cancelled_from ps)
      (only_at (a_round_after here.clock now.at)))) (outcomes_of_copies (inside fs here) name k body ps count k h))
      ∙ (goes_started ss fs ps (consecutive count k) (fill outcomes made) b w
      ∙ ap (λ (own : List Label). after (fill outcomes made)
      (finish (by_tables table) outcomes (steps_left ss ∷ with_started (consecutive count k) fs) here (stack_at table.cancelled_from ps)
      (done_at (record { at = now.at; own = own })))) (own_started here.clock now.own name (inside fs here) (a_round_after here.clock now.at) count k)))
    where
      made : List Event
      made = starts_over name (inside fs here) (a_round_after here.clock now.at) count k

  -- `need` asks for a line
  keeps_need : (o : Option Span) (name : List ℕ) (ss : Steps) (fs : List Frame) (ps : List Place) →
      finish (by_tables table) outcomes (steps_left ss ∷ fs) here (stack_at table.cancelled_from ps) (need_result o name (inside fs here) now)
      ≡ finish (by_tables table) outcomes (steps_left ss ∷ fs) here (stack_at table.cancelled_from ps)
      (answer_result (one_line o) (needs name) here (stack_at table.cancelled_from ps) now)
  unfolding need_result raise_result
  keeps_need None name ss fs ps = refl
  keeps_need (Some l) name ss fs ps = refl

  -- the first pass of a `repeat`
  keeps_passes : (n : ℕ) (over : Bool) (body ss : Steps) (fs : List Frame) (ps : List Place) →
      Keeps (steps_left (step (repeat n over body) ss) ∷ fs) ps None (begins_passes n over body (steps_left ss ∷ fs) ps)
  keeps_passes zero over body ss fs ps = finish_no_pass fs (by_tables table) outcomes over body ss here (stack_at table.cancelled_from ps) now
  keeps_passes (suc k) over body ss fs ps = finish_first_pass fs (by_tables table) outcomes k over body ss here (stack_at table.cancelled_from ps) now

  -- a pass has ended
  keeps_pass : (pass left : ℕ) (cuts : Option ℕ) (body : Steps) (fs : List Frame) (ps : List Place) (exc : Option Exc) →
      Keeps (in_repeat pass left cuts body ∷ fs) ps exc (step_pass pass left cuts body fs ps exc)
  keeps_pass pass left cuts body fs ps (Some e) =
      finish_raised_pass fs (by_tables table) outcomes pass left cuts body here (stack_at table.cancelled_from ps) (so_far (Some e) now) e
  keeps_pass pass zero cuts body fs ps None = finish_last_pass fs (by_tables table) outcomes pass cuts body here (stack_at table.cancelled_from ps) now
  keeps_pass pass (suc k) cuts body fs ps None = finish_next_pass fs (by_tables table) outcomes pass k cuts body here (stack_at table.cancelled_from ps) now

  -- each kind of step
  keeps_step : (s : Step) (ss : Steps) (fs : List Frame) (ps : List Place) (count : ℕ) → OwnFits here.clock now.own → AgreesOn now.at table.cancelled_from cancelled_from ps →
      StartsAt (in_body fs) s → Placed fs ps →
      AreOutcomes (a_round_after here.clock now.at) table outcomes (step_on cancelled_from now (inside fs here) s ss fs ps count).begun →
      Keeps (steps_left (step s ss) ∷ fs) ps None (step_on cancelled_from now (inside fs here) s ss fs ps count)
  unfolding walk raise_result
  keeps_step (sleep n) ss fs ps count own a b w h = keeps_sleep (sleep n) n ss fs ps refl own a
  keeps_step checkpoint ss fs ps count own a b w h = keeps_sleep checkpoint 0 ss fs ps refl own a
  keeps_step forever ss fs ps count own a b w h = keeps_sleep forever (far - tick_of here.clock now.at) ss fs ps refl own a
  keeps_step (pace k) ss fs ps count own a b w h = finish_step fs (by_tables table) outcomes (pace k) ss here (stack_at table.cancelled_from ps) now
  keeps_step (find text) ss fs ps count own a b w h = finish_step fs (by_tables table) outcomes (find text) ss here (stack_at table.cancelled_from ps) now
  keeps_step (head n) ss fs ps count own a b w h = finish_step fs (by_tables table) outcomes (head n) ss here (stack_at table.cancelled_from ps) now
  keeps_step longest ss fs ps count own a b w h = finish_step fs (by_tables table) outcomes longest ss here (stack_at table.cancelled_from ps) now
  keeps_step (need text name) ss fs ps count own a b w h =
      finish_step fs (by_tables table) outcomes (need text name) ss here (stack_at table.cancelled_from ps) now
      ∙ keeps_need (needed_in here.input text (inside fs here).part) name ss fs ps
  keeps_step (raise name) ss fs ps count own a b w h = finish_step fs (by_tables table) outcomes (raise name) ss here (stack_at table.cancelled_from ps) now
  keeps_step (cancel name) ss fs ps count own a b w h = keeps_cancel name ss fs ps
  keeps_step (set_event name) ss fs ps count own a b w h = keeps_set name ss fs ps
  keeps_step (wait_for name) ss fs ps count own a b w h = keeps_waits name ss fs ps
  keeps_step (ask_for name ask body) ss fs ps count own a b w h = keeps_ask table outcomes now here cancelled_from name ask body ss fs ps own a
  keeps_step (close_channel name) ss fs ps count own a b w h = keeps_close table outcomes now here name ss fs ps
  keeps_step (scope name d shield fail body) ss fs ps count own a b w h =
      finish_scope fs table.cancelled_from table.granted outcomes name d shield fail body ss here (stack_at table.cancelled_from ps) now
  keeps_step (nursery name d shield body) ss fs ps count own a b w h =
      finish_nursery fs table.cancelled_from table.granted outcomes name d shield body ss here (stack_at table.cancelled_from ps) now
  keeps_step (event name body) ss fs ps count own a b w h =
      finish_event fs table.cancelled_from table.granted outcomes name body ss here (stack_at table.cancelled_from ps) now
  keeps_step (object name kind body) ss fs ps count own a b w h = keeps_object table outcomes now here name kind body ss fs ps
  keeps_step (start name over body) ss fs ps count own a b w h = keeps_start name over body ss fs ps count b.0 w h
  keeps_step (repeat n over body) ss fs ps count own a b w h = keeps_passes n over body ss fs ps
  keeps_step (attempt body handler cleanup) ss fs ps count own a b w h =
      finish_try fs (by_tables table) outcomes body handler cleanup ss here (stack_at table.cancelled_from ps) now

  -- steps of a block
  keeps_steps : (ss : Steps) (fs : List Frame) (ps : List Place) (exc : Option Exc) (count : ℕ) → OwnFits here.clock now.own → AgreesOn now.at table.cancelled_from cancelled_from ps →
      StartsIn (in_body fs) ss → Placed fs ps →
      AreOutcomes (a_round_after here.clock now.at) table outcomes (step_steps cancelled_from now here ss fs ps exc count).begun →
      Keeps (steps_left ss ∷ fs) ps exc (step_steps cancelled_from now here ss fs ps exc count)
  keeps_steps ss fs ps (Some e) count own a b w h = finish_raised fs (by_tables table) outcomes ss here (stack_at table.cancelled_from ps) (so_far (Some e) now) e
  keeps_steps stop fs ps None count own a b w h = finish_stop fs (by_tables table) outcomes here (stack_at table.cancelled_from ps) now
  keeps_steps (step s ss) fs ps None count own a b w h = keeps_step s ss fs ps count own a b.0 w h

  -- a block is left, whatever made it end
  pub block_leaves : (kind : Kind) (fs : List Frame) (p : Place) (ps : List Place) (exc : Option Exc) → AgreesOn now.at table.cancelled_from cancelled_from (p ∷ ps) →
      finish (by_tables table) outcomes fs here (stack_at table.cancelled_from ps) (block_left here.clock kind
      (record { label = p.label; shield = p.shield; from = table.cancelled_from p.label }) (stack_at table.cancelled_from ps).scopes (so_far exc now))
      ≡ after_events outcomes (leaves here.clock cancelled_from now kind fs p ps exc).made (left_after table outcomes here now (leaves here.clock cancelled_from now kind fs p ps exc))
  block_leaves kind fs p ps exc a =
      ap (λ (b : Bool). finish (by_tables table) outcomes fs here (stack_at table.cancelled_from ps)
      (leaving_log here.clock kind p.label (left_with b exc) (so_far exc now))) (catches_alike now.own now.at table.cancelled_from cancelled_from p ps a)
      ∙ finish_after fs (fill outcomes (leaves here.clock cancelled_from now kind fs p ps exc).made) (by_tables table) outcomes here (stack_at table.cancelled_from ps)
      (so_far (leaves here.clock cancelled_from now kind fs p ps exc).exc now)

  -- the body of a `try` has ended
  keeps_try : (handler : Handled) (cleanup : Cleaned) (fs : List Frame) (ps : List Place) (exc : Option Exc) →
      Keeps (in_try handler cleanup ∷ fs) ps exc (step_try handler cleanup fs ps exc)
  keeps_try unhandled uncleaned fs ps exc = finish_uncleaned fs (by_tables table) outcomes here (stack_at table.cancelled_from ps) (so_far exc now)
  keeps_try unhandled (finally body) fs ps exc = finish_cleanup fs (by_tables table) outcomes body here (stack_at table.cancelled_from ps) (so_far exc now)
  keeps_try (except name body) cleanup fs ps None =
      finish_no_handler fs (by_tables table) outcomes (except name body) cleanup here (stack_at table.cancelled_from ps) (so_far None now)
  keeps_try (except name body) cleanup fs ps (Some e) = by_match (keep (named name) e) refl
    where
      by_match : (o : Option Exc) → keep (named name) e ≡ o →
          Keeps (in_try (except name body) cleanup ∷ fs) ps (Some e) (handler_if o (drop (named name) e) e body cleanup fs ps)
      by_match None k = finish_unhandled fs (by_tables table) outcomes name body cleanup here (stack_at table.cancelled_from ps) (so_far (Some e) now) e k
      by_match (Some x) k = finish_handler fs (by_tables table) outcomes name body cleanup here (stack_at table.cancelled_from ps) (so_far (Some e) now) e x k

  -- a task with no frame left: it signs for its home nursery where it failed
  keeps_end : (ps : List Place) (exc : Option Exc) (count : ℕ) → Keeps [] ps exc (step_frames cancelled_from now here [] ps exc count)
  unfolding finish with_sign
  keeps_end ps exc count =
      ap (λ (x : Log). record (so_far exc now) { own = []; log = x }) (sym (fill_home outcomes table.cancelled_from exc ps now.at)
      ∙ sym (followed_nil (fill outcomes (signs_home exc ps now.at))))

  -- a scope has ended
  keeps_leave : (fail : Bool) (fs : List Frame) (p : Place) (ps : List Place) (exc : Option Exc) → p.is_event ≡ false →
      AgreesOn now.at table.cancelled_from cancelled_from (p ∷ ps) → Keeps (in_scope fail ∷ fs) (p ∷ ps) exc (leaves here.clock cancelled_from now (a_scope fail) fs p ps exc)
  keeps_leave fail fs p ps exc e a =
      ap (λ (q : Place). going_to table outcomes here now (in_scope fail ∷ fs) (q ∷ ps) exc) (of_kind p false e)
      ∙ (finish_leave fs (by_tables table) outcomes fail here (record { label = p.label; shield = p.shield; from = table.cancelled_from p.label })
      (stack_at table.cancelled_from ps) (so_far exc now)
      ∙ block_leaves (a_scope fail) fs p ps exc a)

  -- an event has ended
  keeps_event_left : (fs : List Frame) (p : Place) (ps : List Place) (exc : Option Exc) → p.is_event ≡ true →
      Keeps (in_event ∷ fs) (p ∷ ps) exc (onward fs ps exc)
  keeps_event_left fs p ps exc e =
      ap (λ (q : Place). going_to table outcomes here now (in_event ∷ fs) (q ∷ ps) exc) (of_kind p true e)
      ∙ finish_leave_event fs (by_tables table) outcomes here (record { label = p.label; shield = p.shield; from = table.cancelled_from p.label })
      (stack_at table.cancelled_from ps) (so_far exc now)

  -- the body of a nursery has ended
  wait_starts : (children : List ℕ) (fs : List Frame) (label : Label) (shield : Bool) (ps : List Place) (exc : Option Exc) (count : ℕ) →
      (p : Place) → p ≡ record { label = label; shield = shield; is_event = false } →
      Keeps (in_nursery children ∷ fs) (p ∷ ps) exc (step_frames cancelled_from now here (in_nursery children ∷ fs) (p ∷ ps) exc count)
  wait_starts children fs label shield ps exc count p e =
      subst (λ (q : Place). Keeps (in_nursery children ∷ fs) (q ∷ ps) exc (step_frames cancelled_from now here (in_nursery children ∷ fs) (q ∷ ps) exc count))
      (sym e)
      (finish_wait fs (by_tables table) outcomes children here (record { label = label; shield = shield; from = table.cancelled_from label })
      (stack_at table.cancelled_from ps) now exc
      ∙ ap
      (λ (x : Log).
      after x
      (finish (by_tables table) outcomes fs here (stack_at table.cancelled_from ps)
      (wait_result here.clock (outcome_members outcomes children) now.at exc
      (record { label = label; shield = shield; from = table.cancelled_from label } ∷ (stack_at table.cancelled_from ps).scopes) now)))
      (sym (fill_home outcomes table.cancelled_from exc (record { label = label; shield = shield; is_event = false } ∷ ps) now.at)))

  keeps_wait : (children : List ℕ) (fs : List Frame) (p : Place) (ps : List Place) (exc : Option Exc) (count : ℕ) → p.is_event ≡ false →
      Keeps (in_nursery children ∷ fs) (p ∷ ps) exc (step_frames cancelled_from now here (in_nursery children ∷ fs) (p ∷ ps) exc count)
  keeps_wait children fs p ps exc count e = wait_starts children fs p.label p.shield ps exc count p (of_kind p false e)

  -- each kind of frame
  keeps_frames : (fs : List Frame) (ps : List Place) (exc : Option Exc) (count : ℕ) → OwnFits here.clock now.own → AgreesOn now.at table.cancelled_from cancelled_from ps → Placed fs ps →
      AreOutcomes (a_round_after here.clock now.at) table outcomes (step_frames cancelled_from now here fs ps exc count).begun → Keeps fs ps exc (step_frames cancelled_from now here fs ps exc count)
  keeps_frames [] ps exc count own a w h = keeps_end ps exc count
  keeps_frames (steps_left ss ∷ fs) ps exc count own a w h = keeps_steps ss fs ps exc count own a w.0 w.1 h
  keeps_frames (in_scope fail ∷ fs) [] exc count own a w h = absurd w
  keeps_frames (in_scope fail ∷ fs) (p ∷ ps) exc count own a w h =
      keeps_leave fail fs p ps exc w.0 a
  keeps_frames (in_event ∷ fs) [] exc count own a w h = absurd w
  keeps_frames (in_event ∷ fs) (p ∷ ps) exc count own a w h = keeps_event_left fs p ps exc w.0
  keeps_frames (with_token limiter ∷ fs) ps exc count own a w h = keeps_token table outcomes now here limiter fs ps exc
  keeps_frames (with_part received ∷ fs) ps exc count own a w h = keeps_part table outcomes now here received fs ps exc
  keeps_frames (in_nursery children ∷ fs) [] exc count own a w h = absurd w
  keeps_frames (in_nursery children ∷ fs) (p ∷ ps) exc count own a w h = keeps_wait children fs p ps exc count w.0
  keeps_frames (in_repeat pass left cuts body ∷ fs) ps exc count own a w h = keeps_pass pass left cuts body fs ps exc
  keeps_frames (in_try handler cleanup ∷ fs) ps exc count own a w h = keeps_try handler cleanup fs ps exc
  keeps_frames (in_handler rest cleanup ∷ fs) ps exc count own a w h =
      finish_handled fs (by_tables table) outcomes rest cleanup here (stack_at table.cancelled_from ps) (so_far exc now)
  keeps_frames (in_cleanup outcome ∷ fs) ps exc count own a w h =
      finish_cleaned fs (by_tables table) outcomes outcome here (stack_at table.cancelled_from ps) (so_far exc now)

  -- One step: for a table that agrees with the moments of cancellation of the scopes and nurseries that enclose the task, and a
  -- record of outcomes that fits the children begun, what is left of the task results in the events made, followed by the result
  -- of what is left after the step.
  pub step_keeps : (m : Midway) → OwnFits here.clock now.own → AgreesOn now.at table.cancelled_from cancelled_from m.places → Placed m.frames m.places →
      AreOutcomes (a_round_after here.clock now.at) table outcomes (step_of cancelled_from now here m).begun →
      left_of table outcomes here now m ≡ after_events outcomes (step_of cancelled_from now here m).made (left_after table outcomes here now (step_of cancelled_from now here m))
  unfolding step_of
  step_keeps m own a w h = keeps_frames m.frames m.places m.exc m.count own a w h
