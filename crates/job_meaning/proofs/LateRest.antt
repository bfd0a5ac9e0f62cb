-- What is left of a task ends no earlier than the present tick, and notes, enters and signs nothing earlier.
use Rattle.std.proofs.Common.{◌≡◌, ℕ, suc, ◌≤◌, Option, Some, None, List, [], ◌∷◌, refl, arith}
use Rattle.job_tree.specs.Tree.{Steps}
use Rattle.job_tree.specs.declared.object.Ask.{Ask}
use Rattle.exceptions.specs.Exceptions.{Label, Exc}
use Rattle.cancel_scopes.specs.Sight.{Tick, Level, sight, catches}
use Rattle.job_meaning.specs.Log.{entry, nil, Act, asks, Member, Result}
use Rattle.job_meaning.specs.Sharing.{Granted}
use Rattle.job_meaning.specs.Moments.{a_round_after, Now}
use Rattle.job_meaning.specs.declared.clock.Clock.{Clock}
use Rattle.job_meaning.proofs.MomentLemmas.{round_after}
use Rattle.job_meaning.specs.Walk.{Levels, Stack, Mode, grants_in, Here, walk, in_pass, with_act, in_time, left_result, granted_result, asked_result, from_for, stack_for, Kind, a_scope, a_nursery, left_as, left_with, latest, nursery_result, with_sign, with_outcome, handler_exc, outcome_after}
use Rattle.job_meaning.specs.Rest.{ChildOutcomes, outcome_members, Frame, steps_left, in_scope, in_event, with_token, with_part, in_nursery, in_repeat, in_try, in_handler, in_cleanup, inside, block_left, left_if, without_scope, without_event, with_children, wait_result, queue_result, finish}
use Rattle.job_meaning.proofs.Late.{Late, late, late_and_then, late_token_back, late_since, late_leaving, late_granted, late_passes, late_handler, late_cleanup, late_signed, late_gathered, timed_followed}
use Rattle.job_meaning.proofs.Asking.{Far}
use Rattle.job_meaning.proofs.FinishAsking.{queue_left}

-- a block that is left ends with what was in it
pub late_left : (t : ℕ) (clock : Clock) (kind : Kind) (l : Level Label) (outer : Levels) (r : Result) → Late t r → Late t (block_left clock kind l outer r)
late_left t clock kind l outer r h =
    record {
      ends = h.ends;
      timed = timed_followed t r.log (entry r.end (left_as kind l.label (left_with (catches (from_for r.own r.end l.label l.from) l.shield (stack_for r.own r.end outer) r.end) r.exc).caught) nil)
          h.timed (h.ends, tt);
    }

late_left_if : (t : ℕ) (clock : Clock) (kind : Kind) (ls : Levels) (go : Level Label → Result) (r : Result) → ((l : Level Label) → Late t (go l)) →
    Late t r → Late t (left_if clock kind ls go r)
late_left_if t clock kind [] go r k h = h
late_left_if t clock kind (l ∷ outer) go r k h = late_left t clock kind l outer (go l) (k l)

late_with_outcome : (t : ℕ) (o : Option Exc) (r : Result) → Late t r → Late t (with_outcome o r)
late_with_outcome t o r h = record { ends = h.ends; timed = h.timed }

-- what a task results in is as late as its result so far
pub late_finish : (fs : List Frame) (t : ℕ) (m : Mode) (outcomes : ChildOutcomes) (here : Here) (st : Stack) (r : Result) → Late t r →
    Late t (finish m outcomes fs here st r)
unfolding finish nursery_result
late_finish [] t m outcomes here st r h = late_signed t st r h
late_finish (steps_left ss ∷ fs) t m outcomes here st r h =
    late_finish fs t m outcomes here st _ (late_and_then t r (λ u. walk m ss (inside fs here) st u) h (λ u. late m ss (inside fs here) st u))
late_finish (in_scope fail ∷ fs) t m outcomes here st r h =
    late_finish fs t m outcomes here (without_scope st) _ (late_left_if t here.clock (a_scope fail) st.scopes (λ l. r) r (λ l. h) h)
late_finish (in_event ∷ fs) t m outcomes here st r h = late_finish fs t m outcomes here (without_event st) r h
late_finish (with_token limiter ∷ fs) t m outcomes here st r h = late_finish fs t m outcomes here st _ (late_token_back t limiter r h)
late_finish (with_part received ∷ fs) t m outcomes here st r h = late_finish fs t m outcomes here st r h
late_finish (in_nursery children ∷ fs) t m outcomes here st r h =
    late_finish fs t m outcomes here (without_scope st) _
    (late_left_if t here.clock a_nursery st.scopes _ r
    (λ l. late_gathered here.clock t l.label (with_children (outcome_members outcomes children) (with_sign st r)) (late_children (late_signed t st r h)))
    h)
  where
    late_children : Late t (with_sign st r) → Late t (with_children (outcome_members outcomes children) (with_sign st r))
    late_children k = record { ends = k.ends; timed = k.timed }
late_finish (in_repeat pass left cuts body ∷ fs) t m outcomes here st r h =
    late_finish fs t m outcomes here st _ (late_and_then t r _ h
    (λ u. late_passes left (suc pass) (λ i v. walk m body (in_pass cuts i (inside fs here)) st v) u (λ i v. late m body _ st v)))
late_finish (in_try handler cleanup ∷ fs) t m outcomes here st r h =
    late_finish fs t m outcomes here st _ (late_cleanup m cleanup (inside fs here) st _ t (late_handler m handler (inside fs here) st r t h))
late_finish (in_handler rest cleanup ∷ fs) t m outcomes here st r h =
    late_finish fs t m outcomes here st _ (late_cleanup m cleanup (inside fs here) st _ t (late_with_outcome t (handler_exc r.exc rest) r h))
late_finish (in_cleanup outcome ∷ fs) t m outcomes here st r h =
    late_finish fs t m outcomes here st _ (late_with_outcome t (outcome_after outcome r.exc) r h)

-- a task that waits for children that end at moment t or later is as late
pub late_waited : (clock : Clock) (t : ℕ) (ms : List Member) (u : ℕ) (exc : Option Exc) (l : Level Label) (outer : Levels) (now : Now) → t ≤ latest u ms →
    Late t (wait_result clock ms u exc (l ∷ outer) now)
unfolding nursery_result
late_waited clock t ms u exc l outer now h =
    let left : latest u ms ≤ a_round_after clock (latest u ms) = round_after clock (latest u ms) in
    late_left t clock a_nursery l outer (nursery_result clock l.label (record { end = u; own = []; exc = exc; members = ms; log = nil }))
    (record { ends = omega arith; timed = tt })

-- A result that begins with an act in a moment, after which it is late. A task in the queue of a limiter or channel has asked before: its ask
-- stands in its log at the moment of the ask, and all that comes of it is later.
pub record LateAfterAct (t m : ℕ) (label : Label) (r : Result) : Type 0 where
  pub done : Act
  pub rest : Result
  pub same : r ≡ with_act label m done rest
  pub late : Late t rest

-- what comes of an ask comes no earlier than what was granted, or than the task left the queue
pub late_asked_from : (t : ℕ) (ask : Ask) (label : Label) (here : Here) (from : Tick) (m left : ℕ) (o : Option Granted) (go : Here → Now → Result) →
    Far t left o → ((inner : Here) (u : Now) → Late u.at (go inner u)) → LateAfterAct t m label (asked_result ask label here from m left o go)
late_asked_from t ask label here from m left None go le h =
    record {
      done = asks ask here.part (Some left);
      rest = left_result here from left;
      same = refl;
      late = late_leaving here from left t le;
    }
late_asked_from t ask label here from m left (Some g) go le h =
    record {
      done = asks ask here.part None;
      rest = granted_result label here g.at g.what go;
      same = refl;
      late = late_since t g.at _ le (late_granted label here g.at g.what go h);
    }

-- so it is with a task in the queue
pub late_queued : (t : ℕ) (m : Mode) (ask : Ask) (label : Label) (here : Here) (st : Stack) (since : ℕ) (body : Steps) →
    Far t (queue_left here st since) (in_time since (queue_left here st since) (grants_in m label here.task since)) →
    LateAfterAct t since label (queue_result m ask (Some label) here st since (λ inner u. walk m body inner st u))
late_queued t m ask label here st since body le =
    late_asked_from t ask label here (sight st.scopes) since (queue_left here st since) _ _ le (λ inner u. late m body inner st u)
