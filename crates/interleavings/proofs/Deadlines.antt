-- By rounds, each deadline is the first moment of a tick: so it is in the log of each walk.
use Rattle.std.proofs.Common.{◌≡◌, ℕ, zero, suc, ◌+◌, ◌*◌, ◌/◌, Bool, true, false, Option, Some, None, List, [], ◌∷◌, sym, subst, arith, nat_le, nat_lt, max, if◌then◌else◌}
use Rattle.std.specs.Prelude.{codes}
use Rattle.job_tree.specs.declared.deadline.Deadline.{Deadline}
use Rattle.job_tree.specs.declared.deadline.Deadline.TheVariants.{Never, After, At}
use Rattle.job_tree.specs.declared.object.Ask.{Ask}
use Rattle.job_tree.specs.Tree.{Step, sleep, checkpoint, forever, pace, find, head, longest, need, raise, cancel, set_event, wait_for, ask_for, close_channel, scope, nursery, event, object, start, repeat, attempt, Steps, stop, step, Handled, unhandled, except, Cleaned, uncleaned, finally}
use Rattle.input_lines.specs.Lines.{Span}
use Rattle.exceptions.specs.Exceptions.{Label, Exc, cancelled, raised}
use Rattle.exceptions.specs.Split.{Wanted, keep, drop}
use Rattle.cancel_scopes.specs.Sight.{Tick, Level, is_reached, sight, seen}
use Rattle.job_tree.specs.declared.object.Ask.TheVariants.{Acquire, Send, Receive}
use Rattle.job_meaning.specs.Log.{Log, nil, entry, sign, entered, gives_back, act, task, followed_by, Result, same_label, either, deadline_if, deadline_of, Entry, was_granted}
use Rattle.job_meaning.specs.Sharing.{What, a_token, was_sent, a_part, closed_resource, end_of_channel, Granted}
use Rattle.job_meaning.specs.Moments.{tick_of, a_round_after, wakes_at, gives_up_at, due, Now, only_at}
use Rattle.job_meaning.specs.declared.clock.Clock.{Clock}
use Rattle.job_meaning.specs.declared.clock.Clock.TheVariants.{ByRounds as by_rounds}
use Rattle.job_meaning.specs.Walk.{Stack, Mode, grants_in, Here, walk, walk_step, walk_handler, walk_cleanup, done_at, raised_at, now_of, and_then, then_if, wait_by_sight, sleep_result, pace_result, wait_until, set_moment, wait_by, with_line_if, with_line, event_wait, log_of_lines, lines_result, raise_result, need_result, cancel_result, set_result, stack_for, close_result, with_token_back, last_grant, leaves_queue, in_time, left_result, goes_on, granted_result, asked_result, asks_in, ask_result, Kind, from_of, block, event_block, with_sign, sign_if, home_of, nursery_result, child, each, passes, handler_result, handler_for, handler_if_any, cleanup_result}
use Rattle.interleavings.specs.Laws.{round_of}

-- a deadline is the first moment of a tick, or there is none
abbrev pub OnTick : Tick → Type 0
OnTick None = Unit {0}
OnTick (Some m) = round_of m ≡ 0

-- so is each in a log
abbrev pub EachOnTick : Log → Type 0
EachOnTick nil = Unit {0}
EachOnTick (entry t e rest) = EachOnTick rest
EachOnTick (sign l t rest) = EachOnTick rest
EachOnTick (entered l t d rest) = OnTick d × EachOnTick rest
EachOnTick (act label moment done rest) = EachOnTick rest
EachOnTick (task l s u e own rest) = EachOnTick own × EachOnTick rest

-- the first moment of a tick is in round 0
pub first_round : (t : ℕ) → round_of (t * 2097152) ≡ 0
first_round t = omega arith

on_due : (d : Deadline) (m : ℕ) → OnTick (due by_rounds d m)
on_due Never m = tt
on_due (After n) m = first_round (m / 2097152 + n)
on_due (At n) m = first_round n

due_on : (clock : Clock) → clock ≡ by_rounds → (d : Deadline) (m : ℕ) → OnTick (due clock d m)
due_on clock c d m = subst (λ (x : Clock). OnTick (due x d m)) (sym c) (on_due d m)

each_followed : (a b : Log) → EachOnTick a → EachOnTick b → EachOnTick (followed_by a b)
each_followed nil b h k = k
each_followed (entry t e rest) b h k = each_followed rest b h k
each_followed (sign l t rest) b h k = each_followed rest b h k
each_followed (entered l t d rest) b h k = (h.0, each_followed rest b h.1 k)
each_followed (act label moment done rest) b h k = each_followed rest b h k
each_followed (task l s u e own rest) b h k = (h.0, each_followed rest b h.1 k)

each_then : (r : Result) (go : Now → Result) → EachOnTick r.log → ((u : Now) → EachOnTick (go u).log) → EachOnTick (and_then r go).log
unfolding and_then
each_then r go h k = by_exc r.exc
  where
    by_exc : (o : Option Exc) → EachOnTick (then_if o r go).log
    by_exc None = each_followed r.log (go (now_of r)).log h (k (now_of r))
    by_exc (Some e) = h

each_waited : (a : Tick) (least gives_up end : ℕ) → EachOnTick (wait_by_sight a least gives_up end).log
each_waited None least gives_up end = tt
each_waited (Some from) least gives_up end = by_now (nat_le from least) (nat_le from end)
  where
    by_now : (now due : Bool) → EachOnTick (if now then raised_at cancelled (only_at gives_up) else
        (if due then raised_at cancelled (only_at from) else done_at (only_at end))).log
    by_now true due = tt
    by_now false true = tt
    by_now false false = tt

each_sleeping : (clock : Clock) (st : Stack) (n t : ℕ) → EachOnTick (sleep_result clock st n t).log
unfolding sleep_result
each_sleeping clock st n t = each_waited (sight st.scopes) (a_round_after clock t) (gives_up_at clock n t) (wakes_at clock n t)

each_pacing : (clock : Clock) (st : Stack) (n t : ℕ) → EachOnTick (pace_result clock st n t).log
unfolding pace_result
each_pacing clock st n t = each_waited (sight st.scopes) (a_round_after clock t) (a_round_after clock t) (wakes_at clock n t)

each_until : (a : Tick) (least end : ℕ) → EachOnTick (wait_until a least end).log
each_until None least end = tt
each_until (Some from) least end = by_order (nat_lt from end)
  where
    by_order : (b : Bool) → EachOnTick (if b then raised_at cancelled (only_at (max least from)) else done_at (only_at end)).log
    by_order true = tt
    by_order false = tt

each_set : (clock : Clock) (st : Stack) (set t : ℕ) → EachOnTick (wait_by clock st set t).log
each_set clock st set t = by_round (nat_le set (a_round_after clock t))
  where
    by_round : (b : Bool) → EachOnTick (if b then sleep_result clock st 0 t else wait_until (sight st.scopes) (a_round_after clock t) set).log
    by_round true = each_sleeping clock st 0 t
    by_round false = each_until (sight st.scopes) (a_round_after clock t) set

each_lined : (label : Label) (r : Result) → EachOnTick r.log → EachOnTick (with_line label r).log
each_lined label r h = by_exc r.exc
  where
    by_exc : (o : Option Exc) → EachOnTick (with_line_if o label r).log
    by_exc None = tt
    by_exc (Some e) = h

each_awaiting : (clock : Clock) (st : Stack) (level : Option (Level Label)) (t : Now) → EachOnTick (event_wait clock st level t).log
unfolding event_wait
each_awaiting clock st None t = tt
each_awaiting clock st (Some l) t = each_lined l.label (wait_by clock st (set_moment clock l.from t.at) t.at) (each_set clock st (set_moment clock l.from t.at) t.at)

each_of_lines : (t : ℕ) (ls : List Span) → EachOnTick (log_of_lines t ls)
each_of_lines t [] = tt
each_of_lines t (l ∷ ls) = each_of_lines t ls

each_showing : (ls : List Span) (t : Now) → EachOnTick (lines_result ls t).log
unfolding lines_result
each_showing ls t = each_of_lines t.at ls

each_raising : (name : List ℕ) (here : Here) (t : Now) → EachOnTick (raise_result name here t).log
unfolding raise_result
each_raising name here t = tt

each_needing : (found : Option Span) (name : List ℕ) (here : Here) (t : Now) → EachOnTick (need_result found name here t).log
unfolding need_result
each_needing (Some l) name here t = each_showing (l ∷ []) t
each_needing None name here t = each_raising name here t

each_cancelling : (clock : Clock) (label : Option Label) (t : Now) → EachOnTick (cancel_result clock label t).log
unfolding cancel_result
each_cancelling clock None t = tt
each_cancelling clock (Some l) t = tt

each_setting : (clock : Clock) (label : Option Label) (t : Now) → EachOnTick (set_result clock label t).log
unfolding set_result
each_setting clock None t = tt
each_setting clock (Some l) t = tt

each_block : (clock : Clock) (m : Mode) (kind : Kind) (label : Label) (t : ℕ) (d : Tick) (shield : Bool) (st : Stack) (inside : Tick → Result) →
    OnTick d → ((from : Tick) → EachOnTick (inside from).log) → EachOnTick (block clock m kind label t d shield st inside).log
unfolding block
each_block clock m kind label t d shield st inside on h =
    let from : Tick = from_of m label d inside in
    (on, each_followed (inside from).log (entry (inside from).end _ nil) (h from) tt)

-- an event has no deadline
each_event : (m : Mode) (label : Label) (t : ℕ) (inside : Tick → Result) → ((from : Tick) → EachOnTick (inside from).log) →
    EachOnTick (event_block m label t inside).log
unfolding event_block
each_event m label t inside h = (tt, h (from_of m label None inside))

each_signed : (st : Stack) (r : Result) → EachOnTick r.log → EachOnTick (with_sign st r).log
unfolding with_sign
each_signed st r h = each_followed r.log (sign_if r.exc (home_of st.scopes) r.end) h (of_sign r.exc (home_of st.scopes))
  where
    of_sign : (o : Option Exc) (home : Option Label) → EachOnTick (sign_if o home r.end)
    of_sign None home = tt
    of_sign (Some e) None = tt
    of_sign (Some e) (Some l) = tt

each_gathered : (clock : Clock) (label : Label) (r : Result) → EachOnTick r.log → EachOnTick (nursery_result clock label r).log
unfolding nursery_result
each_gathered clock label r h = h

each_child : (label : Label) (begins : ℕ) (r : Result) (t : Now) → EachOnTick r.log → EachOnTick (child label begins r t).log
unfolding child
each_child label begins r t h = (h, tt)

each_each : (k : ℕ) (go : ℕ → Result) (t : Now) → ((i : ℕ) → EachOnTick (go i).log) → EachOnTick (each k go t).log
each_each zero go t h = tt
each_each (suc k) go t h = each_followed (each k go t).log (go k).log (each_each k go t h) (h k)

each_passes : (k first : ℕ) (go : ℕ → Now → Result) (t : Now) → ((i : ℕ) (u : Now) → EachOnTick (go i u).log) → EachOnTick (passes first k go t).log
each_passes zero first go t h = tt
each_passes (suc k) first go t h = each_then (go first t) _ (h first t) (λ u. each_passes k (suc first) go u h)

each_handled : (wanted : Wanted) (r : Result) (go : Now → Result) → EachOnTick r.log → ((u : Now) → EachOnTick (go u).log) →
    EachOnTick (handler_result wanted r go).log
unfolding handler_result
each_handled wanted r go h k = by_exc r.exc
  where
    by_match : (o rest : Option Exc) → EachOnTick (handler_if_any o rest r go).log
    by_match None rest = h
    by_match (Some e) rest = each_followed r.log (go (now_of r)).log h (k (now_of r))

    by_exc : (o : Option Exc) → EachOnTick (handler_for o wanted r go).log
    by_exc None = h
    by_exc (Some e) = by_match (keep wanted e) (drop wanted e)

each_cleaned : (r : Result) (go : Now → Result) → EachOnTick r.log → ((u : Now) → EachOnTick (go u).log) → EachOnTick (cleanup_result r go).log
unfolding cleanup_result
each_cleaned r go h k = each_followed r.log (go (now_of r)).log h (k (now_of r))

-- what was granted is noted, and what follows has such deadlines
each_goes_on : (e : Entry) (m : ℕ) (go : Now → Result) → ((u : Now) → EachOnTick (go u).log) → EachOnTick (goes_on e m go).log
each_goes_on e m go h = h (only_at m)

each_token_back : (label : Label) (r : Result) → EachOnTick r.log → EachOnTick (with_token_back label r).log
unfolding with_token_back
each_token_back label r h = each_followed r.log (act label r.end gives_back nil) h tt

-- what a task does with what it is granted
each_granted : (label : Label) (here : Here) → here.clock ≡ by_rounds → (m : ℕ) (what : What) (go : Here → Now → Result) →
    ((inner : Here) → inner.clock ≡ by_rounds → (u : Now) → EachOnTick (go inner u).log) → EachOnTick (granted_result label here m what go).log
each_granted label here c m a_token go h =
    each_goes_on (was_granted Acquire label) m (λ (u : Now). with_token_back label (go here u)) (λ u. each_token_back label (go here u) (h here c u))
each_granted label here c m was_sent go h = each_goes_on (was_granted Send label) m (λ (u : Now). go here u) (λ u. h here c u)
each_granted label here c m (a_part lent) go h =
    each_goes_on (was_granted Receive label) m (λ (u : Now). go (record here { part = lent }) u) (λ u. h (record here { part = lent }) c u)
each_granted label here c m closed_resource go h = tt
each_granted label here c m end_of_channel go h = tt

-- who leaves the queue enters nothing
each_leaving : (here : Here) (from : Tick) (left : ℕ) → EachOnTick (left_result here from left).log
each_leaving here from left = by_sight (is_reached from left)
  where
    by_sight : (b : Bool) → EachOnTick (if b then raised_at cancelled (only_at left)
        else raised_at (raised (codes "Deadlock") here.task (tick_of here.clock left)) (only_at left)).log
    by_sight true = tt
    by_sight false = tt

each_asked : (ask : Ask) (label : Label) (here : Here) → here.clock ≡ by_rounds → (from : Tick) (m left : ℕ) (o : Option Granted)
    (go : Here → Now → Result) → ((inner : Here) → inner.clock ≡ by_rounds → (u : Now) → EachOnTick (go inner u).log) →
    EachOnTick (asked_result ask label here from m left o go).log
each_asked ask label here c from m left None go h = each_leaving here from left
each_asked ask label here c from m left (Some g) go h = each_granted label here c g.at g.what go h

each_asking : (m : Mode) (ask : Ask) (label : Option Label) (here : Here) → here.clock ≡ by_rounds → (st : Stack) (t : Now)
    (go : Here → Now → Result) → ((inner : Here) → inner.clock ≡ by_rounds → (u : Now) → EachOnTick (go inner u).log) →
    EachOnTick (ask_result m ask label here st t go).log
unfolding ask_result
each_asking m ask None here c st t go h = tt
each_asking m ask (Some label) here c st t go h = by_sight (seen (stack_for t.own t.at st.scopes) t.at)
  where
    left : ℕ
    left = leaves_queue (sight st.scopes) (last_grant here.clock t.at)

    by_sight : (b : Bool) →
        EachOnTick (if b then raised_at cancelled (only_at (gives_up_at here.clock 0 t.at)) else asks_in m ask label here st t.at go).log
    by_sight true = tt
    by_sight false = each_asked ask label here c (sight st.scopes) t.at left (in_time t.at left (grants_in m label here.task t.at)) go h

each_closing : (label : Option Label) (t : Now) → EachOnTick (close_result label t).log
unfolding close_result
each_closing None t = tt
each_closing (Some l) t = tt

mutual
  unfolding walk

  -- each deadline of a walk by rounds is the first moment of a tick
  pub each_walked : (m : Mode) (b : Steps) (here : Here) → here.clock ≡ by_rounds → (st : Stack) (t : Now) → EachOnTick (walk m b here st t).log
  each_walked m stop here c st t = tt
  each_walked m (step s ss) here c st t = each_then _ _ (each_step m s here c st t) (λ u. each_walked m ss here c st u)

  each_step : (m : Mode) (s : Step) (here : Here) → here.clock ≡ by_rounds → (st : Stack) (t : Now) → EachOnTick (walk_step m s here st t).log
  each_step m (sleep n) here c st t = each_sleeping here.clock st _ t.at
  each_step m checkpoint here c st t = each_sleeping here.clock st _ t.at
  each_step m forever here c st t = each_sleeping here.clock st _ t.at
  each_step m (pace k) here c st t = each_pacing here.clock st _ t.at
  each_step m (find text) here c st t = each_showing _ t
  each_step m (head n) here c st t = each_showing _ t
  each_step m longest here c st t = each_showing _ t
  each_step m (need text name) here c st t = each_needing _ name here t
  each_step m (raise name) here c st t = each_raising name here t
  each_step m (cancel name) here c st t = each_cancelling here.clock _ t
  each_step m (set_event name) here c st t = each_setting here.clock _ t
  each_step m (wait_for name) here c st t = each_awaiting here.clock st _ t
  each_step m (ask_for name ask body) here c st t = each_asking m ask _ here c st t _ (λ inner d u. each_walked m body inner d st u)
  each_step m (close_channel name) here c st t = each_closing _ t
  each_step m (scope name d shield fail body) here c st t =
      each_block here.clock m _ _ t.at _ shield st _ (due_on here.clock c d t.at) (λ from. each_walked m body here c _ t)
  each_step m (nursery name d shield body) here c st t =
      each_block here.clock m _ _ t.at _ shield st _ (due_on here.clock c d t.at)
      (λ from. each_gathered here.clock _ _ (each_signed _ _ (each_walked m body here c _ t)))
  each_step m (event name body) here c st t = each_event m _ t.at _ (λ from. each_walked m body here c _ t)
  each_step m (object name kind body) here c st t = each_event m _ t.at _ (λ from. each_walked m body here c _ t)
  each_step m (start name None body) here c st t =
      each_child _ _ _ t (each_signed st _ (each_walked m body _ c st (only_at (a_round_after here.clock t.at))))
  each_step m (start name (Some k) body) here c st t =
      each_each k _ t (λ i. each_child _ _ _ t (each_signed st _ (each_walked m body _ c st (only_at (a_round_after here.clock t.at)))))
  each_step m (repeat count over body) here c st t = each_passes count 0 _ t (λ i u. each_walked m body _ c st u)
  each_step m (attempt body handler cleanup) here c st t =
      each_cleanup m cleanup here c st _ (each_handler m handler here c st _ (each_walked m body here c st t))

  each_handler : (m : Mode) (x : Handled) (here : Here) → here.clock ≡ by_rounds → (st : Stack) (r : Result) → EachOnTick r.log →
      EachOnTick (walk_handler m x here st r).log
  each_handler m unhandled here c st r h = h
  each_handler m (except name body) here c st r h = each_handled _ r _ h (λ u. each_walked m body here c st u)

  each_cleanup : (m : Mode) (x : Cleaned) (here : Here) → here.clock ≡ by_rounds → (st : Stack) (r : Result) → EachOnTick r.log →
      EachOnTick (walk_cleanup m x here st r).log
  each_cleanup m uncleaned here c st r h = h
  each_cleanup m (finally body) here c st r h = each_cleaned r _ h (λ u. each_walked m body here c st u)

-- the deadline of a label is one of those in the log, if it has one
abbrev pub OnTickIf : Option Tick → Type 0
OnTickIf None = Unit {0}
OnTickIf (Some d) = OnTick d

pub deadline_on : (l : Label) (a : Log) → EachOnTick a → OnTickIf (deadline_of l a)
deadline_on l nil h = tt
deadline_on l (entry t e rest) h = deadline_on l rest h
deadline_on l (sign m t rest) h = deadline_on l rest h
deadline_on l (entered m t d rest) h = by_test (same_label l m) (deadline_on l rest h.1)
  where
    by_test : (b : Bool) → OnTickIf (deadline_of l rest) → OnTickIf (either (deadline_if b d) (deadline_of l rest))
    by_test true more = h.0
    by_test false more = more
deadline_on l (act label moment done rest) h = deadline_on l rest h
deadline_on l (task m s u e own rest) h = first_of (deadline_of l own) (deadline_of l rest) (deadline_on l own h.0) (deadline_on l rest h.1)
  where
    first_of : (a b : Option Tick) → OnTickIf a → OnTickIf b → OnTickIf (either a b)
    first_of None b i j = j
    first_of (Some d) b i j = i
