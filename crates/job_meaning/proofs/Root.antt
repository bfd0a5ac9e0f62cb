-- A walk by ticks whose exception holds a `Cancelled` ends in a tick at which its stack is seen.
use Rattle.std.proofs.Common.{◌≡◌, ℕ, zero, suc, ◌≤◌, max, Bool, true, false, ◌||◌, ◌&&◌, not, Option, Some, None, List, [], ◌∷◌, ◌++◌, refl, sym, ap, ◌∙◌, IsTrue, ◌⊎◌, inl, inr, arith, nat_le, nat_lt, if◌then◌else◌}
use Rattle.std.specs.Prelude.{codes}
use Rattle.std.proofs.lemmas.Bool.{false≢true, or_cases}
use Rattle.std.proofs.lemmas.Bool.Decides.{nat_tests}
use Rattle.job_tree.specs.Tree.{Step, sleep, checkpoint, forever, pace, find, head, longest, need, raise, cancel, set_event, wait_for, ask_for, close_channel, scope, nursery, event, object, start, repeat, attempt, Steps, stop, step, Handled, unhandled, except, Cleaned, uncleaned, finally}
use Rattle.job_tree.specs.declared.object.Ask.{Ask}
use Rattle.input_lines.specs.Lines.{Range, Span}
use Rattle.exceptions.specs.Exceptions.{Label, Exc, cancelled, raised, hold_cancelled, parts_of, holds_cancelled, by_nursery}
use Rattle.exceptions.specs.Split.{Wanted, keep, drop}
use Rattle.cancel_scopes.specs.Sight.{Tick, Level, sight, seen, is_reached, catches}
use Rattle.job_tree.specs.declared.object.Ask.TheVariants.{Acquire, Send, Receive}
use Rattle.job_meaning.specs.Log.{Act, Member, Result, Entry, was_granted}
use Rattle.job_meaning.specs.Sharing.{What, a_token, was_sent, a_part, closed_resource, end_of_channel, Granted}
use Rattle.job_meaning.specs.Moments.{a_round_after, wakes_at, gives_up_at, tick_of, Now, only_at}
use Rattle.job_meaning.specs.declared.clock.Clock.{Clock}
use Rattle.job_meaning.specs.declared.clock.Clock.TheVariants.{ByTicks as by_ticks}
use Rattle.job_meaning.specs.Walk.{Levels, Stack, no_stack, Mode, grants_in, Here, walk, walk_step, walk_handler, walk_cleanup, done_at, raised_at, now_of, in_sequence, and_then, then_if, wait_by_sight, sleep_result, pace_result, wait_until, set_moment, wait_by, with_line_if, with_line, event_wait, lines_result, raise_result, need_result, with_own, cancel_result, set_result, from_for, stack_for, Kind, from_of, block, event_block, with_act, close_result, with_token_back, last_grant, leaves_queue, in_time, left_result, goes_on, granted_result, asked_result, asks_in, ask_result, stack_inside, stack_in_event, left_with, exc_after, with_sign, latest, with_exc, excs_of, nursery_result, child, each, passes, handler_result, handler_for, handler_if_any, handler_exc, cleanup_result, outcome_after}
use Rattle.job_meaning.specs.Meaning.{root_walk, root_here}
use Rattle.job_meaning.specs.Laws.{some_cancelled, CancelledIsSeen, NoneReachesTheRoot}
use Rattle.job_meaning.proofs.Ticks.{seen_cons, stays_seen}
use Rattle.job_meaning.proofs.MomentLemmas.{round_after, gives_up_after}
use Rattle.job_meaning.proofs.Late.{Late, noted_at, late, latest_ends}
use Rattle.job_meaning.proofs.Leaves.{group_holds, with_exc_holds, pruned_holds, left_holds}

-- each member that ended with a `Cancelled` did so in a moment at which its stack is seen
abbrev pub MembersSeen : Levels → List Member → Type 0
MembersSeen st [] = Unit {0}
MembersSeen st (m ∷ ms) = (IsTrue (some_cancelled m.exc) → IsTrue (seen st m.end)) × MembersSeen st ms

-- The result of a walk on a stack holds a `Cancelled` only where it is seen. By ticks, what a task has cancelled itself is not
-- kept apart.
pub record Rooted (st : Stack) (r : Result) : Type 0 where
  pub own : r.own ≡ []
  pub exc : IsTrue (some_cancelled r.exc) → IsTrue (seen st.scopes r.end)
  pub members : MembersSeen st.scopes r.members

-- two lists of members whose `Cancelled` was seen are one such list together
pub members_append : (st : Levels) (ms ns : List Member) → MembersSeen st ms → MembersSeen st ns → MembersSeen st (ms ++ ns)
members_append st [] ns h k = k
members_append st (m ∷ ms) ns h k = (h.0, members_append st ms ns h.1 k)

-- one rooted result after another is rooted
pub root_joined : (st : Stack) (r q : Result) → Rooted st r → Rooted st q → Rooted st (in_sequence r q)
root_joined st r q h k = record { own = k.own; exc = k.exc; members = members_append st.scopes r.members q.members h.members k.members }

-- a rooted walk that continues with rooted ones is rooted as a whole
pub root_and_then : (st : Stack) (r : Result) (go : Now → Result) → Rooted st r → ((u : Now) → u.own ≡ [] → Rooted st (go u)) →
    Rooted st (and_then r go)
unfolding and_then
root_and_then st r go h k = by_exc r.exc
  where
    by_exc : (o : Option Exc) → Rooted st (then_if o r go)
    by_exc None = root_joined st r (go (now_of r)) h (k (now_of r) h.own)
    by_exc (Some e) = h

-- where nothing happens, that is rooted
pub root_done : (st : Stack) (t : Now) → t.own ≡ [] → Rooted st (done_at t)
root_done st t none = record { own = none; exc = λ h. absurd (false≢true h); members = tt }

-- a wait is cancelled in a moment at which that is seen
pub root_waited : (st : Stack) (least gives_up end : ℕ) → least ≤ gives_up → Rooted st (wait_by_sight (sight st.scopes) least gives_up end)
root_waited st least gives_up end le = by_sight (sight st.scopes) (λ u h. h)
  where
    by_sight : (a : Tick) → ((u : ℕ) → IsTrue (is_reached a u) → IsTrue (seen st.scopes u)) → Rooted st (wait_by_sight a least gives_up end)
    by_sight None sees = root_done st (only_at end) refl
    by_sight (Some from) sees = by_now (nat_le from least) (nat_le from end) (λ h. sees gives_up (grind (arith, nat_tests, le, h)))
      where
        at_from : IsTrue (seen st.scopes from)
        at_from = sees from (grind (arith, nat_tests))

        by_now : (now due : Bool) → (IsTrue now → IsTrue (seen st.scopes gives_up)) →
            Rooted st (if now then raised_at cancelled (only_at gives_up) else (if due then raised_at cancelled (only_at from) else
            done_at (only_at end)))
        by_now true due h = record { own = refl; exc = h; members = tt }
        by_now false true h = record { own = refl; exc = λ k. at_from; members = tt }
        by_now false false h = root_done st (only_at end) refl

-- a sleep is rooted
pub root_sleeping : (clock : Clock) (st : Stack) (n t : ℕ) → Rooted st (sleep_result clock st n t)
unfolding sleep_result
root_sleeping clock st n t =
    root_waited st (a_round_after clock t) (gives_up_at clock n t) (wakes_at clock n t) (gives_up_after clock n t)

-- so is a `pace`
pub root_pacing : (clock : Clock) (st : Stack) (n t : ℕ) → Rooted st (pace_result clock st n t)
unfolding pace_result
root_pacing clock st n t = root_waited st (a_round_after clock t) (a_round_after clock t) (wakes_at clock n t) (omega arith)

-- a wait that ends in a later moment, or with a cancellation that is seen then
root_until : (st : Stack) (least end : ℕ) → Rooted st (wait_until (sight st.scopes) least end)
root_until st least end = by_sight (sight st.scopes) (λ u h. h)
  where
    by_sight : (a : Tick) → ((u : ℕ) → IsTrue (is_reached a u) → IsTrue (seen st.scopes u)) → Rooted st (wait_until a least end)
    by_sight None sees = root_done st (only_at end) refl
    by_sight (Some from) sees = by_order (nat_lt from end)
      where
        at_end : IsTrue (seen st.scopes (max least from))
        at_end = sees (max least from) (grind (arith, nat_tests))

        by_order : (b : Bool) → Rooted st (if b then raised_at cancelled (only_at (max least from)) else done_at (only_at end))
        by_order true = record { own = refl; exc = λ k. at_end; members = tt }
        by_order false = root_done st (only_at end) refl

root_set : (clock : Clock) (st : Stack) (set t : ℕ) → Rooted st (wait_by clock st set t)
root_set clock st set t = by_round (nat_le set (a_round_after clock t))
  where
    by_round : (b : Bool) → Rooted st (if b then sleep_result clock st 0 t else wait_until (sight st.scopes) (a_round_after clock t) set)
    by_round true = root_sleeping clock st 0 t
    by_round false = root_until st (a_round_after clock t) set

root_lined : (st : Stack) (label : Label) (r : Result) → Rooted st r → Rooted st (with_line label r)
root_lined st label r h = by_exc r.exc h.exc
  where
    by_exc : (o : Option Exc) → (IsTrue (some_cancelled r.exc) → IsTrue (seen st.scopes r.end)) → Rooted st (with_line_if o label r)
    by_exc None e = record { own = h.own; exc = e; members = h.members }
    by_exc (Some x) e = h

-- a wait for an event is rooted
pub root_awaiting : (clock : Clock) (st : Stack) (level : Option (Level Label)) (t : Now) → t.own ≡ [] → Rooted st (event_wait clock st level t)
unfolding event_wait
root_awaiting clock st None t none = root_done st t none
root_awaiting clock st (Some l) t none = root_lined st l.label _ (root_set clock st (set_moment clock l.from t.at) t.at)

-- lines that are shown are rooted
pub root_showing : (st : Stack) (ls : List Span) (t : Now) → t.own ≡ [] → Rooted st (lines_result ls t)
unfolding lines_result
root_showing st ls t none = record { own = none; exc = λ h. absurd (false≢true h); members = tt }

-- an exception that is raised here is rooted
pub root_raising : (st : Stack) (name : List ℕ) (here : Here) (t : Now) → t.own ≡ [] → Rooted st (raise_result name here t)
unfolding raise_result
root_raising st name here t none = record { own = none; exc = λ h. absurd (false≢true h); members = tt }

-- a `need` is rooted, whether its line is found or not
pub root_needing : (st : Stack) (found : Option Span) (name : List ℕ) (here : Here) (t : Now) → t.own ≡ [] →
    Rooted st (need_result found name here t)
unfolding need_result
root_needing st (Some l) name here t none = root_showing st (l ∷ []) t none
root_needing st None name here t none = root_raising st name here t none

-- a `cancel` is rooted: by ticks it keeps nothing apart
pub root_cancelling : (clock : Clock) (st : Stack) (label : Option Label) (t : Now) → clock ≡ by_ticks → t.own ≡ [] →
    Rooted st (cancel_result clock label t)
unfolding cancel_result
root_cancelling clock st label t ticks none =
    record { own = ap (λ (c : Clock). with_own c label t.own) ticks ∙ none; exc = λ h. absurd (false≢true h); members = tt }

-- so is a `set`
pub root_setting : (clock : Clock) (st : Stack) (label : Option Label) (t : Now) → clock ≡ by_ticks → t.own ≡ [] →
    Rooted st (set_result clock label t)
unfolding set_result
root_setting clock st label t ticks none =
    record { own = ap (λ (c : Clock). with_own c label t.own) ticks ∙ none; exc = λ h. absurd (false≢true h); members = tt }

-- a task that has cancelled nothing sees its stack as it is
stack_for_none : (t : ℕ) (st : Levels) → stack_for [] t st ≡ st
stack_for_none t [] = refl
stack_for_none t (l ∷ ls) = ap (λ (rest : Levels). l ∷ rest) (stack_for_none t ls)

-- so its blocks catch by their stacks
caught_without_own : (own : List Label) (label : Label) (from : Tick) (shield : Bool) (st : Levels) (t : ℕ) → own ≡ [] →
    catches from shield st t ≡ catches (from_for own t label from) shield (stack_for own t st) t
caught_without_own own label from shield st t none =
    sym (ap (λ (o : List Label). catches (from_for o t label from) shield (stack_for o t st) t) none
    ∙ ap (λ (su : Levels). catches from shield su t) (stack_for_none t st))

-- where a block sees a cancellation and does not catch, its outside sees it
pub seen_outside : (label : Label) (shield : Bool) (from : Tick) (st : Stack) (t : ℕ) →
    catches from shield st.scopes t ≡ false → IsTrue (seen (stack_inside label shield from st).scopes t) → IsTrue (seen st.scopes t)
seen_outside label shield from st t c h =
    outside (is_reached from t) shield (seen st.scopes t) c (sym (seen_cons (record { label = label; shield = shield; from = from }) st.scopes t) ∙ h)
  where
    outside : (a s x : Bool) → (a && (s || not x)) ≡ false → IsTrue (a || (not s && x)) → IsTrue x
    outside a s x e k = grind arith

-- a scope or nursery is rooted on its stack, where its inside is rooted on the stack within it
pub root_block : (clock : Clock) (m : Mode) (kind : Kind) (label : Label) (t : ℕ) (d : Tick) (shield : Bool) (st : Stack)
    (inside : Tick → Result) → ((from : Tick) → Rooted (stack_inside label shield from st) (inside from)) →
    Rooted st (block clock m kind label t d shield st inside)
unfolding block
root_block clock m kind label t d shield st inside h =
    record { own = (h (from_of m label d inside)).own; exc = leaves (from_of m label d inside); members = tt }
  where
    leaves : (from : Tick) →
        let r = inside from in
        IsTrue (some_cancelled (exc_after kind label (tick_of clock r.end)
        (left_with (catches (from_for r.own r.end label from) shield (stack_for r.own r.end st.scopes) r.end) r.exc))) →
        IsTrue (seen st.scopes r.end)
    leaves from k =
        let r = inside from in
        let both = left_holds kind label (tick_of clock r.end)
        (catches (from_for r.own r.end label from) shield (stack_for r.own r.end st.scopes) r.end) r.exc k in
        seen_outside label shield from st r.end
        (caught_without_own r.own label from shield st.scopes r.end (h from).own ∙ both.0) ((h from).exc both.1)

-- an event is rooted where its inside is: it is never cancelled
pub root_event : (m : Mode) (label : Label) (t : ℕ) (st : Stack) (inside : Tick → Result) →
    ((from : Tick) → Rooted (stack_in_event label from st) (inside from)) → Rooted st (event_block m label t inside)
unfolding event_block
root_event m label t st inside h =
    let inner = h (from_of m label None inside) in
    record { own = inner.own; exc = inner.exc; members = inner.members }

-- an act before what is rooted
pub root_acted : (st : Stack) (label : Label) (t : ℕ) (a : Act) (r : Result) → Rooted st r → Rooted st (with_act label t a r)
root_acted st label t a r h = record { own = h.own; exc = h.exc; members = h.members }

-- a `close` is rooted
pub root_closing : (st : Stack) (label : Option Label) (t : Now) → t.own ≡ [] → Rooted st (close_result label t)
unfolding close_result
root_closing st None t none = root_done st t none
root_closing st (Some l) t none = root_acted st l t.at _ (done_at t) (root_done st t none)

root_token_back : (st : Stack) (label : Label) (r : Result) → Rooted st r → Rooted st (with_token_back label r)
unfolding with_token_back
root_token_back st label r h = record { own = h.own; exc = h.exc; members = h.members }

-- who leaves the queue is cancelled where that is seen
root_left : (st : Stack) (here : Here) (left : ℕ) → Rooted st (left_result here (sight st.scopes) left)
root_left st here left = by_sight (is_reached (sight st.scopes) left) refl
  where
    by_sight : (b : Bool) → is_reached (sight st.scopes) left ≡ b → Rooted st (if b then raised_at cancelled (only_at left)
        else raised_at (raised (codes "Deadlock") here.task (tick_of here.clock left)) (only_at left))
    by_sight true e = record { own = refl; exc = λ h. e; members = tt }
    by_sight false e = record { own = refl; exc = λ h. absurd (false≢true h); members = tt }

root_goes_on : (st : Stack) (e : Entry) (m : ℕ) (go : Now → Result) → ((u : Now) → u.own ≡ [] → Rooted st (go u)) → Rooted st (goes_on e m go)
root_goes_on st e m go h =
    root_joined st (noted_at e m) (go (only_at m)) (record { own = refl; exc = λ k. absurd (false≢true k); members = tt }) (h (only_at m) refl)

root_granted : (st : Stack) (label : Label) (here : Here) (m : ℕ) (what : What) (go : Here → Now → Result) →
    ((lent : Range) (u : Now) → u.own ≡ [] → Rooted st (go (record here { part = lent }) u)) → Rooted st (granted_result label here m what go)
root_granted st label here m a_token go h = root_goes_on st (was_granted Acquire label) m _ (λ u own. root_token_back st label _ (h here.part u own))
root_granted st label here m was_sent go h = root_goes_on st (was_granted Send label) m _ (λ u own. h here.part u own)
root_granted st label here m (a_part lent) go h = root_goes_on st (was_granted Receive label) m _ (λ u own. h lent u own)
root_granted st label here m closed_resource go h = record { own = refl; exc = λ k. absurd (false≢true k); members = tt }
root_granted st label here m end_of_channel go h = record { own = refl; exc = λ k. absurd (false≢true k); members = tt }

-- an ask is rooted where what follows it is, on whatever part it is
pub root_asking : (m : Mode) (st : Stack) (ask : Ask) (label : Option Label) (here : Here) (t : Now) (go : Here → Now → Result) → t.own ≡ [] →
    ((lent : Range) (u : Now) → u.own ≡ [] → Rooted st (go (record here { part = lent }) u)) → Rooted st (ask_result m ask label here st t go)
unfolding ask_result
root_asking m st ask None here t go none h = root_done st t none
root_asking m st ask (Some label) here t go none h = by_sight (seen (stack_for t.own t.at st.scopes) t.at) refl
  where
    left : ℕ
    left = leaves_queue (sight st.scopes) (last_grant here.clock t.at)

    by_grant : (o : Option Granted) → Rooted st (asked_result ask label here (sight st.scopes) t.at left o go)
    by_grant None = root_acted st label t.at _ _ (root_left st here left)
    by_grant (Some g) = root_acted st label t.at _ _ (root_granted st label here g.at g.what go h)

    given_up : seen (stack_for t.own t.at st.scopes) t.at ≡ true → IsTrue (seen st.scopes (gives_up_at here.clock 0 t.at))
    given_up e =
        stays_seen st.scopes t.at (gives_up_at here.clock 0 t.at) (omega (arith, round_after here.clock t.at, gives_up_after here.clock 0 t.at))
        (sym (ap (λ (ls : Levels). seen ls t.at) (ap (λ (own : List Label). stack_for own t.at st.scopes) none ∙ stack_for_none t.at st.scopes)) ∙ e)

    by_sight : (b : Bool) → seen (stack_for t.own t.at st.scopes) t.at ≡ b →
        Rooted st (if b then raised_at cancelled (only_at (gives_up_at here.clock 0 t.at)) else asks_in m ask label here st t.at go)
    by_sight true e = record { own = refl; exc = λ k. given_up e; members = tt }
    by_sight false e = by_grant (in_time t.at left (grants_in m label here.task t.at))

-- a rooted member is rooted with its sign too
pub root_signed : (st : Stack) (r : Result) → Rooted st r → Rooted st (with_sign st r)
unfolding with_sign
root_signed st r h = record { own = refl; exc = h.exc; members = h.members }

-- a member's `Cancelled` is still seen when the last member ends
pub members_hold : (st : Levels) (t : ℕ) (ms : List Member) → MembersSeen st ms → IsTrue (hold_cancelled (parts_of (excs_of ms))) →
    IsTrue (seen st (latest t ms))
members_hold st t [] h k = absurd (false≢true k)
members_hold st t (m ∷ ms) h k =
    either_one (members_hold st (max t m.end) ms h.1) (or_cases _ _ (sym (with_exc_holds m.exc (excs_of ms)) ∙ k))
  where
    last : max t m.end ≤ latest (max t m.end) ms
    last = latest_ends (max t m.end) ms

    by_then : m.end ≤ latest (max t m.end) ms
    by_then = let h = last in omega arith

    either_one : (IsTrue (hold_cancelled (parts_of (excs_of ms))) → IsTrue (seen st (latest (max t m.end) ms))) →
        IsTrue (some_cancelled m.exc) ⊎ IsTrue (hold_cancelled (parts_of (excs_of ms))) → IsTrue (seen st (latest (max t m.end) ms))
    either_one others (inl first) = stays_seen st m.end (latest (max t m.end) ms) by_then (h.0 first)
    either_one others (inr rest) = others rest

-- a nursery with a rooted body is rooted, with the group that it raises once its members have ended
pub root_gathered : (clock : Clock) (st : Stack) (label : Label) (r : Result) → Rooted st r → Rooted st (nursery_result clock label r)
unfolding nursery_result
root_gathered clock st label r h =
    record {
      own = refl;
      exc = λ k. either_one (or_cases _ _ (sym (with_exc_holds r.exc (excs_of r.members))
          ∙ (sym (group_holds (by_nursery label) (parts_of (with_exc r.exc (excs_of r.members)))) ∙ k)));
      members = tt;
    }
  where
    by_then : IsTrue (seen st.scopes (latest r.end r.members)) → IsTrue (seen st.scopes (a_round_after clock (latest r.end r.members)))
    by_then = stays_seen st.scopes (latest r.end r.members) _ (round_after clock (latest r.end r.members))

    either_one : IsTrue (some_cancelled r.exc) ⊎ IsTrue (hold_cancelled (parts_of (excs_of r.members))) →
        IsTrue (seen st.scopes (a_round_after clock (latest r.end r.members)))
    either_one (inl body) = by_then (stays_seen st.scopes r.end (latest r.end r.members) (latest_ends r.end r.members) (h.exc body))
    either_one (inr rest) = by_then (members_hold st.scopes r.end r.members h.members rest)

-- what a rooted started task leaves in its starter's walk is rooted
pub root_child : (st : Stack) (label : Label) (begins : ℕ) (r : Result) (t : Now) → t.own ≡ [] → Rooted st r →
    Rooted st (child label begins r t)
unfolding child
root_child st label begins r t none h = record { own = none; exc = λ k. absurd (false≢true k); members = (h.exc, tt) }

-- the children of a `start .. over` are rooted where each of them is
pub root_each : (st : Stack) (k : ℕ) (go : ℕ → Result) (t : Now) → t.own ≡ [] → ((i : ℕ) → Rooted st (go i)) → Rooted st (each k go t)
root_each st zero go t none h = root_done st t none
root_each st (suc k) go t none h = root_joined st (each k go t) (go k) (root_each st k go t none h) (h k)

-- passes of a `repeat`
pub root_passes : (st : Stack) (k first : ℕ) (go : ℕ → Now → Result) (t : Now) → t.own ≡ [] →
    ((i : ℕ) (u : Now) → u.own ≡ [] → Rooted st (go i u)) → Rooted st (passes first k go t)
root_passes st zero first go t none h = root_done st t none
root_passes st (suc k) first go t none h =
    root_and_then st (go first t) _ (h first t none) (λ u own. root_passes st k (suc first) go u own h)

-- a handler ends no earlier than the body, so what the body's rest holds is still seen
pub root_handled : (st : Stack) (wanted : Wanted) (r : Result) (go : Now → Result) → Rooted st r →
    ((u : Now) → u.own ≡ [] → Rooted st (go u)) → ((u : Now) → Late u.at (go u)) → Rooted st (handler_result wanted r go)
unfolding handler_result
root_handled st wanted r go h k later = by_exc r.exc h.exc
  where
    still : IsTrue (seen st.scopes r.end) → IsTrue (seen st.scopes (go (now_of r)).end)
    still s = stays_seen st.scopes r.end (go (now_of r)).end (later (now_of r)).ends s

    outcome : (o rest : Option Exc) → (IsTrue (some_cancelled o) → IsTrue (seen st.scopes (go (now_of r)).end)) →
        (IsTrue (some_cancelled rest) → IsTrue (seen st.scopes r.end)) → IsTrue (some_cancelled (handler_exc o rest)) →
        IsTrue (seen st.scopes (go (now_of r)).end)
    outcome None rest own old e = still (old e)
    outcome (Some x) None own old e = own e
    outcome (Some x) (Some y) own old e = by_part (or_cases (holds_cancelled x) (holds_cancelled y || false) e)
      where
        or_nothing : (b : Bool) → IsTrue (b || false) → IsTrue b
        or_nothing true i = i
        or_nothing false i = i

        by_part : IsTrue (holds_cancelled x) ⊎ IsTrue (holds_cancelled y || false) → IsTrue (seen st.scopes (go (now_of r)).end)
        by_part (inl a) = own a
        by_part (inr b) = still (old (or_nothing (holds_cancelled y) b))

    by_match : (o rest : Option Exc) → (IsTrue (some_cancelled rest) → IsTrue (seen st.scopes r.end)) → Rooted st (handler_if_any o rest r go)
    by_match None rest old = h
    by_match (Some e) rest old =
        record {
          own = (k (now_of r) h.own).own;
          exc = outcome (go (now_of r)).exc rest (k (now_of r) h.own).exc old;
          members =
              members_append st.scopes r.members (go (now_of r)).members h.members (k (now_of r) h.own).members;
        }

    by_exc : (o : Option Exc) → (IsTrue (some_cancelled o) → IsTrue (seen st.scopes r.end)) → Rooted st (handler_for o wanted r go)
    by_exc None old = h
    by_exc (Some e) old = by_match (keep wanted e) (drop wanted e) (λ i. old (pruned_holds e _ i))

-- a rooted result and its rooted cleanup, which ends no earlier, are rooted
pub root_cleaned : (st : Stack) (r : Result) (go : Now → Result) → Rooted st r → ((u : Now) → u.own ≡ [] → Rooted st (go u)) →
    ((u : Now) → Late u.at (go u)) → Rooted st (cleanup_result r go)
unfolding cleanup_result
root_cleaned st r go h k later =
    record {
      own = (k (now_of r) h.own).own;
      exc = outcome (go (now_of r)).exc (k (now_of r) h.own).exc;
      members =
          members_append st.scopes r.members (go (now_of r)).members h.members (k (now_of r) h.own).members;
    }
  where
    outcome : (o : Option Exc) → (IsTrue (some_cancelled o) → IsTrue (seen st.scopes (go (now_of r)).end)) →
        IsTrue (some_cancelled (outcome_after r.exc o)) → IsTrue (seen st.scopes (go (now_of r)).end)
    outcome None own e = stays_seen st.scopes r.end (go (now_of r)).end (later (now_of r)).ends (h.exc e)
    outcome (Some x) own e = own e

mutual
  unfolding walk

  -- every walk by ticks is rooted
  pub root : (m : Mode) (b : Steps) (here : Here) (st : Stack) (t : Now) → here.clock ≡ by_ticks → t.own ≡ [] → Rooted st (walk m b here st t)
  root m stop here st t ticks none = root_done st t none
  root m (step s ss) here st t ticks none =
      root_and_then st _ _ (root_step m s here st t ticks none) (λ u own. root m ss here st u ticks own)

  -- the same of one step
  pub root_step : (m : Mode) (s : Step) (here : Here) (st : Stack) (t : Now) → here.clock ≡ by_ticks → t.own ≡ [] →
      Rooted st (walk_step m s here st t)
  root_step m (sleep n) here st t ticks none = root_sleeping here.clock st _ t.at
  root_step m checkpoint here st t ticks none = root_sleeping here.clock st _ t.at
  root_step m forever here st t ticks none = root_sleeping here.clock st _ t.at
  root_step m (pace k) here st t ticks none = root_pacing here.clock st _ t.at
  root_step m (find text) here st t ticks none = root_showing st _ t none
  root_step m (head n) here st t ticks none = root_showing st _ t none
  root_step m longest here st t ticks none = root_showing st _ t none
  root_step m (need text name) here st t ticks none = root_needing st _ name here t none
  root_step m (raise name) here st t ticks none = root_raising st name here t none
  root_step m (cancel name) here st t ticks none = root_cancelling here.clock st _ t ticks none
  root_step m (set_event name) here st t ticks none = root_setting here.clock st _ t ticks none
  root_step m (wait_for name) here st t ticks none = root_awaiting here.clock st _ t none
  root_step m (ask_for name ask body) here st t ticks none =
      root_asking m st ask _ here t _ none (λ lent u own. root m body (record here { part = lent }) st u ticks own)
  root_step m (close_channel name) here st t ticks none = root_closing st _ t none
  root_step m (scope name d shield fail body) here st t ticks none =
      root_block here.clock m _ _ t.at _ shield st _ (λ from. root m body here _ t ticks none)
  root_step m (nursery name d shield body) here st t ticks none =
      root_block here.clock m _ _ t.at _ shield st _
      (λ from. root_gathered here.clock _ _ _ (root_signed _ _ (root m body here _ t ticks none)))
  root_step m (event name body) here st t ticks none =
      root_event m _ t.at st _ (λ from. root m body here _ t ticks none)
  root_step m (object name kind body) here st t ticks none =
      root_acted st _ t.at _ _ (root_event m _ t.at st _ (λ from. root m body here _ t ticks none))
  root_step m (start name None body) here st t ticks none =
      root_child st _ _ _ t none (root_signed st _ (root m body _ st (only_at (a_round_after here.clock t.at)) ticks refl))
  root_step m (start name (Some k) body) here st t ticks none =
      root_each st k _ t none
      (λ i. root_child st _ _ _ t none (root_signed st _ (root m body _ st (only_at (a_round_after here.clock t.at)) ticks refl)))
  root_step m (repeat count over body) here st t ticks none =
      root_passes st count 0 _ t none (λ i u own. root m body _ st u ticks own)
  root_step m (attempt body handler cleanup) here st t ticks none =
      root_cleanup m cleanup here st _ ticks (root_handler m handler here st _ ticks (root m body here st t ticks none))

  -- the same for a handler, if what it follows is rooted
  pub root_handler : (m : Mode) (x : Handled) (here : Here) (st : Stack) (r : Result) → here.clock ≡ by_ticks → Rooted st r →
      Rooted st (walk_handler m x here st r)
  root_handler m unhandled here st r ticks h = h
  root_handler m (except name body) here st r ticks h =
      root_handled st _ r _ h (λ u own. root m body here st u ticks own) (λ u. late m body here st u)

  -- the same for a cleanup, if what it follows is rooted
  pub root_cleanup : (m : Mode) (x : Cleaned) (here : Here) (st : Stack) (r : Result) → here.clock ≡ by_ticks → Rooted st r →
      Rooted st (walk_cleanup m x here st r)
  root_cleanup m uncleaned here st r ticks h = h
  root_cleanup m (finally body) here st r ticks h =
      root_cleaned st r _ h (λ u own. root m body here st u ticks own) (λ u. late m body here st u)

-- a walk whose exception holds a `Cancelled` ends in a tick at which its stack is seen
pub cancelled_is_seen : CancelledIsSeen
cancelled_is_seen mode steps here stack t ticks = (root mode steps here stack (only_at t) ticks refl).exc

-- so no `Cancelled` comes out of a job that goes by ticks
pub none_reaches_the_root : NoneReachesTheRoot
none_reaches_the_root mode job input ticks =
    by_cases (some_cancelled (root_walk mode job input).exc) (root mode job.steps (root_here job input) no_stack (only_at 0) ticks refl).exc
  where
    by_cases : (b : Bool) → (IsTrue b → IsTrue false) → b ≡ false
    by_cases true h = absurd (false≢true (h refl))
    by_cases false h = refl
