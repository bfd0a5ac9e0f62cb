-- If `start` occurs only directly in nurseries, a task ends no earlier than those that it started.
use Rattle.std.proofs.Common.{◌≡◌, ℕ, zero, suc, ◌≤◌, max, Bool, true, false, Option, Some, None, List, [], ◌∷◌, ◌++◌, refl, subst, arith, nat_le, nat_lt, if◌then◌else◌}
use Rattle.std.specs.Prelude.{codes}
use Rattle.job_tree.specs.Tree.{Step, sleep, checkpoint, forever, pace, find, head, longest, need, raise, cancel, set_event, wait_for, ask_for, close_channel, scope, nursery, event, object, start, repeat, attempt, Steps, stop, step, Handled, unhandled, except, Cleaned, uncleaned, finally}
use Rattle.job_tree.specs.declared.object.Ask.{Ask}
use Rattle.job_tree.specs.Starting.{StartsIn, StartsAt, HandlerStarts, CleanupStarts}
use Rattle.input_lines.specs.Lines.{Span}
use Rattle.exceptions.specs.Exceptions.{Label, Exc, cancelled, raised}
use Rattle.exceptions.specs.Split.{Wanted, keep, drop}
use Rattle.cancel_scopes.specs.Sight.{Tick, Level, is_reached, sight, seen}
use Rattle.job_tree.specs.declared.object.Ask.TheVariants.{Acquire, Send, Receive}
use Rattle.job_meaning.specs.Log.{Log, nil, entry, sign, entered, Act, gives_back, closes, act, task, followed_by, Member, Result, Entry, was_granted}
use Rattle.job_meaning.specs.Sharing.{What, a_token, was_sent, a_part, closed_resource, end_of_channel, Granted}
use Rattle.job_meaning.specs.Moments.{tick_of, a_round_after, wakes_at, gives_up_at, Now, only_at}
use Rattle.job_meaning.specs.declared.clock.Clock.{Clock}
use Rattle.job_meaning.specs.Walk.{Stack, Mode, grants_in, Here, walk, walk_step, walk_handler, walk_cleanup, done_at, raised_at, now_of, in_sequence, and_then, then_if, wait_by_sight, sleep_result, pace_result, wait_until, set_moment, wait_by, with_line_if, with_line, event_wait, log_of_lines, lines_result, need_result, raise_result, cancel_result, set_result, sign_of, stack_for, with_act, close_result, with_token_back, last_grant, leaves_queue, in_time, left_result, goes_on, granted_result, asked_result, asks_in, ask_result, Kind, from_of, block, event_block, with_sign, sign_if, home_of, latest, nursery_result, child, each, handler_result, handler_for, handler_if_any, cleanup_result, passes}
use Rattle.job_meaning.proofs.MomentLemmas.{round_after}
use Rattle.job_meaning.proofs.Late.{Late, late, noted_at, late_token_back, latest_ends, child_ends, each_ends, late_passes}

-- each task of a log ends by e, and those that it started by its end
abbrev pub Inside : ℕ → Log → Type 0
Inside e nil = Unit {0}
Inside e (entry t x rest) = Inside e rest
Inside e (sign l t rest) = Inside e rest
Inside e (entered l t d rest) = Inside e rest
Inside e (act label moment done rest) = Inside e rest
Inside e (task l s u x own rest) = (u ≤ e) × Inside u own × Inside e rest

-- so of two logs together, and of the first of them
pub inside_followed : (e : ℕ) (a b : Log) → Inside e a → Inside e b → Inside e (followed_by a b)
inside_followed e nil b h k = k
inside_followed e (entry t x rest) b h k = inside_followed e rest b h k
inside_followed e (sign l t rest) b h k = inside_followed e rest b h k
inside_followed e (entered l t d rest) b h k = inside_followed e rest b h k
inside_followed e (act label moment done rest) b h k = inside_followed e rest b h k
inside_followed e (task l s u x own rest) b h k = (h.0, h.1, inside_followed e rest b h.2 k)

-- where each task of two logs together ends by e, and those that it started by its end, so it is in the first
pub inside_first : (e : ℕ) (a b : Log) → Inside e (followed_by a b) → Inside e a
inside_first e nil b h = tt
inside_first e (entry t x rest) b h = inside_first e rest b h
inside_first e (sign l t rest) b h = inside_first e rest b h
inside_first e (entered l t d rest) b h = inside_first e rest b h
inside_first e (act label moment done rest) b h = inside_first e rest b h
inside_first e (task l s u x own rest) b h = (h.0, h.1, inside_first e rest b h.2)

inside_later : (e f : ℕ) (a : Log) → e ≤ f → Inside e a → Inside f a
inside_later e f nil le h = tt
inside_later e f (entry t x rest) le h = inside_later e f rest le h
inside_later e f (sign l t rest) le h = inside_later e f rest le h
inside_later e f (entered l t d rest) le h = inside_later e f rest le h
inside_later e f (act label moment done rest) le h = inside_later e f rest le h
inside_later e f (task l s u x own rest) le h = (by h.0, h.1, inside_later e f rest le h.2)
  where
    by : u ≤ e → u ≤ f
    by k = omega arith

latest_append : (t : ℕ) (a b : List Member) → latest t (a ++ b) ≡ latest (latest t a) b
latest_append t [] b = refl
latest_append t (m ∷ a) b = latest_append (max t m.end) a b

latest_later : (t u : ℕ) (a : List Member) → t ≤ u → latest t a ≤ latest u a
latest_later t u [] le = le
latest_later t u (m ∷ a) le = latest_later (max t m.end) (max u m.end) a (omega arith)

-- all that a walk started ends by its end, or with a member of the nursery that is still open; and outside of a
-- nursery's body no member is open
record Ends (body : Bool) (r : Result) : Type 0 where
  inside : Inside (latest r.end r.members) r.log
  closed : body ≡ false → r.members ≡ []

ends_joined : (body : Bool) (r q : Result) → Ends body r → Ends body q → r.end ≤ q.end → Ends body (in_sequence r q)
ends_joined body r q h k le = record {
  inside =
      (let a : latest r.end r.members ≤ latest q.end r.members = latest_later r.end q.end r.members le in
      let b : latest q.end r.members ≤ latest (latest q.end r.members) q.members = latest_ends (latest q.end r.members) q.members in
      let c : q.end ≤ latest q.end r.members = latest_ends q.end r.members in
      let d : latest q.end q.members ≤ latest (latest q.end r.members) q.members =
      latest_later q.end (latest q.end r.members) q.members c in
      let e : latest q.end (r.members ++ q.members) ≡ latest (latest q.end r.members) q.members = latest_append q.end r.members q.members in
      inside_followed (latest q.end (r.members ++ q.members)) r.log q.log
      (inside_later (latest r.end r.members) _ r.log (omega arith) h.inside)
      (inside_later (latest q.end q.members) _ q.log (omega arith) k.inside));
  closed = λ e. (λ i. h.closed e i ++ k.closed e i);
}

ends_then : (body : Bool) (r : Result) (go : Now → Result) → Ends body r → ((u : Now) → Ends body (go u)) → ((u : Now) → Late u.at (go u)) →
    Ends body (and_then r go)
unfolding and_then
ends_then body r go h k l = by_exc r.exc
  where
    by_exc : (o : Option Exc) → Ends body (then_if o r go)
    by_exc None = ends_joined body r (go (now_of r)) h (k (now_of r)) (l (now_of r)).ends
    by_exc (Some e) = h

ends_done : (body : Bool) (t : Now) → Ends body (done_at t)
ends_done body t = record { inside = tt; closed = λ e. refl }

ends_raised : (body : Bool) (e : Exc) (t : Now) → Ends body (raised_at e t)
ends_raised body e t = record { inside = tt; closed = λ e. refl }

ends_waiting : (body : Bool) (a : Tick) (least gives_up end : ℕ) → Ends body (wait_by_sight a least gives_up end)
ends_waiting body None least gives_up end = ends_done body (only_at end)
ends_waiting body (Some from) least gives_up end = by_now (nat_le from least) (nat_le from end)
  where
    by_now : (now due : Bool) → Ends body (if now then raised_at cancelled (only_at gives_up) else
        (if due then raised_at cancelled (only_at from) else done_at (only_at end)))
    by_now true due = ends_raised body cancelled (only_at gives_up)
    by_now false true = ends_raised body cancelled (only_at from)
    by_now false false = ends_done body (only_at end)

ends_sleeping : (body : Bool) (clock : Clock) (st : Stack) (n t : ℕ) → Ends body (sleep_result clock st n t)
unfolding sleep_result
ends_sleeping body clock st n t = ends_waiting body (sight st.scopes) (a_round_after clock t) (gives_up_at clock n t) (wakes_at clock n t)

ends_pacing : (body : Bool) (clock : Clock) (st : Stack) (n t : ℕ) → Ends body (pace_result clock st n t)
unfolding pace_result
ends_pacing body clock st n t = ends_waiting body (sight st.scopes) (a_round_after clock t) (a_round_after clock t) (wakes_at clock n t)

ends_until : (body : Bool) (a : Tick) (least end : ℕ) → Ends body (wait_until a least end)
ends_until body None least end = ends_done body (only_at end)
ends_until body (Some from) least end = by_order (nat_lt from end)
  where
    by_order : (b : Bool) → Ends body (if b then raised_at cancelled (only_at (max least from)) else done_at (only_at end))
    by_order true = ends_raised body cancelled (only_at (max least from))
    by_order false = ends_done body (only_at end)

ends_set : (body : Bool) (clock : Clock) (st : Stack) (set t : ℕ) → Ends body (wait_by clock st set t)
ends_set body clock st set t = by_round (nat_le set (a_round_after clock t))
  where
    by_round : (b : Bool) → Ends body (if b then sleep_result clock st 0 t else wait_until (sight st.scopes) (a_round_after clock t) set)
    by_round true = ends_sleeping body clock st 0 t
    by_round false = ends_until body (sight st.scopes) (a_round_after clock t) set

ends_lined : (body : Bool) (label : Label) (r : Result) → Ends body r → Ends body (with_line label r)
ends_lined body label r h = by_exc r.exc
  where
    by_exc : (o : Option Exc) → Ends body (with_line_if o label r)
    by_exc None = record { inside = tt; closed = h.closed }
    by_exc (Some e) = h

ends_awaiting : (body : Bool) (clock : Clock) (st : Stack) (level : Option (Level Label)) (t : Now) → Ends body (event_wait clock st level t)
unfolding event_wait
ends_awaiting body clock st None t = ends_done body t
ends_awaiting body clock st (Some l) t = ends_lined body l.label _ (ends_set body clock st (set_moment clock l.from t.at) t.at)

inside_lines : (e t : ℕ) (ls : List Span) → Inside e (log_of_lines t ls)
inside_lines e t [] = tt
inside_lines e t (l ∷ ls) = inside_lines e t ls

ends_showing : (body : Bool) (ls : List Span) (t : Now) → Ends body (lines_result ls t)
unfolding lines_result
ends_showing body ls t = record { inside = inside_lines t.at t.at ls; closed = λ e. refl }

ends_raising : (body : Bool) (name : List ℕ) (here : Here) (t : Now) → Ends body (raise_result name here t)
unfolding raise_result
ends_raising body name here t = record { inside = tt; closed = λ e. refl }

ends_needing : (body : Bool) (found : Option Span) (name : List ℕ) (here : Here) (t : Now) → Ends body (need_result found name here t)
unfolding need_result
ends_needing body (Some l) name here t = ends_showing body (l ∷ []) t
ends_needing body None name here t = ends_raising body name here t

inside_sign : (e : ℕ) (o : Option Label) (t : ℕ) → Inside e (sign_of o t)
inside_sign e None t = tt
inside_sign e (Some l) t = tt

inside_sign_if : (e : ℕ) (x : Option Exc) (o : Option Label) (t : ℕ) → Inside e (sign_if x o t)
inside_sign_if e None o t = tt
inside_sign_if e (Some x) o t = inside_sign e o t

ends_cancelling : (body : Bool) (clock : Clock) (o : Option Label) (t : Now) → Ends body (cancel_result clock o t)
unfolding cancel_result
ends_cancelling body clock o t = record { inside = inside_sign t.at o t.at; closed = λ e. refl }

ends_setting : (body : Bool) (clock : Clock) (o : Option Label) (t : Now) → Ends body (set_result clock o t)
unfolding set_result
ends_setting body clock o t = record { inside = inside_sign t.at o t.at; closed = λ e. refl }

-- with no member open all ends by the end
inside_closed : (r : Result) → Ends false r → Inside r.end r.log
inside_closed r h = subst (λ (ms : List Member). Inside (latest r.end ms) r.log) (h.closed refl) h.inside

ends_block : (body : Bool) (clock : Clock) (m : Mode) (kind : Kind) (label : Label) (t : ℕ) (d : Tick) (shield : Bool) (st : Stack)
    (inside : Tick → Result) →
    ((f : Tick) → Ends false (inside f)) → Ends body (block clock m kind label t d shield st inside)
unfolding block
ends_block body clock m kind label t d shield st inside h =
    let f : Tick = from_of m label d inside in
    record {
      inside = inside_followed (inside f).end (inside f).log (entry (inside f).end _ nil) (inside_closed (inside f) (h f)) tt;
      closed = λ e. refl;
    }

ends_event : (body : Bool) (m : Mode) (label : Label) (t : ℕ) (inside : Tick → Result) → ((f : Tick) → Ends body (inside f)) →
    Ends body (event_block m label t inside)
unfolding event_block
ends_event body m label t inside h =
    let inner : Ends body (inside (from_of m label None inside)) = h (from_of m label None inside) in
    record { inside = inner.inside; closed = inner.closed }

ends_signed : (body : Bool) (st : Stack) (r : Result) → Ends body r → Ends body (with_sign st r)
unfolding with_sign
ends_signed body st r h = record {
  inside = inside_followed (latest r.end r.members) r.log _ h.inside
      (inside_sign_if (latest r.end r.members) r.exc (home_of st.scopes) r.end);
  closed = h.closed;
}

ends_gathered : (body : Bool) (clock : Clock) (label : Label) (r : Result) → Ends true r → Ends body (nursery_result clock label r)
unfolding nursery_result
ends_gathered body clock label r h = record {
  inside = inside_later (latest r.end r.members) (a_round_after clock (latest r.end r.members)) r.log
      (round_after clock (latest r.end r.members)) h.inside;
  closed = λ e. refl;
}

ends_child : (label : Label) (begins : ℕ) (r : Result) (t : Now) → Ends false r → Ends true (child label begins r t)
unfolding child
ends_child label begins r t h = record { inside = (omega arith, inside_closed r h, tt); closed = λ e. cc }

ends_each : (k : ℕ) (go : ℕ → Result) (t : Now) → ((i : ℕ) → (go i).end ≡ t.at) → ((i : ℕ) → Ends true (go i)) → Ends true (each k go t)
ends_each zero go t e h = ends_done true t
ends_each (suc k) go t e h =
    let a : (each k go t).end ≡ t.at = each_ends k go t e in
    let b : (go k).end ≡ t.at = e k in
    ends_joined true (each k go t) (go k) (ends_each k go t e h) (h k) (omega arith)

ends_passes : (body : Bool) (k first : ℕ) (go : ℕ → Now → Result) (t : Now) → ((i : ℕ) (u : Now) → Ends body (go i u)) →
    ((i : ℕ) (u : Now) → Late u.at (go i u)) →
    Ends body (passes first k go t)
ends_passes body zero first go t h l = ends_done body t
ends_passes body (suc k) first go t h l =
    ends_then body (go first t) _ (h first t) (λ u. ends_passes body k (suc first) go u h l) (λ u. late_passes k (suc first) go u l)

ends_handled : (body : Bool) (wanted : Wanted) (r : Result) (go : Now → Result) → Ends body r → ((u : Now) → Ends body (go u)) →
    ((u : Now) → Late u.at (go u)) → Ends body (handler_result wanted r go)
unfolding handler_result
ends_handled body wanted r go h k l = by_exc r.exc
  where
    both : Ends body (in_sequence r (go (now_of r)))
    both = ends_joined body r (go (now_of r)) h (k (now_of r)) (l (now_of r)).ends

    by_match : (o rest : Option Exc) → Ends body (handler_if_any o rest r go)
    by_match None rest = h
    by_match (Some e) rest = record { inside = both.inside; closed = both.closed }

    by_exc : (o : Option Exc) → Ends body (handler_for o wanted r go)
    by_exc None = h
    by_exc (Some e) = by_match (keep wanted e) (drop wanted e)

ends_cleaned : (body : Bool) (r : Result) (go : Now → Result) → Ends body r → ((u : Now) → Ends body (go u)) → ((u : Now) → Late u.at (go u)) →
    Ends body (cleanup_result r go)
unfolding cleanup_result
ends_cleaned body r go h k l =
    let both : Ends body (in_sequence r (go (now_of r))) = ends_joined body r (go (now_of r)) h (k (now_of r)) (l (now_of r)).ends in
    record { inside = both.inside; closed = both.closed }

-- what was granted is noted, and what follows ends likewise
ends_goes_on : (body : Bool) (e : Entry) (m : ℕ) (go : Now → Result) → ((u : Now) → Ends body (go u)) → ((u : Now) → Late u.at (go u)) →
    Ends body (goes_on e m go)
ends_goes_on body e m go h l = ends_joined body (noted_at e m) (go (only_at m)) noted (h (only_at m)) (l (only_at m)).ends
  where
    noted : Ends body (noted_at e m)
    noted = record { inside = tt; closed = λ e. refl }

-- so does a block whose token comes back
ends_token_back : (body : Bool) (label : Label) (r : Result) → Ends body r → Ends body (with_token_back label r)
unfolding with_token_back
ends_token_back body label r h = record {
  inside = inside_followed (latest r.end r.members) r.log (act label r.end gives_back nil) h.inside tt;
  closed = h.closed;
}

-- what a task does with what it is granted
ends_granted : (body : Bool) (label : Label) (here : Here) (m : ℕ) (what : What) (go : Here → Now → Result) →
    ((inner : Here) (u : Now) → Ends body (go inner u)) → ((inner : Here) (u : Now) → Late u.at (go inner u)) →
    Ends body (granted_result label here m what go)
ends_granted body label here m a_token go h l =
    ends_goes_on body (was_granted Acquire label) m _ (λ u. ends_token_back body label _ (h here u)) (λ u. late_token_back u.at label _ (l here u))
ends_granted body label here m was_sent go h l = ends_goes_on body (was_granted Send label) m _ (λ u. h here u) (λ u. l here u)
ends_granted body label here m (a_part lent) go h l =
    ends_goes_on body (was_granted Receive label) m _ (λ u. h (record here { part = lent }) u) (λ u. l (record here { part = lent }) u)
ends_granted body label here m closed_resource go h l = ends_raised body _ (only_at m)
ends_granted body label here m end_of_channel go h l = ends_raised body _ (only_at m)

-- who leaves the queue starts nothing
ends_leaving : (body : Bool) (here : Here) (from : Tick) (left : ℕ) → Ends body (left_result here from left)
ends_leaving body here from left = by_sight (is_reached from left)
  where
    by_sight : (b : Bool) → Ends body (if b then raised_at cancelled (only_at left)
        else raised_at (raised (codes "Deadlock") here.task (tick_of here.clock left)) (only_at left))
    by_sight true = ends_raised body _ (only_at left)
    by_sight false = ends_raised body _ (only_at left)

-- an act starts nothing
ends_acted : (body : Bool) (label : Label) (m : ℕ) (a : Act) (r : Result) → Ends body r → Ends body (with_act label m a r)
ends_acted body label m a r h = record { inside = h.inside; closed = h.closed }

ends_asked : (body : Bool) (ask : Ask) (label : Label) (here : Here) (from : Tick) (m left : ℕ) (o : Option Granted) (go : Here → Now → Result) →
    ((inner : Here) (u : Now) → Ends body (go inner u)) → ((inner : Here) (u : Now) → Late u.at (go inner u)) →
    Ends body (asked_result ask label here from m left o go)
ends_asked body ask label here from m left None go h l = ends_acted body label m _ _ (ends_leaving body here from left)
ends_asked body ask label here from m left (Some g) go h l = ends_acted body label m _ _ (ends_granted body label here g.at g.what go h l)

ends_asking : (body : Bool) (m : Mode) (ask : Ask) (label : Option Label) (here : Here) (st : Stack) (t : Now) (go : Here → Now → Result) →
    ((inner : Here) (u : Now) → Ends body (go inner u)) → ((inner : Here) (u : Now) → Late u.at (go inner u)) →
    Ends body (ask_result m ask label here st t go)
unfolding ask_result
ends_asking body m ask None here st t go h l = ends_done body t
ends_asking body m ask (Some label) here st t go h l = by_sight (seen (stack_for t.own t.at st.scopes) t.at)
  where
    left : ℕ
    left = leaves_queue (sight st.scopes) (last_grant here.clock t.at)

    by_sight : (b : Bool) →
        Ends body (if b then raised_at cancelled (only_at (gives_up_at here.clock 0 t.at)) else asks_in m ask label here st t.at go)
    by_sight true = ends_raised body cancelled (only_at (gives_up_at here.clock 0 t.at))
    by_sight false = ends_asked body ask label here (sight st.scopes) t.at left (in_time t.at left (grants_in m label here.task t.at)) go h l

ends_closing : (body : Bool) (label : Option Label) (t : Now) → Ends body (close_result label t)
unfolding close_result
ends_closing body None t = ends_done body t
ends_closing body (Some label) t = ends_acted body label t.at closes (done_at t) (ends_done body t)

-- outside of a nursery's body nothing is open, so in one too
ends_in : (body : Bool) (r : Result) → Ends false r → Ends body r
ends_in body r h = record { inside = h.inside; closed = λ e. h.closed refl }

mutual
  unfolding walk

  ends : (m : Mode) (body : Bool) (b : Steps) (here : Here) (st : Stack) (t : Now) → StartsIn body b → Ends body (walk m b here st t)
  ends m body stop here st t p = ends_done body t
  ends m body (step s ss) here st t p =
      ends_then body _ _ (ends_step m body s here st t p.0) (λ u. ends m body ss here st u p.1) (λ u. late m ss here st u)

  ends_step : (m : Mode) (body : Bool) (s : Step) (here : Here) (st : Stack) (t : Now) → StartsAt body s → Ends body (walk_step m s here st t)
  ends_step m body (sleep n) here st t p = ends_sleeping body here.clock st _ t.at
  ends_step m body checkpoint here st t p = ends_sleeping body here.clock st _ t.at
  ends_step m body forever here st t p = ends_sleeping body here.clock st _ t.at
  ends_step m body (pace k) here st t p = ends_pacing body here.clock st _ t.at
  ends_step m body (find text) here st t p = ends_showing body _ t
  ends_step m body (head n) here st t p = ends_showing body _ t
  ends_step m body longest here st t p = ends_showing body _ t
  ends_step m body (need text name) here st t p = ends_needing body _ name here t
  ends_step m body (raise name) here st t p = ends_raising body name here t
  ends_step m body (cancel name) here st t p = ends_cancelling body here.clock _ t
  ends_step m body (set_event name) here st t p = ends_setting body here.clock _ t
  ends_step m body (wait_for name) here st t p = ends_awaiting body here.clock st _ t
  ends_step m body (ask_for name ask b) here st t p =
      ends_in body _ (ends_asking false m ask _ here st t _ (λ inner u. ends m false b inner st u p) (λ inner u. late m b inner st u))
  ends_step m body (close_channel name) here st t p = ends_closing body _ t
  ends_step m body (scope name d shield fail b) here st t p = ends_block body here.clock m _ _ t.at _ shield st _ (λ f. ends m false b here _ t p)
  ends_step m body (nursery name d shield b) here st t p =
      ends_block body here.clock m _ _ t.at _ shield st _ (λ f. ends_gathered false here.clock _ _ (ends_signed true _ _ (ends m true b here _ t p)))
  ends_step m body (event name b) here st t p = ends_event body m _ t.at _ (λ f. ends_in body _ (ends m false b here _ t p))
  ends_step m body (object name kind b) here st t p =
      ends_acted body _ t.at _ _ (ends_event body m _ t.at _ (λ f. ends_in body _ (ends m false b here _ t p)))
  ends_step m true (start name None b) here st t p = ends_child _ _ _ t (ends_signed false st _ (ends m false b _ st (only_at (a_round_after here.clock t.at)) p.1))
  ends_step m true (start name (Some k) b) here st t p =
      ends_each k _ t (λ i. child_ends _ (a_round_after here.clock t.at) _ t)
      (λ i. ends_child _ (a_round_after here.clock t.at) _ t (ends_signed false st _ (ends m false b _ st (only_at (a_round_after here.clock t.at)) p.1)))
  ends_step m false (start name over b) here st t p = cc
  ends_step m body (repeat count false b) here st t p =
      ends_passes body count 0 _ t (λ i u. ends m body b _ st u p) (λ i u. late m b _ st u)
  ends_step m body (repeat count true b) here st t p =
      ends_in body _ (ends_passes false count 0 _ t (λ i u. ends m false b _ st u p) (λ i u. late m b _ st u))
  ends_step m body (attempt b handler cleanup) here st t p =
      ends_cleanup m body cleanup here st _ p.2 (ends_handler m body handler here st _ p.1 (ends_in body _ (ends m false b here st t p.0)))

  ends_handler : (m : Mode) (body : Bool) (x : Handled) (here : Here) (st : Stack) (r : Result) → HandlerStarts x → Ends body r →
      Ends body (walk_handler m x here st r)
  ends_handler m body unhandled here st r p h = h
  ends_handler m body (except name b) here st r p h =
      ends_handled body _ r _ h (λ u. ends_in body _ (ends m false b here st u p)) (λ u. late m b here st u)

  ends_cleanup : (m : Mode) (body : Bool) (x : Cleaned) (here : Here) (st : Stack) (r : Result) → CleanupStarts x → Ends body r →
      Ends body (walk_cleanup m x here st r)
  ends_cleanup m body uncleaned here st r p h = h
  ends_cleanup m body (finally b) here st r p h =
      ends_cleaned body r _ h (λ u. ends_in body _ (ends m false b here st u p)) (λ u. late m b here st u)

-- each task of a job's walk ends by the end of the root
pub ends_by_root : (m : Mode) (b : Steps) (here : Here) (st : Stack) (t : Now) → StartsIn false b →
    Inside (walk m b here st t).end (walk m b here st t).log
ends_by_root m b here st t p = inside_closed _ (ends m false b here st t p)
