-- A walk ends no earlier than it starts, and all that it notes has a tick from its start on.
use Rattle.std.proofs.Common.{◌≡◌, ℕ, zero, suc, ◌≤◌, max, Bool, true, false, ◌&&◌, Option, Some, None, List, [], ◌∷◌, refl, sym, ◌∙◌, subst, IsTrue, arith, nat_le, nat_lt, if◌then◌else◌}
use Rattle.std.specs.Prelude.{codes}
use Rattle.std.proofs.lemmas.Bool.Decides.{nat_tests}
use Rattle.job_tree.specs.Tree.{Step, sleep, checkpoint, forever, pace, find, head, longest, need, raise, cancel, set_event, wait_for, ask_for, close_channel, scope, nursery, event, object, start, repeat, attempt, Steps, stop, step, Handled, unhandled, except, Cleaned, uncleaned, finally}
use Rattle.job_tree.specs.declared.object.Ask.{Ask}
use Rattle.input_lines.specs.Lines.{Span}
use Rattle.exceptions.specs.Exceptions.{Label, Exc, cancelled, raised}
use Rattle.exceptions.specs.Split.{Wanted, keep, drop}
use Rattle.cancel_scopes.specs.Sight.{Tick, Level, earlier, is_reached, sight, seen}
use Rattle.job_tree.specs.declared.object.Ask.TheVariants.{Acquire, Send, Receive}
use Rattle.job_meaning.specs.Log.{Log, nil, entry, sign, entered, Act, act, task, followed_by, Member, Result, Entry, was_granted}
use Rattle.job_meaning.specs.Sharing.{What, a_token, was_sent, a_part, closed_resource, end_of_channel, Granted, granted_if}
use Rattle.job_meaning.specs.Moments.{tick_of, a_round_after, wakes_at, gives_up_at, Now, only_at}
use Rattle.job_meaning.specs.declared.clock.Clock.{Clock}
use Rattle.job_meaning.proofs.MomentLemmas.{round_after, wakes_after, gives_up_after, last_grant_later}
use Rattle.job_meaning.proofs.Ticks.{lowering_shows}
use Rattle.job_meaning.specs.Laws.{AtMost, Lowered}
use Rattle.job_meaning.specs.Walk.{Levels, Stack, Mode, grants_in, Here, walk, walk_step, walk_handler, walk_cleanup, done_at, raised_at, now_of, in_sequence, and_then, then_if, wait_by_sight, sleep_result, pace_result, wait_until, set_moment, wait_by, with_line_if, with_line, event_wait, log_of_lines, lines_result, raise_result, need_result, cancel_result, set_result, is_among, stack_for, Kind, from_of, block, event_block, with_act, close_result, with_token_back, last_grant, leaves_queue, in_time, left_result, goes_on, granted_result, asked_result, asks_in, ask_result, with_sign, sign_if, home_of, latest, nursery_result, child, each, passes, handler_result, handler_for, handler_if_any, cleanup_result}

-- all that is in a log is at tick t or later
abbrev pub Timed : ℕ → Log → Type 0
Timed t nil = Unit {0}
Timed t (entry u e rest) = (t ≤ u) × Timed t rest
Timed t (sign l u rest) = (t ≤ u) × Timed t rest
Timed t (entered l u d rest) = (t ≤ u) × Timed t rest
Timed t (act l u a rest) = (t ≤ u) × Timed t rest
Timed t (task l u v e own rest) = (t ≤ u) × (u ≤ v) × Timed u own × Timed t rest

-- one log after another
pub timed_followed : (t : ℕ) (a b : Log) → Timed t a → Timed t b → Timed t (followed_by a b)
timed_followed t nil b h k = k
timed_followed t (entry u e rest) b h k = (h.0, timed_followed t rest b h.1 k)
timed_followed t (sign l u rest) b h k = (h.0, timed_followed t rest b h.1 k)
timed_followed t (entered l u d rest) b h k = (h.0, timed_followed t rest b h.1 k)
timed_followed t (act l u a rest) b h k = (h.0, timed_followed t rest b h.1 k)
timed_followed t (task l u v e own rest) b h k = (h.0, h.1, h.2, timed_followed t rest b h.3 k)

-- what is timed from a tick on is timed from an earlier one on
pub timed_earlier : (t u : ℕ) (a : Log) → t ≤ u → Timed u a → Timed t a
timed_earlier t u nil le h = tt
timed_earlier t u (entry v e rest) le h = (earlier_still h.0, timed_earlier t u rest le h.1)
  where
    earlier_still : u ≤ v → t ≤ v
    earlier_still k = omega arith
timed_earlier t u (sign l v rest) le h = (earlier_still h.0, timed_earlier t u rest le h.1)
  where
    earlier_still : u ≤ v → t ≤ v
    earlier_still k = omega arith
timed_earlier t u (entered l v d rest) le h = (earlier_still h.0, timed_earlier t u rest le h.1)
  where
    earlier_still : u ≤ v → t ≤ v
    earlier_still k = omega arith
timed_earlier t u (act l v a rest) le h = (earlier_still h.0, timed_earlier t u rest le h.1)
  where
    earlier_still : u ≤ v → t ≤ v
    earlier_still k = omega arith
timed_earlier t u (task l v w e own rest) le h = (earlier_still h.0, h.1, h.2, timed_earlier t u rest le h.3)
  where
    earlier_still : u ≤ v → t ≤ v
    earlier_still k = omega arith

-- the walk that started at tick t ends then or later, and notes nothing earlier
pub record Late (t : ℕ) (r : Result) : Type 0 where
  pub ends : t ≤ r.end
  pub timed : Timed t r.log

-- one after another
pub late_joined : (t : ℕ) (r q : Result) → Late t r → Late r.end q → Late t (in_sequence r q)
late_joined t r q h k =
    let first : t ≤ r.end = h.ends in
    let second : r.end ≤ q.end = k.ends in
    record {
      ends = omega arith;
      timed = timed_followed t r.log q.log h.timed (timed_earlier t r.end q.log h.ends k.timed);
    }

-- a late walk that continues with late ones is late as a whole
pub late_and_then : (t : ℕ) (r : Result) (go : Now → Result) → Late t r → ((u : Now) → Late u.at (go u)) → Late t (and_then r go)
unfolding and_then
late_and_then t r go h k = by_exc r.exc
  where
    by_exc : (o : Option Exc) → Late t (then_if o r go)
    by_exc None = late_joined t r (go (now_of r)) h (k (now_of r))
    by_exc (Some e) = h

-- where nothing happens until tick t or later, that is late
pub late_done : (t : ℕ) (u : Now) → t ≤ u.at → Late t (done_at u)
late_done t u le = record { ends = le; timed = tt }

-- an exception in tick t or later is late
pub late_raised : (e : Exc) (t : ℕ) (u : Now) → t ≤ u.at → Late t (raised_at e u)
late_raised e t u le = record { ends = le; timed = tt }

-- a wait ends when it is due, or at the first moment at which a cancellation is seen, or when it gives up
pub late_waited : (a : Tick) (least gives_up end t : ℕ) → t ≤ least → least ≤ gives_up → least ≤ end → Late t (wait_by_sight a least gives_up end)
late_waited None least gives_up end t lo mid hi = late_done t (only_at end) (omega arith)
late_waited (Some from) least gives_up end t lo mid hi = by_now (nat_le from least) (nat_le from end) refl
  where
    by_now : (now due : Bool) → nat_le from least ≡ now →
        Late t (if now then raised_at cancelled (only_at gives_up) else (if due then raised_at cancelled (only_at from) else done_at (only_at end)))
    by_now true due e = late_raised cancelled t (only_at gives_up) (omega arith)
    by_now false true e = late_raised cancelled t (only_at from) (grind (arith, nat_tests))
    by_now false false e = late_done t (only_at end) (omega arith)

-- a sleep on a stack is late
pub late_sleeping : (clock : Clock) (st : Stack) (n t : ℕ) → Late t (sleep_result clock st n t)
unfolding sleep_result
late_sleeping clock st n t =
    late_waited (sight st.scopes) (a_round_after clock t) (gives_up_at clock n t) (wakes_at clock n t) t (round_after clock t) (gives_up_after clock n t) (wakes_after clock n t)

pub late_pacing : (clock : Clock) (st : Stack) (n t : ℕ) → Late t (pace_result clock st n t)
unfolding pace_result
late_pacing clock st n t =
    late_waited (sight st.scopes) (a_round_after clock t) (a_round_after clock t) (wakes_at clock n t) t (round_after clock t) (omega arith) (wakes_after clock n t)

-- so is a wait that ends in a later moment, or with a cancellation
pub late_until : (a : Tick) (least end t : ℕ) → t ≤ least → t ≤ end → Late t (wait_until a least end)
late_until None least end t lo hi = late_done t (only_at end) hi
late_until (Some from) least end t lo hi = by_order (nat_lt from end)
  where
    by_order : (b : Bool) → Late t (if b then raised_at cancelled (only_at (max least from)) else done_at (only_at end))
    by_order true = late_raised cancelled t (only_at (max least from)) (omega arith)
    by_order false = late_done t (only_at end) hi

-- a wait for what is set in a moment is late
pub late_set : (clock : Clock) (st : Stack) (set t : ℕ) → Late t (wait_by clock st set t)
late_set clock st set t = by_round (nat_le set (a_round_after clock t)) refl
  where
    by_round : (b : Bool) → nat_le set (a_round_after clock t) ≡ b →
        Late t (if b then sleep_result clock st 0 t else wait_until (sight st.scopes) (a_round_after clock t) set)
    by_round true e = late_sleeping clock st 0 t
    by_round false e =
        late_until (sight st.scopes) (a_round_after clock t) set t (round_after clock t) (grind (arith, nat_tests, round_after clock t))

-- a line that is noted at the end is late
pub late_lined : (t : ℕ) (label : Label) (r : Result) → Late t r → Late t (with_line label r)
late_lined t label r h = by_exc r.exc
  where
    by_exc : (o : Option Exc) → Late t (with_line_if o label r)
    by_exc None = record { ends = h.ends; timed = (h.ends, tt) }
    by_exc (Some e) = h

-- a wait for an event is late
pub late_awaiting : (clock : Clock) (st : Stack) (level : Option (Level Label)) (t : Now) → Late t.at (event_wait clock st level t)
unfolding event_wait
late_awaiting clock st None t = late_done t.at t (omega arith)
late_awaiting clock st (Some l) t = late_lined t.at l.label _ (late_set clock st (set_moment clock l.from t.at) t.at)

-- what is noted of lines in a tick has no earlier tick
pub timed_lines : (ls : List Span) (t : ℕ) → Timed t (log_of_lines t ls)
timed_lines [] t = tt
timed_lines (l ∷ ls) t = (omega arith, timed_lines ls t)

-- lines that are shown are late
pub late_showing : (ls : List Span) (t : Now) → Late t.at (lines_result ls t)
unfolding lines_result
late_showing ls t = record { ends = omega arith; timed = timed_lines ls t.at }

-- a `need` is late, whether its line is found or not
pub late_needing : (found : Option Span) (name : List ℕ) (here : Here) (t : Now) → Late t.at (need_result found name here t)
unfolding need_result raise_result
late_needing (Some l) name here t = late_showing (l ∷ []) t
late_needing None name here t = record { ends = omega arith; timed = tt }

-- an exception that is raised here is late
pub late_raising : (name : List ℕ) (here : Here) (t : Now) → Late t.at (raise_result name here t)
unfolding raise_result
late_raising name here t = late_raised _ t.at t (omega arith)

-- a `cancel` is late, whether its name is found or not
pub late_cancelling : (clock : Clock) (label : Option Label) (t : Now) → Late t.at (cancel_result clock label t)
unfolding cancel_result
late_cancelling clock None t = record { ends = omega arith; timed = tt }
late_cancelling clock (Some l) t = record { ends = omega arith; timed = (omega arith, tt) }

-- so is a `set`
pub late_setting : (clock : Clock) (label : Option Label) (t : Now) → Late t.at (set_result clock label t)
unfolding set_result
late_setting clock None t = record { ends = omega arith; timed = tt }
late_setting clock (Some l) t = record { ends = omega arith; timed = (omega arith, tt) }

-- a scope or nursery is late where its inside is, whatever its from
pub late_block : (clock : Clock) (m : Mode) (kind : Kind) (label : Label) (t : ℕ) (d : Tick) (shield : Bool) (st : Stack) (inside : Tick → Result) →
    ((from : Tick) → Late t (inside from)) → Late t (block clock m kind label t d shield st inside)
unfolding block
late_block clock m kind label t d shield st inside h =
    let inner : Late t (inside (from_of m label d inside)) = h (from_of m label d inside) in
    record {
      ends = inner.ends;
      timed = (
        omega arith,
        timed_followed t (inside (from_of m label d inside)).log (entry (inside (from_of m label d inside)).end _ nil)
            inner.timed (inner.ends, tt),
      );
    }

-- so is an event
pub late_event : (m : Mode) (label : Label) (t : ℕ) (inside : Tick → Result) → ((from : Tick) → Late t (inside from)) →
    Late t (event_block m label t inside)
unfolding event_block
late_event m label t inside h =
    let inner : Late t (inside (from_of m label None inside)) = h (from_of m label None inside) in
    record { ends = inner.ends; timed = (omega arith, inner.timed) }

-- a late member is late with its sign too
pub late_signed : (t : ℕ) (st : Stack) (r : Result) → Late t r → Late t (with_sign st r)
unfolding with_sign
late_signed t st r h =
    record { ends = h.ends; timed = timed_followed t r.log (sign_if r.exc (home_of st.scopes) r.end) h.timed (timed_sign r.exc (home_of st.scopes)) }
  where
    le : t ≤ r.end
    le = h.ends

    timed_sign : (o : Option Exc) (home : Option Label) → Timed t (sign_if o home r.end)
    timed_sign None home = tt
    timed_sign (Some e) None = tt
    timed_sign (Some e) (Some l) = (le, tt)

-- a nursery ends no earlier than its body
pub latest_ends : (t : ℕ) (ms : List Member) → t ≤ latest t ms
latest_ends t [] = omega arith
latest_ends t (m ∷ ms) =
    let rest : max t m.end ≤ latest (max t m.end) ms = latest_ends (max t m.end) ms in
    omega arith

-- a nursery with a late body is late, once its members have ended
pub late_gathered : (clock : Clock) (t : ℕ) (label : Label) (r : Result) → Late t r → Late t (nursery_result clock label r)
unfolding nursery_result
late_gathered clock t label r h =
    let first : t ≤ r.end = h.ends in
    let last : r.end ≤ latest r.end r.members = latest_ends r.end r.members in
    let left : latest r.end r.members ≤ a_round_after clock (latest r.end r.members) = round_after clock (latest r.end r.members) in
    record { ends = omega arith; timed = h.timed }

-- what a late started task leaves in its starter's walk is late
pub late_child : (label : Label) (begins : ℕ) (r : Result) (t : Now) → t.at ≤ begins → Late begins r → Late t.at (child label begins r t)
unfolding child
late_child label begins r t le h = record { ends = omega arith; timed = (le, h.ends, h.timed, tt) }

-- the starter continues in the same tick
pub child_ends : (label : Label) (begins : ℕ) (r : Result) (t : Now) → (child label begins r t).end ≡ t.at
unfolding child
child_ends label begins r t = refl

-- the starter of a `start .. over` continues in the same tick
pub each_ends : (k : ℕ) (go : ℕ → Result) (t : Now) → ((i : ℕ) → (go i).end ≡ t.at) → (each k go t).end ≡ t.at
each_ends zero go t h = refl
each_ends (suc k) go t h = h k

-- the children of a `start .. over`, all started in one tick, are late where each of them is
pub late_each : (k : ℕ) (go : ℕ → Result) (t : Now) → ((i : ℕ) → (go i).end ≡ t.at) → ((i : ℕ) → Late t.at (go i)) → Late t.at (each k go t)
late_each zero go t ends h = late_done t.at t (omega arith)
late_each (suc k) go t ends h =
    late_joined t.at (each k go t) (go k) (late_each k go t ends h)
    (subst (λ (u : ℕ). Late u (go k)) (sym (each_ends k go t ends)) (h k))

-- passes of a `repeat`, each from where the one before it ended
pub late_passes : (k first : ℕ) (go : ℕ → Now → Result) (t : Now) → ((i : ℕ) (u : Now) → Late u.at (go i u)) → Late t.at (passes first k go t)
late_passes zero first go t h = late_done t.at t (omega arith)
late_passes (suc k) first go t h = late_and_then t.at (go first t) _ (h first t) (λ u. late_passes k (suc first) go u h)

-- a late body and its handler are late
pub late_handled : (t : ℕ) (wanted : Wanted) (r : Result) (go : Now → Result) → Late t r → ((u : Now) → Late u.at (go u)) →
    Late t (handler_result wanted r go)
unfolding handler_result
late_handled t wanted r go h k = by_exc r.exc
  where
    by_match : (o rest : Option Exc) → Late t (handler_if_any o rest r go)
    by_match None rest = h
    by_match (Some e) rest =
        let both : Late t (in_sequence r (go (now_of r))) = late_joined t r (go (now_of r)) h (k (now_of r)) in
        record { ends = both.ends; timed = both.timed }

    by_exc : (o : Option Exc) → Late t (handler_for o wanted r go)
    by_exc None = h
    by_exc (Some e) = by_match (keep wanted e) (drop wanted e)

-- what is late and its cleanup are late
pub late_cleaned : (t : ℕ) (r : Result) (go : Now → Result) → Late t r → ((u : Now) → Late u.at (go u)) → Late t (cleanup_result r go)
unfolding cleanup_result
late_cleaned t r go h k =
    let both : Late t (in_sequence r (go (now_of r))) = late_joined t r (go (now_of r)) h (k (now_of r)) in
    record { ends = both.ends; timed = both.timed }

-- an act before what is late
pub late_act : (label : Label) (m : ℕ) (a : Act) (r : Result) → Late m r → Late m (with_act label m a r)
late_act label m a r h = record { ends = h.ends; timed = (omega arith, h.timed) }

-- a `close` is late, whether its name is found or not
pub late_closing : (label : Option Label) (t : Now) → Late t.at (close_result label t)
unfolding close_result
late_closing None t = late_done t.at t (omega arith)
late_closing (Some l) t = record { ends = omega arith; timed = (omega arith, tt) }

-- what is late is late with a token that comes back at its end
pub late_token_back : (t : ℕ) (label : Label) (r : Result) → Late t r → Late t (with_token_back label r)
unfolding with_token_back
late_token_back t label r h = record { ends = h.ends; timed = timed_followed t r.log _ h.timed (h.ends, tt) }

-- what is late from a moment on is late from an earlier one on
pub late_since : (t u : ℕ) (r : Result) → t ≤ u → Late u r → Late t r
late_since t u r le h =
    let end : u ≤ r.end = h.ends in
    record { ends = omega arith; timed = timed_earlier t u r.log le h.timed }

-- what a task sees of a stack by its own cancels is at least what is seen of the stack
lowered_for : (own : List Label) (m : ℕ) (ls : Levels) → Lowered ls (stack_for own m ls)
lowered_for own m [] = tt
lowered_for own m (l ∷ ls) = (refl, refl, by_own (is_among l.label own) l.from, lowered_for own m ls)
  where
    by_own : (b : Bool) (f : Tick) → AtMost (if b then earlier f (Some m) else f) f
    by_own true None = tt
    by_own false None = tt
    by_own true (Some x) = by_order (nat_lt m x) refl
      where
        by_order : (o : Bool) → nat_lt m x ≡ o → (if o then m else x) ≤ x
        by_order true e = grind (arith, nat_tests)
        by_order false e = omega arith
    by_own false (Some x) = omega arith

-- so where it sees no cancellation, none has come
pub unseen_for : (own : List Label) (m : ℕ) (ls : Levels) → seen (stack_for own m ls) m ≡ false → seen ls m ≡ false
unseen_for own m ls e = by_cases (seen ls m) (λ h. lowering_shows ls (stack_for own m ls) m (lowered_for own m ls) h)
  where
    by_cases : (b : Bool) → (IsTrue b → IsTrue (seen (stack_for own m ls) m)) → b ≡ false
    by_cases true h = sym (h refl) ∙ e
    by_cases false h = refl

-- no wait for a limiter or channel ends before it begins
pub last_after : (clock : Clock) (m : ℕ) → m ≤ last_grant clock m
last_after clock m = omega (arith, last_grant_later clock m)

-- where no cancellation is seen, a task leaves the queue no earlier than it asked
pub leaves_after : (from : Tick) (m last : ℕ) → is_reached from m ≡ false → m ≤ last → m ≤ leaves_queue from last
leaves_after None m last e le = le
leaves_after (Some x) m last e le = both (grind (arith, nat_tests))
  where
    both : m ≤ x → m ≤ leaves_queue (Some x) last
    both h = omega arith

-- who leaves the queue does so in that moment
pub late_leaving : (here : Here) (from : Tick) (left t : ℕ) → t ≤ left → Late t (left_result here from left)
late_leaving here from left t le = by_sight (is_reached from left)
  where
    by_sight : (b : Bool) → Late t (if b then raised_at cancelled (only_at left)
        else raised_at (raised (codes "Deadlock") here.task (tick_of here.clock left)) (only_at left))
    by_sight true = late_raised _ t (only_at left) le
    by_sight false = late_raised _ t (only_at left) le

-- the line of a wait for a limiter or channel that ended well
abbrev pub noted_at : Entry → ℕ → Result
noted_at noted m = record { end = m; own = []; exc = None; members = []; log = entry m noted nil }

-- what is granted is noted, and what follows is late
pub late_goes_on : (e : Entry) (m : ℕ) (go : Now → Result) → ((u : Now) → Late u.at (go u)) → Late m (goes_on e m go)
late_goes_on e m go h = late_joined m (noted_at e m) (go (only_at m)) noted (h (only_at m))
  where
    noted : Late m (noted_at e m)
    noted = record { ends = omega arith; timed = (omega arith, tt) }

-- what a task does with what it is granted is late
pub late_granted : (label : Label) (here : Here) (m : ℕ) (what : What) (go : Here → Now → Result) →
    ((inner : Here) (u : Now) → Late u.at (go inner u)) →
    Late m (granted_result label here m what go)
late_granted label here m a_token go h = late_goes_on (was_granted Acquire label) m _ (λ u. late_token_back u.at label _ (h here u))
late_granted label here m was_sent go h = late_goes_on (was_granted Send label) m _ (λ u. h here u)
late_granted label here m (a_part lent) go h = late_goes_on (was_granted Receive label) m _ (λ u. h (record here { part = lent }) u)
late_granted label here m closed_resource go h = late_raised _ m (only_at m) (omega arith)
late_granted label here m end_of_channel go h = late_raised _ m (only_at m) (omega arith)

-- what comes of an ask is late
pub late_asked : (ask : Ask) (label : Label) (here : Here) (from : Tick) (m left : ℕ) (o : Option Granted) (go : Here → Now → Result) →
    m ≤ left → ((inner : Here) (u : Now) → Late u.at (go inner u)) → Late m (asked_result ask label here from m left (in_time m left o) go)
late_asked ask label here from m left None go le h = late_act label m _ _ (late_leaving here from left m le)
late_asked ask label here from m left (Some g) go le h = by_time (nat_lt m g.at && nat_le g.at left) refl
  where
    by_time : (b : Bool) → (nat_lt m g.at && nat_le g.at left) ≡ b → Late m (asked_result ask label here from m left (granted_if b g None) go)
    by_time true e = late_act label m _ _ (late_since m g.at _ (grind (arith, nat_tests)) (late_granted label here g.at g.what go h))
    by_time false e = late_act label m _ _ (late_leaving here from left m le)

-- an ask is late, with what follows it
pub late_asking : (m : Mode) (ask : Ask) (label : Option Label) (here : Here) (st : Stack) (t : Now) (go : Here → Now → Result) →
    ((inner : Here) (u : Now) → Late u.at (go inner u)) → Late t.at (ask_result m ask label here st t go)
unfolding ask_result
late_asking m ask None here st t go h = late_done t.at t (omega arith)
late_asking m ask (Some label) here st t go h = by_sight (seen (stack_for t.own t.at st.scopes) t.at) refl
  where
    by_sight : (b : Bool) → seen (stack_for t.own t.at st.scopes) t.at ≡ b →
        Late t.at (if b then raised_at cancelled (only_at (gives_up_at here.clock 0 t.at)) else asks_in m ask label here st t.at go)
    by_sight true e =
        late_raised cancelled t.at (only_at (gives_up_at here.clock 0 t.at))
        (omega (arith, round_after here.clock t.at, gives_up_after here.clock 0 t.at))
    by_sight false e =
        late_asked ask label here (sight st.scopes) t.at _ (grants_in m label here.task t.at) go
        (leaves_after (sight st.scopes) t.at (last_grant here.clock t.at) (unseen_for t.own t.at st.scopes e) (last_after here.clock t.at)) h

mutual
  unfolding walk

  -- every walk is late
  pub late : (m : Mode) (b : Steps) (here : Here) (st : Stack) (t : Now) → Late t.at (walk m b here st t)
  late m stop here st t = late_done t.at t (omega arith)
  late m (step s ss) here st t = late_and_then t.at _ _ (late_step m s here st t) (λ u. late m ss here st u)

  -- the same of one step
  pub late_step : (m : Mode) (s : Step) (here : Here) (st : Stack) (t : Now) → Late t.at (walk_step m s here st t)
  late_step m (sleep n) here st t = late_sleeping here.clock st _ t.at
  late_step m checkpoint here st t = late_sleeping here.clock st _ t.at
  late_step m forever here st t = late_sleeping here.clock st _ t.at
  late_step m (pace k) here st t = late_pacing here.clock st _ t.at
  late_step m (find text) here st t = late_showing _ t
  late_step m (head n) here st t = late_showing _ t
  late_step m longest here st t = late_showing _ t
  late_step m (need text name) here st t = late_needing _ name here t
  late_step m (raise name) here st t = late_raising name here t
  late_step m (cancel name) here st t = late_cancelling here.clock _ t
  late_step m (set_event name) here st t = late_setting here.clock _ t
  late_step m (wait_for name) here st t = late_awaiting here.clock st _ t
  late_step m (ask_for name ask body) here st t = late_asking m ask _ here st t _ (λ inner u. late m body inner st u)
  late_step m (close_channel name) here st t = late_closing _ t
  late_step m (scope name d shield fail body) here st t =
      late_block here.clock m _ _ t.at _ shield st _ (λ from. late m body here _ t)
  late_step m (nursery name d shield body) here st t =
      late_block here.clock m _ _ t.at _ shield st _ (λ from. late_gathered here.clock t.at _ _ (late_signed t.at _ _ (late m body here _ t)))
  late_step m (event name body) here st t = late_event m _ t.at _ (λ from. late m body here _ t)
  late_step m (object name kind body) here st t = late_act _ t.at _ _ (late_event m _ t.at _ (λ from. late m body here _ t))
  late_step m (start name None body) here st t =
      late_child _ (a_round_after here.clock t.at) _ t (round_after here.clock t.at) (late_signed _ st _ (late m body _ st (only_at (a_round_after here.clock t.at))))
  late_step m (start name (Some k) body) here st t =
      late_each k _ t (λ i. child_ends _ (a_round_after here.clock t.at) _ t)
      (λ i. late_child _ (a_round_after here.clock t.at) _ t (round_after here.clock t.at)
      (late_signed _ st _ (late m body _ st (only_at (a_round_after here.clock t.at)))))
  late_step m (repeat count over body) here st t = late_passes count 0 _ t (λ i u. late m body _ st u)
  late_step m (attempt body handler cleanup) here st t =
      late_cleanup m cleanup here st _ t.at (late_handler m handler here st _ t.at (late m body here st t))

  -- the same for a handler, if what it follows is late
  pub late_handler : (m : Mode) (x : Handled) (here : Here) (st : Stack) (r : Result) (t : ℕ) → Late t r →
      Late t (walk_handler m x here st r)
  late_handler m unhandled here st r t h = h
  late_handler m (except name body) here st r t h = late_handled t _ r _ h (λ u. late m body here st u)

  -- the same for a cleanup, if what it follows is late
  pub late_cleanup : (m : Mode) (x : Cleaned) (here : Here) (st : Stack) (r : Result) (t : ℕ) → Late t r →
      Late t (walk_cleanup m x here st r)
  late_cleanup m uncleaned here st r t h = h
  late_cleanup m (finally body) here st r t h = late_cleaned t r _ h (λ u. late m body here st u)
