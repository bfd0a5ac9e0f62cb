-- By when a walk ends, and all that it does to limiters and channels: a step instance ends at most as many moments beyond the reach of its
-- start as `span` says.
use Rattle.std.proofs.Common.{◌≡◌, ℕ, zero, suc, ◌+◌, ◌-◌, ◌*◌, ◌/◌, ◌≤◌, min, max, Bool, true, false, ◌&&◌, Option, Some, None, List, [], ◌∷◌, ◌++◌, length, drop as dropped, length-drop, inl, inr, refl, arith, nat_le, nat_lt, if◌then◌else◌}
use Rattle.std.proofs.lemmas.Bool.Decides.{nat_tests}
use Rattle.std.proofs.lemmas.List.{length-take}
use Rattle.std.proofs.Math.Nat.{mul-le-mul_right}
use Rattle.std.specs.Prelude.{slice_range, codes}
use Rattle.job_tree.specs.Tree.{Tree, Step, sleep, checkpoint, forever, pace, find, head, longest, need, raise, cancel, set_event, wait_for, ask_for, close_channel, scope, nursery, event, object, start, repeat, attempt, Steps, stop, step, Handled, unhandled, except, Cleaned, uncleaned, finally}
use Rattle.job_tree.specs.InRange.{IsInRange, AreInRange, IsInRangeStep, IsInRangeHandler, IsInRangeCleanup}
use Rattle.job_tree.specs.Formats.{most_steps}
use Rattle.job_tree.specs.declared.format.Format.{Format}
use Rattle.job_tree.specs.declared.format.Format.TheVariants.{One, Two, Three}
use Rattle.job_tree.specs.Names.{size_of, size_in, handled_size, cleaned_size}
use Rattle.job_tree.specs.declared.object.Ask.{Ask}
use Rattle.input_lines.specs.Lines.{Range, Span, bytes_of}
use Rattle.input_lines.proofs.JoinLemmas.{length-lines_from}
use Rattle.input_lines.specs.Kernels.{count_in}
use Rattle.exceptions.specs.Exceptions.{Label, Exc, cancelled, raised}
use Rattle.exceptions.specs.Split.{Wanted, keep, drop}
use Rattle.cancel_scopes.specs.Sight.{Tick, Level, is_reached, sight, seen}
use Rattle.job_tree.specs.declared.object.Ask.TheVariants.{Acquire, Send, Receive}
use Rattle.job_meaning.specs.Log.{Log, nil, entry, sign, entered, Act, act, task, followed_by, Member, Result, Entry, was_granted}
use Rattle.job_meaning.specs.Sharing.{What, a_token, was_sent, a_part, closed_resource, end_of_channel, Granted, granted_if}
use Rattle.job_meaning.specs.Moments.{clock_of, tick_of, start_of, a_round_after, wakes_at, gives_up_at, Now, only_at, far}
use Rattle.job_meaning.specs.declared.clock.Clock.{Clock}
use Rattle.job_meaning.specs.declared.clock.Clock.TheVariants.{ByTicks as by_ticks, ByRounds as by_rounds}
use Rattle.job_meaning.specs.Meaning.{meaning, meaning_grants, root_walk, root_here}
use Rattle.job_meaning.specs.Laws.{EndsByTheLastTick}
use Rattle.job_meaning.specs.declared.limits.TheConstants.{MAX_INPUT}
use Rattle.job_meaning.proofs.Late.{noted_at}
use Rattle.job_meaning.proofs.MomentLemmas.{last_grant_is}
use Rattle.job_meaning.specs.Walk.{Stack, no_stack, Mode, two_walks, grants_in, Here, walk, walk_step, walk_handler, walk_cleanup, done_at, raised_at, now_of, in_sequence, and_then, then_if, wait_by_sight, sleep_result, pace_result, wait_until, set_moment, wait_by, with_line_if, with_line, event_wait, pace_ticks, log_of_lines, lines_result, raise_result, need_result, sign_of, cancel_result, set_result, stack_for, Kind, from_of, block, event_block, with_act, close_result, with_token_back, last_grant, leaves_queue, in_time, left_result, goes_on, granted_result, asked_result, asks_in, ask_result, with_sign, sign_if, home_of, latest, nursery_result, child, each, passes, handler_result, handler_for, handler_if_any, cleanup_result}

-- By rounds, the start of tick `far`, beyond which no sleep lasts. By ticks, where each sleep lasts as long as it is, 0.
abbrev pub base : Clock → ℕ
base by_ticks = 0
base by_rounds = 2305843009213693952

-- the later of a moment and the base
abbrev pub reach : Clock → ℕ → ℕ
reach clock m = max m (base clock)

-- How many moments beyond the reach a step instance ends at most. By ticks, it is as long as `forever`, which is two to the 40. By
-- rounds, a checkpoint that is cancelled takes two. That a child begins a moment later and that a nursery is left a moment later
-- is counted for the `start` and for the nursery itself.
abbrev pub span : Clock → ℕ
span by_ticks = 1099511627776
span by_rounds = 2

round_by : (clock : Clock) (m : ℕ) → a_round_after clock m ≤ m + span clock
round_by by_ticks m = omega arith
round_by by_rounds m = omega arith

wakes_by : (clock : Clock) (n m : ℕ) → n ≤ 1099511627776 → wakes_at clock n m ≤ reach clock m + span clock
wakes_by by_ticks n m le = omega arith
wakes_by by_rounds zero m le = omega arith
wakes_by by_rounds (suc n) m le = capped (m / 2097152 + suc n)
  where
    capped : (tick : ℕ) → max (m + 1) (min 1099511627776 tick * 2097152) ≤ max m 2305843009213693952 + 2
    capped tick = omega arith

last_grant_by : (clock : Clock) (m : ℕ) → last_grant clock m ≤ reach clock m + span clock
last_grant_by clock m = elim (last_grant_is clock m) [ inl e ↦ next clock e | inr e ↦ at_far clock e ]
  where
    next : (clock : Clock) → last_grant clock m ≡ suc m → last_grant clock m ≤ reach clock m + span clock
    next by_ticks e = omega (arith, e)
    next by_rounds e = omega (arith, e)

    at_far : (clock : Clock) → last_grant clock m ≡ start_of clock far → last_grant clock m ≤ reach clock m + span clock
    at_far by_ticks e = omega (arith, e)
    at_far by_rounds e = omega (arith, e)

gives_up_by : (clock : Clock) (n m : ℕ) → gives_up_at clock n m ≤ m + span clock
gives_up_by by_ticks n m = omega arith
gives_up_by by_rounds zero m = omega arith
gives_up_by by_rounds (suc n) m = omega arith

-- all members have ended by a moment
abbrev pub AllBy : ℕ → List Member → Type 0
AllBy b [] = Unit {0}
AllBy b (m ∷ ms) = (m.end ≤ b) × AllBy b ms

-- all that is done to limiters and channels in a log is done by a moment
abbrev pub ActsBy : ℕ → Log → Type 0
ActsBy b nil = Unit {0}
ActsBy b (entry t e rest) = ActsBy b rest
ActsBy b (sign l t rest) = ActsBy b rest
ActsBy b (entered l t d rest) = ActsBy b rest
ActsBy b (act l t a rest) = (t ≤ b) × ActsBy b rest
ActsBy b (task l s u e own rest) = ActsBy b own × ActsBy b rest

-- a walk and its members have ended by a moment, and all its acts have been done
pub record EndsBy (b : ℕ) (r : Result) : Type 0 where
  pub end : r.end ≤ b
  pub members : AllBy b r.members
  pub acts : ActsBy b r.log

all_later : (b c : ℕ) (ms : List Member) → b ≤ c → AllBy b ms → AllBy c ms
all_later b c [] le h = tt
all_later b c (m ∷ ms) le h = (first h.0, all_later b c ms le h.1)
  where
    first : m.end ≤ b → m.end ≤ c
    first k = omega arith

all_append : (b : ℕ) (ms ns : List Member) → AllBy b ms → AllBy b ns → AllBy b (ms ++ ns)
all_append b [] ns h k = k
all_append b (m ∷ ms) ns h k = (h.0, all_append b ms ns h.1 k)

-- what is done by a moment is done by a later one
acts_later : (b c : ℕ) (a : Log) → b ≤ c → ActsBy b a → ActsBy c a
acts_later b c nil le h = tt
acts_later b c (entry t e rest) le h = acts_later b c rest le h
acts_later b c (sign l t rest) le h = acts_later b c rest le h
acts_later b c (entered l t d rest) le h = acts_later b c rest le h
acts_later b c (act l t a rest) le h = (first h.0, acts_later b c rest le h.1)
  where
    first : t ≤ b → t ≤ c
    first k = omega arith
acts_later b c (task l s u e own rest) le h = (acts_later b c own le h.0, acts_later b c rest le h.1)

acts_followed : (b : ℕ) (a x : Log) → ActsBy b a → ActsBy b x → ActsBy b (followed_by a x)
acts_followed b nil x h k = k
acts_followed b (entry t e rest) x h k = acts_followed b rest x h k
acts_followed b (sign l t rest) x h k = acts_followed b rest x h k
acts_followed b (entered l t d rest) x h k = acts_followed b rest x h k
acts_followed b (act l t a rest) x h k = (h.0, acts_followed b rest x h.1 k)
acts_followed b (task l s u e own rest) x h k = (h.0, acts_followed b rest x h.1 k)

acts_lines : (b : ℕ) (ls : List Span) (t : ℕ) → ActsBy b (log_of_lines t ls)
acts_lines b [] t = tt
acts_lines b (l ∷ ls) t = acts_lines b ls t

acts_sign : (b : ℕ) (o : Option Label) (t : ℕ) → ActsBy b (sign_of o t)
acts_sign b None t = tt
acts_sign b (Some l) t = tt

acts_home : (b : ℕ) (e : Option Exc) (o : Option Label) (t : ℕ) → ActsBy b (sign_if e o t)
acts_home b None o t = tt
acts_home b (Some e) o t = acts_sign b o t

pub later : (b c : ℕ) (r : Result) → b ≤ c → EndsBy b r → EndsBy c r
later b c r le h =
    let e : r.end ≤ b = h.end in
    record { end = omega arith; members = all_later b c r.members le h.members; acts = acts_later b c r.log le h.acts }

pub by_joined : (b : ℕ) (r q : Result) → AllBy b r.members → ActsBy b r.log → EndsBy b q → EndsBy b (in_sequence r q)
by_joined b r q h a k =
    record { end = k.end; members = all_append b r.members q.members h k.members; acts = acts_followed b r.log q.log a k.acts }

by_and_then : (b c : ℕ) (r : Result) (go : Now → Result) → b ≤ c → EndsBy b r → ((u : Now) → u.at ≤ b → EndsBy c (go u)) →
    EndsBy c (and_then r go)
unfolding and_then
by_and_then b c r go le h k = by_exc r.exc
  where
    by_exc : (o : Option Exc) → EndsBy c (then_if o r go)
    by_exc None =
        by_joined c r (go (now_of r)) (all_later b c r.members le h.members) (acts_later b c r.log le h.acts) (k (now_of r) h.end)
    by_exc (Some e) = later b c r le h

by_done : (b : ℕ) (t : Now) → t.at ≤ b → EndsBy b (done_at t)
by_done b t le = record { end = le; members = tt; acts = tt }

by_raised : (e : Exc) (b : ℕ) (t : Now) → t.at ≤ b → EndsBy b (raised_at e t)
by_raised e b t le = record { end = le; members = tt; acts = tt }

by_waited : (a : Tick) (least gives_up end b : ℕ) → gives_up ≤ b → end ≤ b → EndsBy b (wait_by_sight a least gives_up end)
by_waited None least gives_up end b up le = by_done b (only_at end) le
by_waited (Some from) least gives_up end b up le = by_now (nat_le from least) (nat_le from end) refl
  where
    by_now : (now due : Bool) → nat_le from end ≡ due → EndsBy b (if now then raised_at cancelled (only_at gives_up) else
        (if due then raised_at cancelled (only_at from) else done_at (only_at end)))
    by_now true due e = by_raised cancelled b (only_at gives_up) up
    by_now false true e = by_raised cancelled b (only_at from) (grind (arith, nat_tests))
    by_now false false e = by_done b (only_at end) le

by_sleeping : (clock : Clock) (st : Stack) (n t b : ℕ) → n ≤ 1099511627776 → reach clock t + span clock ≤ b → EndsBy b (sleep_result clock st n t)
unfolding sleep_result
by_sleeping clock st n t b few le =
    by_waited (sight st.scopes) (a_round_after clock t) (gives_up_at clock n t) (wakes_at clock n t) b
    (omega (arith, gives_up_by clock n t)) (omega (arith, wakes_by clock n t few))

by_pacing : (clock : Clock) (st : Stack) (n t b : ℕ) → n ≤ 1099511627776 → reach clock t + span clock ≤ b → EndsBy b (pace_result clock st n t)
unfolding pace_result
by_pacing clock st n t b few le =
    by_waited (sight st.scopes) (a_round_after clock t) (a_round_after clock t) (wakes_at clock n t) b
    (omega (arith, round_by clock t)) (omega (arith, wakes_by clock n t few))

by_until : (a : Tick) (least end b : ℕ) → least ≤ b → end ≤ b → EndsBy b (wait_until a least end)
by_until None least end b lo le = by_done b (only_at end) le
by_until (Some from) least end b lo le = by_order (nat_lt from end) refl
  where
    by_order : (o : Bool) → nat_lt from end ≡ o →
        EndsBy b (if o then raised_at cancelled (only_at (max least from)) else done_at (only_at end))
    by_order true e = by_raised cancelled b (only_at (max least from)) (grind (arith, nat_tests))
    by_order false e = by_done b (only_at end) le

left_le : (x y : ℕ) → x - y ≤ x
left_le x y = omega arith

-- no wait for an event lasts longer than `forever`
set_by : (clock : Clock) (set : Tick) (m : ℕ) → set_moment clock set m ≤ reach clock m + span clock
set_by clock None m = wakes_by clock (far - tick_of clock m) m (left_le far (tick_of clock m))
set_by clock (Some from) m = omega (arith, wakes_by clock (far - tick_of clock m) m (left_le far (tick_of clock m)))

by_set : (clock : Clock) (st : Stack) (set t b : ℕ) → set ≤ b → reach clock t + span clock ≤ b → EndsBy b (wait_by clock st set t)
by_set clock st set t b hi le = by_round (nat_le set (a_round_after clock t))
  where
    by_round : (o : Bool) → EndsBy b (if o then sleep_result clock st 0 t else wait_until (sight st.scopes) (a_round_after clock t) set)
    by_round true = by_sleeping clock st 0 t b (omega arith) le
    by_round false = by_until (sight st.scopes) (a_round_after clock t) set b (omega (arith, round_by clock t)) hi

by_lined : (label : Label) (b : ℕ) (r : Result) → EndsBy b r → EndsBy b (with_line label r)
by_lined label b r h = by_exc r.exc
  where
    by_exc : (o : Option Exc) → EndsBy b (with_line_if o label r)
    by_exc None = record { end = h.end; members = h.members; acts = tt }
    by_exc (Some e) = h

by_awaiting : (clock : Clock) (st : Stack) (level : Option (Level Label)) (t : Now) (b : ℕ) → reach clock t.at + span clock ≤ b →
    EndsBy b (event_wait clock st level t)
unfolding event_wait
by_awaiting clock st None t b le = by_done b t (omega arith)
by_awaiting clock st (Some l) t b le =
    by_lined l.label b _ (by_set clock st (set_moment clock l.from t.at) t.at b (omega (arith, set_by clock l.from t.at)) le)

by_showing : (ls : List Span) (b : ℕ) (t : Now) → t.at ≤ b → EndsBy b (lines_result ls t)
unfolding lines_result
by_showing ls b t le = record { end = le; members = tt; acts = acts_lines b ls t.at }

by_needing : (found : Option Span) (name : List ℕ) (here : Here) (b : ℕ) (t : Now) → t.at ≤ b → EndsBy b (need_result found name here t)
unfolding need_result raise_result
by_needing (Some l) name here b t le = by_showing (l ∷ []) b t le
by_needing None name here b t le = record { end = le; members = tt; acts = tt }

by_raising : (name : List ℕ) (here : Here) (b : ℕ) (t : Now) → t.at ≤ b → EndsBy b (raise_result name here t)
unfolding raise_result
by_raising name here b t le = by_raised _ b t le

by_cancelling : (clock : Clock) (label : Option Label) (b : ℕ) (t : Now) → t.at ≤ b → EndsBy b (cancel_result clock label t)
unfolding cancel_result
by_cancelling clock label b t le = record { end = le; members = tt; acts = acts_sign b label t.at }

by_setting : (clock : Clock) (label : Option Label) (b : ℕ) (t : Now) → t.at ≤ b → EndsBy b (set_result clock label t)
unfolding set_result
by_setting clock label b t le = record { end = le; members = tt; acts = acts_sign b label t.at }

by_block : (clock : Clock) (m : Mode) (kind : Kind) (label : Label) (t : ℕ) (d : Tick) (shield : Bool) (st : Stack) (inside : Tick → Result) (b : ℕ) →
    ((from : Tick) → EndsBy b (inside from)) → EndsBy b (block clock m kind label t d shield st inside)
unfolding block
by_block clock m kind label t d shield st inside b h =
    let inner : EndsBy b (inside (from_of m label d inside)) = h (from_of m label d inside) in
    record { end = inner.end; members = tt; acts = acts_followed b (inside (from_of m label d inside)).log _ inner.acts tt }

by_event : (m : Mode) (label : Label) (t : ℕ) (inside : Tick → Result) (b : ℕ) → ((from : Tick) → EndsBy b (inside from)) →
    EndsBy b (event_block m label t inside)
unfolding event_block
by_event m label t inside b h =
    let inner : EndsBy b (inside (from_of m label None inside)) = h (from_of m label None inside) in
    record { end = inner.end; members = inner.members; acts = inner.acts }

-- an act by a moment, before what ends by it
by_acted : (label : Label) (b t : ℕ) (a : Act) (r : Result) → t ≤ b → EndsBy b r → EndsBy b (with_act label t a r)
by_acted label b t a r le h = record { end = h.end; members = h.members; acts = (le, h.acts) }

by_closing : (label : Option Label) (b : ℕ) (t : Now) → t.at ≤ b → EndsBy b (close_result label t)
unfolding close_result
by_closing None b t le = by_done b t le
by_closing (Some l) b t le = by_acted l b t.at _ (done_at t) le (by_done b t le)

by_token_back : (label : Label) (b : ℕ) (r : Result) → EndsBy b r → EndsBy b (with_token_back label r)
unfolding with_token_back
by_token_back label b r h = record { end = h.end; members = h.members; acts = acts_followed b r.log _ h.acts (h.end, tt) }

-- who leaves the queue
by_left : (here : Here) (from : Tick) (left b : ℕ) → left ≤ b → EndsBy b (left_result here from left)
by_left here from left b le = by_sight (is_reached from left)
  where
    by_sight : (o : Bool) → EndsBy b (if o then raised_at cancelled (only_at left)
        else raised_at (raised (codes "Deadlock") here.task (tick_of here.clock left)) (only_at left))
    by_sight true = by_raised _ b (only_at left) le
    by_sight false = by_raised _ b (only_at left) le

by_goes_on : (e : Entry) (b m : ℕ) (go : Now → Result) → EndsBy b (go (only_at m)) → EndsBy b (goes_on e m go)
by_goes_on e b m go h = by_joined b (noted_at e m) (go (only_at m)) tt tt h

-- what a task does with what it is granted
by_granted : (label : Label) (here : Here) (b m : ℕ) (what : What) (go : Here → Now → Result) → m ≤ b →
    ((lent : Range) → EndsBy b (go (record here { part = lent }) (only_at m))) → EndsBy b (granted_result label here m what go)
by_granted label here b m a_token go le h = by_goes_on (was_granted Acquire label) b m (λ u. with_token_back label (go here u)) (by_token_back label b _ (h here.part))
by_granted label here b m was_sent go le h = by_goes_on (was_granted Send label) b m (λ u. go here u) (h here.part)
by_granted label here b m (a_part lent) go le h = by_goes_on (was_granted Receive label) b m (λ u. go (record here { part = lent }) u) (h lent)
by_granted label here b m closed_resource go le h = by_raised _ b (only_at m) le
by_granted label here b m end_of_channel go le h = by_raised _ b (only_at m) le

-- a wait for a limiter or channel
left_by : (clock : Clock) (from : Tick) (m : ℕ) → leaves_queue from (last_grant clock m) ≤ reach clock m + span clock
left_by clock None m = last_grant_by clock m
left_by clock (Some from) m = omega (arith, last_grant_by clock m)

-- b is a bound for the wait, and c for what follows it
by_asking : (m : Mode) (st : Stack) (ask : Ask) (label : Option Label) (here : Here) (t : Now) (go : Here → Now → Result) (b c : ℕ) →
    reach here.clock t.at + span here.clock ≤ b → b ≤ c →
    ((lent : Range) (u : Now) → u.at ≤ b → EndsBy c (go (record here { part = lent }) u)) → EndsBy c (ask_result m ask label here st t go)
unfolding ask_result
by_asking m st ask None here t go b c le more h = by_done c t (omega arith)
by_asking m st ask (Some label) here t go b c le more h = by_sight (seen (stack_for t.own t.at st.scopes) t.at)
  where
    left : ℕ
    left = leaves_queue (sight st.scopes) (last_grant here.clock t.at)

    left_before : left ≤ b
    left_before = omega (arith, left_by here.clock (sight st.scopes) t.at)

    leaves : EndsBy c (asked_result ask label here (sight st.scopes) t.at left None go)
    leaves = by_acted label c t.at _ _ (omega arith) (by_left here (sight st.scopes) left c (let k = left_before in omega arith))

    by_time : (g : Granted) (o : Bool) → (nat_lt t.at g.at && nat_le g.at left) ≡ o →
        EndsBy c (asked_result ask label here (sight st.scopes) t.at left (granted_if o g None) go)
    by_time g true e =
        by_acted label c t.at _ _ (omega arith)
        (by_granted label here c g.at g.what go (by_more in_time_left) (λ lent. h lent (only_at g.at) (by_left_then in_time_left)))
      where
        in_time_left : g.at ≤ left
        in_time_left = grind (arith, nat_tests)

        by_left_then : g.at ≤ left → g.at ≤ b
        by_left_then k = let l = left_before in omega arith

        by_more : g.at ≤ left → g.at ≤ c
        by_more k = let l = left_before in omega arith
    by_time g false e = leaves

    by_grant : (o : Option Granted) → EndsBy c (asked_result ask label here (sight st.scopes) t.at left (in_time t.at left o) go)
    by_grant None = leaves
    by_grant (Some g) = by_time g (nat_lt t.at g.at && nat_le g.at left) refl

    by_sight : (o : Bool) →
        EndsBy c (if o then raised_at cancelled (only_at (gives_up_at here.clock 0 t.at)) else asks_in m ask label here st t.at go)
    by_sight true = by_raised cancelled c (only_at (gives_up_at here.clock 0 t.at)) (omega (arith, gives_up_by here.clock 0 t.at))
    by_sight false = by_grant (grants_in m label here.task t.at)

pub by_signed : (b : ℕ) (st : Stack) (r : Result) → EndsBy b r → EndsBy b (with_sign st r)
unfolding with_sign
by_signed b st r h =
    record { end = h.end; members = h.members; acts = acts_followed b r.log _ h.acts (acts_home b r.exc (home_of st.scopes) r.end) }

latest_by : (b t : ℕ) (ms : List Member) → t ≤ b → AllBy b ms → latest t ms ≤ b
latest_by b t [] le h = le
latest_by b t (m ∷ ms) le h =
    let first : m.end ≤ b = h.0 in
    latest_by b (max t m.end) ms (omega arith) h.1

by_gathered : (clock : Clock) (b c : ℕ) (label : Label) (r : Result) → b + span clock ≤ c → EndsBy b r → EndsBy c (nursery_result clock label r)
unfolding nursery_result
by_gathered clock b c label r le h =
    let last : latest r.end r.members ≤ b = latest_by b r.end r.members h.end h.members in
    record { end = omega (arith, last, round_by clock (latest r.end r.members)); members = tt; acts = acts_later b c r.log (omega arith) h.acts }

by_child : (label : Label) (b begins : ℕ) (r : Result) (t : Now) → t.at ≤ b → EndsBy b r → EndsBy b (child label begins r t)
unfolding child
by_child label b begins r t le h = record { end = le; members = (h.end, tt); acts = (h.acts, tt) }

by_each : (k : ℕ) (go : ℕ → Result) (b : ℕ) (t : Now) → t.at ≤ b → ((i : ℕ) → EndsBy b (go i)) → EndsBy b (each k go t)
by_each zero go b t le h = by_done b t le
by_each (suc k) go b t le h =
    let before : EndsBy b (each k go t) = by_each k go b t le h in
    by_joined b (each k go t) (go k) before.members before.acts (h k)

by_passes : (k first : ℕ) (go : ℕ → Now → Result) (b c s : ℕ) (t : Now) → ((i : ℕ) (u : Now) → EndsBy (max u.at b + c * s) (go i u)) →
    EndsBy (max t.at b + k * c * s) (passes first k go t)
by_passes zero first go b c s t h = by_done _ t (omega arith)
by_passes (suc k) first go b c s t h =
    let all : suc k * c * s ≡ k * c * s + c * s = omega arith in
    by_and_then (max t.at b + c * s) (max t.at b + suc k * c * s) (go first t) (λ (u : Now). passes (suc first) k go u)
    (omega (arith, all)) (h first t)
    (λ (u : Now) (le : u.at ≤ max t.at b + c * s). later (max u.at b + k * c * s) _ _ (omega (arith, all)) (by_passes k
    (suc first) go b c s u h))

by_handled : (b c : ℕ) (wanted : Wanted) (r : Result) (go : Now → Result) → b ≤ c → EndsBy b r → ((u : Now) → u.at ≤ b → EndsBy c (go u)) →
    EndsBy c (handler_result wanted r go)
unfolding handler_result
by_handled b c wanted r go le h k = by_exc r.exc
  where
    by_match : (o rest : Option Exc) → EndsBy c (handler_if_any o rest r go)
    by_match None rest = later b c r le h
    by_match (Some e) rest =
        let both : EndsBy c (in_sequence r (go (now_of r))) =
        by_joined c r (go (now_of r)) (all_later b c r.members le h.members) (acts_later b c r.log le h.acts) (k (now_of r) h.end) in
        record { end = both.end; members = both.members; acts = both.acts }

    by_exc : (o : Option Exc) → EndsBy c (handler_for o wanted r go)
    by_exc None = later b c r le h
    by_exc (Some e) = by_match (keep wanted e) (drop wanted e)

by_cleaned : (b c : ℕ) (r : Result) (go : Now → Result) → b ≤ c → EndsBy b r → ((u : Now) → u.at ≤ b → EndsBy c (go u)) →
    EndsBy c (cleanup_result r go)
unfolding cleanup_result
by_cleaned b c r go le h k =
    let both : EndsBy c (in_sequence r (go (now_of r))) =
    by_joined c r (go (now_of r)) (all_later b c r.members le h.members) (acts_later b c r.log le h.acts) (k (now_of r) h.end) in
    record { end = both.end; members = both.members; acts = both.acts }

-- a part has no more lines than its buffer has bytes
length_slice : (xs : List ℕ) (a c : ℕ) → length (slice_range xs a c) ≤ length xs
length_slice xs a c = omega (arith, length-take (c - a) (dropped a xs), length-drop a xs)

pub count_le : (input : List ℕ) (r : Range) → count_in input r ≤ length input
count_le input r =
    omega (arith, length-lines_from r.from (bytes_of input r), length_slice input r.from r.to)

div_le : (x n : ℕ) → x / suc n ≤ x
div_le x n = omega arith

pub paced_le : (count k : ℕ) → pace_ticks count k ≤ count + k
paced_le count zero = omega arith
paced_le count (suc k) = omega (arith, div_le (count + k) k)

-- one copy is no longer than all
copies_le : (k x : ℕ) → 1 ≤ k → x ≤ k * x
copies_le k x le = omega (arith, mul-le-mul_right x le)

mutual
  unfolding walk

  -- every walk ends by its start and as many times the span as it has step instances
  pub ends_by : (m : Mode) (b : Steps) (here : Here) (st : Stack) (t : Now) → AreInRange b → length here.input ≤ 16777216 →
      EndsBy (reach here.clock t.at + size_of b * span here.clock) (walk m b here st t)
  ends_by m stop here st t h small = by_done _ t (omega arith)
  ends_by m (step s ss) here st t h small =
      by_and_then (reach here.clock t.at + size_in s * span here.clock) _ _ _ (omega arith) (ends_step m s here st t h.0 small)
      (λ (u : Now) (le : u.at ≤ reach here.clock t.at + size_in s * span here.clock). later (reach here.clock u.at + size_of ss * span here.clock) _ _ (omega arith)
      (ends_by m ss here st u h.1 small))

  pub ends_step : (m : Mode) (s : Step) (here : Here) (st : Stack) (t : Now) → IsInRangeStep s → length here.input ≤ 16777216 →
      EndsBy (reach here.clock t.at + size_in s * span here.clock) (walk_step m s here st t)
  ends_step m (sleep n) here st t h small = by_sleeping here.clock st n t.at _ (omega arith) (omega arith)
  ends_step m checkpoint here st t h small = by_sleeping here.clock st 0 t.at _ (omega arith) (omega arith)
  ends_step m forever here st t h small =
      by_sleeping here.clock st (far - tick_of here.clock t.at) t.at _ (left_le far (tick_of here.clock t.at)) (omega arith)
  ends_step m (pace k) here st t h small =
      let in_range : k ≤ 1000000 = h.1 in
      by_pacing here.clock st (pace_ticks (count_in here.input here.part) k) t.at _
      (omega (arith, count_le here.input here.part, paced_le (count_in here.input here.part) k)) (omega arith)
  ends_step m (find text) here st t h small = by_showing _ _ t (omega arith)
  ends_step m (head n) here st t h small = by_showing _ _ t (omega arith)
  ends_step m longest here st t h small = by_showing _ _ t (omega arith)
  ends_step m (need text name) here st t h small = by_needing _ name here _ t (omega arith)
  ends_step m (raise name) here st t h small = by_raising name here _ t (omega arith)
  ends_step m (cancel name) here st t h small = by_cancelling here.clock _ _ t (omega arith)
  ends_step m (set_event name) here st t h small = by_setting here.clock _ _ t (omega arith)
  ends_step m (wait_for name) here st t h small = by_awaiting here.clock st _ t _ (omega arith)
  ends_step m (ask_for name ask body) here st t h small =
      by_asking m st ask _ here t _ (reach here.clock t.at + span here.clock) _ (omega arith) (omega arith)
      (λ (lent : Range) (u : Now) (le : u.at ≤ reach here.clock t.at + span here.clock). later
      (reach here.clock u.at + size_of body * span here.clock) _ _
      (omega arith) (ends_by m body (record here { part = lent }) st u h small))
  ends_step m (close_channel name) here st t h small = by_closing _ _ t (omega arith)
  ends_step m (scope name d shield fail body) here st t h small =
      by_block here.clock m _ _ t.at _ shield st _ _ (λ from. later (reach here.clock t.at + size_of body * span here.clock) _ _ (omega arith)
      (ends_by m body here _ t h.1 small))
  ends_step m (nursery name d shield body) here st t h small =
      by_block here.clock m _ _ t.at _ shield st _ _ (λ from. by_gathered here.clock (reach here.clock t.at + size_of body * span here.clock) _ _ _
      (omega arith) (by_signed _ _ _ (ends_by m body here _ t h.1 small)))
  ends_step m (event name body) here st t h small =
      by_event m _ t.at _ _ (λ from. later (reach here.clock t.at + size_of body * span here.clock) _ _ (omega arith)
      (ends_by m body here _ t h small))
  ends_step m (object name kind body) here st t h small =
      by_acted _ _ t.at _ _ (omega arith)
      (by_event m _ t.at _ _ (λ from. later (reach here.clock t.at + size_of body * span here.clock) _ _ (omega arith)
      (ends_by m body here _ t h.1 small)))
  ends_step m (start name None body) here st t h small =
      by_child _ _ (a_round_after here.clock t.at) _ t (omega arith)
      (by_signed _ st _ (later (reach here.clock (a_round_after here.clock t.at) + size_of body * span here.clock) _ _
      (omega (arith, round_by here.clock t.at)) (ends_by m body _ st (only_at (a_round_after here.clock t.at)) h.1 small)))
  ends_step m (start name (Some k) body) here st t h small =
      let one : (1 + size_of body) * span here.clock ≤ k * ((1 + size_of body) * span here.clock) =
      copies_le k ((1 + size_of body) * span here.clock) h.0.0 in
      by_each k _ _ t (omega arith) (λ (i : ℕ). by_child _ _ (a_round_after here.clock t.at) _ t (omega arith) (by_signed _ st _ (later
      (reach here.clock (a_round_after here.clock t.at) + size_of body * span here.clock) _ _ (omega (arith, one, round_by here.clock t.at))
      (ends_by m body _ st (only_at (a_round_after here.clock t.at)) h.1 small))))
  ends_step m (repeat count over body) here st t h small =
      later (reach here.clock t.at + count * (1 + size_of body) * span here.clock) _ _ (omega arith)
      (by_passes count 0 _ (base here.clock) (1 + size_of body) (span here.clock) t (λ (i : ℕ) (u : Now).
      later (reach here.clock u.at + size_of body * span here.clock) _ _ (omega arith) (ends_by m body _ st u h.1 small)))
  ends_step m (attempt body handler cleanup) here st t h small =
      later (reach here.clock t.at + size_of body * span here.clock + handled_size handler * span here.clock + cleaned_size cleanup * span here.clock) _ _
      (omega arith)
      (ends_cleanup m cleanup here st _ (reach here.clock t.at + size_of body * span here.clock + handled_size handler * span here.clock) h.2 small (omega arith)
      (ends_handler m handler here st _ (reach here.clock t.at + size_of body * span here.clock) h.1 small (omega arith) (ends_by m body here st t h.0 small)))

  pub ends_handler : (m : Mode) (x : Handled) (here : Here) (st : Stack) (r : Result) (b : ℕ) → IsInRangeHandler x →
      length here.input ≤ 16777216 → base here.clock ≤ b → EndsBy b r → EndsBy (b + handled_size x * span here.clock) (walk_handler m x here st r)
  ends_handler m unhandled here st r b h small low e = later b _ r (omega arith) e
  ends_handler m (except name body) here st r b h small low e =
      by_handled b _ _ r _ (omega arith) e (λ (u : Now) (le : u.at ≤ b). later (reach here.clock u.at + size_of body * span here.clock) _ _ (omega arith)
      (ends_by m body here st u h small))

  pub ends_cleanup : (m : Mode) (x : Cleaned) (here : Here) (st : Stack) (r : Result) (b : ℕ) → IsInRangeCleanup x →
      length here.input ≤ 16777216 → base here.clock ≤ b → EndsBy b r → EndsBy (b + cleaned_size x * span here.clock) (walk_cleanup m x here st r)
  ends_cleanup m uncleaned here st r b h small low e = later b _ r (omega arith) e
  ends_cleanup m (finally body) here st r b h small low e =
      by_cleaned b _ r _ (omega arith) e (λ (u : Now) (le : u.at ≤ b). later (reach here.clock u.at + size_of body * span here.clock) _ _ (omega arith)
      (ends_by m body here st u h small))

-- a job has at most a million steps
pub at_most_a_million : (format : Format) (size : ℕ) → size ≤ most_steps format → size ≤ 1000000
at_most_a_million One size le = omega (arith, le)
at_most_a_million Two size le = le
at_most_a_million Three size le = le

-- by when a job ends
pub root_ends_by : (m : Mode) (job : Tree) (input : List ℕ) → IsInRange job → length input ≤ MAX_INPUT →
    EndsBy (reach (clock_of job.format) 0 + size_of job.steps * span (clock_of job.format)) (root_walk m job input)
root_ends_by m job input in_range small = ends_by m job.steps (root_here job input) no_stack (only_at 0) in_range.numbers small

-- a million steps end by the last tick, in either clock
in_ticks_by : (clock : Clock) (size end : ℕ) → size ≤ 1000000 → end ≤ reach clock 0 + size * span clock → tick_of clock end ≤ 4611686018427387904
in_ticks_by by_ticks size end few le = omega arith
in_ticks_by by_rounds size end few le = omega arith

-- so a job ends by the last tick
pub ends_by_the_last_tick : EndsByTheLastTick
unfolding meaning
ends_by_the_last_tick job input in_range small =
    in_ticks_by (clock_of job.format) (size_of job.steps) (root_walk (two_walks (meaning_grants job input)) job input).end
    (at_most_a_million job.format (size_of job.steps) in_range.size)
    (root_ends_by (two_walks (meaning_grants job input)) job input in_range small).end
