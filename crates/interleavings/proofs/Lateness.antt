-- What a task has left happens when it continues, or later.
use Rattle.std.proofs.Common.{◌≡◌, ℕ, zero, suc, ◌<◌, ◌-◌, ◌≤◌, min, max, Bool, true, false, Option, Some, None, List, [], ◌∷◌, refl, sym, ap, subst, ◌⊎◌, inl, inr, arith, nat_le, nat_lt, ◌&&◌, if◌then◌else◌}
use Rattle.std.proofs.lemmas.Bool.{true≢false}
use Rattle.std.proofs.lemmas.Bool.Decides.{nat_tests}
use Rattle.std.specs.Str.{bytes_eq}
use Rattle.turn_semantics.specs.Lists.{IsAmong}
use Rattle.exceptions.specs.Exceptions.{Label, Exc, cancelled}
use Rattle.cancel_scopes.specs.Sight.{Tick, Level, is_reached, sight, seen}
use Rattle.job_meaning.specs.Log.{nil, Member, Result, Table}
use Rattle.job_meaning.specs.Moments.{tick_of, a_round_after, far, wakes_at, gives_up_at, Now, only_at}
use Rattle.job_meaning.specs.declared.clock.Clock.{Clock}
use Rattle.job_meaning.specs.declared.clock.Clock.TheVariants.{ByTicks as by_ticks, ByRounds as by_rounds}
use Rattle.job_meaning.specs.Walk.{Levels, Stack, Here, walk, last_grant, leaves_queue, in_time, done_at, raised_at, pace_ticks, wait_by_sight, sleep_result, pace_result, wait_until, set_moment, wait_by, with_line_if, with_line, event_wait, label_if, level_if, event_on, a_nursery, nursery_result, latest}
use Rattle.job_meaning.specs.Before.{upto}
use Rattle.job_meaning.specs.Asking.{Answer, lines, missing, counted, answer_of, Purpose, shows, needs, paces, answer_result}
use Rattle.job_meaning.specs.Rest.{ChildOutcomes, outcome_members, Frame, Stopped, to_begin, asking, asleep, waiting_for, queued, giving_up, awaiting, at_end, finish, queue_result, wait_result, rest_comes_to, inside}
use Rattle.job_meaning.proofs.MomentLemmas.{wakes_after, gives_up_after}
use Rattle.job_meaning.proofs.Late.{Late, Timed, late, timed_earlier, late_done, late_raised, late_raising, late_waited, late_pacing, late_until, late_showing, latest_ends}
use Rattle.job_meaning.proofs.Clips.{NearEvents}
use Rattle.job_meaning.proofs.LateRest.{late_left, late_finish}
use Rattle.turn_semantics.specs.Midway.{Place, label_among, level_on, Tables, by_tables, stack_at}
use Rattle.turn_semantics.specs.Placed.{IsSome, PlacedStop}
use Rattle.turn_semantics.specs.Wakes.{set_at, IsBefore, SeesAt, SeesWaiting, GoesOnWaiting}
use Rattle.turn_semantics.proofs.Agreeing.{event_at_places}
use Rattle.interleavings.specs.Interleaving.{live, slept, leaves_by, goes_on, leaves_at}
use Rattle.interleavings.specs.Woken.{SeesNow, IsOver}
use Rattle.interleavings.proofs.Queues.{pending_asked, pending_finish, PendingOn, LateFrom, LeftFrom}

late_earlier : (v t : ℕ) (r : Result) → v ≤ t → Late t r → Late v r
late_earlier v t r le h = let e : t ≤ r.end = h.ends in record { ends = omega arith; timed = timed_earlier v t r.log le h.timed }

-- ---- sleeps

-- a wait notes nothing
wait_log : (a : Tick) (least gives_up end : ℕ) → (wait_by_sight a least gives_up end).log ≡ nil
wait_log None least gives_up end = refl
wait_log (Some from) least gives_up end = by_now (nat_le from least) (nat_le from end)
  where
    by_now : (now before : Bool) →
        (if now then raised_at cancelled (only_at gives_up) else (if before then raised_at cancelled (only_at from) else done_at (only_at end))).log ≡ nil
    by_now true before = refl
    by_now false true = refl
    by_now false false = refl

-- a wait in whose course nothing is seen before m ends at m or later
wait_unseen : (m : ℕ) (a : Tick) (least gives_up end : ℕ) → least ≤ gives_up → m ≤ end → upto m a ≡ m →
    m ≤ (wait_by_sight a least gives_up end).end
wait_unseen m None least gives_up end lo hi e = hi
wait_unseen m (Some from) least gives_up end lo hi e = by_now (nat_le from least) (nat_le from end) refl
  where
    by_now : (now before : Bool) → nat_le from least ≡ now →
        m ≤ (if now then raised_at cancelled (only_at gives_up) else (if before then raised_at cancelled (only_at from) else done_at (only_at end))).end
    by_now true before f = grind (arith, nat_tests)
    by_now false true f = omega arith
    by_now false false f = omega arith

-- A wait that sees a cancellation at t, which is no later than its end, and is not over before: the cancellation begins to be
-- seen then, or it was seen by the least moment of the wait.
wait_seen : (a : Tick) (least gives_up end t : ℕ) → is_reached a t ≡ true → t ≤ end → t ≤ (wait_by_sight a least gives_up end).end →
    (a ≡ Some t) ⊎ (t ≤ gives_up)
wait_seen None least gives_up end t e hi le = cc
wait_seen (Some from) least gives_up end t e hi le = by_now (nat_le from least) (nat_le from end) refl refl le
  where
    now_seen : t ≤ from → Some from ≡ Some t
    now_seen h = ap (λ (v : ℕ). Some v) (grind (arith, nat_tests))

    by_now : (now before : Bool) → nat_le from least ≡ now → nat_le from end ≡ before →
        t ≤ (if now then raised_at cancelled (only_at gives_up) else (if before then raised_at cancelled (only_at from) else done_at (only_at end))).end →
        (Some from ≡ Some t) ⊎ (t ≤ gives_up)
    by_now true before f g h = inr h
    by_now false true f g h = inl (now_seen h)
    by_now false false f g h = absurd (grind (arith, nat_tests))

-- so it is with a sleep, by `pace` or not: none is over before it began
pub slept_after : (clock : Clock) (paced : Bool) (st : Stack) (n since : ℕ) → a_round_after clock since ≤ (slept clock paced st n since).end
unfolding sleep_result pace_result
slept_after clock false st n since =
    (late_waited (sight st.scopes) (a_round_after clock since) (gives_up_at clock n since) (wakes_at clock n since) (a_round_after clock since)
    (omega arith) (gives_up_after clock n since) (wakes_after clock n since)).ends
slept_after clock true st n since =
    (late_waited (sight st.scopes) (a_round_after clock since) (a_round_after clock since) (wakes_at clock n since) (a_round_after clock since)
    (omega arith) (omega arith) (wakes_after clock n since)).ends

-- one that sees nothing before m, and is not due before, ends at m or later
pub slept_unseen : (clock : Clock) (paced : Bool) (st : Stack) (n since m : ℕ) → m ≤ wakes_at clock n since → upto m (sight st.scopes) ≡ m →
    m ≤ (slept clock paced st n since).end
unfolding sleep_result pace_result
slept_unseen clock false st n since m hi e =
    wait_unseen m (sight st.scopes) (a_round_after clock since) (gives_up_at clock n since) (wakes_at clock n since) (gives_up_after clock n since) hi e
slept_unseen clock true st n since m hi e =
    wait_unseen m (sight st.scopes) (a_round_after clock since) (a_round_after clock since) (wakes_at clock n since) (omega arith) hi e

-- one that sees a cancellation when it has its next turn sees it as a table says
pub slept_sees : (clock : Clock) (paced : Bool) (st : Stack) (n since t : ℕ) → since < t → seen st.scopes t ≡ true → t ≤ wakes_at clock n since →
    t ≤ (slept clock paced st n since).end → SeesAt clock since t st
unfolding sleep_result pace_result
slept_sees clock false st n since t lt e hi le =
    by_case clock n hi e lt (wait_seen (sight st.scopes) (a_round_after clock since) (gives_up_at clock n since) (wakes_at clock n since) t e hi le)
  where
    by_case : (clock : Clock) (n : ℕ) → t ≤ wakes_at clock n since → seen st.scopes t ≡ true → since < t →
        (sight st.scopes ≡ Some t) ⊎ (t ≤ gives_up_at clock n since) → SeesAt clock since t st
    by_case clock n hi e lt (inl f) = inl f
    by_case by_ticks n hi e lt (inr f) = absurd (omega arith)
    by_case by_rounds zero hi e lt (inr f) = inr (omega arith, e)
    by_case by_rounds (suc n) hi e lt (inr f) = inr (omega arith, e)
slept_sees clock true st n since t lt e hi le =
    by_case clock e lt (wait_seen (sight st.scopes) (a_round_after clock since) (a_round_after clock since) (wakes_at clock n since) t e hi le)
  where
    by_case : (clock : Clock) → seen st.scopes t ≡ true → since < t → (sight st.scopes ≡ Some t) ⊎ (t ≤ a_round_after clock since) → SeesAt clock since t st
    by_case clock e lt (inl f) = inl f
    by_case by_ticks e lt (inr f) = absurd (omega arith)
    by_case by_rounds e lt (inr f) = inr (omega arith, e)

late_slept : (v : ℕ) (clock : Clock) (paced : Bool) (st : Stack) (n t : ℕ) → v ≤ (slept clock paced st n t).end → Late v (slept clock paced st n t)
unfolding sleep_result pace_result
late_slept v clock false st n t le =
    record { ends = le; timed = subst (Timed v) (sym (wait_log (sight st.scopes) (a_round_after clock t) (gives_up_at clock n t) (wakes_at clock n t))) tt }
late_slept v clock true st n t le =
    record { ends = le; timed = subst (Timed v) (sym (wait_log (sight st.scopes) (a_round_after clock t) (a_round_after clock t) (wakes_at clock n t))) tt }

-- ---- waits for events

until_log : (a : Tick) (least end : ℕ) → (wait_until a least end).log ≡ nil
until_log None least end = refl
until_log (Some from) least end = by_order (nat_lt from end)
  where
    by_order : (b : Bool) → (let r : Result = if b then raised_at cancelled (only_at (max least from)) else done_at (only_at end) in r.log) ≡ nil
    by_order true = refl
    by_order false = refl

-- a wait in whose course nothing is seen before m ends at m or later
until_unseen : (m : ℕ) (a : Tick) (least end : ℕ) → m ≤ end → upto m a ≡ m → m ≤ (wait_until a least end).end
until_unseen m None least end hi e = hi
until_unseen m (Some from) least end hi e = by_order (nat_lt from end)
  where
    by_order : (b : Bool) → m ≤ (let r : Result = if b then raised_at cancelled (only_at (max least from)) else done_at (only_at end) in r.end)
    by_order true = omega arith
    by_order false = hi

-- one that sees a cancellation before it is over sees it when it begins to be seen, or in its first round
until_sees : (a : Tick) (least end t : ℕ) → is_reached a t ≡ true → t < end → least ≤ t → t ≤ (wait_until a least end).end →
    (a ≡ Some t) ⊎ (least ≡ t)
until_sees None least end t e hi lo le = cc
until_sees (Some from) least end t e hi lo le = by_order (nat_lt from end) refl le
  where
    by_least : (b : Bool) → nat_le least from ≡ b → t ≤ max least from → (Some from ≡ Some t) ⊎ (least ≡ t)
    by_least true f h = inl (ap (λ (v : ℕ). Some v) (grind (arith, nat_tests)))
    by_least false f h = inr (grind (arith, nat_tests))

    by_order : (b : Bool) → nat_lt from end ≡ b →
        t ≤ (let r : Result = if b then raised_at cancelled (only_at (max least from)) else done_at (only_at end) in r.end) →
        (Some from ≡ Some t) ⊎ (least ≡ t)
    by_order true f h = by_least (nat_le least from) refl h
    by_order false f h = absurd (grind (arith, nat_tests))

-- one that ends when it is over saw none before
until_over : (a : Tick) (least end : ℕ) → least < end → end ≤ (wait_until a least end).end → IsBefore a end → ⊥
until_over None least end lo le before = before
until_over (Some from) least end lo le before = by_order (nat_lt from end) refl le
  where
    by_order : (b : Bool) → nat_lt from end ≡ b →
        end ≤ (let r : Result = if b then raised_at cancelled (only_at (max least from)) else done_at (only_at end) in r.end) → ⊥
    by_order true f h = absurd (omega arith)
    by_order false f h = absurd (grind (arith, nat_tests))

-- a wait for what is set in a moment: a checkpoint, or a wait until then
set_log : (clock : Clock) (st : Stack) (set m : ℕ) → (wait_by clock st set m).log ≡ nil
unfolding sleep_result
set_log clock st set m = by_round (nat_le set (a_round_after clock m))
  where
    by_round : (b : Bool) →
        (let r : Result = if b then sleep_result clock st 0 m else wait_until (sight st.scopes) (a_round_after clock m) set in r.log) ≡ nil
    by_round true = wait_log (sight st.scopes) (a_round_after clock m) (gives_up_at clock 0 m) (wakes_at clock 0 m)
    by_round false = until_log (sight st.scopes) (a_round_after clock m) set

-- it takes a round
set_after : (clock : Clock) (st : Stack) (set m : ℕ) → a_round_after clock m ≤ (wait_by clock st set m).end
set_after clock st set m = by_round (nat_le set (a_round_after clock m)) refl
  where
    by_round : (b : Bool) → nat_le set (a_round_after clock m) ≡ b →
        a_round_after clock m
        ≤ (let r : Result = if b then sleep_result clock st 0 m else wait_until (sight st.scopes) (a_round_after clock m) set in r.end)
    by_round true e = slept_after clock false st 0 m
    by_round false e =
        (late_until (sight st.scopes) (a_round_after clock m) set (a_round_after clock m) (omega arith) (grind (arith, nat_tests))).ends

set_unseen : (clock : Clock) (st : Stack) (set since m : ℕ) → m ≤ max (a_round_after clock since) set → upto m (sight st.scopes) ≡ m →
    m ≤ (wait_by clock st set since).end
set_unseen clock st set since m hi e = by_round (nat_le set (a_round_after clock since)) refl
  where
    by_round : (b : Bool) → nat_le set (a_round_after clock since) ≡ b →
        m ≤ (let r : Result = if b then sleep_result clock st 0 since else wait_until (sight st.scopes) (a_round_after clock since) set in r.end)
    by_round true f =
        let x : a_round_after clock since ≤ (sleep_result clock st 0 since).end = slept_after clock false st 0 since in
        let y : set ≤ a_round_after clock since = grind (arith, nat_tests) in
        omega arith
    by_round false f =
        let y : a_round_after clock since < set = grind (arith, nat_tests) in
        until_unseen m (sight st.scopes) (a_round_after clock since) set (omega arith) e

-- where it is no checkpoint, it is a wait until then
set_later : (clock : Clock) (st : Stack) (set since t : ℕ) → a_round_after clock since < set → t ≤ (wait_by clock st set since).end →
    t ≤ (wait_until (sight st.scopes) (a_round_after clock since) set).end
set_later clock st set since t lt le = by_round (nat_le set (a_round_after clock since)) refl le
  where
    by_round : (b : Bool) → nat_le set (a_round_after clock since) ≡ b →
        t ≤ (let r : Result = if b then sleep_result clock st 0 since else wait_until (sight st.scopes) (a_round_after clock since) set in r.end) →
        t ≤ (wait_until (sight st.scopes) (a_round_after clock since) set).end
    by_round true f h = absurd (grind (arith, nat_tests))
    by_round false f h = h

-- a task that may see a cancellation in a moment sees it as a table says, if its wait is not over before
set_sees : (clock : Clock) (st : Stack) (set since t : ℕ) → SeesNow clock set since t → seen st.scopes t ≡ true →
    t ≤ (wait_by clock st set since).end → SeesWaiting clock set since t st
set_sees clock st set since t (lo, inl h) e le = (lo, inr (omega arith, e), inl h)
set_sees clock st set since t (lo, inr h) e le =
    (lo, by_case (until_sees (sight st.scopes) (a_round_after clock since) set t e h.1 lo (set_later clock st set since t h.0 le)), inr h)
  where
    by_case : (sight st.scopes ≡ Some t) ⊎ (a_round_after clock since ≡ t) → SeesAt clock since t st
    by_case (inl f) = inl f
    by_case (inr f) = inr (f, e)

-- and one whose wait is over goes on as a table says
set_goes : (clock : Clock) (st : Stack) (set since t : ℕ) → IsOver clock set since t (seen st.scopes t) → t ≤ (wait_by clock st set since).end →
    GoesOnWaiting clock set since t st
set_goes clock st set since t (inl h) le = inl h
set_goes clock st set since t (inr h) le =
    inr (
      h.0,
      h.1,
      until_over (sight st.scopes) (a_round_after clock since) set h.0
          (let x : t ≤ (wait_until (sight st.scopes) (a_round_after clock since) set).end = set_later clock st set since t h.0 le in omega arith),
    )

-- the line of a wait does not change its end
lined_end : (label : Label) (r : Result) → (with_line label r).end ≡ r.end
lined_end label r = by_exc r.exc
  where
    by_exc : (o : Option Exc) → (with_line_if o label r).end ≡ r.end
    by_exc None = refl
    by_exc (Some e) = refl

-- so it is with a wait for an event
pub awaited_after : (clock : Clock) (st : Stack) (level : Option (Level Label)) (since : ℕ) → IsSome level →
    a_round_after clock since ≤ (event_wait clock st level (only_at since)).end
unfolding event_wait
awaited_after clock st None since h = absurd h
awaited_after clock st (Some l) since h =
    let e = lined_end l.label (wait_by clock st (set_moment clock l.from since) since) in
    let x = set_after clock st (set_moment clock l.from since) since in
    omega arith

pub awaited_unseen : (clock : Clock) (st : Stack) (level : Option (Level Label)) (since m : ℕ) → IsSome level →
    m ≤ max (a_round_after clock since) (set_at clock level since) → upto m (sight st.scopes) ≡ m →
    m ≤ (event_wait clock st level (only_at since)).end
unfolding event_wait
awaited_unseen clock st None since m h hi e = absurd h
awaited_unseen clock st (Some l) since m h hi e =
    let f = lined_end l.label (wait_by clock st (set_moment clock l.from since) since) in
    let x = set_unseen clock st (set_moment clock l.from since) since m hi e in
    omega arith

pub awaited_sees : (clock : Clock) (st : Stack) (level : Option (Level Label)) (since t : ℕ) → IsSome level →
    SeesNow clock (set_at clock level since) since t → seen st.scopes t ≡ true → t ≤ (event_wait clock st level (only_at since)).end →
    SeesWaiting clock (set_at clock level since) since t st
unfolding event_wait
awaited_sees clock st None since t h may e le = absurd h
awaited_sees clock st (Some l) since t h may e le =
    let f = lined_end l.label (wait_by clock st (set_moment clock l.from since) since) in
    set_sees clock st (set_moment clock l.from since) since t may e (omega arith)

pub awaited_goes : (clock : Clock) (st : Stack) (level : Option (Level Label)) (since t : ℕ) → IsSome level →
    IsOver clock (set_at clock level since) since t (seen st.scopes t) → t ≤ (event_wait clock st level (only_at since)).end →
    GoesOnWaiting clock (set_at clock level since) since t st
unfolding event_wait
awaited_goes clock st None since t h may le = absurd h
awaited_goes clock st (Some l) since t h may le =
    let f = lined_end l.label (wait_by clock st (set_moment clock l.from since) since) in
    set_goes clock st (set_moment clock l.from since) since t may (omega arith)

-- a wait is as late as its end
late_awaited : (v : ℕ) (clock : Clock) (st : Stack) (level : Option (Level Label)) (since : ℕ) → v ≤ (event_wait clock st level (only_at since)).end →
    Late v (event_wait clock st level (only_at since))
unfolding event_wait
late_awaited v clock st None since le = record { ends = le; timed = tt }
late_awaited v clock st (Some l) since le =
    by_exc (wait_by clock st (set_moment clock l.from since) since).exc le
  where
    by_exc : (o : Option Exc) → v ≤ (with_line_if o l.label (wait_by clock st (set_moment clock l.from since) since)).end →
        Late v (with_line_if o l.label (wait_by clock st (set_moment clock l.from since) since))
    by_exc None le = record { ends = le; timed = (le, tt) }
    by_exc (Some e) le = record { ends = le; timed = subst (Timed v) (sym (set_log clock st (set_moment clock l.from since) since)) tt }

-- the event for which a task waits is on its stack
pub event_there : (k : Table) (name : List ℕ) (ps : List Place) → IsSome (label_among true name ps) → IsSome (event_on name (stack_at k ps).events)
event_there k name [] h = absurd h
event_there k name (p ∷ ps) h = by_kind p.is_event (bytes_eq name p.label.name) refl (event_there k name ps) h
  where
    level : Level Label
    level = record { label = p.label; shield = p.shield; from = k p.label }

    by_kind : (a b : Bool) → bytes_eq name p.label.name ≡ b → (IsSome (label_among true name ps) → IsSome (event_on name (stack_at k ps).events)) →
        IsSome (label_if (a && b) p.label (label_among true name ps)) → IsSome (event_on name (level_on a level (stack_at k ps)).events)
    by_kind true true e more h =
        subst (λ (x : Bool). IsSome (level_if x level (event_on name (stack_at k ps).events))) (sym e) tt
    by_kind true false e more h =
        subst (λ (x : Bool). IsSome (level_if x level (event_on name (stack_at k ps).events))) (sym e) (more h)
    by_kind false b e more h = more h

-- the moments in which an event is set by near moments of cancellation are near
set_near : (c : ℕ) (clock : Clock) (f g : Tick) (m : ℕ) → upto c f ≡ upto c g → min c (set_moment clock f m) ≡ min c (set_moment clock g m)
set_near c clock None None m e = refl
set_near c clock None (Some y) m e = no_earlier y (wakes_at clock (far - tick_of clock m) m) e
  where
    no_earlier : (u last : ℕ) → c ≡ min c u → min c last ≡ min c (min u last)
    no_earlier u last h = omega arith
set_near c clock (Some x) None m e = no_earlier x (wakes_at clock (far - tick_of clock m) m) e
  where
    no_earlier : (u last : ℕ) → min c u ≡ c → min c (min u last) ≡ min c last
    no_earlier u last h = omega arith
set_near c clock (Some x) (Some y) m e = same_cut x y (wakes_at clock (far - tick_of clock m) m) e
  where
    same_cut : (u v last : ℕ) → min c u ≡ min c v → min c (min u last) ≡ min c (min v last)
    same_cut u v last h = omega arith

pub ends_near : (c : ℕ) (clock : Clock) (o p : Option (Level Label)) (since : ℕ) → NearEvents c o p →
    min c (set_at clock o since) ≡ min c (set_at clock p since)
ends_near c clock None None since h = refl
ends_near c clock None (Some p) since h = absurd h
ends_near c clock (Some o) None since h = absurd h
ends_near c clock (Some o) (Some p) since h = set_near c clock o.from p.from since h.1

-- ---- what is left

-- the result of an answer is no earlier than the answer
late_answered : (a : Answer) (purpose : Purpose) (here : Here) (st : Stack) (t : Now) → Late t.at (answer_result a purpose here st t)
late_answered (lines ls) purpose here st t = late_showing ls t
late_answered missing (needs name) here st t = late_raising name here t
late_answered missing shows here st t = late_done t.at t (omega arith)
late_answered missing (paces k) here st t = late_done t.at t (omega arith)
late_answered (counted n) (paces k) here st t = late_pacing here.clock st (pace_ticks n k) t.at
late_answered (counted n) shows here st t = late_done t.at t (omega arith)
late_answered (counted n) (needs name) here st t = late_done t.at t (omega arith)

-- a nursery that is left at v or later is as late
late_settled : (v : ℕ) (clock : Clock) (ms : List Member) (u : ℕ) (exc : Option Exc) (l : Level Label) (outer : Levels) (now : Now) →
    v ≤ a_round_after clock (latest u ms) → Late v (wait_result clock ms u exc (l ∷ outer) now)
unfolding nursery_result
late_settled v clock ms u exc l outer now h =
    late_left v clock a_nursery l outer (nursery_result clock l.label (record { end = u; own = []; exc = exc; members = ms; log = nil }))
    (record { ends = h; timed = tt })

module _ (k : Tables) (outcomes : ChildOutcomes) (here : Here) (t : Now) (v : ℕ) where
  -- What a live task has left is as late as the moment of its next turn, but for what it asked, if it is in a queue.
  pub late_rest : (s : Stopped) (fs : List Frame) (ps : List Place) → PlacedStop s fs ps → live s ≡ true →
      v ≤ goes_on here.clock outcomes s (stack_at k.cancelled_from ps) (leaves_at k s here ps) t.at →
      LateFrom v here fs ps s (rest_comes_to (by_tables k) outcomes (record { stopped = s; frames = fs }) here (stack_at k.cancelled_from ps) t)
  late_rest to_begin fs ps h l le = late_finish fs v (by_tables k) outcomes here (stack_at k.cancelled_from ps) (done_at t) (late_done v t le)
  late_rest (asking kernel purpose) fs ps h l le =
      late_finish fs v (by_tables k) outcomes here (stack_at k.cancelled_from ps)
      (answer_result (answer_of kernel (inside fs here)) purpose here (stack_at k.cancelled_from ps) t)
      (late_earlier v t.at _ le (late_answered (answer_of kernel (inside fs here)) purpose here (stack_at k.cancelled_from ps) t))
  late_rest (asleep false n since) fs ps h l le =
      late_finish fs v (by_tables k) outcomes here (stack_at k.cancelled_from ps) (sleep_result here.clock (stack_at k.cancelled_from ps) n since)
      (late_slept v here.clock false (stack_at k.cancelled_from ps) n since (omega arith))
  late_rest (asleep true n since) fs ps h l le =
      late_finish fs v (by_tables k) outcomes here (stack_at k.cancelled_from ps) (pace_result here.clock (stack_at k.cancelled_from ps) n since)
      (late_slept v here.clock true (stack_at k.cancelled_from ps) n since (omega arith))
  late_rest (waiting_for event since) fs ps h l le =
      late_finish fs v (by_tables k) outcomes here (stack_at k.cancelled_from ps) _
      (late_awaited v here.clock (stack_at k.cancelled_from ps) (event_on event (stack_at k.cancelled_from ps).events) since (omega arith))
  late_rest (queued object ask since body) fs ps h l le =
      subst (λ (x : Option Label). PendingOn v (label_among true object ps) since ask (inside fs here).part (asked x))
      (sym (event_at_places k.cancelled_from object ps)) (by_label (label_among true object ps) h.0 le)
    where
      st : Stack
      st = stack_at k.cancelled_from ps

      -- what comes of the ask of an object with this label
      asked : Option Label → Result
      asked x =
          finish (by_tables k) outcomes fs here (stack_at k.cancelled_from ps)
          (queue_result (by_tables k) ask x (inside fs here) (stack_at k.cancelled_from ps) since
          (λ inner u. walk (by_tables k) body inner (stack_at k.cancelled_from ps) u))

      by_label : (x : Option Label) → IsSome x → v ≤ leaves_by k here x since (stack_at k.cancelled_from ps) →
          PendingOn v x since ask (inside fs here).part (asked x)
      by_label None some i = absurd some
      by_label (Some label) some i =
          pending_finish fs v (by_tables k) outcomes here st label since ask (inside fs here).part _
          (pending_asked v ask label (inside fs here) (sight st.scopes) since (leaves_queue (sight st.scopes) (last_grant here.clock since))
          (in_time since (leaves_queue (sight st.scopes) (last_grant here.clock since)) (k.granted label here.task since))
          (λ inner u. walk (by_tables k) body inner st u) i (λ inner u. late (by_tables k) body inner st u))
  late_rest (giving_up since) fs ps h l le =
      late_finish fs v (by_tables k) outcomes here (stack_at k.cancelled_from ps) (raised_at cancelled (only_at (suc since)))
      (late_raised cancelled v (only_at (suc since)) le)
  late_rest (awaiting children ended exc) fs [] h l le = absurd h
  late_rest (awaiting children ended exc) fs (p ∷ ps) h l le = by_kind p.is_event h.0
    where
      by_kind : (b : Bool) → b ≡ false →
          (let st : Stack = level_on b (record { label = p.label; shield = p.shield; from = k.cancelled_from p.label }) (stack_at k.cancelled_from ps) in
          Late v (rest_comes_to (by_tables k) outcomes (record { stopped = awaiting children ended exc; frames = fs }) here st t))
      by_kind true e = absurd (true≢false e)
      by_kind false e =
          late_finish fs v (by_tables k) outcomes here (stack_at k.cancelled_from ps) _
          (late_settled v here.clock (outcome_members outcomes children) ended exc _ (stack_at k.cancelled_from ps).scopes t le)
  late_rest (at_end u e) fs ps h l le = cc

  -- and so is what any task has left
  pub left_rest : (s : Stopped) (fs : List Frame) (ps : List Place) → PlacedStop s fs ps →
      (live s ≡ true → v ≤ goes_on here.clock outcomes s (stack_at k.cancelled_from ps) (leaves_at k s here ps) t.at) →
      LeftFrom v here fs ps s (rest_comes_to (by_tables k) outcomes (record { stopped = s; frames = fs }) here (stack_at k.cancelled_from ps) t)
  left_rest to_begin fs ps h le = late_rest to_begin fs ps h refl (le refl)
  left_rest (asking kernel purpose) fs ps h le = late_rest (asking kernel purpose) fs ps h refl (le refl)
  left_rest (asleep paced n since) fs ps h le = late_rest (asleep paced n since) fs ps h refl (le refl)
  left_rest (waiting_for event since) fs ps h le = late_rest (waiting_for event since) fs ps h refl (le refl)
  left_rest (queued object ask since body) fs ps h le = late_rest (queued object ask since body) fs ps h refl (le refl)
  left_rest (giving_up since) fs ps h le = late_rest (giving_up since) fs ps h refl (le refl)
  left_rest (awaiting children ended exc) fs ps h le = late_rest (awaiting children ended exc) fs ps h refl (le refl)
  left_rest (at_end u e) fs ps h le = refl

-- a child's end is no later than that of its nursery
pub latest_in : (outcomes : ChildOutcomes) (u : ℕ) (is : List ℕ) (i : ℕ) → IsAmong i is → (outcomes i).end ≤ latest u (outcome_members outcomes is)
latest_in outcomes u [] i h = absurd h
latest_in outcomes u (j ∷ is) i (inl e) =
    let q : (outcomes i).end ≡ (outcomes j).end = ap (λ (z : ℕ). (outcomes z).end) e in
    let z : max u (outcomes j).end ≤ latest (max u (outcomes j).end) (outcome_members outcomes is) =
    latest_ends (max u (outcomes j).end) (outcome_members outcomes is) in
    omega arith
latest_in outcomes u (j ∷ is) i (inr h) = latest_in outcomes (max u (outcomes j).end) is i h
