-- When a sleep and a wait for an event end, by what is seen and by the moment in which the event is set.
use Rattle.std.proofs.Common.{◌≡◌, ◌⊎◌, inl, inr, ℕ, suc, ◌+◌, ◌<◌, ◌≤◌, max, nat_lt, Bool, true, false, Option, Some, None, refl, ap, sym, ◌∙◌, subst, nat_le, arith, if◌then◌else◌, min, List}
use Rattle.std.proofs.lemmas.Bool.Decides.{nat_tests}
use Rattle.exceptions.specs.Exceptions.{Label, cancelled}
use Rattle.cancel_scopes.specs.Sight.{Tick, Level, is_reached, sight, seen}
use Rattle.job_meaning.specs.Log.{Result, Table, entry, nil, waited}
use Rattle.job_meaning.specs.Moments.{a_round_after, wakes_at, gives_up_at, only_at}
use Rattle.job_meaning.specs.declared.clock.Clock.{Clock}
use Rattle.job_meaning.specs.declared.clock.Clock.TheVariants.{ByTicks as by_ticks, ByRounds as by_rounds}
use Rattle.job_meaning.specs.Walk.{Stack, wait_by_sight, wait_until, set_moment, wait_by, with_line, event_on, event_wait, sleep_result, pace_result, raised_at, done_at}
use Rattle.job_meaning.proofs.Clips.{NearEvents, event_near}
use Rattle.job_meaning.proofs.Causality.{set_near}
use Rattle.job_meaning.proofs.MomentLemmas.{wakes_after}
use Rattle.turn_semantics.specs.Midway.{Place, stack_at}
use Rattle.turn_semantics.specs.Placed.{IsSome}
use Rattle.turn_semantics.specs.Wakes.{IsBefore, SeesAt, SeesWaiting, GoesOnWaiting, set_at, ends_at, is_checkpoint}
use Rattle.turn_semantics.specs.Turned.{AgreesOn}
use Rattle.turn_semantics.proofs.Agreeing.{near_stacks, label_of, slept, sleep_seen}

-- ---- sleeps

-- a wait ends when a cancellation is seen in its course, after its least moment
waits_seen : (a : Tick) (least gives_up end t : ℕ) → a ≡ Some t → least < t → t ≤ end →
    wait_by_sight a least gives_up end ≡ raised_at cancelled (only_at t)
waits_seen a least gives_up end t e lt le = rw e (rw late (rw soon refl))
  where
    late : nat_le t least ≡ false
    late = grind (arith, nat_tests)

    soon : nat_le t end ≡ true
    soon = grind (arith, nat_tests)

-- it gives up where one is seen by its least moment
waits_gives_up : (a : Tick) (least gives_up end : ℕ) → is_reached a least ≡ true →
    wait_by_sight a least gives_up end ≡ raised_at cancelled (only_at gives_up)
waits_gives_up None least gives_up end e = absurd (cc)
waits_gives_up (Some from) least gives_up end e = rw e refl

-- and it ends by itself where none is seen at its end
waits_due : (a : Tick) (least gives_up end : ℕ) → least ≤ end → is_reached a end ≡ false →
    wait_by_sight a least gives_up end ≡ done_at (only_at end)
waits_due None least gives_up end le e = refl
waits_due (Some from) least gives_up end le e = rw not_before (rw e refl)
  where
    not_before : nat_le from least ≡ false
    not_before = grind (arith, nat_tests)

-- where moments are ticks, a sleeper that sees a cancellation raises then
ticks_seen : (a : Tick) (n since t : ℕ) → since < t → t ≤ since + n → (a ≡ Some t) ⊎ ((since ≡ t) × (is_reached a t ≡ true)) →
    wait_by_sight a since since (since + n) ≡ raised_at cancelled (only_at t)
ticks_seen a n since t lt le (inl e) = waits_seen a since since (since + n) t e lt le
ticks_seen a n since t lt le (inr e) = absurd (let i = e.0 in omega arith)

-- where there are rounds, it sees one in its first round, or later
rounds_seen : (a : Tick) (since t : ℕ) → since < t → (a ≡ Some t) ⊎ ((since + 1 ≡ t) × (is_reached a t ≡ true)) →
    ((since + 1 ≡ t) × (is_reached a (since + 1) ≡ true)) ⊎ ((a ≡ Some t) × (since + 1 < t))
rounds_seen a since t lt (inr e) = inl (e.0, subst (λ (x : ℕ). is_reached a x ≡ true) (sym e.0) e.1)
rounds_seen a since t lt (inl e) = by_order (nat_lt (since + 1) t) refl
  where
    reached : since + 1 ≡ t → is_reached a (since + 1) ≡ true
    reached i = rw e (grind (arith, nat_tests))

    by_order : (b : Bool) → nat_lt (since + 1) t ≡ b → ((since + 1 ≡ t) × (is_reached a (since + 1) ≡ true)) ⊎ ((a ≡ Some t) × (since + 1 < t))
    by_order true i = inr (e, grind (arith, nat_tests))
    by_order false i = let f : since + 1 ≡ t = grind (arith, nat_tests) in inl (f, reached f)

-- so it raises then, if it gives up in its first round
rounds_raise : (a : Tick) (since t end : ℕ) → since < t → t ≤ end → (a ≡ Some t) ⊎ ((since + 1 ≡ t) × (is_reached a t ≡ true)) →
    wait_by_sight a (since + 1) (since + 1) end ≡ raised_at cancelled (only_at t)
rounds_raise a since t end lt le s = by_round (rounds_seen a since t lt s)
  where
    by_round : ((since + 1 ≡ t) × (is_reached a (since + 1) ≡ true)) ⊎ ((a ≡ Some t) × (since + 1 < t)) →
        wait_by_sight a (since + 1) (since + 1) end ≡ raised_at cancelled (only_at t)
    by_round (inl e) = waits_gives_up a (since + 1) (since + 1) end e.1 ∙ ap (λ (x : ℕ). raised_at cancelled (only_at x)) e.0
    by_round (inr e) = waits_seen a (since + 1) (since + 1) end t e.0 e.1 le

-- and at a checkpoint a round later
rounds_give_up : (a : Tick) (since t : ℕ) → since < t → t ≤ since + 1 → (a ≡ Some t) ⊎ ((since + 1 ≡ t) × (is_reached a t ≡ true)) →
    wait_by_sight a (since + 1) (since + 2) (since + 1) ≡ raised_at cancelled (only_at (suc t))
rounds_give_up a since t lt le s = by_round (rounds_seen a since t lt s)
  where
    by_round : ((since + 1 ≡ t) × (is_reached a (since + 1) ≡ true)) ⊎ ((a ≡ Some t) × (since + 1 < t)) →
        wait_by_sight a (since + 1) (since + 2) (since + 1) ≡ raised_at cancelled (only_at (suc t))
    by_round (inl e) =
        let i = e.0 in
        let f : since + 2 ≡ suc t = omega arith in
        waits_gives_up a (since + 1) (since + 2) (since + 1) e.1 ∙ ap (λ (x : ℕ). raised_at cancelled (only_at x)) f
    by_round (inr e) = absurd (let i = e.1 in omega arith)

-- a sleeper that sees a cancellation by the end of its sleep raises then, unless it is at a checkpoint
pub slept_seen : (clock : Clock) (st : Stack) (n since t : ℕ) → since < t → t ≤ wakes_at clock (suc n) since → SeesAt clock since t st →
    sleep_result clock st (suc n) since ≡ raised_at cancelled (only_at t)
unfolding sleep_result
slept_seen by_ticks st n since t lt le s = ticks_seen (sight st.scopes) (suc n) since t lt le s
slept_seen by_rounds st n since t lt le s = rounds_raise (sight st.scopes) since t (wakes_at by_rounds (suc n) since) lt le s

pub paced_seen : (clock : Clock) (st : Stack) (n since t : ℕ) → since < t → t ≤ wakes_at clock n since → SeesAt clock since t st →
    pace_result clock st n since ≡ raised_at cancelled (only_at t)
unfolding pace_result
paced_seen by_ticks st n since t lt le s = ticks_seen (sight st.scopes) n since t lt le s
paced_seen by_rounds st n since t lt le s = rounds_raise (sight st.scopes) since t (wakes_at by_rounds n since) lt le s

-- and at a checkpoint it raises a round later
pub checkpoint_seen : (clock : Clock) (st : Stack) (since t : ℕ) → since < t → t ≤ wakes_at clock 0 since → SeesAt clock since t st →
    sleep_result clock st 0 since ≡ raised_at cancelled (only_at (suc t))
unfolding sleep_result
checkpoint_seen by_ticks st since t lt le s = absurd (omega arith)
checkpoint_seen by_rounds st since t lt le s = rounds_give_up (sight st.scopes) since t lt le s

-- another one continues at the end of its sleep
pub slept_due : (paced : Bool) (clock : Clock) (st : Stack) (n since : ℕ) → seen st.scopes (wakes_at clock n since) ≡ false →
    slept paced clock st n since ≡ done_at (only_at (wakes_at clock n since))
unfolding sleep_result pace_result
slept_due false clock st n since e =
    waits_due (sight st.scopes) (a_round_after clock since) (gives_up_at clock n since) (wakes_at clock n since) (wakes_after clock n since) e
slept_due true clock st n since e =
    waits_due (sight st.scopes) (a_round_after clock since) (a_round_after clock since) (wakes_at clock n since) (wakes_after clock n since) e

-- ---- waits for events

-- a test that holds, and one that does not
test_holds : (b : Bool) (x y : Result) → b ≡ true → (if b then x else y) ≡ x
test_holds b x y e = rw e refl

test_fails : (b : Bool) (x y : Result) → b ≡ false → (if b then x else y) ≡ y
test_fails b x y e = rw e refl

-- a wait for an event that is set by the next round is a sleep of no tick
wait_early : (clock : Clock) (st : Stack) (set since : ℕ) → set ≤ a_round_after clock since → wait_by clock st set since ≡ sleep_result clock st 0 since
wait_early clock st set since le = test_holds (nat_le set (a_round_after clock since)) _ _ (within set (a_round_after clock since) le)
  where
    within : (a b : ℕ) → a ≤ b → nat_le a b ≡ true
    within a b h = grind (arith, nat_tests)

-- another one lasts until the event is set
wait_late : (clock : Clock) (st : Stack) (set since : ℕ) → a_round_after clock since < set →
    wait_by clock st set since ≡ wait_until (sight st.scopes) (a_round_after clock since) set
wait_late clock st set since lt = test_fails (nat_le set (a_round_after clock since)) _ _ (beyond set (a_round_after clock since) lt)
  where
    beyond : (a b : ℕ) → b < a → nat_le a b ≡ false
    beyond a b h = grind (arith, nat_tests)

-- a cancellation that is seen before the event is set ends the wait
until_seen : (a : Tick) (least set t : ℕ) → least ≤ t → t < set → (a ≡ Some t) ⊎ ((least ≡ t) × (is_reached a t ≡ true)) →
    wait_until a least set ≡ raised_at cancelled (only_at t)
until_seen None least set t le lt (inl e) = absurd (cc)
until_seen None least set t le lt (inr e) = absurd (let f = e.1 in cc)
until_seen (Some from) least set t le lt s =
    test_holds (nat_lt from set) _ _ (grind (arith, nat_tests, reached s))
    ∙ ap (λ (x : ℕ). raised_at cancelled (only_at x)) (latest s)
  where
    same : Some from ≡ Some t → from ≡ t
    same e = cc

    by_tick : nat_le from t ≡ true → from ≤ t
    by_tick e = grind (arith, nat_tests)

    reached : (Some from ≡ Some t) ⊎ ((least ≡ t) × (nat_le from t ≡ true)) → from ≤ t
    reached (inl e) = let f = same e in omega arith
    reached (inr e) = by_tick e.1

    latest : (Some from ≡ Some t) ⊎ ((least ≡ t) × (nat_le from t ≡ true)) → max least from ≡ t
    latest (inl e) = let f = same e in omega arith
    latest (inr e) = let f = e.0 in let g = by_tick e.1 in omega arith

-- with none, the wait ends when the event is set
until_set : (a : Tick) (least set : ℕ) → (IsBefore a set → ⊥) → wait_until a least set ≡ done_at (only_at set)
until_set None least set h = refl
until_set (Some from) least set h = by_order (nat_lt from set) refl
  where
    sooner : nat_lt from set ≡ true → from < set
    sooner e = grind (arith, nat_tests)

    by_order : (b : Bool) → nat_lt from set ≡ b → wait_until (Some from) least set ≡ done_at (only_at set)
    by_order true e = absurd (h (sooner e))
    by_order false e = test_fails (nat_lt from set) _ _ e

-- when a task that sees a cancellation raises: a round later at a checkpoint
abbrev pub raises_in : Bool → ℕ → ℕ
raises_in true t = suc t
raises_in false t = t

-- where moments are ticks, a sleep of no tick that sees a cancellation raises in the same one
ticks_checkpoint : (st : Stack) (since t : ℕ) → since ≤ t → t ≤ since → SeesAt by_ticks since t st →
    sleep_result by_ticks st 0 since ≡ raised_at cancelled (only_at t)
ticks_checkpoint st since t le most s =
    subst (λ (x : ℕ). sleep_result by_ticks st 0 x ≡ raised_at cancelled (only_at t)) now (sleep_seen false st 0 t (sees s))
  where
    now : t ≡ since
    now = omega arith

    itself : nat_le t t ≡ true
    itself = grind (arith, nat_tests)

    sees : SeesAt by_ticks since t st → seen st.scopes t ≡ true
    sees (inl e) = ap (λ (x : Tick). is_reached x t) e ∙ itself
    sees (inr e) = e.1

-- a wait that sees a cancellation
pub waited_seen : (clock : Clock) (st : Stack) (set since t : ℕ) → SeesWaiting clock set since t st →
    wait_by clock st set since ≡ raised_at cancelled (only_at (raises_in (is_checkpoint clock set since) t))
waited_seen by_ticks st set since t (le, s, inl e) = wait_early by_ticks st set since e.0 ∙ ticks_checkpoint st since t le e.1 s
waited_seen by_ticks st set since t (le, s, inr e) = wait_late by_ticks st set since e.0 ∙ until_seen (sight st.scopes) since set t le e.1 s
waited_seen by_rounds st set since t (le, s, inl e) =
    wait_early by_rounds st set since e.0 ∙ checkpoint_seen by_rounds st since t (omega arith) e.1 s
    ∙ ap (λ (b : Bool). raised_at cancelled (only_at (raises_in b t))) (sym (within set since e.0))
  where
    within : (a b : ℕ) → a ≤ b + 1 → nat_le a (suc b) ≡ true
    within a b h = grind (arith, nat_tests)
waited_seen by_rounds st set since t (le, s, inr e) =
    wait_late by_rounds st set since e.0 ∙ until_seen (sight st.scopes) (since + 1) set t le e.1 s
    ∙ ap (λ (b : Bool). raised_at cancelled (only_at (raises_in b t))) (sym (beyond set since e.0))
  where
    beyond : (a b : ℕ) → b + 1 < a → nat_le a (suc b) ≡ false
    beyond a b h = grind (arith, nat_tests)

-- a wait that goes on
pub waited_on : (clock : Clock) (st : Stack) (set since t : ℕ) → GoesOnWaiting clock set since t st →
    wait_by clock st set since ≡ done_at (only_at t)
waited_on clock st set since t (inl e) =
    wait_early clock st set since e.0
    ∙ slept_due false clock st 0 since (subst (λ (x : ℕ). seen st.scopes x ≡ false) (sym (ends clock since ∙ e.1)) e.2)
    ∙ ap (λ (x : ℕ). done_at (only_at x)) (ends clock since ∙ e.1)
  where
    ends : (clock : Clock) (since : ℕ) → wakes_at clock 0 since ≡ a_round_after clock since
    ends by_ticks since = omega arith
    ends by_rounds since = refl
waited_on clock st set since t (inr e) =
    wait_late clock st set since e.0 ∙ until_set (sight st.scopes) (a_round_after clock since) set e.2 ∙ ap (λ (x : ℕ). done_at (only_at x)) e.1

-- the same of a wait for an event that encloses the task: one that is cancelled
pub event_seen : (clock : Clock) (st : Stack) (o : Option (Level Label)) (since t : ℕ) → IsSome (label_of o) →
    SeesWaiting clock (set_at clock o since) since t st →
    event_wait clock st o (only_at since) ≡ raised_at cancelled (only_at (raises_in (is_checkpoint clock (set_at clock o since) since) t))
unfolding event_wait
event_seen clock st None since t found s = absurd found
event_seen clock st (Some l) since t found s = ap (λ (r : Result). with_line l.label r) (waited_seen clock st (set_moment clock l.from since) since t s)

-- the result of a wait that goes on, by the event's label
abbrev pub noted_wait : Option Label → ℕ → Result
noted_wait None t = done_at (only_at t)
noted_wait (Some label) t = record (done_at (only_at t)) { log = entry t (waited label) nil }

-- and one that goes on
pub event_goes_on : (clock : Clock) (st : Stack) (o : Option (Level Label)) (since t : ℕ) → IsSome (label_of o) →
    GoesOnWaiting clock (set_at clock o since) since t st → event_wait clock st o (only_at since) ≡ noted_wait (label_of o) t
unfolding event_wait
event_goes_on clock st None since t found s = absurd found
event_goes_on clock st (Some l) since t found s = ap (λ (r : Result). with_line l.label r) (waited_on clock st (set_moment clock l.from since) since t s)

-- ---- the moment in which a wait ends, by a table and by the moments of cancellation of the world

-- if they agree up to the present moment, it is the same for both, or later for both
pub ends_near : (clock : Clock) (t since : ℕ) (table cancelled_from : Table) (name : List ℕ) (ps : List Place) → AgreesOn t table cancelled_from ps →
    min (suc t) (ends_at clock table name since ps) ≡ min (suc t) (ends_at clock cancelled_from name since ps)
ends_near clock t since table cancelled_from name ps a =
    by_event (event_on name (stack_at table ps).events) (event_on name (stack_at cancelled_from ps).events)
    (event_near (suc t) name (stack_at table ps).events (stack_at cancelled_from ps).events (near_stacks t table cancelled_from ps a).1)
  where
    by_event : (l k : Option (Level Label)) → NearEvents (suc t) l k → min (suc t) (set_at clock l since) ≡ min (suc t) (set_at clock k since)
    by_event None None n = refl
    by_event (Some l) (Some k) n = set_near (suc t) clock l.from k.from since n.1
    by_event None (Some k) n = absurd n
    by_event (Some l) None n = absurd n

-- so a wait is a checkpoint for both, or for none, once it has taken a round
pub checkpoint_alike : (clock : Clock) (t since : ℕ) (table cancelled_from : Table) (name : List ℕ) (ps : List Place) → a_round_after clock since ≤ t →
    AgreesOn t table cancelled_from ps →
    is_checkpoint clock (ends_at clock table name since ps) since ≡ is_checkpoint clock (ends_at clock cancelled_from name since ps) since
checkpoint_alike by_ticks t since table cancelled_from name ps le a = refl
checkpoint_alike by_rounds t since table cancelled_from name ps le a =
    same_side (suc t) (suc since) (ends_at by_rounds table name since ps) (ends_at by_rounds cancelled_from name since ps) (omega arith)
    (ends_near by_rounds t since table cancelled_from name ps a)
  where
    same_side : (c k x y : ℕ) → k < c → min c x ≡ min c y → nat_le x k ≡ nat_le y k
    same_side c k x y lt e = grind (arith, nat_tests)
