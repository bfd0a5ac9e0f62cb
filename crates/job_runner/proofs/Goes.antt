-- A task that is ready by a call may continue by the wake of that call.
use Rattle.std.proofs.Common.{◌≡◌, ◌⊎◌, inl, inr, ℕ, suc, ◌<◌, ◌≤◌, max, ◌&&◌, Bool, true, false, Option, Some, None, refl, ap, sym, ◌∙◌, subst, arith, if◌then◌else◌}
use Rattle.std.specs.Prelude.{IsSomeAnd, nat_le, nat_lt}
use Rattle.std.proofs.lemmas.Bool.{cases_lt, leb-true, leb-false}
use Rattle.std.proofs.lemmas.Option.{none-some, same_Some}
use Rattle.task_table.specs.declared.entry.Call.{Call}
use Rattle.task_table.specs.declared.entry.Call.TheVariants as calls
use Rattle.task_table.specs.Entries.{wake_of}
use Rattle.cancel_scopes.specs.Sight.{is_reached, seen}
use Rattle.cancel_scopes.specs.Tree.{outer_of}
use Rattle.input_lines.specs.declared.answers.Answer.{Answer}
use Rattle.input_lines.specs.declared.request.Request.{Request}
use Rattle.interleavings.specs.Woken.{SeesNow, IsOver}
use Rattle.job_meaning.specs.Moments.{a_round_after, wakes_at}
use Rattle.job_meaning.specs.declared.clock.Clock.{Clock}
use Rattle.job_meaning.specs.declared.clock.Clock.TheVariants.{ByTicks as by_ticks, ByRounds as by_rounds}
use Rattle.nursery_book.specs.Nursery.{Nursery, is_settled}
use Rattle.nursery_book.specs.Book.{nursery_at, HasNursery}
use Rattle.task_machine.specs.declared.stop.TaskState.{TaskState}
use Rattle.task_machine.specs.declared.stop.TaskState.TheVariants.{ToBegin, Asked, Asleep, Waiting, Queued, GivingUp, Awaits, Over}
use Rattle.task_machine.specs.declared.stop.Wake.{Wake}
use Rattle.task_machine.specs.declared.stop.Wake.TheVariants as wakes
use Rattle.task_machine.specs.declared.task.Task.{Task}
use Rattle.task_machine.specs.declared.world.World.{World}
use Rattle.task_machine.specs.Events.{set_by, wait_ends, is_wait_over}
use Rattle.task_machine.specs.Tasks.{scope_of, lent_of}
use Rattle.task_machine.specs.Waking.{WakesFrom}
use Rattle.task_machine.specs.Worlds.{event_at}
use Rattle.run_refinement.specs.Ready.{MayGo, IsTimely}
use Rattle.run_refinement.specs.Step.{Asks}
use Rattle.job_runner.specs.Jumps.{seen_call_if, seen_call, sight_asleep, BeganBefore, Stayed}
use Rattle.job_meaning.specs.Walk.{last_grant}
use Rattle.objects.specs.Held.{what_in}
use Rattle.objects.specs.Whats.{What}
use Rattle.job_runner.specs.Shared.{what_of}
use Rattle.job_runner.specs.Shelves.{left_in, moment_of, ContinuesBy, ContinuesLater, IsRight, GoesBy}
use Rattle.job_runner.specs.Turns.{at_once, call_at_once}

-- a task may continue by a wake that fits its blocked state
goes_with : (world : World) (what : Option What) (task : Task) (task_state : TaskState) (wake went : Wake) → task.task_state ≡ task_state →
    WakesFrom task_state (lent_of task) world.book wake → IsTimely world what (scope_of task) task_state wake → Some wake ≡ Some went →
    MayGo world what task went
goes_with world what task task_state wake went is fits timely same =
    let e = same_Some wake went same in
    rw (← e) (record { fits = rw is fits; timely = rw is timely })

-- one that has to begin, in this moment
pub begin_goes : (world : World) (task : Task) (at : ℕ) → task.task_state ≡ ToBegin at → at ≡ world.tick → GoesBy world task calls.Begin
begin_goes world task at is now answer wake right e = goes_with world None task (ToBegin at) wakes.Begin wake is tt now e

-- one that asked, with a right answer
pub answered_goes : (world : World) (task : Task) (request : Request) → Asks task request → (answer : Option Answer) (wake : Wake) →
    IsRight (calls.Ask request) answer → wake_of (calls.Ask request) answer ≡ Some wake → MayGo world None task wake
answered_goes world task request asks None wake right e = absurd (none-some wake e)
answered_goes world task request asks (Some answer) wake right e =
    goes_with world None task (Asked request.kernel asks.purpose) (wakes.Answer answer) wake asks.task_state (rw (asks.buffer, asks.range) at right) tt e

-- one that waits for a nursery which is settled, and is left in this moment or before
pub settled_goes : (world : World) (task : Task) (id since : ℕ) → task.task_state ≡ Awaits id since →
    HasNursery world.book id (λ n. is_settled n ≡ true) → HasNursery world.book id (λ n. a_round_after world.clock n.last ≤ world.tick) →
    GoesBy world task calls.Settled
settled_goes world task id since is settled left answer wake right e =
    goes_with world None task (Awaits id since) wakes.Settled wake is settled left e

-- a nursery that has a moment in which it is left is settled, and the moment is that one
pub left_is : (clock : Clock) (o : Option Nursery) (due : ℕ) → left_in clock o ≡ Some due →
    IsSomeAnd o (λ n. (is_settled n ≡ true) × (a_round_after clock n.last ≡ due))
left_is clock None due e = absurd (none-some due e)
left_is clock (Some n) due e = by_settled (is_settled n) refl e
  where
    by_settled : (b : Bool) → is_settled n ≡ b → (if b then Some (a_round_after clock n.last) else None) ≡ Some due →
        (is_settled n ≡ true) × (a_round_after clock n.last ≡ due)
    by_settled true is f = (is, same_Some (a_round_after clock n.last) due f)
    by_settled false is f = absurd (none-some due f)

-- it is settled
pub left_settled : (clock : Clock) (o : Option Nursery) (due : ℕ) → left_in clock o ≡ Some due → IsSomeAnd o (λ n. is_settled n ≡ true)
left_settled clock None due e = absurd (none-some due e)
left_settled clock (Some n) due e = (left_is clock (Some n) due e).0

-- and left by then
pub left_by : (clock : Clock) (o : Option Nursery) (due u : ℕ) → left_in clock o ≡ Some due → due ≤ u →
    IsSomeAnd o (λ n. a_round_after clock n.last ≤ u)
left_by clock None due u e le = absurd (none-some due e)
left_by clock (Some n) due u e le = let is = (left_is clock (Some n) due e).1 in omega (arith, is, le)

-- ---- a wait for an event

-- a task that began to wait before a moment has waited for a round by then
round_over : (clock : Clock) (since t : ℕ) → since < t → a_round_after clock since ≤ t
round_over by_ticks since t began = omega (arith, began)
round_over by_rounds since t began = omega (arith, began)

-- whether a wait, not at a checkpoint, is over by a moment; `round` is the moment after its first round
abbrev is_over_by : (round set t : ℕ) → Bool
is_over_by round set t = nat_lt round set && nat_le set t

over_tells : (round set t : ℕ) → is_over_by round set t ≡ true → (round < set) × (set ≤ t)
over_tells round set t e = by_first (nat_lt round set) refl e
  where
    by_first : (b : Bool) → nat_lt round set ≡ b → (b && nat_le set t) ≡ true → (round < set) × (set ≤ t)
    by_first true f g = (leb-true (suc round) set f, leb-true set t g)
    by_first false f g = absurd (let h : false ≡ true = g in cc)

not_over_tells : (round set t : ℕ) → is_over_by round set t ≡ false → (set ≤ round) ⊎ (t < set)
not_over_tells round set t e = by_first (nat_lt round set) refl e
  where
    by_first : (b : Bool) → nat_lt round set ≡ b → (b && nat_le set t) ≡ false → (set ≤ round) ⊎ (t < set)
    by_first true f g = inr (leb-false set t g)
    by_first false f g = inl (let lt : set < suc round = leb-false (suc round) set f in omega (arith, lt))

-- One that sees a cancellation by the end of its wait: where it is not over, it may see it now.
sees_waiting : (clock : Clock) (since set t : ℕ) → since < t → t ≤ max (a_round_after clock since) set →
    is_over_by (a_round_after clock since) set t ≡ false → SeesNow clock set since t
sees_waiting clock since set t began left over = (round_over clock since t began, by_case (not_over_tells (a_round_after clock since) set t over))
  where
    by_case : (set ≤ a_round_after clock since) ⊎ (t < set) →
        ((set ≤ a_round_after clock since) × (t ≤ a_round_after clock since)) ⊎ ((a_round_after clock since < set) × (t < set))
    by_case (inl le) = inl (le, omega (arith, le, left))
    by_case (inr lt) = let round = round_over clock since t began in inr (omega (arith, lt, round), lt)

-- and where it is over, it goes on
goes_waiting : (clock : Clock) (since set t : ℕ) (saw : Bool) → t ≤ max (a_round_after clock since) set →
    is_over_by (a_round_after clock since) set t ≡ true → IsOver clock set since t saw
goes_waiting clock since set t saw left over =
    let h = over_tells (a_round_after clock since) set t over in
    let lt : a_round_after clock since < set = h.0 in
    let le : set ≤ t = h.1 in
    inr (lt, omega (arith, lt, le, left))

-- one that sees nothing goes on at the end of its wait
ends_waiting : (clock : Clock) (since set t : ℕ) (saw : Bool) → max (a_round_after clock since) set ≡ t → saw ≡ false →
    IsOver clock set since t saw
ends_waiting clock since set t saw is unseen =
    elim (cases_lt (a_round_after clock since) set) [
      | inl lt ↦ inr (lt, omega (arith, lt, is))
      | inr le ↦ inl (le, omega (arith, le, is), unseen)
    ]

-- a task that sees a cancellation while it sleeps, or waits for an event
pub seen_goes : (world : World) (due : ℕ) (task : Task) → Stayed world due task →
    is_reached (sight_asleep world (scope_of task) task.task_state) world.tick ≡ true → GoesBy world task (seen_call world task)
seen_goes world due task h saw answer wake right e =
    subst (λ (what : Option What). MayGo world what task wake)
    (sym (seen_grants_none (is_wait_over world.clock (event_at world) task.task_state world.tick)))
    (by_task_state task.task_state refl h.due_is h.began saw e)
  where
    seen_grants_none : (over : Bool) → what_of (seen_call_if over) ≡ None
    seen_grants_none true = refl
    seen_grants_none false = refl

    by_over : (event since : ℕ) → task.task_state ≡ Waiting event since → wait_ends world.clock (event_at world event) since ≡ due →
        since < world.tick → seen (outer_of world.scopes (scope_of task)) world.tick ≡ true → (over : Bool) →
        is_over_by (a_round_after world.clock since) (set_by world.clock (event_at world event) since) world.tick ≡ over →
        wake_of (seen_call_if over) answer ≡ Some wake → MayGo world None task wake
    by_over event since is ends began f true over g =
        let left : world.tick ≤ due = h.not_over in
        goes_with world None task (Waiting event since) wakes.Due wake is tt
        (goes_waiting world.clock since (set_by world.clock (event_at world event) since) world.tick
        (seen (outer_of world.scopes (scope_of task)) world.tick) (omega (arith, left, ends)) over) g
    by_over event since is ends began f false over g =
        let left : world.tick ≤ due = h.not_over in
        goes_with world None task (Waiting event since) wakes.Seen wake is tt
        (sees_waiting world.clock since (set_by world.clock (event_at world event) since) world.tick began (omega (arith, left, ends)) over, f) g

    by_task_state : (task_state : TaskState) → task.task_state ≡ task_state →
        moment_of world.clock (event_at world) world.book task_state ≡ Some due → BeganBefore world.tick task_state →
        is_reached (sight_asleep world (scope_of task) task_state) world.tick ≡ true →
        wake_of (seen_call_if (is_wait_over world.clock (event_at world) task_state world.tick)) answer ≡ Some wake → MayGo world None task wake
    by_task_state (Asleep paced ticks since) is due_is began f g =
        goes_with world None task (Asleep paced ticks since) wakes.Seen wake is tt (began, f) g
    by_task_state (Waiting event since) is due_is began f g =
        by_over event since is (same_Some (wait_ends world.clock (event_at world event) since) due due_is) began f
        (is_wait_over world.clock (event_at world) (Waiting event since) world.tick) refl g
    by_task_state (Queued object ask since body) is due_is began f g =
        goes_with world None task (Queued object ask since body) wakes.Seen wake is tt (refl, began, f) g
    by_task_state (ToBegin at) is due_is began f g = absurd (let k : false ≡ true = f in cc)
    by_task_state (Asked kernel purpose) is due_is began f g = absurd (let k : false ≡ true = f in cc)
    by_task_state (GivingUp since) is due_is began f g = absurd (let k : false ≡ true = f in cc)
    by_task_state (Awaits id since) is due_is began f g = absurd (let k : false ≡ true = f in cc)
    by_task_state Over is due_is began f g = absurd (let k : false ≡ true = f in cc)

-- a task whose moment has come, and which sees no cancellation if it sleeps or waits for an event
pub due_goes : (world : World) (due : ℕ) (task : Task) → Stayed world due task → due ≤ world.tick →
    is_reached (sight_asleep world (scope_of task) task.task_state) world.tick ≡ false → GoesBy world task calls.Due
due_goes world due task h come unseen answer wake right e = by_task_state task.task_state refl h.due_is h.began unseen
  where
    now : due ≡ world.tick
    now = let left = h.not_over in omega (arith, left, come)

    by_task_state : (task_state : TaskState) → task.task_state ≡ task_state →
        moment_of world.clock (event_at world) world.book task_state ≡ Some due → BeganBefore world.tick task_state →
        is_reached (sight_asleep world (scope_of task) task_state) world.tick ≡ false → MayGo world None task wake
    by_task_state (ToBegin at) is due_is began f =
        goes_with world None task (ToBegin at) wakes.Due wake is tt (same_Some at due due_is ∙ now) e
    by_task_state (Asked kernel purpose) is due_is began f = absurd (none-some due due_is)
    by_task_state (Asleep paced ticks since) is due_is began f =
        goes_with world None task (Asleep paced ticks since) wakes.Due wake is tt
        (same_Some (wakes_at world.clock ticks since) due due_is ∙ now, f) e
    by_task_state (Waiting event since) is due_is began f =
        goes_with world None task (Waiting event since) wakes.Due wake is tt
        (ends_waiting world.clock since (set_by world.clock (event_at world event) since) world.tick
        (seen (outer_of world.scopes (scope_of task)) world.tick)
        (same_Some (wait_ends world.clock (event_at world event) since) due due_is ∙ now) f) e
    by_task_state (Queued object ask since body) is due_is began f =
        goes_with world None task (Queued object ask since body) wakes.Due wake is tt
        (refl, began, same_Some (last_grant world.clock since) due due_is ∙ now, f) e
    by_task_state (GivingUp since) is due_is began f =
        goes_with world None task (GivingUp since) wakes.Due wake is tt (same_Some (suc since) due due_is ∙ now) e
    by_task_state (Awaits id since) is due_is began f =
        goes_with world None task (Awaits id since) wakes.Due wake is (left_settled world.clock (nursery_at world.book id) due due_is)
        (left_by world.clock (nursery_at world.book id) due world.tick due_is come) e
    by_task_state Over is due_is began f = absurd (none-some due due_is)

-- A task that waits for an event since this moment continues at once, where a moment is a tick: it sees a cancellation, or the event is
-- set.
pub at_once_goes : (world : World) (event : ℕ) (task : Task) (call : Call) → task.task_state ≡ Waiting event world.tick →
    call_at_once world (scope_of task) (wait_ends world.clock (event_at world event) world.tick) ≡ Some call → GoesBy world task call
at_once_goes world event task call is e = by_clock world.clock refl e
  where
    round : ℕ
    round = a_round_after world.clock world.tick

    set : ℕ
    set = set_by world.clock (event_at world event) world.tick

    sees : Bool
    sees = seen (outer_of world.scopes (scope_of task)) world.tick

    may_see : round ≡ world.tick → SeesNow world.clock set world.tick world.tick
    may_see same = (
      omega (arith, same),
      elim (cases_lt world.tick set) [
        | inl lt ↦ inr (omega (arith, lt, same), lt)
        | inr le ↦ inl (omega (arith, le, same), omega (arith, same))
      ],
    )

    seen_now : round ≡ world.tick → sees ≡ true → GoesBy world task calls.Seen
    seen_now same f answer wake right g =
        goes_with world None task (Waiting event world.tick) wakes.Seen wake is tt (may_see same, f) g

    due_now : round ≡ world.tick → sees ≡ false → nat_le (max round set) world.tick ≡ true → GoesBy world task calls.Due
    due_now same f d answer wake right g =
        let come : max round set ≤ world.tick = leb-true (max round set) world.tick d in
        goes_with world None task (Waiting event world.tick) wakes.Due wake is tt (inl (omega (arith, come, same), same, f)) g

    by_tests : round ≡ world.tick → (saw due : Bool) → sees ≡ saw → nat_le (max round set) world.tick ≡ due →
        at_once by_ticks saw due ≡ Some call → GoesBy world task call
    by_tests same true due f d h = subst (GoesBy world task) (same_Some calls.Seen call h) (seen_now same f)
    by_tests same false true f d h = subst (GoesBy world task) (same_Some calls.Due call h) (due_now same f d)
    by_tests same false false f d h = absurd (none-some call h)

    by_clock : (c : Clock) → world.clock ≡ c → at_once c sees (nat_le (max round set) world.tick) ≡ Some call → GoesBy world task call
    by_clock by_rounds c h = absurd (none-some call h)
    by_clock by_ticks c h =
        by_tests (ap (λ (x : Clock). a_round_after x world.tick) c) sees (nat_le (max round set) world.tick) refl refl h

-- one that does not stays: it waits until a later moment, and where a moment is a tick it sees no cancellation
pub waits_on_later : (world : World) (scope : Option ℕ) (due : ℕ) → call_at_once world scope due ≡ None →
    a_round_after world.clock world.tick ≤ due → (world.tick < due)
    × ((seen (outer_of world.scopes scope) world.tick ≡ false) ⊎ ((world.clock ≡ by_rounds) × (world.tick ≡ world.tick)))
waits_on_later world scope due e round = by_clock world.clock refl e round
  where
    sees : Bool
    sees = seen (outer_of world.scopes scope) world.tick

    by_tests : (saw now : Bool) → sees ≡ saw → nat_le due world.tick ≡ now → at_once by_ticks saw now ≡ None →
        (world.tick < due) × ((sees ≡ false) ⊎ ((world.clock ≡ by_rounds) × (world.tick ≡ world.tick)))
    by_tests true now f d h = absurd (none-some calls.Seen (sym h))
    by_tests false true f d h = absurd (none-some calls.Due (sym h))
    by_tests false false f d h = (leb-false due world.tick d, inl f)

    by_clock : (c : Clock) → world.clock ≡ c → at_once c sees (nat_le due world.tick) ≡ None → a_round_after c world.tick ≤ due →
        (world.tick < due) × ((sees ≡ false) ⊎ ((world.clock ≡ by_rounds) × (world.tick ≡ world.tick)))
    by_clock by_rounds c h le = (omega (arith, le), inr (c, refl))
    by_clock by_ticks c h le = by_tests sees (nat_le due world.tick) refl refl h

-- ---- the next moment

-- a task that continues in the next moment may do so then
pub later_goes : (world : World) (task : Task) (call : Call) → ContinuesLater world task call →
    GoesBy (record world { tick = suc world.tick }) task call
later_goes world task call h answer wake right e = by_task_state task.task_state call refl h.stays.due_is h.by e
  where
    next : World
    next = record world { tick = suc world.tick }

    by_task_state : (task_state : TaskState) (c : Call) → task.task_state ≡ task_state →
        moment_of world.clock (event_at world) world.book task_state ≡ Some h.due →
        ContinuesBy (lent_of task) (suc world.tick) h.due task_state c → wake_of c answer ≡ Some wake → MayGo next (what_of c) task wake
    by_task_state (ToBegin at) calls.Begin is due_is by g =
        goes_with next None task (ToBegin at) wakes.Begin wake is tt (same_Some at h.due due_is ∙ by) g
    by_task_state (Awaits id since) calls.Settled is due_is by g =
        let come : h.due ≡ suc world.tick = by in
        goes_with next None task (Awaits id since) wakes.Settled wake is
        (left_settled world.clock (nursery_at world.book id) h.due due_is)
        (left_by world.clock (nursery_at world.book id) h.due (suc world.tick) due_is (omega (arith, come))) g
    by_task_state (Queued object ask since body) (calls.Granted grant) is due_is by g =
        goes_with next (Some (what_in grant)) task (Queued object ask since body) (wakes.Granted grant) wake is by refl g
    by_task_state _ _ is due_is by g = absurd by
