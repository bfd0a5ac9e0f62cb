-- What the code finds out of a task that waits: whether it sees a cancellation, and when its wait ends.
use Rattle.std.proofs.Common.{◌≡◌, ℕ, zero, suc, ◌+◌, ◌-◌, ◌<◌, ◌≤◌, ◌^◌, min, max, Bool, true, false, Option, Some, None, refl, ap, sym, ◌∙◌, arith}
use Rattle.std.specs.Prelude.{IsSome}
use Rattle.std.specs.Option.{ForSome}
use Rattle.cancel_scopes.specs.Sight.{Tick, seen}
use Rattle.cancel_scopes.specs.Tree.{Stack, Tree, stack_of, outer_of, IsOpen}
use Rattle.job_meaning.specs.Moments.{far, tick_of, wakes_at}
use Rattle.job_meaning.specs.declared.clock.Clock.{Clock}
use Rattle.job_meaning.specs.declared.clock.Clock.TheVariants.{ByTicks as by_ticks, ByRounds as by_rounds}
use Rattle.run_refinement.proofs.OtherScopes.{open_stack, outer_is}
use Rattle.task_machine.specs.Events.{wait_ends}
use Rattle.task_machine.specs.Tasks.{scope_of}
use Rattle.task_table.specs.declared.task_table.Running.{Running}

-- ---- what a task sees

-- a task in an open scope sees what is seen there
pub sees_in : (tree : Tree) (scope : Option ℕ) (key tick : ℕ) (saw : Bool) → scope ≡ Some key → IsOpen tree key →
    ForSome (stack_of tree key) (λ (st : Stack). saw ≡ seen st tick) → saw ≡ seen (outer_of tree scope) tick
sees_in tree scope key tick saw is opened tells =
    let st = open_stack tree key opened in
    tells st.0 st.1 ∙ ap (λ (x : Stack). seen x tick) (sym (ap (outer_of tree) is ∙ outer_is tree key st.0 st.1))

-- one in no scope sees nothing
pub sees_nothing : (tree : Tree) (scope : Option ℕ) (tick : ℕ) → scope ≡ None → false ≡ seen (outer_of tree scope) tick
sees_nothing tree scope tick is = sym (ap (λ (o : Option ℕ). seen (outer_of tree o) tick) is)

-- the scope of a task that has not ended, as the code found it, is open
pub scope_opened : (o : Option Running) (tree : Tree) (scope : Option ℕ) (key : ℕ) → IsSome o →
    ForSome o (λ (x : Running). ForSome (scope_of x.task) (IsOpen tree)) → ForSome o (λ (x : Running). scope ≡ scope_of x.task) →
    scope ≡ Some key → IsOpen tree key
scope_opened None tree scope key some opened is e = absurd (let f : false ≡ true = some in cc)
scope_opened (Some x) tree scope key some opened is e = opened x refl key (sym (is x refl) ∙ e)

-- ---- when its wait ends

-- no sleep ends so late that it is not counted
rounds_bounded : (n t : ℕ) → t ≤ 2 ^ 62 → wakes_at by_rounds n t < 2 ^ 63
rounds_bounded zero t le = omega (arith, le)
rounds_bounded (suc n) t le = omega (arith, le)

ticks_bounded : (t : ℕ) → t ≤ 2 ^ 62 → wakes_at by_ticks (far - tick_of by_ticks t) t < 2 ^ 63
ticks_bounded t le = omega (arith, le)

most_bounded : (round last from b : ℕ) → round < b → last < b → (max round last < b) × (max round (min from last) < b)
most_bounded round last from b r l = (omega (arith, r, l), omega (arith, r, l))

-- nor does a wait for an event
pub wait_bounded : (clock : Clock) (event : Option Tick) (t : ℕ) → t ≤ 2 ^ 62 → wait_ends clock event t < 2 ^ 63
wait_bounded by_ticks None t le = omega (arith, le)
wait_bounded by_ticks (Some None) t le =
    (most_bounded t (wakes_at by_ticks (far - tick_of by_ticks t) t) 0 (2 ^ 63) (omega (arith, le)) (ticks_bounded t le)).0
wait_bounded by_ticks (Some (Some from)) t le =
    (most_bounded t (wakes_at by_ticks (far - tick_of by_ticks t) t) from (2 ^ 63) (omega (arith, le)) (ticks_bounded t le)).1
wait_bounded by_rounds None t le = omega (arith, le)
wait_bounded by_rounds (Some None) t le =
    (most_bounded (t + 1) (wakes_at by_rounds (far - tick_of by_rounds t) t) 0 (2 ^ 63) (omega (arith, le))
    (rounds_bounded (far - tick_of by_rounds t) t le)).0
wait_bounded by_rounds (Some (Some from)) t le =
    (most_bounded (t + 1) (wakes_at by_rounds (far - tick_of by_rounds t) t) from (2 ^ 63) (omega (arith, le))
    (rounds_bounded (far - tick_of by_rounds t) t le)).1
