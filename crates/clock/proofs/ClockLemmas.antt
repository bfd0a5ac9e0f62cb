-- What the jump of the clock returns.
use Rattle.std.proofs.Common.{◌≡◌, ◌⊎◌, ℕ, suc, zero, ◌<◌, ◌≤◌, List, [], ◌∷◌, Option, Some, None, min, refl, ap, ◌∙◌, inl, inr, arith}
use Rattle.std.proofs.lemmas.Bool.{cases_lt}
use Rattle.std.specs.Prelude.{IsSome}
use Rattle.cancel_scopes.proofs.IndexLemmas.{some_same}
use Rattle.clock.specs.Ticks.{HasNone, IsSame}
use Rattle.clock.specs.KeptTimers.{AllAfter, earlier_of, IsEarliest, NoneBefore}
use Rattle.clock.specs.Clock.{Clock, HasTimer, IsNext, IsUnchanged, MeetsLimit}

-- a clock is unchanged where every task keeps its timer
pub same_clock : (c : Clock) (later : List (Option ℕ)) → IsSame c.timers later →
    IsUnchanged c (record { tick = c.tick; limit = c.limit; timers = later })
same_clock c later same = record { time = record { now = refl; limit = refl }; timers = same }

-- the earlier of the first timer's tick and of the next cancellation is the next tick
pub first_is_next : (c : Clock) (next_cancel : Option ℕ) (due : ℕ) → IsEarliest c.timers due → IsNext c next_cancel (earlier_of next_cancel due)
first_is_next c None due first =
    record {
      is_one = inr (first.task, first.has);
      by_cancel = λ cancel e. absurd (cc);
      by_timers = first.earliest;
    }
first_is_next c (Some n) due first =
    record {
      is_one = elim (cases_lt n due) [
        | inl sooner ↦ inl (let same : n ≡ min due n = omega arith in ap Some same)
        | inr later ↦ inr (first.task, let same : due ≡ min due n = omega arith in first.has ∙ ap Some same)
      ];
      by_cancel = λ cancel e. let same : n ≡ cancel = cc in omega arith;
      by_timers = λ other tick has. let le = first.earliest other tick has in omega arith;
    }

-- with no timer the next cancellation is the next tick
only_cancel : (c : Clock) (cancel : ℕ) → HasNone c.timers → IsNext c (Some cancel) cancel
only_cancel c cancel none =
    record {
      is_one = inl refl;
      by_cancel = λ other e. let same : cancel ≡ other = cc in omega arith;
      by_timers = λ task due has. absurd (cc (none task));
    }

-- no key has a tick, or there is an earliest one
earliest_of : (ticks : List (Option ℕ)) → HasNone ticks ⊎ ((tick : ℕ) × IsEarliest ticks tick)
earliest_of [] = inl none
  where
    none : HasNone []
    none zero = refl
    none (suc key) = refl
earliest_of (None ∷ ticks) =
    elim (earliest_of ticks) [
      | inl none ↦ inl (none_more none)
      | inr first ↦ inr (first.0, record { task = suc first.1.task; has = first.1.has; earliest = later first.0 first.1.earliest })
    ]
  where
    none_more : HasNone ticks → HasNone (None ∷ ticks)
    none_more none zero = refl
    none_more none (suc key) = none key

    later : (tick : ℕ) → NoneBefore ticks tick → NoneBefore (None ∷ ticks) tick
    later tick upto zero due has = absurd (cc)
    later tick upto (suc key) due has = upto key due has
earliest_of (Some tick ∷ ticks) =
    elim (earliest_of ticks) [
      | inl none ↦ inr (tick, record { task = 0; has = refl; earliest = later tick (omega arith) (λ key due has. absurd (cc (none key))) })
      | inr first ↦
          elim (cases_lt first.0 tick) [
            | inl sooner ↦
                inr (first.0, record { task = suc first.1.task; has = first.1.has; earliest = later first.0 (omega (arith, sooner)) first.1.earliest })
            | inr upto ↦
                inr (
                  tick,
                  record {
                    task = 0;
                    has = refl;
                    earliest = later tick (omega arith) (λ key due has. let by = first.1.earliest key due has in omega (arith, by, upto));
                  },
                )
          ]
    ]
  where
    later : (least : ℕ) → least ≤ tick → NoneBefore ticks least → NoneBefore (Some tick ∷ ticks) least
    later least by upto zero due has = let same = some_same tick due has in omega (arith, by, same)
    later least by upto (suc key) due has = upto key due has

-- where each timer is later than the limit, and the cancellation too, so is the next tick
pub late_next : (c : Clock) (next_cancel : Option ℕ) (later : List (Option ℕ)) → AllAfter c.timers c.limit →
    ((cancel : ℕ) → next_cancel ≡ Some cancel → c.limit < cancel) → HasTimer c ⊎ IsSome next_cancel → IsSame c.timers later →
    MeetsLimit c next_cancel (record { tick = c.tick; limit = c.limit; timers = later })
late_next c next_cancel later far late some same =
    elim (earliest_of c.timers) [
      | inl none ↦ by_cancel next_cancel refl none
      | inr first ↦
          let after = far first.1.task first.0 first.1.has in
          record {
            next = earlier_of next_cancel first.0;
            is_next = first_is_next c next_cancel first.0 first.1;
            late = both_late next_cancel first.0 late after;
            unchanged = same_clock c later same;
          }
    ]
  where
    by_cancel : (o : Option ℕ) → next_cancel ≡ o → HasNone c.timers → MeetsLimit c next_cancel (record { tick = c.tick; limit = c.limit; timers = later })
    by_cancel None never none =
        elim some [
          | inl has ↦ absurd (cc (none has.0))
          | inr is ↦ absurd (cc)
        ]
    by_cancel (Some cancel) is none =
        record {
          next = cancel;
          is_next = rw is (only_cancel c cancel none);
          late = late cancel is;
          unchanged = same_clock c later same;
        }

    both_late : (o : Option ℕ) (due : ℕ) → ((cancel : ℕ) → o ≡ Some cancel → c.limit < cancel) → c.limit < due → c.limit < earlier_of o due
    both_late None due late after = after
    both_late (Some cancel) due late after = let sooner = late cancel refl in omega (arith, sooner, after)
