-- When waits end, in either clock.
use Rattle.std.proofs.Common.{◌≡◌, ◌⊎◌, ℕ, zero, suc, ◌<◌, ◌≤◌, max, arith}
use Rattle.job_meaning.specs.Moments.{start_of, a_round_after, far, wakes_at, gives_up_at}
use Rattle.job_meaning.specs.declared.clock.Clock.{Clock}
use Rattle.job_meaning.specs.declared.clock.Clock.TheVariants.{ByTicks as by_ticks, ByRounds as by_rounds}
use Rattle.job_meaning.specs.Walk.{last_grant}

pub round_after : (clock : Clock) (m : ℕ) → m ≤ a_round_after clock m
round_after by_ticks m = omega arith
round_after by_rounds m = omega arith

pub wakes_after : (clock : Clock) (n m : ℕ) → a_round_after clock m ≤ wakes_at clock n m
wakes_after by_ticks n m = omega arith
wakes_after by_rounds zero m = omega arith
wakes_after by_rounds (suc n) m = omega arith

pub gives_up_after : (clock : Clock) (n m : ℕ) → a_round_after clock m ≤ gives_up_at clock n m
gives_up_after by_ticks n m = omega arith
gives_up_after by_rounds zero m = omega arith
gives_up_after by_rounds (suc n) m = omega arith

-- what is asked in a moment can still be granted in the next one
pub last_grant_later : (clock : Clock) (m : ℕ) → m < last_grant clock m
last_grant_later clock m = omega arith

-- the last moment of a grant is the next one, or that to which `forever` lasts
pub last_grant_is : (clock : Clock) (m : ℕ) → (last_grant clock m ≡ suc m) ⊎ (last_grant clock m ≡ start_of clock far)
last_grant_is clock m = larger (suc m) (start_of clock far)
  where
    larger : (a b : ℕ) → (max a b ≡ a) ⊎ (max a b ≡ b)
    larger a b = grind arith
