-- What tests came to, how they are counted, and the exit status.
use Rattle.std.specs.Prelude.{ℕ, ◌+◌, min, Bool, true, false, nat_lt, Option, Some, None, List, [], ◌∷◌}
use Rattle.std.specs.List.{list_any}
use Rattle.feed_tests.specs.declared.tally.Outcome.{Outcome}
use Rattle.feed_tests.specs.declared.tally.Outcome.TheVariants.{Passed, Accepted, Failed, Fault}
use Rattle.feed_tests.specs.declared.tally.Tally.{Tally}

abbrev pub no_tests : Tally
no_tests = record { passed = 0; accepted = 0; failed = 0; faults = 0 }

-- one more, up to the largest count that there is
abbrev pub one_more : ℕ → ℕ
one_more n = min (n + 1) 18446744073709551615

-- one test more
abbrev pub counted : Outcome → Tally → Tally
counted Passed tally = record tally { passed = one_more tally.passed }
counted Accepted tally = record tally { accepted = one_more tally.accepted }
counted Failed tally = record tally { failed = one_more tally.failed }
counted Fault tally = record tally { faults = one_more tally.faults }

-- a test more, if there is one
abbrev pub any_counted : Option Outcome → Tally → Tally
any_counted None tally = tally
any_counted (Some outcome) tally = counted outcome tally

-- these tests more
abbrev pub all_counted : List Outcome → Tally → Tally
all_counted [] tally = tally
all_counted (o ∷ os) tally = all_counted os (counted o tally)

abbrev pub is_failed : Outcome → Bool
is_failed Passed = false
is_failed Accepted = false
is_failed Failed = true
is_failed Fault = false

abbrev pub is_fault : Outcome → Bool
is_fault Passed = false
is_fault Accepted = false
is_fault Failed = false
is_fault Fault = true

-- 1 if something failed, 4 if nothing failed and something was not tested, and otherwise 0
abbrev pub status_for : (failed not_tested : Bool) → ℕ
status_for true not_tested = 1
status_for false true = 4
status_for false false = 0

-- the exit status of what tests came to
abbrev pub status_of : List Outcome → ℕ
status_of outcomes = status_for (list_any is_failed outcomes) (list_any is_fault outcomes)

-- the exit status of tests with these counts
abbrev pub tally_status : Tally → ℕ
tally_status tally = status_for (nat_lt 0 tally.failed) (nat_lt 0 tally.faults)
