-- The exit status of counts is that of what was counted.
use Rattle.std.proofs.Common.{◌≡◌, ℕ, ◌+◌, ◌<◌, min, Bool, true, false, ◌||◌, nat_lt, List, [], ◌∷◌, refl, ap, sym, ◌∙◌, arith}
use Rattle.std.specs.List.{list_any}
use Rattle.std.proofs.lemmas.Bool.{lt-ltb}
use Rattle.feed_tests.specs.declared.tally.Outcome.{Outcome}
use Rattle.feed_tests.specs.declared.tally.Outcome.TheVariants.{Passed, Accepted, Failed, Fault}
use Rattle.feed_tests.specs.declared.tally.Tally.{Tally}
use Rattle.feed_tests.specs.Tallies.{one_more, counted, all_counted, is_failed, is_fault, status_for, tally_status}

or_none : (b : Bool) → b ≡ (b || false)
or_none true = refl
or_none false = refl

or_true : (b : Bool) → true ≡ (b || true)
or_true true = refl
or_true false = refl

some_more : (n : ℕ) → nat_lt 0 (one_more n) ≡ true
some_more n = lt-ltb 0 (one_more n) (omega arith)

-- whether something failed, with one test more
failed_more : (o : Outcome) (os : List Outcome) (t : Tally)
    → (nat_lt 0 (counted o t).failed || list_any is_failed os) ≡ (nat_lt 0 t.failed || list_any is_failed (o ∷ os))
failed_more Passed os t = refl
failed_more Accepted os t = refl
failed_more Failed os t = rw (some_more t.failed) (or_true (nat_lt 0 t.failed))
failed_more Fault os t = refl

-- whether something was not tested, with one test more
faults_more : (o : Outcome) (os : List Outcome) (t : Tally)
    → (nat_lt 0 (counted o t).faults || list_any is_fault os) ≡ (nat_lt 0 t.faults || list_any is_fault (o ∷ os))
faults_more Passed os t = refl
faults_more Accepted os t = refl
faults_more Failed os t = refl
faults_more Fault os t = rw (some_more t.faults) (or_true (nat_lt 0 t.faults))

pub status_is : (os : List Outcome) (t : Tally)
    → tally_status (all_counted os t) ≡ status_for (nat_lt 0 t.failed || list_any is_failed os) (nat_lt 0 t.faults || list_any is_fault os)
status_is [] t = ap (λ (b : Bool). status_for b (nat_lt 0 t.faults)) (or_none (nat_lt 0 t.failed))
    ∙ ap (λ (b : Bool). status_for (nat_lt 0 t.failed || false) b) (or_none (nat_lt 0 t.faults))
status_is (o ∷ os) t = status_is os (counted o t)
    ∙ ap (λ (b : Bool). status_for b (nat_lt 0 (counted o t).faults || list_any is_fault os)) (failed_more o os t)
    ∙ ap (λ (b : Bool). status_for (nat_lt 0 t.failed || list_any is_failed (o ∷ os)) b) (faults_more o os t)
