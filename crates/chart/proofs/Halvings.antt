-- The logarithm of a number from the powers of 2 that it lies between.
use Rattle.std.proofs.Common.{◌≡◌, ℕ, zero, suc, ◌+◌, ◌*◌, ◌/◌, ◌^◌, ◌<◌, ◌≤◌, ap, ◌∙◌, arith}
use Rattle.std.specs.Prelude.{true, false, nat_le}
use Rattle.std.proofs.lemmas.Bool.{cond-true, cond-false}
use Rattle.std.proofs.lemmas.Bool.Decides.{nat_tests}
use Rattle.chart.specs.Columns.{halvings}

test_of_le : (m n : ℕ) → m ≤ n → nat_le m n ≡ true
test_of_le m n h = grind (arith, nat_tests)

test_of_lt : (m n : ℕ) → n < m → nat_le m n ≡ false
test_of_lt m n h = grind (arith, nat_tests)

-- a power of 2 is at least 1
positive : (r : ℕ) → 1 ≤ 2 ^ r
positive zero = omega arith
positive (suc r) = omega (arith, positive r)

-- a number between a power of 2 and the next is halved as often as the power says
pub halved : (k r n : ℕ) → r ≤ k → 2 ^ r ≤ n → n < 2 * 2 ^ r → halvings k n ≡ r
halved zero r n few low high = omega arith
halved (suc k) zero n few low high = cond-false _ _ _ (test_of_lt 2 n (omega (arith, high)))
halved (suc k) (suc r) n few low high =
    cond-true _ _ _ (test_of_le 2 n (omega (arith, low, positive r)))
    ∙ ap (λ m. m + 1) (halved k r (n / 2) (omega arith) (omega (arith, low)) (omega (arith, high)))
    ∙ omega arith
