-- The search for the gaps with which columns fit, step by step.
use Rattle.std.proofs.Common.{◌≡◌, ℕ, zero, suc, ◌+◌, ◌-◌, ◌<◌, ◌≤◌, List, ap, sym, ◌∙◌, arith}
use Rattle.std.specs.Prelude.{true, false, if◌then◌else◌}
use Rattle.chart.specs.Columns.{Column, fits_less, less_from}

one_more : (more : ℕ) → 0 < more → more ≡ suc (more - 1)
one_more more some = omega (arith, some)

-- if the columns fit, the search ends
ends : (more less room : ℕ) (cs : List Column) (whole : ℕ) → fits_less less room cs ≡ true → less_from (suc more) less room cs ≡ whole →
    less ≡ whole
unfolding less_from
ends more less room cs whole fit so_far = ap (λ b. if b then less else less_from more (less + 1) room cs) (sym fit) ∙ so_far

pub found_less : (more less room : ℕ) (cs : List Column) (whole : ℕ) → 0 < more → fits_less less room cs ≡ true →
    less_from more less room cs ≡ whole → less ≡ whole
found_less more less room cs whole some fit so_far =
    ends (more - 1) less room cs whole fit (ap (λ m. less_from m less room cs) (sym (one_more more some)) ∙ so_far)

-- otherwise it goes on with the next number
goes_on : (more less room : ℕ) (cs : List Column) (whole : ℕ) → fits_less less room cs ≡ false →
    less_from (suc more) less room cs ≡ whole → less_from more (less + 1) room cs ≡ whole
unfolding less_from
goes_on more less room cs whole fit so_far = ap (λ b. if b then less else less_from more (less + 1) room cs) (sym fit) ∙ so_far

pub tried_less : (more less room : ℕ) (cs : List Column) (whole : ℕ) → 0 < more → fits_less less room cs ≡ false →
    less_from more less room cs ≡ whole → less_from (more - 1) (less + 1) room cs ≡ whole
tried_less more less room cs whole some fit so_far =
    goes_on (more - 1) less room cs whole fit (ap (λ m. less_from m less room cs) (sym (one_more more some)) ∙ so_far)

-- where no number is left to try, it is the last one
pub last_less : (more less room : ℕ) (cs : List Column) (whole : ℕ) → more ≤ 0 → less_from more less room cs ≡ whole → less ≡ whole
unfolding less_from
last_less zero less room cs whole none so_far = so_far
last_less (suc more) less room cs whole none so_far = absurd (omega (arith, none))
