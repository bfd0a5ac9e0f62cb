-- The task behind a cancellation, step by step.
use Rattle.std.proofs.Common.{◌≡◌, ℕ, zero, suc, ◌-◌, ◌<◌, ◌≤◌, List, ap, ◌∙◌, arith}
use Rattle.std.specs.Prelude.{Option}
use Rattle.job_story.specs.Causes.{Cause}
use Rattle.chart.specs.Bars.{Bar}
use Rattle.svg.specs.Sheets.{Sheet}
use Rattle.svg.specs.Arrows.{Source, source_of, cause_behind, culprit}

-- with one step less, what is behind a cause has the same culprit
pub one_behind : (sheet : Sheet) (all : List Bar) (k : ℕ) (cause behind : Option Cause) (whole : Option Source) → 0 < k →
    behind ≡ cause_behind sheet all cause → culprit sheet all k cause ≡ whole → culprit sheet all (k - 1) behind ≡ whole
unfolding culprit
one_behind sheet all zero cause behind whole some is so_far = absurd (omega (arith, some))
one_behind sheet all (suc k) cause behind whole some is so_far =
    let less : suc k - 1 ≡ k = omega arith in
    ap (λ n. culprit sheet all n behind) less ∙ ap (culprit sheet all k) is ∙ so_far

-- where no step is left, it is the source of the cause
pub none_behind : (sheet : Sheet) (all : List Bar) (k : ℕ) (cause : Option Cause) (source whole : Option Source) → k ≤ 0 →
    source ≡ source_of cause → culprit sheet all k cause ≡ whole → source ≡ whole
unfolding culprit
none_behind sheet all zero cause source whole none is so_far = is ∙ so_far
none_behind sheet all (suc k) cause source whole none is so_far = absurd (omega (arith, none))
