-- A job ends by the last tick to which a run of it may go.
use Rattle.std.proofs.Common.{◌≡◌, ℕ, ◌+◌, ◌*◌, ◌<◌, ◌≤◌, List, length, ap, ◌∙◌, subst, arith}
use Rattle.job_tree.proofs.Sizes.{few_steps}
use Rattle.job_tree.specs.InRange.{IsInRange}
use Rattle.job_tree.specs.Names.{size_of}
use Rattle.job_tree.specs.Tree.{Tree}
use Rattle.job_meaning.specs.declared.limits.TheConstants.{MAX_INPUT}
use Rattle.job_meaning.specs.Meaning.{meaning, meaning_end, meaning_grants, root_walk}
use Rattle.job_meaning.specs.Moments.{clock_of, tick_of}
use Rattle.job_meaning.specs.declared.clock.Clock.{Clock}
use Rattle.job_meaning.specs.declared.clock.Clock.TheVariants.{ByTicks as by_ticks, ByRounds as by_rounds}
use Rattle.job_meaning.specs.Walk.{two_walks}
use Rattle.job_meaning.proofs.Ends.{reach, root_ends_by, span}
use Rattle.job_runner.specs.declared.fault.RunFault.{RunFault}
use Rattle.job_runner.specs.declared.fault.RunFault.TheVariants.{Limit}
use Rattle.job_runner.specs.Limits.{last_tick}
use Rattle.job_runner.specs.Runs.{IsLate}

-- a million steps end by that tick
by_last_tick : (clock : Clock) (size end : ℕ) → size ≤ 1000000 → end ≤ reach clock 0 + size * span clock → tick_of clock end ≤ last_tick clock
by_last_tick by_ticks size end few le = omega (arith, few, le)
by_last_tick by_rounds size end few le = omega (arith, few, le)

pub ends_by_last : (job : Tree) (input : List ℕ) → IsInRange job → length input ≤ MAX_INPUT →
    meaning_end job input ≤ last_tick (clock_of job.format)
unfolding meaning
ends_by_last job input in_range small =
    by_last_tick (clock_of job.format) (size_of job.steps) (root_walk (two_walks (meaning_grants job input)) job input).end
    (let size = in_range.size in let most = few_steps job.format in omega (arith, size, most))
    (root_ends_by (two_walks (meaning_grants job input)) job input in_range small).end

-- so no run is past it
pub never_late : (job : Tree) (input : List ℕ) (clock : Clock) (last limit : ℕ) (fault : RunFault) → IsInRange job →
    length input ≤ MAX_INPUT → clock ≡ clock_of job.format → last ≡ last_tick clock → fault ≡ Limit limit → IsLate job input last fault → ⊥
never_late job input clock last limit fault in_range small counts is e late =
    let h : (limit ≡ last) × (last < meaning_end job input) = subst (IsLate job input last) e late in
    let by = ends_by_last job input in_range small in
    let same : last ≡ last_tick (clock_of job.format) = is ∙ ap last_tick counts in
    let past = h.1 in
    omega (arith, by, same, past)
