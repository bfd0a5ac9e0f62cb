use Rattle.std.proofs.Common.{◌≡◌, ℕ, zero, suc, List, refl, ap}
use Rattle.job_tree.specs.Tree.{Tree}
use Rattle.job_tree.specs.Formats.{in_format}
use Rattle.job_tree.specs.declared.format.Format.{Format}
use Rattle.job_tree.specs.declared.format.Format.TheVariants.{One, Two, Three}
use Rattle.job_meaning.specs.Log.{Result, table_of}
use Rattle.job_meaning.specs.Sharing.{Grants, grants_of, grants_before}
use Rattle.job_meaning.specs.Moments.{clock_of}
use Rattle.job_meaning.specs.declared.clock.Clock.TheVariants.{ByTicks as by_ticks}
use Rattle.job_meaning.specs.Walk.{two_walks}
use Rattle.job_meaning.specs.Meaning.{root_walk, root_log, records_of, all_entered, cancelled_from_by, granted_by, last_moment, meaning_grants, meaning, meaning_records, meaning_end, meaning_cancelled_from}
use Rattle.job_meaning.proofs.laws.law_upgrade.Goals as goal

-- by ticks, the same is granted in both
granted_same : (n : ℕ) (job : Tree) (input : List ℕ) →
    granted_by (in_format Two (record job { format = One })) input n ≡ granted_by (record job { format = One }) input n
granted_same zero job input = refl
granted_same (suc n) job input =
    ap (λ (g : Grants). grants_before (suc n)
    (grants_of (root_log (record job { format = One }) (root_walk (two_walks g) (record job { format = One }) input))))
    (granted_same n job input)

-- so both mean the same
meaning_same : (job : Tree) (input : List ℕ) → meaning (in_format Two (record job { format = One })) input
    ≡ meaning (record job { format = One }) input
unfolding meaning meaning_grants
meaning_same job input =
    ap (λ (g : Grants). root_walk (two_walks g) (record job { format = One }) input) (granted_same last_moment job input)

-- formats 1 and 2 go by ticks, as the upgrade does
from_format : (format : Format) (job : Tree) (input : List ℕ) → clock_of format ≡ by_ticks →
    let before = record job { format = format } in let upgrade = in_format Two before in
    (meaning upgrade input ≡ meaning before input) × (meaning_records upgrade input ≡ meaning_records before input)
    × (meaning_end upgrade input ≡ meaning_end before input) × (meaning_cancelled_from upgrade input ≡ meaning_cancelled_from before input)
from_format One job input ticks = (
  meaning_same job input,
  ap (λ (r : Result). records_of by_ticks (root_log job r)) (meaning_same job input),
  ap (λ (r : Result). r.end) (meaning_same job input),
  ap (λ (r : Result). cancelled_from_by (table_of r.log) (all_entered (root_log job r))) (meaning_same job input),
)
from_format Two job input ticks = (refl, refl, refl, refl)
from_format Three job input ticks = absurd cc

pub returns : goal.returns
returns c = λ job input ticks. from_format job.format job input ticks
