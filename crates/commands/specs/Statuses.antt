-- The exit status of the program for what was written.
use Rattle.std.specs.Prelude.{ℕ, List, [], ◌∷◌}
use Rattle.commands.specs.declared.verdict.FaultsVerdict.{FaultsVerdict}
use Rattle.commands.specs.declared.verdict.FaultsVerdict.TheVariants as of_faults
use Rattle.commands.specs.declared.verdict.RacesVerdict.{RacesVerdict}
use Rattle.commands.specs.declared.verdict.RacesVerdict.TheVariants as of_races
use Rattle.commands.specs.declared.verdict.SweepVerdict.{SweepVerdict}
use Rattle.commands.specs.declared.verdict.SweepVerdict.TheVariants as of_sweep
use Rattle.commands.specs.declared.verdict.LintsVerdict.{LintsVerdict}
use Rattle.commands.specs.declared.verdict.LintsVerdict.TheVariants.{Clean, Warned, JobRefused}

abbrev pub one_if_some : List ℕ → ℕ
one_if_some [] = 0
one_if_some (b ∷ bs) = 1

abbrev pub faults_status_of : FaultsVerdict → ℕ
faults_status_of (of_faults.Lines denied) = one_if_some denied.items
faults_status_of (of_faults.JobRefused fault) = 2

abbrev pub races_status_of : RacesVerdict → ℕ
races_status_of (of_races.Lines denied) = one_if_some denied.items
races_status_of (of_races.JobRefused fault) = 2
races_status_of of_races.Limit = 3
races_status_of of_races.NoFinerTicks = 2

abbrev pub sweep_status_of : SweepVerdict → ℕ
sweep_status_of of_sweep.Lines = 0
sweep_status_of (of_sweep.JobRefused fault) = 2
sweep_status_of (of_sweep.NoTarget missing) = 2

abbrev pub lints_status_of : LintsVerdict → ℕ
lints_status_of Clean = 0
lints_status_of Warned = 1
lints_status_of (JobRefused fault) = 2
