-- How a job ends, compared with a limit.
use Rattle.std.specs.Prelude.{ℕ, ◌≤◌, ◌<◌, nat_lt, if◌then◌else◌, Option, Some, None, List, IsSome, IsNone}
use Rattle.job_tree.specs.Tree.{Tree}
use Rattle.job_meaning.specs.Meaning.{meaning, meaning_end}
use Rattle.job_meaning.specs.Shown.{Row}
use Rattle.job_runner.specs.Runs.{root_is_well, root_end}
use Rattle.job_answers.specs.declared.meaning.Ending.{Ending}
use Rattle.job_answers.specs.declared.meaning.Ending.TheVariants.{Done, Raised, Late}

-- how the meaning of a job ends, compared with a limit
abbrev pub IsEnding : Tree → List ℕ → ℕ → Ending → Type 0
IsEnding job input limit Done = (meaning_end job input ≤ limit) × IsNone (meaning job input).exc
IsEnding job input limit Raised = (meaning_end job input ≤ limit) × IsSome (meaning job input).exc
IsEnding job input limit Late = limit < meaning_end job input

-- how a run with these rows ended, compared with a limit
abbrev pub ending_by : List Row → ℕ → Ending
ending_by rows limit = if nat_lt limit (root_end rows) then Late else (if root_is_well rows then Done else Raised)

-- the limit, where the story is cut off at it
abbrev pub until_of : Ending → ℕ → Option ℕ
until_of Done limit = None
until_of Raised limit = None
until_of Late limit = Some limit
