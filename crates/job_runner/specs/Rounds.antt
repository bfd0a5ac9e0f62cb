-- How long a run continues: turns are left, or a jump before the next one.
use Rattle.std.specs.Prelude.{ℕ, ◌+◌, ◌*◌, ◌-◌}
use Rattle.job_tree.specs.Names.{size_of}
use Rattle.job_runner.specs.declared.runner.Phase.{Phase}
use Rattle.job_runner.specs.declared.runner.Phase.TheVariants.{Ready, Blocked, Over}
use Rattle.job_runner.specs.declared.runner.Runner.{Runner}
use Rattle.job_runner.specs.Phases.{phase_of}

-- a jump comes before the next turn if no task is ready
abbrev pub jumps_before : Phase → ℕ
jumps_before Ready = 0
jumps_before Blocked = 1
jumps_before Over = 0

-- the maximum number of turns of the run
abbrev pub most_turns : Runner → ℕ
most_turns r = 2 * size_of r.job.now.steps + 1

-- each round uses one of the turns that are left, or makes the jump before one
abbrev pub rounds_left : Runner → ℕ
rounds_left r = (most_turns r - r.turns) + (most_turns r - r.turns) + jumps_before (phase_of r)
