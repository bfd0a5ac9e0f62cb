-- What the program reads.
use Rattle.std.specs.Prelude.{ℕ, ◌≤◌, Option, Some, None, vec_len}
use Rattle.std.specs.Global.{Vec}
use Rattle.job_meaning.specs.declared.limits.TheConstants.{MAX_INPUT}

-- a job file holds no input, or one that is not too long
abbrev pub HoldsInput : Option (Vec ℕ) → Type 0
HoldsInput None = Unit {0}
HoldsInput (Some bytes) = vec_len bytes ≤ MAX_INPUT
