-- What the code keeps of tokens that are laid out, and of levels.
use Rattle.std.specs.Prelude.{ℕ, ◌+◌, ◌-◌, ◌<◌, Bool, true, false}
use Rattle.job_tree.specs.Tree.{Steps}
use Rattle.job_syntax.specs.Depth.{AreWithin}

-- a block of a step at a level is nested at most 32 deep
abbrev pub IsNested : ℕ → Steps → Type 0
IsNested level body = (0 < 32 - level) × AreWithin (32 - level - 1) body

-- the level of a line, which is `deeper` than another or of the same level
abbrev pub line_level : ℕ → Bool → ℕ
line_level level true = level + 1
line_level level false = level
