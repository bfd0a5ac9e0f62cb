-- The formats of job texts.
use Rattle.std.specs.Prelude.{ℕ, Bool, true, false}
use Rattle.job_tree.specs.declared.limits.TheConstants.{MAX_STEPS, MAX_STEPS_OF_FORMAT_1}
use Rattle.job_tree.specs.declared.format.Format.{Format}
use Rattle.job_tree.specs.declared.format.Format.TheVariants.{One, Two, Three}
use Rattle.job_tree.specs.Tree.{Tree}

-- the number in the first line of a text of this format
abbrev pub number_of : Format → ℕ
number_of One = 1
number_of Two = 2
number_of Three = 3

-- whether a format has what format 2 added to format 1: `repeat`, and nurseries with a deadline and a shield
abbrev pub extends_format_1 : Format → Bool
extends_format_1 One = false
extends_format_1 Two = true
extends_format_1 Three = true

-- whether a format has what format 3 added to format 2: events, and a `start` in a `repeat` in a nursery
abbrev pub has_events : Format → Bool
has_events One = false
has_events Two = false
has_events Three = true

-- the maximum number of step instances of a job of this format
abbrev pub most_steps : Format → ℕ
most_steps One = MAX_STEPS_OF_FORMAT_1
most_steps Two = MAX_STEPS
most_steps Three = MAX_STEPS

-- the newer one of two formats
abbrev pub newer : Format → Format → Format
newer One format = format
newer Two One = Two
newer Two Two = Two
newer Two Three = Three
newer Three format = Three

-- the job with the same name and steps in a format, or in its own where that is newer
abbrev pub in_format : Format → Tree → Tree
in_format format job = record job { format = newer format job.format }
