-- The values of the code, as the definitions see them.
use Rattle.std.specs.Option.{option_map}
use Rattle.exceptions.specs.Held.{exc_of}
use Rattle.outcomes.specs.JobOutcomes as job_outcomes
use Rattle.outcomes.specs.Table as table
use Rattle.outcomes.specs.declared.job_outcome.JobOutcome.{JobOutcome}
use Rattle.outcomes.specs.declared.job_outcome.JobOutcome.TheVariants.{Refused, Stuck, Ended}
use Rattle.outcomes.specs.declared.line.Line.{Line}
use Rattle.outcomes.specs.declared.options.Options.{Options}

abbrev pub job_outcome_held : JobOutcome → job_outcomes.JobOutcome
job_outcome_held (Refused fault) = job_outcomes.refused fault
job_outcome_held (Stuck sleeping cut lost) = job_outcomes.stuck sleeping.items cut.items lost
job_outcome_held (Ended end exc cancelled cut lost) = job_outcomes.ended end (option_map exc_of exc) cancelled.items cut.items lost

abbrev pub line_held : Line → table.Line
line_held l =
    record {
      line = l.line;
      column = l.column;
      variant = l.variant;
      job_outcome = job_outcome_held l.job_outcome;
      reached = l.reached;
      is_named = l.is_named;
      differs = l.differs;
      cuts = l.cuts;
    }

abbrev pub options_held : Options → table.Options
options_held o = record { names = o.names.items; each = o.each; brief = o.brief; deny = o.deny }
