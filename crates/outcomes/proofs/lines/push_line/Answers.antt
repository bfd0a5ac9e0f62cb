use Rattle.std.proofs.Common.{◌++◌}
use Rattle.std.specs.Prelude.{codes}
use Rattle.outcomes.specs.JobOutcomes.{job_outcome_text}
use Rattle.outcomes.specs.Table.{columns_text}
use Rattle.outcomes.specs.Views.{job_outcome_held, line_held}
use Rattle.outcomes.proofs.Joined.{extended, last}
use Rattle.outcomes.proofs.lines.push_line.Goals as goal

pub returns : goal.returns
returns c =
    let columns = columns_text c.args.widths (line_held c.args.line.now) in
    let outcome = job_outcome_text c.args.limit c.args.line.now.reached (job_outcome_held c.args.line.now.job_outcome) in
    let new = c.extend_from_slice.new.self.items in
    last c.extend_from_slice.result c.args.out.now.items columns (outcome ++ codes "\n") c.push_columns.new.out.items new
    c.in_ok-push_columns.ensures
    (last c.extend_from_slice.result c.push_columns.new.out.items outcome (codes "\n") c.push_job_outcome.new.out.items new
    c.in_ok-push_job_outcome.ensures (extended c.extend_from_slice.result _ _ _ c.extend_from_slice.ensures.items))
