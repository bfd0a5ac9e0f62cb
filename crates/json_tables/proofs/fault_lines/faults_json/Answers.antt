use Rattle.std.specs.Prelude.{map}
use Rattle.outcomes.specs.Views.{job_outcome_held, line_held}
use Rattle.json_tables.proofs.Integers.{faults_without_float}
use Rattle.json_tables.proofs.fault_lines.faults_json.Goals as goal

pub document-requires : goal.document-requires
document-requires c =
    faults_without_float _ c.args.limit c.args.brief (job_outcome_held c.args.first.now) (map line_held c.args.lines.now) c.args.untried
    c.in_ok-value.ensures
