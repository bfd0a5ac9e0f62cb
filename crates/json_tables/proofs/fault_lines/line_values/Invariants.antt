use Rattle.std.proofs.Common.{◌≡◌, ◌++◌, map, drop}
use Rattle.serde_json.specs.View.{view}
use Rattle.outcomes.specs.Table.{printed}
use Rattle.outcomes.specs.Views.{line_held}
use Rattle.json_tables.specs.Faults.{fault_line_json}
use Rattle.json_tables.proofs.fault_lines.line_values.Given as goal

abbrev pub invariant-lines : goal.invariant-lines
invariant-lines l =
    map view l.values.items ++ map (fault_line_json l.limit) (printed l.brief (map line_held (drop l.line-index l.lines)))
    ≡ map (fault_line_json l.limit) (printed l.brief (map line_held l.lines))
