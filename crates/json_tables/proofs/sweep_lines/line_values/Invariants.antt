use Rattle.std.proofs.Common.{◌≡◌, map, take}
use Rattle.serde_json.specs.View.{view}
use Rattle.outcomes.specs.SweepViews.{value_held}
use Rattle.json_tables.specs.Sweeps.{value_json}
use Rattle.json_tables.proofs.sweep_lines.line_values.Given as goal

abbrev pub invariant-values : goal.invariant-values
invariant-values l = map view l.lines.items ≡ map (value_json l.limit) (map value_held (take l.value-index l.values))
