use Rattle.std.proofs.Common.{◌≡◌, map, take}
use Rattle.serde_json.specs.View.{view}
use Rattle.json_tables.specs.Lints.{warning_json}
use Rattle.json_tables.proofs.warnings.warning_values.Given as goal

abbrev pub invariant-warnings : goal.invariant-warnings
invariant-warnings l = map view l.values.items ≡ map (warning_json l.job_text) (take l.warning-index l.warnings)
