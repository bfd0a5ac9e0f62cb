use Rattle.std.proofs.Common.{◌≡◌, map, take}
use Rattle.serde_json.specs.View.{view}
use Rattle.race_text.specs.RowViews.{difference_held}
use Rattle.json_tables.specs.Races.{difference_json}
use Rattle.json_tables.proofs.race_lines.values_of.Given as goal

abbrev pub invariant-tasks : goal.invariant-tasks
invariant-tasks l = map view l.values.items ≡ map difference_json (map difference_held (take l.difference-index l.tasks))
