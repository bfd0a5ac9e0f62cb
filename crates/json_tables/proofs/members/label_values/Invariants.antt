use Rattle.std.proofs.Common.{◌≡◌, map, take}
use Rattle.serde_json.specs.View.{view}
use Rattle.json_story.specs.Values.{label_json}
use Rattle.json_tables.proofs.members.label_values.Given as goal

abbrev pub invariant-labels : goal.invariant-labels
invariant-labels l = map view l.values.items ≡ map label_json (take l.label-index l.labels)
