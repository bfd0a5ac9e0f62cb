use Rattle.std.proofs.Common.{◌≡◌, ◌+◌, ◌*◌, map, take}
use Rattle.serde_json.specs.View.{view}
use Rattle.exceptions.specs.Held.{exc_of, excs_of}
use Rattle.exceptions.specs.Weigh.{weight_of, weight_in}
use Rattle.json_story.specs.Values.{parts_json}
use Rattle.json_story.proofs.exc.+exc.Given as goal

abbrev pub invariant-part_values-parts : goal.invariant-part_values-parts
invariant-part_values-parts l = map view l.values.items ≡ parts_json (excs_of (take l.part-index l.parts))

abbrev pub decreases-exc_value : goal.decreases-exc_value
decreases-exc_value l = 2 * weight_in (exc_of l.exc.now)

abbrev pub decreases-part_values : goal.decreases-part_values
decreases-part_values l = 2 * weight_of (excs_of l.parts.now) + 1
