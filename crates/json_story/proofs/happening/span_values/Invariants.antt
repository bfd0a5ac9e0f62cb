use Rattle.std.proofs.Common.{◌≡◌, take}
use Rattle.std.specs.Prelude.{map}
use Rattle.serde_json.specs.View.{view}
use Rattle.job_story.specs.Held.{span_in}
use Rattle.json_story.specs.Events.{span_json}
use Rattle.json_story.proofs.happening.span_values.Given as goal

abbrev pub invariant-lines : goal.invariant-lines
invariant-lines l = map view l.values.items ≡ map span_json (map span_in (take l.line-index l.lines))
