use Rattle.std.proofs.Common.{◌≡◌, ◌++◌, map, drop, nat_lt}
use Rattle.serde_json.specs.View.{items_of}
use Rattle.serde_json.specs.Written.{compact_text, items_text}
use Rattle.job_story.specs.Held.{span_in}
use Rattle.json_story.specs.Values.{list_of}
use Rattle.json_story.specs.Events.{span_json}
use Rattle.json_story.proofs.found.push_spans.Given as goal

abbrev pub invariant-lines : goal.invariant-lines
invariant-lines l =
    l.out.items ++ items_text (nat_lt 0 l.i) (items_of (map span_json (map span_in (drop l.i l.lines))))
    ≡ l.fn.out.items ++ compact_text (list_of (map span_json (map span_in l.lines)))
