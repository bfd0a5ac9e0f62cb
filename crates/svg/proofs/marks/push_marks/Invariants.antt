use Rattle.std.proofs.Common.{◌≡◌, ◌++◌, drop, map}
use Rattle.story_index.specs.Seen.{event_in}
use Rattle.svg.specs.Content.{Content, content_text}
use Rattle.svg.specs.Rows.{marks}
use Rattle.svg.specs.Held.{sheet_held}
use Rattle.svg.proofs.marks.push_marks.Given as goal

abbrev pub invariant-events : goal.invariant-events
invariant-events l = (rest : Content) →
    l.out.items ++ content_text (marks (sheet_held l.sheet) l.row (map event_in (drop l.event-index l.events)) rest)
    ≡ l.fn.out.items ++ content_text (marks (sheet_held l.sheet) l.row (map event_in l.events) rest)
