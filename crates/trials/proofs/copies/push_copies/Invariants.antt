use Rattle.std.proofs.Common.{◌≡◌, ◌++◌, drop, map}
use Rattle.story_index.specs.Seen.{event_in}
use Rattle.race_text.specs.LineViews.{line_held}
use Rattle.trials.specs.Lines.{copies_lines}
use Rattle.trials.proofs.copies.push_copies.Given as goal

abbrev pub invariant-starts : goal.invariant-starts
invariant-starts l =
    map line_held l.lines.items
    ++ copies_lines l.original.clock l.original.text.now l.original.limit l.original.finer_ticks (map event_in l.walked) (drop l.start-index l.original.starts.now)
    ≡ map line_held l.fn.lines.items
    ++ copies_lines l.original.clock l.original.text.now l.original.limit l.original.finer_ticks (map event_in l.walked) l.original.starts.now
