use Rattle.std.proofs.Common.{◌≡◌, ◌++◌, drop}
use Rattle.std.specs.Prelude.{map}
use Rattle.job_story.specs.CancelledFrom.{table_in}
use Rattle.story_index.specs.Seen.{event_in}
use Rattle.chart.specs.Bars.{bars_from, bars_of}
use Rattle.chart.specs.HeldBars.{bar_of}
use Rattle.chart.specs.Indexed.{walked_in}
use Rattle.chart.proofs.index.StoryIndex.bars.Given as goal

abbrev pub invariant-events : goal.invariant-events
invariant-events l =
    map bar_of l.bars.items ++ bars_from l.clock (table_in l.cancelled_from) l.fn.until (walked_in l.self) (map event_in (drop l.event-index l.self.walked.now))
    ≡ bars_of l.clock (table_in l.cancelled_from) l.fn.until (walked_in l.self)
