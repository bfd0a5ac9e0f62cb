use Rattle.std.proofs.Common.{◌≡◌, ◌++◌, drop}
use Rattle.std.specs.Prelude.{map}
use Rattle.job_story.specs.CancelledFrom.{table_in}
use Rattle.story_index.specs.Seen.{event_in}
use Rattle.chart.specs.Bars.{block_bars}
use Rattle.chart.specs.HeldBars.{bar_of}
use Rattle.chart.specs.Indexed.{walked_in}
use Rattle.chart.proofs.blocks.push_blocks.Given as goal

abbrev pub invariant-events : goal.invariant-events
invariant-events l =
    map bar_of l.bars.items ++ block_bars l.clock (table_in l.cancelled_from) l.until (walked_in l.index) (map event_in (drop l.event-index l.events))
    ≡ map bar_of l.fn.bars.items ++ block_bars l.clock (table_in l.cancelled_from) l.until (walked_in l.index) (map event_in l.events)
