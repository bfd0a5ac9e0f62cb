use Rattle.std.specs.Prelude.{map}
use Rattle.story_index.specs.Seen.{event_in}
use Rattle.chart.proofs.Ticking.{ticks_in_order}
use Rattle.chart.proofs.ticks.all_ticks.Goals as goal

pub returns : goal.returns
returns c =
    ticks_in_order c.args.clock (map event_in c.args.events.now) c.args.until _ _ _ c.new-ticks.ensures.items
    c.in_ok-push_events.ensures c.in_ok-push_tick.ensures
