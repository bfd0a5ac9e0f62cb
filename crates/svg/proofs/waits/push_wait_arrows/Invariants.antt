use Rattle.std.proofs.Common.{◌≡◌, ◌++◌, drop, map}
use Rattle.story_index.specs.Seen.{event_in}
use Rattle.chart.specs.HeldBars.{bar_of}
use Rattle.svg.specs.Content.{Content, content_text}
use Rattle.svg.specs.Arrows.{wait_arrows}
use Rattle.svg.specs.Held.{sheet_held}
use Rattle.svg.proofs.waits.push_wait_arrows.Given as goal

abbrev pub invariant-events : goal.invariant-events
invariant-events l = (rest : Content) →
    l.out.items
    ++ content_text (wait_arrows (sheet_held l.scene.sheet.now) (map bar_of l.scene.bars.now) l.row (map event_in (drop l.event-index l.events)) rest)
    ≡ l.fn.out.items ++ content_text (wait_arrows (sheet_held l.scene.sheet.now) (map bar_of l.scene.bars.now) l.row (map event_in l.events) rest)
