use Rattle.chart.proofs.Counts.{counted_again}
use Rattle.chart.proofs.column_ticks.count.Goals as goal

pub returns-then-column-tick : goal.returns-then-column-tick
returns-then-column-tick c = λ ts short held.
    counted_again ts _ _ _ _ _ c.in-Some.column short held c.in-Some.ensures.items c.if-column-tick.true
    c.saturating_add-count.ensures c.in_ok-push-2.ensures.items
