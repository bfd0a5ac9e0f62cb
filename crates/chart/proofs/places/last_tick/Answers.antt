use Rattle.std.proofs.Common.{refl}
use Rattle.chart.proofs.Lists.{last_tick_is}
use Rattle.chart.proofs.places.last_tick.Goals as goal

pub returns-in-Some : goal.returns-in-Some
returns-in-Some c = last_tick_is c.args.columns.now _ c.in-Some.column.now refl c.in-Some.ensures.value
