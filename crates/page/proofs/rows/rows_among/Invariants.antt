use Rattle.std.proofs.Common.{◌≡◌, ◌++◌, drop}
use Rattle.std.specs.Prelude.{map}
use Rattle.chart.specs.HeldBars.{bar_of}
use Rattle.page.specs.Links.{rows_from}
use Rattle.page.specs.Views.{row_held}
use Rattle.page.proofs.rows.rows_among.Given as goal

abbrev pub invariant-bars : goal.invariant-bars
invariant-bars l = map row_held l.rows.items ++ rows_from l.i (map bar_of (drop l.i l.bars)) ≡ rows_from 0 (map bar_of l.bars)
