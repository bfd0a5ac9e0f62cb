use Rattle.std.proofs.Common.{◌≡◌, ◌≤◌, ◌++◌, map, length}
use Rattle.chart.specs.HeldColumns.{column_of}
use Rattle.svg.specs.Content.{Content, content_text}
use Rattle.svg.specs.Drawing.{tick_lines}
use Rattle.svg.specs.Held.{sheet_held}
use Rattle.svg.proofs.ticks.push_tick_lines.Given as goal

abbrev pub invariant-columns : goal.invariant-columns
invariant-columns l = record {
  bounded : l.at ≤ 1000000;
  appended : (rest : Content) → l.out.items ++ content_text (tick_lines (sheet_held l.sheet) l.bottom l.at (map column_of l.rest) rest)
      ≡ l.fn.out.items ++ content_text (tick_lines (sheet_held l.sheet) l.bottom 0 (map column_of l.columns) rest);
}

abbrev pub decreases-columns : goal.decreases-columns
decreases-columns l = length l.rest
