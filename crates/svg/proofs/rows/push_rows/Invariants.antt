use Rattle.std.proofs.Common.{◌≡◌, ◌++◌, drop, map}
use Rattle.chart.specs.HeldBars.{bar_of}
use Rattle.svg.specs.Content.{Content, content_text}
use Rattle.svg.specs.Rows.{rows}
use Rattle.svg.specs.Held.{sheet_held}
use Rattle.svg.proofs.rows.push_rows.Given as goal

abbrev pub invariant-bars : goal.invariant-bars
invariant-bars l = record {
  counted : l.row ≡ l.bar-index;
  appended : (rest : Content) → l.out.items ++ content_text (rows (sheet_held l.sheet) l.row (map bar_of (drop l.bar-index l.bars)) rest)
      ≡ l.fn.out.items ++ content_text (rows (sheet_held l.sheet) 0 (map bar_of l.bars) rest);
}
