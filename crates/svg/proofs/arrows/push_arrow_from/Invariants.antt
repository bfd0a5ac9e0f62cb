use Rattle.std.proofs.Common.{◌≡◌, drop, map}
use Rattle.chart.specs.HeldBars.{bar_of}
use Rattle.svg.specs.Content.{Content}
use Rattle.svg.specs.Arrows.{arrow_from}
use Rattle.svg.specs.Held.{sheet_held, source_held}
use Rattle.svg.proofs.arrows.push_arrow_from.Given as goal

abbrev pub invariant-bars : goal.invariant-bars
invariant-bars l = record {
  counted : l.from ≡ l.bar-index;
  kept : l.out.items ≡ l.fn.out.items;
  ahead : (rest : Content) →
      arrow_from (sheet_held l.scene.sheet.now) l.row l.x (source_held l.source) l.from (map bar_of (drop l.bar-index l.scene.bars.now)) rest
      ≡ arrow_from (sheet_held l.scene.sheet.now) l.row l.x (source_held l.source) 0 (map bar_of l.scene.bars.now) rest;
}
