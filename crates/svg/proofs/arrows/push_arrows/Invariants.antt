use Rattle.std.proofs.Common.{◌≡◌, ◌++◌, drop, map}
use Rattle.chart.specs.HeldBars.{bar_of}
use Rattle.svg.specs.Content.{Content, content_text}
use Rattle.svg.specs.Arrows.{arrows}
use Rattle.svg.specs.Held.{sheet_held}
use Rattle.svg.proofs.arrows.push_arrows.Given as goal

abbrev pub invariant-bars : goal.invariant-bars
invariant-bars l = record {
  counted : l.row ≡ l.bar-index;
  appended : (rest : Content) → l.out.items
      ++ content_text (arrows (sheet_held l.scene.sheet.now) (map bar_of l.scene.bars.now) l.row (map bar_of (drop l.bar-index l.scene.bars.now)) rest)
      ≡ l.fn.out.items ++ content_text (arrows (sheet_held l.scene.sheet.now) (map bar_of l.scene.bars.now) 0 (map bar_of l.scene.bars.now) rest);
}
