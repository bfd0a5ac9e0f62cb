use Rattle.std.proofs.Common.{map}
use Rattle.chart.specs.HeldBars.{bar_of}
use Rattle.chart.proofs.PanelByPanel.{more_panels}
use Rattle.chart.proofs.panels.push_panels.Goals as goal

pub panels-preserved : goal.panels-preserved
panels-preserved c =
    more_panels c.args.sheet.clock c.args.sheet.width c.args.sheet.last c.args.sheet.less c.args.sheet.names (map bar_of c.args.bars.now)
    c.args.panels.now.size _ _ _ _ _ _ _ _ c.panels-test.true c.panel_end.ensures.small c.panel_end.ensures.within c.panel_end.ensures.full
    c.split_at.ensures.front c.split_at.ensures.back c.in_ok-push_panel.ensures c.panels.invariant
