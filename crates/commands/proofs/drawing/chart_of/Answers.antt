use Rattle.std.proofs.Common.{ap, ◌∙◌, map}
use Rattle.chart.specs.HeldBars.{bar_of}
use Rattle.commands.proofs.Charted.{svg_drawn}
use Rattle.commands.proofs.drawing.chart_of.Goals as goal

pub returns-clause-chart : goal.returns-clause-chart
returns-clause-chart c =
    svg_drawn _ _ _ _ _ _ _ _ _ c.in-Svg.is c.in_ok-index.ensures
    (ap (map bar_of) c.as_slice-in-Svg.ensures.value ∙ c.in_ok-bars.ensures) c.svg.ensures.chart
