use Rattle.chart.specs.HeldBars.{bar_of}
use Rattle.svg.specs.declared.layout.TheConstants.{MAX_ROWS}
use Rattle.svg.proofs.Taken.{front_of}
use Rattle.svg.proofs.document.shown_rows.Goals as goal

pub returns : goal.returns
returns c = front_of bar_of MAX_ROWS _ _ _ c.min.ensures c.split_at.ensures.front
