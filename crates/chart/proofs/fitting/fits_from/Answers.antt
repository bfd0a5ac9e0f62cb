use Rattle.chart.proofs.Fits.{fits_no_more, fits_more}
use Rattle.chart.proofs.fitting.fits_from.Goals as goal

pub returns-then-left-wanted : goal.returns-then-left-wanted
returns-then-left-wanted c =
    fits_no_more _ _ _ _ _ _ _ _ c.columns-test.true c.gap_less-wanted.ensures c.if-left-wanted.true c.columns.invariant

pub columns-preserved : goal.columns-preserved
columns-preserved c =
    fits_more _ _ _ _ _ _ _ _ c.columns-test.true c.gap_less-wanted.ensures c.if-left-wanted.false c.columns.invariant
