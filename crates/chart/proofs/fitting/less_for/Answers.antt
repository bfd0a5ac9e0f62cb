use Rattle.std.proofs.Common.{◌∙◌, sym, arith}
use Rattle.chart.proofs.Narrower.{found_less, tried_less, last_less}
use Rattle.chart.proofs.fitting.less_for.Goals as goal

pub returns-then-fits_less : goal.returns-then-fits_less
returns-then-fits_less c =
    found_less _ _ _ _ _ c.less-test.true (sym c.fits_less.ensures ∙ c.if-fits_less.true) c.less.invariant.found

pub less-preserved : goal.less-preserved
less-preserved c = record {
  tried = omega (arith, c.less-test.true, c.less.invariant.tried);
  found = tried_less _ _ _ _ _ c.less-test.true (sym c.fits_less.ensures ∙ c.if-fits_less.false) c.less.invariant.found;
}

pub returns : goal.returns
returns c = last_less _ _ _ _ _ c.less-test.false c.less.invariant.found
