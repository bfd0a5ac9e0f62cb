use Rattle.std.proofs.Common.{◌≡◌, List, subst}
use Rattle.job_layout.specs.declared.spaced.SpacedToken.{SpacedToken}
use Rattle.job_layout.specs.Spaced.{column_after}
use Rattle.std.specs.Io.Iter.{u64_saturate}
use Rattle.job_layout.proofs.Counting.{fits_by}
use Rattle.job_layout.proofs.layout.Layout.fits.Goals as goal

pub returns : goal.returns
returns c = fits_by c.args.self.now c.args.tokens.now c.self.inside.column c.in_ok-column.column
    (subst (λ (ts : List SpacedToken). c.self.inside.column ≡ u64_saturate (column_after 0 ts)) c.self.view_is c.self.invariant)
    c.in_ok-column.ensures
