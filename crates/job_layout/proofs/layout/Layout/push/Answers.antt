use Rattle.std.proofs.Common.{◌≡◌, List, sym, subst}
use Rattle.job_layout.specs.declared.spaced.SpacedToken.{SpacedToken}
use Rattle.job_layout.specs.Spaced.{column_after, with_gap}
use Rattle.std.specs.Io.Iter.{u64_saturate}
use Rattle.job_layout.proofs.Counting.{next_by}
use Rattle.job_layout.proofs.layout.Layout.push.Goals as goal

pub invariant_of-self-2 : goal.invariant_of-self-2
invariant_of-self-2 c = subst (λ (ts : List SpacedToken). c.in_ok-column.column ≡ u64_saturate (column_after 0 ts)) (sym c.in_ok-push.ensures.items)
    (next_by c.self.inside.tokens.items (with_gap c.args.gap c.args.shape) c.self.inside.column c.in_ok-column.column c.self.invariant
    c.in_ok-column.ensures)
