use Rattle.std.specs.Prelude.{codes, decimal}
use Rattle.svg.proofs.Elements.{three}
use Rattle.svg.proofs.bars.push_left.Goals as goal

pub returns : goal.returns
returns c =
    three _ (codes "and ") (decimal c.args.left) (codes " more events\n") _ _ _ c.in_ok-extend_from_slice.ensures.items
    c.in_ok-push_number.ensures c.in_ok-extend_from_slice-2.ensures.items
