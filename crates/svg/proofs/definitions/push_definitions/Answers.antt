use Rattle.std.proofs.Common.{[]}
use Rattle.std.specs.Prelude.{codes}
use Rattle.svg.specs.Content.{nothing}
use Rattle.svg.specs.declared.names.Tag.TheVariants as tags
use Rattle.svg.specs.Drawing.{arrow_head, fill, mark_paths}
use Rattle.svg.proofs.Elements.{element_around, begun}
use Rattle.svg.proofs.definitions.push_definitions.Goals as goal

pub returns : goal.returns
returns c =
    element_around c.end.result tags.Defs []
    (arrow_head (fill (codes "slanted") (codes "M0 6 6 0") (fill (codes "crossed") (codes "M0 6 6 0M0 0 6 6") (mark_paths nothing)))) _ _ _ _
    (begun tags.Defs _ _ _ c.in_ok-begin.ensures c.in_ok-inside.ensures) (c.in_ok-push_each.ensures nothing) c.end.ensures
