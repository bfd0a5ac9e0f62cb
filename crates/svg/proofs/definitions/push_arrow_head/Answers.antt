use Rattle.std.proofs.Common.{[], ◌∷◌}
use Rattle.std.specs.Prelude.{codes}
use Rattle.svg.specs.Content.{nothing, attribute}
use Rattle.svg.specs.declared.names.Tag.TheVariants as tags
use Rattle.svg.specs.declared.names.Attr.TheVariants as attrs
use Rattle.svg.specs.Drawing.{path}
use Rattle.svg.proofs.Elements.{element_around}
use Rattle.svg.proofs.definitions.push_arrow_head.Goals as goal

pub returns : goal.returns
returns c =
    element_around c.end.result tags.Marker
    (attribute attrs.Id (codes "arrow")
    ∷ attribute attrs.ViewBox (codes "0 0 8 8")
    ∷ attribute attrs.RefX (codes "7")
    ∷ attribute attrs.RefY (codes "4")
    ∷ attribute attrs.MarkerWidth (codes "7")
    ∷ attribute attrs.MarkerHeight (codes "7")
    ∷ attribute attrs.Orient (codes "auto")
    ∷ [])
    (path (codes "head") (codes "M0 0 8 4 0 8z") nothing) _ _ _ _
    c.in_ok-begin_arrow_head.ensures (c.in_ok-push_path.ensures nothing) c.end.ensures
