use Rattle.std.specs.Prelude.{codes}
use Rattle.svg.specs.Content.{attribute}
use Rattle.svg.specs.declared.names.Tag.TheVariants as tags
use Rattle.svg.specs.declared.names.Attr.TheVariants as attrs
use Rattle.svg.proofs.Elements.{start_of_seven}
use Rattle.svg.proofs.definitions.begin_arrow_head.Goals as goal

pub returns : goal.returns
returns c =
    start_of_seven c.inside.result _ tags.Marker (attribute attrs.Id (codes "arrow"))
    (attribute attrs.ViewBox (codes "0 0 8 8")) (attribute attrs.RefX (codes "7")) (attribute attrs.RefY (codes "4"))
    (attribute attrs.MarkerWidth (codes "7")) (attribute attrs.MarkerHeight (codes "7")) (attribute attrs.Orient (codes "auto"))
    _ _ _ _ _ _ _ _ _ c.in_ok-begin.ensures c.in_ok-attribute.ensures c.in_ok-attribute-2.ensures c.in_ok-attribute-3.ensures
    c.in_ok-attribute-4.ensures c.in_ok-attribute-5.ensures c.in_ok-attribute-6.ensures c.in_ok-attribute-7.ensures c.inside.ensures
