use Rattle.std.specs.Prelude.{codes}
use Rattle.svg.specs.Content.{attribute}
use Rattle.svg.specs.declared.names.Tag.TheVariants as tags
use Rattle.svg.specs.declared.names.Attr.TheVariants as attrs
use Rattle.svg.proofs.Elements.{start_of_four}
use Rattle.svg.proofs.definitions.begin_fill.Goals as goal

pub returns : goal.returns
returns c =
    start_of_four c.inside.result _ tags.Pattern (attribute attrs.Id c.args.id.now)
    (attribute attrs.PatternUnits (codes "userSpaceOnUse")) (attribute attrs.Width (codes "6")) (attribute attrs.Height (codes "6"))
    _ _ _ _ _ _ c.in_ok-begin.ensures c.in_ok-attribute.ensures c.in_ok-attribute-2.ensures c.in_ok-attribute-3.ensures
    c.in_ok-attribute-4.ensures c.inside.ensures
