use Rattle.std.specs.Prelude.{codes, decimal}
use Rattle.svg.specs.Content.{attribute}
use Rattle.svg.specs.declared.names.Tag.TheVariants as tags
use Rattle.svg.specs.declared.names.Attr.TheVariants as attrs
use Rattle.svg.proofs.Elements.{start_of_six}
use Rattle.svg.proofs.shapes.begin_box.Goals as goal

pub returns : goal.returns
returns c =
    start_of_six c.inside.result _ tags.Rect (attribute attrs.Class c.args.class.now) (attribute attrs.X (decimal c.args.x))
    (attribute attrs.Y (decimal c.args.y)) (attribute attrs.Width (decimal c.args.width)) (attribute attrs.Height (decimal c.args.height))
    (attribute attrs.Rx (codes "3"))
    _ _ _ _ _ _ _ _ c.in_ok-begin.ensures c.in_ok-attribute.ensures c.in_ok-number.ensures c.in_ok-number-2.ensures
    c.in_ok-number-3.ensures c.in_ok-number-4.ensures c.in_ok-attribute-2.ensures c.inside.ensures
