use Rattle.std.proofs.Common.{[], ◌∷◌}
use Rattle.std.specs.Prelude.{decimal}
use Rattle.svg.specs.Content.{nothing, text, attribute}
use Rattle.svg.specs.declared.names.Tag.TheVariants as tags
use Rattle.svg.specs.declared.names.Attr.TheVariants as attrs
use Rattle.svg.proofs.Elements.{element_ok, text_is}
use Rattle.svg.proofs.shapes.push_words.Goals as goal

pub returns : goal.returns
returns c =
    element_ok c.end.result tags.Text
    (attribute attrs.Class c.args.class.now ∷ attribute attrs.X (decimal c.args.x) ∷ attribute attrs.Y (decimal c.args.y) ∷ [])
    (text c.args.bytes.now nothing) _ _ _ _ c.in_ok-begin_words.ensures (text_is _ _ _ c.in_ok-text.ensures) c.end.ensures
