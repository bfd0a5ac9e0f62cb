use Rattle.std.proofs.Common.{[], ◌∷◌}
use Rattle.std.specs.Prelude.{codes}
use Rattle.svg.specs.Content.{nothing, attribute}
use Rattle.svg.specs.declared.names.Tag.TheVariants as tags
use Rattle.svg.specs.declared.names.Attr.TheVariants as attrs
use Rattle.svg.specs.Drawing.{path}
use Rattle.svg.proofs.Elements.{element_around}
use Rattle.svg.proofs.definitions.push_fill.Goals as goal

pub returns : goal.returns
returns c =
    element_around c.end.result tags.Pattern
    (attribute attrs.Id c.args.id.now
    ∷ attribute attrs.PatternUnits (codes "userSpaceOnUse")
    ∷ attribute attrs.Width (codes "6")
    ∷ attribute attrs.Height (codes "6")
    ∷ [])
    (path c.args.id.now c.args.steps.now nothing) _ _ _ _
    c.in_ok-begin_fill.ensures (c.in_ok-push_path.ensures nothing) c.end.ensures
