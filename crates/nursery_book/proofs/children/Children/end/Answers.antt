use Rattle.std.proofs.Common.{◌∙◌, Some, ap, arith}
use Rattle.std.specs.Prelude.{slice_get, slice_set}
use Rattle.std.specs.Option.{option_map}
use Rattle.std.proofs.lemmas.List.{map-set}
use Rattle.exceptions.specs.Held.{exc_of}
use Rattle.nursery_book.specs.declared.ending.MemberEnd.TheVariants.{Ended}
use Rattle.nursery_book.specs.Ends.{end_of}
use Rattle.nursery_book.proofs.EndLemmas.{running_fewer}
use Rattle.nursery_book.proofs.children.Children.end.Goals as goal

pub overflow_sub-self : goal.overflow_sub-self
overflow_sub-self c =
    let fewer = running_fewer c.self.inside.ends.items c.args.index c.args.exc
    (ap (λ es. slice_get es c.args.index) c.self.view_is ∙ c.requires) in
    omega (arith, fewer, c.self.invariant)

pub invariant_of-self : goal.invariant_of-self
invariant_of-self c =
    let fewer = running_fewer c.self.inside.ends.items c.args.index c.args.exc
    (ap (λ es. slice_get es c.args.index) c.self.view_is ∙ c.requires) in
    omega (arith, fewer, c.self.invariant)

pub returns : goal.returns
returns c =
    map-set end_of c.self.inside.ends.items c.args.index (Ended c.args.exc)
    ∙ ap (λ es. slice_set es c.args.index (Some (option_map exc_of c.args.exc))) c.self.view_is
