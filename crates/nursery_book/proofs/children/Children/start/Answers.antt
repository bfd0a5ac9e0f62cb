use Rattle.std.proofs.Common.{◌∙◌, ap, arith}
use Rattle.nursery_book.specs.Ends.{running_in}
use Rattle.nursery_book.proofs.EndLemmas.{running_upto, running_more}
use Rattle.nursery_book.proofs.children.Children.start.Goals as goal

pub overflow_add-self : goal.overflow_add-self
overflow_add-self c =
    omega (arith, c.self.invariant, running_upto c.self.inside.ends.items, c.self.inside.ends.ok.0, c.in_ok-push.ensures.len, c.push.auto.self)

pub invariant_of-self-2 : goal.invariant_of-self-2
invariant_of-self-2 c =
    let more = ap running_in c.in_ok-push.ensures.items ∙ running_more c.self.inside.ends.items in
    omega (arith, more, c.self.invariant)
