use Rattle.std.proofs.Common.{◌∙◌, ap, is_some, nat_eq}
use Rattle.std.specs.List.{list_all}
use Rattle.nursery_book.proofs.EndLemmas.{none_runs}
use Rattle.nursery_book.proofs.children.Children.all_ended.Goals as goal

pub returns : goal.returns
returns c =
    ap (λ n. nat_eq n 0) c.self.invariant ∙ none_runs c.self.inside.ends.items ∙ ap (list_all is_some) c.self.view_is
