use Rattle.std.proofs.Common.{ap, length, ◌∙◌}
use Rattle.std.specs.Prelude.{Some, false, true, ◌==◌, ◌≡◌}
use Rattle.exceptions.specs.Exceptions as tree
use Rattle.exceptions.specs.Held.{whose_of}
use Rattle.exceptions.proofs.PartsLemmas.{group_of-some}
use Rattle.exceptions.proofs.leaves.group.Goals as goal

pub returns : goal.returns
returns c = ap (λ ps. Some (tree.group (whose_of c.args.whose) ps)) c.new.ensures ∙ group_of-some (whose_of c.args.whose) c.args.parts.items
    (λ none. let same : false ≡ true = c.if-is_empty.ensures ∙ ap (λ xs. length xs == 0) c.as_slice.ensures.value ∙ ap (λ n. n == 0) none in
    cc)
