use Rattle.std.proofs.Common.{◌≡◌, ◌++◌, [], ap, sym, ◌∙◌, arith}
use Rattle.std.specs.Prelude.{option_to_list}
use Rattle.std.specs.Vec.Iter.{into_iter_items}
use Rattle.std.proofs.lemmas.List.{append-nil, nil_from_length}
use Rattle.exceptions.specs.Held.{excs_of}
use Rattle.nursery_book.specs.Ends.{exc_held, excs_held}
use Rattle.nursery_book.proofs.EndLemmas.{held_raised}
use Rattle.nursery_book.proofs.ending.member_excs.Goals as goal

pub returns : goal.returns
returns c =
    let none : into_iter_items c.children.child-iterator ≡ [] =
    nil_from_length _ (omega (arith, c.children.invariant.2, c.in-None.ensures.steps.0)) in
    let all = sym (append-nil c.children.excs.items) ∙ ap (λ es. c.children.excs.items ++ excs_held es) (sym none)
    ∙ c.children.invariant.0 in
    let first = c.push_exc.ensures.items ∙ ap (λ es. es ++ option_to_list (exc_held c.args.body)) c.requires.empty in
    ap excs_of (all ∙ ap (λ es. es ++ excs_held c.args.children.items) first) ∙ held_raised c.args.body c.args.children.items
