use Rattle.std.proofs.Common.{◌≡◌, ◌+◌, ◌≤◌, ◌++◌, length}
use Rattle.std.specs.Prelude.{vec_len, vec_capacity}
use Rattle.std.specs.Vec.Iter.{into_iter_items, into_iter_len}
use Rattle.nursery_book.specs.Ends.{excs_held}
use Rattle.nursery_book.proofs.ending.member_excs.Given as goal

abbrev pub invariant-children : goal.invariant-children
invariant-children l =
    (l.excs.items ++ excs_held (into_iter_items l.child-iterator) ≡ l.initial.excs.items ++ excs_held l.fn.children.items) ×
    (vec_len l.excs + into_iter_len l.child-iterator ≤ vec_capacity l.excs) ×
    (into_iter_len l.child-iterator ≡ length (into_iter_items l.child-iterator))
