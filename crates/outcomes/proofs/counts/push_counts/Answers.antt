use Rattle.std.proofs.Common.{refl}
use Rattle.outcomes.proofs.Joined.{extended, two, with_count, last}
use Rattle.outcomes.proofs.counts.push_counts.Goals as goal

pub returns : goal.returns
returns c =
    let stuck = with_count _ _ _ _ _ _ _ c.in_ok-push_faults.ensures refl c.in_ok-push_count.ensures in
    let cut = with_count _ _ _ _ _ _ _ stuck refl c.in_ok-push_count-2.ensures in
    let lost = with_count _ _ _ _ _ _ _ cut refl c.in_ok-push_count-3.ensures in
    let unreached = with_count _ _ _ _ _ _ _ lost refl c.in_ok-push_count-4.ensures in
    let not_tried = two _ _ _ _ _ unreached c.in_ok-push_more.ensures in
    last c.extend_from_slice.result _ _ _ _ _ not_tried (extended c.extend_from_slice.result _ _ _ c.extend_from_slice.ensures.items)
