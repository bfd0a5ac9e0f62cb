use Rattle.std.proofs.Common.{◌-◌, ◌+◌, ◌≤◌, ◌≡◌, [], All, vec_len}
use Rattle.workers.specs.Rule.{hand}
use Rattle.workers.proofs.batch.Claims.new.Given as goal

abbrev pub invariant-cuts : goal.invariant-cuts
invariant-cuts l =
    (l.seat.table_id ≡ l.word.shared.table_id)
    × (l.seat.me ≡ (hand l.requests l.left [] 0, []))
    × (1 ≤ l.left)
    × (vec_len l.made + l.left ≡ l.passes)
    × All (λ pass. (pass.seat.table_id ≡ l.word.shared.table_id) × (pass.seat.me ≡ (hand l.requests 1 [] 0, []))) l.made.items

abbrev pub decreases-cuts : goal.decreases-cuts
decreases-cuts l = l.left - 1
