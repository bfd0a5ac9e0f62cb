use Rattle.std.proofs.Common.{◌≡◌, Bool, length}
use Rattle.std.specs.List.{filter}
use Rattle.objects.specs.Held.{PassesAll}
use Rattle.objects.specs.declared.ticket.Ticket.{Ticket}
use Rattle.objects.proofs.limiter.next_waiting.Given as goal

-- those passed over do not wait
abbrev pub invariant-tickets : goal.invariant-tickets
invariant-tickets g l =
    (filter (g.Q.Queues.waits l.queues) l.fn.waiting.items ≡ filter (g.Q.Queues.waits l.queues) l.waiting.items)
    × ((test : Ticket → Bool) → PassesAll test l.fn.waiting.items → PassesAll test l.waiting.items)

abbrev pub decreases-tickets : goal.decreases-tickets
decreases-tickets g l = length l.waiting.items
