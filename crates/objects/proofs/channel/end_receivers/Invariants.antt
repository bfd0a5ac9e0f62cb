use Rattle.std.proofs.Common.{◌≡◌, Bool, List, ℕ, ◌++◌, map, length}
use Rattle.std.specs.List.{filter}
use Rattle.objects.specs.Channels.{end_receivers}
use Rattle.objects.specs.Held.{gets_in, gets_by, AreGivenOf, PassesAll}
use Rattle.objects.specs.declared.ticket.Ticket.{Ticket}
use Rattle.objects.proofs.channel.end_receivers.Given as goal

abbrev pub invariant-receivers : goal.invariant-receivers
invariant-receivers g l =
    (map gets_in l.given.items ++ map gets_by (end_receivers (filter (g.Q.Queues.waits l.queues) l.receivers.items))
    ≡ map gets_in l.fn.given.items ++ map gets_by (end_receivers (filter (g.Q.Queues.waits l.queues) l.fn.receivers.items)))
    × ((input : List ℕ) → AreGivenOf input l.fn.given.items → AreGivenOf input l.given.items)
    × ((test : Ticket → Bool) → PassesAll test l.fn.receivers.items → PassesAll test l.receivers.items)

-- those that still wait
abbrev pub decreases-receivers : goal.decreases-receivers
decreases-receivers g l = length (filter (g.Q.Queues.waits l.queues) l.receivers.items)
