use Rattle.std.proofs.Common.{◌≡◌, Bool, List, ℕ, ◌++◌, map, length}
use Rattle.std.specs.List.{filter}
use Rattle.objects.specs.Channels.{refuse_senders}
use Rattle.objects.specs.Held.{sender_in, sender_of, part_of, waits_to_send, gets_in, gets_by, AreOf, AreGivenOf, PassesAll}
use Rattle.objects.specs.declared.ticket.Ticket.{Ticket}
use Rattle.objects.proofs.channel.refuse_senders.Given as goal

abbrev pub invariant-senders : goal.invariant-senders
invariant-senders g l =
    (map gets_in l.given.items ++ map gets_by (refuse_senders (filter (waits_to_send (g.Q.Queues.waits l.queues)) (map sender_in l.senders.items)))
    ≡ map gets_in l.fn.given.items ++ map gets_by (refuse_senders (filter (waits_to_send (g.Q.Queues.waits l.queues)) (map sender_in l.fn.senders.items))))
    × ((input : List ℕ) → AreOf input (map part_of l.fn.senders.items) → AreGivenOf input l.fn.given.items →
    AreOf input (map part_of l.senders.items) × AreGivenOf input l.given.items)
    × ((test : Ticket → Bool) → PassesAll test (map sender_of l.fn.senders.items) → PassesAll test (map sender_of l.senders.items))

-- those that still wait
abbrev pub decreases-senders : goal.decreases-senders
decreases-senders g l = length (filter (waits_to_send (g.Q.Queues.waits l.queues)) (map sender_in l.senders.items))
