use Rattle.std.proofs.Common.{◌≡◌, Bool, List, ℕ, map, length}
use Rattle.std.specs.List.{filter}
use Rattle.objects.specs.Held.{sender_in, sender_of, part_of, waits_to_send, AreOf, PassesAll}
use Rattle.objects.specs.declared.ticket.Ticket.{Ticket}
use Rattle.objects.proofs.channel.next_sender.Given as goal

-- those passed over do not wait
abbrev pub invariant-senders : goal.invariant-senders
invariant-senders g l =
    (filter (waits_to_send (g.Q.Queues.waits l.queues)) (map sender_in l.fn.senders.items)
    ≡ filter (waits_to_send (g.Q.Queues.waits l.queues)) (map sender_in l.senders.items))
    × ((input : List ℕ) → AreOf input (map part_of l.fn.senders.items) → AreOf input (map part_of l.senders.items))
    × ((test : Ticket → Bool) → PassesAll test (map sender_of l.fn.senders.items) → PassesAll test (map sender_of l.senders.items))

abbrev pub decreases-senders : goal.decreases-senders
decreases-senders g l = length l.senders.items
