-- A queue without its first has nobody new.
use Rattle.std.proofs.Common.{◌≡◌, List, ◌∷◌, Bool, true, map, ap, subst}
use Rattle.std.proofs.lemmas.List.Elements.{All-tail}
use Rattle.objects.specs.Held.{PassesAll, sender_of}
use Rattle.objects.specs.declared.ticket.Ticket.{Ticket}
use Rattle.objects.specs.declared.channel.Sender.{Sender}

pub passes_rest : (test : Ticket → Bool) (tickets : List Ticket) (first : Ticket) (rest : List Ticket) → tickets ≡ first ∷ rest →
    PassesAll test tickets → PassesAll test rest
passes_rest test tickets first rest e all = All-tail (λ ticket. test ticket ≡ true) first rest (subst (PassesAll test) e all)

pub passes_later : (test : Ticket → Bool) (senders : List Sender) (first : Sender) (rest : List Sender) → senders ≡ first ∷ rest →
    PassesAll test (map sender_of senders) → PassesAll test (map sender_of rest)
passes_later test senders first rest e = passes_rest test (map sender_of senders) first.who (map sender_of rest) (ap (map sender_of) e)
