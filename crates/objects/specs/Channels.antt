-- A channel: Trio's memory channel. It has a buffer, and serves first come, first served. `A` is what is known of who sends or receives,
-- and `P` is what is sent.
use Rattle.std.specs.Prelude.{ℕ, Bool, true, false, List, [], ◌∷◌, ◌++◌, length, nat_lt, if◌then◌else◌}
use Rattle.std.specs.List.{filter}

-- a sender that waits, with what it sends
pub record Sender (A P : Type 0) : Type 0 where
  pub who : A
  pub part : P

-- who sends while the buffer is full waits in one queue, and who receives while it is empty in another
pub record Channel (A P : Type 0) : Type 0 where
  pub places : ℕ
  pub buffer : List P
  pub is_closed : Bool
  pub senders : List (Sender A P)
  pub receivers : List A

-- what is done to a channel: a part is sent or asked for, it is closed, and some leave the queues
pub data ChannelAct (A P : Type 0) : Type 0 where
  sends : (who : A) → (part : P) → ChannelAct A P
  receives : (who : A) → ChannelAct A P
  closes : ChannelAct A P
  leaves : (stays : A → Bool) → ChannelAct A P

-- What someone gets: its part was sent; it received a part; `ClosedResource`, who sends to a closed channel; `EndOfChannel`, who
-- receives from a closed one in which nothing is left.
pub data Grant (A P : Type 0) : Type 0 where
  sent : (who : A) → (part : P) → Grant A P
  received : (who : A) → (part : P) → Grant A P
  closed_resource : (who : A) → Grant A P
  end_of_channel : (who : A) → Grant A P

-- a channel after something was done to it, with what was granted by it
pub record ChannelServed (A P : Type 0) : Type 0 where
  pub channel : Channel A P
  pub granted : List (Grant A P)

abbrev pub new_channel : {A P : Type 0} → ℕ → Channel A P
new_channel places = record { places = places; buffer = []; is_closed = false; senders = []; receivers = [] }

-- a part for which nobody waits goes into the buffer if it has room
abbrev pub put_part : {A P : Type 0} → Channel A P → A → P → ChannelServed A P
put_part c who part =
    if nat_lt (length c.buffer) c.places
    then record { channel = record c { buffer = c.buffer ++ part ∷ [] }; granted = sent who part ∷ [] }
    else record { channel = record c { senders = c.senders ++ record { who = who; part = part } ∷ [] }; granted = [] }

-- a part goes to the first who waits to receive
abbrev pub pass_part : {A P : Type 0} → Channel A P → List A → A → P → ChannelServed A P
pass_part c [] who part = put_part c who part
pass_part c (first ∷ receivers) who part =
    record { channel = record c { receivers = receivers }; granted = received first part ∷ sent who part ∷ [] }

abbrev pub send_to : {A P : Type 0} → Channel A P → A → P → ChannelServed A P
send_to c who part =
    if c.is_closed then record { channel = c; granted = closed_resource who ∷ [] } else pass_part c c.receivers who part

-- The first of the buffer is received, and the part of the first who waits to send takes the place.
abbrev pub take_part : {A P : Type 0} → Channel A P → P → List P → List (Sender A P) → A → ChannelServed A P
take_part c part buffer [] who = record { channel = record c { buffer = buffer }; granted = received who part ∷ [] }
take_part c part buffer (first ∷ senders) who =
    record {
      channel = record c { buffer = buffer ++ first.part ∷ []; senders = senders };
      granted = received who part ∷ sent first.who first.part ∷ [];
    }

-- who receives where there is no part waits, unless the channel is closed
abbrev pub await_part : {A P : Type 0} → Channel A P → A → ChannelServed A P
await_part c who =
    if c.is_closed
    then record { channel = c; granted = end_of_channel who ∷ [] }
    else record { channel = record c { receivers = c.receivers ++ who ∷ [] }; granted = [] }

-- with nothing in the buffer, the part of the first who waits to send is received
abbrev pub meet_sender : {A P : Type 0} → Channel A P → List (Sender A P) → A → ChannelServed A P
meet_sender c [] who = await_part c who
meet_sender c (first ∷ senders) who =
    record { channel = record c { senders = senders }; granted = received who first.part ∷ sent first.who first.part ∷ [] }

abbrev pub receive_with : {A P : Type 0} → Channel A P → List P → A → ChannelServed A P
receive_with c [] who = meet_sender c c.senders who
receive_with c (part ∷ buffer) who = take_part c part buffer c.senders who

abbrev pub refuse_senders : {A P : Type 0} → List (Sender A P) → List (Grant A P)
refuse_senders [] = []
refuse_senders (sender ∷ senders) = closed_resource sender.who ∷ refuse_senders senders

abbrev pub end_receivers : {A P : Type 0} → List A → List (Grant A P)
end_receivers [] = []
end_receivers (who ∷ receivers) = end_of_channel who ∷ end_receivers receivers

-- Who waits is let go with an exception. What is in the buffer can still be received. To close it again does nothing.
abbrev pub close_of : {A P : Type 0} → Channel A P → ChannelServed A P
close_of c =
    record {
      channel = record c { is_closed = true; senders = []; receivers = [] };
      granted = refuse_senders c.senders ++ end_receivers c.receivers;
    }

abbrev pub after_act : {A P : Type 0} → Channel A P → ChannelAct A P → ChannelServed A P
after_act c (sends who part) = send_to c who part
after_act c (receives who) = receive_with c c.buffer who
after_act c closes = close_of c
after_act c (leaves stays) =
    record {
      channel = record c { senders = filter (λ s. stays s.who) c.senders; receivers = filter stays c.receivers };
      granted = [];
    }

-- the channel after these acts, with all that was granted, in order
abbrev pub after_acts : {A P : Type 0} → Channel A P → List (ChannelAct A P) → ChannelServed A P
after_acts c [] = record { channel = c; granted = [] }
after_acts c (act ∷ acts) =
    let first = after_act c act in
    let rest = after_acts first.channel acts in
    record { channel = rest.channel; granted = first.granted ++ rest.granted }

-- the parts that were sent, in order: those whose senders went on
abbrev pub parts_sent : {A P : Type 0} → List (Grant A P) → List P
parts_sent [] = []
parts_sent (sent who part ∷ gs) = part ∷ parts_sent gs
parts_sent (_ ∷ gs) = parts_sent gs

-- the parts that were received, in order
abbrev pub parts_received : {A P : Type 0} → List (Grant A P) → List P
parts_received [] = []
parts_received (received who part ∷ gs) = part ∷ parts_received gs
parts_received (_ ∷ gs) = parts_received gs

-- those who sent, in order, and those whose turn came: their part was sent, or they found the channel closed
abbrev pub senders_of : {A P : Type 0} → List (ChannelAct A P) → List A
senders_of [] = []
senders_of (sends who part ∷ acts) = who ∷ senders_of acts
senders_of (_ ∷ acts) = senders_of acts

abbrev pub senders_served : {A P : Type 0} → List (Grant A P) → List A
senders_served [] = []
senders_served (sent who part ∷ gs) = who ∷ senders_served gs
senders_served (closed_resource who ∷ gs) = who ∷ senders_served gs
senders_served (_ ∷ gs) = senders_served gs

abbrev pub senders_waiting : {A P : Type 0} → List (Sender A P) → List A
senders_waiting [] = []
senders_waiting (sender ∷ senders) = sender.who ∷ senders_waiting senders

-- those who asked for a part, in order, and those whose turn came
abbrev pub receivers_of : {A P : Type 0} → List (ChannelAct A P) → List A
receivers_of [] = []
receivers_of (receives who ∷ acts) = who ∷ receivers_of acts
receivers_of (_ ∷ acts) = receivers_of acts

abbrev pub receivers_served : {A P : Type 0} → List (Grant A P) → List A
receivers_served [] = []
receivers_served (received who part ∷ gs) = who ∷ receivers_served gs
receivers_served (end_of_channel who ∷ gs) = who ∷ receivers_served gs
receivers_served (_ ∷ gs) = receivers_served gs
