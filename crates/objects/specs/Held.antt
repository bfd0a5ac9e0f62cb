-- What the code holds of limiters and channels, in the terms of the definitions.
use Rattle.std.specs.Prelude.{◌≡◌, ℕ, Bool, true, All, List, [], ◌∷◌, ◌++◌, Option, Some, None, map}
use Rattle.std.specs.List.{filter}
use Rattle.input_lines.specs.Lines.{Range}
use Rattle.input_lines.specs.Part.{buffer_of, range_of}
use Rattle.input_lines.specs.declared.part.Part.{Part}
use Rattle.job_tree.specs.declared.object.Ask.TheVariants.{Acquire, Send, Receive}
use Rattle.job_tree.specs.declared.object.ObjectKind.{ObjectKind}
use Rattle.job_tree.specs.declared.object.ObjectKind.TheVariants as kinds
use Rattle.objects.specs.Limiters as limiters
use Rattle.objects.specs.Limiters.{Limiter, LimiterAct, LimiterServed, acquires, gives_back, new_limiter}
use Rattle.objects.specs.Channels as channels
use Rattle.objects.specs.Channels.{Sender, Channel, ChannelAct, ChannelServed, Grant, sends, receives, closes, sent, received, new_channel}
use Rattle.objects.specs.Whats.{What, a_token, was_sent, a_part, closed_resource, end_of_channel}
use Rattle.objects.specs.declared.ticket.Ticket.{Ticket}
use Rattle.objects.specs.declared.given.Given.{Given}
use Rattle.objects.specs.declared.given.Grant as held_grant
use Rattle.objects.specs.declared.given.Grant.TheVariants.{Token, Sent, Received, ClosedResource, EndOfChannel}
use Rattle.objects.specs.declared.limiter.Limiter as held_limiter
use Rattle.objects.specs.declared.channel.Sender as held_sender
use Rattle.objects.specs.declared.channel.Channel as held_channel
use Rattle.objects.specs.declared.object.Object as held_object
use Rattle.objects.specs.declared.object.Object.TheVariants as objects
use Rattle.objects.specs.declared.object.Operation.{Operation}
use Rattle.objects.specs.declared.object.Operation.TheVariants.{Asks, GivesBack, Closes}

-- ---- what is granted

abbrev pub what_in : held_grant.Grant → What
what_in Token = a_token
what_in Sent = was_sent
what_in (Received part) = a_part (range_of part)
what_in ClosedResource = closed_resource
what_in EndOfChannel = end_of_channel

-- a grant, with who gets it
pub record Gets : Type 0 where
  pub who : Ticket
  pub what : What

abbrev pub gets_in : Given → Gets
gets_in g = record { who = g.who; what = what_in g.grant }

abbrev pub gets_token : Ticket → Gets
gets_token who = record { who = who; what = a_token }

abbrev pub gets_by : Grant Ticket Range → Gets
gets_by (sent who part) = record { who = who; what = was_sent }
gets_by (received who part) = record { who = who; what = a_part part }
gets_by (channels.closed_resource who) = record { who = who; what = closed_resource }
gets_by (channels.end_of_channel who) = record { who = who; what = end_of_channel }

-- these were granted, after others
abbrev pub AreGranted : List Gets → (before after : List Given) → Type 0
AreGranted more before after = map gets_in after ≡ map gets_in before ++ more

-- ---- a limiter and a channel, without those who wait no more

abbrev pub limiter_in : (Ticket → Bool) → held_limiter.Limiter → Limiter Ticket
limiter_in waits l = record { free = l.free; waiting = filter waits l.waiting.items }

abbrev pub sender_in : held_sender.Sender → Sender Ticket Range
sender_in s = record { who = s.who; part = range_of s.part }

abbrev pub waits_to_send : (Ticket → Bool) → Sender Ticket Range → Bool
waits_to_send waits s = waits s.who

abbrev pub channel_in : (Ticket → Bool) → held_channel.Channel → Channel Ticket Range
channel_in waits c =
    record {
      places = c.places;
      buffer = map range_of c.buffer.items;
      is_closed = c.is_closed;
      senders = filter (waits_to_send waits) (map sender_in c.senders.items);
      receivers = filter waits c.receivers.items;
    }

abbrev pub limiter_left : (Ticket → Bool) → Limiter Ticket → Limiter Ticket
limiter_left waits l = (limiters.after_act l (limiters.leaves waits)).limiter

abbrev pub channel_left : (Ticket → Bool) → Channel Ticket Range → Channel Ticket Range
channel_left waits c = (channels.after_act c (channels.leaves waits)).channel

-- ---- how they serve

-- a limiter served so, without those who wait no more
pub record TokensServed (waits : Ticket → Bool) (served : LimiterServed Ticket) (new : held_limiter.Limiter) (before after : List Given) : Type 0 where
  pub limiter : limiter_in waits new ≡ limiter_left waits served.limiter
  pub granted : AreGranted (map gets_token served.granted) before after

-- and a channel
pub record PartsServed (waits : Ticket → Bool) (served : ChannelServed Ticket Range) (new : held_channel.Channel) (before after : List Given) : Type 0
  where
    pub channel : channel_in waits new ≡ channel_left waits served.channel
    pub granted : AreGranted (map gets_by served.granted) before after

-- the part of the first who waits to send takes the place that came free in the buffer
abbrev pub refilled : Channel Ticket Range → List (Sender Ticket Range) → ChannelServed Ticket Range
refilled c [] = record { channel = c; granted = [] }
refilled c (first ∷ senders) =
    record { channel = record c { buffer = c.buffer ++ first.part ∷ []; senders = senders }; granted = sent first.who first.part ∷ [] }

-- ---- of which input the parts are

abbrev pub AreOf : List ℕ → List Part → Type 0
AreOf input [] = Unit {0}
AreOf input (part ∷ parts) = (buffer_of part ≡ input) × AreOf input parts

abbrev pub part_of : held_sender.Sender → Part
part_of s = s.part

-- the parts that a channel has are of this input
abbrev pub IsOf : List ℕ → held_channel.Channel → Type 0
IsOf input c = AreOf input c.buffer.items × AreOf input (map part_of c.senders.items)

abbrev pub IsGrantOf : List ℕ → held_grant.Grant → Type 0
IsGrantOf input (Received part) = buffer_of part ≡ input
IsGrantOf input _ = Unit {0}

-- and so are those that are granted
abbrev pub AreGivenOf : List ℕ → List Given → Type 0
AreGivenOf input [] = Unit {0}
AreGivenOf input (g ∷ gs) = IsGrantOf input g.grant × AreGivenOf input gs

-- each of these inputs is this one
abbrev pub AreInput : List ℕ → List (List ℕ) → Type 0
AreInput input [] = Unit {0}
AreInput input (other ∷ others) = (other ≡ input) × AreInput input others

-- the parts stay of an input of which those that come from these inputs are
abbrev pub StaysOf : List (List ℕ) → (old new : held_channel.Channel) → (before after : List Given) → Type 0
StaysOf inputs old new before after =
    (input : List ℕ) → AreInput input inputs → IsOf input old → AreGivenOf input before → IsOf input new × AreGivenOf input after

-- ---- objects of either kind

pub data ObjectOf : Type 0 where
  a_limiter : (limiter : Limiter Ticket) → ObjectOf
  a_channel : (channel : Channel Ticket Range) → ObjectOf

abbrev pub object_in : (Ticket → Bool) → held_object.Object → ObjectOf
object_in waits (objects.Limiter l) = a_limiter (limiter_in waits l)
object_in waits (objects.Channel c) = a_channel (channel_in waits c)

abbrev pub new_object : ObjectKind → ObjectOf
new_object (kinds.Limiter tokens) = a_limiter (new_limiter tokens)
new_object (kinds.Channel places) = a_channel (new_channel places)

-- what an operation is to a limiter, and to a channel: nothing where it cannot be done to it
abbrev pub to_limiter : Operation → List (LimiterAct Ticket)
to_limiter (Asks who Acquire part) = acquires who ∷ []
to_limiter (Asks who Send part) = []
to_limiter (Asks who Receive part) = []
to_limiter GivesBack = gives_back ∷ []
to_limiter Closes = []

abbrev pub to_channel : Operation → List (ChannelAct Ticket Range)
to_channel (Asks who Acquire part) = []
to_channel (Asks who Send part) = sends who (range_of part) ∷ []
to_channel (Asks who Receive part) = receives who ∷ []
to_channel GivesBack = []
to_channel Closes = closes ∷ []

-- an object after something was done to it, with what it granted
pub record ObjectServed : Type 0 where
  pub object : ObjectOf
  pub granted : List Gets

abbrev pub serve : (Ticket → Bool) → ObjectOf → Operation → ObjectServed
serve waits (a_limiter l) operation =
    let served = limiters.after_acts l (to_limiter operation) in
    record { object = a_limiter (limiter_left waits served.limiter); granted = map gets_token served.granted }
serve waits (a_channel c) operation =
    let served = channels.after_acts c (to_channel operation) in
    record { object = a_channel (channel_left waits served.channel); granted = map gets_by served.granted }

-- ---- who is in the queues, also of those who wait no more

abbrev pub PassesAll : (Ticket → Bool) → List Ticket → Type 0
PassesAll test tickets = All (λ (ticket : Ticket). test ticket ≡ true) tickets

abbrev pub sender_of : held_sender.Sender → Ticket
sender_of s = s.who

-- each ticket in the queues of a channel passes a test
abbrev pub AreInQueuesBy : (Ticket → Bool) → held_channel.Channel → Type 0
AreInQueuesBy test c = PassesAll test (map sender_of c.senders.items) × PassesAll test c.receivers.items

-- and in those of an object
abbrev pub AreQueuedBy : (Ticket → Bool) → held_object.Object → Type 0
AreQueuedBy test (objects.Limiter l) = PassesAll test l.waiting.items
AreQueuedBy test (objects.Channel c) = AreInQueuesBy test c

-- and so does the ticket of who asks
abbrev pub IsAskedBy : (Ticket → Bool) → Operation → Type 0
IsAskedBy test (Asks who ask part) = test who ≡ true
IsAskedBy test GivesBack = Unit {0}
IsAskedBy test Closes = Unit {0}

-- An object served an operation. Nobody gets into its queues but who asked.
pub record Serves (waits : Ticket → Bool) (old new : held_object.Object) (operation : Operation) (before after : List Given) : Type 0 where
  pub object : object_in waits new ≡ (serve waits (object_in waits old) operation).object
  pub granted : AreGranted (serve waits (object_in waits old) operation).granted before after
  pub queued : (test : Ticket → Bool) → AreQueuedBy test old → IsAskedBy test operation → AreQueuedBy test new

abbrev pub IsObjectOf : List ℕ → held_object.Object → Type 0
IsObjectOf input (objects.Limiter l) = Unit {0}
IsObjectOf input (objects.Channel c) = IsOf input c

abbrev pub IsOperationOf : List ℕ → Operation → Type 0
IsOperationOf input (Asks who ask part) = buffer_of part ≡ input
IsOperationOf input _ = Unit {0}

-- the first was taken, or there was none
abbrev pub TakesFirst : {A : Type 0} → List A → Option A → List A → Type 0
TakesFirst before None after = (before ≡ []) × (after ≡ [])
TakesFirst before (Some first) after = before ≡ first ∷ after
