-- A channel as the code has it serves as the definitions say.
use Rattle.std.proofs.Common.{◌≡◌, ◌<◌, ◌≤◌, List, [], ◌∷◌, ◌++◌, length, Bool, true, false, nat_lt, map, refl, ap, sym, ◌∙◌, subst, append_assoc}
use Rattle.std.proofs.lemmas.Bool.{lt-ltb, le-ltb}
use Rattle.std.proofs.lemmas.List.{append-nil, length-map}
use Rattle.std.specs.List.{filter}
use Rattle.input_lines.specs.Lines.{Range}
use Rattle.input_lines.specs.Part.{range_of}
use Rattle.input_lines.specs.declared.part.Part.{Part}
use Rattle.objects.specs.Channels as channels
use Rattle.objects.specs.Channels.{ChannelAct, put_part, send_to, take_part, await_part, meet_sender, receive_with, after_acts, received}
use Rattle.objects.specs.Held.{channel_in, channel_left, sender_in, waits_to_send, refilled, gets_in, PartsServed}
use Rattle.objects.specs.declared.ticket.Ticket.{Ticket}
use Rattle.objects.specs.declared.given.Given.{Given}
use Rattle.objects.specs.declared.given.Grant.TheVariants.{Sent, Received, ClosedResource, EndOfChannel}
use Rattle.objects.specs.declared.channel.Channel.{Channel}
use Rattle.objects.specs.declared.channel.Sender.{Sender}
use Rattle.objects.proofs.Waiting.{filter_again, filter_more, granted_one}

-- those who wait to send
abbrev senders_in : (Ticket → Bool) → Channel → List (channels.Sender Ticket Range)
senders_in waits c = filter (waits_to_send waits) (map sender_in c.senders.items)

senders_again : (waits : Ticket → Bool) (c : Channel) → filter (waits_to_send waits) (senders_in waits c) ≡ senders_in waits c
senders_again waits c = filter_again (waits_to_send waits) (map sender_in c.senders.items)

-- nobody leaves who still waits
channel_again : (waits : Ticket → Bool) (c : Channel) → channel_in waits c ≡ channel_left waits (channel_in waits c)
channel_again waits c = rw (senders_again waits c, filter_again waits c.receivers.items) refl

-- two grants, one after the other
granted_two : (before between after : List Given) (g h : Given) → between ≡ before ++ g ∷ [] → after ≡ between ++ h ∷ [] →
    map gets_in after ≡ map gets_in before ++ gets_in g ∷ gets_in h ∷ []
granted_two before between after g h first second =
    granted_one gets_in between after h second
    ∙ ap (λ gs. gs ++ gets_in h ∷ []) (granted_one gets_in before between g first)
    ∙ append_assoc (map gets_in before) (gets_in g ∷ []) (gets_in h ∷ [])

-- a part for which the buffer has no room
pub part_queued : (waits : Ticket → Bool) (old new : Channel) (who : Ticket) (part : Part) (given : List Given) →
    old.places ≤ length old.buffer.items → new.places ≡ old.places → new.buffer.items ≡ old.buffer.items → new.is_closed ≡ old.is_closed →
    new.senders.items ≡ old.senders.items ++ record { who = who; part = part } ∷ [] → new.receivers.items ≡ old.receivers.items →
    PartsServed waits (put_part (channel_in waits old) who (range_of part)) new given given
part_queued waits old new who part given full places buffer closed more receivers =
    let no_room : nat_lt (length (map range_of old.buffer.items)) old.places ≡ false =
    rw (length-map old.buffer.items range_of) (le-ltb _ _ full) in
    let queue = filter_more (waits_to_send waits) (map sender_in old.senders.items) (map sender_in new.senders.items)
    (sender_in (record { who = who; part = part })) (granted_one sender_in old.senders.items new.senders.items _ more) in
    rw no_room
    (record {
      channel = rw (places, buffer, closed, receivers, queue, filter_again waits old.receivers.items) refl;
      granted = sym (append-nil (map gets_in given));
    })

-- a part for which it has
pub part_put : (waits : Ticket → Bool) (old new : Channel) (who : Ticket) (part : Part) (before after : List Given) →
    length old.buffer.items < old.places → new.places ≡ old.places → new.buffer.items ≡ old.buffer.items ++ part ∷ [] →
    new.is_closed ≡ old.is_closed → new.senders.items ≡ old.senders.items → new.receivers.items ≡ old.receivers.items →
    after ≡ before ++ record { who = who; grant = Sent } ∷ [] →
    PartsServed waits (put_part (channel_in waits old) who (range_of part)) new before after
part_put waits old new who part before after room places buffer closed senders receivers more =
    let has_room : nat_lt (length (map range_of old.buffer.items)) old.places ≡ true =
    rw (length-map old.buffer.items range_of) (lt-ltb _ _ room) in
    rw has_room
    (record {
      channel =
          rw (places, granted_one range_of old.buffer.items new.buffer.items part buffer, closed, senders, receivers, filter_again waits old.receivers.items, senders_again waits old)
          refl;
      granted = granted_one gets_in before after _ more;
    })

-- a sender of a closed channel
pub part_refused : (waits : Ticket → Bool) (c : Channel) (who : Ticket) (part : Range) (before after : List Given) → c.is_closed ≡ true →
    after ≡ before ++ record { who = who; grant = ClosedResource } ∷ [] → PartsServed waits (send_to (channel_in waits c) who part) c before after
part_refused waits c who part before after closed more =
    let is : record { channel = channel_in waits c; granted = channels.closed_resource who ∷ [] } ≡ send_to (channel_in waits c) who part =
    rw closed refl in
    subst (λ s. PartsServed waits s c before after) is
    (record { channel = channel_again waits c; granted = granted_one gets_in before after _ more })

-- a part for the first who waits to receive
pub part_passed : (waits : Ticket → Bool) (old new : Channel) (first who : Ticket) (part : Part) (before between after : List Given) →
    old.is_closed ≡ false → filter waits old.receivers.items ≡ first ∷ filter waits new.receivers.items →
    new.places ≡ old.places → new.buffer.items ≡ old.buffer.items → new.is_closed ≡ old.is_closed → new.senders.items ≡ old.senders.items →
    between ≡ before ++ record { who = first; grant = Received part } ∷ [] → after ≡ between ++ record { who = who; grant = Sent } ∷ [] →
    PartsServed waits (send_to (channel_in waits old) who (range_of part)) new before after
part_passed waits old new first who part before between after is_open head places buffer closed senders one two =
    rw (is_open, head)
    (record {
      channel =
          rw (places, buffer, closed, senders, is_open, filter_again waits new.receivers.items, senders_again waits old) refl;
      granted = granted_two before between after _ _ one two;
    })

-- a receiver of a channel that is closed and empty
pub part_ended : (waits : Ticket → Bool) (c : Channel) (who : Ticket) (before after : List Given) → c.is_closed ≡ true →
    after ≡ before ++ record { who = who; grant = EndOfChannel } ∷ [] → PartsServed waits (await_part (channel_in waits c) who) c before after
part_ended waits c who before after closed more =
    let is : record { channel = channel_in waits c; granted = channels.end_of_channel who ∷ [] } ≡ await_part (channel_in waits c) who =
    rw closed refl in
    subst (λ s. PartsServed waits s c before after) is
    (record { channel = channel_again waits c; granted = granted_one gets_in before after _ more })

-- a receiver of an empty channel
pub part_awaited : (waits : Ticket → Bool) (old new : Channel) (who : Ticket) (given : List Given) → old.is_closed ≡ false →
    new.places ≡ old.places → new.buffer.items ≡ old.buffer.items → new.is_closed ≡ old.is_closed → new.senders.items ≡ old.senders.items →
    new.receivers.items ≡ old.receivers.items ++ who ∷ [] →
    PartsServed waits (await_part (channel_in waits old) who) new given given
part_awaited waits old new who given is_open places buffer closed senders more =
    rw is_open
    (record {
      channel =
          rw (places, buffer, closed, senders, is_open, filter_more waits old.receivers.items new.receivers.items who more, senders_again waits old)
          refl;
      granted = sym (append-nil (map gets_in given));
    })

-- a place that came free, where nobody waits to send
pub place_kept : (waits : Ticket → Bool) (old new : Channel) (given : List Given) →
    senders_in waits old ≡ [] → senders_in waits new ≡ [] →
    new.places ≡ old.places → new.buffer.items ≡ old.buffer.items → new.is_closed ≡ old.is_closed → new.receivers.items ≡ old.receivers.items →
    PartsServed waits (refilled (channel_in waits old) (senders_in waits old)) new given given
place_kept waits old new given none none_left places buffer closed receivers =
    rw none
    (record {
      channel = rw (places, buffer, closed, receivers, none_left, filter_again waits old.receivers.items) refl;
      granted = sym (append-nil (map gets_in given));
    })

-- and where somebody does
pub place_filled : (waits : Ticket → Bool) (old new : Channel) (first : Sender) (before after : List Given) →
    senders_in waits old ≡ sender_in first ∷ senders_in waits new →
    new.places ≡ old.places → new.buffer.items ≡ old.buffer.items ++ first.part ∷ [] → new.is_closed ≡ old.is_closed →
    new.receivers.items ≡ old.receivers.items → after ≡ before ++ record { who = first.who; grant = Sent } ∷ [] →
    PartsServed waits (refilled (channel_in waits old) (senders_in waits old)) new before after
place_filled waits old new first before after head places buffer closed receivers more =
    rw head
    (record {
      channel =
          rw (places, granted_one range_of old.buffer.items new.buffer.items first.part buffer, closed, receivers, filter_again waits old.receivers.items, senders_again waits new)
          refl;
      granted = granted_one gets_in before after _ more;
    })

-- a part of the first who waits to send
pub part_met : (waits : Ticket → Bool) (old new : Channel) (first : Sender) (who : Ticket) (before between after : List Given) →
    senders_in waits old ≡ sender_in first ∷ senders_in waits new →
    new.places ≡ old.places → new.buffer.items ≡ old.buffer.items → new.is_closed ≡ old.is_closed → new.receivers.items ≡ old.receivers.items →
    between ≡ before ++ record { who = who; grant = Received first.part } ∷ [] →
    after ≡ between ++ record { who = first.who; grant = Sent } ∷ [] →
    PartsServed waits (meet_sender (channel_in waits old) (channel_in waits old).senders who) new before after
part_met waits old new first who before between after head places buffer closed receivers one two =
    rw head
    (record {
      channel = rw (places, buffer, closed, receivers, filter_again waits old.receivers.items, senders_again waits new) refl;
      granted = granted_two before between after _ _ one two;
    })

-- nothing is done to it
pub parts_untouched : (waits : Ticket → Bool) (c : Channel) (acts : List (ChannelAct Ticket Range)) (given : List Given) → acts ≡ [] →
    PartsServed waits (after_acts (channel_in waits c) acts) c given given
parts_untouched waits c acts given none =
    rw none
    (record { channel = channel_again waits c; granted = sym (append-nil (map gets_in given)) })
