-- What an object of either kind does is what its kind does.
use Rattle.std.proofs.Common.{◌≡◌, List, Bool, refl}
use Rattle.std.specs.Prelude.{Result, Ok, Err, OnOk}
use Rattle.objects.specs.Limiters.{after_acts as after_tokens}
use Rattle.objects.specs.Channels.{after_acts as after_parts}
use Rattle.objects.specs.Held.{limiter_in, channel_in, to_limiter, to_channel, AreInQueuesBy, IsAskedBy, PassesAll, PartsServed, Serves, TokensServed}
use Rattle.objects.specs.declared.ticket.Ticket.{Ticket}
use Rattle.objects.specs.declared.given.Given.{Given}
use Rattle.objects.specs.declared.limiter.Limiter.{Limiter}
use Rattle.objects.specs.declared.channel.Channel.{Channel}
use Rattle.objects.specs.declared.object.Object.{Object}
use Rattle.objects.specs.declared.object.Object.TheVariants as objects
use Rattle.objects.specs.declared.object.Operation.{Operation}

-- two facts of one result
pub on_ok_both : {T E P Q R : Type 0} (r : Result T E) → (P → Q → R) → OnOk r P → OnOk r Q → OnOk r R
on_ok_both (Ok v) f p q = f p q
on_ok_both (Err e) f p q = tt

pub tokens_serve : (waits : Ticket → Bool) (old : Object) (l new : Limiter) (operation : Operation) (before after : List Given) →
    old ≡ objects.Limiter l → TokensServed waits (after_tokens (limiter_in waits l) (to_limiter operation)) new before after →
    ((test : Ticket → Bool) → PassesAll test l.waiting.items → IsAskedBy test operation → PassesAll test new.waiting.items) →
    Serves waits old (objects.Limiter new) operation before after
tokens_serve waits old l new operation before after e served queued =
    rw e (record { object = rw served.limiter refl; granted = served.granted; queued = queued })

pub parts_serve : (waits : Ticket → Bool) (old : Object) (c new : Channel) (operation : Operation) (before after : List Given) →
    old ≡ objects.Channel c → PartsServed waits (after_parts (channel_in waits c) (to_channel operation)) new before after →
    ((test : Ticket → Bool) → AreInQueuesBy test c → IsAskedBy test operation → AreInQueuesBy test new) →
    Serves waits old (objects.Channel new) operation before after
parts_serve waits old c new operation before after e served queued =
    rw e (record { object = rw served.channel refl; granted = served.granted; queued = queued })
