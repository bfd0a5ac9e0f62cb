-- Limiters and channels serve those who ask alike, whatever is known of these, where the same of them stay in the queues: with other
-- askers in the place of the first ones they do the same.
use Rattle.std.proofs.Common.{◌≡◌, ℕ, zero, suc, Bool, true, false, List, [], ◌∷◌, ◌++◌, length, refl, ap, sym, ◌∙◌, nat_lt, if◌then◌else◌}
use Rattle.std.specs.Prelude.{map}
use Rattle.std.specs.List.{filter}
use Rattle.std.proofs.lemmas.Bool.{true≢false, false≢true}
use Rattle.std.proofs.lemmas.List.{map-append}
use Rattle.objects.specs.Limiters as limiters
use Rattle.objects.specs.Limiters.{Limiter, LimiterAct, LimiterServed, acquires, gives_back, acquire_of, give_back_to}
use Rattle.objects.specs.Channels as channels
use Rattle.objects.specs.Channels.{Sender, Channel, ChannelAct, sends, receives, closes, Grant, sent, received, closed_resource, end_of_channel, ChannelServed, put_part, pass_part, send_to, take_part, await_part, meet_sender, receive_with, refuse_senders, end_receivers, close_of}

-- a test that is the same for each x and its image lets the same stay
filter_alike : {X Y : Type 0} (f : X → Y) (p : X → Bool) (q : Y → Bool) → ((x : X) → q (f x) ≡ p x) → (xs : List X) →
    filter q (map f xs) ≡ map f (filter p xs)
filter_alike f p q same [] = refl
filter_alike f p q same (x ∷ xs) = by_test (p x) (q (f x)) refl refl (same x) (filter_alike f p q same xs)
  where
    by_test : (a b : Bool) → p x ≡ a → q (f x) ≡ b → q (f x) ≡ p x → filter q (map f xs) ≡ map f (filter p xs) →
        filter q (f x ∷ map f xs) ≡ map f (filter p (x ∷ xs))
    by_test true true i j k h = rw i (rw j (ap (λ ys. f x ∷ ys) h))
    by_test false false i j k h = rw i (rw j h)
    by_test true false i j k h = absurd (false≢true (sym j ∙ (k ∙ i)))
    by_test false true i j k h = absurd (true≢false (sym j ∙ (k ∙ i)))

-- a limiter, and what it serves, with other askers
abbrev pub limiter_by : {A B : Type 0} → (A → B) → Limiter A → Limiter B
limiter_by f l = record { free = l.free; waiting = map f l.waiting }

abbrev pub limiter_served_by : {A B : Type 0} → (A → B) → LimiterServed A → LimiterServed B
limiter_served_by f s = record { limiter = limiter_by f s.limiter; granted = map f s.granted }

-- two acts are the same for an asker and its image
abbrev pub LimiterActsAlike : {A B : Type 0} → (A → B) → LimiterAct A → LimiterAct B → Type 0
LimiterActsAlike f (acquires who) (acquires other) = other ≡ f who
LimiterActsAlike f gives_back gives_back = Unit {0}
LimiterActsAlike {A = A} f (limiters.leaves stays) (limiters.leaves others) = (who : A) → others (f who) ≡ stays who
LimiterActsAlike f _ _ = ⊥

abbrev pub AllLimiterActsAlike : {A B : Type 0} → (A → B) → List (LimiterAct A) → List (LimiterAct B) → Type 0
AllLimiterActsAlike f [] [] = Unit {0}
AllLimiterActsAlike f (a ∷ acts) (b ∷ others) = LimiterActsAlike f a b × AllLimiterActsAlike f acts others
AllLimiterActsAlike f _ _ = ⊥

-- a token is asked for, and one comes back
acquired_alike : {A B : Type 0} (f : A → B) (free : ℕ) (waiting : List A) (who : A) →
    acquire_of free (map f waiting) (f who) ≡ limiter_served_by f (acquire_of free waiting who)
acquired_alike f zero waiting who =
    ap (λ ws. record { limiter = record { free = 0; waiting = ws }; granted = [] }) (sym (map-append f waiting (who ∷ [])))
acquired_alike f (suc free) waiting who = refl

given_back_alike : {A B : Type 0} (f : A → B) (free : ℕ) (waiting : List A) →
    give_back_to free (map f waiting) ≡ limiter_served_by f (give_back_to free waiting)
given_back_alike f free [] = refl
given_back_alike f free (first ∷ waiting) = refl

-- one act
limiter_act_alike : {A B : Type 0} (f : A → B) (l : Limiter A) (a : LimiterAct A) (b : LimiterAct B) → LimiterActsAlike f a b →
    limiters.after_act (limiter_by f l) b ≡ limiter_served_by f (limiters.after_act l a)
limiter_act_alike f l (acquires who) (acquires other) e =
    ap (λ x. acquire_of l.free (map f l.waiting) x) e ∙ acquired_alike f l.free l.waiting who
limiter_act_alike f l gives_back gives_back e = given_back_alike f l.free l.waiting
limiter_act_alike f l (limiters.leaves stays) (limiters.leaves others) e =
    ap (λ ws. record { limiter = record { free = l.free; waiting = ws }; granted = [] }) (filter_alike f stays others e l.waiting)
limiter_act_alike f l (acquires who) gives_back e = absurd e
limiter_act_alike f l (acquires who) (limiters.leaves others) e = absurd e
limiter_act_alike f l gives_back (acquires other) e = absurd e
limiter_act_alike f l gives_back (limiters.leaves others) e = absurd e
limiter_act_alike f l (limiters.leaves stays) (acquires other) e = absurd e
limiter_act_alike f l (limiters.leaves stays) gives_back e = absurd e

-- a limiter serves alike
pub limiter_alike : {A B : Type 0} (f : A → B) (l : Limiter A) (acts : List (LimiterAct A)) (others : List (LimiterAct B)) →
    AllLimiterActsAlike f acts others → limiters.after_acts (limiter_by f l) others ≡ limiter_served_by f (limiters.after_acts l acts)
limiter_alike f l [] [] e = refl
limiter_alike f l [] (b ∷ others) e = absurd e
limiter_alike f l (a ∷ acts) [] e = absurd e
limiter_alike {A = A} {B = B} f l (a ∷ acts) (b ∷ others) e =
    ap (λ s. then_served s (limiters.after_acts s.limiter others)) (limiter_act_alike f l a b e.0)
    ∙ (ap (λ s. then_served (limiter_served_by f first) s) (limiter_alike f first.limiter acts others e.1)
    ∙ ap (λ gs. record { limiter = limiter_by f rest.limiter; granted = gs }) (sym (map-append f first.granted rest.granted)))
  where
    first : LimiterServed A
    first = limiters.after_act l a

    rest : LimiterServed A
    rest = limiters.after_acts first.limiter acts

    then_served : LimiterServed B → LimiterServed B → LimiterServed B
    then_served s t = record { limiter = t.limiter; granted = s.granted ++ t.granted }

-- a channel, and what it serves, with other askers
abbrev pub sender_by : {A B P : Type 0} → (A → B) → Sender A P → Sender B P
sender_by f s = record { who = f s.who; part = s.part }

abbrev pub channel_by : {A B P : Type 0} → (A → B) → Channel A P → Channel B P
channel_by f c =
    record { places = c.places; buffer = c.buffer; is_closed = c.is_closed; senders = map (sender_by f) c.senders; receivers = map f c.receivers }

abbrev pub grant_by : {A B P : Type 0} → (A → B) → Grant A P → Grant B P
grant_by f (sent who part) = sent (f who) part
grant_by f (received who part) = received (f who) part
grant_by f (closed_resource who) = closed_resource (f who)
grant_by f (end_of_channel who) = end_of_channel (f who)

abbrev pub channel_served_by : {A B P : Type 0} → (A → B) → ChannelServed A P → ChannelServed B P
channel_served_by f s = record { channel = channel_by f s.channel; granted = map (grant_by f) s.granted }

abbrev pub ChannelActsAlike : {A B P : Type 0} → (A → B) → ChannelAct A P → ChannelAct B P → Type 0
ChannelActsAlike f (sends who part) (sends other same) = (other ≡ f who) × (same ≡ part)
ChannelActsAlike f (receives who) (receives other) = other ≡ f who
ChannelActsAlike f closes closes = Unit {0}
ChannelActsAlike {A = A} f (channels.leaves stays) (channels.leaves others) = (who : A) → others (f who) ≡ stays who
ChannelActsAlike f _ _ = ⊥

abbrev pub AllChannelActsAlike : {A B P : Type 0} → (A → B) → List (ChannelAct A P) → List (ChannelAct B P) → Type 0
AllChannelActsAlike f [] [] = Unit {0}
AllChannelActsAlike f (a ∷ acts) (b ∷ others) = ChannelActsAlike f a b × AllChannelActsAlike f acts others
AllChannelActsAlike f _ _ = ⊥

-- a part for which nobody waits
put_alike : {A B P : Type 0} (f : A → B) (c : Channel A P) (who : A) (part : P) →
    put_part (channel_by f c) (f who) part ≡ channel_served_by f (put_part c who part)
put_alike {B = B} {P = P} f c who part = by_room (nat_lt (length c.buffer) c.places)
  where
    goes_in : ChannelServed B P
    goes_in = record { channel = record (channel_by f c) { buffer = c.buffer ++ part ∷ [] }; granted = sent (f who) part ∷ [] }

    waits : List (Sender B P) → ChannelServed B P
    waits senders = record { channel = record (channel_by f c) { senders = senders }; granted = [] }

    by_room : (b : Bool) →
        (if b then goes_in else waits (map (sender_by f) c.senders ++ record { who = f who; part = part } ∷ []))
        ≡ channel_served_by f (if b then record { channel = record c { buffer = c.buffer ++ part ∷ [] }; granted = sent who part ∷ [] }
        else record { channel = record c { senders = c.senders ++ record { who = who; part = part } ∷ [] }; granted = [] })
    by_room true = refl
    by_room false = ap waits (sym (map-append (sender_by f) c.senders (record { who = who; part = part } ∷ [])))

-- a part, by who waits to receive
pass_alike : {A B P : Type 0} (f : A → B) (c : Channel A P) (receivers : List A) (who : A) (part : P) →
    pass_part (channel_by f c) (map f receivers) (f who) part ≡ channel_served_by f (pass_part c receivers who part)
pass_alike f c [] who part = put_alike f c who part
pass_alike f c (first ∷ receivers) who part = refl

-- a part is sent
send_alike : {A B P : Type 0} (f : A → B) (c : Channel A P) (who : A) (part : P) →
    send_to (channel_by f c) (f who) part ≡ channel_served_by f (send_to c who part)
send_alike f c who part = by_closed c.is_closed
  where
    by_closed : (b : Bool) →
        (if b then record { channel = channel_by f c; granted = closed_resource (f who) ∷ [] }
        else pass_part (channel_by f c) (map f c.receivers) (f who) part)
        ≡ channel_served_by f (if b then record { channel = c; granted = closed_resource who ∷ [] } else pass_part c c.receivers who part)
    by_closed true = refl
    by_closed false = pass_alike f c c.receivers who part

-- the first of the buffer is received
take_alike : {A B P : Type 0} (f : A → B) (c : Channel A P) (part : P) (buffer : List P) (senders : List (Sender A P)) (who : A) →
    take_part (channel_by f c) part buffer (map (sender_by f) senders) (f who) ≡ channel_served_by f (take_part c part buffer senders who)
take_alike f c part buffer [] who = refl
take_alike f c part buffer (first ∷ senders) who = refl

-- who receives waits
await_alike : {A B P : Type 0} (f : A → B) (c : Channel A P) (who : A) →
    await_part (channel_by f c) (f who) ≡ channel_served_by f (await_part c who)
await_alike f c who = by_closed c.is_closed
  where
    by_closed : (b : Bool) →
        (if b then record { channel = channel_by f c; granted = end_of_channel (f who) ∷ [] }
        else record { channel = record (channel_by f c) { receivers = map f c.receivers ++ f who ∷ [] }; granted = [] })
        ≡ channel_served_by f (if b then record { channel = c; granted = end_of_channel who ∷ [] }
        else record { channel = record c { receivers = c.receivers ++ who ∷ [] }; granted = [] })
    by_closed true = refl
    by_closed false =
        ap (λ rs. record { channel = record (channel_by f c) { receivers = rs }; granted = [] }) (sym (map-append f c.receivers (who ∷ [])))

-- or meets a sender
meet_alike : {A B P : Type 0} (f : A → B) (c : Channel A P) (senders : List (Sender A P)) (who : A) →
    meet_sender (channel_by f c) (map (sender_by f) senders) (f who) ≡ channel_served_by f (meet_sender c senders who)
meet_alike f c [] who = await_alike f c who
meet_alike f c (first ∷ senders) who = refl

-- a part is asked for
receive_alike : {A B P : Type 0} (f : A → B) (c : Channel A P) (buffer : List P) (who : A) →
    receive_with (channel_by f c) buffer (f who) ≡ channel_served_by f (receive_with c buffer who)
receive_alike f c [] who = meet_alike f c c.senders who
receive_alike f c (part ∷ buffer) who = take_alike f c part buffer c.senders who

-- who waits is let go
refused_alike : {A B P : Type 0} (f : A → B) (senders : List (Sender A P)) →
    refuse_senders (map (sender_by f) senders) ≡ map (grant_by f) (refuse_senders senders)
refused_alike f [] = refl
refused_alike f (s ∷ senders) = ap (λ gs. closed_resource (f s.who) ∷ gs) (refused_alike f senders)

ended_alike : {A B P : Type 0} (f : A → B) (receivers : List A) →
    end_receivers {P = P} (map f receivers) ≡ map (grant_by f) (end_receivers receivers)
ended_alike f [] = refl
ended_alike f (who ∷ receivers) = ap (λ gs. end_of_channel (f who) ∷ gs) (ended_alike f receivers)

-- a channel is closed
close_alike : {A B P : Type 0} (f : A → B) (c : Channel A P) → close_of (channel_by f c) ≡ channel_served_by f (close_of c)
close_alike f c = ap (λ gs. record { channel = record (channel_by f c) { is_closed = true; senders = []; receivers = [] }; granted = gs }) both
  where
    both : refuse_senders (map (sender_by f) c.senders) ++ end_receivers (map f c.receivers)
        ≡ map (grant_by f) (refuse_senders c.senders ++ end_receivers c.receivers)
    both =
        ap (λ gs. gs ++ end_receivers (map f c.receivers)) (refused_alike f c.senders)
        ∙ (ap (λ gs. map (grant_by f) (refuse_senders c.senders) ++ gs) (ended_alike f c.receivers)
        ∙ sym (map-append (grant_by f) (refuse_senders c.senders) (end_receivers c.receivers)))

-- some leave the queues
left_alike : {A B P : Type 0} (f : A → B) (c : Channel A P) (stays : A → Bool) (others : B → Bool) → ((who : A) → others (f who) ≡ stays who) →
    channels.after_act (channel_by f c) (channels.leaves others) ≡ channel_served_by f (channels.after_act c (channels.leaves stays))
left_alike {B = B} {P = P} f c stays others same =
    ap (λ ss. with_queues ss (filter others (map f c.receivers)))
    (filter_alike (sender_by f) (λ s. stays s.who) (λ s. others s.who) (λ s. same s.who) c.senders)
    ∙ ap (λ rs. with_queues (map (sender_by f) (filter (λ s. stays s.who) c.senders)) rs) (filter_alike f stays others same c.receivers)
  where
    with_queues : List (Sender B P) → List B → ChannelServed B P
    with_queues senders receivers = record { channel = record (channel_by f c) { senders = senders; receivers = receivers }; granted = [] }

-- one act
channel_act_alike : {A B P : Type 0} (f : A → B) (c : Channel A P) (a : ChannelAct A P) (b : ChannelAct B P) → ChannelActsAlike f a b →
    channels.after_act (channel_by f c) b ≡ channel_served_by f (channels.after_act c a)
channel_act_alike f c (sends who part) (sends other same) e =
    ap (λ x. send_to (channel_by f c) x same) e.0 ∙ (ap (λ x. send_to (channel_by f c) (f who) x) e.1 ∙ send_alike f c who part)
channel_act_alike f c (receives who) (receives other) e =
    ap (λ x. receive_with (channel_by f c) c.buffer x) e ∙ receive_alike f c c.buffer who
channel_act_alike f c closes closes e = close_alike f c
channel_act_alike f c (channels.leaves stays) (channels.leaves others) e = left_alike f c stays others e
channel_act_alike f c (sends who part) (receives other) e = absurd e
channel_act_alike f c (sends who part) closes e = absurd e
channel_act_alike f c (sends who part) (channels.leaves others) e = absurd e
channel_act_alike f c (receives who) (sends other same) e = absurd e
channel_act_alike f c (receives who) closes e = absurd e
channel_act_alike f c (receives who) (channels.leaves others) e = absurd e
channel_act_alike f c closes (sends other same) e = absurd e
channel_act_alike f c closes (receives other) e = absurd e
channel_act_alike f c closes (channels.leaves others) e = absurd e
channel_act_alike f c (channels.leaves stays) (sends other same) e = absurd e
channel_act_alike f c (channels.leaves stays) (receives other) e = absurd e
channel_act_alike f c (channels.leaves stays) closes e = absurd e

-- a channel serves alike
pub channel_alike : {A B P : Type 0} (f : A → B) (c : Channel A P) (acts : List (ChannelAct A P)) (others : List (ChannelAct B P)) →
    AllChannelActsAlike f acts others → channels.after_acts (channel_by f c) others ≡ channel_served_by f (channels.after_acts c acts)
channel_alike f c [] [] e = refl
channel_alike f c [] (b ∷ others) e = absurd e
channel_alike f c (a ∷ acts) [] e = absurd e
channel_alike {A = A} {B = B} {P = P} f c (a ∷ acts) (b ∷ others) e =
    ap (λ s. then_served s (channels.after_acts s.channel others)) (channel_act_alike f c a b e.0)
    ∙ (ap (λ s. then_served (channel_served_by f first) s) (channel_alike f first.channel acts others e.1)
    ∙ ap (λ gs. record { channel = channel_by f rest.channel; granted = gs }) (sym (map-append (grant_by f) first.granted rest.granted)))
  where
    first : ChannelServed A P
    first = channels.after_act c a

    rest : ChannelServed A P
    rest = channels.after_acts first.channel acts

    then_served : ChannelServed B P → ChannelServed B P → ChannelServed B P
    then_served s t = record { channel = t.channel; granted = s.granted ++ t.granted }
