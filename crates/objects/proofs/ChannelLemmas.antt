-- How a channel serves acts, one after the other.
use Rattle.std.proofs.Common.{◌≡◌, ◌⊎◌, ℕ, ◌+◌, ◌<◌, ◌≤◌, List, [], ◌∷◌, ◌++◌, length, Bool, true, false, nat_lt, refl, ap, sym, ◌∙◌, inl, inr, arith, append_assoc, length-append}
use Rattle.std.proofs.lemmas.List.{append-nil}
use Rattle.std.proofs.lemmas.Bool.{ltb-true, ltb-false}
use Rattle.std.specs.Prelude.{IsTrue}
use Rattle.std.specs.List.{filter}
use Rattle.objects.specs.Channels.{Sender, Channel, ChannelAct, sends, receives, closes, leaves, Grant, sent, received, closed_resource, end_of_channel, ChannelServed, new_channel, put_part, pass_part, send_to, take_part, await_part, meet_sender, receive_with, refuse_senders, end_receivers, close_of, after_act, after_acts, parts_sent, parts_received, senders_of, senders_served, senders_waiting, receivers_of, receivers_served}
use Rattle.objects.specs.Laws.{IsSublist, none, NobodyIsLeft, ServesParts}
use Rattle.objects.proofs.Sublists.{sublist_same, sublist_filter, sublist_in_two}

-- a channel in which nobody waits in vain, and whose buffer has no more than its places
pub record IsSound {A P : Type 0} (c : Channel A P) : Type 0 where
  pub none_left : NobodyIsLeft c
  pub bounded : length c.buffer ≤ c.places

-- how a channel served some acts, whatever was done to it before
pub record ServesFrom {A P : Type 0} (c : Channel A P) (acts : List (ChannelAct A P)) (served : ChannelServed A P) : Type 0 where
  pub kept : c.buffer ++ parts_sent served.granted ≡ parts_received served.granted ++ served.channel.buffer
  pub places : served.channel.places ≡ c.places
  pub sound : IsSound served.channel
  pub senders : IsSublist (senders_served served.granted ++ senders_waiting served.channel.senders) (senders_waiting c.senders ++ senders_of acts)
  pub receivers : IsSublist (receivers_served served.granted ++ served.channel.receivers) (c.receivers ++ receivers_of acts)

waiting_append : {A P : Type 0} (ss ts : List (Sender A P)) → senders_waiting (ss ++ ts) ≡ senders_waiting ss ++ senders_waiting ts
waiting_append [] ts = refl
waiting_append (s ∷ ss) ts = ap (λ ws. s.who ∷ ws) (waiting_append ss ts)

no_senders : {A P : Type 0} (ss : List (Sender A P)) (n m : ℕ) → (ss ≡ []) ⊎ (n ≡ m) → n < m → ss ≡ []
no_senders ss n m (inl e) less = e
no_senders ss n m (inr e) less = absurd (omega (arith, e, less))

-- where the buffer has room, nobody waits to send
room_sound : {A P : Type 0} (places : ℕ) (buffer : List P) (senders : List (Sender A P)) (part : P) → senders ≡ [] → length buffer < places →
    IsSound {A = A} (record { places = places; buffer = buffer ++ part ∷ []; is_closed = false; senders = senders; receivers = [] })
room_sound places buffer senders part empty room =
    record {
      none_left = record { receivers = inl refl; senders = inl empty; closed = λ closed. absurd (cc) };
      bounded = let sum : length (buffer ++ part ∷ []) ≡ length buffer + 1 = length-append buffer (part ∷ []) in omega (arith, sum, room);
    }

full_sound : {A P : Type 0} (places : ℕ) (buffer : List P) (senders : List (Sender A P)) → length buffer ≤ places → places ≤ length buffer →
    IsSound {A = A} (record { places = places; buffer = buffer; is_closed = false; senders = senders; receivers = [] })
full_sound places buffer senders bounded full =
    record {
      none_left = record { receivers = inl refl; senders = inr (omega (arith, bounded, full)); closed = λ closed. absurd (cc) };
      bounded = bounded;
    }

-- a part for which nobody waits is put into the buffer, or its sender waits
put : {A P : Type 0} (places : ℕ) (buffer : List P) (senders : List (Sender A P)) (who : A) (part : P) (room : Bool) →
    nat_lt (length buffer) places ≡ room → length buffer ≤ places → (senders ≡ []) ⊎ (length buffer ≡ places) →
    ServesFrom {A = A} (record { places = places; buffer = buffer; is_closed = false; senders = senders; receivers = [] }) (sends who part ∷ [])
    (put_part (record { places = places; buffer = buffer; is_closed = false; senders = senders; receivers = [] }) who part)
put places buffer senders who part true e bounded full =
    let empty = no_senders senders (length buffer) places full (ltb-true (length buffer) places e) in
    rw e
    (record {
      kept = refl;
      places = refl;
      sound = room_sound places buffer senders part empty (ltb-true (length buffer) places e);
      senders = rw empty (sublist_same (who ∷ []));
      receivers = none;
    })
put places buffer senders who part false e bounded full =
    rw e
    (record {
      kept = append-nil buffer;
      places = refl;
      sound = full_sound places buffer (senders ++ record { who = who; part = part } ∷ []) bounded (ltb-false (length buffer) places e);
      senders = rw (waiting_append senders (record { who = who; part = part } ∷ [])) (sublist_same (senders_waiting senders ++ who ∷ []));
      receivers = none;
    })

-- a sender of an open channel
passed : {A P : Type 0} (places : ℕ) (buffer : List P) (senders : List (Sender A P)) (receivers : List A) (who : A) (part : P) →
    IsSound {A = A} (record { places = places; buffer = buffer; is_closed = false; senders = senders; receivers = receivers }) →
    ServesFrom {A = A} (record { places = places; buffer = buffer; is_closed = false; senders = senders; receivers = receivers })
    (sends who part ∷ [])
    (pass_part (record { places = places; buffer = buffer; is_closed = false; senders = senders; receivers = receivers }) receivers who part)
passed places buffer senders [] who part sound =
    put places buffer senders who part (nat_lt (length buffer) places) refl sound.bounded sound.none_left.senders
passed places buffer senders (first ∷ receivers) who part sound =
    elim sound.none_left.receivers [
      | inl e ↦ absurd (cc)
      | inr both ↦
          rw (both.0, both.1)
          (record {
            kept = refl;
            places = refl;
            sound = record {
              none_left = record { receivers = inr (refl, refl); senders = inl refl; closed = λ closed. absurd (cc) };
              bounded = omega arith;
            };
            senders = sublist_same (who ∷ []);
            receivers = rw (append-nil receivers) (sublist_same (first ∷ receivers));
          })
    ]

-- what is sent
sent_by : {A P : Type 0} (places : ℕ) (buffer : List P) (closed : Bool) (senders : List (Sender A P)) (receivers : List A) (who : A) (part : P) →
    IsSound {A = A} (record { places = places; buffer = buffer; is_closed = closed; senders = senders; receivers = receivers }) →
    ServesFrom {A = A} (record { places = places; buffer = buffer; is_closed = closed; senders = senders; receivers = receivers })
    (sends who part ∷ []) (send_to (record { places = places; buffer = buffer; is_closed = closed; senders = senders; receivers = receivers }) who part)
sent_by places buffer false senders receivers who part sound = passed places buffer senders receivers who part sound
sent_by places buffer true senders receivers who part sound =
    let nobody = sound.none_left.closed refl in
    record {
      kept = append-nil buffer;
      places = refl;
      sound = sound;
      senders = rw nobody.0 (sublist_same (who ∷ []));
      receivers = rw (append-nil receivers) (sublist_same receivers);
    }

-- who receives where there is no part
awaited : {A P : Type 0} (places : ℕ) (closed : Bool) (receivers : List A) (who : A) →
    IsSound {A = A} {P = P} (record { places = places; buffer = []; is_closed = closed; senders = []; receivers = receivers }) →
    ServesFrom {A = A} {P = P} (record { places = places; buffer = []; is_closed = closed; senders = []; receivers = receivers })
    (receives who ∷ []) (await_part (record { places = places; buffer = []; is_closed = closed; senders = []; receivers = receivers }) who)
awaited places false receivers who sound =
    record {
      kept = refl;
      places = refl;
      sound = record {
        none_left = record { receivers = inr (refl, refl); senders = inl refl; closed = λ closed. absurd (cc) };
        bounded = sound.bounded;
      };
      senders = none;
      receivers = sublist_same (receivers ++ who ∷ []);
    }
awaited places true receivers who sound =
    let nobody = sound.none_left.closed refl in
    record {
      kept = refl;
      places = refl;
      sound = sound;
      senders = none;
      receivers = rw nobody.1 (sublist_same (who ∷ []));
    }

-- where somebody waits to send, the channel is open, its buffer is full and nobody waits to receive
record HasSenders {A P : Type 0} (places : ℕ) (buffer : List P) (closed : Bool) (receivers : List A) : Type 0 where
  pub full : length buffer ≡ places
  pub opened : closed ≡ false
  pub empty : receivers ≡ []

is_open : (closed : Bool) → (IsTrue closed → ⊥) → closed ≡ false
is_open false never = refl
is_open true never = absurd (never refl)

has_senders : {A P : Type 0} (places : ℕ) (buffer : List P) (closed : Bool) (first : Sender A P) (senders : List (Sender A P)) (receivers : List A) →
    NobodyIsLeft (record { places = places; buffer = buffer; is_closed = closed; senders = first ∷ senders; receivers = receivers }) →
    HasSenders places buffer closed receivers
has_senders places buffer closed first senders receivers sound =
    record {
      full = elim sound.senders [ inl e ↦ absurd (cc) | inr full ↦ full ];
      opened = is_open closed (λ is. let nobody = (sound.closed is).0 in absurd (cc));
      empty = elim sound.receivers [ inl e ↦ e | inr both ↦ let nobody = both.1 in absurd (cc) ];
    }

-- who receives from a channel with nothing in its buffer
met : {A P : Type 0} (places : ℕ) (closed : Bool) (senders : List (Sender A P)) (receivers : List A) (who : A) →
    IsSound {A = A} {P = P} (record { places = places; buffer = []; is_closed = closed; senders = senders; receivers = receivers }) →
    ServesFrom {A = A} {P = P} (record { places = places; buffer = []; is_closed = closed; senders = senders; receivers = receivers })
    (receives who ∷ []) (meet_sender (record { places = places; buffer = []; is_closed = closed; senders = senders; receivers = receivers }) senders who)
met places closed [] receivers who sound = awaited places closed receivers who sound
met {P = P} places closed (first ∷ senders) receivers who sound =
    let has = has_senders {P = P} places [] closed first senders receivers sound.none_left in
    rw (has.opened, has.empty)
    (record {
      kept = refl;
      places = refl;
      sound = record {
        none_left = record { receivers = inl refl; senders = inr has.full; closed = λ closed. absurd (cc) };
        bounded = sound.bounded;
      };
      senders = rw (append-nil (senders_waiting senders)) (sublist_same (first.who ∷ senders_waiting senders));
      receivers = sublist_same (who ∷ []);
    })

no_receivers : {A P : Type 0} (places : ℕ) (part : P) (buffer : List P) (closed : Bool) (senders : List (Sender A P)) (receivers : List A) →
    NobodyIsLeft (record { places = places; buffer = part ∷ buffer; is_closed = closed; senders = senders; receivers = receivers }) → receivers ≡ []
no_receivers places part buffer closed senders receivers sound =
    elim sound.receivers [ inl e ↦ e | inr both ↦ let nothing = both.0 in absurd (cc) ]

-- who receives the first part of the buffer
taken : {A P : Type 0} (places : ℕ) (part : P) (buffer : List P) (closed : Bool) (senders : List (Sender A P)) (receivers : List A) (who : A) →
    IsSound {A = A} {P = P} (record { places = places; buffer = part ∷ buffer; is_closed = closed; senders = senders; receivers = receivers }) →
    ServesFrom {A = A} {P = P} (record { places = places; buffer = part ∷ buffer; is_closed = closed; senders = senders; receivers = receivers })
    (receives who ∷ [])
    (take_part (record { places = places; buffer = part ∷ buffer; is_closed = closed; senders = senders; receivers = receivers }) part buffer senders who)
taken places part buffer closed [] receivers who sound =
    let empty = no_receivers places part buffer closed [] receivers sound.none_left in
    record {
      kept = append-nil (part ∷ buffer);
      places = refl;
      sound = record {
        none_left = record { receivers = inl empty; senders = inl refl; closed = λ closed. (refl, empty) };
        bounded = let bounded = sound.bounded in omega (arith, bounded);
      };
      senders = none;
      receivers = rw empty (sublist_same (who ∷ []));
    }
taken places part buffer closed (first ∷ senders) receivers who sound =
    let has = has_senders places (part ∷ buffer) closed first senders receivers sound.none_left in
    let sum : length (buffer ++ first.part ∷ []) ≡ length buffer + 1 = length-append buffer (first.part ∷ []) in
    let full : length (buffer ++ first.part ∷ []) ≡ places = let was = has.full in omega (arith, sum, was) in
    rw (has.opened, has.empty)
    (record {
      kept = refl;
      places = refl;
      sound = record {
        none_left = record { receivers = inl refl; senders = inr full; closed = λ closed. absurd (cc) };
        bounded = omega (arith, full);
      };
      senders = rw (append-nil (senders_waiting senders)) (sublist_same (first.who ∷ senders_waiting senders));
      receivers = sublist_same (who ∷ []);
    })

received_from : {A P : Type 0} (places : ℕ) (buffer : List P) (closed : Bool) (senders : List (Sender A P)) (receivers : List A) (who : A) →
    IsSound {A = A} {P = P} (record { places = places; buffer = buffer; is_closed = closed; senders = senders; receivers = receivers }) →
    ServesFrom {A = A} {P = P} (record { places = places; buffer = buffer; is_closed = closed; senders = senders; receivers = receivers })
    (receives who ∷ [])
    (receive_with (record { places = places; buffer = buffer; is_closed = closed; senders = senders; receivers = receivers }) buffer who)
received_from places [] closed senders receivers who sound = met places closed senders receivers who sound
received_from places (part ∷ buffer) closed senders receivers who sound = taken places part buffer closed senders receivers who sound

-- what is granted where a channel is closed
record IsLetGo {A P : Type 0} (granted : List (Grant A P)) (refused ended : List A) : Type 0 where
  pub sent : parts_sent granted ≡ []
  pub received : parts_received granted ≡ []
  pub senders : senders_served granted ≡ refused
  pub receivers : receivers_served granted ≡ ended

receivers_let_go : {A P : Type 0} (receivers : List A) → IsLetGo {P = P} (end_receivers receivers) [] receivers
receivers_let_go [] = record { sent = refl; received = refl; senders = refl; receivers = refl }
receivers_let_go {P = P} (who ∷ receivers) =
    let rest = receivers_let_go {P = P} receivers in
    record { sent = rest.sent; received = rest.received; senders = rest.senders; receivers = ap (λ ws. who ∷ ws) rest.receivers }

all_let_go : {A P : Type 0} (senders : List (Sender A P)) (receivers : List A) →
    IsLetGo (refuse_senders senders ++ end_receivers receivers) (senders_waiting senders) receivers
all_let_go {P = P} [] receivers = receivers_let_go {P = P} receivers
all_let_go (sender ∷ senders) receivers =
    let rest = all_let_go senders receivers in
    record { sent = rest.sent; received = rest.received; senders = ap (λ ws. sender.who ∷ ws) rest.senders; receivers = rest.receivers }

-- a channel is closed
closed_now : {A P : Type 0} (c : Channel A P) → IsSound c → ServesFrom c (closes ∷ []) (close_of c)
closed_now c sound =
    let let_go = all_let_go c.senders c.receivers in
    record {
      kept = rw (let_go.sent, let_go.received) (append-nil c.buffer);
      places = refl;
      sound = record {
        none_left = record { receivers = inl refl; senders = inl refl; closed = λ closed. (refl, refl) };
        bounded = sound.bounded;
      };
      senders = rw (let_go.senders) (sublist_same (senders_waiting c.senders ++ []));
      receivers = rw (let_go.receivers) (sublist_same (c.receivers ++ []));
    }

waiting_filter : {A P : Type 0} (stays : A → Bool) (senders : List (Sender A P)) →
    senders_waiting (filter (λ s. stays s.who) senders) ≡ filter stays (senders_waiting senders)
waiting_filter stays [] = refl
waiting_filter stays (s ∷ ss) = at_first stays s ss (stays s.who) refl (waiting_filter stays ss)
  where
    at_first : {A P : Type 0} (stays : A → Bool) (s : Sender A P) (ss : List (Sender A P)) (b : Bool) → stays s.who ≡ b →
        senders_waiting (filter (λ s. stays s.who) ss) ≡ filter stays (senders_waiting ss) →
        senders_waiting (filter (λ s. stays s.who) (s ∷ ss)) ≡ filter stays (s.who ∷ senders_waiting ss)
    at_first stays s ss true e same = rw e (ap (λ ws. s.who ∷ ws) same)
    at_first stays s ss false e same = rw e same

-- nobody stays where nobody was
none_stays : {X : Type 0} (stays : X → Bool) (xs : List X) → xs ≡ [] → filter stays xs ≡ []
none_stays stays xs e = rw e refl

-- some leave the queues
left : {A P : Type 0} (c : Channel A P) (stays : A → Bool) → IsSound c → ServesFrom c (leaves stays ∷ []) (after_act c (leaves stays))
left c stays sound =
    let were = sound.none_left in
    let no_senders = none_stays (λ s. stays s.who) c.senders in
    let no_receivers = none_stays stays c.receivers in
    record {
      kept = append-nil c.buffer;
      places = refl;
      sound = record {
        none_left = record {
          receivers = elim were.receivers [ inl e ↦ inl (no_receivers e) | inr both ↦ inr (both.0, no_senders both.1) ];
          senders = elim were.senders [ inl e ↦ inl (no_senders e) | inr full ↦ inr full ];
          closed = λ is. (no_senders (were.closed is).0, no_receivers (were.closed is).1);
        };
        bounded = sound.bounded;
      };
      senders = rw (waiting_filter stays c.senders, append-nil (senders_waiting c.senders)) (sublist_filter stays (senders_waiting c.senders));
      receivers = rw (append-nil c.receivers) (sublist_filter stays c.receivers);
    }

one_act : {A P : Type 0} (c : Channel A P) (act : ChannelAct A P) → IsSound c → ServesFrom c (act ∷ []) (after_act c act)
one_act c (sends who part) sound = sent_by c.places c.buffer c.is_closed c.senders c.receivers who part sound
one_act c (receives who) sound = received_from c.places c.buffer c.is_closed c.senders c.receivers who sound
one_act c closes sound = closed_now c sound
one_act c (leaves stays) sound = left c stays sound

-- what a list of grants shows, in two parts
record InTwo {A P : Type 0} (now later : List (Grant A P)) : Type 0 where
  pub sent : parts_sent (now ++ later) ≡ parts_sent now ++ parts_sent later
  pub received : parts_received (now ++ later) ≡ parts_received now ++ parts_received later
  pub senders : senders_served (now ++ later) ≡ senders_served now ++ senders_served later
  pub receivers : receivers_served (now ++ later) ≡ receivers_served now ++ receivers_served later

granted_in_two : {A P : Type 0} (now later : List (Grant A P)) → InTwo now later
granted_in_two [] later = record { sent = refl; received = refl; senders = refl; receivers = refl }
granted_in_two (sent who part ∷ now) later =
    let rest = granted_in_two now later in
    record {
      sent = ap (λ ps. part ∷ ps) rest.sent;
      received = rest.received;
      senders = ap (λ ws. who ∷ ws) rest.senders;
      receivers = rest.receivers;
    }
granted_in_two (received who part ∷ now) later =
    let rest = granted_in_two now later in
    record {
      sent = rest.sent;
      received = ap (λ ps. part ∷ ps) rest.received;
      senders = rest.senders;
      receivers = ap (λ ws. who ∷ ws) rest.receivers;
    }
granted_in_two (closed_resource who ∷ now) later =
    let rest = granted_in_two now later in
    record { sent = rest.sent; received = rest.received; senders = ap (λ ws. who ∷ ws) rest.senders; receivers = rest.receivers }
granted_in_two (end_of_channel who ∷ now) later =
    let rest = granted_in_two now later in
    record { sent = rest.sent; received = rest.received; senders = rest.senders; receivers = ap (λ ws. who ∷ ws) rest.receivers }

senders_in_two : {A P : Type 0} (act : ChannelAct A P) (acts : List (ChannelAct A P)) → senders_of (act ∷ acts) ≡ senders_of (act ∷ []) ++ senders_of acts
senders_in_two (sends who part) acts = refl
senders_in_two (receives who) acts = refl
senders_in_two closes acts = refl
senders_in_two (leaves stays) acts = refl

receivers_in_two : {A P : Type 0} (act : ChannelAct A P) (acts : List (ChannelAct A P)) →
    receivers_of (act ∷ acts) ≡ receivers_of (act ∷ []) ++ receivers_of acts
receivers_in_two (sends who part) acts = refl
receivers_in_two (receives who) acts = refl
receivers_in_two closes acts = refl
receivers_in_two (leaves stays) acts = refl

-- what was kept by a first act and by the later ones
kept_in_two : {P : Type 0} (were sent_now received_now are sent_later received_later left : List P) → were ++ sent_now ≡ received_now ++ are →
    are ++ sent_later ≡ received_later ++ left → were ++ (sent_now ++ sent_later) ≡ (received_now ++ received_later) ++ left
kept_in_two were sent_now received_now are sent_later received_later left now later =
    sym (append_assoc were sent_now sent_later)
    ∙ ap (λ ps. ps ++ sent_later) now
    ∙ append_assoc received_now are sent_later
    ∙ ap (λ ps. received_now ++ ps) later
    ∙ sym (append_assoc received_now received_later left)

all_acts : {A P : Type 0} (c : Channel A P) (acts : List (ChannelAct A P)) → IsSound c → ServesFrom c acts (after_acts c acts)
all_acts c [] sound =
    record {
      kept = append-nil c.buffer;
      places = refl;
      sound = sound;
      senders = rw (append-nil (senders_waiting c.senders)) (sublist_same (senders_waiting c.senders));
      receivers = rw (append-nil c.receivers) (sublist_same c.receivers);
    }
all_acts c (act ∷ acts) sound =
    let first = after_act c act in
    let now = one_act c act sound in
    let later = all_acts first.channel acts now.sound in
    let rest = after_acts first.channel acts in
    let two = granted_in_two first.granted rest.granted in
    record {
      kept =
          rw (two.sent, two.received)
          (kept_in_two c.buffer (parts_sent first.granted) (parts_received first.granted) first.channel.buffer (parts_sent rest.granted)
          (parts_received rest.granted) rest.channel.buffer now.kept later.kept);
      places = later.places ∙ now.places;
      sound = later.sound;
      senders =
          rw (two.senders, senders_in_two act acts, ← append_assoc (senders_waiting c.senders) (senders_of (act ∷ [])) (senders_of acts))
          (sublist_in_two (senders_served first.granted) (senders_waiting first.channel.senders) (senders_served rest.granted)
          (senders_waiting rest.channel.senders) (senders_waiting c.senders ++ senders_of (act ∷ [])) (senders_of acts) now.senders later.senders);
      receivers =
          rw (two.receivers, receivers_in_two act acts, ← append_assoc c.receivers (receivers_of (act ∷ [])) (receivers_of acts))
          (sublist_in_two (receivers_served first.granted) first.channel.receivers (receivers_served rest.granted) rest.channel.receivers
          (c.receivers ++ receivers_of (act ∷ [])) (receivers_of acts) now.receivers later.receivers);
    }

pub channels_serve : {A P : Type 0} (places : ℕ) (acts : List (ChannelAct A P)) → ServesParts places acts (after_acts (new_channel places) acts)
channels_serve {A} {P} places acts =
    let new : IsSound {A = A} {P = P} (new_channel places) =
    record {
      none_left = record { receivers = inl refl; senders = inl refl; closed = λ is. (refl, refl) };
      bounded = omega arith;
    } in
    let served = all_acts (new_channel places) acts new in
    let bounded = served.sound.bounded in
    let same = served.places in
    record {
      kept = served.kept;
      bounded = omega (arith, bounded, same);
      none_left = served.sound.none_left;
      senders_in_turn = served.senders;
      receivers_in_turn = served.receivers;
    }
