-- Limiters and channels grant something to who asked, and to each at most as often as it asked: who was granted something is in no queue.
use Rattle.std.proofs.Common.{◌≡◌, ℕ, zero, suc, ◌+◌, ◌≤◌, Bool, true, false, List, [], ◌∷◌, ◌++◌, map, length, refl, ap, ◌∙◌, arith, nat_lt, if◌then◌else◌}
use Rattle.std.specs.List.{filter}
use Rattle.job_tree.specs.declared.object.Ask.TheVariants.{Acquire, Send, Receive}
use Rattle.job_tree.specs.declared.object.ObjectKind.{ObjectKind}
use Rattle.job_tree.specs.declared.object.ObjectKind.TheVariants as kinds
use Rattle.input_lines.specs.Lines.{Range}
use Rattle.exceptions.specs.Exceptions.{Label}
use Rattle.objects.specs.Limiters as limiters
use Rattle.objects.specs.Limiters.{Limiter, LimiterAct, acquires, gives_back, acquire_of, give_back_to}
use Rattle.objects.specs.Channels as channels
use Rattle.objects.specs.Channels.{Sender, Channel, ChannelAct, sends, receives, closes, Grant, sent, received, closed_resource, end_of_channel, ChannelServed, put_part, pass_part, send_to, take_part, await_part, meet_sender, receive_with, refuse_senders, end_receivers, close_of}
use Rattle.job_meaning.specs.Log.{Act, opens, asks, closes as closes_it, gives_back as gives_it_back}
use Rattle.job_meaning.specs.Sharing as sharing
use Rattle.job_meaning.specs.Sharing.{Done, Asker, Given, Object, unopened, a_limiter, a_channel, asker_of, stays_at, serve_act, serve_acts}
use Rattle.run_refinement.specs.Sharing.{object_after}

-- ---- lists

abbrev pub one_if : Bool → ℕ
one_if true = 1
one_if false = 0

-- how many of a list pass a test
abbrev pub count : {A : Type 0} → (A → Bool) → List A → ℕ
count p [] = 0
count p (x ∷ xs) = one_if (p x) + count p xs

pub count_append : {A : Type 0} (p : A → Bool) (xs ys : List A) → count p (xs ++ ys) ≡ count p xs + count p ys
count_append p [] ys = omega arith
count_append p (x ∷ xs) ys = let h : count p (xs ++ ys) ≡ count p xs + count p ys = count_append p xs ys in omega (arith, h)

pub count_filter : {A : Type 0} (p q : A → Bool) (xs : List A) → count p (filter q xs) ≤ count p xs
count_filter p q [] = omega arith
count_filter {A} p q (x ∷ xs) = by_test (q x) refl (count_filter p q xs)
  where
    by_test : (b : Bool) → q x ≡ b → count p (filter q xs) ≤ count p xs → count p (filter q (x ∷ xs)) ≤ one_if (p x) + count p xs
    by_test true e h = rw e (omega (arith, h))
    by_test false e h = rw e (omega (arith, h))

pub count_map : {A B : Type 0} (f : A → B) (p : B → Bool) (xs : List A) → count p (map f xs) ≡ count (λ x. p (f x)) xs
count_map f p [] = refl
count_map f p (x ∷ xs) = ap (λ (n : ℕ). one_if (p (f x)) + n) (count_map f p xs)

-- ---- limiters

abbrev asked_of_limiter : {A : Type 0} → LimiterAct A → List A
asked_of_limiter (acquires who) = who ∷ []
asked_of_limiter gives_back = []
asked_of_limiter (limiters.leaves stays) = []

abbrev asked_of_limiters : {A : Type 0} → List (LimiterAct A) → List A
asked_of_limiters [] = []
asked_of_limiters (a ∷ acts) = asked_of_limiter a ++ asked_of_limiters acts

limiter_counts : {A : Type 0} (p : A → Bool) (l : Limiter A) (a : LimiterAct A) →
    count p (limiters.after_act l a).limiter.waiting + count p (limiters.after_act l a).granted ≤ count p l.waiting + count p (asked_of_limiter a)
limiter_counts p l (acquires who) = by_free l.free
  where
    by_free : (n : ℕ) → count p (acquire_of n l.waiting who).limiter.waiting + count p (acquire_of n l.waiting who).granted
        ≤ count p l.waiting + (one_if (p who) + 0)
    by_free zero = let h : count p (l.waiting ++ who ∷ []) ≡ count p l.waiting + (one_if (p who) + 0) = count_append p l.waiting (who ∷ []) in omega (arith, h)
    by_free (suc n) = omega arith
limiter_counts p l gives_back = by_queue l.waiting
  where
    by_queue : (ws : List _) → count p (give_back_to l.free ws).limiter.waiting + count p (give_back_to l.free ws).granted ≤ count p ws + 0
    by_queue [] = omega arith
    by_queue (first ∷ ws) = omega arith
limiter_counts p l (limiters.leaves stays) = let h : count p (filter stays l.waiting) ≤ count p l.waiting = count_filter p stays l.waiting in omega (arith, h)

pub limiters_count : {A : Type 0} (p : A → Bool) (l : Limiter A) (acts : List (LimiterAct A)) →
    count p (limiters.after_acts l acts).limiter.waiting + count p (limiters.after_acts l acts).granted ≤ count p l.waiting + count p (asked_of_limiters acts)
limiters_count p l [] = omega arith
limiters_count p l (a ∷ acts) =
    let first = limiters.after_act l a in
    let rest = limiters.after_acts first.limiter acts in
    let one : count p first.limiter.waiting + count p first.granted ≤ count p l.waiting + count p (asked_of_limiter a) = limiter_counts p l a in
    let more : count p rest.limiter.waiting + count p rest.granted ≤ count p first.limiter.waiting + count p (asked_of_limiters acts) =
    limiters_count p first.limiter acts in
    let both : count p (first.granted ++ rest.granted) ≡ count p first.granted + count p rest.granted = count_append p first.granted rest.granted in
    let all : count p (asked_of_limiter a ++ asked_of_limiters acts) ≡ count p (asked_of_limiter a) + count p (asked_of_limiters acts) =
    count_append p (asked_of_limiter a) (asked_of_limiters acts) in
    omega (arith, one, more, both, all)

-- ---- channels

abbrev pub sender_passes : {A P : Type 0} → (A → Bool) → Sender A P → Bool
sender_passes p s = p s.who

abbrev pub who_of : {A P : Type 0} → Grant A P → A
who_of (sent who part) = who
who_of (received who part) = who
who_of (closed_resource who) = who
who_of (end_of_channel who) = who

abbrev pub grant_passes : {A P : Type 0} → (A → Bool) → Grant A P → Bool
grant_passes p g = p (who_of g)

abbrev pub in_channel : {A P : Type 0} → (A → Bool) → Channel A P → ℕ
in_channel p c = count (sender_passes p) c.senders + count p c.receivers

abbrev asked_of_channel : {A P : Type 0} → ChannelAct A P → List A
asked_of_channel (sends who part) = who ∷ []
asked_of_channel (receives who) = who ∷ []
asked_of_channel closes = []
asked_of_channel (channels.leaves stays) = []

abbrev asked_of_channels : {A P : Type 0} → List (ChannelAct A P) → List A
asked_of_channels [] = []
asked_of_channels (a ∷ acts) = asked_of_channel a ++ asked_of_channels acts

-- nobody is counted who did not ask
abbrev Counts : {A P : Type 0} → (A → Bool) → ChannelServed A P → ℕ → Type 0
Counts p s n = in_channel p s.channel + count (grant_passes p) s.granted ≤ n

put_counts : {A P : Type 0} (p : A → Bool) (c : Channel A P) (who : A) (part : P) → Counts p (put_part c who part) (in_channel p c + (one_if (p who) + 0))
put_counts {A} {P} p c who part = by_room (nat_lt (length c.buffer) c.places)
  where
    by_room : (b : Bool) → Counts p (if b then record { channel = record c { buffer = c.buffer ++ part ∷ [] }; granted = sent who part ∷ [] }
        else record { channel = record c { senders = c.senders ++ record { who = who; part = part } ∷ [] }; granted = [] })
        (in_channel p c + (one_if (p who) + 0))
    by_room true = omega arith
    by_room false =
        let h : count (sender_passes p) (c.senders ++ record { who = who; part = part } ∷ []) ≡ count (sender_passes p) c.senders + (one_if (p who) + 0) =
        count_append (sender_passes p) c.senders (record { who = who; part = part } ∷ []) in
        omega (arith, h)

pass_counts : {A P : Type 0} (p : A → Bool) (c : Channel A P) (rs : List A) (who : A) (part : P) → c.receivers ≡ rs →
    Counts p (pass_part c rs who part) (in_channel p c + (one_if (p who) + 0))
pass_counts p c [] who part e = put_counts p c who part
pass_counts p c (first ∷ rs) who part e =
    let h : count p c.receivers ≡ one_if (p first) + count p rs = ap (count p) e in omega (arith, h)

send_counts : {A P : Type 0} (p : A → Bool) (c : Channel A P) (who : A) (part : P) → Counts p (send_to c who part) (in_channel p c + (one_if (p who) + 0))
send_counts p c who part = by_closed c.is_closed
  where
    by_closed : (b : Bool) → Counts p (if b then record { channel = c; granted = closed_resource who ∷ [] } else pass_part c c.receivers who part)
        (in_channel p c + (one_if (p who) + 0))
    by_closed true = omega arith
    by_closed false = pass_counts p c c.receivers who part refl

take_counts : {A P : Type 0} (p : A → Bool) (c : Channel A P) (part : P) (buffer : List P) (ss : List (Sender A P)) (who : A) → c.senders ≡ ss →
    Counts p (take_part c part buffer ss who) (in_channel p c + (one_if (p who) + 0))
take_counts p c part buffer [] who e = omega arith
take_counts p c part buffer (first ∷ ss) who e =
    let h : count (sender_passes p) c.senders ≡ one_if (p first.who) + count (sender_passes p) ss = ap (count (sender_passes p)) e in omega (arith, h)

await_counts : {A P : Type 0} (p : A → Bool) (c : Channel A P) (who : A) → Counts p (await_part c who) (in_channel p c + (one_if (p who) + 0))
await_counts p c who = by_closed c.is_closed
  where
    by_closed : (b : Bool) → Counts p (if b then record { channel = c; granted = end_of_channel who ∷ [] }
        else record { channel = record c { receivers = c.receivers ++ who ∷ [] }; granted = [] }) (in_channel p c + (one_if (p who) + 0))
    by_closed true = omega arith
    by_closed false =
        let h : count p (c.receivers ++ who ∷ []) ≡ count p c.receivers + (one_if (p who) + 0) = count_append p c.receivers (who ∷ []) in omega (arith, h)

meet_counts : {A P : Type 0} (p : A → Bool) (c : Channel A P) (ss : List (Sender A P)) (who : A) → c.senders ≡ ss →
    Counts p (meet_sender c ss who) (in_channel p c + (one_if (p who) + 0))
meet_counts p c [] who e = await_counts p c who
meet_counts p c (first ∷ ss) who e =
    let h : count (sender_passes p) c.senders ≡ one_if (p first.who) + count (sender_passes p) ss = ap (count (sender_passes p)) e in omega (arith, h)

receive_counts : {A P : Type 0} (p : A → Bool) (c : Channel A P) (buffer : List P) (who : A) →
    Counts p (receive_with c buffer who) (in_channel p c + (one_if (p who) + 0))
receive_counts p c [] who = meet_counts p c c.senders who refl
receive_counts p c (part ∷ buffer) who = take_counts p c part buffer c.senders who refl

refused_count : {A P : Type 0} (p : A → Bool) (ss : List (Sender A P)) → count (grant_passes p) (refuse_senders ss) ≡ count (sender_passes p) ss
refused_count p [] = refl
refused_count p (s ∷ ss) = ap (λ (n : ℕ). one_if (p s.who) + n) (refused_count p ss)

ended_count : {A : Type 0} (P : Type 0) (p : A → Bool) (rs : List A) → count (grant_passes p) (end_receivers {P = P} rs) ≡ count p rs
ended_count P p [] = refl
ended_count P p (r ∷ rs) = ap (λ (n : ℕ). one_if (p r) + n) (ended_count P p rs)

channel_counts : {A P : Type 0} (p : A → Bool) (c : Channel A P) (a : ChannelAct A P) →
    Counts p (channels.after_act c a) (in_channel p c + count p (asked_of_channel a))
channel_counts p c (sends who part) = send_counts p c who part
channel_counts p c (receives who) = receive_counts p c c.buffer who
channel_counts {P = P} p c closes =
    let h : count (grant_passes p) (refuse_senders c.senders ++ end_receivers c.receivers)
    ≡ count (grant_passes p) (refuse_senders c.senders) + count (grant_passes p) (end_receivers {P = P} c.receivers) =
    count_append (grant_passes p) (refuse_senders c.senders) (end_receivers c.receivers) in
    let a : count (grant_passes p) (refuse_senders c.senders) ≡ count (sender_passes p) c.senders = refused_count p c.senders in
    let b : count (grant_passes p) (end_receivers {P = P} c.receivers) ≡ count p c.receivers = ended_count P p c.receivers in
    omega (arith, h, a, b)
channel_counts p c (channels.leaves stays) =
    let a : count (sender_passes p) (filter (λ s. stays s.who) c.senders) ≤ count (sender_passes p) c.senders =
    count_filter (sender_passes p) (λ s. stays s.who) c.senders in
    let b : count p (filter stays c.receivers) ≤ count p c.receivers = count_filter p stays c.receivers in
    omega (arith, a, b)

pub channels_count : {A P : Type 0} (p : A → Bool) (c : Channel A P) (acts : List (ChannelAct A P)) →
    Counts p (channels.after_acts c acts) (in_channel p c + count p (asked_of_channels acts))
channels_count p c [] = omega arith
channels_count p c (a ∷ acts) =
    let first = channels.after_act c a in
    let rest = channels.after_acts first.channel acts in
    let one : in_channel p first.channel + count (grant_passes p) first.granted ≤ in_channel p c + count p (asked_of_channel a) = channel_counts p c a in
    let more : in_channel p rest.channel + count (grant_passes p) rest.granted ≤ in_channel p first.channel + count p (asked_of_channels acts) =
    channels_count p first.channel acts in
    let both : count (grant_passes p) (first.granted ++ rest.granted) ≡ count (grant_passes p) first.granted + count (grant_passes p) rest.granted =
    count_append (grant_passes p) first.granted rest.granted in
    let all : count p (asked_of_channel a ++ asked_of_channels acts) ≡ count p (asked_of_channel a) + count p (asked_of_channels acts) =
    count_append p (asked_of_channel a) (asked_of_channels acts) in
    omega (arith, one, more, both, all)

-- ---- objects

abbrev pub in_object : (Asker → Bool) → Object → ℕ
in_object p unopened = 0
in_object p (a_limiter l) = count p l.waiting
in_object p (a_channel c) = in_channel p c

abbrev pub asker_in : Done → Act → List Asker
asker_in d (asks ask part left) = asker_of d left ∷ []
asker_in d _ = []

-- who asked, by acts
abbrev pub askers_in : List Done → List Asker
askers_in [] = []
askers_in (d ∷ ds) = asker_in d d.act ++ askers_in ds

-- a test of who was given something, by the task and the moment in which it asked
abbrev pub of_asker : (Label → ℕ → Bool) → Asker → Bool
of_asker p a = p a.task a.at

abbrev pub of_given : (Label → ℕ → Bool) → Given → Bool
of_given p g = p g.task g.asked

limiter_asked : (p : Asker → Bool) (d : Done) (a : Act) → count p (asked_of_limiters (sharing.limiter_acts d a)) ≤ count p (asker_in d a)
limiter_asked p d (opens kind) = omega arith
limiter_asked p d (asks Acquire part left) = omega arith
limiter_asked p d (asks Send part left) = omega arith
limiter_asked p d (asks Receive part left) = omega arith
limiter_asked p d gives_it_back = omega arith
limiter_asked p d closes_it = omega arith

channel_asked : (p : Asker → Bool) (d : Done) (a : Act) → count p (asked_of_channels (sharing.channel_acts d a)) ≤ count p (asker_in d a)
channel_asked p d (opens kind) = omega arith
channel_asked p d (asks Acquire part left) = omega arith
channel_asked p d (asks Send part left) = omega arith
channel_asked p d (asks Receive part left) = omega arith
channel_asked p d gives_it_back = omega arith
channel_asked p d closes_it = omega arith

tokens_given : (p : Label → ℕ → Bool) (m : ℕ) (who : List Asker) → count (of_given p) (map (λ x. sharing.given_at m x sharing.a_token) who) ≡ count (of_asker p) who
tokens_given p m [] = refl
tokens_given p m (x ∷ who) = ap (λ (n : ℕ). one_if (p x.task x.at) + n) (tokens_given p m who)

grant_given : (p : Label → ℕ → Bool) (m : ℕ) (g : Grant Asker Range) → of_given p (sharing.given_by m g) ≡ of_asker p (who_of g)
grant_given p m (sent who part) = refl
grant_given p m (received who part) = refl
grant_given p m (closed_resource who) = refl
grant_given p m (end_of_channel who) = refl

grants_given : (p : Label → ℕ → Bool) (m : ℕ) (gs : List (Grant Asker Range)) →
    count (of_given p) (map (sharing.given_by m) gs) ≡ count (grant_passes (of_asker p)) gs
grants_given p m [] = refl
grants_given p m (g ∷ gs) =
    ap (λ (b : Bool). one_if b + count (of_given p) (map (sharing.given_by m) gs)) (grant_given p m g)
    ∙ ap (λ (n : ℕ). one_if (of_asker p (who_of g)) + n) (grants_given p m gs)

-- an act: by the queues alone, and by what was given too
pub act_counts : (p : Asker → Bool) (o : Object) (d : Done) → in_object p (serve_act o d).object ≤ in_object p o + count p (asker_in d d.act)
act_counts p unopened d = of_opening d.act
  where
    of_opening : (a : Act) → in_object p (sharing.opened_by a).object ≤ 0 + count p (asker_in d a)
    of_opening (asks ask part left) = omega arith
    of_opening (opens kind) = of_kind kind
      where
        of_kind : (kind : ObjectKind) → in_object p (sharing.object_of kind) ≤ 0 + 0
        of_kind (kinds.Limiter n) = omega arith
        of_kind (kinds.Channel n) = omega arith
    of_opening gives_it_back = omega arith
    of_opening closes_it = omega arith
act_counts p (a_limiter l) d =
    let h = limiters_count p l (limiters.leaves (stays_at d.at) ∷ sharing.limiter_acts d d.act) in
    let a = limiter_asked p d d.act in
    omega (arith, h, a)
act_counts p (a_channel c) d =
    let h = channels_count p c (channels.leaves (stays_at d.at) ∷ sharing.channel_acts d d.act) in
    let a = channel_asked p d d.act in
    omega (arith, h, a)

pub act_gives : (p : Label → ℕ → Bool) (o : Object) (d : Done) →
    in_object (of_asker p) (serve_act o d).object + count (of_given p) (serve_act o d).given ≤ in_object (of_asker p) o + count (of_asker p) (asker_in d d.act)
act_gives p unopened d = let h = act_counts (of_asker p) unopened d in of_opening d.act h
  where
    of_opening : (a : Act) → in_object (of_asker p) (sharing.opened_by a).object ≤ 0 + count (of_asker p) (asker_in d a) →
        in_object (of_asker p) (sharing.opened_by a).object + count (of_given p) (sharing.opened_by a).given ≤ 0 + count (of_asker p) (asker_in d a)
    of_opening (asks ask part left) h = omega (arith, h)
    of_opening (opens kind) h = omega (arith, h)
    of_opening gives_it_back h = omega (arith, h)
    of_opening closes_it h = omega (arith, h)
act_gives p (a_limiter l) d =
    let acts = limiters.leaves (stays_at d.at) ∷ sharing.limiter_acts d d.act in
    let h = limiters_count (of_asker p) l acts in
    let a = limiter_asked (of_asker p) d d.act in
    let b = tokens_given p d.at (limiters.after_acts l acts).granted in
    omega (arith, h, a, b)
act_gives p (a_channel c) d =
    let acts = channels.leaves (stays_at d.at) ∷ sharing.channel_acts d d.act in
    let h = channels_count (of_asker p) c acts in
    let a = channel_asked (of_asker p) d d.act in
    let b = grants_given p d.at (channels.after_acts c acts).granted in
    omega (arith, h, a, b)

-- and of acts, one after the other
pub acts_count : (p : Asker → Bool) (o : Object) (ds : List Done) → in_object p (object_after o ds) ≤ in_object p o + count p (askers_in ds)
acts_count p o [] = omega arith
acts_count p o (d ∷ ds) =
    let h : in_object p (serve_act o d).object ≤ in_object p o + count p (asker_in d d.act) = act_counts p o d in
    let k : in_object p (object_after (serve_act o d).object ds) ≤ in_object p (serve_act o d).object + count p (askers_in ds) =
    acts_count p (serve_act o d).object ds in
    let a : count p (asker_in d d.act ++ askers_in ds) ≡ count p (asker_in d d.act) + count p (askers_in ds) = count_append p (asker_in d d.act) (askers_in ds) in
    omega (arith, h, k, a)

pub acts_give : (p : Label → ℕ → Bool) (o : Object) (ds : List Done) →
    in_object (of_asker p) (object_after o ds) + count (of_given p) (serve_acts o ds) ≤ in_object (of_asker p) o + count (of_asker p) (askers_in ds)
acts_give p o [] = omega arith
acts_give p o (d ∷ ds) =
    let first = serve_act o d in
    let h : in_object (of_asker p) first.object + count (of_given p) first.given ≤ in_object (of_asker p) o + count (of_asker p) (asker_in d d.act) = act_gives p o d in
    let k : in_object (of_asker p) (object_after first.object ds) + count (of_given p) (serve_acts first.object ds)
    ≤ in_object (of_asker p) first.object + count (of_asker p) (askers_in ds) = acts_give p first.object ds in
    let a : count (of_asker p) (asker_in d d.act ++ askers_in ds) ≡ count (of_asker p) (asker_in d d.act) + count (of_asker p) (askers_in ds) =
    count_append (of_asker p) (asker_in d d.act) (askers_in ds) in
    let b : count (of_given p) (first.given ++ serve_acts first.object ds) ≡ count (of_given p) first.given + count (of_given p) (serve_acts first.object ds) =
    count_append (of_given p) first.given (serve_acts first.object ds) in
    omega (arith, h, k, a, b)
