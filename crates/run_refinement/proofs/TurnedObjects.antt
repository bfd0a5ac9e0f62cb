-- An object of the code and one of the definitions, after some left the queues in both.
use Rattle.std.proofs.Common.{◌≡◌, ℕ, Bool, true, false, ◌&&◌, Option, Some, None, List, [], ◌∷◌, map, refl, ap, sym, ◌∙◌, arith}
use Rattle.std.specs.List.{filter}
use Rattle.std.specs.Option.{option_map}
use Rattle.input_lines.specs.Lines.{Range}
use Rattle.objects.specs.Channels.{Sender}
use Rattle.objects.specs.Held.{ObjectOf, object_in, limiter_left, channel_left, sender_in, waits_to_send, a_limiter as held_limiter, a_channel as held_channel}
use Rattle.objects.specs.declared.ticket.Ticket.{Ticket}
use Rattle.objects.specs.declared.object.Object.{Object as HeldObject}
use Rattle.objects.specs.declared.object.Object.TheVariants as held
use Rattle.job_meaning.specs.Sharing.{Asker, Object, unopened, a_limiter, a_channel, stays_at}
use Rattle.turn_semantics.specs.Lists.{Each}
use Rattle.interleavings.specs.Interleaving.{Started}
use Rattle.run_refinement.specs.Sharing.{Waiter, waiter_of, waiter_in, offer_of, offer_in, stays_to_send, SameObject}
use Rattle.run_refinement.proofs.Counts.{count, in_object, sender_passes}
use Rattle.run_refinement.proofs.DoneLists.{each_weaker, each_filter}
use Rattle.run_refinement.proofs.JumpsOn.{count_none}
use Rattle.run_refinement.proofs.OtherAskers.{object_with, IsSameAsker}
use Rattle.job_meaning.proofs.ServedAlike.{sender_by}
use Rattle.input_lines.specs.Part.{range_of}

-- ---- lists

pub filter_map_each : {A B : Type 0} (f : A → B) (p : A → Bool) (q : B → Bool) (xs : List A) → Each (λ x. q (f x) ≡ p x) xs →
    filter q (map f xs) ≡ map f (filter p xs)
filter_map_each f p q [] h = refl
filter_map_each {A} {B} f p q (x ∷ xs) h = by_test (p x) refl (filter_map_each f p q xs h.1)
  where
    by_test : (b : Bool) → p x ≡ b → filter q (map f xs) ≡ map f (filter p xs) → filter q (f x ∷ map f xs) ≡ map f (filter p (x ∷ xs))
    by_test true e g = rw e (rw (h.0 ∙ e) (ap (λ ys. f x ∷ ys) g))
    by_test false e g = rw e (rw (h.0 ∙ e) g)

pub filter_twice : {A : Type 0} (p q : A → Bool) (xs : List A) → ((x : A) → p x ≡ true → q x ≡ true) → filter p (filter q xs) ≡ filter p xs
filter_twice p q [] h = refl
filter_twice {A} p q (x ∷ xs) h = by_tests (p x) (q x) refl refl (filter_twice p q xs h)
  where
    by_tests : (a b : Bool) → p x ≡ a → q x ≡ b → filter p (filter q xs) ≡ filter p xs → filter p (filter q (x ∷ xs)) ≡ filter p (x ∷ xs)
    by_tests true true e f g = rw f (rw e (ap (λ ys. x ∷ ys) g))
    by_tests false true e f g = rw f (rw e g)
    by_tests false false e f g = rw f (rw e g)
    by_tests true false e f g = absurd (let z : true ≡ false = sym (h x e) ∙ f in cc)

pub filter_both : {A : Type 0} (p q : A → Bool) (xs : List A) → filter (λ x. p x && q x) xs ≡ filter p (filter q xs)
filter_both p q [] = refl
filter_both {A} p q (x ∷ xs) = by_tests (p x) (q x) refl refl (filter_both p q xs)
  where
    by_tests : (a b : Bool) → p x ≡ a → q x ≡ b → filter (λ y. p y && q y) xs ≡ filter p (filter q xs) →
        filter (λ y. p y && q y) (x ∷ xs) ≡ filter p (filter q (x ∷ xs))
    by_tests true true e f g = rw e (rw f (rw e (ap (λ ys. x ∷ ys) g)))
    by_tests false true e f g = rw e (rw f (rw e g))
    by_tests true false e f g = rw e (rw f g)
    by_tests false false e f g = rw e (rw f g)

map_each : {A B : Type 0} (f g : A → B) (xs : List A) → Each (λ x. f x ≡ g x) xs → map f xs ≡ map g xs
map_each f g [] h = refl
map_each f g (x ∷ xs) h = ap (λ y. y ∷ map f xs) h.0 ∙ ap (λ ys. g x ∷ ys) (map_each f g xs h.1)

map_same : {A B : Type 0} (h : A → A) (g : A → B) (xs : List A) → ((x : A) → g (h x) ≡ g x) → map g (map h xs) ≡ map g xs
map_same h g [] e = refl
map_same h g (x ∷ xs) e = ap (λ y. y ∷ map g (map h xs)) (e x) ∙ ap (λ ys. g x ∷ ys) (map_same h g xs e)

each_kept : {A : Type 0} (P : A → Type 0) (p : A → Bool) (xs : List A) → Each P xs → Each P (filter p xs)
each_kept P p xs h = each_weaker (λ x. P x × (p x ≡ true)) P (filter p xs) (λ x e. e.0) (each_filter P p xs h)

-- two lists that show the same, after some left both
lists_turned : {K Z V : Type 0} (f f' : K → V) (g : Z → V) (x : K → Bool) (stays : Z → Bool) (h : Z → Z) (keep : V → Bool) (ks : List K) (zs : List Z) →
    Each (λ k. (f' k ≡ f k) × (keep (f k) ≡ x k)) ks → Each (λ z. stays z ≡ true → keep (g z) ≡ stays (h z)) zs →
    ((z : Z) → stays (h z) ≡ true → stays z ≡ true) → ((z : Z) → g (h z) ≡ g z) → map f ks ≡ map g (filter stays zs) →
    map f' (filter x ks) ≡ map g (filter stays (map h zs))
lists_turned {K} {Z} {V} f f' g x stays h keep ks zs tickets askers weaker same e =
    map_each f' f (filter x ks)
    (each_weaker (λ k. (f' k ≡ f k) × (keep (f k) ≡ x k)) (λ k. f' k ≡ f k) (filter x ks) (λ k d. d.0)
    (each_kept (λ k. (f' k ≡ f k) × (keep (f k) ≡ x k)) x ks tickets))
    ∙ (sym (filter_map_each f x keep ks (each_weaker (λ k. (f' k ≡ f k) × (keep (f k) ≡ x k)) (λ k. keep (f k) ≡ x k) ks (λ k d. d.1) tickets))
    ∙ (ap (filter keep) e
    ∙ (filter_map_each g (λ z. stays (h z)) keep (filter stays zs) stayers
    ∙ (ap (map g) (filter_twice (λ z. stays (h z)) stays zs weaker)
    ∙ (sym (map_same h g (filter (λ z. stays (h z)) zs) same)
    ∙ ap (map g) (sym (filter_map_each h (λ z. stays (h z)) stays zs (all_same zs))))))))
  where
    all_same : (zs : List Z) → Each (λ z. stays (h z) ≡ stays (h z)) zs
    all_same [] = tt
    all_same (z ∷ zs) = (refl, all_same zs)

    stayers : Each (λ z. keep (g z) ≡ stays (h z)) (filter stays zs)
    stayers =
        each_weaker (λ z. (stays z ≡ true → keep (g z) ≡ stays (h z)) × (stays z ≡ true)) (λ z. keep (g z) ≡ stays (h z)) (filter stays zs) (λ z d. d.0 d.1)
        (each_filter (λ z. stays z ≡ true → keep (g z) ≡ stays (h z)) stays zs askers)

-- ---- objects

-- each who is in a queue of an object
abbrev pub EachTicket : (Ticket → Type 0) → Option ObjectOf → Type 0
EachTicket P None = Unit {0}
EachTicket P (Some (held_limiter l)) = Each P l.waiting
EachTicket P (Some (held_channel c)) = Each (λ (s : Sender Ticket Range). P s.who) c.senders × Each P c.receivers

abbrev pub EachAsker : (Asker → Type 0) → Object → Type 0
EachAsker P unopened = Unit {0}
EachAsker P (a_limiter l) = Each P l.waiting
EachAsker P (a_channel c) = Each (λ (s : Sender Asker Range). P s.who) c.senders × Each P c.receivers

pub tickets_weaker : (P Q : Ticket → Type 0) (o : Option ObjectOf) → ((k : Ticket) → P k → Q k) → EachTicket P o → EachTicket Q o
tickets_weaker P Q None f h = tt
tickets_weaker P Q (Some (held_limiter l)) f h = each_weaker P Q l.waiting f h
tickets_weaker P Q (Some (held_channel c)) f h =
    (each_weaker (λ s. P s.who) (λ s. Q s.who) c.senders (λ s e. f s.who e) h.0, each_weaker P Q c.receivers f h.1)

pub askers_weaker : (P Q : Asker → Type 0) (o : Object) → ((a : Asker) → P a → Q a) → EachAsker P o → EachAsker Q o
askers_weaker P Q unopened f h = tt
askers_weaker P Q (a_limiter l) f h = each_weaker P Q l.waiting f h
askers_weaker P Q (a_channel c) f h =
    (each_weaker (λ s. P s.who) (λ s. Q s.who) c.senders (λ s e. f s.who e) h.0, each_weaker P Q c.receivers f h.1)

pub askers_all : (P : Asker → Type 0) (o : Object) → ((a : Asker) → P a) → EachAsker P o
askers_all P unopened f = tt
askers_all P (a_limiter l) f = each_all l.waiting
  where
    each_all : (xs : List Asker) → Each P xs
    each_all [] = tt
    each_all (x ∷ xs) = (f x, each_all xs)
askers_all P (a_channel c) f = (each_sender c.senders, each_all c.receivers)
  where
    each_all : (xs : List Asker) → Each P xs
    each_all [] = tt
    each_all (x ∷ xs) = (f x, each_all xs)

    each_sender : (xs : List (Sender Asker Range)) → Each (λ s. P s.who) xs
    each_sender [] = tt
    each_sender (x ∷ xs) = (f x.who, each_sender xs)

-- nobody in a queue passes a test, if none is counted
pub askers_none : (p : Asker → Bool) (o : Object) → in_object p o ≡ 0 → EachAsker (λ a. p a ≡ false) o
askers_none p unopened e = tt
askers_none p (a_limiter l) e = count_none p l.waiting e
askers_none p (a_channel c) e =
    let a : count (sender_passes p) c.senders ≡ 0 = omega (arith, e) in
    let b : count p c.receivers ≡ 0 = omega (arith, e) in
    (count_none (sender_passes p) c.senders a, count_none p c.receivers b)

-- some leave the queues
abbrev pub left_in : (Ticket → Bool) → ObjectOf → ObjectOf
left_in x (held_limiter l) = held_limiter (limiter_left x l)
left_in x (held_channel c) = held_channel (channel_left x c)

pub object_left : (x w : Ticket → Bool) (o : HeldObject) → object_in (λ k. x k && w k) o ≡ left_in x (object_in w o)
object_left x w (held.Limiter l) = ap (λ (ws : List Ticket). held_limiter (record { free = l.free; waiting = ws })) (filter_both x w l.waiting.items)
object_left x w (held.Channel c) =
    ap (λ (ss : List (Sender Ticket Range)). with_queues ss (filter (λ k. x k && w k) c.receivers.items))
    (filter_both (waits_to_send x) (waits_to_send w) (map sender_in c.senders.items))
    ∙ ap (with_queues (filter (waits_to_send x) (filter (waits_to_send w) (map sender_in c.senders.items)))) (filter_both x w c.receivers.items)
  where
    with_queues : List (Sender Ticket Range) → List Ticket → ObjectOf
    with_queues senders receivers =
        held_channel (record {
          places = c.places;
          buffer = map range_of c.buffer.items;
          is_closed = c.is_closed;
          senders = senders;
          receivers = receivers;
        })

-- each who is left in a queue waits
pub tickets_wait : (w : Ticket → Bool) (o : Option HeldObject) → EachTicket (λ k. w k ≡ true) (option_map (object_in w) o)
tickets_wait w None = tt
tickets_wait w (Some (held.Limiter l)) = waiting l.waiting.items
  where
    waiting : (xs : List Ticket) → Each (λ k. w k ≡ true) (filter w xs)
    waiting xs = each_weaker (λ k. (k ≡ k) × (w k ≡ true)) (λ k. w k ≡ true) (filter w xs) (λ k e. e.1) (each_filter (λ k. k ≡ k) w xs (same xs))
      where
        same : (xs : List Ticket) → Each (λ k. k ≡ k) xs
        same [] = tt
        same (x ∷ xs) = (refl, same xs)
tickets_wait w (Some (held.Channel c)) = (sending (map sender_in c.senders.items), waiting c.receivers.items)
  where
    waiting : (xs : List Ticket) → Each (λ k. w k ≡ true) (filter w xs)
    waiting xs = each_weaker (λ k. (k ≡ k) × (w k ≡ true)) (λ k. w k ≡ true) (filter w xs) (λ k e. e.1) (each_filter (λ k. k ≡ k) w xs (same xs))
      where
        same : (xs : List Ticket) → Each (λ k. k ≡ k) xs
        same [] = tt
        same (x ∷ xs) = (refl, same xs)

    sending : (xs : List (Sender Ticket Range)) → Each (λ s. w s.who ≡ true) (filter (waits_to_send w) xs)
    sending xs =
        each_weaker (λ s. (s ≡ s) × (w s.who ≡ true)) (λ s. w s.who ≡ true) (filter (waits_to_send w) xs) (λ s e. e.1)
        (each_filter (λ s. s ≡ s) (waits_to_send w) xs (same xs))
      where
        same : (xs : List (Sender Ticket Range)) → Each (λ s. s ≡ s) xs
        same [] = tt
        same (x ∷ xs) = (refl, same xs)

-- what is the same stays the same
pub object_turned : (at at' : ℕ → Started) (t : ℕ) (h : Asker → Asker) (x : Ticket → Bool) (keep : Waiter → Bool) (code : Option ObjectOf) (o : Object) →
    IsSameAsker t h → ((a : Asker) → stays_at t (h a) ≡ true → stays_at t a ≡ true) →
    EachTicket (λ k. (waiter_of at' k ≡ waiter_of at k) × (keep (waiter_of at k) ≡ x k)) code →
    EachAsker (λ a. stays_at t a ≡ true → keep (waiter_in a) ≡ stays_at t (h a)) o → SameObject at t code o →
    SameObject at' t (option_map (left_in x) code) (object_with h o)
object_turned at at' t h x keep None unopened is weaker tickets askers e = tt
object_turned at at' t h x keep None (a_limiter m) is weaker tickets askers e = absurd e
object_turned at at' t h x keep None (a_channel d) is weaker tickets askers e = absurd e
object_turned at at' t h x keep (Some (held_limiter l)) unopened is weaker tickets askers e = absurd e
object_turned at at' t h x keep (Some (held_channel c)) unopened is weaker tickets askers e = absurd e
object_turned at at' t h x keep (Some (held_limiter l)) (a_channel d) is weaker tickets askers e = absurd e
object_turned at at' t h x keep (Some (held_channel c)) (a_limiter m) is weaker tickets askers e = absurd e
object_turned at at' t h x keep (Some (held_limiter l)) (a_limiter m) is weaker tickets askers e =
    record {
      free = e.free;
      waiting = lists_turned (waiter_of at) (waiter_of at') waiter_in x (stays_at t) h keep l.waiting m.waiting tickets askers weaker same_waiter e.waiting;
    }
  where
    same_waiter : (a : Asker) → waiter_in (h a) ≡ waiter_in a
    same_waiter a = λ i. record { task = is.task a i; since = is.at a i }
object_turned at at' t h x keep (Some (held_channel c)) (a_channel d) is weaker tickets askers e =
    record {
      places = e.places;
      buffer = e.buffer;
      is_closed = e.is_closed;
      senders =
          lists_turned (offer_of at) (offer_of at') offer_in (waits_to_send x) (stays_to_send t) (sender_by h) (λ v. keep v.waiter) c.senders d.senders
          (each_weaker (λ s. (waiter_of at' s.who ≡ waiter_of at s.who) × (keep (waiter_of at s.who) ≡ x s.who))
          (λ s. (offer_of at' s ≡ offer_of at s) × (keep (waiter_of at s.who) ≡ x s.who)) c.senders (λ s g. (same_offer s g.0, g.1)) tickets.0) askers.0
          (λ s g. weaker s.who g) (λ s i. record { waiter = same_waiter s.who i; part = s.part }) e.senders;
      receivers = lists_turned (waiter_of at) (waiter_of at') waiter_in x (stays_at t) h keep c.receivers d.receivers tickets.1 askers.1 weaker same_waiter e.receivers;
    }
  where
    same_waiter : (a : Asker) → waiter_in (h a) ≡ waiter_in a
    same_waiter a = λ i. record { task = is.task a i; since = is.at a i }

    same_offer : (s : Sender Ticket Range) → waiter_of at' s.who ≡ waiter_of at s.who → offer_of at' s ≡ offer_of at s
    same_offer s g = λ i. record { waiter = g i; part = s.part }
