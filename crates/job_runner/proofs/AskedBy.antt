-- Who is in the queues of limiters and channels has asked before a moment.
use Rattle.std.proofs.Common.{◌≡◌, ℕ, suc, Bool, true, false, ◌&&◌, nat_lt, Option, Some, None, List, [], map, refl, ap, ◌∙◌, subst, arith}
use Rattle.std.specs.Prelude.{All}
use Rattle.std.specs.List.{filter}
use Rattle.std.specs.Option.{ForSome}
use Rattle.std.proofs.lemmas.Bool.Decides.{nat_tests}
use Rattle.std.proofs.lemmas.List.Elements.{All-map, All-weaker, filter_passes}
use Rattle.std.proofs.lemmas.Option.{none-some, same_Some}
use Rattle.input_lines.specs.Lines.{Range}
use Rattle.objects.specs.Channels.{Sender}
use Rattle.objects.specs.Held.{ObjectOf, a_channel, a_limiter, channel_in, object_in, sender_in, sender_of, waits_to_send, AreQueuedBy}
use Rattle.objects.specs.declared.channel.Sender as held
use Rattle.objects.specs.declared.object.Object.{Object}
use Rattle.objects.specs.declared.object.Object.TheVariants as objects
use Rattle.objects.specs.declared.ticket.Ticket.{Ticket}
use Rattle.run_refinement.specs.Sharing.{asked_before, AreAskedBefore}
use Rattle.job_runner.proofs.Filters.{all_left, all_of_map, filter_as}

abbrev pub asked_by : ℕ → Ticket → Bool
asked_by t ticket = nat_lt ticket.since t

-- the queues of an object: of senders, and of others
abbrev senders_in : ObjectOf → List (Sender Ticket Range)
senders_in (a_limiter l) = []
senders_in (a_channel c) = c.senders

abbrev others_in : ObjectOf → List Ticket
others_in (a_limiter l) = l.waiting
others_in (a_channel c) = c.receivers

abbrev all : Ticket → Bool
all ticket = true

module _ (t : ℕ) where
  abbrev now : Ticket → Bool
  now = asked_before t all

  test_of : (k : Ticket) → now k ≡ true → asked_by (suc t) k ≡ true
  test_of k e = by_test (nat_lt k.since t) refl e
    where
      by_test : (b : Bool) → nat_lt k.since t ≡ b → (b && true) ≡ true → nat_lt k.since (suc t) ≡ true
      by_test true f g = grind (arith, nat_tests)
      by_test false f g = absurd (let h : false ≡ true = g in cc)

  tickets_asked : (xs : List Ticket) → filter now xs ≡ filter all xs → All (λ (k : Ticket). asked_by (suc t) k ≡ true) xs
  tickets_asked xs e =
      All-weaker (λ (k : Ticket). now k ≡ true) (λ (k : Ticket). asked_by (suc t) k ≡ true) test_of xs
      (subst (All (λ (k : Ticket). now k ≡ true)) (e ∙ all_left xs) (filter_passes now xs))

  senders_asked : (xs : List (Sender Ticket Range)) → filter (waits_to_send now) xs ≡ filter (waits_to_send all) xs →
      All (λ (s : Sender Ticket Range). asked_by (suc t) s.who ≡ true) xs
  senders_asked xs e =
      All-weaker (λ (s : Sender Ticket Range). now s.who ≡ true) (λ (s : Sender Ticket Range). asked_by (suc t) s.who ≡ true) (λ s. test_of s.who) xs
      (subst (All (λ (s : Sender Ticket Range). now s.who ≡ true)) (e ∙ all_left xs) (filter_passes (waits_to_send now) xs))

  object_asked : (o : Object) → object_in now o ≡ object_in all o → AreQueuedBy (asked_by (suc t)) o
  object_asked (objects.Limiter l) e = tickets_asked l.waiting.items (ap others_in e)
  object_asked (objects.Channel c) e = (
    All-map (λ (k : Ticket). asked_by (suc t) k ≡ true) sender_of c.senders.items
        (all_of_map (λ (s : Sender Ticket Range). asked_by (suc t) s.who ≡ true) sender_in c.senders.items
        (senders_asked (map sender_in c.senders.items) (ap senders_in e))),
    tickets_asked c.receivers.items (ap others_in e),
  )

  -- who asked before a moment has asked by it
  pub queued_by_now : (o : Option Object) → AreAskedBefore t o → ForSome o (AreQueuedBy (asked_by (suc t)))
  queued_by_now None h = λ x e. absurd (none-some x e)
  queued_by_now (Some o) h = λ x e.
      subst (AreQueuedBy (asked_by (suc t))) (same_Some o x e) (object_asked o (same_Some (object_in now o) (object_in all o) (h all)))

  module _ (waits : Ticket → Bool) where
    kept : (k : Ticket) → asked_by t k ≡ true → asked_before t waits k ≡ waits k
    kept k e = ap (λ (b : Bool). b && waits k) e

    object_kept : (o : Object) → AreQueuedBy (asked_by t) o → object_in (asked_before t waits) o ≡ object_in waits o
    object_kept (objects.Limiter l) h =
        ap (λ (ks : List Ticket). a_limiter (record { free = l.free; waiting = ks }))
        (filter_as (asked_before t waits) waits l.waiting.items
        (All-weaker (λ (k : Ticket). asked_by t k ≡ true) (λ (k : Ticket). asked_before t waits k ≡ waits k) kept l.waiting.items h))
    object_kept (objects.Channel c) h =
        ap (λ (ss : List (Sender Ticket Range)). a_channel (record (channel_in (asked_before t waits) c) { senders = ss }))
        (filter_as (waits_to_send (asked_before t waits)) (waits_to_send waits) (map sender_in c.senders.items)
        (All-map (λ (s : Sender Ticket Range). asked_before t waits s.who ≡ waits s.who) sender_in c.senders.items
        (All-weaker (λ (s : held.Sender). asked_by t s.who ≡ true) (λ (s : held.Sender). asked_before t waits s.who ≡ waits s.who) (λ s. kept s.who)
        c.senders.items (all_of_map (λ (k : Ticket). asked_by t k ≡ true) sender_of c.senders.items h.0))))
        ∙ ap (λ (ks : List Ticket). a_channel (record (channel_in waits c) { receivers = ks }))
        (filter_as (asked_before t waits) waits c.receivers.items
        (All-weaker (λ (k : Ticket). asked_by t k ≡ true) (λ (k : Ticket). asked_before t waits k ≡ waits k) kept c.receivers.items h.1))

  -- and the other way round
  pub asked_before_queued : (o : Option Object) → ForSome o (AreQueuedBy (asked_by t)) → AreAskedBefore t o
  asked_before_queued None h = λ waits. refl
  asked_before_queued (Some o) h = λ waits. ap (λ (x : ObjectOf). Some x) (object_kept waits o (h o refl))
