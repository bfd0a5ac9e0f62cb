-- A limiter as the code has it serves as the definitions say.
use Rattle.std.proofs.Common.{◌≡◌, ℕ, suc, List, [], ◌∷◌, ◌++◌, Bool, map, refl, sym}
use Rattle.std.proofs.lemmas.List.{append-nil}
use Rattle.std.specs.List.{filter}
use Rattle.objects.specs.Limiters.{LimiterAct, acquire_of, give_back_to, after_acts}
use Rattle.objects.specs.Held.{limiter_in, gets_in, TokensServed}
use Rattle.objects.specs.declared.ticket.Ticket.{Ticket}
use Rattle.objects.specs.declared.given.Given.{Given}
use Rattle.objects.specs.declared.given.Grant.TheVariants.{Token}
use Rattle.objects.specs.declared.limiter.Limiter.{Limiter}
use Rattle.objects.proofs.Waiting.{filter_again, filter_more, granted_one}

-- no token is free
pub tokens_queued : (waits : Ticket → Bool) (old new : Limiter) (who : Ticket) (given : List Given) → old.free ≡ 0 → new.free ≡ old.free →
    new.waiting.items ≡ old.waiting.items ++ who ∷ [] →
    TokensServed waits (acquire_of old.free (filter waits old.waiting.items) who) new given given
tokens_queued waits old new who given none same more =
    rw none
    (record {
      limiter = rw (same, none, filter_more waits old.waiting.items new.waiting.items who more) refl;
      granted = sym (append-nil (map gets_in given));
    })

-- a token is free
pub token_taken : (waits : Ticket → Bool) (free : ℕ) (old new : Limiter) (who : Ticket) (before after : List Given) → old.free ≡ suc free →
    new.free ≡ free → new.waiting.items ≡ old.waiting.items → after ≡ before ++ record { who = who; grant = Token } ∷ [] →
    TokensServed waits (acquire_of old.free (filter waits old.waiting.items) who) new before after
token_taken waits free old new who before after some less same more =
    rw some
    (record {
      limiter = rw (less, same, filter_again waits old.waiting.items) refl;
      granted = granted_one gets_in before after (record { who = who; grant = Token }) more;
    })

-- a token that comes back goes to the first
pub token_passed : (waits : Ticket → Bool) (old new : Limiter) (first : Ticket) (before after : List Given) →
    filter waits old.waiting.items ≡ first ∷ filter waits new.waiting.items → new.free ≡ old.free →
    after ≡ before ++ record { who = first; grant = Token } ∷ [] →
    TokensServed waits (give_back_to old.free (filter waits old.waiting.items)) new before after
token_passed waits old new first before after head same more =
    rw head
    (record {
      limiter = rw (same, filter_again waits new.waiting.items) refl;
      granted = granted_one gets_in before after (record { who = first; grant = Token }) more;
    })

-- nothing is done to it
pub tokens_untouched : (waits : Ticket → Bool) (l : Limiter) (acts : List (LimiterAct Ticket)) (given : List Given) → acts ≡ [] →
    TokensServed waits (after_acts (limiter_in waits l) acts) l given given
tokens_untouched waits l acts given none =
    rw none
    (record { limiter = rw (filter_again waits l.waiting.items) refl; granted = sym (append-nil (map gets_in given)) })
