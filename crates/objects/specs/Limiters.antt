-- A limiter: Trio's `CapacityLimiter`. It has tokens, and serves first come, first served. `A` is what is known of who asks.
use Rattle.std.specs.Prelude.{ℕ, zero, suc, ◌+◌, Bool, List, [], ◌∷◌, ◌++◌}
use Rattle.std.specs.List.{filter}

-- who asks for a token while none is free waits in the queue
pub record Limiter (A : Type 0) : Type 0 where
  pub free : ℕ
  pub waiting : List A

-- what is done to a limiter: a token is asked for, one comes back, and some leave the queue
pub data LimiterAct (A : Type 0) : Type 0 where
  acquires : (who : A) → LimiterAct A
  gives_back : LimiterAct A
  leaves : (stays : A → Bool) → LimiterAct A

-- a limiter after something was done to it, with those who got a token by it
pub record LimiterServed (A : Type 0) : Type 0 where
  pub limiter : Limiter A
  pub granted : List A

abbrev pub new_limiter : {A : Type 0} → ℕ → Limiter A
new_limiter tokens = record { free = tokens; waiting = [] }

-- a token is taken if one is free
abbrev pub acquire_of : {A : Type 0} → ℕ → List A → A → LimiterServed A
acquire_of zero waiting who = record { limiter = record { free = 0; waiting = waiting ++ who ∷ [] }; granted = [] }
acquire_of (suc free) waiting who = record { limiter = record { free = free; waiting = waiting }; granted = who ∷ [] }

-- a token that comes back goes to the head of the queue
abbrev pub give_back_to : {A : Type 0} → ℕ → List A → LimiterServed A
give_back_to free [] = record { limiter = record { free = suc free; waiting = [] }; granted = [] }
give_back_to free (first ∷ waiting) = record { limiter = record { free = free; waiting = waiting }; granted = first ∷ [] }

abbrev pub after_act : {A : Type 0} → Limiter A → LimiterAct A → LimiterServed A
after_act l (acquires who) = acquire_of l.free l.waiting who
after_act l gives_back = give_back_to l.free l.waiting
after_act l (leaves stays) = record { limiter = record l { waiting = filter stays l.waiting }; granted = [] }

-- the limiter after these acts, with all who got a token, in order
abbrev pub after_acts : {A : Type 0} → Limiter A → List (LimiterAct A) → LimiterServed A
after_acts l [] = record { limiter = l; granted = [] }
after_acts l (act ∷ acts) =
    let first = after_act l act in
    let rest = after_acts first.limiter acts in
    record { limiter = rest.limiter; granted = first.granted ++ rest.granted }

-- those who asked, in order
abbrev pub askers : {A : Type 0} → List (LimiterAct A) → List A
askers [] = []
askers (acquires who ∷ acts) = who ∷ askers acts
askers (gives_back ∷ acts) = askers acts
askers (leaves stays ∷ acts) = askers acts

-- how often a token came back
abbrev pub times_back : {A : Type 0} → List (LimiterAct A) → ℕ
times_back [] = 0
times_back (acquires who ∷ acts) = times_back acts
times_back (gives_back ∷ acts) = 1 + times_back acts
times_back (leaves stays ∷ acts) = times_back acts
