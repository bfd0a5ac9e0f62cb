-- Which labels a log gives and signs, and what its deadlines and first signs are then.
use Rattle.std.proofs.Common.{◌≡◌, ℕ, Bool, true, false, Option, Some, None, refl, ap, ◌∙◌, ◌⊎◌, inl, inr, nat_lt, if◌then◌else◌, arith}
use Rattle.std.proofs.lemmas.Bool.Decides.{nat_tests}
use Rattle.exceptions.specs.Exceptions.{Label}
use Rattle.cancel_scopes.specs.Sight.{Tick, earlier}
use Rattle.job_meaning.specs.Log.{Log, nil, entry, sign, entered, act, task, followed_by, least_sign, tick_if, deadline_of, deadline_if, either, same_label}
use Rattle.job_meaning.proofs.Distinct.{same_label_equal}

-- the label is given in the log: to a scope, nursery or event that is entered, or to a task that is started
abbrev pub Gives : Label → Log → Type 0
Gives l nil = ⊥
Gives l (entry t e rest) = Gives l rest
Gives l (sign m t rest) = Gives l rest
Gives l (entered m t d rest) = (l ≡ m) ⊎ Gives l rest
Gives l (act m t a rest) = Gives l rest
Gives l (task m s u e own rest) = (l ≡ m) ⊎ (Gives l own ⊎ Gives l rest)

-- there is a sign for the label in the log
abbrev pub Signs : Label → Log → Type 0
Signs l nil = ⊥
Signs l (entry t e rest) = Signs l rest
Signs l (sign m t rest) = (l ≡ m) ⊎ Signs l rest
Signs l (entered m t d rest) = Signs l rest
Signs l (act m t a rest) = Signs l rest
Signs l (task m s u e own rest) = Signs l own ⊎ Signs l rest

-- a label given in one log after another is given in one of the two
pub gives_followed : (l : Label) (a b : Log) → Gives l (followed_by a b) → Gives l a ⊎ Gives l b
gives_followed l nil b h = inr h
gives_followed l (entry t e rest) b h = gives_followed l rest b h
gives_followed l (sign m t rest) b h = gives_followed l rest b h
gives_followed l (entered m t d rest) b (inl e) = inl (inl e)
gives_followed l (entered m t d rest) b (inr h) = after (gives_followed l rest b h)
  where
    after : Gives l rest ⊎ Gives l b → ((l ≡ m) ⊎ Gives l rest) ⊎ Gives l b
    after (inl k) = inl (inr k)
    after (inr k) = inr k
gives_followed l (act m t a rest) b h = gives_followed l rest b h
gives_followed l (task m s u e own rest) b (inl e') = inl (inl e')
gives_followed l (task m s u e own rest) b (inr (inl h)) = inl (inr (inl h))
gives_followed l (task m s u e own rest) b (inr (inr h)) = after (gives_followed l rest b h)
  where
    after : Gives l rest ⊎ Gives l b → ((l ≡ m) ⊎ (Gives l own ⊎ Gives l rest)) ⊎ Gives l b
    after (inl k) = inl (inr (inr k))
    after (inr k) = inr k

-- a label given in the first is given in both, one after another
pub gives_first : (l : Label) (a b : Log) → Gives l a → Gives l (followed_by a b)
gives_first l nil b h = absurd h
gives_first l (entry t e rest) b h = gives_first l rest b h
gives_first l (sign m t rest) b h = gives_first l rest b h
gives_first l (entered m t d rest) b (inl e) = inl e
gives_first l (entered m t d rest) b (inr h) = inr (gives_first l rest b h)
gives_first l (act m t a rest) b h = gives_first l rest b h
gives_first l (task m s u e own rest) b (inl h) = inl h
gives_first l (task m s u e own rest) b (inr (inl h)) = inr (inl h)
gives_first l (task m s u e own rest) b (inr (inr h)) = inr (inr (gives_first l rest b h))

-- and so is a label given in the second
pub gives_second : (l : Label) (a b : Log) → Gives l b → Gives l (followed_by a b)
gives_second l nil b h = h
gives_second l (entry t e rest) b h = gives_second l rest b h
gives_second l (sign m t rest) b h = gives_second l rest b h
gives_second l (entered m t d rest) b h = inr (gives_second l rest b h)
gives_second l (act m t a rest) b h = gives_second l rest b h
gives_second l (task m s u e own rest) b h = inr (inr (gives_second l rest b h))

-- a label signed in one log after another is signed in one of the two
pub signs_followed : (l : Label) (a b : Log) → Signs l (followed_by a b) → Signs l a ⊎ Signs l b
signs_followed l nil b h = inr h
signs_followed l (entry t e rest) b h = signs_followed l rest b h
signs_followed l (entered m t d rest) b h = signs_followed l rest b h
signs_followed l (act m t a rest) b h = signs_followed l rest b h
signs_followed l (sign m t rest) b (inl e) = inl (inl e)
signs_followed l (sign m t rest) b (inr h) = after (signs_followed l rest b h)
  where
    after : Signs l rest ⊎ Signs l b → ((l ≡ m) ⊎ Signs l rest) ⊎ Signs l b
    after (inl k) = inl (inr k)
    after (inr k) = inr k
signs_followed l (task m s u e own rest) b (inl h) = inl (inl h)
signs_followed l (task m s u e own rest) b (inr h) = after (signs_followed l rest b h)
  where
    after : Signs l rest ⊎ Signs l b → (Signs l own ⊎ Signs l rest) ⊎ Signs l b
    after (inl k) = inl (inr k)
    after (inr k) = inr k

-- a deadline or none, followed by none, is unchanged
pub either_nothing : (o : Option Tick) → either o None ≡ o
either_nothing None = refl
either_nothing (Some d) = refl

-- the earlier of a tick and never is the tick
pub earlier_never : (a : Tick) → earlier a None ≡ a
earlier_never None = refl
earlier_never (Some t) = refl

either_assoc : (a b c : Option Tick) → either a (either b c) ≡ either (either a b) c
either_assoc None b c = refl
either_assoc (Some d) b c = refl

least_of_three : (t u v : ℕ) →
    (if nat_lt (if nat_lt v u then v else u) t then (if nat_lt v u then v else u) else t)
    ≡ (if nat_lt v (if nat_lt u t then u else t) then v else (if nat_lt u t then u else t))
least_of_three t u v = grind (arith, nat_tests)

earlier_assoc : (a b c : Tick) → earlier a (earlier b c) ≡ earlier (earlier a b) c
earlier_assoc None b c = refl
earlier_assoc (Some t) None c = refl
earlier_assoc (Some t) (Some u) None = refl
earlier_assoc (Some t) (Some u) (Some v) = ap (λ (x : ℕ). Some x) (least_of_three t u v)

-- the deadline and the first sign in one log after another
pub deadline_followed : (l : Label) (a b : Log) → deadline_of l (followed_by a b) ≡ either (deadline_of l a) (deadline_of l b)
deadline_followed l nil b = refl
deadline_followed l (entry t e rest) b = deadline_followed l rest b
deadline_followed l (sign m t rest) b = deadline_followed l rest b
deadline_followed l (entered m t d rest) b =
    ap (λ (o : Option Tick). either (deadline_if (same_label l m) d) o) (deadline_followed l rest b)
    ∙ either_assoc (deadline_if (same_label l m) d) (deadline_of l rest) (deadline_of l b)
deadline_followed l (act m t a rest) b = deadline_followed l rest b
deadline_followed l (task m s u e own rest) b =
    ap (λ (o : Option Tick). either (deadline_of l own) o) (deadline_followed l rest b)
    ∙ either_assoc (deadline_of l own) (deadline_of l rest) (deadline_of l b)

-- the first sign in one log after another is the earlier of the two first signs
pub least_followed : (l : Label) (a b : Log) → least_sign l (followed_by a b) ≡ earlier (least_sign l a) (least_sign l b)
least_followed l nil b = refl
least_followed l (entry t e rest) b = least_followed l rest b
least_followed l (act m t a rest) b = least_followed l rest b
least_followed l (entered m t d rest) b = least_followed l rest b
least_followed l (sign m t rest) b =
    ap (λ (o : Tick). earlier (tick_if (same_label l m) t) o) (least_followed l rest b)
    ∙ earlier_assoc (tick_if (same_label l m) t) (least_sign l rest) (least_sign l b)
least_followed l (task m s u e own rest) b =
    ap (λ (o : Tick). earlier (least_sign l own) o) (least_followed l rest b)
    ∙ earlier_assoc (least_sign l own) (least_sign l rest) (least_sign l b)

-- a deadline is that of a label which was entered
pub deadline_entered : (l : Label) (a : Log) (d : Tick) → deadline_of l a ≡ Some d → Gives l a
deadline_entered l nil d h = cc
deadline_entered l (entry t e rest) d h = deadline_entered l rest d h
deadline_entered l (sign m t rest) d h = deadline_entered l rest d h
deadline_entered l (entered m t x rest) d h = by_test (same_label l m) refl h (deadline_entered l rest d)
  where
    by_test : (b : Bool) → same_label l m ≡ b → either (deadline_if b x) (deadline_of l rest) ≡ Some d →
        (deadline_of l rest ≡ Some d → Gives l rest) → (l ≡ m) ⊎ Gives l rest
    by_test true e k others = inl (same_label_equal l m e)
    by_test false e k others = inr (others k)
deadline_entered l (act m t a rest) d h = deadline_entered l rest d h
deadline_entered l (task m s u e own rest) d h = by_own (deadline_of l own) refl h (deadline_entered l own d) (deadline_entered l rest d)
  where
    by_own : (o : Option Tick) → deadline_of l own ≡ o → either o (deadline_of l rest) ≡ Some d →
        (deadline_of l own ≡ Some d → Gives l own) → (deadline_of l rest ≡ Some d → Gives l rest) → (l ≡ m) ⊎ (Gives l own ⊎ Gives l rest)
    by_own None e k inner others = inr (inr (others k))
    by_own (Some x) e k inner others = inr (inl (inner (e ∙ k)))

-- a label that is not given has no deadline there, and one that is not signed no sign
pub no_deadline : (l : Label) (a : Log) → (Gives l a → ⊥) → deadline_of l a ≡ None
no_deadline l a h = by_deadline (deadline_of l a) refl
  where
    by_deadline : (o : Option Tick) → deadline_of l a ≡ o → o ≡ None
    by_deadline None e = refl
    by_deadline (Some d) e = absurd (h (deadline_entered l a d e))

-- a label that is not signed in a log has no first sign there
pub no_sign : (l : Label) (a : Log) → (Signs l a → ⊥) → least_sign l a ≡ None
no_sign l nil h = refl
no_sign l (entry t e rest) h = no_sign l rest h
no_sign l (act m t a rest) h = no_sign l rest h
no_sign l (entered m t d rest) h = no_sign l rest h
no_sign l (sign m t rest) h = by_test (same_label l m) refl (no_sign l rest (λ k. h (inr k)))
  where
    by_test : (b : Bool) → same_label l m ≡ b → least_sign l rest ≡ None → earlier (tick_if b t) (least_sign l rest) ≡ None
    by_test true e k = absurd (h (inl (same_label_equal l m e)))
    by_test false e k = k
no_sign l (task m s u e own rest) h = both (no_sign l own (λ k. h (inl k))) (no_sign l rest (λ k. h (inr k)))
  where
    both : least_sign l own ≡ None → least_sign l rest ≡ None → earlier (least_sign l own) (least_sign l rest) ≡ None
    both i j = ap (λ (o : Tick). earlier o (least_sign l rest)) i ∙ j
