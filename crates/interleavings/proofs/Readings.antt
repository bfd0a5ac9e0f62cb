-- Readings of what tasks made and have left: each is that of the parts together.
use Rattle.std.proofs.Common.{◌≡◌, ℕ, suc, ◌+◌, ◌≤◌, min, Bool, true, false, Some, None, List, [], ◌∷◌, ◌++◌, refl, ap, ◌∙◌, sym, subst, ◌⊎◌, inl, inr, arith, if◌then◌else◌}
use Rattle.turn_semantics.specs.Lists.{IsAmong}
use Rattle.exceptions.specs.Exceptions.{Label}
use Rattle.cancel_scopes.specs.Sight.{Tick, next}
use Rattle.job_meaning.specs.Log.{Log, nil, entry, sign, entered, act, task, followed_by, same_label, tick_if, least_sign, from_by, times_entered}
use Rattle.job_meaning.specs.Before.{upto}
use Rattle.job_meaning.specs.Rest.{Event, noted, signs, enters, acts, starts, ChildOutcomes, fill}
use Rattle.job_meaning.proofs.Clips.{upto_most, upto_earlier}
use Rattle.job_meaning.proofs.Distinct.{same_label_itself}
use Rattle.job_meaning.proofs.Touched.{least_followed}
use Rattle.interleavings.specs.Interleaving.{Started, times_made, made_least, all_least, made_times, all_times, EnteredIn, EntersWith, StartsChild}
use Rattle.turn_semantics.specs.Turned.{EntersIn, EntersOnceWith, made_sign}

-- ---- ticks

-- one tick later, as far as one more
pub upto_suc : (c : ℕ) (a : Tick) → upto (suc c) (next a) ≡ suc (upto c a)
upto_suc c None = omega arith
upto_suc c (Some a) = omega arith

-- a from, as far as c + 1: its deadline and one more than its first sign as far as c
pub upto_from : (c : ℕ) (d s : Tick) → upto (suc c) (from_by d s) ≡ min (upto (suc c) d) (suc (upto c s))
upto_from c d s = upto_earlier (suc c) d (next s) ∙ ap (min (upto (suc c) d)) (upto_suc c s)

-- ---- lists

-- what is in one of two lists is in both together, and vice versa
pub in_first : {A : Type 0} (x : A) (xs ys : List A) → IsAmong x xs → IsAmong x (xs ++ ys)
in_first x [] ys i = absurd i
in_first x (y ∷ xs) ys (inl e) = inl e
in_first x (y ∷ xs) ys (inr i) = inr (in_first x xs ys i)

-- what is in the second of two lists is in both together
pub in_second : {A : Type 0} (x : A) (xs ys : List A) → IsAmong x ys → IsAmong x (xs ++ ys)
in_second x [] ys i = i
in_second x (y ∷ xs) ys i = inr (in_second x xs ys i)

-- what is in two lists together is in one of them
pub in_either : {A : Type 0} (x : A) (xs ys : List A) → IsAmong x (xs ++ ys) → IsAmong x xs ⊎ IsAmong x ys
in_either x [] ys i = inr i
in_either x (y ∷ xs) ys (inl e) = inl (inl e)
in_either x (y ∷ xs) ys (inr i) = after (in_either x xs ys i)
  where
    after : IsAmong x xs ⊎ IsAmong x ys → IsAmong x (y ∷ xs) ⊎ IsAmong x ys
    after (inl j) = inl (inr j)
    after (inr j) = inr j

-- ---- events

-- the first sign among two parts
pub first_join : (c : ℕ) (l : Label) (xs ys : List Event) → upto c (made_sign l (xs ++ ys))
    ≡ min (upto c (made_sign l xs)) (upto c (made_sign l ys))
first_join c l [] ys = let h : upto c (made_sign l ys) ≤ c = upto_most c (made_sign l ys) in omega arith
first_join c l (noted t e ∷ xs) ys = first_join c l xs ys
first_join c l (signs m t ∷ xs) ys =
    omega (
      arith,
      upto_earlier c (tick_if (same_label l m) t) (made_sign l (xs ++ ys)),
      upto_earlier c (tick_if (same_label l m) t) (made_sign l xs),
      first_join c l xs ys,
    )
first_join c l (enters m t d ∷ xs) ys = first_join c l xs ys
first_join c l (acts label moment done ∷ xs) ys = first_join c l xs ys
first_join c l (starts i m t ∷ xs) ys = first_join c l xs ys

-- and how often they enter a label
pub times_join : (l : Label) (xs ys : List Event) → times_made l (xs ++ ys) ≡ times_made l xs + times_made l ys
unfolding times_made
times_join l [] ys = omega arith
times_join l (noted t e ∷ xs) ys = times_join l xs ys
times_join l (signs m t ∷ xs) ys = times_join l xs ys
times_join l (enters m t d ∷ xs) ys = omega (arith, times_join l xs ys)
times_join l (acts label moment done ∷ xs) ys = times_join l xs ys
times_join l (starts i m t ∷ xs) ys = times_join l xs ys

-- what one part enters, both do, and vice versa
pub enters_first : (l : Label) (d : Tick) (xs ys : List Event) → EntersWith l d xs → EntersWith l d (xs ++ ys)
enters_first l d [] ys h = absurd h
enters_first l d (noted t e ∷ xs) ys h = enters_first l d xs ys h
enters_first l d (signs m t ∷ xs) ys h = enters_first l d xs ys h
enters_first l d (enters m t x ∷ xs) ys (inl e) = inl e
enters_first l d (enters m t x ∷ xs) ys (inr h) = inr (enters_first l d xs ys h)
enters_first l d (acts label moment done ∷ xs) ys h = enters_first l d xs ys h
enters_first l d (starts i m t ∷ xs) ys h = enters_first l d xs ys h

-- what the second part of events enters, both do
pub enters_second : (l : Label) (d : Tick) (xs ys : List Event) → EntersWith l d ys → EntersWith l d (xs ++ ys)
enters_second l d [] ys h = h
enters_second l d (noted t e ∷ xs) ys h = enters_second l d xs ys h
enters_second l d (signs m t ∷ xs) ys h = enters_second l d xs ys h
enters_second l d (enters m t x ∷ xs) ys h = inr (enters_second l d xs ys h)
enters_second l d (acts label moment done ∷ xs) ys h = enters_second l d xs ys h
enters_second l d (starts i m t ∷ xs) ys h = enters_second l d xs ys h

-- what two parts of events enter together, one of them does
pub enters_either : (l : Label) (d : Tick) (xs ys : List Event) → EntersWith l d (xs ++ ys) → EntersWith l d xs ⊎ EntersWith l d ys
enters_either l d [] ys h = inr h
enters_either l d (noted t e ∷ xs) ys h = enters_either l d xs ys h
enters_either l d (signs m t ∷ xs) ys h = enters_either l d xs ys h
enters_either l d (enters m t x ∷ xs) ys (inl e) = inl (inl e)
enters_either l d (enters m t x ∷ xs) ys (inr h) = after (enters_either l d xs ys h)
  where
    after : EntersWith l d xs ⊎ EntersWith l d ys → (((l ≡ m) × (d ≡ x)) ⊎ EntersWith l d xs) ⊎ EntersWith l d ys
    after (inl j) = inl (inr j)
    after (inr j) = inr j
enters_either l d (acts label moment done ∷ xs) ys h = enters_either l d xs ys h
enters_either l d (starts i m t ∷ xs) ys h = enters_either l d xs ys h

-- a child that both start, one of them does
pub starts_either : (i : ℕ) (xs ys : List Event) → StartsChild i (xs ++ ys) → StartsChild i xs ⊎ StartsChild i ys
starts_either i [] ys h = inr h
starts_either i (noted t e ∷ xs) ys h = starts_either i xs ys h
starts_either i (signs m t ∷ xs) ys h = starts_either i xs ys h
starts_either i (enters m t d ∷ xs) ys h = starts_either i xs ys h
starts_either i (acts label moment done ∷ xs) ys h = starts_either i xs ys h
starts_either i (starts j m t ∷ xs) ys (inl e) = inl (inl e)
starts_either i (starts j m t ∷ xs) ys (inr h) = after (starts_either i xs ys h)
  where
    after : StartsChild i xs ⊎ StartsChild i ys → ((i ≡ j) ⊎ StartsChild i xs) ⊎ StartsChild i ys
    after (inl k) = inl (inr k)
    after (inr k) = inr k

one_more : (b : Bool) (n : ℕ) → b ≡ true → 1 ≤ (if b then 1 else 0) + n
one_more true n e = omega arith
one_more false n e = cc

no_fewer : (b : Bool) (n : ℕ) → 1 ≤ n → 1 ≤ (if b then 1 else 0) + n
no_fewer true n h = omega arith
no_fewer false n h = omega arith

same_for : (l m : Label) → l ≡ m → same_label l m ≡ true
same_for l m e = subst (λ (x : Label). same_label l x ≡ true) e (same_label_itself l)

-- what a log enters is counted
pub entered_times : (l : Label) (d : Tick) (a : Log) → EnteredIn l d a → 1 ≤ times_entered l a
entered_times l d nil h = absurd h
entered_times l d (entry t e rest) h = entered_times l d rest h
entered_times l d (sign m t rest) h = entered_times l d rest h
entered_times l d (entered m t x rest) (inl e) = one_more (same_label l m) (times_entered l rest) (same_for l m e.0)
entered_times l d (entered m t x rest) (inr h) = no_fewer (same_label l m) (times_entered l rest) (entered_times l d rest h)
entered_times l d (act label moment done rest) h = entered_times l d rest h
entered_times l d (task m s u e own rest) (inl h) = omega (arith, entered_times l d own h)
entered_times l d (task m s u e own rest) (inr h) = omega (arith, entered_times l d rest h)

-- a label that is entered with some deadline is entered
pub enters_too : (l : Label) (d : Tick) (es : List Event) → EntersWith l d es → EntersIn l es
enters_too l d [] h = absurd h
enters_too l d (noted t e ∷ es) h = enters_too l d es h
enters_too l d (signs m t ∷ es) h = enters_too l d es h
enters_too l d (enters m t x ∷ es) (inl e) = inl e.0
enters_too l d (enters m t x ∷ es) (inr h) = inr (enters_too l d es h)
enters_too l d (acts label moment done ∷ es) h = enters_too l d es h
enters_too l d (starts i m t ∷ es) h = enters_too l d es h

-- and entered once at least
pub enters_counted : (l : Label) (es : List Event) → EntersIn l es → 1 ≤ times_made l es
unfolding times_made
enters_counted l [] h = absurd h
enters_counted l (noted t e ∷ es) h = enters_counted l es h
enters_counted l (signs m t ∷ es) h = enters_counted l es h
enters_counted l (enters m t x ∷ es) (inl e) = one_more (same_label l m) (times_made l es) (same_for l m e)
enters_counted l (enters m t x ∷ es) (inr h) = no_fewer (same_label l m) (times_made l es) (enters_counted l es h)
enters_counted l (acts label moment done ∷ es) h = enters_counted l es h
enters_counted l (starts i m t ∷ es) h = enters_counted l es h

-- so it is with a deadline
pub enters_times : (l : Label) (d : Tick) (es : List Event) → EntersWith l d es → 1 ≤ times_made l es
enters_times l d es h = enters_counted l es (enters_too l d es h)

-- a label that is entered once is entered with that deadline once, and not again
pub enters_once : (l : Label) (d : Tick) (es : List Event) → EntersWith l d es → times_made l es ≡ 1 → EntersOnceWith l d es
unfolding times_made
enters_once l d [] h n = absurd h
enters_once l d (noted t e ∷ es) h n = enters_once l d es h n
enters_once l d (signs m t ∷ es) h n = enters_once l d es h n
enters_once l d (enters m t c ∷ es) (inl e) n = inl (e.0, e.1, none (same_label l m) (same_for l m e.0) n)
  where
    none : (b : Bool) → b ≡ true → (if b then 1 else 0) + times_made l es ≡ 1 → EntersIn l es → ⊥
    none true f g i = let j : 1 ≤ times_made l es = enters_counted l es i in absurd (omega arith)
    none false f g i = cc
enters_once l d (enters m t c ∷ es) (inr h) n = by_test (same_label l m) refl n (enters_times l d es h) (enters_once l d es h)
  where
    by_test : (b : Bool) → same_label l m ≡ b → (if b then 1 else 0) + times_made l es ≡ 1 → 1 ≤ times_made l es →
        (times_made l es ≡ 1 → EntersOnceWith l d es) → EntersOnceWith l d (enters m t c ∷ es)
    by_test true f g j more = absurd (omega arith)
    by_test false f g j more = inr (λ e. differ e, more (omega arith))
      where
        differ : l ≡ m → ⊥
        differ e = let x : true ≡ false = sym (same_for l m e) ∙ f in cc
enters_once l d (acts label moment done ∷ es) h n = enters_once l d es h n
enters_once l d (starts i m t ∷ es) h n = enters_once l d es h n

-- ---- logs

-- the first sign of two parts of a log, and how often they enter a label
pub least_join : (c : ℕ) (l : Label) (a b : Log) → upto c (least_sign l (followed_by a b))
    ≡ min (upto c (least_sign l a)) (upto c (least_sign l b))
least_join c l a b = ap (upto c) (least_followed l a b) ∙ upto_earlier c (least_sign l a) (least_sign l b)

-- how often a label is entered in two parts of a log: in both counted together
pub left_join : (l : Label) (a b : Log) → times_entered l (followed_by a b) ≡ times_entered l a + times_entered l b
left_join l nil b = omega arith
left_join l (entry t e rest) b = left_join l rest b
left_join l (sign m t rest) b = left_join l rest b
left_join l (entered m t d rest) b = omega (arith, left_join l rest b)
left_join l (act label moment done rest) b = left_join l rest b
left_join l (task m s u e own rest) b = omega (arith, left_join l rest b)

-- what one part enters, both do
pub entered_first : (l : Label) (d : Tick) (a b : Log) → EnteredIn l d a → EnteredIn l d (followed_by a b)
entered_first l d nil b h = absurd h
entered_first l d (entry t e rest) b h = entered_first l d rest b h
entered_first l d (sign m t rest) b h = entered_first l d rest b h
entered_first l d (entered m t x rest) b (inl e) = inl e
entered_first l d (entered m t x rest) b (inr h) = inr (entered_first l d rest b h)
entered_first l d (act label moment done rest) b h = entered_first l d rest b h
entered_first l d (task m s u e own rest) b (inl h) = inl h
entered_first l d (task m s u e own rest) b (inr h) = inr (entered_first l d rest b h)

-- what the second part of a log enters, both do
pub entered_second : (l : Label) (d : Tick) (a b : Log) → EnteredIn l d b → EnteredIn l d (followed_by a b)
entered_second l d nil b h = h
entered_second l d (entry t e rest) b h = entered_second l d rest b h
entered_second l d (sign m t rest) b h = entered_second l d rest b h
entered_second l d (entered m t x rest) b h = inr (entered_second l d rest b h)
entered_second l d (act label moment done rest) b h = entered_second l d rest b h
entered_second l d (task m s u e own rest) b h = inr (entered_second l d rest b h)

-- what is entered among events is entered in their log
pub enters_fill : (outcomes : ChildOutcomes) (l : Label) (d : Tick) (es : List Event) → EntersWith l d es → EnteredIn l d (fill outcomes es)
enters_fill outcomes l d [] h = absurd h
enters_fill outcomes l d (noted t e ∷ es) h = enters_fill outcomes l d es h
enters_fill outcomes l d (signs m t ∷ es) h = enters_fill outcomes l d es h
enters_fill outcomes l d (enters m t x ∷ es) (inl e) = inl e
enters_fill outcomes l d (enters m t x ∷ es) (inr h) = inr (enters_fill outcomes l d es h)
enters_fill outcomes l d (acts label moment done ∷ es) h = enters_fill outcomes l d es h
enters_fill outcomes l d (starts i m t ∷ es) h = inr (enters_fill outcomes l d es h)

-- ---- all tasks

-- the first sign as far as c is no later than c
pub made_low : (c : ℕ) (l : Label) (qs : List Started) → made_least c l qs ≤ c
unfolding made_least
made_low c l [] = omega arith
made_low c l (q ∷ qs) = omega (arith, made_low c l qs)

-- the first sign as far as c among what all made and have left is no later than c
pub all_low : (c : ℕ) (l : Label) (qs : List Started) → all_least c l qs ≤ c
unfolding all_least
all_low c l [] = omega arith
all_low c l (q ∷ qs) = omega (arith, all_low c l qs)

-- two parts of the tasks together
pub all_least_join : (c : ℕ) (l : Label) (xs ys : List Started) → all_least c l (xs ++ ys) ≡ min (all_least c l xs) (all_least c l ys)
unfolding all_least
all_least_join c l [] ys = omega (arith, all_low c l ys)
all_least_join c l (x ∷ xs) ys = omega (arith, all_least_join c l xs ys)

-- how often two parts of the tasks enter a label or have it left: both counted together
pub all_times_join : (l : Label) (xs ys : List Started) → all_times l (xs ++ ys) ≡ all_times l xs + all_times l ys
unfolding all_times
all_times_join l [] ys = omega arith
all_times_join l (x ∷ xs) ys = omega (arith, all_times_join l xs ys)

-- what was entered is at most that with what is left to enter
pub made_few : (l : Label) (qs : List Started) → made_times l qs ≤ all_times l qs
unfolding made_times all_times
made_few l [] = omega arith
made_few l (q ∷ qs) = omega (arith, made_few l qs)

-- a label that some task made or left is counted
pub made_counted : (l : Label) (q : Started) (qs : List Started) → IsAmong q qs → times_made l q.made ≤ made_times l qs
unfolding made_times
made_counted l q [] i = absurd i
made_counted l q (x ∷ qs) (inl e) = let z : times_made l q.made ≡ times_made l x.made =
    ap (λ (y : Started). times_made l y.made) e in omega arith
made_counted l q (x ∷ qs) (inr i) = omega (arith, made_counted l q qs i)

-- a label that a task has left to enter was entered by none, where it is entered once at most
pub left_fresh : (l : Label) (q : Started) (qs : List Started) → IsAmong q qs → 1 ≤ times_entered l q.left → all_times l qs ≤ 1 →
    made_times l qs ≡ 0
unfolding all_times made_times
left_fresh l q [] i c h = absurd i
left_fresh l q (x ∷ qs) (inl e) c h =
    let y : times_entered l q.left ≡ times_entered l x.left = ap (λ (z : Started). times_entered l z.left) e in
    let z : made_times l qs ≤ all_times l qs = made_few l qs in
    omega arith
left_fresh l q (x ∷ qs) (inr i) c h =
    let w : 1 ≤ all_times l qs = more l q qs i c in
    let z : made_times l qs ≡ 0 = left_fresh l q qs i c (omega arith) in
    omega arith
  where
    more : (l : Label) (q : Started) (ys : List Started) → IsAmong q ys → 1 ≤ times_entered l q.left → 1 ≤ all_times l ys
    more l q [] i c = absurd i
    more l q (y ∷ ys) (inl e) c = let z : times_entered l q.left ≡ times_entered l y.left =
        ap (λ (v : Started). times_entered l v.left) e in omega arith
    more l q (y ∷ ys) (inr i) c = omega (arith, more l q ys i c)
