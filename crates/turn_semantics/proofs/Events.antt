-- What events that are made one after another mean, and how the moments of cancellation change by them.
use Rattle.std.proofs.Common.{◌≡◌, inl, inr, ℕ, suc, ◌+◌, Some, List, [], ◌∷◌, ◌++◌, length, refl, sym, ◌∙◌, subst, arith}
use Rattle.turn_semantics.specs.Lists.{IsAmong}
use Rattle.exceptions.specs.Exceptions.{Label}
use Rattle.job_meaning.specs.Log.{Table}
use Rattle.job_meaning.specs.declared.clock.Clock.{Clock}
use Rattle.job_meaning.specs.declared.clock.Clock.TheVariants.{ByTicks as by_ticks, ByRounds as by_rounds}
use Rattle.job_meaning.specs.Walk.{with_own}
use Rattle.job_meaning.specs.Rest.{Event, noted, signs, enters, acts, starts, ChildOutcomes, fill}
use Rattle.turn_semantics.specs.Midway.{Place, Begun, own_after, OwnFits}
use Rattle.turn_semantics.specs.Steps.{cancelled_from_after_sign, cancelled_from_after_entry, cancelled_from_after}
use Rattle.turn_semantics.specs.Turned.{AgreesOn, AgreesIn, labels_of, AllKnown, known_after, MadeAt, Starts, BegunIn, AllBy, weight_of_begun}
use Rattle.turn_semantics.proofs.Agreeing.{SameFrom, agrees_lowered, agrees_opened, agrees_own}

-- ---- labels that are known

-- a label that is known is known among more
pub known_more : (l m : Label) (ls : List Label) → IsAmong l ls → IsAmong l (m ∷ ls)
known_more l m ls k = inr k

-- what was known stays known
pub known_stays : (l : Label) (es : List Event) (ls : List Label) → IsAmong l ls → IsAmong l (known_after ls es)
known_stays l [] ls k = k
known_stays l (noted t e ∷ es) ls k = known_stays l es ls k
known_stays l (signs m t ∷ es) ls k = known_stays l es ls k
known_stays l (enters m t d ∷ es) ls k = known_stays l es (m ∷ ls) (inr k)
known_stays l (acts m t done ∷ es) ls k = known_stays l es ls k
known_stays l (starts i m t ∷ es) ls k = known_stays l es ls k

-- more labels known before, more after
pub known_grows : (ls ms : List Label) → ((l : Label) → IsAmong l ls → IsAmong l ms) → (es : List Event) → (l : Label) →
    IsAmong l (known_after ls es) → IsAmong l (known_after ms es)
known_grows ls ms h [] l k = h l k
known_grows ls ms h (noted t e ∷ es) l k = known_grows ls ms h es l k
known_grows ls ms h (signs m t ∷ es) l k = known_grows ls ms h es l k
known_grows ls ms h (enters m t d ∷ es) l k = known_grows (m ∷ ls) (m ∷ ms) grown es l k
  where
    grown : (l : Label) → IsAmong l (m ∷ ls) → IsAmong l (m ∷ ms)
    grown l (inl e) = inl e
    grown l (inr k) = inr (h l k)
known_grows ls ms h (acts m t done ∷ es) l k = known_grows ls ms h es l k
known_grows ls ms h (starts i m t ∷ es) l k = known_grows ls ms h es l k

-- labels known after events, and more of them
pub known_append : (es fs : List Event) (ls : List Label) → known_after ls (es ++ fs) ≡ known_after (known_after ls es) fs
known_append [] fs ls = refl
known_append (noted t e ∷ es) fs ls = known_append es fs ls
known_append (signs m t ∷ es) fs ls = known_append es fs ls
known_append (enters m t d ∷ es) fs ls = known_append es fs (m ∷ ls)
known_append (acts m t done ∷ es) fs ls = known_append es fs ls
known_append (starts i m t ∷ es) fs ls = known_append es fs ls

-- each enclosing scope or nursery whose label was known is known where more labels are known
pub all_grow : (ls ms : List Label) → ((l : Label) → IsAmong l ls → IsAmong l ms) → (ps : List Place) → AllKnown ps ls → AllKnown ps ms
all_grow ls ms h [] a = tt
all_grow ls ms h (p ∷ ps) a = (h p.label a.0, all_grow ls ms h ps a.1)

-- enclosing scopes and nurseries are known by their own labels
pub all_own : (ps : List Place) → AllKnown ps (labels_of ps)
all_own [] = tt
all_own (p ∷ ps) = (inl refl, all_grow (labels_of ps) (p.label ∷ labels_of ps) (λ l k. inr k) ps (all_own ps))

-- a label of enclosing scopes and nurseries that are all known is known
pub place_known : (ls : List Label) (ps : List Place) → AllKnown ps ls → (l : Label) → IsAmong l (labels_of ps) → IsAmong l ls
place_known ls [] a l k = absurd k
place_known ls (p ∷ ps) a l (inl e) = subst (λ (x : Label). IsAmong x ls) (sym e) a.0
place_known ls (p ∷ ps) a l (inr k) = place_known ls ps a.1 l k

-- so is each enclosing scope or nursery of each child begun
pub begun_grow : (ls ms : List Label) → ((l : Label) → IsAmong l ls → IsAmong l ms) → (bs : List Begun) → BegunIn ls bs → BegunIn ms bs
begun_grow ls ms h [] a = tt
begun_grow ls ms h (b ∷ bs) a = (all_grow ls ms h b.places a.0, a.1, begun_grow ls ms h bs a.2)

-- children begun, and more of them
pub begun_append : (ls : List Label) (bs cs : List Begun) → BegunIn ls bs → BegunIn ls cs → BegunIn ls (bs ++ cs)
begun_append ls [] cs a b = b
begun_append ls (x ∷ bs) cs a b = (a.0, a.1, begun_append ls bs cs a.2 b)

-- and all of them count by the same clock
pub clocks_append : (clock : Clock) (bs cs : List Begun) → AllBy clock bs → AllBy clock cs → AllBy clock (bs ++ cs)
clocks_append clock [] cs a b = b
clocks_append clock (x ∷ bs) cs a b = (a.0, clocks_append clock bs cs a.1 b)

-- ---- events made in one moment

-- signs for labels that are known are for known ones of more
pub made_grows : (clock : Clock) (t : ℕ) (ls ms : List Label) → ((l : Label) → IsAmong l ls → IsAmong l ms) → (es : List Event) → MadeAt clock t ls es →
    MadeAt clock t ms es
made_grows clock t ls ms h [] a = tt
made_grows clock t ls ms h (noted u e ∷ es) a = (a.0, made_grows clock t ls ms h es a.1)
made_grows clock t ls ms h (signs l u ∷ es) a = (a.0, h l a.1, made_grows clock t ls ms h es a.2)
made_grows clock t ls ms h (enters m u d ∷ es) a = (a.0, made_grows clock t (m ∷ ls) (m ∷ ms) grown es a.1)
  where
    grown : (l : Label) → IsAmong l (m ∷ ls) → IsAmong l (m ∷ ms)
    grown l (inl e) = inl e
    grown l (inr k) = inr (h l k)
made_grows clock t ls ms h (acts m u done ∷ es) a = (a.0, made_grows clock t ls ms h es a.1)
made_grows clock t ls ms h (starts i l u ∷ es) a = (a.0, made_grows clock t ls ms h es a.1)

-- events made, and more of them
pub made_append : (clock : Clock) (t : ℕ) (es fs : List Event) (ls : List Label) → MadeAt clock t ls es → MadeAt clock t (known_after ls es) fs → MadeAt clock t ls (es ++ fs)
made_append clock t [] fs ls a b = b
made_append clock t (noted u e ∷ es) fs ls a b = (a.0, made_append clock t es fs ls a.1 b)
made_append clock t (signs l u ∷ es) fs ls a b = (a.0, a.1, made_append clock t es fs ls a.2 b)
made_append clock t (enters m u d ∷ es) fs ls a b = (a.0, made_append clock t es fs (m ∷ ls) a.1 b)
made_append clock t (acts m u done ∷ es) fs ls a b = (a.0, made_append clock t es fs ls a.1 b)
made_append clock t (starts i l u ∷ es) fs ls a b = (a.0, made_append clock t es fs ls a.1 b)

-- ---- what a task has cancelled in this moment

-- what it has cancelled after events, and more of them
pub own_append : (clock : Clock) (es fs : List Event) (own : List Label) →
    own_after clock own (es ++ fs) ≡ own_after clock (own_after clock own es) fs
own_append clock [] fs own = refl
own_append clock (noted t e ∷ es) fs own = own_append clock es fs own
own_append clock (signs l t ∷ es) fs own = own_append clock es fs (with_own clock (Some l) own)
own_append clock (enters l t d ∷ es) fs own = own_append clock es fs own
own_append clock (acts m t done ∷ es) fs own = own_append clock es fs own
own_append clock (starts i l t ∷ es) fs own = own_append clock es fs own

-- where moments are ticks, it stays none
pub own_fits : (clock : Clock) (own : List Label) (es : List Event) → OwnFits clock own → OwnFits clock (own_after clock own es)
own_fits by_ticks own es h = unchanged es own ∙ h
  where
    unchanged : (es : List Event) (own : List Label) → own_after by_ticks own es ≡ own
    unchanged [] own = refl
    unchanged (noted t e ∷ es) own = unchanged es own
    unchanged (signs l t ∷ es) own = unchanged es own
    unchanged (enters l t d ∷ es) own = unchanged es own
    unchanged (acts m t done ∷ es) own = unchanged es own
    unchanged (starts i l t ∷ es) own = unchanged es own
own_fits by_rounds own es h = tt

-- a task that has cancelled nothing in this moment is in time as it has to be
pub none_fits : (clock : Clock) (own : List Label) → own ≡ [] → OwnFits clock own
none_fits by_ticks own e = e
none_fits by_rounds own e = tt

-- ---- starts

-- starts of children, and more of them
pub starts_append : (es fs : List Event) (n : ℕ) (bs cs : List Begun) → Starts n es bs → Starts (n + length bs) fs cs →
    Starts n (es ++ fs) (bs ++ cs)
starts_append [] fs n [] cs a b = subst (λ (k : ℕ). Starts k fs cs) (omega arith) b
starts_append [] fs n (x ∷ bs) cs a b = absurd a
starts_append (noted t e ∷ es) fs n bs cs a b = starts_append es fs n bs cs a b
starts_append (signs m t ∷ es) fs n bs cs a b = starts_append es fs n bs cs a b
starts_append (enters m t d ∷ es) fs n bs cs a b = starts_append es fs n bs cs a b
starts_append (acts m t done ∷ es) fs n bs cs a b = starts_append es fs n bs cs a b
starts_append (starts i l t ∷ es) fs n [] cs a b = absurd a
starts_append (starts i l t ∷ es) fs n (x ∷ bs) cs a b =
    (a.0, a.1, a.2, starts_append es fs (suc n) bs cs a.3 (subst (λ (k : ℕ). Starts k fs cs) (moved n (length bs)) b))
  where
    moved : (n k : ℕ) → n + suc k ≡ suc n + k
    moved n k = omega arith

-- weights of children add up
pub weight_append : (bs cs : List Begun) → weight_of_begun (bs ++ cs) ≡ weight_of_begun bs + weight_of_begun cs
weight_append [] cs = omega arith
weight_append (b ∷ bs) cs = let e = weight_append bs cs in omega arith

-- ---- moments of cancellation

-- the moments of cancellation after events, and more of them
pub cancelled_from_append : (es fs : List Event) (cancelled_from : Table) → cancelled_from_after cancelled_from (es ++ fs) ≡ cancelled_from_after (cancelled_from_after cancelled_from es) fs
cancelled_from_append [] fs cancelled_from = refl
cancelled_from_append (noted t e ∷ es) fs cancelled_from = cancelled_from_append es fs cancelled_from
cancelled_from_append (signs l t ∷ es) fs cancelled_from = cancelled_from_append es fs (cancelled_from_after_sign cancelled_from l t)
cancelled_from_append (enters l t d ∷ es) fs cancelled_from = cancelled_from_append es fs (cancelled_from_after_entry cancelled_from l d)
cancelled_from_append (acts m t done ∷ es) fs cancelled_from = cancelled_from_append es fs cancelled_from
cancelled_from_append (starts i l t ∷ es) fs cancelled_from = cancelled_from_append es fs cancelled_from

-- A table that agrees at t with the moments of cancellation of known labels, and with the deadlines of those entered, agrees
-- after the events too: a sign made at t acts from the next moment on.
pub known_agree : (clock : Clock) (t : ℕ) (table : Table) (outcomes : ChildOutcomes) (es : List Event) (ls : List Label) (cancelled_from : Table) → MadeAt clock t ls es →
    AgreesIn t table (fill outcomes es) →
    ((l : Label) → IsAmong l ls → SameFrom t table cancelled_from l) → (l : Label) → IsAmong l (known_after ls es) →
    SameFrom t table (cancelled_from_after cancelled_from es) l
known_agree clock t table outcomes [] ls cancelled_from a b h l k = h l k
known_agree clock t table outcomes (noted u e ∷ es) ls cancelled_from a b h l k = known_agree clock t table outcomes es ls cancelled_from a.1 b h l k
known_agree clock t table outcomes (signs m u ∷ es) ls cancelled_from a b h l k =
    known_agree clock t table outcomes es ls (cancelled_from_after_sign cancelled_from m u) a.2 b
    (λ x i. subst (λ (v : ℕ). SameFrom t table (cancelled_from_after_sign cancelled_from m v) x) (sym a.0) (agrees_lowered t table cancelled_from m x (h x i))) l k
known_agree clock t table outcomes (enters m u d ∷ es) ls cancelled_from a b h l k = known_agree clock t table outcomes es (m ∷ ls) (cancelled_from_after_entry cancelled_from m d) a.1 b.1 grown l k
  where
    grown : (x : Label) → IsAmong x (m ∷ ls) → SameFrom t table (cancelled_from_after_entry cancelled_from m d) x
    grown x (inl e) = subst (λ (y : Label). SameFrom t table (cancelled_from_after_entry cancelled_from m d) y) (sym e) (agrees_own t table cancelled_from m d b.0)
    grown x (inr i) = agrees_opened t table cancelled_from m d x b.0 (h x i)
known_agree clock t table outcomes (acts m u done ∷ es) ls cancelled_from a b h l k = known_agree clock t table outcomes es ls cancelled_from a.1 b h l k
known_agree clock t table outcomes (starts i m u ∷ es) ls cancelled_from a b h l k = known_agree clock t table outcomes es ls cancelled_from a.1 b h l k

-- if tables agree on enclosing scopes and nurseries, they agree on each of their labels
pub on_places : (t : ℕ) (table cancelled_from : Table) (ps : List Place) → AgreesOn t table cancelled_from ps → (l : Label) → IsAmong l (labels_of ps) →
    SameFrom t table cancelled_from l
on_places t table cancelled_from [] a l k = absurd k
on_places t table cancelled_from (p ∷ ps) a l (inl e) = subst (λ (x : Label). SameFrom t table cancelled_from x) (sym e) a.0
on_places t table cancelled_from (p ∷ ps) a l (inr k) = on_places t table cancelled_from ps a.1 l k

-- and if they agree on known labels, they agree on enclosing scopes and nurseries that are known
pub by_known : (t : ℕ) (table cancelled_from : Table) (ls : List Label) → ((l : Label) → IsAmong l ls → SameFrom t table cancelled_from l) → (ps : List Place) →
    AllKnown ps ls → AgreesOn t table cancelled_from ps
by_known t table cancelled_from ls h [] a = tt
by_known t table cancelled_from ls h (p ∷ ps) a = (h p.label a.0, by_known t table cancelled_from ls h ps a.1)

-- so a table agrees with the moments of cancellation after the events, on enclosing scopes and nurseries that were there before
-- or were entered
pub agrees_after : (clock : Clock) (t : ℕ) (table : Table) (outcomes : ChildOutcomes) (es : List Event) (ps qs : List Place) (cancelled_from : Table) →
    MadeAt clock t (labels_of ps) es → AllKnown qs (known_after (labels_of ps) es) →
    AgreesOn t table cancelled_from ps → AgreesIn t table (fill outcomes es) → AgreesOn t table (cancelled_from_after cancelled_from es) qs
agrees_after clock t table outcomes es ps qs cancelled_from a k h b =
    by_known t table (cancelled_from_after cancelled_from es) (known_after (labels_of ps) es)
    (known_agree clock t table outcomes es (labels_of ps) cancelled_from a b (on_places t table cancelled_from ps h)) qs k
