-- What a table and the moments of cancellation of the world show alike, where they agree.
use Rattle.std.proofs.Common.{◌≡◌, ℕ, suc, ◌+◌, Bool, true, false, ◌&&◌, not, Option, Some, None, List, [], ◌∷◌, refl, ap, sym, ◌∙◌, arith}
use Rattle.std.specs.Str.{bytes_eq}
use Rattle.exceptions.specs.Exceptions.{Label, cancelled}
use Rattle.cancel_scopes.specs.Sight.{Tick, Level, is_reached, sight, seen, catches}
use Rattle.job_meaning.specs.Log.{Result, Table, same_label}
use Rattle.job_meaning.specs.Moments.{only_at}
use Rattle.job_meaning.specs.declared.clock.Clock.{Clock}
use Rattle.job_meaning.specs.declared.clock.Clock.TheVariants.{ByTicks as by_ticks}
use Rattle.job_meaning.specs.Walk.{Levels, Stack, from_for, stack_for, wait_by_sight, sleep_result, pace_result, raised_at, done_at, label_on, label_if, event_on, level_if, home_of}
use Rattle.job_meaning.specs.Before.{upto, Near}
use Rattle.job_meaning.proofs.Clips.{upto_most, upto_earlier, seen_near}
use Rattle.job_meaning.proofs.Causality.{catches_near}
use Rattle.job_meaning.proofs.OwnSight.{from_for_near, stack_for_near}
use Rattle.job_meaning.proofs.Distinct.{same_label_equal, same_label_itself}
use Rattle.turn_semantics.specs.Midway.{Place, label_among, level_on, stack_at}
use Rattle.turn_semantics.specs.Steps.{home_among, cancelled_from_after_sign, from_lowered_if, cancelled_from_after_entry, from_entered_if}
use Rattle.turn_semantics.specs.Turned.{AgreesOn}

-- a level more on near stacks
near_level : (b : Bool) (c : ℕ) (label : Label) (shield : Bool) (f g : Tick) (st su : Stack) → upto c f ≡ upto c g → Near c st su →
    Near c (level_on b (record { label = label; shield = shield; from = f }) st) (level_on b (record { label = label; shield = shield; from = g }) su)
near_level true c label shield f g st su e n = (n.0, (refl, refl, e, n.1))
near_level false c label shield f g st su e n = ((refl, refl, e, n.0), n.1)

-- the stacks are near each other as far as the present moment
pub near_stacks : (t : ℕ) (table cancelled_from : Table) (ps : List Place) → AgreesOn t table cancelled_from ps →
    Near (suc t) (stack_at table ps) (stack_at cancelled_from ps)
near_stacks t table cancelled_from [] a = (tt, tt)
near_stacks t table cancelled_from (p ∷ ps) a =
    near_level p.is_event (suc t) p.label p.shield (table p.label) (cancelled_from p.label) (stack_at table ps) (stack_at cancelled_from ps) a.0
    (near_stacks t table cancelled_from ps a.1)

-- so the same is seen now
pub seen_alike : (t : ℕ) (table cancelled_from : Table) (ps : List Place) → AgreesOn t table cancelled_from ps →
    seen (stack_at table ps).scopes t ≡ seen (stack_at cancelled_from ps).scopes t
seen_alike t table cancelled_from ps a =
    seen_near (suc t) (stack_at table ps).scopes (stack_at cancelled_from ps).scopes t (near_stacks t table cancelled_from ps a).0 (omega arith)

-- by a task that has cancelled some labels too
pub own_seen_alike : (own : List Label) (t : ℕ) (table cancelled_from : Table) (ps : List Place) → AgreesOn t table cancelled_from ps →
    seen (stack_for own t (stack_at table ps).scopes) t ≡ seen (stack_for own t (stack_at cancelled_from ps).scopes) t
own_seen_alike own t table cancelled_from ps a =
    seen_near (suc t) (stack_for own t (stack_at table ps).scopes) (stack_for own t (stack_at cancelled_from ps).scopes) t
    (stack_for_near (suc t) own t (stack_at table ps).scopes (stack_at cancelled_from ps).scopes (near_stacks t table cancelled_from ps a).0) (omega arith)

-- and the innermost enclosing scope or nursery catches in the same way, for a task that has cancelled some labels
pub catches_alike : (own : List Label) (t : ℕ) (table cancelled_from : Table) (p : Place) (ps : List Place) → AgreesOn t table cancelled_from (p ∷ ps) →
    catches (from_for own t p.label (table p.label)) p.shield (stack_for own t (stack_at table ps).scopes) t
    ≡ catches (from_for own t p.label (cancelled_from p.label)) p.shield (stack_for own t (stack_at cancelled_from ps).scopes) t
catches_alike own t table cancelled_from p ps a =
    catches_near (suc t) (from_for own t p.label (table p.label)) (from_for own t p.label (cancelled_from p.label)) p.shield
    (stack_for own t (stack_at table ps).scopes) (stack_for own t (stack_at cancelled_from ps).scopes) t t
    (from_for_near (suc t) own t p.label p.label (table p.label) (cancelled_from p.label) refl a.0)
    (stack_for_near (suc t) own t (stack_at table ps).scopes (stack_at cancelled_from ps).scopes (near_stacks t table cancelled_from ps a.1).0) (omega arith) refl

-- ---- names on a stack

-- the label of a name is the same among the scopes of a stack as among the enclosing scopes and nurseries
pub scope_at_places : (table : Table) (name : List ℕ) (ps : List Place) →
    label_on name (stack_at table ps).scopes ≡ label_among false name ps
scope_at_places table name [] = refl
scope_at_places table name (p ∷ ps) = by_kind p.is_event (scope_at_places table name ps)
  where
    by_kind : (b : Bool) → label_on name (stack_at table ps).scopes ≡ label_among false name ps →
        label_on name (level_on b (record { label = p.label; shield = p.shield; from = table p.label }) (stack_at table ps)).scopes
        ≡ label_if (not b && bytes_eq name p.label.name) p.label (label_among false name ps)
    by_kind true e = e
    by_kind false e = ap (λ (o : Option Label). label_if (bytes_eq name p.label.name) p.label o) e

-- and among its events as among the enclosing events
pub event_at_places : (table : Table) (name : List ℕ) (ps : List Place) →
    label_on name (stack_at table ps).events ≡ label_among true name ps
event_at_places table name [] = refl
event_at_places table name (p ∷ ps) = by_kind p.is_event (event_at_places table name ps)
  where
    by_kind : (b : Bool) → label_on name (stack_at table ps).events ≡ label_among true name ps →
        label_on name (level_on b (record { label = p.label; shield = p.shield; from = table p.label }) (stack_at table ps)).events
        ≡ label_if (b && bytes_eq name p.label.name) p.label (label_among true name ps)
    by_kind true e = ap (λ (o : Option Label). label_if (bytes_eq name p.label.name) p.label o) e
    by_kind false e = e

-- the innermost scope or nursery of a stack is the innermost enclosing one
pub home_at_places : (table : Table) (ps : List Place) → home_of (stack_at table ps).scopes ≡ home_among ps
home_at_places table [] = refl
home_at_places table (p ∷ ps) = by_kind p.is_event (home_at_places table ps)
  where
    by_kind : (b : Bool) → home_of (stack_at table ps).scopes ≡ home_among ps →
        home_of (level_on b (record { label = p.label; shield = p.shield; from = table p.label }) (stack_at table ps)).scopes
        ≡ label_if (not b) p.label (home_among ps)
    by_kind true e = e
    by_kind false e = refl

-- the label of an event, if there is one
abbrev pub label_of : Option (Level Label) → Option Label
label_of None = None
label_of (Some l) = Some l.label

-- the event of a name has the label of that name
event_label : (name : List ℕ) (ls : Levels) → label_of (event_on name ls) ≡ label_on name ls
event_label name [] = refl
event_label name (l ∷ ls) = by_test (bytes_eq name l.label.name) (event_label name ls)
  where
    by_test : (b : Bool) → label_of (event_on name ls) ≡ label_on name ls →
        label_of (level_if b l (event_on name ls)) ≡ label_if b l.label (label_on name ls)
    by_test true e = refl
    by_test false e = e

-- so no event of a name is on the stack where none encloses the task, and one is where one does
pub event_found : (table : Table) (name : List ℕ) (ps : List Place) →
    label_of (event_on name (stack_at table ps).events) ≡ label_among true name ps
event_found table name ps = event_label name (stack_at table ps).events ∙ event_at_places table name ps

-- ---- sleeps

-- the result of a sleep, by `pace` or not
abbrev pub slept : Bool → Clock → Stack → ℕ → ℕ → Result
slept false clock st n t = sleep_result clock st n t
slept true clock st n t = pace_result clock st n t

-- a wait where a cancellation is seen at once
waits_seen : (a : Tick) (n t : ℕ) → is_reached a t ≡ true → wait_by_sight a t t (t + n) ≡ raised_at cancelled (only_at t)
waits_seen None n t e = absurd (cc)
waits_seen (Some from) n t e = rw e refl

-- a wait of no tick where none is seen
waits_none : (a : Tick) (t : ℕ) → is_reached a t ≡ false → wait_by_sight a t t (t + 0) ≡ done_at (only_at t)
waits_none a t e = by_sight a e
  where
    same : t + 0 ≡ t
    same = omega arith

    by_sight : (a : Tick) → is_reached a t ≡ false → wait_by_sight a t t (t + 0) ≡ done_at (only_at t)
    by_sight None e = rw same refl
    by_sight (Some from) e = rw same (rw e refl)

-- where moments are ticks, a sleep where a cancellation is seen, by `pace` or not
pub sleep_seen : (paced : Bool) (st : Stack) (n t : ℕ) → seen st.scopes t ≡ true → slept paced by_ticks st n t ≡ raised_at cancelled (only_at t)
unfolding sleep_result pace_result
sleep_seen false st n t e = waits_seen (sight st.scopes) n t e
sleep_seen true st n t e = waits_seen (sight st.scopes) n t e

-- and a sleep of no tick where none is seen
pub sleep_none : (paced : Bool) (st : Stack) (t : ℕ) → seen st.scopes t ≡ false → slept paced by_ticks st 0 t ≡ done_at (only_at t)
unfolding sleep_result pace_result
sleep_none false st t e = waits_none (sight st.scopes) t e
sleep_none true st t e = waits_none (sight st.scopes) t e

-- ---- how the moments of cancellation change

module _ (t : ℕ) (table : Table) where
  -- a table agrees with moments of cancellation at a label
  abbrev pub SameFrom : Table → Label → Type 0
  SameFrom cancelled_from l = upto (suc t) (table l) ≡ upto (suc t) (cancelled_from l)

  -- a sign made now acts later
  pub agrees_lowered : (cancelled_from : Table) (m l : Label) → SameFrom cancelled_from l → SameFrom (cancelled_from_after_sign cancelled_from m t) l
  agrees_lowered cancelled_from m l a = by_label (same_label l m)
    where
      by_label : (b : Bool) → upto (suc t) (table l) ≡ upto (suc t) (from_lowered_if b t (cancelled_from l))
      by_label true = let h = upto_most (suc t) (cancelled_from l) in omega (arith, upto_earlier (suc t) (cancelled_from l) (Some (t + 1)))
      by_label false = a

  -- a label that is entered has its deadline
  pub agrees_opened : (cancelled_from : Table) (m : Label) (d : Tick) (l : Label) → upto (suc t) (table m) ≡ upto (suc t) d → SameFrom cancelled_from l →
      SameFrom (cancelled_from_after_entry cancelled_from m d) l
  agrees_opened cancelled_from m d l e a = by_label (same_label l m) refl
    where
      by_label : (b : Bool) → same_label l m ≡ b → upto (suc t) (table l) ≡ upto (suc t) (from_entered_if b d (cancelled_from l))
      by_label true h = ap (λ (x : Label). upto (suc t) (table x)) (same_label_equal l m h) ∙ e
      by_label false h = a

  -- the label itself has it
  pub agrees_own : (cancelled_from : Table) (m : Label) (d : Tick) → upto (suc t) (table m) ≡ upto (suc t) d → SameFrom (cancelled_from_after_entry cancelled_from m d) m
  agrees_own cancelled_from m d e = e ∙ ap (λ (b : Bool). upto (suc t) (from_entered_if b d (cancelled_from m))) (sym (same_label_itself m))

  -- what holds for each label holds for each enclosing scope or nursery
  pub each_place : (f g : Table) → ((l : Label) → SameFrom f l → SameFrom g l) → (ps : List Place) → AgreesOn t table f ps →
      AgreesOn t table g ps
  each_place f g h [] a = tt
  each_place f g h (p ∷ ps) a = (h p.label a.0, each_place f g h ps a.1)
