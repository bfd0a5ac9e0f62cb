-- What a task does to events: each is an open scope, and one of another task stays as it is, or is set in this moment.
use Rattle.std.proofs.Common.{◌≡◌, ◌≢◌, ◌⊎◌, inl, inr, ℕ, suc, ◌+◌, ◌<◌, ◌≤◌, Bool, true, false, Option, Some, None, List, [], ◌∷◌, ◌++◌, refl, ap, sym, ◌∙◌, subst, arith, if◌then◌else◌}
use Rattle.std.specs.Prelude.{IsSome, nat_lt}
use Rattle.std.proofs.lemmas.Bool.Decides.{leb_tells}
use Rattle.exceptions.specs.Exceptions.{Label}
use Rattle.cancel_scopes.specs.Sight.{Tick, earlier, next}
use Rattle.cancel_scopes.specs.Tree.{Tree, stack_of, IsOpen, after_cancel}
use Rattle.job_meaning.specs.Rest.{Event}
use Rattle.task_machine.specs.Acts.{Scoping, Signs, Sets, set_at_entry, Enters, Leaves, Acts, no_act, act_noted, act_shared, act_starts, act_signs, act_sets, act_enters, act_leaves}
use Rattle.task_machine.specs.Labels.{Events}
use Rattle.run_refinement.specs.Sights.{IsOneOf, StaysOrIsSet}
use Rattle.run_refinement.proofs.ActsKeep.{is_open, not_both, mapped_is, same_or, open_else, labelled_before}
use Rattle.task_machine.proofs.Stacked.{one_of}

-- ---- each event is an open scope

abbrev pub AreEvents : Scoping → Type 0
AreEvents s = (key : ℕ) (set : Tick) → s.events key ≡ Some set → IsOpen s.tree key

events_signs : {t : ℕ} {label : Label} {s m : Scoping} → Signs t label s m → AreEvents s → AreEvents m
events_signs {t} {label} {s} {m} g h key set e =
    subst IsSome (sym (g.cancels.stacks key)) (mapped_is (after_cancel g.key t) (stack_of s.tree key)
    (h key set (sym (ap (λ (z : Events). z key) g.events) ∙ e)))

events_sets : {t : ℕ} {label : Label} {s m : Scoping} → Sets t label s m → AreEvents s → AreEvents m
events_sets {t} {label} {s} {m} g h key set e =
    subst (λ (tree : Tree). IsOpen tree key) (sym g.tree) (by_key (labelled_before g.sets.lowered key set e))
  where
    Value : Option Tick
    Value = Some (earlier g.sets.from (next (Some t)))

    by_key : ((key ≡ g.key) × (Value ≡ Some set)) ⊎ ((key ≢ g.key) × (s.events key ≡ Some set)) → IsOpen s.tree key
    by_key (inl f) = subst (IsOpen s.tree) (sym f.0) g.opened
    by_key (inr f) = h key set f.1

events_enters : {parent : Option ℕ} {label : Label} {is_event : Bool} {d : Tick} {s m : Scoping} → Enters parent label is_event d s m →
    AreEvents s → AreEvents m
events_enters {parent} {label} {is_event} {d} {s} {m} g h key set e = by_key (labelled_before g.kind key set e)
  where
    by_key : ((key ≡ g.scope.id) × (set_at_entry is_event ≡ Some set)) ⊎ ((key ≢ g.scope.id) × (s.events key ≡ Some set)) →
        IsOpen m.tree key
    by_key (inl f) = is_open m.tree key _ (ap (stack_of m.tree) f.0 ∙ g.stack)
    by_key (inr f) = open_else s.tree m.tree g.scope.id key g.others f.0 (h key set f.1)

events_leaves : {s m : Scoping} → Leaves s m → AreEvents s → AreEvents m
events_leaves {s} {m} g h key set e = by_key (labelled_before g.no_event key set e)
  where
    by_key : ((key ≡ g.scope.id) × (None ≡ Some set)) ⊎ ((key ≢ g.scope.id) × (s.events key ≡ Some set)) → IsOpen m.tree key
    by_key (inl f) = absurd (not_both refl f.1)
    by_key (inr f) = open_else s.tree m.tree g.scope.id key g.others f.0 (h key set f.1)

-- each event stays an open scope, whatever a task does
pub events_acts : {t : ℕ} {s u : Scoping} {es : List Event} → Acts t s es u → AreEvents s → AreEvents u
events_acts (no_act s) h = h
events_acts (act_noted s u t e es a) h = events_acts a h
events_acts (act_shared s u shared t done es a) h = events_acts a h
events_acts (act_starts s u i l t es a) h = events_acts a h
events_acts (act_signs s m u l es g a) h = events_acts a (events_signs g h)
events_acts (act_sets s m u l es g a) h = events_acts a (events_sets g h)
events_acts (act_enters s m u l t d es g a) h = events_acts a (events_enters g h)
events_acts (act_leaves s m u es g a) h = events_acts a (events_leaves g h)

-- ---- an event is set from the next moment on at the latest

abbrev pub AreSoon : ℕ → Scoping → Type 0
AreSoon t s = (key from : ℕ) → s.events key ≡ Some (Some from) → from ≤ suc t

-- the earlier of a moment and the next one is not after that
earlier_soon : (x : Tick) (t from : ℕ) → earlier x (next (Some t)) ≡ Some from → from ≤ suc t
earlier_soon None t from e = let same : t + 1 ≡ from = one_of (t + 1) from e in omega (arith, same)
earlier_soon (Some x) t from e = by_test (leb_tells (suc (t + 1)) x) e
  where
    by_test : ((nat_lt (t + 1) x ≡ true) × (suc (t + 1) ≤ x)) ⊎ ((nat_lt (t + 1) x ≡ false) × (x < suc (t + 1))) →
        Some (if nat_lt (t + 1) x then t + 1 else x) ≡ Some from → from ≤ suc t
    by_test (inl f) g = let same : t + 1 ≡ from = one_of (t + 1) from
        (ap (λ (b : Bool). Some (if b then t + 1 else x)) (sym f.0) ∙ g) in omega (arith, same)
    by_test (inr f) g = let same : x ≡ from = one_of x from (ap (λ (b : Bool). Some (if b then t + 1 else x)) (sym f.0) ∙ g) in
        let le : x < suc (t + 1) = f.1 in omega (arith, same, le)

soon_sets : {t : ℕ} {label : Label} {s m : Scoping} → Sets t label s m → AreSoon t s → AreSoon t m
soon_sets {t} {label} {s} {m} g h key from e = by_key (labelled_before g.sets.lowered key (Some from) e)
  where
    Value : Option Tick
    Value = Some (earlier g.sets.from (next (Some t)))

    by_key : ((key ≡ g.key) × (Value ≡ Some (Some from))) ⊎ ((key ≢ g.key) × (s.events key ≡ Some (Some from))) → from ≤ suc t
    by_key (inl f) = earlier_soon g.sets.from t from (one_of (earlier g.sets.from (next (Some t))) (Some from) f.1)
    by_key (inr f) = h key from f.1

soon_enters : {t : ℕ} {parent : Option ℕ} {label : Label} {is_event : Bool} {d : Tick} {s m : Scoping} →
    Enters parent label is_event d s m → AreSoon t s → AreSoon t m
soon_enters {t} {parent} {label} {is_event} {d} {s} {m} g h key from e = by_key (labelled_before g.kind key (Some from) e)
  where
    unset : (b : Bool) → set_at_entry b ≡ Some (Some from) → ⊥
    unset true f = let k : None ≡ Some from = one_of None (Some from) f in cc
    unset false f = let k : None ≡ Some (Some from) = f in cc

    by_key : ((key ≡ g.scope.id) × (set_at_entry is_event ≡ Some (Some from))) ⊎ ((key ≢ g.scope.id) × (s.events key ≡ Some (Some from))) →
        from ≤ suc t
    by_key (inl f) = absurd (unset is_event f.1)
    by_key (inr f) = h key from f.1

soon_leaves : {t : ℕ} {s m : Scoping} → Leaves s m → AreSoon t s → AreSoon t m
soon_leaves {t} {s} {m} g h key from e = by_key (labelled_before g.no_event key (Some from) e)
  where
    by_key : ((key ≡ g.scope.id) × (None ≡ Some (Some from))) ⊎ ((key ≢ g.scope.id) × (s.events key ≡ Some (Some from))) → from ≤ suc t
    by_key (inl f) = absurd (not_both refl f.1)
    by_key (inr f) = h key from f.1

-- so it is, whatever a task does in this moment
pub soon_acts : {t : ℕ} {s u : Scoping} {es : List Event} → Acts t s es u → AreSoon t s → AreSoon t u
soon_acts (no_act s) h = h
soon_acts (act_noted s u t e es a) h = soon_acts a h
soon_acts (act_shared s u shared t done es a) h = soon_acts a h
soon_acts (act_starts s u i l t es a) h = soon_acts a h
soon_acts (act_signs s m u l es g a) h = soon_acts a (λ key from e. h key from (sym (ap (λ (z : Events). z key) g.events) ∙ e))
soon_acts (act_sets s m u l es g a) h = soon_acts a (soon_sets g h)
soon_acts (act_enters s m u l t d es g a) h = soon_acts a (soon_enters g h)
soon_acts (act_leaves s m u es g a) h = soon_acts a (soon_leaves g h)

-- ---- an event of another task

one_more : (key : ℕ) (set more : List ℕ) → IsOneOf key set → IsOneOf key (set ++ more)
one_more key [] more i = absurd i
one_more key (k ∷ ks) more (inl e) = inl e
one_more key (k ∷ ks) more (inr i) = inr (one_more key ks more i)

one_last : (key : ℕ) (set : List ℕ) → IsOneOf key (set ++ key ∷ [])
one_last key [] = inl refl
one_last key (k ∷ ks) = inr (one_last key ks)

-- what was set stays among what was set
pub one_acts : {t : ℕ} (key : ℕ) → {s u : Scoping} {es : List Event} → Acts t s es u → IsOneOf key s.set → IsOneOf key u.set
one_acts key (no_act s) i = i
one_acts key (act_noted s u t e es a) i = one_acts key a i
one_acts key (act_shared s u shared t done es a) i = one_acts key a i
one_acts key (act_starts s u n l t es a) i = one_acts key a i
one_acts key (act_signs s m u l es g a) i = one_acts key a (subst (IsOneOf key) (sym g.set) i)
one_acts key (act_sets s m u l es g a) i = one_acts key a (subst (IsOneOf key) (sym g.sets.among) (one_more key s.set (g.key ∷ []) i))
one_acts key (act_enters s m u l t d es g a) i = one_acts key a (subst (IsOneOf key) (sym g.set) i)
one_acts key (act_leaves s m u es g a) i = one_acts key a (subst (IsOneOf key) (sym g.set) i)

-- setting it again in the same moment changes nothing
set_once : (n : ℕ) → earlier (Some n) (Some n) ≡ Some n
set_once n = by_test (nat_lt n n)
  where
    by_test : (b : Bool) → Some (if b then n else n) ≡ Some n
    by_test true = refl
    by_test false = refl

set_again : (x : Tick) (n : ℕ) → earlier (earlier x (Some n)) (Some n) ≡ earlier x (Some n)
set_again None n = set_once n
set_again (Some x) n = by_test (nat_lt n x) refl
  where
    Twice : Bool → Type 0
    Twice b = earlier (Some (if b then n else x)) (Some n) ≡ Some (if b then n else x)

    by_test : (b : Bool) → nat_lt n x ≡ b → Twice (nat_lt n x)
    by_test true e = subst Twice (sym e) (set_once n)
    by_test false e = subst Twice (sym e) (ap (λ (c : Bool). Some (if c then n else x)) e)

-- another key is among them only if it was
one_less : (key other : ℕ) (set : List ℕ) → key ≢ other → IsOneOf key (set ++ other ∷ []) → IsOneOf key set
one_less key other [] differs (inl e) = absurd (differs e)
one_less key other [] differs (inr i) = absurd i
one_less key other (k ∷ ks) differs (inl e) = inl e
one_less key other (k ∷ ks) differs (inr i) = inr (one_less key other ks differs i)

-- one that stayed as it was, and then stays or is set
pub event_then : (t key : ℕ) (was mid_set set : List ℕ) (old mid new : Events) → mid key ≡ old key → (IsOneOf key mid_set → IsOneOf key was) →
    StaysOrIsSet t mid new mid_set set key → StaysOrIsSet t old new was set key
event_then t key was mid_set set old mid new same fewer (inl (e, f)) = inl (e ∙ same, λ i. fewer (f i))
event_then t key was mid_set set old mid new same fewer (inr (among, from, before, is)) = inr (among, from, sym same ∙ before, is)

-- one that was set, and then stays or is set again
set_then : (t key : ℕ) (was mid_set set : List ℕ) (old mid new : Events) (from : Tick) → IsOneOf key set → old key ≡ Some from →
    mid key ≡ Some (earlier from (Some (t + 1))) → StaysOrIsSet t mid new mid_set set key → StaysOrIsSet t old new was set key
set_then t key was mid_set set old mid new from among before now (inl (e, f)) = inr (among, from, before, e ∙ now)
set_then t key was mid_set set old mid new from among before now (inr (i, other, is, after)) =
    inr (
      among,
      from,
      before,
      after
          ∙ (ap (λ (x : Tick). Some (earlier x (Some (t + 1)))) (one_of other (earlier from (Some (t + 1))) (sym is ∙ now))
          ∙ ap (λ (x : Tick). Some x) (set_again from (t + 1))),
    )

-- one of another task when an event is set
pub event_set : {t : ℕ} {label : Label} {s m : Scoping} (key : ℕ) (u : Scoping) → (g : Sets t label s m) →
    (IsOneOf key m.set → IsOneOf key u.set) → StaysOrIsSet t m.events u.events m.set u.set key →
    StaysOrIsSet t s.events u.events s.set u.set key
event_set {t} {label} {s} {m} key u g stays rest = by_key (same_or key g.key)
  where
    by_key : (key ≡ g.key) ⊎ (key ≢ g.key) → StaysOrIsSet t s.events u.events s.set u.set key
    by_key (inl e) =
        set_then t key s.set m.set u.set s.events m.events u.events g.sets.from
        (stays (subst (IsOneOf key) (sym g.sets.among) (subst (λ (k : ℕ). IsOneOf key (s.set ++ k ∷ [])) e (one_last key s.set))))
        (ap s.events e ∙ g.sets.was) (ap m.events e ∙ g.sets.lowered.changed) rest
    by_key (inr differs) =
        event_then t key s.set m.set u.set s.events m.events u.events (g.sets.lowered.others key differs)
        (λ i. one_less key g.key s.set differs (subst (IsOneOf key) g.sets.among i)) rest
