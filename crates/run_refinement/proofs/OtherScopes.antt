-- How a turn leaves the scopes of another task: they are open inside the same ones, with the same places by the new moments of
-- cancellation.
use Rattle.std.proofs.Common.{◌≡◌, ℕ, zero, suc, Option, Some, None, List, [], ◌∷◌, ◌++◌, map, refl, ap, sym, ◌∙◌, subst}
use Rattle.std.specs.Prelude.{slice_get, IsSome}
use Rattle.std.specs.List.{last_or}
use Rattle.std.specs.Option.{ForSome, unwrap_or}
use Rattle.turn_semantics.specs.Lists.{IsAmong}
use Rattle.exceptions.specs.Exceptions.{Label}
use Rattle.cancel_scopes.specs.Tree.{Stack, Tree, stack_of, outer_of, own_label, IsOpen, IsOwn, IsChain}
use Rattle.job_meaning.specs.Log.{Table}
use Rattle.job_meaning.specs.Rest.{Event}
use Rattle.task_machine.specs.declared.entry.ScopeFrom.{ScopeFrom}
use Rattle.turn_semantics.specs.Midway.{Place}
use Rattle.turn_semantics.specs.Steps.{cancelled_from_after}
use Rattle.task_machine.specs.declared.task.Own.{Own}
use Rattle.task_machine.specs.Acts.{Scoping, Acts, kept_from}
use Rattle.task_machine.specs.Fitting.{AreOthers}
use Rattle.task_machine.specs.Left.{keys_of, keys_in, OwnFirst}
use Rattle.task_machine.specs.Stacked.{AreAt}
use Rattle.run_refinement.specs.RunState.{Tracks, IsPast}
use Rattle.run_refinement.specs.Turn.{IsSound, AreNew}
use Rattle.run_refinement.proofs.ActsKeep.{Apart, HasKnown, not_both, not_closed, is_open}
use Rattle.run_refinement.proofs.ActsCancelledFrom.{unmoved, StandsAt, stays_at}
use Rattle.run_refinement.proofs.ActsOthers.{IsKept, kept_acts}
use Rattle.run_refinement.proofs.ActsStay.{SameLevels, Stays, stays}
use Rattle.run_refinement.proofs.LabelsApart.{from_entered, sound_of}
use Rattle.task_machine.proofs.Stacked.{one_of}
use Rattle.run_refinement.proofs.Found.{KeysAt, keys_at}

-- Acts of a turn, with what lemmas on them ask: stacks are sound, labels apart and known, and those entered are new.
pub record Acted (known : Label → Type 0) (t : ℕ) (s u : Scoping) (es : List Event) : Type 0 where
  pub acts : Acts t s es u
  pub sound : IsSound s.tree
  pub sound_after : IsSound u.tree
  pub apart : Apart s
  pub has : HasKnown known s
  pub new : AreNew known es

-- no scope of one task is one of the other's
abbrev pub AreElse : List Own → List Own → Type 0
AreElse own mine = (o : Own) (i : ℕ) → slice_get own i ≡ Some o → AreOthers o.id mine

-- a key is that of one of a task's scopes, or of none
pub open_stack : (tree : Tree) (key : ℕ) → IsOpen tree key → (st : Stack) × (stack_of tree key ≡ Some st)
open_stack tree key i = by_stack (stack_of tree key) refl i
  where
    by_stack : (o : Option Stack) → stack_of tree key ≡ o → IsSome o → (st : Stack) × (stack_of tree key ≡ Some st)
    by_stack None e j = absurd (not_closed None refl j)
    by_stack (Some st) e j = (st, e)

-- what encloses a task in an open scope is the scope's stack
pub outer_is : (tree : Tree) (key : ℕ) (st : Stack) → stack_of tree key ≡ Some st → outer_of tree (Some key) ≡ st
outer_is tree key st e = ap (λ (o : Option Stack). unwrap_or o []) e

-- ---- one scope

-- an open scope that belongs to another task than the one that moved stays open
pub key_stays_open : {known : Label → Type 0} {t : ℕ} {s u : Scoping} {es : List Event} → Acted known t s u es → (key : ℕ) →
    IsOpen s.tree key → AreOthers key s.own → IsOpen u.tree key
key_stays_open {s = s} {u = u} a key i others =
    let st = open_stack s.tree key i in
    let n = stays a.acts (sound_of s a.sound) st.1 others in
    is_open u.tree key n.after n.at

-- a stack of another task still corresponds to these places
pub places_stay : {known : Label → Type 0} {t : ℕ} {s u : Scoping} {es : List Event} → Acted known t s u es →
    (f : Table) (key : ℕ) (ps : List Place) → IsOpen s.tree key → AreOthers key s.own →
    AreAt s.labels s.events f (outer_of s.tree (Some key)) ps → AreAt u.labels u.events (cancelled_from_after f es) (outer_of u.tree (Some key)) ps
places_stay {known} {t} {s} {u} {es} a f key ps i others at =
    subst (λ (x : Stack). AreAt u.labels u.events (cancelled_from_after f es) x ps) (sym (outer_is u.tree key after.0 after.1)) after.2
  where
    st : (x : Stack) × (stack_of s.tree key ≡ Some x)
    st = open_stack s.tree key i

    after : StandsAt key (cancelled_from_after f es) ps u
    after = stays_at known f key st.0 ps a.acts (sound_of s a.sound) a.apart a.has a.new st.1 others
        (subst (λ (x : Stack). AreAt s.labels s.events f x ps) (outer_is s.tree key st.0 st.1) at)

-- ---- what a task tracks

abbrev pub with_own : Scoping → List Own → List ScopeFrom → Scoping
with_own s own cancelled_from =
    record { tree = s.tree; labels = s.labels; events = s.events; set = s.set; own = own; cancelled_from = cancelled_from }

-- the moments of cancellation of another task are those of the world after the turn
pub tracks_other : {known : Label → Type 0} {t : ℕ} {s u : Scoping} {es : List Event} → Acted known t s u es →
    (was now : Label → Type 0) (f : Table) (own : List Own) (cancelled_from : List ScopeFrom)
    (entered : List Label) → AreElse own s.own → ((l : Label) → IsAmong l entered → known l) → ((l : Label) → IsAmong l entered → now l) →
    Tracks was f (with_own s own cancelled_from) entered → Tracks now (cancelled_from_after f es) (with_own u own cancelled_from) entered
tracks_other {known} {t} {s} {u} {es} a was now f own cancelled_from entered others mine more h =
    record { labels = h.labels; differ = h.differ; named = named; kept = kept; left = left }
  where
    after : (o : Own) (i : ℕ) → slice_get own i ≡ Some o → (l : Label) × (s.labels o.id ≡ Some l) × IsKept (cancelled_from_after f es) u o.id l
    after o i e =
        let k = h.kept o i e in
        (k.1, k.3, kept_acts known f o.id k.1 a.acts (sound_of s a.sound) a.apart a.has a.new (others o i e) (k.0, k.2, k.3, k.4))

    named : (o : Own) (i : ℕ) → slice_get own i ≡ Some o → (x : ScopeFrom) × (slice_get cancelled_from o.at ≡ Some x)
        × (u.labels o.id ≡ Some x.label)
    named o i e =
        let n = h.named o i e in
        let k = after o i e in
        (n.0, n.1, k.2.2 ∙ (sym k.1 ∙ n.2))

    kept : (o : Own) (i : ℕ) → slice_get own i ≡ Some o →
        (st : Stack) × (l : Label) × (stack_of u.tree o.id ≡ Some st) × (u.labels o.id ≡ Some l)
        × (kept_from (u.events o.id) st ≡ cancelled_from_after f es l)
    kept o i e = let k = after o i e in (k.2.0, k.0, k.2.1, k.2.2, k.2.3)

    left : (i : ℕ) (x : ScopeFrom) → slice_get cancelled_from i ≡ Some x → IsPast i own → (x.seen ≡ cancelled_from_after f es x.label)
        × ((key : ℕ) → u.labels key ≡ Some x.label → ⊥) × now x.label
    left i x e past =
        let c = h.left i x e past in
        let entered_it : IsAmong x.label entered = from_entered h i x e in
        let o = unmoved known f x.label a.acts c.1 (mine x.label entered_it) a.new in
        (c.0 ∙ sym o.0, o.1, more x.label entered_it)

-- ---- the innermost scope

-- the last of some scopes
pub last_is : (x : Own) (own : List Own) → (o : Own) × (i : ℕ) × (slice_get (x ∷ own) i ≡ Some o)
    × (last_or (Some x.id) (map (λ (y : Own). y.id) own) ≡ Some o.id)
last_is x [] = (x, zero, refl, refl)
last_is x (y ∷ own) = let r = last_is y own in (r.0, suc r.1, r.2, r.3)

-- the innermost scope of another task is open after the turn, if its home's is
pub scope_stays : {known : Label → Type 0} {t : ℕ} {s u : Scoping} {es : List Event} → Acted known t s u es →
    (home : Option ℕ) (own : List Own) → AreElse own s.own →
    ((o : Own) (i : ℕ) → slice_get own i ≡ Some o → IsOpen s.tree o.id) → ForSome home (IsOpen u.tree) →
    ForSome (last_or home (map (λ (o : Own). o.id) own)) (IsOpen u.tree)
scope_stays a home [] others are h key e = h key e
scope_stays {u = u} a home (x ∷ own) others are h key e =
    let o = last_is x own in
    subst (IsOpen u.tree) (one_of o.0.id key (sym o.3 ∙ e)) (key_stays_open a o.0.id (are o.0 o.1 o.2) (others o.0 o.1 o.2))

-- the places of a task that opened a scope
pub own_places_stay : {known : Label → Type 0} {t : ℕ} {s u : Scoping} {es : List Event} → Acted known t s u es →
    (f : Table) (home : Option ℕ) (x : Own) (own : List Own) (ps : List Place) →
    AreElse (x ∷ own) s.own → ((o : Own) (i : ℕ) → slice_get (x ∷ own) i ≡ Some o → IsOpen s.tree o.id) →
    AreAt s.labels s.events f (outer_of s.tree (last_or home (map (λ (o : Own). o.id) (x ∷ own)))) ps →
    AreAt u.labels u.events (cancelled_from_after f es) (outer_of u.tree (last_or home (map (λ (o : Own). o.id) (x ∷ own)))) ps
own_places_stay {known} {t} {s} {u} {es} a f home x own ps others are at =
    let o = last_is x own in
    subst (λ (k : Option ℕ). AreAt u.labels u.events (cancelled_from_after f es) (outer_of u.tree k) ps) (sym o.3)
    (places_stay a f o.0.id ps (are o.0 o.1 o.2) (others o.0 o.1 o.2)
    (subst (λ (k : Option ℕ). AreAt s.labels s.events f (outer_of s.tree k) ps) o.3 at))

-- ---- the stack of a task, and that of its home

keys_same : (a b : Stack) → SameLevels a b → keys_of b ≡ keys_of a
keys_same [] [] h = refl
keys_same [] (y ∷ b) h = absurd h
keys_same (x ∷ a) [] h = absurd h
keys_same (x ∷ a) (y ∷ b) h = ap (λ (k : ℕ). k ∷ keys_of b) h.0 ∙ ap (λ (ks : List ℕ). x.label ∷ ks) (keys_same a b h.2)

-- the keys of an open scope's stack are its own, and more
record Own_first (tree : Tree) (key : ℕ) : Type 0 where
  more : List ℕ
  is : keys_of (outer_of tree (Some key)) ≡ key ∷ more

own_first : (tree : Tree) (key : ℕ) → IsOwn tree → IsOpen tree key → Own_first tree key
own_first tree key own i = by_stack st.0 st.1 (own key st.0 st.1)
  where
    st : (x : Stack) × (stack_of tree key ≡ Some x)
    st = open_stack tree key i

    by_stack : (x : Stack) → stack_of tree key ≡ Some x → own_label x ≡ Some key → Own_first tree key
    by_stack [] e f = absurd (not_both refl f)
    by_stack (l ∷ ls) e f = record {
      more = keys_of ls;
      is = ap keys_of (outer_is tree key (l ∷ ls) e)
          ∙ ap (λ (k : ℕ). k ∷ keys_of ls) (one_of l.label key f);
    }

-- the keys of the home's stack stay, where those of the task's do
home_keys : (old new : Tree) (home : Option ℕ) (key : ℕ) (keys : List ℕ) → IsOwn old → IsChain new → ForSome home (IsOpen old) →
    IsOpen new key →
    keys_of (outer_of new (Some key)) ≡ keys ++ keys_of (outer_of old home) → keys_of (outer_of old home) ≡ keys_of (outer_of new home)
home_keys old new None key keys own chain was now e = refl
home_keys old new (Some home) key keys own chain was now e =
    first.is ∙ sym (ap keys_of (outer_is new home (c.level ∷ c.following) here)
    ∙ (ap (λ (k : ℕ). k ∷ keys_of c.following) c.named ∙ ap (λ (ks : List ℕ). home ∷ ks) c.outer))
  where
    first : Own_first old home
    first = own_first old home own (was home refl)

    st : (x : Stack) × (stack_of new key ≡ Some x)
    st = open_stack new key now

    c : KeysAt st.0 keys home first.more
    c = keys_at st.0 keys home first.more (sym (ap keys_of (outer_is new key st.0 st.1)) ∙ (e ∙ ap (λ (ks : List ℕ). keys ++ ks) first.is))

    here : stack_of new home ≡ Some (c.level ∷ c.following)
    here = ap (stack_of new) (sym c.named) ∙ chain key st.0 st.1 c.before c.level c.following c.is

-- the scopes that another task opened still enclose it, as far as its home
pub first_stays : {known : Label → Type 0} {t : ℕ} {s u : Scoping} {es : List Event} → Acted known t s u es →
    (home : Option ℕ) (own : List Own) → AreElse own s.own →
    ((o : Own) (i : ℕ) → slice_get own i ≡ Some o → IsOpen s.tree o.id) → ForSome home (IsOpen s.tree) → OwnFirst s.tree home own →
    OwnFirst u.tree home own
first_stays a home [] others are was h = refl
first_stays {known} {t} {s} {u} {es} a home (x ∷ own) others are was h =
    subst (λ (k : Option ℕ). keys_of (outer_of u.tree k) ≡ keys_in (x ∷ own) ++ keys_of (outer_of u.tree home)) (sym o.3)
    (now ∙ ap (λ (ks : List ℕ). keys_in (x ∷ own) ++ ks) homes)
  where
    o : (y : Own) × (i : ℕ) × (slice_get (x ∷ own) i ≡ Some y) × (last_or (Some x.id) (map (λ (z : Own). z.id) own) ≡ Some y.id)
    o = last_is x own

    st : (y : Stack) × (stack_of s.tree o.0.id ≡ Some y)
    st = open_stack s.tree o.0.id (are o.0 o.1 o.2)

    n : Stays o.0.id st.0 s u
    n = stays a.acts (sound_of s a.sound) st.1 (others o.0 o.1 o.2)

    now : keys_of (outer_of u.tree (Some o.0.id)) ≡ keys_in (x ∷ own) ++ keys_of (outer_of s.tree home)
    now =
        ap keys_of (outer_is u.tree o.0.id n.after n.at)
        ∙ (keys_same st.0 n.after n.levels
        ∙ (sym (ap keys_of (outer_is s.tree o.0.id st.0 st.1)) ∙ subst
        (λ (k : Option ℕ). keys_of (outer_of s.tree k) ≡ keys_in (x ∷ own) ++ keys_of (outer_of s.tree home)) o.3 h))

    homes : keys_of (outer_of s.tree home) ≡ keys_of (outer_of u.tree home)
    homes = home_keys s.tree u.tree home o.0.id (keys_in (x ∷ own)) a.sound.own a.sound_after.chain was (is_open u.tree o.0.id n.after n.at)
        now
