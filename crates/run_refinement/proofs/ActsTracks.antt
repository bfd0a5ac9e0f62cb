-- The moments of cancellation that a task keeps of the scopes that it opened are those of the world, whatever it does to scopes.
use Rattle.std.proofs.Common.{◌≡◌, ◌≢◌, ◌⊎◌, inl, inr, ℕ, zero, suc, Bool, true, false, Some, None, List, [], ◌∷◌, ◌++◌, length, map, append_assoc, append-nil, refl, ap, sym, ◌∙◌, subst, Option}
use Rattle.std.proofs.lemmas.List.{map-append}
use Rattle.std.proofs.lemmas.List.Elements.{All-nil, All-cons, All-head, All-tail, All-append}
use Rattle.std.specs.Prelude.{All, slice_get, slice_set}
use Rattle.std.specs.Option.{option_map}
use Rattle.turn_semantics.specs.Lists.{IsAmong}
use Rattle.exceptions.specs.Exceptions.{Label}
use Rattle.cancel_scopes.specs.Sight.{Tick, earlier, next}
use Rattle.cancel_scopes.specs.Tree.{Stack, Tree, stack_of, own_from, own_label, after_cancel, outer_of}
use Rattle.job_meaning.specs.Log.{Table, same_label}
use Rattle.job_meaning.specs.Rest.{Event}
use Rattle.job_meaning.proofs.Distinct.{same_label_itself}
use Rattle.turn_semantics.specs.Steps.{cancelled_from_after_sign, from_lowered_if, cancelled_from_after_entry, from_entered_if, cancelled_from_after}
use Rattle.task_machine.specs.declared.entry.ScopeFrom.{ScopeFrom}
use Rattle.task_machine.specs.declared.task.Own.{Own}
use Rattle.task_machine.specs.Acts.{Scoping, Signs, Sets, set_at_entry, kept_from, Enters, Leaves, Acts, no_act, act_noted, act_shared, act_starts, act_signs, act_sets, act_enters, act_leaves}
use Rattle.task_machine.specs.Fitting.{AreOthers}
use Rattle.task_machine.specs.Labels.{Labels, Events}
use Rattle.interleavings.specs.Rows.{entered_made}
use Rattle.run_refinement.specs.RunState.{Differ, IsPast, Tracks}
use Rattle.run_refinement.specs.Turn.{AreNew}
use Rattle.run_refinement.proofs.ActsKeep.{Sound, Apart, HasKnown, NoneHas, KnownWith, is_open, not_both, all_first, all_last, open_differs, labelled_left, known_one, same_or, apart_signs, apart_sets, apart_enters, apart_leaves, sound_signs, sound_sets, sound_enters, sound_leaves}
use Rattle.run_refinement.proofs.ActsCancelledFrom.{alone_of, lowered_other, opened_other, signed_has, set_has, none_signs, none_sets, none_enters, none_leaves}
use Rattle.task_machine.proofs.Others.{others_but}
use Rattle.task_machine.proofs.Stacked.{one_of, signed_at}
use Rattle.run_refinement.proofs.Found.{got_first}

-- ---- what a task keeps

-- where more is known
pub tracks_more : {known more : Label → Type 0} {f : Table} {s : Scoping} {entered : List Label} → ((l : Label) → known l → more l) →
    Tracks known f s entered → Tracks more f s entered
tracks_more m h =
    record {
      labels = h.labels;
      differ = h.differ;
      named = h.named;
      kept = h.kept;
      left = λ i x e a. let c = h.left i x e a in
          (c.0, c.1, m x.label c.2);
    }

-- ---- lists

-- what holds for all in a list holds for the one at an index
pub all_got : {A : Type 0} (P : A → Type 0) (xs : List A) (i : ℕ) (x : A) → All P xs → slice_get xs i ≡ Some x → P x
all_got P [] i x a e = absurd (not_both refl e)
all_got P (y ∷ xs) zero x a e = subst P (one_of y x e) (All-head P y xs a)
all_got P (y ∷ xs) (suc i) x a e = all_got P xs i x (All-tail P y xs a) e

-- what holds for the one at each index holds for all in a list
pub all_if : {A : Type 0} (P : A → Type 0) (xs : List A) → ((x : A) (i : ℕ) → slice_get xs i ≡ Some x → P x) → All P xs
all_if P [] h = All-nil P
all_if P (y ∷ xs) h = All-cons P y xs (h y zero refl) (all_if P xs (λ x i e. h x (suc i) e))

get_last : {A : Type 0} (xs : List A) (y : A) → slice_get (xs ++ y ∷ []) (length xs) ≡ Some y
get_last [] y = refl
get_last (z ∷ xs) y = get_last xs y

get_one : {A : Type 0} (xs : List A) (y x : A) (i : ℕ) → slice_get (xs ++ y ∷ []) i ≡ Some x → (slice_get xs i ≡ Some x)
    ⊎ ((i ≡ length xs) × (y ≡ x))
get_one [] y x zero e = inr (refl, one_of y x e)
get_one [] y x (suc i) e = absurd (not_both refl e)
get_one (z ∷ xs) y x zero e = inl e
get_one (z ∷ xs) y x (suc i) e = by_place (get_one xs y x i e)
  where
    by_place : (slice_get xs i ≡ Some x) ⊎ ((i ≡ length xs) × (y ≡ x)) → (slice_get xs i ≡ Some x) ⊎ ((suc i ≡ suc (length xs)) × (y ≡ x))
    by_place (inl f) = inl f
    by_place (inr f) = inr (ap suc f.0, f.1)

-- an entry is replaced by one with the same label
set_labels : (xs : List ScopeFrom) (i : ℕ) (x y : ScopeFrom) → slice_get xs i ≡ Some x → y.label ≡ x.label →
    map (λ (z : ScopeFrom). z.label) (slice_set xs i y) ≡ map (λ (z : ScopeFrom). z.label) xs
set_labels [] i x y e f = refl
set_labels (z ∷ xs) zero x y e f =
    ap (λ (l : Label). l ∷ map (λ (w : ScopeFrom). w.label) xs) (f ∙ sym (ap (λ (w : ScopeFrom). w.label) (one_of z x e)))
set_labels (z ∷ xs) (suc i) x y e f = ap (λ (ls : List Label). z.label ∷ ls) (set_labels xs i x y e f)

-- then each index still has its label
set_keeps : (xs : List ScopeFrom) (i j : ℕ) (x y z : ScopeFrom) → slice_get xs i ≡ Some x → y.label ≡ x.label → slice_get xs j ≡ Some z →
    (w : ScopeFrom) × (slice_get (slice_set xs i y) j ≡ Some w) × (w.label ≡ z.label)
set_keeps [] i j x y z e f g = absurd (not_both refl e)
set_keeps (v ∷ xs) zero zero x y z e f g = (y, refl, f ∙ ap (λ (w : ScopeFrom). w.label) (one_of x z (sym e ∙ g)))
set_keeps (v ∷ xs) zero (suc j) x y z e f g = (z, g, refl)
set_keeps (v ∷ xs) (suc i) zero x y z e f g = (z, g, refl)
set_keeps (v ∷ xs) (suc i) (suc j) x y z e f g = set_keeps xs i j x y z e f g

-- and what is there is the entry, or was there before
set_shows : (xs : List ScopeFrom) (i j : ℕ) (y z : ScopeFrom) → slice_get (slice_set xs i y) j ≡ Some z → ((j ≡ i) × (y ≡ z))
    ⊎ ((j ≢ i) × (slice_get xs j ≡ Some z))
set_shows [] i j y z e = absurd (not_both refl e)
set_shows (v ∷ xs) zero zero y z e = inl (refl, one_of y z e)
set_shows (v ∷ xs) zero (suc j) y z e = inr ((λ f. cc), e)
set_shows (v ∷ xs) (suc i) zero y z e = inr ((λ f. cc), e)
set_shows (v ∷ xs) (suc i) (suc j) y z e = by_place (set_shows xs i j y z e)
  where
    by_place : ((j ≡ i) × (y ≡ z)) ⊎ ((j ≢ i) × (slice_get xs j ≡ Some z)) → ((suc j ≡ suc i) × (y ≡ z))
        ⊎ ((suc j ≢ suc i) × (slice_get xs j ≡ Some z))
    by_place (inl f) = inl (ap suc f.0, f.1)
    by_place (inr f) = inr ((λ g. f.0 (let h : suc j ≡ suc i = g in cc)), f.1)

differ_more : (own : List Own) (o : Own) → Differ own → AreOthers o.id own → Differ (own ++ o ∷ [])
differ_more [] o d a = (All-nil (λ (x : Own). x.id ≢ o.id), tt)
differ_more (y ∷ own) o d a = (
  others_but y.id own o d.0 (λ e. All-head (λ (x : Own). x.id ≢ o.id) y own a (sym e)),
  differ_more own o d.1 (All-tail (λ (x : Own). x.id ≢ o.id) y own a),
)

differ_first : (own : List Own) (o : Own) → Differ (own ++ o ∷ []) → Differ own × AreOthers o.id own
differ_first [] o d = (tt, All-nil (λ (x : Own). x.id ≢ o.id))
differ_first (y ∷ own) o d =
    let r = differ_first own o d.1 in (
      (all_first (λ (x : Own). x.id ≢ y.id) own o d.0, r.0),
      All-cons (λ (x : Own). x.id ≢ o.id) y own (λ e. all_last (λ (x : Own). x.id ≢ y.id) own o d.0 (sym e)) r.1,
    )

-- ---- a scope is cancelled

-- the from of a scope after a cancellation, which is perhaps its own
pub own_from_signed : {t : ℕ} {label : Label} {s m : Scoping} (f : Table) (st : Stack) (id : ℕ) (l : Label) → (g : Signs t label s m) →
    Apart s → own_label st ≡ Some id → s.labels id ≡ Some l →
    own_from st ≡ f l → own_from (after_cancel g.key t st) ≡ cancelled_from_after_sign f label t l
own_from_signed f [] id l g h first e from = absurd (not_both refl first)
own_from_signed {t} {label} {s} {m} f (x ∷ xs) id l g h first e from =
    (signed_at s.labels (λ key. None) f (x ∷ []) (record { label = l; shield = x.shield; is_event = false } ∷ []) g.key t label g.labelled refl
    (alone_of s h g.key label g.labelled (x ∷ []))
    (ap s.labels (one_of x.label id first) ∙ e, refl, (refl, from), tt)).2.1

-- a scope is another than the one that is cancelled, or its label is not the one that is signed
label_apart : {t : ℕ} {label : Label} {s m : Scoping} (id : ℕ) (l : Label) → (g : Signs t label s m) → Apart s → s.labels id ≡ Some l →
    id ≢ g.key → l ≡ label → ⊥
label_apart {t} {label} {s} {m} id l g h e differs same =
    differs (h.labels id g.key label (e ∙ ap (λ (x : Label). Some x) same) g.labelled)

-- the kept from of a scope, or of an event, after a cancellation
pub kept_signed : {t : ℕ} {label : Label} {s m : Scoping} (f : Table) (st : Stack) (id : ℕ) (l : Label) → (g : Signs t label s m) →
    Apart s → own_label st ≡ Some id → s.labels id ≡ Some l →
    kept_from (s.events id) st ≡ f l → kept_from (m.events id) (after_cancel g.key t st) ≡ cancelled_from_after_sign f label t l
kept_signed {t} {label} {s} {m} f st id l g h first e kept =
    ap (λ (z : Events). kept_from (z id) (after_cancel g.key t st)) g.events ∙ by_kind (s.events id) refl kept
  where
    by_kind : (o : Option Tick) → s.events id ≡ o → kept_from o st ≡ f l → kept_from o (after_cancel g.key t st) ≡ cancelled_from_after_sign f label t l
    by_kind None is from = own_from_signed f st id l g h first e from
    by_kind (Some set) is from =
        from ∙ sym (lowered_other f label l t (label_apart id l g h e (λ same. not_both (ap s.events same ∙ g.no_event) is)))

-- the kept from of a scope, or of an event, after an event is set, which is perhaps its own
pub kept_set : {t : ℕ} {label : Label} {s m : Scoping} (f : Table) (st : Stack) (id : ℕ) (l : Label) → (g : Sets t label s m) →
    Apart s → s.labels id ≡ Some l → kept_from (s.events id) st ≡ f l → kept_from (m.events id) st ≡ cancelled_from_after_sign f label t l
kept_set {t} {label} {s} {m} f st id l g h e kept = by_key (same_or id g.key)
  where
    by_key : (id ≡ g.key) ⊎ (id ≢ g.key) → kept_from (m.events id) st ≡ cancelled_from_after_sign f label t l
    by_key (inl same) =
        let named : l ≡ label = one_of l label (sym e ∙ (ap s.labels same ∙ g.labelled)) in
        let was : g.sets.from ≡ f l = ap (λ (o : Option Tick). kept_from o st) (sym (ap s.events same ∙ g.sets.was)) ∙ kept in
        ap (λ (o : Option Tick). kept_from o st) (ap m.events same ∙ g.sets.lowered.changed)
        ∙ (ap (λ (x : Tick). earlier x (next (Some t))) was
        ∙ sym (ap (λ (b : Bool). from_lowered_if b t (f l)) (subst (λ (x : Label). same_label l x ≡ true) named (same_label_itself l))))
    by_key (inr differs) =
        ap (λ (o : Option Tick). kept_from o st) (g.sets.lowered.others id differs)
        ∙ (kept
        ∙ sym (lowered_other f label l t
        (λ same. differs (h.labels id g.key label (e ∙ ap (λ (x : Label). Some x) same) g.labelled))))

-- where a scope is cancelled, the moments of cancellation that a task keeps are those of the world, with the label's lowered
pub tracks_signs : {known : Label → Type 0} {f : Table} {entered : List Label} {t : ℕ} {label : Label} {s m : Scoping} → Signs t label s m →
    Sound s → Apart s →
    Tracks known f s entered → Tracks known (cancelled_from_after_sign f label t) m entered
tracks_signs {known} {f} {entered} {t} {label} {s} {m} g sound apart h =
    record {
      labels = ap (map (λ (x : ScopeFrom). x.label)) g.cancelled_from ∙ h.labels;
      differ = subst Differ (sym g.own) h.differ;
      named =
          named;
      kept = kept;
      left = left;
    }
  where
    got : (o : Own) (i : ℕ) → slice_get m.own i ≡ Some o → slice_get s.own i ≡ Some o
    got o i e = sym (ap (λ (os : List Own). slice_get os i) g.own) ∙ e

    label_is : (key : ℕ) (l : Label) → s.labels key ≡ Some l → m.labels key ≡ Some l
    label_is key l e = ap (λ (z : Labels). z key) g.labels ∙ e

    named : (o : Own) (i : ℕ) → slice_get m.own i ≡ Some o → (x : ScopeFrom) × (slice_get m.cancelled_from o.at ≡ Some x)
        × (m.labels o.id ≡ Some x.label)
    named o i e = let n = h.named o i (got o i e) in (
      n.0,
      ap (λ (xs : List ScopeFrom). slice_get xs o.at) g.cancelled_from
          ∙ n.1,
      label_is o.id n.0.label n.2,
    )

    kept : (o : Own) (i : ℕ) → slice_get m.own i ≡ Some o →
        (st : Stack) × (l : Label) × (stack_of m.tree o.id ≡ Some st) × (m.labels o.id ≡ Some l)
        × (kept_from (m.events o.id) st ≡ cancelled_from_after_sign f label t l)
    kept o i e =
        let k = h.kept o i (got o i e) in (
          after_cancel g.key t k.0,
          k.1,
          g.cancels.stacks o.id ∙ ap (option_map (after_cancel g.key t)) k.2,
          label_is o.id k.1 k.3,
          kept_signed f k.0 o.id k.1 g apart (sound.own o.id k.0 k.2) k.3 k.4,
        )

    left : (i : ℕ) (x : ScopeFrom) → slice_get m.cancelled_from i ≡ Some x → IsPast i m.own → (x.seen ≡ cancelled_from_after_sign f label t x.label)
        × NoneHas x.label m × known x.label
    left i x e past =
        let c = h.left i x (sym (ap (λ (xs : List ScopeFrom). slice_get xs i) g.cancelled_from) ∙ e) (subst (IsPast i) g.own past) in
        (c.0 ∙ sym (lowered_other f label x.label t (signed_has g x.label c.1)), none_signs g x.label c.1, c.2)

-- ---- an event is set

-- where an event is set, the moments of cancellation that a task keeps are those of the world, with the label's lowered
pub tracks_sets : {known : Label → Type 0} {f : Table} {entered : List Label} {t : ℕ} {label : Label} {s m : Scoping} → Sets t label s m →
    Apart s → Tracks known f s entered → Tracks known (cancelled_from_after_sign f label t) m entered
tracks_sets {known} {f} {entered} {t} {label} {s} {m} g apart h =
    record {
      labels = ap (map (λ (x : ScopeFrom). x.label)) g.cancelled_from ∙ h.labels;
      differ = subst Differ (sym g.own) h.differ;
      named = named;
      kept = kept;
      left = left;
    }
  where
    got : (o : Own) (i : ℕ) → slice_get m.own i ≡ Some o → slice_get s.own i ≡ Some o
    got o i e = sym (ap (λ (os : List Own). slice_get os i) g.own) ∙ e

    label_is : (key : ℕ) (l : Label) → s.labels key ≡ Some l → m.labels key ≡ Some l
    label_is key l e = ap (λ (z : Labels). z key) g.labels ∙ e

    named : (o : Own) (i : ℕ) → slice_get m.own i ≡ Some o → (x : ScopeFrom) × (slice_get m.cancelled_from o.at ≡ Some x)
        × (m.labels o.id ≡ Some x.label)
    named o i e = let n = h.named o i (got o i e) in (
      n.0,
      ap (λ (xs : List ScopeFrom). slice_get xs o.at) g.cancelled_from ∙ n.1,
      label_is o.id n.0.label n.2,
    )

    kept : (o : Own) (i : ℕ) → slice_get m.own i ≡ Some o →
        (st : Stack) × (l : Label) × (stack_of m.tree o.id ≡ Some st) × (m.labels o.id ≡ Some l)
        × (kept_from (m.events o.id) st ≡ cancelled_from_after_sign f label t l)
    kept o i e =
        let k = h.kept o i (got o i e) in (
          k.0,
          k.1,
          ap (λ (tree : Tree). stack_of tree o.id) g.tree ∙ k.2,
          label_is o.id k.1 k.3,
          kept_set f k.0 o.id k.1 g apart k.3 k.4,
        )

    left : (i : ℕ) (x : ScopeFrom) → slice_get m.cancelled_from i ≡ Some x → IsPast i m.own → (x.seen ≡ cancelled_from_after_sign f label t x.label)
        × NoneHas x.label m × known x.label
    left i x e past =
        let c = h.left i x (sym (ap (λ (xs : List ScopeFrom). slice_get xs i) g.cancelled_from) ∙ e) (subst (IsPast i) g.own past) in
        (c.0 ∙ sym (lowered_other f label x.label t (set_has g x.label c.1)), none_sets g x.label c.1, c.2)

-- ---- a scope is entered

-- where a task enters a scope with a new label, its moments of cancellation are those of the world, with the new label last
pub tracks_enters : {known : Label → Type 0} {f : Table} {entered : List Label} {parent : Option ℕ} {label : Label} {is_event : Bool} {d : Tick} {s m : Scoping} →
    Enters parent label is_event d s m → HasKnown known s → (known label → ⊥) →
    Tracks known f s entered → Tracks (λ l. (l ≡ label) ⊎ known l) (cancelled_from_after_entry f label d) m (entered ++ label ∷ [])
tracks_enters {known} {f} {entered} {parent} {label} {is_event} {d} {s} {m} g has new h =
    record {
      labels =
          ap (map (λ (x : ScopeFrom). x.label)) g.cancelled_from
          ∙ (map-append (λ (x : ScopeFrom). x.label) s.cancelled_from (first ∷ []) ∙ ap (λ (ls : List Label). ls ++ label ∷ []) h.labels);
      differ = subst Differ (sym g.opened) (differ_more s.own g.scope h.differ (all_if (λ (o : Own). o.id ≢ g.scope.id) s.own other));
      named = λ o i e. named o (get_one s.own g.scope o i (got o i e));
      kept = λ o i e. kept o (get_one s.own g.scope o i (got o i e));
      left = λ i x e past. left i x (subst (IsPast i) g.opened past)
          (get_one s.cancelled_from first x i (sym (ap (λ (xs : List ScopeFrom). slice_get xs i) g.cancelled_from) ∙ e));
    }
  where
    first : ScopeFrom
    first = record { label = label; seen = None }

    got : (o : Own) (i : ℕ) → slice_get m.own i ≡ Some o → slice_get (s.own ++ g.scope ∷ []) i ≡ Some o
    got o i e = sym (ap (λ (os : List Own). slice_get os i) g.opened) ∙ e

    -- what is kept of the scope is its deadline, which an event has not
    at_entry : (b : Bool) → (b ≡ true → d ≡ None) → kept_from (set_at_entry b) (g.level ∷ outer_of s.tree parent) ≡ d
    at_entry true undated = sym (undated refl)
    at_entry false undated = g.from

    other : (o : Own) (i : ℕ) → slice_get s.own i ≡ Some o → o.id ≢ g.scope.id
    other o i e = let k = h.kept o i e in open_differs s.tree g.scope.id o.id g.fresh (is_open s.tree o.id k.0 k.2)

    apart_from : (l : Label) → known l → l ≡ label → ⊥
    apart_from l k e = new (subst known e k)

    named : (o : Own) {i : ℕ} → (slice_get s.own i ≡ Some o) ⊎ ((i ≡ length s.own) × (g.scope ≡ o)) → (x : ScopeFrom)
        × (slice_get m.cancelled_from o.at ≡ Some x) × (m.labels o.id ≡ Some x.label)
    named o {i} (inl e) =
        let n = h.named o i e in (
          n.0,
          ap (λ (xs : List ScopeFrom). slice_get xs o.at) g.cancelled_from ∙ got_first s.cancelled_from (first ∷ []) o.at n.0 n.1,
          g.labelled.others o.id (other o i e) ∙ n.2,
        )
    named o {i} (inr e) =
        subst (λ (z : Own). (x : ScopeFrom) × (slice_get m.cancelled_from z.at ≡ Some x) × (m.labels z.id ≡ Some x.label)) e.1 (
          first,
          ap (λ (xs : List ScopeFrom). slice_get xs g.scope.at) g.cancelled_from
              ∙ (ap (slice_get (s.cancelled_from ++ first ∷ [])) g.index ∙ get_last s.cancelled_from first),
          g.labelled.changed,
        )

    kept : (o : Own) {i : ℕ} → (slice_get s.own i ≡ Some o) ⊎ ((i ≡ length s.own) × (g.scope ≡ o)) →
        (st : Stack) × (l : Label) × (stack_of m.tree o.id ≡ Some st) × (m.labels o.id ≡ Some l)
        × (kept_from (m.events o.id) st ≡ cancelled_from_after_entry f label d l)
    kept o {i} (inl e) =
        let k = h.kept o i e in (
          k.0,
          k.1,
          g.others o.id (other o i e) ∙ k.2,
          g.labelled.others o.id (other o i e) ∙ k.3,
          ap (λ (x : Option Tick). kept_from x k.0) (g.kind.others o.id (other o i e))
              ∙ (k.4 ∙ sym (opened_other f label k.1 d (apart_from k.1 (has o.id k.1 k.3)))),
        )
    kept o {i} (inr e) =
        subst (λ (z : Own). (st : Stack) × (l : Label) × (stack_of m.tree z.id ≡ Some st) × (m.labels z.id ≡ Some l)
        × (kept_from (m.events z.id) st ≡ cancelled_from_after_entry f label d l)) e.1 (
          g.level ∷ outer_of s.tree parent,
          label,
          g.stack,
          g.labelled.changed,
          ap (λ (x : Option Tick). kept_from x (g.level ∷ outer_of s.tree parent)) g.kind.changed
              ∙ (at_entry is_event g.undated ∙ sym (ap (λ (b : Bool). from_entered_if b d (f label)) (same_label_itself label))),
        )

    left : (i : ℕ) (x : ScopeFrom) → IsPast i (s.own ++ g.scope ∷ []) → (slice_get s.cancelled_from i ≡ Some x)
        ⊎ ((i ≡ length s.cancelled_from) × (first ≡ x)) →
        (x.seen ≡ cancelled_from_after_entry f label d x.label) × NoneHas x.label m × ((x.label ≡ label) ⊎ known x.label)
    left i x past (inl e) =
        let c = h.left i x e (all_first (λ (o : Own). o.at ≢ i) s.own g.scope past) in
        let differs = apart_from x.label c.2 in
        (c.0 ∙ sym (opened_other f label x.label d differs), none_enters g x.label differs c.1, inr c.2)
    left i x past (inr e) = absurd (all_last (λ (o : Own). o.at ≢ i) s.own g.scope past (g.index ∙ sym e.0))

-- ---- the last scope is left

-- where a task leaves its last scope, the moments of cancellation that it keeps are those of the world still
pub tracks_leaves : {known : Label → Type 0} {f : Table} {entered : List Label} {s m : Scoping} → Leaves s m → Apart s → HasKnown known s →
    Tracks known f s entered → Tracks known f m entered
tracks_leaves {known} {f} {entered} {s} {m} g apart has h =
    record {
      labels = ap (map (λ (x : ScopeFrom). x.label)) g.cancelled_from ∙ (set_labels s.cancelled_from g.scope.at g.entry now g.was refl ∙ h.labels);
      differ = both.0;
      named = named;
      kept = kept;
      left = λ i x e past. left i x past (set_shows s.cancelled_from g.scope.at i now x
          (sym (ap (λ (xs : List ScopeFrom). slice_get xs i) g.cancelled_from) ∙ e));
    }
  where
    now : ScopeFrom
    now = record (g.entry) { seen = g.from }

    both : Differ m.own × AreOthers g.scope.id m.own
    both = differ_first m.own g.scope (subst Differ g.taken h.differ)

    got : (o : Own) (i : ℕ) → slice_get m.own i ≡ Some o → slice_get s.own i ≡ Some o
    got o i e = ap (λ (os : List Own). slice_get os i) g.taken ∙ got_first m.own (g.scope ∷ []) i o e

    last : slice_get s.own (length m.own) ≡ Some g.scope
    last = ap (λ (os : List Own). slice_get os (length m.own)) g.taken ∙ get_last m.own g.scope

    other : (o : Own) (i : ℕ) → slice_get m.own i ≡ Some o → o.id ≢ g.scope.id
    other o i e = all_got (λ (x : Own). x.id ≢ g.scope.id) m.own i o both.1 e

    named : (o : Own) (i : ℕ) → slice_get m.own i ≡ Some o → (x : ScopeFrom) × (slice_get m.cancelled_from o.at ≡ Some x)
        × (m.labels o.id ≡ Some x.label)
    named o i e =
        let n = h.named o i (got o i e) in
        let k = set_keeps s.cancelled_from g.scope.at o.at g.entry now n.0 g.was refl n.1 in (
          k.0,
          ap (λ (xs : List ScopeFrom). slice_get xs o.at) g.cancelled_from ∙ k.1,
          g.unlabelled.others o.id (other o i e) ∙ (n.2 ∙ ap (λ (l : Label). Some l) (sym k.2)),
        )

    kept : (o : Own) (i : ℕ) → slice_get m.own i ≡ Some o → (st : Stack) × (l : Label) × (stack_of m.tree o.id ≡ Some st)
        × (m.labels o.id ≡ Some l) × (kept_from (m.events o.id) st ≡ f l)
    kept o i e =
        let k = h.kept o i (got o i e) in (
          k.0,
          k.1,
          g.others o.id (other o i e) ∙ k.2,
          g.unlabelled.others o.id (other o i e) ∙ k.3,
          ap (λ (x : Option Tick). kept_from x k.0) (g.no_event.others o.id (other o i e)) ∙ k.4,
        )

    -- the entry is that of the scope's label
    labelled : s.labels g.scope.id ≡ Some g.entry.label
    labelled = let n = h.named g.scope (length m.own) last in n.2
        ∙ ap (λ (x : ScopeFrom). Some x.label) (one_of n.0 g.entry (sym n.1 ∙ g.was))

    seen : g.from ≡ f g.entry.label
    seen =
        let k = h.kept g.scope (length m.own) last in
        g.seen k.0 k.2 ∙ (k.4 ∙ ap f (one_of k.1 g.entry.label (sym k.3 ∙ labelled)))

    left : (i : ℕ) (x : ScopeFrom) → IsPast i m.own → ((i ≡ g.scope.at) × (now ≡ x)) ⊎ ((i ≢ g.scope.at) × (slice_get s.cancelled_from i ≡ Some x)) →
        (x.seen ≡ f x.label) × NoneHas x.label m × known x.label
    left i x past (inl e) =
        subst (λ (z : ScopeFrom). (z.seen ≡ f z.label) × NoneHas z.label m × known z.label) e.1 (
          seen,
          λ key j. let l = labelled_left g key g.entry.label j in l.0 (apart.labels key g.scope.id g.entry.label l.1 labelled),
          has g.scope.id g.entry.label labelled,
        )
    left i x past (inr e) =
        let c = h.left i x e.1 (subst (IsPast i) (sym g.taken)
        (All-append (λ (o : Own). o.at ≢ i) m.own (g.scope ∷ []) past
        (All-cons (λ (o : Own). o.at ≢ i) g.scope [] (λ j. e.0 (sym j)) (All-nil (λ (o : Own). o.at ≢ i))))) in
        (c.0, none_leaves g x.label c.1, c.2)

-- ---- whatever a task does

-- whatever a task does, its moments of cancellation are those of the world after its events, with the labels that it entered
pub tracked : {t : ℕ} → (known : Label → Type 0) (f : Table) (entered : List Label) → {s u : Scoping} {es : List Event} → Acts t s es u →
    Sound s → Apart s → HasKnown known s → AreNew known es →
    Tracks known f s entered → Tracks (KnownWith known es) (cancelled_from_after f es) u (entered ++ entered_made es)
tracked known f entered (no_act s) sound apart has new h =
    subst (Tracks (KnownWith known []) f s) (sym (append-nil entered)) (tracks_more (λ l k. inl k) h)
tracked known f entered (act_noted s u t e es a) sound apart has new h = tracked known f entered a sound apart has new h
tracked known f entered (act_shared s u shared t done es a) sound apart has new h = tracked known f entered a sound apart has new h
tracked known f entered (act_starts s u i l t es a) sound apart has new h = tracked known f entered a sound apart has new h
tracked {t} known f entered (act_signs s m u l es g a) sound apart has new h =
    let n = apart_signs known g apart has in
    tracked known (cancelled_from_after_sign f l t) entered a (sound_signs g sound) n.0 n.1 new (tracks_signs g sound apart h)
tracked {t} known f entered (act_sets s m u l es g a) sound apart has new h =
    let n = apart_sets known g apart has in
    tracked known (cancelled_from_after_sign f l t) entered a (sound_sets g sound) n.0 n.1 new (tracks_sets g apart h)
tracked known f entered (act_enters s m u l t d es g a) sound apart has new h =
    let n = apart_enters known g new.0 apart has in
    let more = tracked (λ x. (x ≡ l) ⊎ known x) (cancelled_from_after_entry f l d) (entered ++ l ∷ []) a (sound_enters g sound) n.0 n.1 new.1
    (tracks_enters g has new.0 h) in
    subst (Tracks (λ x. known x ⊎ IsAmong x (l ∷ entered_made es)) (cancelled_from_after (cancelled_from_after_entry f l d) es) u)
    (append_assoc entered (l ∷ []) (entered_made es))
    (tracks_more (λ x k. known_one known l x es k) more)
tracked known f entered (act_leaves s m u es g a) sound apart has new h =
    let n = apart_leaves known g apart has in
    tracked known f entered a (sound_leaves g sound) n.0 n.1 new (tracks_leaves g apart has h)
