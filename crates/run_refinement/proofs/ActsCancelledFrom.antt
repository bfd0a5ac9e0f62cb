-- What a task does to scopes, by the moments of cancellation of labels: other tasks see what they see by the new moments of
-- cancellation.
use Rattle.std.proofs.Common.{◌≡◌, ◌⊎◌, inl, inr, ℕ, Bool, true, false, Some, List, [], ◌∷◌, refl, ap, sym, ◌∙◌, subst, Option}
use Rattle.std.specs.Option.{option_map}
use Rattle.turn_semantics.specs.Lists.{IsAmong}
use Rattle.exceptions.specs.Exceptions.{Label}
use Rattle.cancel_scopes.specs.Sight.{Tick}
use Rattle.cancel_scopes.specs.Tree.{Stack, Tree, stack_of, after_cancel}
use Rattle.job_meaning.specs.Log.{Table, same_label}
use Rattle.job_meaning.specs.Rest.{Event}
use Rattle.job_meaning.proofs.Distinct.{same_label_equal}
use Rattle.turn_semantics.specs.Midway.{Place}
use Rattle.turn_semantics.specs.Steps.{cancelled_from_after_sign, from_lowered_if, cancelled_from_after_entry, from_entered_if, cancelled_from_after}
use Rattle.turn_semantics.specs.Turned.{labels_of}
use Rattle.task_machine.specs.Acts.{Scoping, Signs, Sets, Enters, Leaves, Acts, no_act, act_noted, act_shared, act_starts, act_signs, act_sets, act_enters, act_leaves}
use Rattle.task_machine.specs.Fitting.{AreOthers}
use Rattle.task_machine.specs.Labels.{Labels, Events}
use Rattle.task_machine.specs.Stacked.{AreAt, Alone}
use Rattle.run_refinement.specs.Turn.{AreNew}
use Rattle.run_refinement.proofs.ActsKeep.{Sound, Apart, HasKnown, NoneHas, labelled_before, labelled_left, apart_signs, apart_sets, apart_enters, apart_leaves, sound_signs, sound_sets, sound_enters, sound_leaves}
use Rattle.run_refinement.proofs.ActsStay.{stays_signs, stays_sets, keeps_enters, keeps_leaves}
use Rattle.task_machine.proofs.Leaves.{same_labels}
use Rattle.task_machine.proofs.Stacked.{one_of, signed_at, set_at, opened_else}

-- ---- the from of one label

label_differs : (l m : Label) → (l ≡ m → ⊥) → same_label l m ≡ false
label_differs l m differs = by_test (same_label l m) refl
  where
    by_test : (b : Bool) → same_label l m ≡ b → b ≡ false
    by_test true e = absurd (differs (same_label_equal l m e))
    by_test false e = refl

-- a sign leaves the from of each other label
pub lowered_other : (f : Table) (label l : Label) (t : ℕ) → (l ≡ label → ⊥) → cancelled_from_after_sign f label t l ≡ f l
lowered_other f label l t differs = ap (λ (b : Bool). from_lowered_if b t (f l)) (label_differs l label differs)

-- a label entered leaves the from of each other label
pub opened_other : (f : Table) (label l : Label) (d : Tick) → (l ≡ label → ⊥) → cancelled_from_after_entry f label d l ≡ f l
opened_other f label l d differs = ap (λ (b : Bool). from_entered_if b d (f l)) (label_differs l label differs)

-- ---- the label of a scope that was left keeps its from

-- a sign is for a label that a scope has
pub signed_has : {t : ℕ} {label : Label} {s m : Scoping} → Signs t label s m → (l : Label) → NoneHas l s → l ≡ label → ⊥
signed_has {t} {label} {s} {m} g l none e = none g.key (g.labelled ∙ ap (λ (x : Label). Some x) (sym e))

-- so is one that an event is set by
pub set_has : {t : ℕ} {label : Label} {s m : Scoping} → Sets t label s m → (l : Label) → NoneHas l s → l ≡ label → ⊥
set_has {t} {label} {s} {m} g l none e = none g.key (g.labelled ∙ ap (λ (x : Label). Some x) (sym e))

-- a label that no scope has is that of none after an event is set
pub none_sets : {t : ℕ} {label : Label} {s m : Scoping} → Sets t label s m → (l : Label) → NoneHas l s → NoneHas l m
none_sets g l none key e = none key (sym (ap (λ (z : Labels). z key) g.labels) ∙ e)

-- a label that no scope has is that of none after a scope is cancelled
pub none_signs : {t : ℕ} {label : Label} {s m : Scoping} → Signs t label s m → (l : Label) → NoneHas l s → NoneHas l m
none_signs g l none key e = none key (sym (ap (λ (z : Labels). z key) g.labels) ∙ e)

-- it is that of none after a scope is entered with another label
pub none_enters : {parent : Option ℕ} {label : Label} {is_event : Bool} {d : Tick} {s m : Scoping} → Enters parent label is_event d s m → (l : Label) → (l ≡ label → ⊥) → NoneHas l s →
    NoneHas l m
none_enters {label} {d} {s} {m} g l differs none key e = by_key (labelled_before g.labelled key l e)
  where
    by_key : ((key ≡ g.scope.id) × (Some label ≡ Some l)) ⊎ ((key ≡ g.scope.id → ⊥) × (s.labels key ≡ Some l)) → ⊥
    by_key (inl f) = differs (sym (one_of label l f.1))
    by_key (inr f) = none key f.1

-- it is that of none after a scope is left
pub none_leaves : {s m : Scoping} → Leaves s m → (l : Label) → NoneHas l s → NoneHas l m
none_leaves g l none key e = none key (labelled_left g key l e).1

-- a known label that no scope has keeps its from where only new ones are entered, and no scope gets it
pub unmoved : {t : ℕ} → (known : Label → Type 0) (f : Table) (l : Label) → {s u : Scoping} {es : List Event} → Acts t s es u → NoneHas l s →
    known l → AreNew known es →
    (cancelled_from_after f es l ≡ f l) × NoneHas l u
unmoved known f l (no_act s) none k new = (refl, none)
unmoved known f l (act_noted s u t e es a) none k new = unmoved known f l a none k new
unmoved known f l (act_shared s u shared t done es a) none k new = unmoved known f l a none k new
unmoved known f l (act_starts s u i x t es a) none k new = unmoved known f l a none k new
unmoved {t} known f l (act_signs s m u x es g a) none k new =
    let o = unmoved known (cancelled_from_after_sign f x t) l a (none_signs g l none) k new in
    (o.0 ∙ lowered_other f x l t (signed_has g l none), o.1)
unmoved {t} known f l (act_sets s m u x es g a) none k new =
    let o = unmoved known (cancelled_from_after_sign f x t) l a (none_sets g l none) k new in
    (o.0 ∙ lowered_other f x l t (set_has g l none), o.1)
unmoved known f l (act_enters s m u x t d es g a) none k new =
    let differs : l ≡ x → ⊥ = λ e. new.0 (subst known e k) in
    let o = unmoved (λ y. (y ≡ x) ⊎ known y) (cancelled_from_after_entry f x d) l a (none_enters g l differs none) (inr k) new.1 in
    (o.0 ∙ opened_other f x l d differs, o.1)
unmoved known f l (act_leaves s m u es g a) none k new = unmoved known f l a (none_leaves g l none) k new

-- ---- what another task sees

-- where labels are apart, no other scope of a stack has the label of one
pub alone_of : (s : Scoping) → Apart s → (key : ℕ) (label : Label) → s.labels key ≡ Some label → (st : Stack) → Alone s.labels key label st
alone_of s h key label e [] = tt
alone_of s h key label e (l ∷ ls) = ((λ f. h.labels l.label key label f e), alone_of s h key label e ls)

-- the labels of enclosing scopes and nurseries are those of scopes
known_at : (known : Label → Type 0) (s : Scoping) (f : Table) → HasKnown known s → (st : Stack) (ps : List Place) →
    AreAt s.labels s.events f st ps →
    (l : Label) → IsAmong l (labels_of ps) → known l
known_at known s f h [] [] a l i = absurd i
known_at known s f h [] (p ∷ ps) a l i = absurd a
known_at known s f h (x ∷ xs) [] a l i = absurd i
known_at known s f h (x ∷ xs) (p ∷ ps) a l (inl e) = subst known (sym e) (h x.label p.label a.0)
known_at known s f h (x ∷ xs) (p ∷ ps) a l (inr i) = known_at known s f h xs ps a.3 l i

-- the stack of a scope corresponds to these places (enclosing scopes and nurseries) with the moments of cancellation of a table
abbrev pub StandsAt : ℕ → Table → List Place → Scoping → Type 0
StandsAt key f ps s = (st : Stack) × (stack_of s.tree key ≡ Some st) × AreAt s.labels s.events f st ps

-- if a scope is cancelled, each stack has the places that it had, by the lowered moments of cancellation
pub at_signs : {t : ℕ} {label : Label} {s m : Scoping} → (key : ℕ) (f : Table) (st : Stack) (ps : List Place) → (g : Signs t label s m) →
    Apart s → stack_of s.tree key ≡ Some st →
    AreAt s.labels s.events f st ps → (stack_of m.tree key ≡ Some (after_cancel g.key t st))
    × AreAt m.labels m.events (cancelled_from_after_sign f label t) (after_cancel g.key t st) ps
at_signs {t} {label} {s} {m} key f st ps g h e a = (
  g.cancels.stacks key ∙ ap (option_map (after_cancel g.key t)) e,
  subst (λ (z : Labels). AreAt z m.events (cancelled_from_after_sign f label t) (after_cancel g.key t st) ps) (sym g.labels)
      (subst (λ (z : Events). AreAt s.labels z (cancelled_from_after_sign f label t) (after_cancel g.key t st) ps) (sym g.events)
      (signed_at s.labels s.events f st ps g.key t label g.labelled g.no_event (alone_of s h g.key label g.labelled st) a)),
)

-- if an event is set, each stack stays, with its places, by the lowered moments of cancellation
pub at_sets : {t : ℕ} {label : Label} {s m : Scoping} → (key : ℕ) (f : Table) (st : Stack) (ps : List Place) → (g : Sets t label s m) →
    Apart s → stack_of s.tree key ≡ Some st →
    AreAt s.labels s.events f st ps → (stack_of m.tree key ≡ Some st) × AreAt m.labels m.events (cancelled_from_after_sign f label t) st ps
at_sets {t} {label} {s} {m} key f st ps g h e a = (
  ap (λ (tree : Tree). stack_of tree key) g.tree ∙ e,
  subst (λ (z : Labels). AreAt z m.events (cancelled_from_after_sign f label t) st ps) (sym g.labels)
      (set_at s.labels s.events m.events f st ps g.key t label s.set m.set g.labelled g.sets (alone_of s h g.key label g.labelled st) a),
)

-- if one is entered with a new label, the stack of a scope that is none of the task's stays, with its places
pub at_enters : {parent : Option ℕ} {label : Label} {is_event : Bool} {d : Tick} {s m : Scoping} → (known : Label → Type 0) (key : ℕ) (f : Table) (st : Stack) (ps : List Place) →
    Enters parent label is_event d s m → Sound s → HasKnown known s →
    (known label → ⊥) → stack_of s.tree key ≡ Some st → AreOthers key s.own → AreAt s.labels s.events f st ps → (stack_of m.tree key ≡ Some st)
    × AreAt m.labels m.events (cancelled_from_after_entry f label d) st ps
at_enters {label} {d} {s} {m} known key f st ps g h k new e others a =
    let n = keeps_enters g h e others in
    (n.at, opened_else s.labels m.labels s.events m.events f st ps label d n.labels n.events (λ i. new (known_at known s f k st ps a label i)) a)

-- if one is left, the stack of a scope that is none of the task's stays, with its places
pub at_leaves : {s m : Scoping} → (key : ℕ) (f : Table) (st : Stack) (ps : List Place) → Leaves s m → stack_of s.tree key ≡ Some st →
    AreOthers key s.own → AreAt s.labels s.events f st ps →
    (stack_of m.tree key ≡ Some st) × AreAt m.labels m.events f st ps
at_leaves {s} {m} key f st ps g e others a =
    let n = keeps_leaves g e others in
    (n.at, same_labels s.labels m.labels s.events m.events f st ps n.labels n.events a)

-- whatever a task does, a scope that is none of its own has the same places by the new moments of cancellation
pub stays_at : {t : ℕ} → (known : Label → Type 0) (f : Table) (key : ℕ) (st : Stack) (ps : List Place) → {s u : Scoping} {es : List Event} →
    Acts t s es u → Sound s → Apart s → HasKnown known s →
    AreNew known es → stack_of s.tree key ≡ Some st → AreOthers key s.own → AreAt s.labels s.events f st ps →
    StandsAt key (cancelled_from_after f es) ps u
stays_at known f key st ps (no_act s) h i k new e others a = (st, e, a)
stays_at known f key st ps (act_noted s u t x es b) h i k new e others a = stays_at known f key st ps b h i k new e others a
stays_at known f key st ps (act_shared s u shared t done es b) h i k new e others a = stays_at known f key st ps b h i k new e others a
stays_at known f key st ps (act_starts s u n l t es b) h i k new e others a = stays_at known f key st ps b h i k new e others a
stays_at {t} known f key st ps (act_signs s m u l es g b) h i k new e others a =
    let n = stays_signs g e others in
    let o = at_signs key f st ps g i e a in
    let j = apart_signs known g i k in
    stays_at known (cancelled_from_after_sign f l t) key (after_cancel g.key t st) ps b (sound_signs g h) j.0 j.1 new o.0 n.others o.1
stays_at {t} known f key st ps (act_sets s m u l es g b) h i k new e others a =
    let n = stays_sets g e others in
    let o = at_sets key f st ps g i e a in
    let j = apart_sets known g i k in
    stays_at known (cancelled_from_after_sign f l t) key st ps b (sound_sets g h) j.0 j.1 new o.0 n.others o.1
stays_at known f key st ps (act_enters s m u l t d es g b) h i k new e others a =
    let n = keeps_enters g h e others in
    let o = at_enters known key f st ps g h k new.0 e others a in
    let j = apart_enters known g new.0 i k in
    stays_at (λ x. (x ≡ l) ⊎ known x) (cancelled_from_after_entry f l d) key st ps b (sound_enters g h) j.0 j.1 new.1 o.0 n.others o.1
stays_at known f key st ps (act_leaves s m u es g b) h i k new e others a =
    let n = keeps_leaves g e others in
    let o = at_leaves key f st ps g e others a in
    let j = apart_leaves known g i k in
    stays_at known f key st ps b (sound_leaves g h) j.0 j.1 new o.0 n.others o.1
