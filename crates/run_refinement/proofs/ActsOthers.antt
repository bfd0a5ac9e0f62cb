-- What a task does to scopes leaves the moments of cancellation of other tasks' scopes to the table, and a label to no scope that
-- is not open.
use Rattle.std.proofs.Common.{◌≡◌, ◌≢◌, ◌⊎◌, inl, inr, ℕ, Bool, Some, List, ap, sym, ◌∙◌, subst, Option}
use Rattle.std.specs.Prelude.{IsSome}
use Rattle.std.specs.Option.{option_map}
use Rattle.exceptions.specs.Exceptions.{Label}
use Rattle.cancel_scopes.specs.Sight.{Tick}
use Rattle.cancel_scopes.specs.Tree.{Stack, Tree, stack_of, IsOpen, after_cancel}
use Rattle.job_meaning.specs.Log.{Table}
use Rattle.job_meaning.specs.Rest.{Event}
use Rattle.turn_semantics.specs.Steps.{cancelled_from_after_sign, cancelled_from_after_entry, cancelled_from_after}
use Rattle.task_machine.specs.declared.task.Own.{Own}
use Rattle.task_machine.specs.Acts.{Scoping, Signs, Sets, kept_from, Enters, Leaves, Acts, no_act, act_noted, act_shared, act_starts, act_signs, act_sets, act_enters, act_leaves}
use Rattle.task_machine.specs.Fitting.{AreOthers}
use Rattle.task_machine.specs.Labels.{Labels}
use Rattle.run_refinement.specs.Turn.{AreNew}
use Rattle.run_refinement.proofs.ActsKeep.{Sound, Apart, HasKnown, is_open, all_last, open_differs, open_else, mapped_is, labelled_before, labelled_left, apart_signs, apart_sets, apart_enters, apart_leaves, sound_signs, sound_sets, sound_enters, sound_leaves}
use Rattle.run_refinement.proofs.ActsCancelledFrom.{opened_other}
use Rattle.run_refinement.proofs.ActsStay.{stays_signs, stays_sets, keeps_enters, keeps_leaves}
use Rattle.run_refinement.proofs.ActsTracks.{kept_signed, kept_set}

-- ---- a scope of another task has its label still, and the label's from

-- an open scope has this label, and its from is the label's
abbrev pub IsKept : Table → Scoping → ℕ → Label → Type 0
IsKept f s key l = (st : Stack) × (stack_of s.tree key ≡ Some st) × (s.labels key ≡ Some l) × (kept_from (s.events key) st ≡ f l)

kept_signs : {t : ℕ} {label : Label} {s m : Scoping} → (f : Table) (key : ℕ) (l : Label) → Signs t label s m → Sound s → Apart s →
    IsKept f s key l → IsKept (cancelled_from_after_sign f label t) m key l
kept_signs {t} {label} {s} {m} f key l g sound apart k = (
  after_cancel g.key t k.0,
  g.cancels.stacks key ∙ ap (option_map (after_cancel g.key t)) k.1,
  ap (λ (z : Labels). z key) g.labels ∙ k.2,
  kept_signed f k.0 key l g apart (sound.own key k.0 k.1) k.2 k.3,
)

kept_sets : {t : ℕ} {label : Label} {s m : Scoping} → (f : Table) (key : ℕ) (l : Label) → Sets t label s m → Apart s →
    IsKept f s key l → IsKept (cancelled_from_after_sign f label t) m key l
kept_sets {t} {label} {s} {m} f key l g apart k = (
  k.0,
  ap (λ (tree : Tree). stack_of tree key) g.tree ∙ k.1,
  ap (λ (z : Labels). z key) g.labels ∙ k.2,
  kept_set f k.0 key l g apart k.2 k.3,
)

kept_enters : {parent : Option ℕ} {label : Label} {is_event : Bool} {d : Tick} {s m : Scoping} → (known : Label → Type 0) (f : Table) (key : ℕ) (l : Label) → Enters parent label is_event d s m →
    HasKnown known s → (known label → ⊥) →
    IsKept f s key l → IsKept (cancelled_from_after_entry f label d) m key l
kept_enters {label} {d} {s} {m} known f key l g has new k = (
  k.0,
  g.others key differs ∙ k.1,
  g.labelled.others key differs ∙ k.2,
  ap (λ (x : Option Tick). kept_from x k.0) (g.kind.others key differs)
      ∙ (k.3 ∙ sym (opened_other f label l d (λ e. new (subst known e (has key l k.2))))),
)
  where
    differs : key ≢ g.scope.id
    differs = open_differs s.tree g.scope.id key g.fresh (is_open s.tree key k.0 k.1)

kept_leaves : {s m : Scoping} → (f : Table) (key : ℕ) (l : Label) → Leaves s m → AreOthers key s.own → IsKept f s key l → IsKept f m key l
kept_leaves {s} {m} f key l g others k = (
  k.0,
  g.others key differs ∙ k.1,
  g.unlabelled.others key differs ∙ k.2,
  ap (λ (x : Option Tick). kept_from x k.0) (g.no_event.others key differs) ∙ k.3,
)
  where
    differs : key ≢ g.scope.id
    differs e = all_last (λ (o : Own). o.id ≢ key) m.own g.scope (subst (AreOthers key) g.taken others) (sym e)

-- whatever a task does, an open scope that is none of its own keeps its label, and its from is the label's
pub kept_acts : {t : ℕ} → (known : Label → Type 0) (f : Table) (key : ℕ) (l : Label) → {s u : Scoping} {es : List Event} → Acts t s es u →
    Sound s → Apart s → HasKnown known s → AreNew known es →
    AreOthers key s.own → IsKept f s key l → IsKept (cancelled_from_after f es) u key l
kept_acts known f key l (no_act s) sound apart has new others k = k
kept_acts known f key l (act_noted s u t e es a) sound apart has new others k = kept_acts known f key l a sound apart has new others k
kept_acts known f key l (act_shared s u shared t done es a) sound apart has new others k = kept_acts known f key l a sound apart has new others k
kept_acts known f key l (act_starts s u i x t es a) sound apart has new others k = kept_acts known f key l a sound apart has new others k
kept_acts {t} known f key l (act_signs s m u x es g a) sound apart has new others k =
    let n = apart_signs known g apart has in
    kept_acts known (cancelled_from_after_sign f x t) key l a (sound_signs g sound) n.0 n.1 new (stays_signs g k.1 others).others
    (kept_signs f key l g sound apart k)
kept_acts {t} known f key l (act_sets s m u x es g a) sound apart has new others k =
    let n = apart_sets known g apart has in
    kept_acts known (cancelled_from_after_sign f x t) key l a (sound_sets g sound) n.0 n.1 new (stays_sets g k.1 others).others
    (kept_sets f key l g apart k)
kept_acts known f key l (act_enters s m u x t d es g a) sound apart has new others k =
    let n = apart_enters known g new.0 apart has in
    kept_acts (λ y. (y ≡ x) ⊎ known y) (cancelled_from_after_entry f x d) key l a (sound_enters g sound) n.0 n.1 new.1 (keeps_enters g sound k.1 others).others
    (kept_enters known f key l g has new.0 k)
kept_acts known f key l (act_leaves s m u es g a) sound apart has new others k =
    let n = apart_leaves known g apart has in
    kept_acts known f key l a (sound_leaves g sound) n.0 n.1 new (keeps_leaves g k.1 others).others (kept_leaves f key l g others k)

-- ---- each scope with a label is open

abbrev pub AreLabelled : Scoping → Type 0
AreLabelled s = (key : ℕ) (l : Label) → s.labels key ≡ Some l → IsOpen s.tree key

labelled_signs : {t : ℕ} {label : Label} {s m : Scoping} → Signs t label s m → AreLabelled s → AreLabelled m
labelled_signs {t} {label} {s} {m} g h key l e =
    subst IsSome (sym (g.cancels.stacks key)) (mapped_is (after_cancel g.key t) (stack_of s.tree key)
    (h key l (sym (ap (λ (z : Labels). z key) g.labels) ∙ e)))

labelled_sets : {t : ℕ} {label : Label} {s m : Scoping} → Sets t label s m → AreLabelled s → AreLabelled m
labelled_sets {t} {label} {s} {m} g h key l e =
    subst (λ (tree : Tree). IsOpen tree key) (sym g.tree) (h key l (sym (ap (λ (z : Labels). z key) g.labels) ∙ e))

labelled_enters : {parent : Option ℕ} {label : Label} {is_event : Bool} {d : Tick} {s m : Scoping} → Enters parent label is_event d s m → AreLabelled s → AreLabelled m
labelled_enters {label} {d} {s} {m} g h key l e = by_key (labelled_before g.labelled key l e)
  where
    by_key : ((key ≡ g.scope.id) × (Some label ≡ Some l)) ⊎ ((key ≢ g.scope.id) × (s.labels key ≡ Some l)) → IsOpen m.tree key
    by_key (inl f) = is_open m.tree key _ (ap (stack_of m.tree) f.0 ∙ g.stack)
    by_key (inr f) = open_else s.tree m.tree g.scope.id key g.others f.0 (h key l f.1)

labelled_leaves : {s m : Scoping} → Leaves s m → AreLabelled s → AreLabelled m
labelled_leaves {s} {m} g h key l e = let b = labelled_left g key l e in open_else s.tree m.tree g.scope.id key g.others b.0 (h key l b.1)

-- where each scope with a label is open, it is so whatever a task does
pub labelled_acts : {t : ℕ} {s u : Scoping} {es : List Event} → Acts t s es u → AreLabelled s → AreLabelled u
labelled_acts (no_act s) h = h
labelled_acts (act_noted s u t e es a) h = labelled_acts a h
labelled_acts (act_shared s u shared t done es a) h = labelled_acts a h
labelled_acts (act_starts s u i l t es a) h = labelled_acts a h
labelled_acts (act_signs s m u l es g a) h = labelled_acts a (labelled_signs g h)
labelled_acts (act_sets s m u l es g a) h = labelled_acts a (labelled_sets g h)
labelled_acts (act_enters s m u l t d es g a) h = labelled_acts a (labelled_enters g h)
labelled_acts (act_leaves s m u es g a) h = labelled_acts a (labelled_leaves g h)
