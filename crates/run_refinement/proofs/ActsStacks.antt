-- A scope that has its label before and after a turn keeps its stack but for moments of cancellation, and an event stays as it is
-- or is set.
use Rattle.std.proofs.Common.{◌≡◌, ◌≢◌, ◌⊎◌, inl, inr, ℕ, Some, List, refl, ap, sym, ◌∙◌, subst}
use Rattle.std.specs.Option.{option_map}
use Rattle.exceptions.specs.Exceptions.{Label}
use Rattle.cancel_scopes.specs.Tree.{Stack, Tree, stack_of, after_cancel}
use Rattle.job_meaning.specs.Rest.{Event}
use Rattle.job_meaning.specs.Log.{Table}
use Rattle.task_machine.specs.Acts.{Scoping, Acts, no_act, act_noted, act_shared, act_starts, act_signs, act_sets, act_enters, act_leaves}
use Rattle.task_machine.specs.Labels.{Labels, Events}
use Rattle.task_machine.specs.Stacked.{SameOn}
use Rattle.run_refinement.specs.Sights.{IsOneOf, StaysOrIsSet}
use Rattle.run_refinement.specs.Turn.{AreNew}
use Rattle.run_refinement.proofs.ActsKeep.{Sound, Apart, HasKnown, is_open, same_or, open_differs, among_all, apart_signs, apart_sets, apart_enters, apart_leaves, sound_signs, sound_sets, sound_enters, sound_leaves}
use Rattle.run_refinement.proofs.ActsStay.{SameLevels, levels_cancelled, same_levels, levels_both, labels_both, same_on, same_but}
use Rattle.run_refinement.proofs.ActsEvents.{one_acts, event_then, event_set}
use Rattle.run_refinement.proofs.ActsSights.{closed_never}

-- an open scope keeps the scopes that enclose it, with their labels, and itself, if it is an event, stays as it is or is set
pub record SameStack (t key : ℕ) (st : Stack) (s u : Scoping) : Type 0 where
  pub after : Stack
  pub at : stack_of u.tree key ≡ Some after
  pub levels : SameLevels st after
  pub labels : SameOn s.labels u.labels st
  pub event : StaysOrIsSet t s.events u.events s.set u.set key

-- one act that changes no event of this key, and then the others
stack_then : {t key : ℕ} {st : Stack} {s m u : Scoping} (mid : Stack) → SameLevels st mid → SameOn s.labels m.labels st →
    m.events key ≡ s.events key → m.set ≡ s.set → SameStack t key mid m u → SameStack t key st s u
stack_then {t} {key} {st} {s} {m} {u} mid levels labels same set n =
    record {
      after = n.after;
      at = n.at;
      levels = levels_both st mid n.after levels n.levels;
      labels = labels_both s.labels m.labels u.labels st mid levels labels n.labels;
      event = event_then t key s.set m.set u.set s.events m.events u.events same (subst (IsOneOf key) set) n.event;
    }

-- A scope that has its label in the end does so, whatever a task did.
pub stack_acts : {t : ℕ} → (known : Label → Type 0) (f : Table) (key : ℕ) (l : Label) (st : Stack) → {s u : Scoping} {es : List Event} →
    Acts t s es u → Sound s → Apart s → HasKnown known s → AreNew known es → known l → s.labels key ≡ Some l → u.labels key ≡ Some l →
    stack_of s.tree key ≡ Some st → SameStack t key st s u
stack_acts known f key l st (no_act s) sound apart has new k was is e =
    record { after = st; at = e; levels = same_levels st; labels = same_on s.labels s.labels st refl; event = inl (refl, λ i. i) }
stack_acts known f key l st (act_noted s u t x es a) sound apart has new k was is e = stack_acts known f key l st a sound apart has new k was is e
stack_acts known f key l st (act_shared s u shared t done es a) sound apart has new k was is e = stack_acts known f key l st a sound apart has new k was is e
stack_acts known f key l st (act_starts s u i x t es a) sound apart has new k was is e = stack_acts known f key l st a sound apart has new k was is e
stack_acts {t} known f key l st (act_signs s m u x es g a) sound apart has new k was is e =
    let n = apart_signs known g apart has in
    stack_then (after_cancel g.key t st) (levels_cancelled g.key t st) (same_on s.labels m.labels st g.labels)
    (ap (λ (z : Events). z key) g.events) g.set
    (stack_acts known f key l (after_cancel g.key t st) a (sound_signs g sound) n.0 n.1 new k
    (ap (λ (z : Labels). z key) g.labels ∙ was) is (g.cancels.stacks key ∙ ap (option_map (after_cancel g.key t)) e))
stack_acts {t} known f key l st (act_sets s m u x es g a) sound apart has new k was is e =
    let n = apart_sets known g apart has in
    let o = stack_acts known f key l st a (sound_sets g sound) n.0 n.1 new k (ap (λ (z : Labels). z key) g.labels ∙ was) is
    (ap (λ (tree : Tree). stack_of tree key) g.tree ∙ e) in
    record {
      after = o.after;
      at = o.at;
      levels = o.levels;
      labels = labels_both s.labels m.labels u.labels st st (same_levels st) (same_on s.labels m.labels st g.labels) o.labels;
      event = event_set key u g (one_acts key a) o.event;
    }
stack_acts known f key l st (act_enters s m u x t d es g a) sound apart has new k was is e =
    let n = apart_enters known g new.0 apart has in
    let differs = open_differs s.tree g.scope.id key g.fresh (is_open s.tree key st e) in
    stack_then st (same_levels st)
    (same_but g.labelled st (λ i j. open_differs s.tree g.scope.id i g.fresh (sound.around key st e i j)))
    (g.kind.others key differs) g.set
    (stack_acts (λ y. (y ≡ x) ⊎ known y) f key l st a (sound_enters g sound) n.0 n.1 new.1 (inr k)
    (g.labelled.others key differs ∙ was) is (g.others key differs ∙ e))
stack_acts {t} known f key l st (act_leaves s m u es g a) sound apart has new k was is e =
    by_key (same_or key g.scope.id) (λ differs.
    stack_acts known f key l st a (sound_leaves g sound) (apart_leaves known g apart has).0 (apart_leaves known g apart has).1 new k
    (g.unlabelled.others key differs ∙ was) is (g.others key differs ∙ e))
  where
    by_key : (key ≡ g.scope.id) ⊎ (key ≢ g.scope.id) → (key ≢ g.scope.id → SameStack t key st m u) → SameStack t key st s u
    by_key (inl same) more = absurd (closed_never known f l g a apart k new (sym (ap s.labels same) ∙ was) key is)
    by_key (inr differs) more =
        stack_then st (same_levels st) (same_but g.unlabelled st (λ i j. among_all g.scope.id i st (g.innermost key st differs e) j))
        (g.no_event.others key differs) g.set (more differs)
