-- How a turn leaves the effective deadlines (`sight`) of other tasks' scopes: each is what it was, or its scope is
-- marked as changed.
use Rattle.std.proofs.Common.{◌≡◌, ◌≢◌, ℕ, ◌<◌, Option, Some, None, List, [], ◌∷◌, refl, ap, sym, ◌∙◌, subst}
use Rattle.exceptions.specs.Exceptions.{Label}
use Rattle.cancel_scopes.specs.Sight.{Tick}
use Rattle.cancel_scopes.specs.Tree.{Stack, Tree, stack_of, outer_of, own_label, IsOwn}
use Rattle.job_tree.specs.Tree.{Tree as Job}
use Rattle.job_tree.specs.Names.{GivesNamesOnce}
use Rattle.job_tree.specs.Starting.{StartsInNurseries}
use Rattle.job_meaning.specs.Log.{Table}
use Rattle.interleavings.specs.Laws.{IsSettledBy}
use Rattle.turn_semantics.specs.Midway.{Tables, Place}
use Rattle.task_machine.specs.declared.stop.Stop.{Stop}
use Rattle.task_machine.specs.declared.task.Task.{Task}
use Rattle.task_machine.specs.Labels.{Labels, Events}
use Rattle.task_machine.specs.Stacked.{AreAt}
use Rattle.task_machine.specs.Tasks.{scope_of}
use Rattle.task_machine.specs.Worlds.{label_at, event_at}
use Rattle.task_machine.proofs.Stacked.{one_of}
use Rattle.interleavings.specs.Interleaving.{Started}
use Rattle.run_refinement.specs.RunState.{RunState, Follows, Refines}
use Rattle.run_refinement.specs.Sights.{Shows}
use Rattle.run_refinement.specs.Turn.{IsEntered, numbers_then, leaving_by}
use Rattle.run_refinement.specs.Turning.{Turning}
use Rattle.run_refinement.proofs.ActsKeep.{not_both}
use Rattle.run_refinement.proofs.ActsSights.{shows_acts}
use Rattle.run_refinement.proofs.StateTurn.{ActsOf, acted}
use Rattle.run_refinement.proofs.OtherScopes.{open_stack, outer_is}

-- the label of the innermost of some places
abbrev pub first_label : List Place → Option Label
first_label [] = None
first_label (p ∷ ps) = Some p.label

-- the label of an open scope is that of the place of its stack's innermost level
label_first : (labels : Labels) (events : Events) (f : Table) (key : ℕ) (st : Stack) (ps : List Place) → own_label st ≡ Some key → AreAt labels events f st ps →
    (l : Label) × (labels key ≡ Some l) × (first_label ps ≡ Some l)
label_first labels events f key [] ps own at = absurd (not_both refl own)
label_first labels events f key (x ∷ st) [] own at = absurd at
label_first labels events f key (x ∷ st) (p ∷ ps) own at = (p.label, ap labels (sym (one_of x.label key own)) ∙ at.0, refl)

-- so is that of a task's scope
pub scope_label : (labels : Labels) (events : Events) (f : Table) (tree : Tree) (scope : Option ℕ) (key : ℕ) (ps : List Place) → IsOwn tree → scope ≡ Some key →
    (st : Stack) → stack_of tree key ≡ Some st →
    AreAt labels events f (outer_of tree scope) ps → (l : Label) × (labels key ≡ Some l) × (first_label ps ≡ Some l)
scope_label labels events f tree scope key ps own is st opened at =
    label_first labels events f key st ps (own key st opened)
    (subst (λ (x : Stack). AreAt labels events f x ps) (outer_is tree key st opened)
    (subst (λ (o : Option ℕ). AreAt labels events f (outer_of tree o) ps) is at))

-- The scope of another task shows the effective deadline that it showed, or is marked.
pub shows_still : {k : Tables} {job : Job} {input : List ℕ} {t m s : ℕ} {old new : RunState} {before after : Task} {stop : Stop} →
    IsSettledBy k job input → GivesNamesOnce job → StartsInNurseries job →
    (c : Refines k job input t m None old) → (T : Turning k job input t m s old new c.numbers before after stop c.interleaving) → (u : ℕ) → u < m →
    u ≢ s → (task : Task) → old.task u ≡ Some task →
    Follows new T.is.cancelled_from input t T.is.at (numbers_then c.numbers s m T.took.numbers_after) (leaving_by stop s) u task → (key : ℕ) →
    scope_of task ≡ Some key → (kept : Tick) →
    Shows old.world.scopes key kept → Shows new.world.scopes key kept
shows_still {k} {job} {input} {t} {m} {s} {old} {new} {before} {after} {stop} settled names starting c T u below differs task lives now key
    is kept h =
    shows_acts (IsEntered c.interleaving.at) (λ l. None) key was.0 kept a.acts a.apart a.has a.new (a.has key was.0 was.1) was.1
    (then.1 ∙ ap (λ (l : Label). Some l) same) h
  where
    a : ActsOf c T
    a = acted c T settled names starting

    q : Started
    q = c.interleaving.at u

    was : (l : Label) × (label_at old.world key ≡ Some l) × (first_label q.places ≡ Some l)
    was =
        scope_label (label_at old.world) (event_at old.world) c.interleaving.cancelled_from old.world.scopes (scope_of task) key q.places T.code.sound.own is h.stack h.opened
        (c.follows u task lives).stands.places

    after_stack : (st : Stack) × (stack_of new.world.scopes key ≡ Some st)
    after_stack = open_stack new.world.scopes key (now.goes.scope key is)

    then : (l : Label) × (label_at new.world key ≡ Some l) × (first_label (T.is.at u).places ≡ Some l)
    then =
        scope_label (label_at new.world) (event_at new.world) T.is.cancelled_from new.world.scopes (scope_of task) key (T.is.at u).places T.code.sound_after.own is
        after_stack.0 after_stack.1 now.stands.places

    same : then.0 ≡ was.0
    same = one_of then.0 was.0 (sym then.2 ∙ (ap (λ (x : Started). first_label x.places) (T.of_other u below differs) ∙ was.2))
