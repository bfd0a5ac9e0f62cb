-- What a task does to scopes leaves those of other tasks where they are, inside the same ones.
use Rattle.std.proofs.Common.{◌≡◌, ◌≢◌, inl, inr, ℕ, ◌+◌, Bool, true, false, ◌==◌, if◌then◌else◌, Option, Some, None, List, [], ◌∷◌, ◌++◌, refl, ap, sym, ◌∙◌, subst}
use Rattle.std.specs.Prelude.{IsSome}
use Rattle.std.specs.Option.{option_map}
use Rattle.exceptions.specs.Exceptions.{Label}
use Rattle.cancel_scopes.specs.Sight.{Tick, Level, earlier}
use Rattle.cancel_scopes.specs.Tree.{Stack, Tree, stack_of, IsOpen, after_cancel}
use Rattle.job_meaning.specs.Rest.{Event}
use Rattle.task_machine.specs.declared.task.Own.{Own}
use Rattle.task_machine.specs.Acts.{Scoping, Signs, Sets, Enters, Leaves, Acts, no_act, act_noted, act_shared, act_starts, act_signs, act_sets, act_enters, act_leaves}
use Rattle.task_machine.specs.Fitting.{AreOthers}
use Rattle.task_machine.specs.Labels.{Labels, Events, Updates}
use Rattle.task_machine.specs.Stacked.{IsKey, SameOn}
use Rattle.run_refinement.proofs.ActsKeep.{Sound, is_open, all_first, all_last, key_stays, among_all, open_differs, sound_signs, sound_sets, sound_enters, sound_leaves}
use Rattle.task_machine.proofs.Others.{others_but}

-- these levels are of the same scopes with the same shields
abbrev pub SameLevels : Stack → Stack → Type 0
SameLevels [] [] = Unit {0}
SameLevels [] (m ∷ ms) = ⊥
SameLevels (l ∷ ls) [] = ⊥
SameLevels (l ∷ ls) (m ∷ ms) = (m.label ≡ l.label) × (m.shield ≡ l.shield) × SameLevels ls ms

-- a scope that is none of the task's stays open inside the same ones, with their labels, and is none of the task's
pub record Stays (key : ℕ) (st : Stack) (s u : Scoping) : Type 0 where
  pub after : Stack
  pub at : stack_of u.tree key ≡ Some after
  pub levels : SameLevels st after
  pub labels : SameOn s.labels u.labels st
  pub others : AreOthers key u.own

-- ---- levels and labels

shield_stays : (l : Level ℕ) (t : ℕ) (b : Bool) → (if b then record l { from = earlier l.from (Some (t + 1)) } else l).shield ≡ l.shield
shield_stays l t true = refl
shield_stays l t false = refl

pub levels_cancelled : (id t : ℕ) (st : Stack) → SameLevels st (after_cancel id t st)
levels_cancelled id t [] = tt
levels_cancelled id t (l ∷ ls) = (key_stays l t (l.label == id), shield_stays l t (l.label == id), levels_cancelled id t ls)

pub same_levels : (st : Stack) → SameLevels st st
same_levels [] = tt
same_levels (l ∷ ls) = (refl, refl, same_levels ls)

pub levels_both : (a b c : Stack) → SameLevels a b → SameLevels b c → SameLevels a c
levels_both [] [] [] e f = tt
levels_both [] [] (z ∷ c) e f = absurd f
levels_both [] (y ∷ b) c e f = absurd e
levels_both (x ∷ a) [] c e f = absurd e
levels_both (x ∷ a) (y ∷ b) [] e f = absurd f
levels_both (x ∷ a) (y ∷ b) (z ∷ c) e f = (f.0 ∙ e.0, f.1 ∙ e.1, levels_both a b c e.2 f.2)

-- labels that are the same on a stack, and then on what it became
pub labels_both : (labels more most : Labels) (a b : Stack) → SameLevels a b → SameOn labels more a → SameOn more most b → SameOn labels most a
labels_both labels more most [] b e f g = tt
labels_both labels more most (x ∷ a) [] e f g = absurd e
labels_both labels more most (x ∷ a) (y ∷ b) e f g =
    (f.0 ∙ (sym (ap more e.0) ∙ (g.0 ∙ ap most e.0)), labels_both labels more most a b e.2 f.1 g.1)

pub same_on : (labels more : Labels) (st : Stack) → more ≡ labels → SameOn labels more st
same_on labels more [] e = tt
same_on labels more (l ∷ ls) e = (sym (ap (λ (f : Labels). f l.label) e), same_on labels more ls e)

-- if no scope of a stack has the key whose label changes
pub same_but : {labels more : Labels} {key : ℕ} {o : Option Label} → Updates labels more key o → (st : Stack) →
    ((k : ℕ) → IsKey k st → k ≢ key) → SameOn labels more st
same_but u [] differs = tt
same_but u (l ∷ ls) differs = (sym (u.others l.label (differs l.label (inl refl))), same_but u ls (λ k i. differs k (inr i)))

-- the same of events
same_events_but : {events more : Events} {key : ℕ} {o : Option Tick} → Updates events more key o → (st : Stack) →
    ((k : ℕ) → IsKey k st → k ≢ key) → SameOn events more st
same_events_but u [] differs = tt
same_events_but u (l ∷ ls) differs =
    (sym (u.others l.label (differs l.label (inl refl))), same_events_but u ls (λ k i. differs k (inr i)))

-- ---- a scope of another task stays

-- a scope that is none of the task's stays open inside the same ones when one is cancelled
pub stays_signs : {t : ℕ} {label : Label} {s m : Scoping} {key : ℕ} {st : Stack} → Signs t label s m → stack_of s.tree key ≡ Some st →
    AreOthers key s.own → Stays key st s m
stays_signs {t} {label} {s} {m} {key} {st} g e others =
    record {
      after = after_cancel g.key t st;
      at = g.cancels.stacks key ∙ ap (option_map (after_cancel g.key t)) e;
      levels = levels_cancelled g.key t st;
      labels = same_on s.labels m.labels st g.labels;
      others = subst (AreOthers key) (sym g.own) others;
    }

-- it stays when an event is set
pub stays_sets : {t : ℕ} {label : Label} {s m : Scoping} {key : ℕ} {st : Stack} → Sets t label s m → stack_of s.tree key ≡ Some st →
    AreOthers key s.own → Stays key st s m
stays_sets {t} {label} {s} {m} {key} {st} g e others =
    record {
      after = st;
      at = ap (λ (tree : Tree). stack_of tree key) g.tree ∙ e;
      levels = same_levels st;
      labels = same_on s.labels m.labels st g.labels;
      others = subst (AreOthers key) (sym g.own) others;
    }

-- a scope that is entered or left changes no stack of another task's
pub record Keeps (key : ℕ) (st : Stack) (s m : Scoping) : Type 0 where
  pub at : stack_of m.tree key ≡ Some st
  pub labels : SameOn s.labels m.labels st
  pub events : SameOn s.events m.events st
  pub others : AreOthers key m.own

-- a scope that is none of the task's keeps its stack and the labels in it when one is entered
pub keeps_enters : {parent : Option ℕ} {label : Label} {is_event : Bool} {d : Tick} {s m : Scoping} {key : ℕ} {st : Stack} → Enters parent label is_event d s m → Sound s →
    stack_of s.tree key ≡ Some st → AreOthers key s.own → Keeps key st s m
keeps_enters {label} {d} {s} {m} {key} {st} g h e others =
    record {
      at = g.others key differs ∙ e;
      labels = same_but g.labelled st inside;
      events = same_events_but g.kind st inside;
      others = subst (AreOthers key) (sym g.opened) (others_but key s.own g.scope others (λ f. differs (sym f)));
    }
  where
    inside : (k : ℕ) → IsKey k st → k ≢ g.scope.id
    inside k i = open_differs s.tree g.scope.id k g.fresh (h.around key st e k i)

    differs : key ≢ g.scope.id
    differs = open_differs s.tree g.scope.id key g.fresh (is_open s.tree key st e)

-- a scope that is none of the task's keeps its stack and the labels in it when one is left
pub keeps_leaves : {s m : Scoping} {key : ℕ} {st : Stack} → Leaves s m → stack_of s.tree key ≡ Some st → AreOthers key s.own →
    Keeps key st s m
keeps_leaves {s} {m} {key} {st} g e others =
    record {
      at = g.others key differs ∙ e;
      labels = same_but g.unlabelled st inside;
      events = same_events_but g.no_event st inside;
      others = all_first (λ (o : Own). o.id ≢ key) m.own g.scope split;
    }
  where
    split : AreOthers key (m.own ++ g.scope ∷ [])
    split = subst (AreOthers key) g.taken others

    differs : key ≢ g.scope.id
    differs f = all_last (λ (o : Own). o.id ≢ key) m.own g.scope split (sym f)

    inside : (k : ℕ) → IsKey k st → k ≢ g.scope.id
    inside k i = among_all g.scope.id k st (g.innermost key st differs e) i

stays_kept : {key : ℕ} {st : Stack} {s m : Scoping} → Keeps key st s m → Stays key st s m
stays_kept {key} {st} {s} {m} n = record { after = st; at = n.at; levels = same_levels st; labels = n.labels; others = n.others }

stays_both : {key : ℕ} {st : Stack} {s m u : Scoping} → (n : Stays key st s m) → Stays key n.after m u → Stays key st s u
stays_both {key} {st} {s} {m} {u} n o =
    record {
      after = o.after;
      at = o.at;
      levels = levels_both st n.after o.after n.levels o.levels;
      labels = labels_both s.labels m.labels u.labels st n.after n.levels n.labels o.labels;
      others = o.others;
    }

-- a scope that is none of the task's stays open inside the same ones, whatever the task does
pub stays : {t : ℕ} {s u : Scoping} {es : List Event} {key : ℕ} {st : Stack} → Acts t s es u → Sound s → stack_of s.tree key ≡ Some st →
    AreOthers key s.own → Stays key st s u
stays {st = st} (no_act s) h e others =
    record { after = st; at = e; levels = same_levels st; labels = same_on s.labels s.labels st refl; others = others }
stays (act_noted s u t e es a) h f others = stays a h f others
stays (act_shared s u shared t done es a) h f others = stays a h f others
stays (act_starts s u i l t es a) h f others = stays a h f others
stays (act_signs s m u l es g a) h e others = let n = stays_signs g e others in stays_both n (stays a (sound_signs g h) n.at n.others)
stays (act_sets s m u l es g a) h e others = let n = stays_sets g e others in stays_both n (stays a (sound_sets g h) n.at n.others)
stays (act_enters s m u l t d es g a) h e others = let n = stays_kept (keeps_enters g h e others) in
    stays_both n (stays a (sound_enters g h) n.at n.others)
stays (act_leaves s m u es g a) h e others = let n = stays_kept (keeps_leaves g e others) in
    stays_both n (stays a (sound_leaves g h) n.at n.others)

-- ---- and no other scope is one of another task

-- a scope is open and none of the task's
abbrev pub IsElse : ℕ → Scoping → Type 0
IsElse key s = IsOpen s.tree key × AreOthers key s.own

mapped_was : (f : Stack → Stack) (o : Option Stack) → IsSome (option_map f o) → IsSome o
mapped_was f None i = i
mapped_was f (Some b) i = refl

-- a scope that is open and none of the task's was so before one was cancelled
pub else_signs : {t : ℕ} {label : Label} {s m : Scoping} {key : ℕ} → Signs t label s m → IsElse key m → IsElse key s
else_signs {t} {label} {s} {m} {key} g i =
    (mapped_was (after_cancel g.key t) (stack_of s.tree key) (subst IsSome (g.cancels.stacks key) i.0), subst (AreOthers key) g.own i.1)

-- a scope that is open and none of the task's was so before an event was set
pub else_sets : {t : ℕ} {label : Label} {s m : Scoping} {key : ℕ} → Sets t label s m → IsElse key m → IsElse key s
else_sets {t} {label} {s} {m} {key} g i = (subst (λ (tree : Tree). IsOpen tree key) g.tree i.0, subst (AreOthers key) g.own i.1)

-- a scope that is open and none of the task's was so before one was entered
pub else_enters : {parent : Option ℕ} {label : Label} {is_event : Bool} {d : Tick} {s m : Scoping} {key : ℕ} → Enters parent label is_event d s m → IsElse key m → IsElse key s
else_enters {label} {d} {s} {m} {key} g i =
    let split : AreOthers key (s.own ++ g.scope ∷ []) = subst (AreOthers key) g.opened i.1 in (
      subst IsSome (g.others key (λ f. all_last (λ (o : Own). o.id ≢ key) s.own g.scope split (sym f))) i.0,
      all_first (λ (o : Own). o.id ≢ key) s.own g.scope split,
    )

-- a scope that is open and none of the task's was so before one was left
pub else_leaves : {s m : Scoping} {key : ℕ} → Leaves s m → IsElse key m → IsElse key s
else_leaves {s} {m} {key} g i =
    let differs : key ≢ g.scope.id = open_differs m.tree g.scope.id key g.closed i.0 in
    (subst IsSome (g.others key differs) i.0, subst (AreOthers key) (sym g.taken) (others_but key m.own g.scope i.1 (λ f. differs (sym f))))

-- a scope that is open and none of the task's was so before, whatever the task did
pub else_acts : {t : ℕ} {s u : Scoping} {es : List Event} {key : ℕ} → Acts t s es u → IsElse key u → IsElse key s
else_acts (no_act s) i = i
else_acts (act_noted s u t e es a) i = else_acts a i
else_acts (act_shared s u shared t done es a) i = else_acts a i
else_acts (act_starts s u i l t es a) j = else_acts a j
else_acts (act_signs s m u l es g a) i = else_signs g (else_acts a i)
else_acts (act_sets s m u l es g a) i = else_sets g (else_acts a i)
else_acts (act_enters s m u l t d es g a) i = else_enters g (else_acts a i)
else_acts (act_leaves s m u es g a) i = else_leaves g (else_acts a i)

-- a scope that is open in the end and none of the task's was so before
pub only : {t : ℕ} {s u : Scoping} {es : List Event} {key : ℕ} {st : Stack} → Acts t s es u → stack_of u.tree key ≡ Some st →
    AreOthers key u.own → IsOpen s.tree key × AreOthers key s.own
only {t} {s} {u} {es} {key} {st} a e others = else_acts a (is_open u.tree key st e, others)
