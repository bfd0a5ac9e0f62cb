-- What a task does to scopes lowers the effective deadline (`sight`) of no scope that it does not
-- mark as changed.
use Rattle.std.proofs.Common.{◌≡◌, ◌≢◌, ◌⊎◌, inl, inr, ℕ, suc, ◌+◌, ◌<◌, ◌≤◌, Bool, true, false, ◌==◌, ◌||◌, if◌then◌else◌, Some, None, List, [], ◌∷◌, refl, ap, sym, ◌∙◌, subst, arith, Option}
use Rattle.std.specs.Prelude.{nat_le, nat_lt}
use Rattle.std.specs.Option.{option_map}
use Rattle.std.proofs.lemmas.Bool.{le-leb, cases_eq}
use Rattle.std.proofs.lemmas.Bool.Decides.{leb_tells}
use Rattle.exceptions.specs.Exceptions.{Label}
use Rattle.cancel_scopes.specs.Sight.{Tick, earlier, before, is_reached, sight}
use Rattle.cancel_scopes.specs.Tree.{Stack, Tree, is_changed, after_cancel}
use Rattle.job_meaning.specs.Rest.{Event}
use Rattle.job_meaning.specs.Log.{Table}
use Rattle.job_meaning.proofs.Ticks.{reached_earlier}
use Rattle.task_machine.specs.Acts.{Scoping, Signs, Enters, Leaves, Acts, no_act, act_noted, act_shared, act_starts, act_signs, act_sets, act_enters, act_leaves}
use Rattle.task_machine.specs.Labels.{Labels}
use Rattle.run_refinement.specs.Sights.{Shows}
use Rattle.run_refinement.specs.Turn.{AreNew}
use Rattle.run_refinement.proofs.ActsKeep.{Apart, HasKnown, NoneHas, is_open, same_or, open_differs, labelled_left, apart_signs, apart_sets, apart_enters, apart_leaves}
use Rattle.run_refinement.proofs.ActsCancelledFrom.{unmoved}

-- ---- effective deadlines

or_left : (a b : Bool) → a ≡ true → (a || b) ≡ true
or_left true b e = refl
or_left false b e = absurd (let f : false ≡ true = e in cc)

or_right : (a b : Bool) → b ≡ true → (a || b) ≡ true
or_right true b e = refl
or_right false b e = e

either : (a b : Bool) → (a || b) ≡ true → (a ≡ true) ⊎ (b ≡ true)
either true b e = inl refl
either false b e = inr e

-- the earlier of two moments has come where one has
reached_left : (a b : Tick) (x : ℕ) → is_reached a x ≡ true → is_reached (earlier a b) x ≡ true
reached_left a b x e = reached_earlier a b x ∙ or_left (is_reached a x) (is_reached b x) e

reached_right : (a b : Tick) (x : ℕ) → is_reached b x ≡ true → is_reached (earlier a b) x ≡ true
reached_right a b x e = reached_earlier a b x ∙ or_right (is_reached a x) (is_reached b x) e

reached_more : (a b c d : Tick) (x : ℕ) → (is_reached a x ≡ true → is_reached c x ≡ true) → (is_reached b x ≡ true → is_reached d x ≡ true) →
    is_reached (earlier a b) x ≡ true →
    is_reached (earlier c d) x ≡ true
reached_more a b c d x left right e = by_one (either (is_reached a x) (is_reached b x) (sym (reached_earlier a b x) ∙ e))
  where
    by_one : (is_reached a x ≡ true) ⊎ (is_reached b x ≡ true) → is_reached (earlier c d) x ≡ true
    by_one (inl f) = reached_left c d x (left f)
    by_one (inr f) = reached_right c d x (right f)

-- a cancellation hides nothing
seen_cancelled : (id t x : ℕ) (st : Stack) → is_reached (sight st) x ≡ true → is_reached (sight (after_cancel id t st)) x ≡ true
seen_cancelled id t x [] e = e
seen_cancelled id t x (l ∷ ls) e = by_level (λ f. seen_cancelled id t x ls f) (l.label == id)
  where
    by_shield : (is_reached (sight ls) x ≡ true → is_reached (sight (after_cancel id t ls)) x ≡ true) → (s : Bool) (from : Tick) →
        (is_reached l.from x ≡ true → is_reached from x ≡ true) →
        is_reached (if s then l.from else earlier l.from (sight ls)) x ≡ true →
        is_reached (if s then from else earlier from (sight (after_cancel id t ls))) x ≡ true
    by_shield more true from own f = own f
    by_shield more false from own f = reached_more l.from (sight ls) from (sight (after_cancel id t ls)) x own more f

    by_level : (is_reached (sight ls) x ≡ true → is_reached (sight (after_cancel id t ls)) x ≡ true) → (b : Bool) →
        is_reached (sight ((if b then record l { from = earlier l.from (Some (t + 1)) } else l) ∷ after_cancel id t ls)) x ≡ true
    by_level more true = by_shield more l.shield (earlier l.from (Some (t + 1))) (reached_left l.from (Some (t + 1)) x) e
    by_level more false = by_shield more l.shield l.from (λ f. f) e

-- a moment that has come whenever another has is that one, or comes before it
same_or_before : (a b : Tick) → ((x : ℕ) → is_reached b x ≡ true → is_reached a x ≡ true) → (a ≡ b) ⊎ (before a b ≡ true)
same_or_before None None h = inl refl
same_or_before None (Some u) h = absurd (let f : false ≡ true = h u (le-leb u u (omega arith)) in cc)
same_or_before (Some t) None h = inr refl
same_or_before (Some t) (Some u) h = by_equal (cases_eq t u)
  where
    le : t ≤ u
    le = by_test (leb_tells t u)
      where
        by_test : ((nat_le t u ≡ true) × (t ≤ u)) ⊎ ((nat_le t u ≡ false) × (u < t)) → t ≤ u
        by_test (inl k) = k.1
        by_test (inr k) = absurd (let f : true ≡ false = sym (h u (le-leb u u (omega arith))) ∙ k.0 in cc)

    by_equal : (t ≡ u) ⊎ (t ≢ u) → (Some t ≡ Some u) ⊎ (nat_lt t u ≡ true)
    by_equal (inl e) = inl (ap (λ (n : ℕ). Some n) e)
    by_equal (inr differs) = inr (le-leb (suc t) u (omega (arith, le, differs)))

-- ---- one act

shows_signs : {t : ℕ} {label : Label} {s m : Scoping} → (key : ℕ) (kept : Tick) → Signs t label s m → Shows s.tree key kept →
    Shows m.tree key kept
shows_signs {t} {label} {s} {m} key kept g h =
    record { stack = after; opened = g.cancels.stacks key ∙ ap (option_map (after_cancel g.key t)) h.opened; known = by_mark h.known }
  where
    after : Stack
    after = after_cancel g.key t h.stack

    marks : is_changed m.tree key ≡ (is_changed s.tree key || before (sight after) (sight h.stack))
    marks = g.cancels.marks key h.stack h.opened

    by_mark : (sight h.stack ≡ kept) ⊎ (is_changed s.tree key ≡ true) → (sight after ≡ kept) ⊎ (is_changed m.tree key ≡ true)
    by_mark (inr e) = inr (marks ∙ or_left (is_changed s.tree key) (before (sight after) (sight h.stack)) e)
    by_mark (inl e) = by_sight (same_or_before (sight after) (sight h.stack) (λ x. seen_cancelled g.key t x h.stack))
      where
        by_sight : (sight after ≡ sight h.stack) ⊎ (before (sight after) (sight h.stack) ≡ true) → (sight after ≡ kept)
            ⊎ (is_changed m.tree key ≡ true)
        by_sight (inl f) = inl (f ∙ e)
        by_sight (inr f) = inr (marks ∙ or_right (is_changed s.tree key) (before (sight after) (sight h.stack)) f)

shows_enters : {parent : Option ℕ} {label : Label} {is_event : Bool} {d : Tick} {s m : Scoping} → (key : ℕ) (kept : Tick) → Enters parent label is_event d s m → Shows s.tree key kept →
    Shows m.tree key kept
shows_enters {label} {d} {s} {m} key kept g h =
    record { stack = h.stack; opened = g.others key differs ∙ h.opened; known = by_mark h.known }
  where
    differs : key ≢ g.scope.id
    differs = open_differs s.tree g.scope.id key g.fresh (is_open s.tree key h.stack h.opened)

    by_mark : (sight h.stack ≡ kept) ⊎ (is_changed s.tree key ≡ true) → (sight h.stack ≡ kept) ⊎ (is_changed m.tree key ≡ true)
    by_mark (inl e) = inl e
    by_mark (inr e) = inr (g.marks key ∙ e)

shows_leaves : {s m : Scoping} → (key : ℕ) (kept : Tick) → (g : Leaves s m) → key ≢ g.scope.id → Shows s.tree key kept →
    Shows m.tree key kept
shows_leaves {s} {m} key kept g differs h = record { stack = h.stack; opened = g.others key differs ∙ h.opened; known = by_mark h.known }
  where
    by_mark : (sight h.stack ≡ kept) ⊎ (is_changed s.tree key ≡ true) → (sight h.stack ≡ kept) ⊎ (is_changed m.tree key ≡ true)
    by_mark (inl e) = inl e
    by_mark (inr e) = inr (g.marks key differs ∙ e)

-- ---- all acts

-- a scope that is left has its label no more, and no scope gets that again
pub closed_never : {t : ℕ} → (known : Label → Type 0) (f : Table) (l : Label) → {s m u : Scoping} {es : List Event} → (g : Leaves s m) →
    Acts t m es u → Apart s → known l → AreNew known es →
    s.labels g.scope.id ≡ Some l → NoneHas l u
closed_never known f l {s} {m} g a apart k new e = (unmoved known f l a none k new).1
  where
    none : NoneHas l m
    none key i = let b = labelled_left g key l i in b.0 (apart.labels key g.scope.id l b.1 e)

-- any other scope than the one that is left still shows its effective deadline
shows_left : {t : ℕ} → (known : Label → Type 0) (f : Table) (key : ℕ) (l : Label) → {s m u : Scoping} {es : List Event} → (g : Leaves s m) →
    Acts t m es u → Apart s → known l → AreNew known es →
    s.labels key ≡ Some l → u.labels key ≡ Some l → (kept : Tick) → Shows s.tree key kept →
    (m.labels key ≡ Some l → Shows m.tree key kept → Shows u.tree key kept) → Shows u.tree key kept
shows_left known f key l {s} {m} {u} g a apart k new was is kept h more = by_key (same_or key g.scope.id)
  where
    by_key : (key ≡ g.scope.id) ⊎ (key ≢ g.scope.id) → Shows u.tree key kept
    by_key (inl e) = absurd (closed_never known f l g a apart k new (sym (ap s.labels e) ∙ was) key is)
    by_key (inr differs) = more (g.unlabelled.others key differs ∙ was) (shows_leaves key kept g differs h)

-- A scope that has its label in the end shows the effective deadline that it showed, or is marked.
pub shows_acts : {t : ℕ} → (known : Label → Type 0) (f : Table) (key : ℕ) (l : Label) (kept : Tick) → {s u : Scoping} {es : List Event} →
    Acts t s es u → Apart s → HasKnown known s →
    AreNew known es → known l → s.labels key ≡ Some l → u.labels key ≡ Some l → Shows s.tree key kept → Shows u.tree key kept
shows_acts known f key l kept (no_act s) apart has new k was is h = h
shows_acts known f key l kept (act_noted s u t e es a) apart has new k was is h = shows_acts known f key l kept a apart has new k was is h
shows_acts known f key l kept (act_shared s u shared t done es a) apart has new k was is h = shows_acts known f key l kept a apart has new k was is h
shows_acts known f key l kept (act_starts s u i x t es a) apart has new k was is h =
    shows_acts known f key l kept a apart has new k was is h
shows_acts known f key l kept (act_signs s m u x es g a) apart has new k was is h =
    let n = apart_signs known g apart has in
    shows_acts known f key l kept a n.0 n.1 new k (ap (λ (z : Labels). z key) g.labels ∙ was) is (shows_signs key kept g h)
shows_acts known f key l kept (act_sets s m u x es g a) apart has new k was is h =
    let n = apart_sets known g apart has in
    shows_acts known f key l kept a n.0 n.1 new k (ap (λ (z : Labels). z key) g.labels ∙ was) is
    (subst (λ (tree : Tree). Shows tree key kept) (sym g.tree) h)
shows_acts known f key l kept (act_enters s m u x t d es g a) apart has new k was is h =
    let n = apart_enters known g new.0 apart has in
    let differs = open_differs s.tree g.scope.id key g.fresh (is_open s.tree key h.stack h.opened) in
    shows_acts (λ y. (y ≡ x) ⊎ known y) f key l kept a n.0 n.1 new.1 (inr k) (g.labelled.others key differs ∙ was) is
    (shows_enters key kept g h)
shows_acts known f key l kept (act_leaves s m u es g a) apart has new k was is h =
    let n = apart_leaves known g apart has in
    shows_left known f key l g a apart k new was is kept h (λ left there. shows_acts known f key l kept a n.0 n.1 new k left is there)
