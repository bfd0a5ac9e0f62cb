-- No label is entered twice in a run: those that a turn enters are new.
use Rattle.std.proofs.lemmas.Bool.{eqb-true, eq-eqb}
use Rattle.std.proofs.lemmas.Bool.Decides.{nat_tests}
use Rattle.std.proofs.Common.{◌≡◌, ◌≢◌, ◌⊎◌, inl, inr, ◌==◌, nat_lt, Bool, true, false, ℕ, ◌+◌, ◌<◌, ◌≤◌, List, [], ◌∷◌, ◌++◌, length, refl, ap, sym, ◌∙◌, subst, arith}
use Rattle.turn_semantics.specs.Lists.{IsAmong}
use Rattle.exceptions.specs.Exceptions.{Label}
use Rattle.job_tree.specs.Tree.{Tree as Job}
use Rattle.job_tree.specs.Names.{GivesNamesOnce}
use Rattle.job_tree.specs.Starting.{StartsInNurseries}
use Rattle.interleavings.specs.Laws.{IsSettledBy}
use Rattle.job_meaning.specs.Rest.{Event, noted, signs, enters, acts, starts, Stopped}
use Rattle.turn_semantics.specs.Midway.{Tables, Move}
use Rattle.turn_semantics.specs.Turned.{EntersIn}
use Rattle.interleavings.specs.Interleaving.{Started, times_made, made_times}
use Rattle.interleavings.specs.Rows.{entered_made}
use Rattle.interleavings.proofs.Readings.{times_join, enters_counted, made_few, made_counted}
use Rattle.interleavings.proofs.Running.{runs_keep_invariant}
use Rattle.run_refinement.specs.RunState.{Interleaving}
use Rattle.run_refinement.specs.Turn.{IsEntered, AreNew}
use Rattle.run_refinement.proofs.Goes.{WentOn}
use Rattle.run_refinement.proofs.LabelsApart.{known_enters, two_counted}

-- ---- how often a label is entered

-- events that enter each label once at most, and none that is known
pub new_of : (known : Label → Type 0) (es : List Event) → ((l : Label) → times_made l es ≤ 1) →
    ((l : Label) → known l → EntersIn l es → ⊥) → AreNew known es
unfolding times_made
new_of known [] once none = tt
new_of known (noted t e ∷ es) once none = new_of known es once none
new_of known (acts shared t done ∷ es) once none = new_of known es once none
new_of known (signs m t ∷ es) once none = new_of known es once none
new_of known (enters m t d ∷ es) once none =
    (λ k. none m k (inl refl), new_of (λ l. (l ≡ m) ⊎ known l) es (λ l. let f = once l in omega (arith, f)) none_after)
  where
    twice : (l : Label) → l ≡ m → EntersIn l es → ⊥
    twice l e i =
        let f = once l in
        let g = enters_counted l es i in
        let h : 1 ≤ times_made l (enters m t d ∷ []) = enters_counted l (enters m t d ∷ []) (inl e) in
        let j : times_made l (enters m t d ∷ es) ≡ times_made l (enters m t d ∷ []) + times_made l es =
        times_join l (enters m t d ∷ []) es in
        absurd (omega (arith, f, g, h, j))

    none_after : (l : Label) → (l ≡ m) ⊎ known l → EntersIn l es → ⊥
    none_after l (inl e) i = twice l e i
    none_after l (inr k) i = none l k (inr i)
new_of known (starts i m t ∷ es) once none = new_of known es once none

-- ---- what a turn enters

-- the labels that a turn enters were entered by no task before it, and none is twice in it
pub fresh_after : (k : Tables) (job : Job) (input : List ℕ) (t m s : ℕ) (own : List Label) (was : Interleaving k job input t m) (o : Move)
    (stopped : Stopped) →
    IsSettledBy k job input → GivesNamesOnce job →
    StartsInNurseries job → s < m → (w : WentOn k job input t m s own was o stopped) → AreNew (IsEntered was.at) o.made
fresh_after k job input t m s own was o stopped settled names starting less w = new_of (IsEntered was.at) o.made by_times by_known
  where
    once : (l : Label) → made_times l w.is.tasks ≤ 1
    once l =
        let f = (runs_keep_invariant k job input settled names starting w.is.cancelled_from t (m + length o.begun) w.is.tasks w.is.reached).0.once l in
        let g = made_few l w.is.tasks in omega (arith, f, g)

    made : (w.is.at s).made ≡ (was.at s).made ++ o.made
    made = ap (λ (x : Started). x.made) w.of_task

    there : IsAmong (w.is.at s) w.is.tasks × ((w.is.at s).serial ≡ s)
    there = w.is.has s (omega (arith, less))

    joined : (l : Label) → times_made l (w.is.at s).made ≡ times_made l (was.at s).made + times_made l o.made
    joined l = ap (times_made l) made ∙ times_join l (was.at s).made o.made

    by_times : (l : Label) → times_made l o.made ≤ 1
    by_times l = let f = once l in let g = made_counted l (w.is.at s) w.is.tasks there.0 in let h = joined l in omega (arith, f, g, h)

    by_serial : (l : Label) (p : ℕ) → IsAmong l (entered_made (was.at p).made) → EntersIn l o.made → (b : Bool) → (p == s) ≡ b → (c : Bool) →
        nat_lt p m ≡ c → ⊥
    by_serial l p known i true e c f =
        let is : p ≡ s = eqb-true p s e in
        let had = enters_counted l (was.at s).made (known_enters l (was.at s).made
        (subst (λ (n : ℕ). IsAmong l (entered_made (was.at n).made)) is known)) in
        let new = enters_counted l o.made i in
        let most = once l in let g = made_counted l (w.is.at s) w.is.tasks there.0 in let h = joined l in
        absurd (omega (arith, had, new, most, g, h))
    by_serial l p known i false e true f =
        let lower : p < m = grind (arith, nat_tests) in
        let differs : p ≢ s = λ g. absurd (let x : true ≡ false = sym (eq-eqb p s g) ∙ e in cc) in
        let other : w.is.at p ≡ was.at p = w.of_other p lower differs in
        let had = enters_counted l (was.at p).made (known_enters l (was.at p).made known) in
        let had_there : times_made l (w.is.at p).made ≡ times_made l (was.at p).made = ap (λ (x : Started). times_made l x.made) other in
        let at_p = w.is.has p (omega (arith, lower)) in
        let new = enters_counted l o.made i in
        let both = two_counted l (w.is.at s) (w.is.at p) w.is.tasks there.0 at_p.0 (λ g. differs (sym at_p.1 ∙ sym g ∙ there.1)) in
        let most = once l in let h = joined l in
        absurd (omega (arith, had, had_there, new, both, most, h))
    by_serial l p known i false e false f =
        let upper : m ≤ p = grind (arith, nat_tests) in
        subst (λ (es : List Event). IsAmong l (entered_made es)) (was.none p upper) known

    by_known : (l : Label) → IsEntered was.at l → EntersIn l o.made → ⊥
    by_known l known i = by_serial l known.0 known.1 i (known.0 == s) refl (nat_lt known.0 m) refl
