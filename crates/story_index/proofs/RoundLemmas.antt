-- One round as a union of sets, and rounds that add nothing.
use Rattle.std.proofs.Common.{◌≡◌, ℕ, ◌+◌, ◌≤◌, refl, sym, ap, ◌∙◌, arith}
use std.Path.{fun_ext}
use Rattle.std.specs.Prelude.{zero, suc, Bool, true, false, not, ◌&&◌, ◌||◌, List, [], ◌∷◌}
use Rattle.exceptions.specs.Exceptions.{Label}
use Rattle.exceptions.specs.Labels.{same_label_equiv}
use Rattle.job_meaning.specs.Log.{Table, same_label}
use Rattle.job_story.specs.Events.{Event}
use Rattle.job_story.specs.Focus.{causer_of, is_some_label, is_causer_of, is_among, is_causer_of_some, add_if, with_causers, causers_in}
use Rattle.story_index.proofs.LabelLemmas.{same_label_is}
use Rattle.story_index.specs.Added.{is_added}
use Rattle.story_index.proofs.Bools.{and_shown, or_nothing, or_new, other_task, same_task, some_of, swapped, without}
use Rattle.story_index.proofs.Causers.{is_task, causer_is_task}

-- whether some event is a cancellation of a task of a set, which this task caused
abbrev noted : (Label → Bool) → Table → List Event → Label → List Event → Bool
noted has table all l [] = false
noted has table all l (e ∷ es) = (has e.task && is_some_label l (causer_of table all e.what)) || noted has table all l es

-- ---- which task caused a cancellation of some task, event by event

no_task_noted : (table : Table) (all : List Event) (l : Label) (es : List Event) → noted (λ m. is_among m []) table all l es ≡ false
no_task_noted table all l [] = refl
no_task_noted table all l (e ∷ es) = no_task_noted table all l es

one_more_noted : (table : Table) (all : List Event) (l m : Label) (ms : List Label) (es : List Event) →
    noted (λ t. is_among t (m ∷ ms)) table all l es ≡ (is_causer_of table all l m es || noted (λ t. is_among t ms) table all l es)
one_more_noted table all l m ms [] = refl
one_more_noted table all l m ms (e ∷ es) =
    let c = is_some_label l (causer_of table all e.what) in
    let x = is_causer_of table all l m es in
    let y = noted (λ t. is_among t ms) table all l es in
    let turned : same_label e.task m ≡ same_label m e.task = same_label_equiv.symm e.task m in
    ap (λ (b : Bool). ((b || is_among e.task ms) && c) || noted (λ t. is_among t (m ∷ ms)) table all l es) turned
    ∙ ap (λ (b : Bool). ((same_label m e.task || is_among e.task ms) && c) || b) (one_more_noted table all l m ms es)
    ∙ swapped (same_label m e.task) (is_among e.task ms) c x y

caused_some_noted : (table : Table) (all : List Event) (l : Label) (kept : List Label) →
    is_causer_of_some table all l kept ≡ noted (λ m. is_among m kept) table all l all
caused_some_noted table all l [] = sym (no_task_noted table all l all)
caused_some_noted table all l (m ∷ ms) =
    ap (λ (b : Bool). is_causer_of table all l m all || b) (caused_some_noted table all l ms) ∙ sym (one_more_noted table all l m ms all)

-- ---- the members of a round

among_added : (b : Bool) (l t : Label) (ls : List Label) → is_among l (add_if b t ls) ≡ ((b && same_label l t) || is_among l ls)
among_added true l t ls = refl
among_added false l t ls = refl

one_more_task : (same a c s ct rt rl : Bool) → (same ≡ true → ct ≡ c) → (same ≡ true → rt ≡ rl) → rl ≡ (a || (c && s)) →
    (((ct && not rt) && same) || rl) ≡ (a || (c && (same || s)))
one_more_task true a c s ct rt rl f g is =
    ap (λ (b : Bool). ((b && not rt) && true) || rl) (f refl)
    ∙ ap (λ (b : Bool). ((c && not b) && true) || rl) (g refl)
    ∙ ap (λ (b : Bool). ((c && not b) && true) || b) is
    ∙ same_task a c s
one_more_task false a c s ct rt rl f g is = other_task (ct && not rt) rl ∙ is

among_with : (table : Table) (all : List Event) (l : Label) (kept : List Label) (es : List Event) →
    is_among l (with_causers table all kept es) ≡ (is_among l kept || (is_causer_of_some table all l kept && is_task l es))
among_with table all l kept [] = or_nothing (is_among l kept) (is_causer_of_some table all l kept)
among_with table all l kept (e ∷ es) =
    let rest = with_causers table all kept es in
    among_added (is_causer_of_some table all e.task kept && not (is_among e.task rest)) l e.task rest
    ∙ one_more_task (same_label l e.task) (is_among l kept) (is_causer_of_some table all l kept) (is_task l es)
    (is_causer_of_some table all e.task kept) (is_among e.task rest) (is_among l rest)
    (λ same. ap (λ m. is_causer_of_some table all m kept) (sym (same_label_is l e.task same)))
    (λ same. ap (λ m. is_among m rest) (sym (same_label_is l e.task same)))
    (among_with table all l kept es)

noted_is_task : (has : Label → Bool) (table : Table) (all : List Event) (l : Label) (es : List Event) →
    noted has table all l es ≡ true → is_task l all ≡ true
noted_is_task has table all l [] h = let clash : false ≡ true = h in cc
noted_is_task has table all l (e ∷ es) h =
    some_of (has e.task) (is_some_label l (causer_of table all e.what)) (noted has table all l es) (is_task l all)
    (causer_is_task table all l e.what) (noted_is_task has table all l es) h

-- the members of a round: those of the set, and each task that is recorded
among_noted : (table : Table) (all : List Event) (l : Label) (kept : List Label) →
    is_among l (with_causers table all kept all) ≡ (is_among l kept || noted (λ m. is_among m kept) table all l all)
among_noted table all l kept =
    let n = noted (λ m. is_among m kept) table all l all in
    among_with table all l kept all
    ∙ ap (λ (b : Bool). is_among l kept || (b && is_task l all)) (caused_some_noted table all l kept)
    ∙ ap (λ (b : Bool). is_among l kept || b) (and_shown n (is_task l all) (noted_is_task (λ m. is_among m kept) table all l all))

added_noted : (has : Label → Bool) (table : Table) (all : List Event) (l : Label) (es : List Event) →
    is_added has table all l es ≡ (noted has table all l es && not (has l))
added_noted has table all l [] = refl
added_noted has table all l (e ∷ es) =
    let x = has e.task in
    let y = is_some_label l (causer_of table all e.what) in
    let n = not (has l) in
    ap (λ (b : Bool). (x && (y && n)) || b) (added_noted has table all l es) ∙ without x y n (noted has table all l es)

-- a round adds what its definition adds
pub round_is : (has : Label → Bool) (table : Table) (all : List Event) (kept : List Label) → ((m : Label) → has m ≡ is_among m kept) →
    (l : Label) → (has l || is_added has table all l all) ≡ is_among l (with_causers table all kept all)
round_is has table all kept same l =
    ap (λ (b : Bool). has l || b) (added_noted has table all l all)
    ∙ or_new (has l) (noted has table all l all)
    ∙ ap (λ (f : Label → Bool). f l || noted f table all l all) (fun_ext same)
    ∙ sym (among_noted table all l kept)

-- ---- rounds that add nothing

-- a round of sets with the same members has the same members
with_same : (table : Table) (all : List Event) (ms ns : List Label) → ((m : Label) → is_among m ms ≡ is_among m ns) →
    (l : Label) → is_among l (with_causers table all ms all) ≡ is_among l (with_causers table all ns all)
with_same table all ms ns same l =
    sym (round_is (λ m. is_among m ms) table all ms (λ m. refl) l) ∙ round_is (λ m. is_among m ms) table all ns same l

-- where a round adds nothing, no number of rounds does
closed_stays : (n : ℕ) (table : Table) (all : List Event) (kept : List Label) →
    ((m : Label) → is_among m (with_causers table all kept all) ≡ is_among m kept) →
    (l : Label) → is_among l (causers_in n table all kept) ≡ is_among l kept
closed_stays zero table all kept closed l = refl
closed_stays (suc n) table all kept closed l =
    closed_stays n table all (with_causers table all kept all) (with_same table all (with_causers table all kept all) kept closed) l
    ∙ closed l

-- where it adds nothing after some rounds, further rounds add nothing
pub closed_after : (i n : ℕ) (table : Table) (all : List Event) (kept : List Label) → i ≤ n →
    ((m : Label) → is_among m (with_causers table all (causers_in i table all kept) all) ≡ is_among m (causers_in i table all kept)) →
    (l : Label) → is_among l (causers_in n table all kept) ≡ is_among l (causers_in i table all kept)
closed_after zero n table all kept within closed l = closed_stays n table all kept closed l
closed_after (suc i) zero table all kept within closed l = absurd (omega arith)
closed_after (suc i) (suc n) table all kept within closed l =
    closed_after i n table all (with_causers table all kept all) (omega arith) closed l

-- one more round after the others
pub last_round : (n : ℕ) (table : Table) (all : List Event) (kept : List Label) →
    causers_in (suc n) table all kept ≡ with_causers table all (causers_in n table all kept) all
last_round zero table all kept = refl
last_round (suc n) table all kept = last_round n table all (with_causers table all kept all)

-- the rounds so far, where one more added nothing, are all rounds
pub ended : (i n : ℕ) (table : Table) (all : List Event) (kept : List Label) (old new : Label → Bool) → i ≤ n →
    ((m : Label) → old m ≡ is_among m (causers_in i table all kept)) →
    ((m : Label) → new m ≡ is_among m (with_causers table all (causers_in i table all kept) all)) →
    ((m : Label) → new m ≡ old m) →
    (l : Label) → new l ≡ is_among l (causers_in n table all kept)
ended i n table all kept old new within before grown stays l =
    stays l ∙ before l ∙ sym (closed_after i n table all kept within (λ m. sym (grown m) ∙ stays m ∙ before m) l)

-- the rounds so far and one more
pub went_on : (i : ℕ) (table : Table) (all : List Event) (kept : List Label) (new : Label → Bool) →
    ((m : Label) → new m ≡ is_among m (with_causers table all (causers_in i table all kept) all)) →
    (l : Label) → new l ≡ is_among l (causers_in (i + 1) table all kept)
went_on i table all kept new grown l =
    let next : i + 1 ≡ suc i = omega arith in
    grown l ∙ ap (is_among l) (sym (last_round i table all kept)) ∙ ap (λ k. is_among l (causers_in k table all kept)) (sym next)
