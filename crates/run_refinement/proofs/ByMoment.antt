-- Acts in the order of their moments, those of the last one after the others; and which grant is found first.
use Rattle.std.proofs.Common.{◌≡◌, ◌⊎◌, inl, inr, ℕ, ◌+◌, ◌<◌, ◌≤◌, Bool, true, false, ◌&&◌, ◌==◌, Some, None, List, [], ◌∷◌, ◌++◌, refl, ap, ◌∙◌, subst, arith, nat_lt, nat_le, if◌then◌else◌}
use Rattle.std.proofs.lemmas.Bool.{eqb-true, cases_lt}
use Rattle.std.proofs.lemmas.Bool.Decides.{nat_tests}
use Rattle.exceptions.specs.Exceptions.{Label}
use Rattle.job_meaning.specs.Log.{Act, opens, asks, gives_back, closes, same_label}
use Rattle.job_meaning.specs.Sharing.{Done, Given, Granted, granted_if, find_given, by_moment, insert_by_moment}
use Rattle.turn_semantics.specs.Lists.{Each}
use Rattle.run_refinement.specs.Sharing.{done_before, done_from}
use Rattle.run_refinement.proofs.ActsKeep.{not_both}
use Rattle.run_refinement.proofs.Counts.{one_if, count, count_append, asker_in, askers_in, of_asker}
use Rattle.run_refinement.proofs.DoneLists.{sorted_each, befores}
use Rattle.run_refinement.proofs.Gone.{asked_then}

-- ---- acts by a moment, in order

insert_first : (t : ℕ) (d : Done) (xs ys : List Done) → d.at < t → Each (λ (e : Done). t ≤ e.at) ys → insert_by_moment d (xs ++ ys) ≡ insert_by_moment d xs ++ ys
insert_first t d [] [] lt h = refl
insert_first t d [] (e ∷ ys) lt h = ap (λ (b : Bool). if b then d ∷ e ∷ ys else e ∷ insert_by_moment d ys) early
  where
    early : nat_le d.at e.at ≡ true
    early = let le : t ≤ e.at = h.0 in grind (arith, nat_tests)
insert_first t d (x ∷ xs) ys lt h = by_order (nat_le d.at x.at) (insert_first t d xs ys lt h)
  where
    by_order : (b : Bool) → insert_by_moment d (xs ++ ys) ≡ insert_by_moment d xs ++ ys →
        (if b then d ∷ x ∷ (xs ++ ys) else x ∷ insert_by_moment d (xs ++ ys)) ≡ (if b then d ∷ x ∷ xs else x ∷ insert_by_moment d xs) ++ ys
    by_order true k = refl
    by_order false k = ap (λ (zs : List Done). x ∷ zs) k

insert_last : (t : ℕ) (d : Done) (xs ys : List Done) → d.at ≡ t → Each (λ (e : Done). e.at < t) xs → Each (λ (e : Done). t ≤ e.at) ys →
    insert_by_moment d (xs ++ ys) ≡ xs ++ d ∷ ys
insert_last t d [] [] e h k = refl
insert_last t d [] (y ∷ ys) e h k = ap (λ (b : Bool). if b then d ∷ y ∷ ys else y ∷ insert_by_moment d ys) early
  where
    early : nat_le d.at y.at ≡ true
    early = let le : t ≤ y.at = k.0 in grind (arith, nat_tests)
insert_last t d (x ∷ xs) ys e h k =
    ap (λ (b : Bool). if b then d ∷ x ∷ (xs ++ ys) else x ∷ insert_by_moment d (xs ++ ys)) late
    ∙ ap (λ (zs : List Done). x ∷ zs) (insert_last t d xs ys e h.1 k)
  where
    late : nat_le d.at x.at ≡ false
    late = let lt : x.at < t = h.0 in grind (arith, nat_tests)

froms : (t : ℕ) (ds : List Done) → Each (λ (d : Done). t ≤ d.at) (done_from t ds)
froms t [] = tt
froms t (d ∷ ds) = by_time (nat_lt t (d.at + 1)) refl (froms t ds)
  where
    by_time : (b : Bool) → nat_lt t (d.at + 1) ≡ b → Each (λ (x : Done). t ≤ x.at) (done_from t ds) → Each (λ (x : Done). t ≤ x.at) (done_from t (d ∷ ds))
    by_time true e h = rw e (let le : t ≤ d.at = grind (arith, nat_tests) in (le, h))
    by_time false e h = rw e h

-- acts by this moment are those before it, and then its own
pub split_moment : (t : ℕ) (ds : List Done) → Each (λ (d : Done). d.at ≤ t) ds → by_moment ds ≡ by_moment (done_before t ds) ++ done_from t ds
split_moment t [] h = refl
split_moment t (d ∷ ds) h = by_time (cases_lt d.at t) (ap (insert_by_moment d) (split_moment t ds h.1))
  where
    Inner : Type 0
    Inner = insert_by_moment d (by_moment ds) ≡ insert_by_moment d (by_moment (done_before t ds) ++ done_from t ds)

    by_time : (d.at < t) ⊎ (t ≤ d.at) → Inner → by_moment (d ∷ ds) ≡ by_moment (done_before t (d ∷ ds)) ++ done_from t (d ∷ ds)
    by_time (inl lt) inner =
        rw early (rw not_late (inner ∙ insert_first t d (by_moment (done_before t ds)) (done_from t ds) lt (froms t ds)))
      where
        early : nat_lt d.at t ≡ true
        early = grind (arith, nat_tests)

        not_late : nat_lt t (d.at + 1) ≡ false
        not_late = grind (arith, nat_tests)
    by_time (inr le) inner =
        rw not_early (rw late (inner
        ∙ insert_last t d (by_moment (done_before t ds)) (done_from t ds) (let g : d.at ≤ t = h.0 in omega (arith, g, le))
        (sorted_each (λ (x : Done). x.at < t) (done_before t ds) (befores t ds)) (froms t ds)))
      where
        not_early : nat_lt d.at t ≡ false
        not_early = grind (arith, nat_tests)

        late : nat_lt t (d.at + 1) ≡ true
        late = grind (arith, nat_tests)

-- ---- what was found first

pub find_first : (l : Label) (since : ℕ) (xs ys : List Given) (g : Granted) → find_given l since xs ≡ Some g → find_given l since (xs ++ ys) ≡ Some g
find_first l since [] ys g e = absurd (not_both refl e)
find_first l since (x ∷ xs) ys g e = by_test (same_label l x.task && (since == x.asked)) e (find_first l since xs ys g)
  where
    by_test : (b : Bool) → granted_if b x.granted (find_given l since xs) ≡ Some g → (find_given l since xs ≡ Some g → find_given l since (xs ++ ys) ≡ Some g) →
        granted_if b x.granted (find_given l since (xs ++ ys)) ≡ Some g
    by_test true h k = h
    by_test false h k = k h

pub find_last : (l : Label) (since : ℕ) (xs ys : List Given) → find_given l since xs ≡ None → find_given l since (xs ++ ys) ≡ find_given l since ys
find_last l since [] ys e = refl
find_last l since (x ∷ xs) ys e = by_test (same_label l x.task && (since == x.asked)) e (find_last l since xs ys)
  where
    by_test : (b : Bool) → granted_if b x.granted (find_given l since xs) ≡ None → (find_given l since xs ≡ None → find_given l since (xs ++ ys) ≡ find_given l since ys) →
        granted_if b x.granted (find_given l since (xs ++ ys)) ≡ find_given l since ys
    by_test true h k = absurd (not_both h refl)
    by_test false h k = k h

pub found_at : (n : ℕ) (l : Label) (since : ℕ) (gs : List Given) (g : Granted) → Each (λ (x : Given). x.granted.at ≤ n) gs → find_given l since gs ≡ Some g → g.at ≤ n
found_at n l since [] g h e = absurd (not_both refl e)
found_at n l since (x ∷ gs) g h e = by_test (same_label l x.task && (since == x.asked)) e (found_at n l since gs g h.1)
  where
    by_test : (b : Bool) → granted_if b x.granted (find_given l since gs) ≡ Some g → (find_given l since gs ≡ Some g → g.at ≤ n) → g.at ≤ n
    by_test true i k = subst (λ (z : Granted). z.at ≤ n) (let j : Some x.granted ≡ Some g = i in one_granted x.granted g j) h.0
      where
        one_granted : (a b : Granted) → Some a ≡ Some b → a ≡ b
        one_granted a b j = cc
    by_test false i k = k i

-- who asks now asked nothing before
pub none_before : (label : Label) (t : ℕ) (ds : List Done) → Each (λ (d : Done). d.at < t) ds → count (of_asker (asked_then label t)) (askers_in ds) ≡ 0
none_before label t [] h = refl
none_before label t (d ∷ ds) h =
    let a = count_append (of_asker (asked_then label t)) (asker_in d d.act) (askers_in ds) in
    let b = of_act d.act in
    let c = none_before label t ds h.1 in
    omega (arith, a, b, c)
  where
    other : (b : Bool) → (t == d.at) ≡ b → (t == d.at) ≡ false
    other false e = e
    other true e = absurd (let f : t ≡ d.at = eqb-true t d.at e in let lt : d.at < t = h.0 in omega (arith, f, lt))

    none : (b : Bool) → one_if (b && (t == d.at)) + 0 ≡ 0
    none true = ap (λ (x : Bool). one_if x + 0) (other (t == d.at) refl) ∙ omega arith
    none false = omega arith

    of_act : (a : Act) → count (of_asker (asked_then label t)) (asker_in d a) ≡ 0
    of_act (opens kind) = refl
    of_act (asks ask part left) = none (same_label label d.task)
    of_act gives_back = refl
    of_act closes = refl
