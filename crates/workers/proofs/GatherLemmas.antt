-- The tickets that are returned, joined into one, the last one first.
use Rattle.std.proofs.Common.{◌≡◌, ℕ, zero, suc, ◌+◌, ◌<◌, ◌≤◌, List, [], ◌∷◌, ◌++◌, slice_index, true, cond, nat_eq, length, slice_index_or, sum_by, count_by, All, Any, refl, sym, ap, ◌∙◌, subst, arith, length-append, min}
use Rattle.std.proofs.lemmas.Bool.{ltb-true}
use Rattle.std.proofs.lemmas.List.Sums.{sum_by-cons, sum_by-append, sum_by_push}
use Rattle.std.proofs.lemmas.List.Elements.{All-head, All-tail, All-cons}
use Rattle.atomic_table.specs.Table.{Final, Seen}
use mathlib.Core.Option.{some, some-injective, some-ne-none}
use lib.ListN.{get_elem?}
use Rattle.workers.specs.declared.rule.Hand.{Hand}
use Rattle.workers.specs.declared.worker.Pass.{Pass}
use Rattle.workers.specs.declared.rule.Counts.{Counts}
use Rattle.workers.specs.Rule.{times, both_hands, Kept}
use Rattle.workers.specs.Claims.{drawn_by, is_spent}
use Rattle.workers.proofs.RuleLemmas.{Knows}
use Rattle.workers.proofs.StepLemmas.{closed_knows}

abbrev pub drawn_in : ℕ → List Pass → ℕ
drawn_in i passes = sum_by (λ pass. count_by (nat_eq i) (drawn_by pass)) passes

abbrev pub nones_in : List Pass → ℕ
nones_in passes = sum_by (λ pass. pass.seat.me.0.nones) passes

-- one hand and the tickets that are left together have what all tickets had
pub record Gathered (v : Hand) (left all : List Pass) : Type 0 where
  pub some : 0 < v.parts
  pub parts : v.parts + length left ≡ length all
  pub drawn : (i : ℕ) → count_by (nat_eq i) v.drawn + drawn_in i left ≡ drawn_in i all
  pub nones : v.nones + nones_in left ≡ nones_in all

-- the last ticket and those before it together have what all tickets had
pub gather_first : (left : List Pass) (pass : Pass) → pass.seat.me.0.parts ≡ 1 → Gathered pass.seat.me.0 left (left ++ pass ∷ [])
gather_first left pass one =
    record {
      some = omega arith;
      parts = (let long = length-append left (pass ∷ []) in omega arith);
      drawn = λ i. let push = sum_by_push (λ (p : Pass). count_by (nat_eq i) (drawn_by p)) left pass in omega arith;
      nones = let push = sum_by_push (λ (p : Pass). p.seat.me.0.nones) left pass in omega arith;
    }

-- the last of the tickets that are left is joined: the hand and the others still have what all had
pub gather_next : (v : Hand) (left all : List Pass) (pass : Pass) → pass.seat.me.0.parts ≡ 1 → Gathered v (left ++ pass ∷ []) all →
    Gathered (both_hands v pass.seat.me.0) left all
gather_next v left all pass one before =
    record {
      some = (let was = before.some in omega arith);
      parts = (let was = before.parts in let long = length-append left (pass ∷ []) in omega arith);
      drawn =
          λ i.
          let push = sum_by_push (λ (p : Pass). count_by (nat_eq i) (drawn_by p)) left pass in
          let joined = sum_by-append (λ (x : ℕ). cond (nat_eq i x) 1 0) v.drawn (drawn_by pass) in
          let was = before.drawn i in
          omega arith;
      nones =
          (let push = sum_by_push (λ (p : Pass). p.seat.me.0.nones) left pass in
          let was = before.nones in
          omega arith);
    }

-- where one of the tickets got `None`, the tickets together got at least one
spent_at : (passes : List Pass) (k : ℕ) (pass : Pass) → k < length passes → slice_index_or passes k pass ≡ pass → is_spent pass ≡ true →
    0 < nones_in passes
spent_at [] k pass within is spent = absurd (omega arith)
spent_at (p ∷ ps) zero pass within is spent =
    let some : 0 < p.seat.me.0.nones = subst (λ (q : Pass). 0 < q.seat.me.0.nones) (sym is) (ltb-true 0 pass.seat.me.0.nones spent) in
    let sum = sum_by-cons (λ (q : Pass). q.seat.me.0.nones) p ps in
    omega arith
spent_at (p ∷ ps) (suc k) pass within is spent =
    let rest = spent_at ps k pass (omega arith) is spent in
    let sum = sum_by-cons (λ (q : Pass). q.seat.me.0.nones) p ps in
    omega arith

-- how often a number occurs in a list, as contracts say it
pub times_count : (x : ℕ) (xs : List ℕ) → times x xs ≡ count_by (nat_eq x) xs
times_count x [] = refl
times_count x (y ∷ ys) = ap (λ n. cond (nat_eq x y) 1 0 + n) (times_count x ys) ∙ sym (sum_by-cons (λ z. cond (nat_eq x z) 1 0) y ys)

-- where some ticket got `None`, the tickets together got it at least once
pub spent_once : (passes : List Pass) → Any (λ pass. is_spent pass ≡ true) passes → 0 < nones_in passes
spent_once passes any = spent_at passes any.0 any.1 any.2 any.3 any.4

-- what is true of a list is true of its last element and of those before
pub all_front : {X : Type 0} (P : X → Type 0) (xs : List X) (y : X) → All P (xs ++ y ∷ []) → All P xs × P y
all_front P [] y each = ((λ k d within. absurd (omega arith)), each 0 y (omega arith))
all_front P (x ∷ xs) y each =
    let rest = all_front P xs y (All-tail P x (xs ++ y ∷ []) each) in
    (All-cons P x xs (All-head P x (xs ++ y ∷ []) each) rest.0, rest.1)

first_word : (words : List ℕ) (word : ℕ) → get_elem? words 0 ≡ some word → slice_index words 0 ≡ word
first_word [] word at = absurd (some-ne-none word (sym at))
first_word (w ∷ ws) word at = some-injective w word at

-- what is known once all tickets are returned
pub record Settled (requests word : ℕ) (all : List Pass) : Type 0 where
  pub count : min word requests ≡ requests
  pub each_once : (i : ℕ) → i < requests → drawn_in i all ≡ 1
  pub no_other : (i : ℕ) → requests ≤ i → drawn_in i all ≡ 0

all_drawn : (requests word : ℕ) (v : Hand) (all : List Pass) → Gathered v [] all → 0 < nones_in all → Knows requests word v →
    Settled requests word all
all_drawn requests word v all gathered spent knows =
    let nones = knows.nones in
    let is_spent = gathered.nones in
    let over : requests < word = omega arith in
    record {
      count = omega arith;
      each_once = λ i below. let drawn = gathered.drawn i in let once = knows.once i (omega arith) in let same =
          times_count i v.drawn in omega arith;
      no_other = λ i above. let drawn = gathered.drawn i in let none = knows.no_other i (omega arith) in let same =
          times_count i v.drawn in omega arith;
    }

none_left : (v : Hand) (left all : List Pass) → length left ≡ 0 → Gathered v left all → Gathered v [] all
none_left v [] all none gathered = gathered
none_left v (p ∷ ps) all none gathered = absurd (omega arith)

-- once all tickets are returned and one got `None`, each request was drawn once and nothing else
pub settled : (counts : Counts) (id : ℕ) (v : Hand) (words : List ℕ) (slots : List (Unit {0})) (word : ℕ) (left all : List Pass) →
    Final (Seen (Kept counts) id v) words slots → get_elem? words 0 ≡ some word → length left ≡ 0
    → Gathered v left all → length all ≡ counts.passes → Any (λ pass. is_spent pass ≡ true) all → Settled counts.requests word all
settled counts id v words slots word left all final at none gathered long spent =
    let parts = gathered.parts in
    let knows = closed_knows counts id v words slots final (omega arith) in
    all_drawn counts.requests word v all (none_left v left all none gathered) (spent_once all spent)
    (subst (λ n. Knows counts.requests n v) (first_word words word at) knows)
