-- The answers of a worker, and of all workers together.
use Rattle.std.proofs.Common.{◌≡◌, ◌≢◌, ℕ, ◌+◌, ◌<◌, ◌≤◌, max, Bool, true, cond, nat_eq, List, [], ◌∷◌, ◌++◌, map, All, Any, length, slice_index_or, slice_set, sum_by, count_by, refl, sym, ap, ◌∙◌, subst, arith, get_or-set_same, get_or-set_other}
use mathlib.Core.Logic.{dite}
use native.Mathlib.Decide.{ℕ_discrete}
use Rattle.std.proofs.lemmas.Bool.{ne_eqb}
use Rattle.std.proofs.lemmas.List.{map-append, get_or_default}
use Rattle.std.proofs.lemmas.List.Sums.{sum_by-cons, sum_by-append, sum_by_push}
use Rattle.std.proofs.lemmas.List.Elements.{All-append, All-push, All-head, All-tail}
use Rattle.input_lines.specs.declared.request.Request.{Request}
use Rattle.input_lines.specs.declared.answers.Answer.{Answer}
use Rattle.workers.specs.declared.worker.Pass.{Pass}
use Rattle.workers.specs.Claims.{drawn_by, is_spent}
use Rattle.workers.specs.declared.slot.Slot.{Slot}
use Rattle.workers.specs.declared.worker_state.Numbered.{Numbered}
use Rattle.workers.specs.Slots.{Answers, IsComputed, AreComputed, slot_of}
use Rattle.workers.specs.WorkerStates.{number, IsRight, AreDrawn, AreGathered, HaveAnswers}

-- one more than the maximum number
abbrev pub top : List ℕ → ℕ
top [] = 0
top (x ∷ xs) = max (x + 1) (top xs)

-- where all numbers are below a bound, so is the maximum
pub top-at_most : (xs : List ℕ) (n : ℕ) → All (λ x. x < n) xs → top xs ≤ n
top-at_most [] n all = omega arith
top-at_most (x ∷ xs) n all =
    let here : x < n = All-head (λ y. y < n) x xs all in
    let rest = top-at_most xs n (All-tail (λ y. y < n) x xs all) in
    omega arith

-- a number in the list is at most the maximum
pub top-push : (xs : List ℕ) (n : ℕ) → n + 1 ≤ top (xs ++ n ∷ [])
top-push [] n = omega arith
top-push (x ∷ xs) n = let rest = top-push xs n in omega arith

-- one more request is drawn and answered
pub drawn-one_more : (requests : List Request) (drawn drawn_then : List ℕ) (answered then : List Numbered) (i : ℕ) (request : Request)
    (answer : Answer) → AreDrawn requests drawn answered → i < length requests → request ≡ slice_index_or requests i request
    → Answers request answer → drawn_then ≡ drawn ++ i ∷ [] → then ≡ answered ++ record { number = i; answer = answer } ∷ [] →
    AreDrawn requests drawn_then then
drawn-one_more requests drawn drawn_then answered then i request answer before inside is right drew noted =
    let numbered : Numbered = record { number = i; answer = answer } in
    record {
      numbers = ap (map number) noted ∙ map-append number answered (numbered ∷ []) ∙ ap (λ (xs : List ℕ). xs ++ i ∷ []) before.numbers
          ∙ sym drew;
      right = subst (All (IsRight requests)) (sym noted) (All-push (IsRight requests) answered numbered before.right
          (inside, λ q. subst (λ r. Answers r answer) (is ∙ get_or_default requests i request q inside) right));
    }

-- the answers of one more worker are collected
pub gathered-one_more : (requests : List Request) (passes passes_then : List Pass) (pass : Pass) (answered then its : List Numbered) →
    AreGathered requests passes answered → AreDrawn requests (drawn_by pass) its
    → passes_then ≡ passes ++ pass ∷ [] → then ≡ answered ++ its → AreGathered requests passes_then then
gathered-one_more requests passes passes_then pass answered then its before drawn pushed appended =
    record {
      right = subst (All (IsRight requests)) (sym appended) (All-append (IsRight requests) answered its before.right drawn.right);
      each =
          λ i.
          let count : Pass → ℕ = λ (p : Pass). count_by (nat_eq i) (drawn_by p) in
          let left = ap (λ ns. count_by (nat_eq i) (map number ns)) appended ∙ ap (count_by (nat_eq i)) (map-append number answered its)
          ∙ sum_by-append (λ x. cond (nat_eq i x) 1 0) (map number answered) (map number its) in
          let right = ap (sum_by count) pushed ∙ sum_by_push count passes pass in
          let same = ap (count_by (nat_eq i)) drawn.numbers in
          let was = before.each i in
          left ∙ omega arith ∙ sym right;
    }

-- each slot holds the result of its request, except those with answers still to come
abbrev pub ComputedBut : List Request → List Numbered → List Slot → Type 0
ComputedBut requests left row = (i : ℕ) (q : Request) (s : Slot) → i < length requests → count_by (nat_eq i) (map number left) ≡ 0 →
    IsComputed (slice_index_or requests i q) (slice_index_or row i s)

-- another number is not counted
count-other : (i other : ℕ) (xs : List ℕ) → i ≢ other → count_by (nat_eq i) (other ∷ xs) ≡ count_by (nat_eq i) xs
count-other i other xs ne = sum_by-cons (λ x. cond (nat_eq i x) 1 0) other xs
    ∙ ap (λ (b : Bool). cond b 1 0 + count_by (nat_eq i) xs) (ne_eqb i other ne) ∙ omega arith

-- one more answer is placed
pub placed-one_more : (requests : List Request) (rest left : List Numbered) (numbered : Numbered) (row then : List Slot) →
    length row ≡ length requests → rest ≡ numbered ∷ left → IsRight requests numbered → ComputedBut requests rest row
    → then ≡ slice_set row numbered.number (slot_of numbered.answer) → ComputedBut requests left then
placed-one_more requests rest left numbered row then paired next right but put i q s inside none =
    let at = numbered.number in
    let slot = slot_of numbered.answer in
    subst (λ (slots : List Slot). IsComputed (slice_index_or requests i q) (slice_index_or slots i s)) (sym put)
    (dite (ℕ_discrete i at)
    (λ (here : i ≡ at). subst (λ k. IsComputed (slice_index_or requests k q) (slice_index_or (slice_set row at slot) k s)) (sym here)
    (subst (IsComputed (slice_index_or requests at q)) (sym (get_or-set_same row at slot s (omega (arith, right.0)))) (right.1 q)))
    (λ (other : i ≢ at). subst (IsComputed (slice_index_or requests i q)) (sym (get_or-set_other row at i slot s other))
    (but i q s inside (ap (λ ns. count_by (nat_eq i) (map number ns)) next ∙ count-other i at (map number left) other ∙ none))))

-- where all answers are placed, all slots are computed
pub placed-all : (requests : List Request) (left : List Numbered) (row : List Slot) → length row ≡ length requests → left ≡ [] →
    ComputedBut requests left row → AreComputed requests row
placed-all requests left row paired none but i q s less = but i q s (omega arith) (ap (λ ns. count_by (nat_eq i) (map number ns)) none)

-- no answer is placed yet, and each request has one
pub placed-none : (requests : List Request) (answered : List Numbered) (row : List Slot) → HaveAnswers requests answered →
    ComputedBut requests answered row
placed-none requests answered row have i q s inside none = let some = have.each i inside in absurd (omega arith)

-- where the claims were closed, each request has an answer
pub gathered-all : (requests : List Request) (passes : List Pass) (answered : List Numbered) → AreGathered requests passes answered →
    ((i : ℕ) → i < length requests → sum_by (λ (pass : Pass). count_by (nat_eq i) (drawn_by pass)) passes ≡ 1)
    → HaveAnswers requests answered
gathered-all requests passes answered gathered once =
    record { right = gathered.right; each = λ i inside. let same = gathered.each i in let one = once i inside in omega arith }

-- where all of several tickets got `None`, the first did
pub spent-first : (passes : List Pass) → 0 < length passes → All (λ pass. is_spent pass ≡ true) passes →
    Any (λ pass. is_spent pass ≡ true) passes
spent-first [] some all = absurd (omega arith)
spent-first (pass ∷ passes) some all = (0, pass, some, refl, all 0 pass some)
