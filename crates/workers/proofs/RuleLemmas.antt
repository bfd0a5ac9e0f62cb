-- Each step keeps the rule.
use Rattle.std.proofs.Common.{◌≡◌, ℕ, zero, suc, ◌+◌, ◌-◌, ◌<◌, ◌≤◌, List, [], ◌∷◌, ◌++◌, min, set, All, refl, sym, ap, ◌∙◌, subst, ⊎_elim, inl, inr, arith}
use Rattle.std.proofs.lemmas.Bool.{cases_lt}
use mathlib.Core.Option.{some, some-injective, some-ne-none}
use lib.ListN.{get_elem?}
use Rattle.atomic_table.proofs.Lists.{at_set, at_snoc}
use Rattle.workers.specs.declared.rule.Hand.{Hand}
use Rattle.workers.specs.Rule.{hand, times, total, Fair, Claimed, one_less, new_hand, both_hands, spent_hand}
use Rattle.workers.proofs.TotalLemmas.{times-here, times-else, times-append, below_all, total-set, total-push, at_most_total, total-le, total-alone}

-- all hands are fair after one of them changed
fair_set : (requests : ℕ) (hands : List Hand) (i : ℕ) (w : Hand) → ((j : ℕ) (u : Hand) → get_elem? hands j ≡ some u → Fair requests u) →
    Fair requests w → (j : ℕ) (u : Hand) → get_elem? (set hands i w) j ≡ some u → Fair requests u
fair_set requests hands i w each mine j u at =
    ⊎_elim (λ here. subst (Fair requests) here.1 mine) (λ there. each j u there.1) (at_set hands i j w u at)

-- all hands are fair after one was added
fair_push : (requests : ℕ) (hands : List Hand) (w : Hand) → ((j : ℕ) (u : Hand) → get_elem? hands j ≡ some u → Fair requests u) →
    Fair requests w → (j : ℕ) (u : Hand) → get_elem? (hands ++ w ∷ []) j ≡ some u → Fair requests u
fair_push requests hands w each mine j u at =
    ⊎_elim (λ there. each j u there) (λ here. subst (Fair requests) here mine) (at_snoc hands w u j at)

-- at the start one hand stands for all tickets, and nothing was claimed
pub starts : (requests passes : ℕ) → Claimed requests passes 0 (hand requests passes [] 0 ∷ [])
starts requests passes =
    record {
      once = λ x below. absurd (omega arith);
      no_other = λ x above. refl;
      nones = omega arith;
      parts = omega arith;
      fair = one;
    }
  where
    one : (i : ℕ) (v : Hand) → get_elem? (hand requests passes [] 0 ∷ []) i ≡ some v → Fair requests v
    one zero v at = subst (Fair requests) (some-injective _ v at)
        (record { nones = omega arith; most = λ some. refl; empty = λ none. refl })
    one (suc i) v at = absurd (some-ne-none v (sym at))

-- how often each hand got `None` is bounded by the tickets
pub nones_few : (requests passes word : ℕ) (hands : List Hand) → Claimed requests passes word hands → word - requests ≤ passes
nones_few requests passes word hands rule =
    let few = total-le (λ v. v.nones) (λ v. v.parts) hands (λ i v at. (rule.fair i v at).nones) in
    let nones = rule.nones in
    let parts = rule.parts in
    omega arith

-- a ticket is split off a hand that stands for more than one
pub splits : (requests passes word : ℕ) (hands : List Hand) (i : ℕ) (v : Hand) → Claimed requests passes word hands →
    get_elem? hands i ≡ some v → 1 < v.parts → v.nones ≡ 0 → Claimed requests passes word (set hands i (one_less v) ++ new_hand v ∷ [])
splits requests passes word hands i v rule at more unspent =
    let left = one_less v in
    let right = new_hand v in
    let fair = rule.fair i v at in
    let same = λ (x : ℕ).
    let cut = total-set (λ u. times x u.drawn) hands i v left at in
    let push = total-push (λ u. times x u.drawn) (set hands i left) right in
    let is : total (λ u. times x u.drawn) (set hands i left ++ right ∷ []) ≡ total (λ u. times x u.drawn) hands = omega arith in
    is in
    record {
      once = λ x below. same x ∙ rule.once x below;
      no_other = λ x above. same x ∙ rule.no_other x above;
      nones =
          (let cut = total-set (λ u. u.nones) hands i v left at in
          let push = total-push (λ u. u.nones) (set hands i left) right in
          let before = rule.nones in
          omega arith);
      parts =
          (let cut = total-set (λ u. u.parts) hands i v left at in
          let push = total-push (λ u. u.parts) (set hands i left) right in
          let before = rule.parts in
          omega arith);
      fair =
          fair_push requests (set hands i left) right
          (fair_set requests hands i left rule.fair (record {
            nones = omega arith;
            most = λ some. fair.most (omega arith);
            empty =
                λ none. absurd (omega arith);
          }))
          (record { nones = omega arith; most = λ some. fair.most (omega arith); empty = λ none. refl });
    }

-- the next number is drawn
pub draws_number : (requests passes word : ℕ) (hands : List Hand) (i : ℕ) (v : Hand) → Claimed requests passes word hands →
    get_elem? hands i ≡ some v → 0 < v.parts → word < requests
    → Claimed requests passes (word + 1) (set hands i (hand v.most v.parts (v.drawn ++ word ∷ []) v.nones))
draws_number requests passes word hands i v rule at some_part left =
    let w = hand v.most v.parts (v.drawn ++ word ∷ []) v.nones in
    let fair = rule.fair i v at in
    let counts = λ (x : ℕ).
    let change = total-set (λ u. times x u.drawn) hands i v w at in
    let more : times x w.drawn ≡ times x v.drawn + times x (word ∷ []) = times-append x v.drawn (word ∷ []) in
    let is : total (λ u. times x u.drawn) (set hands i w) ≡ total (λ u. times x u.drawn) hands + times x (word ∷ []) = omega arith in
    is in
    record {
      once = λ x below.
          elim (cases_lt x word) [
            | inl sooner ↦
                let was = rule.once x (omega arith) in
                let not_now = times-else x word (λ e. omega arith) in
                let is = counts x in
                omega arith
            | inr later ↦
                let same : word ≡ x = omega arith in
                let was = rule.no_other x (omega arith) in
                let now : times x (word ∷ []) ≡ 1 = subst (λ y. times x (y ∷ []) ≡ 1) (sym same) (times-here x) in
                let is = counts x in
                omega arith
          ];
      no_other = λ x above.
          let was = rule.no_other x (omega arith) in
          let not_now = times-else x word (λ e. omega arith) in
          let is = counts x in
          omega arith;
      nones =
          (let change = total-set (λ u. u.nones) hands i v w at in
          let before = rule.nones in
          omega arith);
      parts =
          (let change = total-set (λ u. u.parts) hands i v w at in
          let before = rule.parts in
          omega arith);
      fair = fair_set requests hands i w rule.fair (record { nones = fair.nones; most = fair.most; empty = λ none. absurd (omega arith) });
    }

-- a hand gets `None`
pub draws_none : (requests passes word : ℕ) (hands : List Hand) (i : ℕ) (v : Hand) → Claimed requests passes word hands →
    get_elem? hands i ≡ some v → 0 < v.parts → v.nones ≡ 0 → requests ≤ word
    → Claimed requests passes (word + 1) (set hands i (hand v.most v.parts v.drawn (v.nones + 1)))
draws_none requests passes word hands i v rule at some_part unspent over =
    let w = hand v.most v.parts v.drawn (v.nones + 1) in
    let fair = rule.fair i v at in
    let same = λ (x : ℕ).
    let change = total-set (λ u. times x u.drawn) hands i v w at in
    let is : total (λ u. times x u.drawn) (set hands i w) ≡ total (λ u. times x u.drawn) hands = omega arith in
    is in
    record {
      once = λ x below. same x ∙ rule.once x (omega arith);
      no_other = λ x above. same x ∙ rule.no_other x (omega arith);
      nones =
          (let change = total-set (λ u. u.nones) hands i v w at in
          let before = rule.nones in
          omega arith);
      parts =
          (let change = total-set (λ u. u.parts) hands i v w at in
          let before = rule.parts in
          omega arith);
      fair = fair_set requests hands i w rule.fair (record { nones = omega arith; most = fair.most; empty = fair.empty });
    }

-- all that a hand drew before is below the number that it draws
pub drawn_before : (requests passes word : ℕ) (hands : List Hand) (i : ℕ) (v : Hand) → Claimed requests passes word hands →
    get_elem? hands i ≡ some v → All (λ j. j < word) v.drawn
drawn_before requests passes word hands i v rule at =
    below_all word v.drawn (λ x above.
    let mine : times x v.drawn ≤ total (λ u. times x u.drawn) hands = at_most_total (λ u. times x u.drawn) hands i v at in
    let none = rule.no_other x (omega arith) in
    omega arith)

-- a hand is joined to another
pub joins : (requests passes word : ℕ) (hands : List Hand) (i j : ℕ) (v w : Hand) → Claimed requests passes word hands →
    get_elem? hands i ≡ some v → 0 < v.parts → get_elem? (set hands i (both_hands v w)) j ≡ some w
    → get_elem? hands j ≡ some w → Claimed requests passes word (set (set hands i (both_hands v w)) j spent_hand)
joins requests passes word hands i j v w rule at some_part then there =
    let both = both_hands v w in
    let fair = rule.fair i v at in
    let other = rule.fair j w there in
    let same = λ (x : ℕ).
    let take = total-set (λ u. times x u.drawn) hands i v both at in
    let give = total-set (λ u. times x u.drawn) (set hands i both) j w spent_hand then in
    let sum = times-append x v.drawn w.drawn in
    let is : total (λ u. times x u.drawn) (set (set hands i both) j spent_hand) ≡ total (λ u. times x u.drawn) hands = omega arith in
    is in
    record {
      once = λ x below. same x ∙ rule.once x below;
      no_other = λ x above. same x ∙ rule.no_other x above;
      nones =
          (let take = total-set (λ u. u.nones) hands i v both at in
          let give = total-set (λ u. u.nones) (set hands i both) j w spent_hand then in
          let before = rule.nones in
          omega arith);
      parts =
          (let take = total-set (λ u. u.parts) hands i v both at in
          let give = total-set (λ u. u.parts) (set hands i both) j w spent_hand then in
          let before = rule.parts in
          omega arith);
      fair =
          fair_set requests (set hands i both) j spent_hand
          (fair_set requests hands i both rule.fair
          (record {
            nones = (let a = fair.nones in let b = other.nones in omega arith);
            most = λ some. fair.most some_part;
            empty = λ none. absurd (omega arith);
          }))
          (record { nones = omega arith; most = λ some. absurd (omega arith); empty = λ none. refl });
    }

-- the hand that stands for all tickets determines the word, and has drawn each number below it once
pub record Knows (requests word : ℕ) (v : Hand) : Type 0 where
  pub once : (x : ℕ) → x < min word requests → times x v.drawn ≡ 1
  pub no_other : (x : ℕ) → min word requests ≤ x → times x v.drawn ≡ 0
  pub nones : v.nones ≡ word - requests

-- the hand that stands for all tickets drew what the word counted, and got `None` for each further claim
pub knows_all : (requests passes word : ℕ) (hands : List Hand) (i : ℕ) (v : Hand) → Claimed requests passes word hands →
    get_elem? hands i ≡ some v → v.parts ≡ passes → Knows requests word v
knows_all requests passes word hands i v rule at all =
    let alone = rule.parts ∙ sym all in
    let drawn = λ (x : ℕ). total-alone (λ u. times x u.drawn) hands i v at alone
    (λ j u there none. ap (times x) ((rule.fair j u there).empty none)) in
    let nones = total-alone (λ u. u.nones) hands i v at alone (λ j u there none. let few = (rule.fair j u there).nones in omega arith) in
    record {
      once = λ x below. sym (drawn x) ∙ rule.once x below;
      no_other = λ x above. sym (drawn x) ∙ rule.no_other x above;
      nones = sym nones ∙ rule.nones;
    }
