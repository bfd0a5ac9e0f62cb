-- How many places are left, and which is the last.
use Rattle.std.proofs.Common.{◌≡◌, ℕ, zero, suc, ◌+◌, ◌-◌, ◌<◌, Bool, true, false, List, [], ◌∷◌, ◌++◌, length, refl, ap, sym, ◌∙◌, arith, append-nil, length-append}
use Rattle.std.specs.Prelude.{slice_index_or}
use Rattle.std.specs.List.{remove}
use Rattle.std.proofs.Math.Seq.{get_or-append_seam}
use Rattle.std.proofs.lemmas.List.Edits.{remove-append_right}
use Rattle.task_table.specs.Halves.{numbers}
use Rattle.task_table.specs.Places.{PlacesLeft, places_left, IsCounted}
use Rattle.task_table.proofs.HalvesLemmas.{left_count, numbers_append}

-- n numbers from one on are n
pub length-numbers : (base n : ℕ) → length (numbers base n) ≡ n
length-numbers base zero = refl
length-numbers base (suc n) = ap suc (length-numbers (base + 1) n)

-- the number of places that are left, whether they are counted by halves or not
pub length-places : (counted : Bool) (depth span first : ℕ) (counts : List ℕ) (left : ℕ) → IsCounted counted depth span first counts left →
    length (places_left counted depth span first counts left) ≡ left
length-places false depth span first counts left is = length-numbers first left
length-places true depth span first counts left is = left_count depth first _ left is.2

-- as many are left as the view says
pub left_is : (v : PlacesLeft) (counted : Bool) (depth span first : ℕ) (counts : List ℕ) (left : ℕ) →
    IsCounted counted depth span first counts left → places_left counted depth span first counts left ≡ v.left → left ≡ length v.left
left_is v counted depth span first counts left is view = sym (length-places counted depth span first counts left is) ∙ ap length view

-- the last one is at the index before their number
pub record LastOf (xs : List ℕ) (rest : List ℕ) (last : ℕ) : Type 0 where
  pub place : last ≡ slice_index_or xs (length xs - 1) 0
  pub rest_is : rest ≡ remove xs (length xs - 1)

last_of_push : (xs : List ℕ) (x : ℕ) → LastOf (xs ++ x ∷ []) xs x
last_of_push xs x =
    let n : length (xs ++ x ∷ []) - 1 ≡ length xs = omega (arith, length-append xs (x ∷ [])) in
    record {
      place = rw n (sym (get_or-append_seam xs x [] 0));
      rest_is = rw n (sym (remove-append_right xs (x ∷ []) (length xs) (length xs) refl (omega arith)
          ∙ ap (λ k. xs ++ remove (x ∷ []) k) (sub_self (length xs)) ∙ append-nil xs));
    }
  where
    sub_self : (n : ℕ) → n - n ≡ 0
    sub_self n = omega arith

last_of_numbers : (first left : ℕ) → 0 < left → LastOf (numbers first left) (numbers first (left - 1)) (first + (left - 1))
last_of_numbers first left some =
    let whole : numbers first (left - 1 + 1) ≡ numbers first (left - 1) ++ (first + (left - 1)) ∷ [] = numbers_append first (left - 1) 1 in
    let n : left - 1 + 1 ≡ left = omega (arith, some) in
    let is : numbers first left ≡ numbers first (left - 1) ++ (first + (left - 1)) ∷ [] = ap (numbers first) (sym n) ∙ whole in
    rw is (last_of_push (numbers first (left - 1)) (first + (left - 1)))

-- while places are not counted by halves, the largest is the last, and one fewer are left without it
pub last_left : (v : PlacesLeft) (counted : Bool) (depth span first : ℕ) (counts : List ℕ) (left : ℕ) → counted ≡ false →
    places_left counted depth span first counts left ≡ v.left → 0 < length v.left →
    LastOf v.left (places_left counted depth span first counts (left - 1)) (first + (left - 1))
last_left v counted depth span first counts left uncounted view some =
    let is : numbers first left ≡ v.left = rw uncounted at view in
    let count : left ≡ length v.left = sym (length-numbers first left) ∙ ap length is in
    let some' : 0 < left = rw count some in
    rw (uncounted, ← is) (last_of_numbers first left some')
