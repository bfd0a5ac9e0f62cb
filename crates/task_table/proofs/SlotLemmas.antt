-- Slots and what they hold.
use Rattle.std.proofs.Common.{◌≡◌, ℕ, zero, suc, ◌+◌, ◌<◌, List, [], ◌∷◌, ◌++◌, Option, Some, None, length, map, refl, ap, sym, ◌∙◌, arith, add-zero}
use Rattle.std.specs.Prelude.{slice_index_or, slice_get, slice_set}
use Rattle.std.specs.List.{remove}
use Rattle.task_table.specs.Halves.{numbers}
use Rattle.task_table.specs.Slots.{values_in, places_from}

module _ {T : Type 0} where
  -- slots have as many places that are not empty as values that they hold
  pub length-places_from : (place : ℕ) (slots : List (Option T)) → length (places_from place slots) ≡ length (values_in slots)
  length-places_from place [] = refl
  length-places_from place (None ∷ slots) = length-places_from (place + 1) slots
  length-places_from place (Some value ∷ slots) = ap suc (length-places_from (place + 1) slots)

  -- the k-th of what slots hold, the first of which has a place, is taken out of its slot
  pub record Taken (place k : ℕ) (slots : List (Option T)) : Type 0 where
    pub index : ℕ
    pub its_place : slice_index_or (places_from place slots) k 0 ≡ place + index
    pub within : index < length slots
    pub value : T
    pub at_index : slice_index_or slots index None ≡ Some value
    pub at_k : slice_get (values_in slots) k ≡ Some value
    pub rest : values_in (slice_set slots index None) ≡ remove (values_in slots) k
    pub places : places_from place (slice_set slots index None) ≡ remove (places_from place slots) k

  -- whichever of the full slots is emptied, its value and its place are removed, and the others stay in their order
  pub taken : (place k : ℕ) (slots : List (Option T)) → k < length (places_from place slots) → Taken place k slots
  taken place k [] lt = absurd (omega (arith, lt))
  taken place k (None ∷ slots) lt =
      let t = taken (place + 1) k slots lt in
      record {
        index = suc t.index;
        its_place = t.its_place ∙ omega arith;
        within = omega (arith, t.within);
        value = t.value;
        at_index = t.at_index;
        at_k = t.at_k;
        rest = t.rest;
        places = t.places;
      }
  taken place zero (Some value ∷ slots) lt =
      record {
        index = 0;
        its_place = sym (add-zero place);
        within = omega arith;
        value = value;
        at_index = refl;
        at_k = refl;
        rest = refl;
        places = refl;
      }
  taken place (suc k) (Some value ∷ slots) lt =
      let lt' : k < length (places_from (place + 1) slots) = omega (arith, lt) in
      let t = taken (place + 1) k slots lt' in
      record {
        index = suc t.index;
        its_place = t.its_place ∙ omega arith;
        within = omega (arith, t.within);
        value = t.value;
        at_index = t.at_index;
        at_k = t.at_k;
        rest = ap (λ vs. value ∷ vs) t.rest;
        places = ap (λ ps. place ∷ ps) t.places;
      }

  -- a full slot at the end has its value after those of the others
  pub held-append : (slots : List (Option T)) (value : T) → values_in (slots ++ Some value ∷ []) ≡ values_in slots ++ value ∷ []
  held-append [] value = refl
  held-append (None ∷ slots) value = held-append slots value
  held-append (Some v ∷ slots) value = ap (λ vs. v ∷ vs) (held-append slots value)

  -- slots that are all full
  pub held-full : {A : Type 0} (f : A → T) (xs : List A) → values_in (map (λ a. Some (f a)) xs) ≡ map f xs
  held-full f [] = refl
  held-full f (x ∷ xs) = ap (λ vs. f x ∷ vs) (held-full f xs)

  -- the places of slots that are all full follow one another without a gap
  pub places_from-full : {A : Type 0} (f : A → T) (place : ℕ) (xs : List A) →
      places_from place (map (λ a. Some (f a)) xs) ≡ numbers place (length xs)
  places_from-full f place [] = refl
  places_from-full f place (x ∷ xs) = ap (λ ps. place ∷ ps) (places_from-full f (place + 1) xs)
