-- What the calls make of batches.
use Rattle.std.proofs.Common.{◌≡◌, ℕ, ◌+◌, ◌<◌, ◌≤◌, List, [], ◌∷◌, ◌++◌, Option, Some, None, length, map, refl, ap, sym, ◌∙◌, arith, length-append}
use Rattle.std.specs.Prelude.{slice_index_or, slice_get, slice_set, IsTrue, nat_eq, IsSome, ◌↔◌}
use Rattle.std.specs.List.{remove}
use Rattle.std.proofs.lemmas.List.{nil_from_length, length-map}
use Rattle.std.proofs.lemmas.Bool.{eqb-true, eq-eqb}
use Rattle.input_lines.specs.declared.answers.Answer.{Answer}
use Rattle.task_table.specs.declared.entry.Entry.{Entry}
use Rattle.task_table.specs.Halves.{numbers}
use Rattle.task_table.specs.Places.{PlacesLeft}
use Rattle.task_table.specs.Slots.{values_in, places_from}
use Rattle.task_table.specs.Entries.{Added, without_answer, added_of}
use Rattle.task_table.specs.Placing.{slots_placed}
use Rattle.task_table.specs.Batch.{unplaced_slots, added_in, IsReady}
use Rattle.task_table.proofs.SlotLemmas.{Taken, taken, length-places_from, held-append, held-full, places_from-full}
use Rattle.task_table.proofs.EntryLemmas.{places_from-placed}

-- as many places are left as entries
pub left_count : (current next : List (Option Entry)) (places : PlacesLeft) → IsReady current next places →
    length places.left ≡ length (values_in current)
left_count current next places is = ap length is.left ∙ length-places_from 0 current

-- the length of a list is zero just where the list is empty
pub nothing_left : {X : Type 0} (xs : List X) (n : ℕ) → n ≡ length xs → IsTrue (nat_eq n 0) ↔ (xs ≡ [])
nothing_left xs n e = (
  (λ (h : IsTrue (nat_eq n 0)). nil_from_length xs (sym e ∙ eqb-true n 0 h)),
  (λ (h : xs ≡ []). eq-eqb n 0 (e ∙ ap length h)),
)

-- an entry is added
pub added_in-push : (next : List (Option Entry)) (a : Added) → added_in (next ++ Some (without_answer a) ∷ []) ≡ added_in next ++ a ∷ []
added_in-push next a = ap (map added_of) (held-append next (without_answer a)) ∙ map_push (values_in next)
  where
    map_push : (es : List Entry) → map added_of (es ++ without_answer a ∷ []) ≡ map added_of es ++ a ∷ []
    map_push [] = refl
    map_push (e ∷ es) = ap (λ rest. added_of e ∷ rest) (map_push es)

slots-push : (added : List Added) (a : Added) → unplaced_slots (added ++ a ∷ []) ≡ unplaced_slots added ++ Some (without_answer a) ∷ []
slots-push [] a = refl
slots-push (b ∷ added) a = ap (λ rest. Some (without_answer b) ∷ rest) (slots-push added a)

-- the batches stay valid with one more entry added to the next one, if there is space for its places
pub ready_push : (current next next' : List (Option Entry)) (places places' : PlacesLeft) (a : Added) → IsReady current next places →
    next' ≡ next ++ Some (without_answer a) ∷ [] → places'.left ≡ places.left → length next + 1 + (length next + 1) ≤ places'.room →
    IsReady current next' places'
ready_push current next next' places places' a is e left room =
    rw e
    (record {
      left = left ∙ is.left;
      fresh = ap (λ slots. slots ++ Some (without_answer a) ∷ []) is.fresh ∙ sym (slots-push (added_in next) a)
          ∙ ap unplaced_slots (sym (added_in-push next a));
      room = omega (arith, room, length-append next (Some (without_answer a) ∷ []));
    })

-- the next batch becomes current
pub ready_turn : (current next : List (Option Entry)) (places places' : PlacesLeft) → IsReady current next places →
    places'.left ≡ numbers 0 (length next) → IsReady next [] places'
ready_turn current next places places' is left =
    let full : places_from 0 next ≡ numbers 0 (length next) =
    ap (places_from 0) is.fresh ∙ places_from-full without_answer 0 (added_in next)
    ∙ ap (numbers 0) (sym (ap length is.fresh ∙ length-map (added_in next) (λ a. Some (without_answer a)))) in
    record { left = left ∙ sym full; fresh = refl; room = omega arith }

-- what the next batch holds is what was added to it, with no answer placed
pub held_turn : (current next : List (Option Entry)) (places : PlacesLeft) → IsReady current next places →
    values_in next ≡ map without_answer (added_in next)
held_turn current next places is = ap values_in is.fresh ∙ held-full without_answer (added_in next)

-- answers are placed
pub ready_placed : (current current' next : List (Option Entry)) (places : PlacesLeft) (answers : List Answer) →
    IsReady current next places → current' ≡ slots_placed current answers → IsReady current' next places
ready_placed current current' next places answers is e =
    rw e (record { left = is.left ∙ sym (places_from-placed 0 current answers); fresh = is.fresh; room = is.room })

-- the k-th of the entries left is taken out of its slot, at this place
pub record TakenAt (current : List (Option Entry)) (places : PlacesLeft) (k place : ℕ) : Type 0 where
  pub within : place < length current
  pub some : IsSome (slice_index_or current place None)
  pub at_k : (entry : Entry) → slice_index_or current place None ≡ Some entry → slice_get (values_in current) k ≡ Some entry
  pub rest : values_in (slice_set current place None) ≡ remove (values_in current) k
  pub places_rest : remove places.left k ≡ places_from 0 (slice_set current place None)

some_of : {X : Type 0} (o : Option X) (x : X) → o ≡ Some x → IsSome o
some_of o x e = rw e refl

at_index : (current : List (Option Entry)) (places : PlacesLeft) (k : ℕ) → places.left ≡ places_from 0 current → (t : Taken 0 k current) →
    TakenAt current places k t.index
at_index current places k left t =
    record {
      within = t.within;
      some = some_of _ t.value t.at_index;
      at_k = λ entry e. t.at_k ∙ sym t.at_index ∙ e;
      rest = t.rest;
      places_rest = ap (λ ps. remove ps k) left ∙ sym t.places;
    }

-- the k-th entry has a place
pub k_left : (current next : List (Option Entry)) (places : PlacesLeft) (seen : List Entry) (k : ℕ) → IsReady current next places →
    values_in current ≡ seen → k < length seen → k < length places.left
k_left current next places seen k is view lt = rw (left_count current next places is ∙ ap length view) lt

-- the k-th of the places left is that of the k-th entry left, which is taken out of its slot there
pub taken_at : (current next : List (Option Entry)) (places : PlacesLeft) (seen : List Entry) (k place : ℕ) → IsReady current next places →
    values_in current ≡ seen → k < length seen → place ≡ slice_index_or places.left k 0 → TakenAt current places k place
taken_at current next places seen k place is view lt e =
    let lt' : k < length (places_from 0 current) = rw (length-places_from 0 current ∙ ap length view) lt in
    let t = taken 0 k current lt' in
    let place_is : place ≡ t.index = e ∙ ap (λ ps. slice_index_or ps k 0) is.left ∙ t.its_place ∙ zero_add t.index in
    rw place_is (at_index current places k is.left t)
  where
    zero_add : (m : ℕ) → 0 + m ≡ m
    zero_add m = omega arith

-- the batches stay valid after an entry and its place are taken out of the current one
pub ready_taken : (current current' next : List (Option Entry)) (places places' : PlacesLeft) (k place : ℕ) → IsReady current next places →
    TakenAt current places k place → current' ≡ slice_set current place None → places'.left ≡ remove places.left k →
    places'.room ≡ places.room → IsReady current' next places'
ready_taken current current' next places places' k place is t e left room =
    record {
      left = left ∙ t.places_rest ∙ ap (places_from 0) (sym e);
      fresh = is.fresh;
      room = rw room is.room;
    }
