-- The slots of requests that are computed one after the other.
use Rattle.std.proofs.Common.{◌≡◌, ℕ, suc, ◌+◌, ◌<◌, ◌≤◌, List, [], ◌∷◌, ◌++◌, map, take, All, length, slice_index_or, slice_set, sym, ap, ◌∙◌, subst, ⊎_elim, arith}
use Rattle.std.proofs.lemmas.List.{append_assoc, get_or-set_other, get_or_default, map-append, length-map, take_all, take-append-le}
use Rattle.std.proofs.Math.ListN.{get_or-map}
use Rattle.std.proofs.lemmas.Grind.{get_or-set_at}
use Rattle.std.proofs.lemmas.Bool.{cases_lt}
use Rattle.input_lines.specs.declared.request.Request.{Request}
use Rattle.input_lines.specs.declared.answers.Answer.{Answer}
use Rattle.workers.specs.declared.slot.Slot.{Slot}
use Rattle.workers.specs.declared.slot.Content.TheVariants.{Done}
use Rattle.workers.specs.Slots.{Computes, IsComputed, AreComputed, IsFilled, AreAnswers, slot_of}

-- the first slots hold the results of their requests
abbrev pub ComputedBelow : ℕ → List Request → List Slot → Type 0
ComputedBelow k requests row = (i : ℕ) (q : Request) (s : Slot) → i < k → IsComputed (slice_index_or requests i q) (slice_index_or row i s)

-- one more request is computed
pub computed-one_more : (requests : List Request) (row : List Slot) (k : ℕ) (request : Request) (slot : Slot) → k < length requests →
    k < length row → request ≡ slice_index_or requests k request → ComputedBelow k requests row → IsComputed request slot
    → ComputedBelow (k + 1) requests (slice_set row k slot)
computed-one_more requests row k request slot inside within is below this i q s less =
    ⊎_elim
    (λ (before : i < k). subst (IsComputed (slice_index_or requests i q)) (sym (get_or-set_other row k i slot s (omega arith)))
    (below i q s before))
    (λ (after : k ≤ i).
    let same : i ≡ k = omega arith in
    let asked : request ≡ slice_index_or requests i q = is ∙ get_or_default requests k request q inside
    ∙ ap (λ j. slice_index_or requests j q) (sym same) in
    subst (IsComputed (slice_index_or requests i q)) (sym (get_or-set_at row k i slot s same within))
    (subst (λ r. IsComputed r slot) asked this))
    (cases_lt i k)

-- one more answer is taken out
pub taken-one_more : (answers more : List Answer) (rest left row : List Slot) (slot : Slot) (answer taken : Answer) →
    map slot_of answers ++ rest ≡ row → rest ≡ slot ∷ left → slot.content ≡ Done answer → taken ≡ answer → more ≡ answers ++ taken ∷ [] →
    map slot_of more ++ left ≡ row
taken-one_more answers more rest left row slot answer taken before next holds is pushed =
    let this : slot ≡ slot_of taken = ap (λ content. record { content = content }) (holds ∙ ap Done (sym is)) in
    ap (λ items. map slot_of items ++ left) pushed ∙ ap (λ slots. slots ++ left) (map-append slot_of answers (taken ∷ []))
    ∙ append_assoc (map slot_of answers) (slot_of taken ∷ []) left
    ∙ ap (λ s. map slot_of answers ++ (s ∷ left)) (sym this) ∙ ap (λ slots. map slot_of answers ++ slots) (sym next) ∙ before

-- the rest of a full row is full
pub filled-rest : (rest left : List Slot) (slot : Slot) → rest ≡ slot ∷ left → All IsFilled rest → All IsFilled left
filled-rest rest left slot next all k d less =
    subst (λ slots. IsFilled (slice_index_or slots (suc k) d)) next (all (suc k) d (omega (arith, ap length next)))

-- a slot that holds the result of its request is not empty
computed-filled : (request : Request) (slot : Slot) → IsComputed request slot → IsFilled slot
computed-filled request slot holds none = subst (Computes request) none holds

-- where each request was computed no slot is empty
pub computed-filled-all : (requests : List Request) (row : List Slot) → length row ≡ length requests → AreComputed requests row →
    All IsFilled row
computed-filled-all [] row paired computed k d less = absurd (omega arith)
computed-filled-all (request ∷ requests) row paired computed k d less =
    computed-filled (slice_index_or (request ∷ requests) k request) (slice_index_or row k d) (computed k request d less)

-- a row that was borrowed as a whole is what the calls left
pub written-whole : {X : Type 0} (n : ℕ) (row rest : List X) → length row ≡ n → take n (row ++ rest) ≡ row
written-whole n row rest whole = take-append-le n row rest (omega arith) ∙ take_all n row (omega arith)

-- the answers of a row are those to the requests
pub answers-computed : (requests : List Request) (answers : List Answer) (row : List Slot) → map slot_of answers ≡ row →
    length row ≡ length requests → AreComputed requests row → AreAnswers requests answers
answers-computed requests answers row taken paired computed =
    let count : length answers ≡ length requests = sym (length-map answers slot_of) ∙ ap length taken ∙ paired in
    record {
      count = count;
      each = λ i q a less.
          let slot : slice_index_or row i (slot_of a) ≡ slot_of (slice_index_or answers i a) =
          sym (ap (λ slots. slice_index_or slots i (slot_of a)) taken) ∙ get_or-map slot_of answers i a in
          subst (IsComputed (slice_index_or requests i q)) slot (computed i q (slot_of a) (omega arith));
    }
