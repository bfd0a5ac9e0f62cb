-- Entries, requests and answers.
use Rattle.std.proofs.Common.{◌≡◌, ℕ, suc, ◌+◌, List, [], ◌∷◌, Option, Some, None, length, map, refl, ap, arith}
use Rattle.std.specs.List.{remove, cons_option}
use Rattle.std.proofs.lemmas.List.Elements.{All-nil, All-cons, All-append, All-take, All-drop, All-map}
use Rattle.input_lines.specs.declared.request.Request.{Request}
use Rattle.input_lines.specs.declared.answers.Answer.{Answer}
use Rattle.task_table.specs.declared.entry.Entry.{Entry}
use Rattle.task_table.specs.Slots.{values_in, places_from}
use Rattle.task_table.specs.Entries.{Added, without_answer, added_of, request_in, requests_of, with_placed, answers_placed, answer_placed, answers_after, HasAnswer, AllPlaced, NonePlaced}
use Rattle.task_table.specs.Placing.{slots_placed}

-- what slots hold once answers are placed are the entries that they held, with the answers placed
pub held-placed : (slots : List (Option Entry)) (answers : List Answer) → values_in (slots_placed slots answers) ≡ answers_placed (values_in slots) answers
held-placed [] answers = refl
held-placed (None ∷ slots) answers = held-placed slots answers
held-placed (Some e ∷ slots) answers = ap (λ es. with_placed answers e ∷ es) (held-placed slots (answers_after (request_in e.call) answers))

-- the same slots hold an entry once answers are placed
pub places_from-placed : (place : ℕ) (slots : List (Option Entry)) (answers : List Answer) →
    places_from place (slots_placed slots answers) ≡ places_from place slots
places_from-placed place [] answers = refl
places_from-placed place (None ∷ slots) answers = places_from-placed (place + 1) slots answers
places_from-placed place (Some e ∷ slots) answers =
    ap (λ ps. place ∷ ps) (places_from-placed (place + 1) slots (answers_after (request_in e.call) answers))

-- what was added is read back from its entries
pub added_of-unplaced : (added : List Added) → map added_of (map without_answer added) ≡ added
added_of-unplaced [] = refl
added_of-unplaced (a ∷ added) = ap (λ rest. a ∷ rest) (added_of-unplaced added)

-- once as many answers are placed as requests are made, each Ask has one
in_front : (request : Option Request) (answers : List Answer) (old : Option Answer) (rs : List Request) →
    length answers ≡ length (cons_option request rs) → HasAnswer request (answer_placed request answers old)
    × (length (answers_after request answers) ≡ length rs)
in_front None answers old rs n = (tt, n)
in_front (Some r) [] old rs n = absurd (omega (arith, n))
in_front (Some r) (a ∷ answers) old rs n = (refl, omega (arith, n))

-- with as many answers as entries make requests, each Ask has one once they are placed
pub all_placed : (es : List Entry) (answers : List Answer) → length answers ≡ length (requests_of es) → AllPlaced (answers_placed es answers)
all_placed [] answers n = All-nil (λ (e : Entry). HasAnswer (request_in e.call) e.answer)
all_placed (e ∷ es) answers n =
    let first = in_front (request_in e.call) answers e.answer (requests_of es) n in
    All-cons (λ (e : Entry). HasAnswer (request_in e.call) e.answer) (with_placed answers e)
    (answers_placed es (answers_after (request_in e.call) answers)) first.0 (all_placed es (answers_after (request_in e.call) answers) first.1)

-- no entry has an answer when it is added
pub none_placed : (added : List Added) → NonePlaced (map without_answer added)
none_placed added = All-map (λ (e : Entry). e.answer ≡ None) without_answer added (λ k d lt. refl)

-- and where one entry is taken, those that stay have their answers
pub placed_after : (es : List Entry) (k : ℕ) → AllPlaced es → AllPlaced (remove es k)
placed_after es k all =
    let P : Entry → Type 0 = λ e. HasAnswer (request_in e.call) e.answer in
    All-append P _ _ (All-take P k es all) (All-drop P (suc k) es all)
