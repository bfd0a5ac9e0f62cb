-- A pattern that matches a line which begins as lines do is one that can match a line.
use Rattle.std.proofs.Common.{◌≡◌, ◌⊎◌, inl, inr, ℕ, ◌==◌, Bool, true, false, Option, Some, None, is_some, List, [], ◌∷◌, ◌++◌, refl, sym, subst}
use Rattle.std.specs.List.{Any, list_any}
use Rattle.std.proofs.lemmas.Bool.{and_parts, or_left, or_right}
use Rattle.std.proofs.lemmas.Bool.Decides.{Decides-eqb}
use Rattle.std.proofs.lemmas.List.Folds.{list_any-from_Any}
use Rattle.expect_text.specs.Patterns.{matches, matches_byte, meets, squeezed_text}
use Rattle.expect_text.specs.Beginnings.{left_by, left_after, any_begins, plain_words, record_words, after_names, event_words, BeginsWithOne, IsRecord, IsEvent, IsLine, begins_with, begins_record, begins_event, begins_named, begins_line, can_match}

abbrev begins_with_star : List ℕ → Bool
begins_with_star [] = false
begins_with_star (p ∷ ps) = p == 42

-- what is left of a pattern begins with a `*`, or matches the rest of a line
abbrev Leaves : (rest left : List ℕ) → Type 0
Leaves rest left = (begins_with_star left ≡ true) ⊎ (matches left rest ≡ true)

-- a beginning leaves something of a pattern, which may match the rest
abbrev Stays : (beginning rest pattern : List ℕ) → Type 0
Stays beginning rest pattern = (left : List ℕ) × (left_after beginning pattern ≡ Some left) × Leaves rest left

star_stays : (beginning left : List ℕ) → begins_with_star left ≡ true → left_after beginning left ≡ Some left
star_stays [] left is = refl
star_stays (b ∷ bs) [] is = let f : ⊥ = cc in absurd f
star_stays (b ∷ bs) (p ∷ ps) is = rw is (star_stays bs (p ∷ ps) is)

same_byte : (b p : ℕ) → (b == p) ≡ true → (p == b) ≡ true
same_byte b p is = (Decides-eqb p b).1 (sym ((Decides-eqb b p).0 is))

byte_stays : (b p : ℕ) (ps rest : List ℕ) (star : Bool) → (p == 42) ≡ star → matches_byte star p (matches ps) (b ∷ rest) ≡ true
    → (left : List ℕ) × (left_by star (p == b) (p ∷ ps) ps ≡ Some left) × Leaves rest left
byte_stays b p ps rest true is found = (p ∷ ps, refl, inl is)
byte_stays b p ps rest false is found =
    let both = and_parts (b == p) (matches ps rest) found in
    let same = same_byte b p both.0 in
    (ps, rw same refl, inr both.1)

leaves_stay : (beginning rest pattern : List ℕ) → Leaves (beginning ++ rest) pattern → Stays beginning rest pattern
leaves_stay [] rest pattern leaves = (pattern, refl, leaves)
leaves_stay (b ∷ bs) rest pattern (inl star) = (pattern, star_stays (b ∷ bs) pattern star, inl star)
leaves_stay (b ∷ bs) rest [] (inr found) = let f : ⊥ = cc in absurd f
leaves_stay (b ∷ bs) rest (p ∷ ps) (inr found) =
    let one = byte_stays b p ps (bs ++ rest) (p == 42) refl found in
    let later = leaves_stay bs rest one.0 one.2 in
    (later.0, rw one.1 later.1, later.2)

stays : (beginning rest pattern line : List ℕ) → line ≡ beginning ++ rest → Leaves line pattern → Stays beginning rest pattern
stays beginning rest pattern line is leaves = leaves_stay beginning rest pattern (subst (λ l. Leaves l pattern) is leaves)

one_begins : (beginnings : List (List ℕ)) (line pattern : List ℕ) → Leaves line pattern → BeginsWithOne beginnings line → any_begins beginnings pattern ≡ true
one_begins beginnings line pattern leaves one =
    let left = stays one.1 one.4.0 pattern line one.4.1 leaves in
    let some : is_some (left_after one.1 pattern) ≡ true = rw left.1 refl in
    list_any-from_Any (λ beginning. is_some (left_after beginning pattern)) beginnings (one.0, one.1, one.2, one.3, some)

event_begins : (name line pattern : List ℕ) → Leaves line pattern → IsEvent line name → begins_event name pattern ≡ true
event_begins name line pattern leaves event =
    let left = stays name event.0 pattern line event.1 leaves in
    rw left.1 (one_begins event_words event.0 left.0 left.2 event.2)

record_begins : (name line pattern : List ℕ) → Leaves line pattern → IsRecord line name → begins_record name pattern ≡ true
record_begins name line pattern leaves one =
    let rest = one.4.0 in
    let after_word = stays one.1 (name ++ rest) pattern line one.4.1 leaves in
    let after_name = stays name rest after_word.0 (name ++ rest) refl after_word.2 in
    let begins : begins_with name pattern one.1 ≡ true = rw (after_word.1, after_name.1) (one_begins after_names rest after_name.0 after_name.2 one.4.2) in
    list_any-from_Any (begins_with name pattern) record_words (one.0, one.1, one.2, one.3, begins)

named_begins : (name line pattern : List ℕ) → Leaves line pattern → IsRecord line name ⊎ IsEvent line name → begins_named pattern name ≡ true
named_begins name line pattern leaves (inl one) = or_left (begins_record name pattern) (begins_event name pattern) (record_begins name line pattern leaves one)
named_begins name line pattern leaves (inr one) = or_right (begins_record name pattern) (begins_event name pattern) (event_begins name line pattern leaves one)

line_begins : (names : List (List ℕ)) (line pattern : List ℕ) → Leaves line pattern → IsLine names line → begins_line names pattern ≡ true
line_begins names line pattern leaves (inl one) =
    or_left (any_begins plain_words pattern) (list_any (begins_named pattern) names) (one_begins plain_words line pattern leaves one)
line_begins names line pattern leaves (inr one) =
    let begins = named_begins one.1 line pattern leaves one.4 in
    or_right (any_begins plain_words pattern) (list_any (begins_named pattern) names)
    (list_any-from_Any (begins_named pattern) names (one.0, one.1, one.2, one.3, begins))

pub possible : (names : List (List ℕ)) (pattern line : List ℕ) → IsLine names (squeezed_text line) → meets pattern line ≡ true → can_match names pattern ≡ true
possible names pattern line is met = line_begins names (squeezed_text line) (squeezed_text pattern) (inr met) is
