-- Texts are cut where `split_once` cuts them, and words spell the numbers that `parse` reads.
use Rattle.std.proofs.Common.{◌≡◌, ℕ, zero, suc, ◌+◌, ◌-◌, ◌^◌, ◌<◌, ◌≤◌, Bool, true, false, ◌&&◌, nat_lt, List, [], ◌∷◌, ◌++◌, length, take, drop, refl, ap, sym, ◌∙◌, arith, zero-add, length-append, length-drop}
use Rattle.std.specs.Prelude.{Option, Some, None, Ok, Err, Result}
use Rattle.std.specs.Option.{MatchOption, option_map}
use Rattle.std.specs.Result.{result_ok}
use Rattle.std.specs.Str.{bytes_eq, all_ascii_digits}
use Rattle.std.specs.Str.Parse.{digits_value, without_leading_plus, ParsesUnsigned, AllDigits, IsNumeral}
use Rattle.std.specs.Str.Pattern.{FindsText, LacksTextAt, SplitsAroundMatch}
use Rattle.std.proofs.lemmas.Bool.{ltb-true, lt-ltb, and_parts, and_from}
use Rattle.std.proofs.lemmas.List.{take-append-drop}
use Rattle.std.proofs.lemmas.Slice.Eq.{bytes_eq-Decides}
use Rattle.std.proofs.lemmas.Str.Parse.{IsNumeralModel, numerals_by_value, tells_all_ascii_digits}
use denote.Ref.{Bor}
use Rattle.cli.specs.Cuts.{cut_at, halves_of, number_in, number_if}

take_front : (xs ys : List ℕ) → take (length xs) (xs ++ ys) ≡ xs
take_front [] ys = refl
take_front (x ∷ xs) ys = ap (λ (zs : List ℕ). x ∷ zs) (take_front xs ys)

-- the mark stands at the front
front_is : (mark text rest : List ℕ) → text ≡ mark ++ rest → bytes_eq (take (length mark) text) mark ≡ true
front_is mark text rest e = (bytes_eq-Decides (take (length mark) text) mark).1
    (ap (λ (xs : List ℕ). take (length mark) xs) e ∙ take_front mark rest)

-- the mark does not stand at the front
front_is_not : (same : Bool) (mark text : List ℕ) → bytes_eq (take (length mark) text) mark ≡ same → LacksTextAt mark text 0 → same ≡ false
front_is_not false mark text e lacks = refl
front_is_not true mark text e lacks =
    absurd (lacks (drop (length mark) text)
    (sym (take-append-drop (length mark) text) ∙ ap (λ (xs : List ℕ). xs ++ drop (length mark) text) ((bytes_eq-Decides (take (length mark) text) mark).0 e)))

lacks_later : (mark : List ℕ) (c : ℕ) (cs : List ℕ) (k : ℕ) → LacksTextAt mark (c ∷ cs) (suc k) → LacksTextAt mark cs k
lacks_later mark c cs k lacks = lacks

pub cut_found : (mark text : List ℕ) (i : ℕ) (after : List ℕ) → 0 < length mark → ((k : ℕ) → k < i → LacksTextAt mark text k)
    → drop i text ≡ mark ++ after → after ≡ drop (i + length mark) text → cut_at mark text ≡ Some (take i text, after)
cut_found mark [] i after some none is rest =
    let bs : List ℕ = [] in
    let long : length (drop i bs) ≡ length mark + length after = ap (λ (xs : List ℕ). length xs) is ∙ length-append mark after in
    let short : length (drop i bs) ≡ 0 - i = length-drop i bs in
    absurd (omega (arith, long, short))
cut_found mark (c ∷ cs) zero after some none is rest =
    rw (front_is mark (c ∷ cs) after is)
    (ap (λ (ys : List ℕ). Some ([], ys)) (sym (rest ∙ ap (λ (n : ℕ). drop n (c ∷ cs)) (zero-add (length mark)))))
cut_found mark (c ∷ cs) (suc i) after some none is rest =
    let later : suc i + length mark ≡ suc (i + length mark) = omega arith in
    rw (front_is_not (bytes_eq (take (length mark) (c ∷ cs)) mark) mark (c ∷ cs) refl (none 0 (omega arith)))
    (rw (cut_found mark cs i after some (λ k below. none (suc k) (omega arith)) is
    (rest ∙ ap (λ (n : ℕ). drop n (c ∷ cs)) later)) refl)

pub cut_nowhere : (mark text : List ℕ) → 0 < length mark → ((k : ℕ) → k ≤ length text → LacksTextAt mark text k) → cut_at mark text ≡ None
cut_nowhere mark [] some none = refl
cut_nowhere mark (c ∷ cs) some none =
    rw (front_is_not (bytes_eq (take (length mark) (c ∷ cs)) mark) mark (c ∷ cs) refl (none 0 (omega arith)))
    (rw (cut_nowhere mark cs some (λ k k≤. none (suc k) (omega arith))) refl)

pub cut_by_split : (mark text : List ℕ) (r : Option (Bor (List ℕ) × Bor (List ℕ))) → 0 < length mark
    → MatchOption r (FindsText mark text None) (λ x. SplitsAroundMatch (FindsText mark) text x.0.now x.1.now)
    → option_map halves_of r ≡ cut_at mark text
cut_by_split mark text None some found = sym (cut_nowhere mark text some found)
cut_by_split mark text (Some x) some found =
    rw (found.3, found.4)
    (sym (cut_found mark text found.0 (drop found.1 text) some found.2.0 found.2.1.split (ap (λ (n : ℕ). drop n text) found.2.1.ends)))

own : IsNumeralModel (λ ds. all_ascii_digits ds ≡ true) (digits_value 10)
own = numerals_by_value (λ ds. all_ascii_digits ds ≡ true) tells_all_ascii_digits

abbrev is_number : ℕ → List ℕ → Bool
is_number bits digits = nat_lt 0 (length digits) && (all_ascii_digits digits && nat_lt (digits_value 10 digits) (2 ^ bits))

-- the test holds of decimal digits
test_of : (bits : ℕ) (digits : List ℕ) → 0 < length digits → AllDigits 10 digits → digits_value 10 digits < 2 ^ bits
    → is_number bits digits ≡ true
test_of bits digits some all small =
    and_from (nat_lt 0 (length digits)) (all_ascii_digits digits && nat_lt (digits_value 10 digits) (2 ^ bits)) (lt-ltb 0 (length digits) some)
    (and_from (all_ascii_digits digits) (nat_lt (digits_value 10 digits) (2 ^ bits)) (own.from digits all) (lt-ltb (digits_value 10 digits) (2 ^ bits) small))

-- and of nothing else
parts_of : (bits : ℕ) (digits : List ℕ) → is_number bits digits ≡ true → IsNumeral 10 digits × (digits_value 10 digits < 2 ^ bits)
parts_of bits digits t =
    let one = and_parts (nat_lt 0 (length digits)) (all_ascii_digits digits && nat_lt (digits_value 10 digits) (2 ^ bits)) t in
    let two = and_parts (all_ascii_digits digits) (nat_lt (digits_value 10 digits) (2 ^ bits)) one.1 in
    ((ltb-true 0 (length digits) one.0, own.to digits two.0), ltb-true (digits_value 10 digits) (2 ^ bits) two.1)

no_number : (test : Bool) (n : ℕ) → (test ≡ true → ⊥) → None ≡ number_if test n
no_number false n fails = refl
no_number true n fails = absurd (fails refl)

pub digits_by_parse : {E : Type 0} (bits : ℕ) (word : List ℕ) (r : Result ℕ E) → ParsesUnsigned bits 10 word r → result_ok r ≡ number_in bits word
digits_by_parse bits word (Ok n) parsed =
    rw (test_of bits (without_leading_plus word) parsed.0.0.0 parsed.0.0.1 parsed.0.1) (ap (λ (m : ℕ). Some m) parsed.1)
digits_by_parse bits word (Err e) parsed =
    no_number (is_number bits (without_leading_plus word)) (digits_value 10 (without_leading_plus word))
    (λ t. parsed (parts_of bits (without_leading_plus word) t))
