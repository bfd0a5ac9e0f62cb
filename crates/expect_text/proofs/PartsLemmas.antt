-- The parts of a text, by the place of its first separator.
use Rattle.std.proofs.Common.{◌≡◌, ◌≢◌, ℕ, zero, suc, ◌+◌, ◌<◌, ◌≤◌, ◌==◌, true, false, List, [], ◌∷◌, ◌++◌, length, get_or, take, drop, refl, sym, ap, ◌∙◌, arith, add-one}
use Rattle.std.proofs.lemmas.Bool.Decides.{Decides-eqb}
use Rattle.std.proofs.lemmas.List.{drop_more, get_or-take, length-take-le, take-append-drop}
use Rattle.memchr.specs.Find.{Nowhere, Passes, is_byte}
use Rattle.expect_text.specs.Lines.{Lacks, parts_from}

-- there is no separator before a place
abbrev pub NoneBefore : ℕ → List ℕ → ℕ → Type 0
NoneBefore end text n = (k : ℕ) → k < n → get_or text k 0 ≢ end

none_later : (end b : ℕ) (bs : List ℕ) (n : ℕ) → NoneBefore end (b ∷ bs) (suc n) → NoneBefore end bs n
none_later end b bs n none k k<n = none (suc k) (omega arith)

is_end : (b end : ℕ) → b ≡ end → (b == end) ≡ true
is_end b end e = grind arith

no_end : (b end : ℕ) → b ≢ end → (b == end) ≡ false
no_end b end e = grind arith

pub parts_at_suc : (last : List (List ℕ)) (end : ℕ) (text : List ℕ) (i : ℕ) → i < length text → NoneBefore end text i → get_or text i 0 ≡ end
    → parts_from last end text ≡ take i text ∷ parts_from last end (drop (suc i) text)
parts_at_suc last end [] i within none is = absurd (omega arith)
parts_at_suc last end (b ∷ bs) zero within none is = rw (is_end b end is) refl
parts_at_suc last end (b ∷ bs) (suc i) within none is =
    rw (no_end b end (none 0 (omega arith)), parts_at_suc last end bs i (omega arith) (none_later end b bs i none) is) refl

pub parts_at : (last : List (List ℕ)) (end : ℕ) (text : List ℕ) (i : ℕ) → i < length text → NoneBefore end text i → get_or text i 0 ≡ end
    → parts_from last end text ≡ take i text ∷ parts_from last end (drop (i + 1) text)
parts_at last end text i within none is = rw (add-one i) (parts_at_suc last end text i within none is)

pub parts_whole : (end : ℕ) (text : List ℕ) → NoneBefore end text (length text) → parts_from ([] ∷ []) end text ≡ text ∷ []
parts_whole end [] none = refl
parts_whole end (b ∷ bs) none =
    rw (no_end b end (none 0 (omega arith)), parts_whole end bs (none_later end b bs (length bs) none)) refl

pub parts_ended : (end : ℕ) (text : List ℕ) → NoneBefore end text (length text) → 0 < length text → parts_from [] end text ≡ text ∷ []
parts_ended end [] none some = absurd (omega arith)
parts_ended end (b ∷ []) none some = rw (no_end b end (none 0 (omega arith))) refl
parts_ended end (b ∷ c ∷ cs) none some =
    rw (no_end b end (none 0 (omega arith)), parts_ended end (c ∷ cs) (none_later end b (c ∷ cs) (suc (length cs)) none) (omega arith)) refl

-- what a search for the first separator says
pub none_until : (end : ℕ) (text : List ℕ) (i : ℕ) → Nowhere (Passes (is_byte end) text) 0 i → NoneBefore end text i
none_until end text i none k within is = none k (omega arith) within (is_end (get_or text k 0) end is)

pub is_cut : (end : ℕ) (text : List ℕ) (i : ℕ) → i < length text → get_or text i 0 ≡ end → text ≡ take i text ++ end ∷ drop (i + 1) text
is_cut end text i within is =
    sym (take-append-drop i text) ∙ ap (λ rest. take i text ++ rest) (drop_more text i 0 within ∙ (λ k. is k ∷ drop (i + 1) text))

pub front_lacks : (end : ℕ) (text : List ℕ) (i : ℕ) → i ≤ length text → NoneBefore end text i → Lacks end (take i text)
front_lacks end text i within none k l =
    let short : k < i = omega (arith, length-take-le i text within) in
    λ is. none k short (sym (get_or-take i text k 0 short) ∙ is)

pub found_end : (end : ℕ) (text : List ℕ) (i : ℕ) → Passes (is_byte end) text i → get_or text i 0 ≡ end
found_end end text i passes = (Decides-eqb (get_or text i 0) end).0 passes
