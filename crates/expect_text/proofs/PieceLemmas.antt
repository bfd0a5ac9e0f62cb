-- A pattern is matched piece by piece, and each piece but the first and the last may be taken at its first place.
use Rattle.std.proofs.Common.{◌≡◌, ◌≢◌, ℕ, zero, suc, ◌+◌, ◌<◌, ◌≤◌, ◌==◌, inl, inr, Bool, true, false, nat_eq, Some, None, List, [], ◌∷◌, ◌++◌, length, take, drop, refl, sym, ap, subst, ◌∙◌, arith}
use Rattle.std.specs.List.{ends_with}
use Rattle.std.specs.Bool.{one_answer}
use Rattle.std.specs.Str.{bytes_eq}
use Rattle.std.proofs.lemmas.Bool.{and_parts, false_from_ne_true, or_cases, or_left, or_right}
use Rattle.std.proofs.lemmas.Bool.Decides.{Decides-eqb}
use Rattle.std.proofs.lemmas.List.{drop_all, length-drop, take-append-drop}
use Rattle.std.proofs.lemmas.List.Prefix.{at_from_reads, at_reads, front_fits, front_rest}
use Rattle.std.proofs.lemmas.Slice.Eq.{bytes_eq-Decides, ends_is}
use Rattle.memchr.specs.Find.{FindsNeedle, Nowhere, OccursAt}
use Rattle.expect_text.specs.Lines.{Lacks}
use Rattle.expect_text.specs.Patterns.{any_suffix, matches}
use Rattle.expect_text.specs.Pieces.{starts_and}

-- ---- a piece has no `*`

no_byte : (byte p : ℕ) (ps : List ℕ) → Lacks byte (p ∷ ps) → (p == byte) ≡ false
no_byte byte p ps lacks = let other : p ≢ byte = lacks 0 (omega arith) in grind arith

lacks_later : (byte p : ℕ) (ps : List ℕ) → Lacks byte (p ∷ ps) → Lacks byte ps
lacks_later byte p ps lacks k within = lacks (suc k) (omega arith)

-- a pattern without a `*` matches itself alone
pub whole_match : (pattern text : List ℕ) → Lacks 42 pattern → matches pattern text ≡ bytes_eq text pattern
whole_match [] [] lacks = refl
whole_match [] (b ∷ bs) lacks = refl
whole_match (p ∷ ps) [] lacks = rw (no_byte 42 p ps lacks) refl
whole_match (p ∷ ps) (b ∷ bs) lacks = rw (no_byte 42 p ps lacks, whole_match ps bs (lacks_later 42 p ps lacks)) refl

-- a pattern with a `*` is a piece, and any suffix of the rest
pub piece_match : (piece rest text : List ℕ) → Lacks 42 piece → matches (piece ++ 42 ∷ rest) text ≡ starts_and piece (any_suffix (matches rest)) text
piece_match [] rest text lacks = refl
piece_match (p ∷ ps) rest [] lacks = rw (no_byte 42 p ps lacks) refl
piece_match (p ∷ ps) rest (b ∷ bs) lacks = rw (no_byte 42 p ps lacks, piece_match ps rest bs (lacks_later 42 p ps lacks)) refl

-- ---- a piece at the start

starts_drop : (piece : List ℕ) (test : List ℕ → Bool) (text : List ℕ) → starts_and piece test text ≡ true
    → (text ≡ piece ++ drop (length piece) text) × (test (drop (length piece) text) ≡ true)
starts_drop [] test text is = (refl, is)
starts_drop (p ∷ ps) test [] is = let f : ⊥ = cc in absurd f
starts_drop (p ∷ ps) test (b ∷ bs) is =
    let both = and_parts (b == p) (starts_and ps test bs) is in
    let same : b ≡ p = (Decides-eqb b p).0 both.0 in
    let later = starts_drop ps test bs both.1 in
    ((λ i. same i ∷ later.0 i), later.1)

starts_append : (piece : List ℕ) (test : List ℕ → Bool) (rest : List ℕ) → starts_and piece test (piece ++ rest) ≡ test rest
starts_append [] test rest = refl
starts_append (p ∷ ps) test rest = rw ((Decides-eqb p p).1 refl, starts_append ps test rest) refl

pub prefix_found : (pattern first rest text left : List ℕ) → pattern ≡ first ++ 42 ∷ rest → Lacks 42 first → text ≡ first ++ left
    → matches pattern text ≡ any_suffix (matches rest) left
prefix_found pattern first rest text left cut lacks is =
    rw (cut, is) (piece_match first rest (first ++ left) lacks ∙ starts_append first (any_suffix (matches rest)) left)

pub prefix_missing : (pattern first rest text : List ℕ) → pattern ≡ first ++ 42 ∷ rest → Lacks 42 first → ((left : List ℕ) → text ≢ first ++ left)
    → matches pattern text ≡ false
prefix_missing pattern first rest text cut lacks none =
    rw cut (piece_match first rest text lacks ∙ false_from_ne_true _ (λ is. none _ (starts_drop first (any_suffix (matches rest)) text is).0))

-- ---- suffixes that pass a test

suffix_here : (test : List ℕ → Bool) (text : List ℕ) → test text ≡ true → any_suffix test text ≡ true
suffix_here test [] is = is
suffix_here test (b ∷ bs) is = or_left (test (b ∷ bs)) (any_suffix test bs) is

suffix_drop : (test : List ℕ → Bool) (n : ℕ) (text : List ℕ) → any_suffix test (drop n text) ≡ true → any_suffix test text ≡ true
suffix_drop test zero text is = is
suffix_drop test (suc n) [] is = is
suffix_drop test (suc n) (b ∷ bs) is = or_right (test (b ∷ bs)) (any_suffix test bs) (suffix_drop test n bs is)

suffix_less : (test : List ℕ → Bool) (n : ℕ) (text : List ℕ) → any_suffix test (drop (suc n) text) ≡ true → any_suffix test (drop n text) ≡ true
suffix_less test zero [] is = is
suffix_less test zero (b ∷ bs) is = or_right (test (b ∷ bs)) (any_suffix test bs) is
suffix_less test (suc n) [] is = is
suffix_less test (suc n) (b ∷ bs) is = suffix_less test n bs is

suffix_at : (test : List ℕ → Bool) (text : List ℕ) → any_suffix test text ≡ true → (n : ℕ) × (test (drop n text) ≡ true)
suffix_at test [] is = (0, is)
suffix_at test (b ∷ bs) is = elim (or_cases (test (b ∷ bs)) (any_suffix test bs) is) [
  | inl here ↦ (0, here)
  | inr later ↦ let at = suffix_at test bs later in (suc at.0, at.1)
]

suffix_same : (one other : List ℕ → Bool) → ((text : List ℕ) → one text ≡ other text) → (text : List ℕ) → any_suffix one text ≡ any_suffix other text
suffix_same one other same [] = same []
suffix_same one other same (b ∷ bs) = rw (same (b ∷ bs), suffix_same one other same bs) refl

-- ---- a piece at its first place

-- each place of a piece leaves a suffix of what a piece at the start would leave
after_any : (piece : List ℕ) (test : List ℕ → Bool) (text : List ℕ) → any_suffix (starts_and piece (any_suffix test)) text ≡ true
    → any_suffix test (drop (length piece) text) ≡ true
after_any piece test [] is = (starts_drop piece (any_suffix test) [] is).1
after_any piece test (b ∷ bs) is = elim (or_cases (starts_and piece (any_suffix test) (b ∷ bs)) (any_suffix (starts_and piece (any_suffix test)) bs) is) [
  | inl here ↦ (starts_drop piece (any_suffix test) (b ∷ bs) here).1
  | inr later ↦ suffix_less test (length piece) (b ∷ bs) (after_any piece test bs later)
]

-- where a piece is at no earlier place
abbrev pub NotBefore : (piece text : List ℕ) → ℕ → Type 0
NotBefore piece text k = (j : ℕ) (rest : List ℕ) → j < k → drop j text ≢ piece ++ rest

from_first : (piece : List ℕ) (test : List ℕ → Bool) (k : ℕ) (text : List ℕ) → NotBefore piece text k
    → any_suffix (starts_and piece test) text ≡ true → any_suffix (starts_and piece test) (drop k text) ≡ true
from_first piece test zero text none is = is
from_first piece test (suc k) [] none is = is
from_first piece test (suc k) (b ∷ bs) none is = elim (or_cases (starts_and piece test (b ∷ bs)) (any_suffix (starts_and piece test) bs) is) [
  | inl here ↦ absurd (none 0 _ (omega arith) (starts_drop piece test (b ∷ bs) here).0)
  | inr later ↦ from_first piece test k bs (λ j rest l. none (suc j) rest (omega arith)) later
]

occurs_from : (text piece rest : List ℕ) (j : ℕ) → j ≤ length text → drop j text ≡ piece ++ rest → OccursAt text piece j
occurs_from text piece rest j within is = record {
  fits = omega (arith, front_fits (drop j text) piece rest is, length-drop j text);
  reads = λ i l. at_reads 0 text piece j rest is i l;
}

not_before : (piece text : List ℕ) (k : ℕ) → k ≤ length text → Nowhere (OccursAt text piece) 0 k → NotBefore piece text k
not_before piece text k within none j rest l is = none j (omega arith) l (occurs_from text piece rest j (omega arith) is)

pub found_after : (piece text : List ℕ) (k : ℕ) → FindsNeedle text piece 0 (Some k) → (test : List ℕ → Bool)
    → any_suffix (starts_and piece (any_suffix test)) text ≡ any_suffix test (drop (k + length piece) text)
found_after piece text k found test =
    let fits = found.1.fits in
    let at : drop k text ≡ piece ++ drop (k + length piece) text = at_from_reads 0 text piece k fits found.1.reads in
    let rest : drop (length piece) (drop k text) ≡ drop (k + length piece) text = front_rest (drop k text) piece (drop (k + length piece) text) at in
    let none = not_before piece text k (omega arith) found.0.before in
    let whole = starts_and piece (any_suffix test) in
    let to : any_suffix whole text ≡ true → any_suffix test (drop (k + length piece) text) ≡ true =
    λ is. subst (λ t. any_suffix test t ≡ true) rest (after_any piece test (drop k text) (from_first piece (any_suffix test) k text none is)) in
    let from : any_suffix test (drop (k + length piece) text) ≡ true → any_suffix whole text ≡ true =
    λ is. suffix_drop whole k text (suffix_here whole (drop k text) (ap whole at ∙ starts_append piece (any_suffix test) (drop (k + length piece) text) ∙ is)) in
    one_answer _ _ (to, from) ((λ is. is), (λ is. is))

pub found_nowhere : (piece text : List ℕ) → FindsNeedle text piece 0 None → (test : List ℕ → Bool) → any_suffix (starts_and piece (any_suffix test)) text ≡ false
found_nowhere piece text none test = false_from_ne_true _ (λ is.
    let whole = starts_and piece (any_suffix test) in
    let ends : drop (length text) text ≡ [] = drop_all (length text) text (omega arith) in
    let before = not_before piece text (length text) (omega arith) (λ j low l. none j low (omega arith)) in
    let last : any_suffix whole [] ≡ true = subst (λ t. any_suffix whole t ≡ true) ends (from_first piece (any_suffix test) (length text) text before is) in
    none (length text) (omega arith) (omega arith) (occurs_from text piece _ (length text) (omega arith) (ends ∙ (starts_drop piece (any_suffix test) [] last).0)))

-- what the search for a piece says of the suffixes that match the pattern from this piece on
pub piece_found : (pieces piece rest left : List ℕ) → pieces ≡ piece ++ 42 ∷ rest → Lacks 42 piece
    → any_suffix (matches pieces) left ≡ any_suffix (starts_and piece (any_suffix (matches rest))) left
piece_found pieces piece rest left cut lacks =
    rw cut (suffix_same (matches (piece ++ 42 ∷ rest)) (starts_and piece (any_suffix (matches rest))) (λ text. piece_match piece rest text lacks) left)

-- ---- the last piece

pub last_piece : (piece text : List ℕ) → Lacks 42 piece → any_suffix (matches piece) text ≡ ends_with nat_eq text piece
last_piece piece text lacks =
    let to : any_suffix (matches piece) text ≡ true → (front : List ℕ) × (text ≡ front ++ piece) =
    λ is.
    let at = suffix_at (matches piece) text is in
    let same : drop at.0 text ≡ piece = (bytes_eq-Decides (drop at.0 text) piece).0 (sym (whole_match piece (drop at.0 text) lacks) ∙ at.1) in
    (take at.0 text, sym (take-append-drop at.0 text) ∙ ap (λ t. take at.0 text ++ t) same) in
    let itself : matches piece piece ≡ true = whole_match piece piece lacks ∙ (bytes_eq-Decides piece piece).1 refl in
    let from : (front : List ℕ) × (text ≡ front ++ piece) → any_suffix (matches piece) text ≡ true =
    λ at. suffix_drop (matches piece) (length at.0) text (subst (λ t. any_suffix (matches piece) t ≡ true) (sym (front_rest text at.0 piece at.1)) (suffix_here (matches piece) piece itself)) in
    let ends = ends_is Decides-eqb text piece (ends_with nat_eq text piece) refl in
    one_answer _ _ (to, from) ((λ is. (_, ends.0 is)), (λ at. ends.1 at.0 at.1))
