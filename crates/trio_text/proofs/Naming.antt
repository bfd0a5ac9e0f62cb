-- Different names have different texts, and none of these is a word that the program uses for something else.
use Rattle.std.proofs.Common.{◌≡◌, ℕ, List, ◌++◌, ◌-◌, [], ◌∷◌, Bool, true, false, length, refl, sym, ap, ◌∙◌, inl, inr, arith}
use Rattle.std.specs.Prelude.{◌≢◌, codes, nat_eq, not, ◌&&◌, if◌then◌else◌}
use Rattle.std.specs.List.{list_any, list_all, ends_with}
use Rattle.std.specs.Str.{bytes_eq}
use Rattle.std.proofs.lemmas.Bool.{and_parts, cases_Bool}
use Rattle.std.proofs.lemmas.Slice.Eq.{bytes_eq-Decides}
use Rattle.std.proofs.lemmas.List.{length-append, append_cancel_right}
use Rattle.std.proofs.Math.Seq.{drop-append_seam}
use Rattle.trio_text.specs.Names.{is_taken, is_free, name_text, class_text}
use Rattle.trio_text.specs.Uses.{Known, among}
use Rattle.trio_text.specs.Statements.{class_of}
use Rattle.job_tree.specs.Words.{starts_word}
use Rattle.trio_text.specs.declared.taken.TheConstants.{TAKEN}

-- Whether a word ends with `_`.
abbrev marked : List ℕ → Bool
marked word = ends_with nat_eq word (codes "_")

-- A word followed by `_` ends with `_`.
marked_after : (word : List ℕ) → marked (word ++ codes "_") ≡ true
marked_after word =
    let n : length (word ++ codes "_") - length (codes "_") ≡ length word = omega (arith, length-append word (codes "_")) in
    rw (n, drop-append_seam word (codes "_")) refl

not_so : (b : Bool) → not b ≡ true → b ≡ false
not_so false is = refl
not_so true is = sym is

-- A word that is used in the program unchanged does not end with `_`.
free_unmarked : (word : List ℕ) → is_free word ≡ true → marked word ≡ false
unfolding is_free
free_unmarked word is = not_so (marked word) (and_parts (not (marked word)) _ is).0

-- Words get `_` after them, except some that do not end with `_`. If the results are equal, the words are equal.
same_word : (stays remains : Bool) (a b : List ℕ) → (stays ≡ true → marked a ≡ false) → (remains ≡ true → marked b ≡ false) →
    (if stays then a else a ++ codes "_") ≡ (if remains then b else b ++ codes "_") → a ≡ b
same_word true true a b plain other same = same
same_word false false a b plain other same = append_cancel_right a b (codes "_") same
same_word true false a b plain other same =
    let f : false ≡ true = sym (plain refl) ∙ ap marked same ∙ marked_after b in cc
same_word false true a b plain other same =
    let f : false ≡ true = sym (other refl) ∙ ap marked (sym same) ∙ marked_after a in cc

pub names_differ : (one other : List ℕ) → name_text one ≡ name_text other → one ≡ other
unfolding name_text
names_differ one other same =
    same_word (is_free one) (is_free other) one other (free_unmarked one) (free_unmarked other) same

-- A word followed by `_` is not among words that do not end with `_`.
not_among : {X : Type 0} (text : X → List ℕ) (xs : List X) (word : List ℕ) → list_all (λ x. not (marked (text x))) xs ≡ true →
    list_any (λ x. bytes_eq (text x) (word ++ codes "_")) xs ≡ false
not_among text [] word all = refl
not_among text (x ∷ xs) word all =
    let parts = and_parts (not (marked (text x))) _ all in
    elim (cases_Bool (bytes_eq (text x) (word ++ codes "_"))) [
      | inl same ↦
          let is = (bytes_eq-Decides (text x) (word ++ codes "_")).0 same in
          let plain = not_so (marked (text x)) parts.0 in
          let f : false ≡ true = sym plain ∙ ap marked is ∙ marked_after word in cc
      | inr other ↦ rw other (not_among text xs word parts.1)
    ]

marked_untaken : (word : List ℕ) → is_taken (word ++ codes "_") ≡ false
unfolding is_taken
marked_untaken word = not_among (λ other. other.now) TAKEN.now word refl

-- The result for a word is not taken, if the word is left unchanged only if it is not taken.
untaken : (stays : Bool) (word : List ℕ) → (stays ≡ true → is_taken word ≡ false) → is_taken (if stays then word else word ++ codes "_") ≡ false
untaken true word plain = plain refl
untaken false word plain = marked_untaken word

free_untaken : (word : List ℕ) → is_free word ≡ true → is_taken word ≡ false
unfolding is_free
free_untaken word is = not_so (is_taken word) (and_parts (not (marked word)) (not (is_taken word)) is).1

pub names_free : (name : List ℕ) → is_taken (name_text name) ≡ false
unfolding name_text
names_free name = untaken (is_free name) name (free_untaken name)

-- The results for the name of an exception and for another name differ, if the first is left unchanged only if it is free and
-- not given.
apart : (stays remains is_given : Bool) (exception name : List ℕ) → (stays ≡ true → marked exception ≡ false) →
    (stays ≡ true → is_given ≡ false) → starts_word name ≡ true → (exception ≡ name → is_given ≡ true) →
    (if stays then exception else codes "_" ++ exception) ≡ (if remains then name else name ++ codes "_") → false ≡ true
apart true true is_given exception name plain free letter given same = sym (free refl) ∙ given same
apart true false is_given exception name plain free letter given same = sym (plain refl) ∙ ap marked same ∙ marked_after name
apart false true is_given exception name plain free letter given same = ap starts_word same ∙ letter
apart false false is_given exception [] plain free letter given same = letter
apart false false is_given exception (b ∷ bs) plain free letter given same = ap starts_word same ∙ letter

pub classes_differ : (is_given : Bool) (exception name : List ℕ) → starts_word name ≡ true → (exception ≡ name → is_given ≡ true) →
    class_text is_given exception ≢ name_text name
unfolding class_text name_text
classes_differ is_given exception name letter given = λ same.
    let free = and_parts (is_free exception) (not is_given) in
    let f : false ≡ true = apart _ (is_free name) is_given exception name (λ is. free_unmarked exception (free is).0)
    (λ is. not_so is_given (free is).1) letter given same in cc

-- Names that begin with a letter get `_` before them, or not. If the results are equal, the names are equal.
same_exception : (stays remains : Bool) (a b : List ℕ) → starts_word a ≡ true → starts_word b ≡ true →
    (if stays then a else codes "_" ++ a) ≡ (if remains then b else codes "_" ++ b) → a ≡ b
same_exception true true a b letter other same = same
same_exception false false a b letter other same = cc
same_exception true false a b letter other same = let f : false ≡ true = sym (ap starts_word same) ∙ letter in cc
same_exception false true a b letter other same = let f : false ≡ true = ap starts_word same ∙ other in cc

pub exceptions_differ : (known : Known) (one other : List ℕ) → starts_word one ≡ true → starts_word other ≡ true →
    class_of known one ≡ class_of known other → one ≡ other
unfolding class_of class_text
exceptions_differ known one other letter also same =
    same_exception (is_free one && not (among known.given one)) (is_free other && not (among known.given other)) one other letter also same
