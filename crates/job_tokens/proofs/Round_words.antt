-- A word is read back from its bytes.
use Rattle.std.proofs.Common.{◌≡◌, ℕ, true, cond, eqb, ◌&&◌, leb, List, [], ◌∷◌, ◌++◌, length, Some, None, refl, ◌∙◌}
use Rattle.std.specs.List.{prefix_len, list_all}
use Rattle.std.proofs.lemmas.List.{take_at, drop_at}
use Rattle.job_tree.specs.Words.{is_letter, is_digit, is_word_byte, starts_word, is_word}
use Rattle.std.proofs.lemmas.Bool.{cond-true}
use Rattle.job_tokens.specs.declared.token.Mark.TheVariants as mark
use Rattle.job_tokens.specs.declared.token.Shape.TheVariants as shape
use Rattle.job_tokens.specs.Lexing.{Read, word_at, number_at, string_at, token_at}
use Rattle.job_tokens.proofs.Round_bytes.{and_parts, prefix_len-run}

word_at-again : (word rest : List ℕ) → is_word word ≡ true → prefix_len is_word_byte rest ≡ 0 →
    word_at (word ++ rest) ≡ Some (shape.Word word, rest)
word_at-again word rest is stops =
    let parts = and_parts (starts_word word && list_all is_word_byte word) (leb (length word) 32) is in
    let all = and_parts (starts_word word) (list_all is_word_byte word) parts.0 in
    let n : prefix_len is_word_byte (word ++ rest) ≡ length word = prefix_len-run is_word_byte word rest all.1 stops in
    rw (n, take_at word rest (length word) refl, drop_at word rest (length word) refl, is) refl

-- the token of bytes that begin with neither a letter nor a digit
abbrev pub token_unless_number : ℕ → List ℕ → Read
token_unless_number b rest =
    cond (eqb b 34) (string_at rest) (cond (eqb b 123) (Some (shape.Mark mark.Open, rest))
    (cond (eqb b 125) (Some (shape.Mark mark.Close, rest)) (cond (eqb b 59) (Some (shape.Mark mark.Semicolon, rest)) None)))

-- the token of bytes that do not begin with a letter
abbrev pub token_unless_word : ℕ → List ℕ → Read
token_unless_word b rest = cond (is_digit b) (number_at (b ∷ rest)) (token_unless_number b rest)

begins_word : (b : ℕ) (rest : List ℕ) → is_letter b ≡ true → token_at (b ∷ rest) ≡ word_at (b ∷ rest)
begins_word b rest letter = cond-true (is_letter b) (word_at (b ∷ rest)) (token_unless_word b rest) letter

-- the bytes of a word, followed by no byte of a word, are read as that word
pub word_again : (word rest : List ℕ) → is_word word ≡ true → prefix_len is_word_byte rest ≡ 0 →
    token_at (word ++ rest) ≡ Some (shape.Word word, rest)
word_again [] rest is stops = absurd cc
word_again (b ∷ word) rest is stops =
    let parts = and_parts (starts_word (b ∷ word) && list_all is_word_byte (b ∷ word)) (leb (length (b ∷ word)) 32) is in
    let letter : is_letter b ≡ true = (and_parts (is_letter b) (list_all is_word_byte (b ∷ word)) parts.0).0 in
    begins_word b (word ++ rest) letter ∙ word_at-again (b ∷ word) rest is stops
