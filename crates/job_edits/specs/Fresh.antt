-- Words that are meant not to occur in a text.
use Rattle.std.specs.Prelude.{ℕ, zero, suc, ◌+◌, Bool, false, ◌||◌, List, [], ◌∷◌, ◌++◌, length, Option, Some, None, codes, decimal, if◌then◌else◌}
use Rattle.std.specs.Str.{bytes_eq}
use Rattle.job_tree.specs.Words.{is_word}
use Rattle.job_tokens.specs.declared.token.Token.{Token}
use Rattle.job_tokens.specs.Shapes.{word_in}

abbrev pub is_this : List ℕ → Option (List ℕ) → Bool
is_this word None = false
is_this word (Some other) = bytes_eq other word

-- whether some token is this word
abbrev pub occurs : List ℕ → List Token → Bool
occurs word [] = false
occurs word (t ∷ ts) = is_this word (word_in t.shape) || occurs word ts

abbrev pub word_or : List ℕ → List ℕ → List ℕ
word_or other word = if is_word word then word else other

-- a word with a number after it, or the word alone if that would be too long for a word
abbrev pub numbered_word : List ℕ → ℕ → List ℕ
numbered_word word n = word_or word (word ++ codes "_" ++ decimal n)

-- the first of `word_n`, `word_n+1` and so on that no token is, with at most the given number of tries
abbrev pub fresh_from : ℕ → ℕ → List ℕ → List Token → List ℕ
fresh_from zero n word ts = numbered_word word n
fresh_from (suc tries) n word ts = if occurs (numbered_word word n) ts then fresh_from tries (n + 1) word ts else numbered_word word n

-- the first of `word`, `word_1`, `word_2` and so on that no token is
abbrev pub fresh_word : List ℕ → List Token → List ℕ
fresh_word word ts = if occurs word ts then fresh_from (length ts) 1 word ts else word
