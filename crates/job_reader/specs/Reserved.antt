-- The words that may not be names, and the first name of a job that is such a word.
use Rattle.std.specs.Prelude.{ℕ, List, [], ◌∷◌, Bool, true, ◌||◌, not, Option, Some, None, codes, if◌then◌else◌}
use Rattle.std.specs.Str.{bytes_eq}
use Rattle.job_tokens.specs.declared.token.Shape.{Shape}
use Rattle.job_tokens.specs.declared.token.Token.{Token}
use Rattle.job_tokens.specs.Shapes.{word_in}
use Rattle.job_syntax.specs.declared.role.Role.{Role}
use Rattle.job_syntax.specs.declared.role.Role.TheVariants as role
use Rattle.job_syntax.specs.Keywords.{is_kept, keyword_of}

-- the name that no step may raise and no handler may have
abbrev pub is_cancelled : List ℕ → Bool
is_cancelled word = bytes_eq word (codes "Cancelled")

-- a keyword that may not be a name, or `Cancelled`; the keywords that format 3 added are not reserved
abbrev pub is_reserved : List ℕ → Bool
is_reserved word = is_kept (keyword_of word) || is_cancelled word

-- a name that a handler may have; this may be `TooSlow`, which scopes raise
abbrev pub may_be_handled : Option (List ℕ) → Bool
may_be_handled None = true
may_be_handled (Some word) = not (is_reserved word)

-- a name that may occur anywhere else
abbrev pub is_free : Option (List ℕ) → Bool
is_free None = true
is_free (Some word) = not (is_reserved word || bytes_eq word (codes "TooSlow"))

-- whether a token is allowed in its role
abbrev pub allows : Role → Shape → Bool
allows role.Plain shape = true
allows role.Given shape = is_free (word_in shape)
allows role.Raised shape = is_free (word_in shape)
allows role.Handled shape = may_be_handled (word_in shape)
allows role.Target shape = is_free (word_in shape)

-- the first token that is a reserved name
abbrev pub reserved_in : List Token → List Role → Option ℕ
reserved_in [] roles = None
reserved_in (t ∷ ts) [] = None
reserved_in (t ∷ ts) (r ∷ rs) = if allows r t.shape then reserved_in ts rs else Some t.at
