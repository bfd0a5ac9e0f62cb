-- The names that a job text gives.
use Rattle.std.specs.Prelude.{◌≡◌, ◌⊎◌, ℕ, Option, Some, None, List, [], ◌∷◌}
use Rattle.job_tokens.specs.declared.token.Token.{Token}
use Rattle.job_tokens.specs.Shapes.{word_in}
use Rattle.job_syntax.specs.Keywords.{keyword_of}
use Rattle.job_syntax.specs.declared.keyword.Keyword.{Keyword}
use Rattle.job_syntax.specs.declared.keyword.Keyword.TheVariants as keyword
use Rattle.job_reader.specs.declared.fault.JobFault.{JobFault}
use Rattle.job_reader.specs.Refusals.{HasTokens, IsRefused}

abbrev pub keyword_in : Option (List ℕ) → Option Keyword
keyword_in None = None
keyword_in (Some word) = keyword_of word

-- the word that the first token is, if it is one
abbrev pub first_word : List Token → Option (List ℕ)
first_word [] = None
first_word (t ∷ ts) = word_in t.shape

-- after these keywords comes the name that a job, a task, a scope, a nursery, an event, a limiter or a channel is given
abbrev pub given_if : Option Keyword → (after : List Token) → Option (List ℕ)
given_if (Some keyword.Job) after = first_word after
given_if (Some keyword.Start) after = first_word after
given_if (Some keyword.Scope) after = first_word after
given_if (Some keyword.Nursery) after = first_word after
given_if (Some keyword.Event) after = first_word after
given_if (Some keyword.Limiter) after = first_word after
given_if (Some keyword.Channel) after = first_word after
given_if _ after = None

-- the name that comes after a token, if it is one of these keywords
abbrev pub given_after : Token → (after : List Token) → Option (List ℕ)
given_after t after = given_if (keyword_in (word_in t.shape)) after

abbrev pub with_name : Option (List ℕ) → List (List ℕ) → List (List ℕ)
with_name None names = names
with_name (Some name) names = name ∷ names

-- the names that some tokens give, in the order of their places
abbrev pub given_in : List Token → List (List ℕ)
given_in [] = []
given_in (t ∷ ts) = with_name (given_after t ts) (given_in ts)

-- the names that the tokens of a text give, or none if the text is refused
abbrev pub AreGiven : (text : List ℕ) → (names : List (List ℕ)) → Type 0
AreGiven text names =
    ((tokens : List Token) × HasTokens text tokens None × (names ≡ given_in tokens))
    ⊎ ((fault : JobFault) × IsRefused text fault.kind fault.at × (names ≡ []))
