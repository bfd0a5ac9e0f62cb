-- The names that a job defines, and the first that is given twice.
use Rattle.std.specs.Prelude.{ℕ, List, [], ◌∷◌, ◌++◌, Bool, Option, Some, None, if◌then◌else◌}
use Rattle.std.specs.List.{list_any}
use Rattle.std.specs.Str.{bytes_eq}
use Rattle.job_tokens.specs.declared.token.Shape.{Shape}
use Rattle.job_tokens.specs.declared.token.Token.{Token}
use Rattle.job_tokens.specs.Shapes.{word_in}
use Rattle.job_syntax.specs.declared.role.Role.{Role}
use Rattle.job_syntax.specs.declared.role.Role.TheVariants.{Plain, Given, Raised, Handled, Target}

-- the name that a token gives to a job, scope, nursery, event, limiter, channel or started task
abbrev pub given_by : Role → Shape → Option (List ℕ)
given_by Plain shape = None
given_by Given shape = word_in shape
given_by Raised shape = None
given_by Handled shape = None
given_by Target shape = None

abbrev pub is_among : List (List ℕ) → List ℕ → Bool
is_among names name = list_any (bytes_eq name) names

-- the place of a token that gives one of these names; otherwise what is found after it, with its name added to
-- these
abbrev pub twice_at : Option (List ℕ) → ℕ → List (List ℕ) → (List (List ℕ) → Option ℕ) → Option ℕ
twice_at None at names after = after names
twice_at (Some name) at names after = if is_among names name then Some at else after (names ++ name ∷ [])

-- the place of the first token that gives one of these names, or a name that an earlier token gives
abbrev pub twice_in : List (List ℕ) → List Token → List Role → Option ℕ
twice_in names [] roles = None
twice_in names (t ∷ ts) [] = None
twice_in names (t ∷ ts) (r ∷ rs) = twice_at (given_by r t.shape) t.at names (λ known. twice_in known ts rs)
