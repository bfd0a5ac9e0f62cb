-- The ends of the blocks of `acquire`s, found among the tokens of a job text. For each open block, the innermost first, the name in its
-- `acquire` is known; it is `None` if it is the block of something else.
use Rattle.std.specs.Prelude.{ℕ, List, [], ◌∷◌, Option, Some, None}
use Rattle.job_tokens.specs.declared.token.Token.{Token}
use Rattle.job_tokens.specs.declared.token.Mark.{Mark}
use Rattle.job_tokens.specs.declared.token.Mark.TheVariants.{Open}
use Rattle.job_syntax.specs.declared.keyword.Keyword.{Keyword}
use Rattle.job_syntax.specs.declared.keyword.Keyword.TheVariants as keyword
use Rattle.job_edits.specs.Waiting.{first_name}

-- The name in the `acquire` whose block is opened next after a token, given the same before it, the token by its mark and its keyword, and
-- the tokens after it.
abbrev pub acquired_by : Option (List ℕ) → Option Mark → Option Keyword → List Token → Option (List ℕ)
acquired_by before (Some Open) k ts = None
acquired_by before m (Some keyword.Acquire) ts = first_name ts
acquired_by before m k ts = before

-- the name in the `acquire` of the innermost block
abbrev pub innermost : List (Option (List ℕ)) → Option (List ℕ)
innermost [] = None
innermost (b ∷ bs) = b
