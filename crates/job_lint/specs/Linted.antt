-- What is found in a text.
use Rattle.std.specs.Prelude.{◌≡◌, ◌⊎◌, ℕ, None, List, Result, Err, IsOk}
use Rattle.job_tree.specs.Tree.{Tree}
use Rattle.job_tokens.specs.declared.token.Token.{Token}
use Rattle.job_reader.specs.declared.fault.JobFault.{JobFault}
use Rattle.job_reader.specs.Kinds.{no_memory}
use Rattle.job_reader.specs.Refusals.{Spells, HasTokens}
use Rattle.job_lint.specs.declared.warning.Warning.{Warning}
use Rattle.job_lint.specs.Openings.{opening_places, numbered_in}
use Rattle.job_lint.specs.Warnings.{job_warnings}

-- The warnings of the job that a text spells. Each is at the place of its keyword among the tokens of the text.
pub record AreWarnings (text : List ℕ) (found : List Warning) : Type 0 where
  pub job : Tree
  pub spells : Spells text job
  pub tokens : List Token
  pub tokens_are : HasTokens text tokens None
  pub warnings : found ≡ job_warnings (numbered_in (opening_places tokens)) job

-- an answer, or that memory runs out
abbrev pub IsOkUnlessMemory : {X : Type 0} → Result X JobFault → Type 0
IsOkUnlessMemory result = IsOk result ⊎ (result ≡ Err no_memory)
