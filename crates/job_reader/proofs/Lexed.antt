-- A text that spells a job has tokens to its end.
use Rattle.std.proofs.Common.{◌≡◌, ℕ, Bool, Option, Some, List, length, drop, subst}
use Rattle.job_tree.specs.declared.format.Format.{Format}
use Rattle.job_tree.specs.Tree.{Tree}
use Rattle.job_tokens.specs.declared.token.Token.{Token}
use Rattle.job_tokens.specs.Lexing.{has_comments, Lexes}
use Rattle.job_reader.specs.Refusals.{format_of, may_have_comments, Spells}
use Rattle.job_reader.proofs.Passing.{comments_by}
use Rattle.job_reader.specs.declared.fault.JobKind.TheVariants as kind

pub lexed_to_the_end : (text body : List ℕ) (format : Format) (job : Tree) (tokens : List Token) (fault : Option ℕ) (at : ℕ) →
    body ≡ drop 11 text → format ≡ format_of text → fault ≡ Some at → Spells text job →
    Lexes (has_comments format) (length text) body tokens fault → ⊥
lexed_to_the_end text body format job tokens fault at rest of some spells lexed =
    spells.2 kind.Token at (
      tokens,
      subst (λ (f : Option ℕ). Lexes (may_have_comments text) (length text) (drop 11 text) tokens f) some
          (subst (λ (comments : Bool). Lexes comments (length text) (drop 11 text) tokens fault) (comments_by text format of)
          (subst (λ (b : List ℕ). Lexes (has_comments format) (length text) b tokens fault) rest lexed)),
    )
