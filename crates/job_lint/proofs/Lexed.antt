-- The tokens of a text that spells a job, and their opening keywords.
use Rattle.std.proofs.Common.{◌≡◌, ℕ, None, List, [], length, drop, ap, subst, ◌∙◌}
use Rattle.job_tree.specs.Tree.{Tree}
use Rattle.job_tokens.specs.declared.token.Token.{Token}
use Rattle.job_tokens.proofs.LeftToRight.{Lexes-unique}
use Rattle.job_syntax.specs.declared.keyword.Keyword.{Keyword}
use Rattle.job_reader.specs.Refusals.{Spells, HasTokens, may_have_comments}
use Rattle.job_lint.specs.Openings.{opening_places, openings_of, numbered_in}
use Rattle.job_lint.specs.Warnings.{in_job, job_warnings}
use Rattle.job_lint.specs.Fitting.{opening_keywords, keywords_of, AllStandAtKeywords}
use Rattle.job_lint.proofs.Keywords.{as_many_places, same_keywords}
use Rattle.job_lint.proofs.Standing.{as_many, all_stand}

-- the tokens have the opening keywords of the tree
pub keywords_of_text : (text : List ℕ) (job : Tree) (tokens : List Token) → Spells text job → HasTokens text tokens None →
    opening_keywords tokens ≡ keywords_of job.steps []
keywords_of_text text job tokens (ts, is_of, none) lexed =
    let same : ts ≡ tokens = (Lexes-unique (may_have_comments text) (length text) (drop 11 text) ts tokens None None is_of.0 lexed).0 in
    subst (λ (us : List Token). opening_keywords us ≡ keywords_of job.steps []) same (same_keywords job ts is_of.1)

-- there are as many places as opening keywords in the tree
pub keywords_have_places : (text : List ℕ) (job : Tree) (tokens : List Token) → Spells text job → HasTokens text tokens None →
    length (opening_places tokens) ≡ openings_of job.steps
keywords_have_places text job tokens spells lexed =
    as_many_places tokens ∙ ap (length {A = Keyword}) (keywords_of_text text job tokens spells lexed) ∙ as_many job.steps

-- each warning is at a keyword that it can be about
pub warnings_stand : (text : List ℕ) (job : Tree) (tokens : List Token) → Spells text job → HasTokens text tokens None →
    AllStandAtKeywords (opening_places tokens) (opening_keywords tokens) (job_warnings (numbered_in (opening_places tokens)) job)
warnings_stand text job tokens spells lexed =
    all_stand (opening_places tokens) (opening_keywords tokens) (in_job job.format) job.steps (keywords_of_text text job tokens spells lexed)
