use Rattle.std.proofs.Common.{ℕ, Bool, List, Option, subst}
use Rattle.job_reader.specs.Refusals.{HasTokens}
use Rattle.job_reader.proofs.Arms.{tokens_read}
use Rattle.job_tokens.specs.Lexing.{has_comments, Lexes}
use Rattle.std.proofs.Common.{length, drop}
use Rattle.job_reader.proofs.Passing.{comments_by}
use Rattle.job_reader.proofs.reading.tokens_of.Goals as goal

pub returns-clause-ok : goal.returns-clause-ok
returns-clause-ok c =
    let tokens = c.in_ok-tokens.field-0.tokens.items in
    let fault = c.in_ok-tokens.field-0.fault in
    let text = c.args.text.now in
    let body = subst (λ (bytes : List ℕ). Lexes (has_comments c.args.format) (length text) bytes tokens fault) c.requires.after
    c.in_ok-tokens.ensures in
    let whole = subst (λ (comments : Bool). Lexes comments (length text) (drop 11 text) tokens fault)
    (comments_by text c.args.format c.requires.format) body in
    let lexed = subst (λ (o : Option ℕ). HasTokens c.args.text.now tokens o) c.in_ok-refuse_at.ensures.ok whole in
    tokens_read c.args.text.now tokens c.requires.earlier lexed
