use Rattle.std.proofs.Common.{ℕ, Bool, List, length, drop, subst}
use Rattle.job_reader.proofs.Passing.{comments_by}
use Rattle.job_tokens.specs.Lexing.{has_comments, Lexes}
use Rattle.refusal_text.proofs.Messages.{cut_back}
use Rattle.refusal_text.proofs.lexed_text.LexedText.new.Goals as goal

pub returns-clause-tokens : goal.returns-clause-tokens
returns-clause-tokens c =
    let text = c.args.text.now in
    let read = c.in_ok-tokens.field-0 in
    subst (λ (comments : Bool). Lexes comments (length text) (drop 11 text) read.tokens.items read.fault)
    (comments_by text c.format_of-format.result c.format_of-format.ensures)
    (subst (λ (bytes : List ℕ). Lexes (has_comments c.format_of-format.result) (length text) bytes read.tokens.items read.fault)
    (cut_back text _ 11 c.min.result c.split_at.ensures.back c.min.ensures) c.in_ok-tokens.ensures)
