use Rattle.refusal_text.proofs.Messages.{expects, helps_text}
use Rattle.refusal_text.proofs.findings.syntax_findings.Goals as goal

pub returns-clause-asked : goal.returns-clause-asked
returns-clause-asked c =
    let lexed = c.in_ok-lexed.lexed in
    expects lexed.format c.args.text.now lexed.tokens.items c.as_slice.result.now lexed.fault c.in_ok-asked.asked
    c.in_ok-lexed.ensures.format c.in_ok-lexed.ensures.tokens c.as_slice.ensures.value c.in_ok-asked.ensures

pub returns-clause-hint : goal.returns-clause-hint
returns-clause-hint c =
    let lexed = c.in_ok-lexed.lexed in
    helps_text lexed.format c.args.text.now c.args.at lexed.tokens.items lexed.fault c.in_ok-hint.hint
    c.in_ok-lexed.ensures.format c.in_ok-lexed.ensures.tokens c.in_ok-hint.ensures
