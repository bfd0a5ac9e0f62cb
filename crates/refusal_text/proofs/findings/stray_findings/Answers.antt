use Rattle.std.proofs.Common.{◌≡◌, ◌∙◌, ap, List}
use Rattle.std.specs.Prelude.{None}
use Rattle.job_tokens.specs.declared.token.Token.{Token}
use Rattle.job_tokens.specs.Shapes.{shapes_of}
use Rattle.job_syntax.specs.Reading.{job_at}
use Rattle.job_reader.specs.Refusals.{format_of}
use Rattle.job_hints.specs.ByGrammar.{keyword_in}
use Rattle.refusal_text.specs.Hinting.{advice_hint, task_advice}
use Rattle.refusal_text.specs.Scanning.{last_before, shape_at}
use Rattle.refusal_text.specs.Scopes.{enclosing_names, kind_used, names_held}
use Rattle.refusal_text.proofs.Messages.{of_tokens}
use Rattle.refusal_text.proofs.findings.stray_findings.Goals as goal

pub returns-clause-used : goal.returns-clause-used
returns-clause-used c =
    let at = c.args.at in
    of_tokens c.args.text.now _ c.as_slice-tokens.result.now c.in_ok-lexed.lexed.fault
    (λ (ts : List Token). c.kind_used.result ≡ kind_used (keyword_in (last_before at None ts)))
    c.in_ok-lexed.ensures.tokens c.as_slice-tokens.ensures.value
    (c.kind_used.ensures ∙ ap (λ s. kind_used (keyword_in s)) c.last_before.ensures)

pub returns-clause-names : goal.returns-clause-names
returns-clause-names c =
    let text = c.args.text.now in
    of_tokens text _ c.as_slice-tokens.result.now c.in_ok-lexed.lexed.fault
    (λ (ts : List Token). names_held c.in_ok-names.names ≡ enclosing_names (job_at (format_of text) (shapes_of ts)))
    c.in_ok-lexed.ensures.tokens c.as_slice-tokens.ensures.value (c.in_ok-names.ensures (format_of text))

pub returns-clause-hint : goal.returns-clause-hint
returns-clause-hint c =
    let at = c.args.at in
    of_tokens c.args.text.now _ c.as_slice-tokens.result.now c.in_ok-lexed.lexed.fault
    (λ (ts : List Token). c.stray_hint-hint.result ≡ advice_hint (task_advice (last_before at None ts) (shape_at at ts) ts))
    c.in_ok-lexed.ensures.tokens c.as_slice-tokens.ensures.value
    c.stray_hint-hint.ensures
