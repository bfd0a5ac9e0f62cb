use Rattle.std.proofs.Common.{◌≡◌, List, ap, sym}
use Rattle.std.specs.Prelude.{None}
use Rattle.job_tokens.specs.declared.token.Token.{Token}
use Rattle.job_tokens.specs.Shapes.{shapes_of}
use Rattle.job_syntax.specs.Reading.{job_at}
use Rattle.job_reader.specs.Refusals.{format_of}
use Rattle.std.specs.Prelude.{Some}
use Rattle.refusal_text.specs.declared.hinting.Hint.TheVariants as hint
use Rattle.refusal_text.specs.Hinting.{size_hint}
use Rattle.refusal_text.proofs.Messages.{of_tokens}
use Rattle.refusal_text.proofs.Read.{none_read, some_read, size_in}
use Rattle.refusal_text.proofs.size.size_hint.Goals as goal

pub returns-in_default : goal.returns-in_default
returns-in_default c =
    let text = c.args.text.now in
    let format = format_of text in
    of_tokens text _ c.as_slice.result.now c.in_ok-lexed.lexed.fault
    (λ (ts : List Token). None ≡ size_hint (job_at format (shapes_of ts)))
    c.in_ok-lexed.ensures.tokens c.as_slice.ensures.value
    (sym (ap size_hint (none_read _ _ _ (c.in_ok-job.ensures format) c.in_default.is)))

pub returns : goal.returns
returns c =
    let text = c.args.text.now in
    let format = format_of text in
    of_tokens text _ c.as_slice.result.now c.in_ok-lexed.lexed.fault
    (λ (ts : List Token). Some (hint.Size c.size_of.result) ≡ size_hint (job_at format (shapes_of ts)))
    c.in_ok-lexed.ensures.tokens c.as_slice.ensures.value
    (size_in _ _ _ _ format _ (some_read _ c.in-Some.job _ _ (c.in_ok-job.ensures format) c.in-Some.is) c.as_slice-2.ensures c.size_of.ensures)
