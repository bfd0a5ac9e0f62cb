use Rattle.std.proofs.Common.{sym, ap, ◌∙◌}
use Rattle.job_tree.specs.declared.format.Format.{Format}
use Rattle.job_syntax.specs.Ranges.{number_fault}
use Rattle.std.proofs.lemmas.Result.{on_ok_weaker}
use Rattle.job_reader.specs.declared.fault.JobKind.TheVariants as kind
use Rattle.job_reader.proofs.Arms.{fair_answer, number_refused, numbers_read}
use Rattle.job_reader.proofs.reading.check_numbers.Goals as goal

pub returns-clause-ok : goal.returns-clause-ok
returns-clause-ok c =
    let same = ap (λ (f : Format). number_fault f c.args.tokens.now) (sym c.requires.format) in
    let read = numbers_read c.args.text.now c.args.tokens.now c.requires.read in
    on_ok_weaker c.refuse_at.result (λ none. read (same ∙ sym c.number_fault.ensures ∙ none)) c.refuse_at.ensures.ok

pub returns-clause-err : goal.returns-clause-err
returns-clause-err c =
    let same = ap (λ (f : Format). number_fault f c.args.tokens.now) (sym c.requires.format) in
    let refused = number_refused c.args.text.now c.args.tokens.now in
    fair_answer c.args.text.now kind.Number c.number_fault.result c.refuse_at.result
    (λ at e. refused at c.requires.read (same ∙ sym c.number_fault.ensures ∙ e)) c.refuse_at.ensures.err
