use Rattle.std.proofs.Common.{length, sym, ap, ◌∙◌}
use Rattle.job_tree.specs.declared.format.Format.{Format}
use Rattle.job_syntax.specs.Syntax.{fault_at, roles_at, whole_job}
use Rattle.std.proofs.lemmas.Result.{err_from_is_err_and}
use Rattle.job_reader.specs.declared.fault.JobKind.TheVariants as kind
use Rattle.job_reader.proofs.Arms.{fair_refusal, syntax_refused, course_read}
use Rattle.job_reader.proofs.reading.roles_of.Goals as goal

pub returns-in_err-refuse_at-clause-err : goal.returns-in_err-refuse_at-clause-err
returns-in_err-refuse_at-clause-err c =
    let p = err_from_is_err_and c.from_residual-in_err-refuse_at.result c.from_residual-in_err-refuse_at.ensures.1 in
    let same = ap (λ (f : Format). fault_at f (length c.args.text.now) whole_job c.args.tokens.now) (sym c.requires.format) in
    let refused = syntax_refused c.args.text.now c.args.tokens.now in
    let fault = c.in_err-refuse_at.field-0.0 in
    rw (p.1, p.2) (fair_refusal c.args.text.now kind.Syntax c.in_ok-fault.field-0.fault fault
    (λ at e. refused at c.requires.read (same ∙ sym c.in_ok-fault.ensures.fault ∙ e)) c.in_err-refuse_at.ensures.err)

pub returns-clause-ok : goal.returns-clause-ok
returns-clause-ok c =
    let none = c.in_ok-refuse_at.ensures.ok in
    let roles = c.in_ok-fault.field-0.roles.items in
    let same = ap (λ (f : Format). fault_at f (length c.args.text.now) whole_job c.args.tokens.now) (sym c.requires.format) in
    let same_roles = ap (λ (f : Format). roles_at f whole_job c.args.tokens.now) c.requires.format in
    let read = course_read c.args.text.now c.args.tokens.now roles c.requires.read in
    read (same ∙ sym c.in_ok-fault.ensures.fault ∙ none) (c.in_ok-fault.ensures.roles none ∙ same_roles)
