use Rattle.std.proofs.Common.{sym, ◌∙◌}
use Rattle.std.proofs.lemmas.Result.{on_ok_weaker}
use Rattle.job_reader.specs.declared.fault.JobKind.TheVariants as kind
use Rattle.job_reader.proofs.Arms.{fair_answer, depth_refused, depth_read}
use Rattle.job_reader.proofs.reading.check_depth.Goals as goal

pub returns-clause-ok : goal.returns-clause-ok
returns-clause-ok c =
    let read = depth_read c.args.text.now c.args.tokens.now c.requires in
    on_ok_weaker c.refuse_at.result (λ none. read (sym c.depth_fault.ensures ∙ none)) c.refuse_at.ensures.ok

pub returns-clause-err : goal.returns-clause-err
returns-clause-err c =
    let refused = depth_refused c.args.text.now c.args.tokens.now in
    fair_answer c.args.text.now kind.Depth c.depth_fault.result c.refuse_at.result
    (λ at e. refused at c.requires (sym c.depth_fault.ensures ∙ e)) c.refuse_at.ensures.err
