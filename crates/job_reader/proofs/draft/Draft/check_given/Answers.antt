use Rattle.std.proofs.Common.{ℕ, [], Some, None}
use Rattle.std.proofs.lemmas.Result.{on_ok_weaker}
use Rattle.job_reader.specs.Given.{twice_in}
use Rattle.job_reader.specs.declared.fault.JobKind.TheVariants as kind
use Rattle.job_reader.proofs.Arms.{found_by, fair_answer, given_refused, given_passed}
use Rattle.job_reader.proofs.draft.Draft.check_given.Goals as goal

pub returns-clause-ok : goal.returns-clause-ok
returns-clause-ok c =
    let d = c.args.self.now in
    let by = found_by (twice_in []) d.tokens.items c.deref.result.now d.roles.items c.deref-2.result.now
    c.in_ok-found.found None c.deref.ensures.value c.deref-2.ensures.value in
    on_ok_weaker c.refuse_at.result
    (λ none. given_passed d.text.now d c.requires (by c.in_ok-found.ensures none))
    c.refuse_at.ensures.ok

pub returns-clause-err : goal.returns-clause-err
returns-clause-err c =
    let d = c.args.self.now in
    let by = λ (at : ℕ). found_by (twice_in []) d.tokens.items c.deref.result.now d.roles.items c.deref-2.result.now
    c.in_ok-found.found (Some at) c.deref.ensures.value c.deref-2.ensures.value in
    fair_answer d.text.now kind.Twice c.in_ok-found.found c.refuse_at.result
    (λ at e. given_refused d.text.now d at c.requires (by at c.in_ok-found.ensures e))
    c.refuse_at.ensures.err
