use Rattle.std.proofs.Common.{ℕ, List, [], Some, None, sym, ap, ◌∙◌}
use Rattle.std.proofs.lemmas.Result.{on_ok_weaker}
use Rattle.job_tree.specs.Tree.{Steps}
use Rattle.job_tree.specs.Blocks.{steps_of}
use Rattle.job_tokens.specs.declared.token.Token.{Token}
use Rattle.job_syntax.specs.declared.role.Role.{Role}
use Rattle.job_reader.specs.Uses.{uses_of, targets_in, stray_in}
use Rattle.job_reader.specs.declared.fault.JobKind.TheVariants as kind
use Rattle.job_reader.proofs.Arms.{found_by, fair_answer, stray_refused, stray_passed}
use Rattle.job_reader.proofs.draft.Draft.check_uses.Goals as goal

pub returns-clause-ok : goal.returns-clause-ok
returns-clause-ok c =
    let d = c.args.self.now in
    let same = ap (λ (ss : Steps). stray_in (uses_of [] ss) (targets_in d.tokens.items d.roles.items)) (sym c.as_slice.ensures) in
    let pass = λ (ts : List Token) (rs : List Role). stray_in (uses_of [] (steps_of c.as_slice.result.now)) (targets_in ts rs) in
    let by = found_by pass d.tokens.items c.deref.result.now d.roles.items c.deref-2.result.now
    c.stray_use-found.result None c.deref.ensures.value c.deref-2.ensures.value in
    on_ok_weaker c.refuse_at.result
    (λ none. stray_passed d.text.now d c.requires (same ∙ by c.stray_use-found.ensures none))
    c.refuse_at.ensures.ok

pub returns-clause-err : goal.returns-clause-err
returns-clause-err c =
    let d = c.args.self.now in
    let same = ap (λ (ss : Steps). stray_in (uses_of [] ss) (targets_in d.tokens.items d.roles.items)) (sym c.as_slice.ensures) in
    let pass = λ (ts : List Token) (rs : List Role). stray_in (uses_of [] (steps_of c.as_slice.result.now)) (targets_in ts rs) in
    let by = λ (at : ℕ). found_by pass d.tokens.items c.deref.result.now d.roles.items c.deref-2.result.now
    c.stray_use-found.result (Some at) c.deref.ensures.value c.deref-2.ensures.value in
    fair_answer d.text.now kind.NotEnclosing c.stray_use-found.result c.refuse_at.result
    (λ at e. stray_refused d.text.now d at c.requires (same ∙ by at c.stray_use-found.ensures e))
    c.refuse_at.ensures.err
