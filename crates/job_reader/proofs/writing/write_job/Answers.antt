use Rattle.std.proofs.Common.{◌≡◌, ℕ, List, refl, sym, subst}
use Rattle.job_reader.specs.Refusals.{Spells}
use Rattle.job_reader.specs.Canon.{canon}
use Rattle.job_reader.proofs.writing.write_job.Goals as goal

pub returns-clause-again : goal.returns-clause-again
returns-clause-again c =
    let is : c.push_canon.new.out.items ≡ canon c.args.job.now =
    rw (
      c.in_ok-push_canon.ensures,
      c.in_ok-text.ensures.items,
      c.first_line.ensures,
      c.text_format.ensures,
      c.deref.ensures.value,
      c.in_ok-shapes.ensures.shapes,
    ) refl in
    subst (λ (text : List ℕ). Spells text c.args.job.now) (sym is) c.in_ok-shapes.ensures.spelled
