use Rattle.std.proofs.Common.{Some, refl, sym, ap, ◌∙◌, arith}
use Rattle.exceptions.specs.Exceptions.{Label}
use Rattle.job_runner.proofs.Recorded.{recorded_is}
use Rattle.job_runner.proofs.runner.Runner.record.Goals as goal

pub returns : goal.returns
returns c = record {
  made = λ object asker u.
      c.in_ok-record.ensures.recorded object asker u
      ∙ sym (recorded_is c.args.self.now.world _ c.args.given c.in-Some.key _ _ _ c.label.result.now c.requires.lives c.in-Some.ensures
      (sym c.in-Some-label_of.ensures ∙ ap (λ (l : Label). Some l) (sym c.in_ok-object.ensures)) c.label.ensures c.in_ok-task.ensures
      (let now = c.now.ensures in omega (arith, now)) object asker u _);
  rest = refl;
}
