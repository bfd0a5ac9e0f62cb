use Rattle.std.proofs.Common.{◌∙◌}
use Rattle.std.proofs.lemmas.Result.{IfOk-weaker}
use Rattle.trials.specs.Views.{text_run_held}
use Rattle.trials.proofs.Gathered.{moves_seen}
use Rattle.trials.proofs.race_work.moves_for.Goals as goal

pub returns : goal.returns
returns g c =
    IfOk-weaker c.answers_for.result _ _
    (λ lines are. moves_seen c.args.original.now c.args.original.now.input.now (text_run_held c.args.before) c.as_slice.result.now lines.items
    (c.as_slice.ensures.value ∙ c.in_ok-shifts.ensures) are) c.answers_for.ensures
