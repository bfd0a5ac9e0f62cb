use Rattle.std.proofs.Common.{ap, ◌∙◌, ℕ, Option, length}
use Rattle.std.specs.Option.{unwrap_or}
use Rattle.story_waits.proofs.records.Records.of_task.Goals as goal

pub returns-in-None : goal.returns-in-None
returns-in-None c es k =
    k.read ∙ ap (λ (o : Option ℕ). unwrap_or o (length es)) (c.in-None.ensures.value ∙ k.starts c.args.task.now)
