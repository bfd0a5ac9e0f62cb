use Rattle.std.proofs.Common.{ℕ, subst}
use Rattle.exceptions.specs.Exceptions.{raised}
use Rattle.job_story.specs.Tell.{failed_at}
use Rattle.job_story.specs.Tales.{IsStretchOf}
use Rattle.job_story.proofs.leaves.raised.Goals as goal

pub returns : goal.returns
returns c = λ own story.
    subst (λ (t : ℕ). IsStretchOf c.failure.result (failed_at (raised c.args.name c.args.task t)
    (record { at = c.args.moment; own = own }) story))
    c.tick_of-tick.ensures (c.failure.ensures own story)
