use Rattle.std.proofs.Common.{◌≡◌}
use Rattle.std.specs.Prelude.{List}
use Rattle.job_story.specs.Events.{Event}
use Rattle.job_story.specs.Deadlock.{waits_to}
use Rattle.story_waits.specs.Deadlock.{KnowsWaits, waits_in}
use Rattle.story_waits.proofs.DeadlockLemmas.{after}
use Rattle.story_waits.proofs.deadlock.Waits.waits_to.Given as goal

abbrev pub invariant-waits : goal.invariant-waits
invariant-waits l =
    (es : List Event) → KnowsWaits l.self es →
    after (waits_in l.waits) (waits_to l.left es l.first l.task) ≡ waits_to l.fn.most es l.first l.first

abbrev pub decreases-waits : goal.decreases-waits
decreases-waits l = l.left
