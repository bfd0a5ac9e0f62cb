use Rattle.std.proofs.Common.{◌≡◌, ◌++◌, drop}
use Rattle.std.specs.Prelude.{codes, map}
use Rattle.job_story.specs.Deadlock.{waits_text}
use Rattle.story_waits.specs.Deadlock.{wait_in}
use Rattle.story_text.proofs.deadlock.push_waits.Given as goal

abbrev pub invariant-waits : goal.invariant-waits
invariant-waits l =
    l.out.items ++ waits_text l.before l.held (map wait_in (drop l.wait-index l.waits))
    ≡ l.fn.out.items ++ waits_text (codes "deadlock: ") l.fn.held (map wait_in l.waits)
