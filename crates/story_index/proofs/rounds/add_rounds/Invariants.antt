use Rattle.std.proofs.Common.{◌≡◌, List}
use Rattle.std.specs.Prelude.{map}
use Rattle.exceptions.specs.Exceptions.{Label}
use Rattle.job_meaning.specs.Log.{Table}
use Rattle.job_story.specs.Focus.{is_among, causers_in}
use Rattle.story_index.specs.Knows.{Knows}
use Rattle.story_index.specs.Seen.{event_in}
use Rattle.story_index.specs.Holds.{holds}
use Rattle.story_index.proofs.rounds.add_rounds.Given as goal

abbrev pub invariant-rounds : goal.invariant-rounds
invariant-rounds l = (table : Table) (kept : List Label) → Knows l.causes table (map event_in l.events) →
    ((m : Label) → holds l.fn.tasks m ≡ is_among m kept) → (m : Label) →
    holds l.tasks m ≡ is_among m (causers_in l.round table (map event_in l.events) kept)
