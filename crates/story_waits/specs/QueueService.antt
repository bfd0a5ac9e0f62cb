-- What the code knows of how limiters and channels serve tasks.
use Rattle.std.specs.Prelude.{◌≡◌, ℕ, List, []}
use Rattle.exceptions.specs.Exceptions.{Label}
use Rattle.job_story.specs.Events.{Event}
use Rattle.job_story.specs.Notes.{in_service, kind_of, number_in}
use Rattle.story_index.specs.Found.{value_at}
use Rattle.story_waits.specs.Groups.{KnowsMoves}
use Rattle.story_waits.specs.Numbers.{number_at}
use Rattle.story_waits.specs.declared.queue_service.QueueService.{QueueService}

pub record KnowsService (service : QueueService) (walked : List Event) : Type 0 where
  pub groups : KnowsMoves service.groups (in_service walked)
  pub numbers : (i : ℕ) → number_at service.numbers i ≡ number_in [] i (in_service walked)
  pub kinds : (l : Label) → value_at service.kinds l ≡ kind_of l walked
