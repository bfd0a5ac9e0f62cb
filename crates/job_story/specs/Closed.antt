-- When a selection of tasks contains every task that it names as a cause.
use Rattle.std.specs.Prelude.{◌≡◌, true, Some, List}
use Rattle.exceptions.specs.Exceptions.{Label}
use Rattle.job_meaning.specs.Log.{Table}
use Rattle.job_story.specs.Events.{Event}
use Rattle.job_story.specs.Focus.{causer_of, is_among}
use Rattle.job_story.specs.Shown.{IsIn}

-- where a task of the selection was cancelled, the task that caused it is in the selection too
abbrev pub IsClosed : Table → List Event → List Label → Type 0
IsClosed table all kept =
    (e : Event) (cause : Label) → IsIn e all → is_among e.task kept ≡ true → causer_of table all e.what ≡ Some cause → is_among cause kept ≡ true
