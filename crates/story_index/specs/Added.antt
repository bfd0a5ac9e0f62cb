-- The tasks that one round adds to a set.
use Rattle.std.specs.Prelude.{Bool, false, ◌&&◌, ◌||◌, not, List, [], ◌∷◌}
use Rattle.exceptions.specs.Exceptions.{Label}
use Rattle.job_meaning.specs.Log.{Table}
use Rattle.job_story.specs.Events.{Event}
use Rattle.job_story.specs.Focus.{causer_of, is_some_label}

-- whether an event is a cancellation of a task of the set that a task outside the set caused, which is `l`
abbrev pub is_added_by : (Label → Bool) → Table → List Event → Label → Event → Bool
is_added_by has table all l e = has e.task && (is_some_label l (causer_of table all e.what) && not (has l))

-- whether one of the events is such a cancellation
abbrev pub is_added : (Label → Bool) → Table → List Event → Label → List Event → Bool
is_added has table all l [] = false
is_added has table all l (e ∷ es) = is_added_by has table all l e || is_added has table all l es
