-- The tasks of a set, and a borrowed label, as the definitions see them.
use Rattle.std.specs.Prelude.{Bool, Option}
use Rattle.std.specs.Option.{option_map}
use Rattle.std.specs.Borrow.{Bor}
use Rattle.indexmap.specs.IndexSet.{contains_by}
use Rattle.exceptions.specs.Exceptions.{Label}
use Rattle.job_meaning.specs.Log.{same_label}
use Rattle.story_index.specs.declared.task_set.TaskSet.{TaskSet}

-- whether the set contains a task
abbrev pub holds : TaskSet → Label → Bool
holds tasks l = contains_by (λ k. same_label l k.now) tasks.all

-- a borrowed label, if there is one
abbrev pub label_seen : Option (Bor Label) → Option Label
label_seen found = option_map (λ (l : Bor Label). l.now) found
