-- What the code knows of the moves at limiters and channels.
use Rattle.std.specs.Prelude.{◌≡◌, ◌&&◌, Bool, Option, Some, None, List, [], map}
use Rattle.std.specs.Global.{Vec}
use Rattle.std.specs.Borrow.{Bor}
use Rattle.indexmap.specs.IndexMap.{get_by}
use Rattle.exceptions.specs.Exceptions.{Label}
use Rattle.job_meaning.specs.Log.{same_label}
use Rattle.job_story.specs.Notes as notes
use Rattle.story_waits.specs.Moves.{same_made, move_in}
use Rattle.story_waits.specs.declared.moves.Move.{Move}
use Rattle.story_waits.specs.declared.groups.MoveAt.{MoveAt}
use Rattle.story_waits.specs.declared.groups.Groups.{Groups}

abbrev pub labels_in : List (Bor Label) → List Label
labels_in ls = map (λ (l : Bor Label). l.now) ls

abbrev pub labels_of : Option (Vec (Bor Label)) → List Label
labels_of None = []
labels_of (Some tasks) = labels_in tasks.items

abbrev pub same_place : Label → Move → MoveAt → Bool
same_place object made at = same_label object at.object.now && same_made made at.made

-- the tasks that made a move at a limiter or channel
abbrev pub group_at : Groups → Label → Move → List Label
group_at groups object made = labels_of (get_by (same_place object made) groups.tasks)

abbrev pub KnowsMoves : Groups → List notes.Turn → Type 0
KnowsMoves groups turns = (object : Label) (made : Move) → group_at groups object made ≡ notes.tasks_at object (move_in made) turns
