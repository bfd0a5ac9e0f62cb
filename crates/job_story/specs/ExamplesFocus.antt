-- The part of a worked story that concerns one task, proved by computing.
use Rattle.std.specs.Prelude.{◌≡◌, ℕ, List, [], ◌∷◌, codes, refl}
use Rattle.std.specs.Fmt.{digits}
use Rattle.job_tree.specs.Tree.{Tree}
use Rattle.exceptions.specs.Exceptions.{Label}
use Rattle.job_meaning.specs.Examples.{label_named}
use Rattle.job_meaning.specs.Meaning.{meaning}
use Rattle.job_meaning.specs.Tables.{meaning_tables}
use Rattle.job_meaning.specs.Walk.{walk, and_then, sleep_result, lines_result, raise_result, need_result, cancel_result, block, with_sign, nursery_result, child, handler_result, cleanup_result}
use Rattle.job_story.specs.Examples.{lines_of}
use Rattle.job_story.specs.ExamplesCauses.{race}
use Rattle.job_story.specs.Focus.{story_of_task}
use Rattle.job_story.specs.Tell.{tell, then_tale, tell_sleep, tell_lines, tell_need, tell_raise, tell_cancel, tell_block, tell_wait, tell_gathered, tell_child, tell_handled, tell_cleaned, tale_by}

-- the events of the meaning that concern a task
unfoldable pub text_of_story_for : Tree → List ℕ → Label → List ℕ
unfolding meaning walk and_then sleep_result lines_result raise_result need_result cancel_result block with_sign nursery_result child handler_result cleanup_result tell then_tale tell_sleep tell_lines tell_need tell_raise tell_cancel tell_block tell_wait tell_gathered tell_child tell_handled tell_cleaned tale_by
text_of_story_for job input task =
    story_of_task (meaning_tables job input) job input task

-- the task `late` of the race, which is cancelled by `stop`
pub who_cancelled_late :
    text_of_story_for race (lines_of (codes "GET /a" ∷ codes "PUT /b" ∷ [])) (label_named (codes "late"))
    ≡ lines_of
    (codes "tick 0"
    ∷ codes "  stop  starts in nursery calls"
    ∷ codes "  stop  sleeps until 5"
    ∷ codes "  late  starts in nursery calls"
    ∷ codes "  late  sleeps until 6"
    ∷ codes "tick 5"
    ∷ codes "  stop  cancels nursery calls from 6"
    ∷ codes "  stop  ends: done"
    ∷ codes "tick 6"
    ∷ codes "  late  is cancelled while sleeping since 0 by nursery calls (cancelled by stop at 5)"
    ∷ codes "  late  ends: cancelled"
    ∷ [])
unfolding text_of_story_for digits
who_cancelled_late = refl
