-- A worked story up to a limit, proved by computing.
use Rattle.std.specs.Prelude.{◌≡◌, ℕ, List, [], ◌∷◌, codes, refl}
use Rattle.std.specs.Fmt.{digits}
use Rattle.job_tree.specs.Tree.{sleep, forever, Tree}
use Rattle.job_meaning.specs.Examples.{nursery_of, start_of}
use Rattle.job_meaning.specs.Meaning.{meaning}
use Rattle.job_meaning.specs.Tables.{meaning_tables}
use Rattle.job_meaning.specs.Walk.{walk, and_then, sleep_result, lines_result, raise_result, need_result, cancel_result, set_result, event_wait, block, event_block, with_sign, nursery_result, child, handler_result, cleanup_result}
use Rattle.job_story.specs.Examples.{job_named, lines_of}
use Rattle.job_story.specs.Tell.{tell, then_tale, tell_sleep, tell_lines, tell_need, tell_raise, tell_cancel, tell_set, tell_event_wait, tell_block, tell_event, tell_wait, tell_gathered, tell_child, tell_handled, tell_cleaned, tale_by}
use Rattle.job_story.specs.Deadlock.{most_in_cycle}
use Rattle.job_story.specs.Limit.{story_to}

-- the story of the meaning up to a limit
unfoldable pub text_of_story_to : ℕ → Tree → List ℕ → List ℕ
unfolding meaning walk and_then sleep_result lines_result raise_result need_result cancel_result set_result event_wait block event_block with_sign nursery_result child handler_result cleanup_result tell then_tale tell_sleep tell_lines tell_need tell_raise tell_cancel tell_set tell_event_wait tell_block tell_event tell_wait tell_gathered tell_child tell_handled tell_cleaned tale_by
text_of_story_to limit job input = story_to (meaning_tables job input) limit job input

-- job m { nursery n { start a { forever; } start b { sleep 5; } } }
abbrev pub endless : Tree
endless =
    job_named (codes "m")
    (nursery_of (codes "n") (start_of (codes "a") (forever ∷ []) ∷ start_of (codes "b") (sleep 5 ∷ []) ∷ []) ∷ [])

pub somebody_sleeps_forever :
    text_of_story_to 100 endless []
    ≡ lines_of
    (codes "tick 0"
    ∷ codes "  m  starts"
    ∷ codes "  m  enters nursery n"
    ∷ codes "  a  starts in nursery n"
    ∷ codes "  a  sleeps forever"
    ∷ codes "  b  starts in nursery n"
    ∷ codes "  b  sleeps until 5"
    ∷ codes "  m  waits for nursery n"
    ∷ codes "tick 5"
    ∷ codes "  b  ends: done"
    ∷ codes "limit 100"
    ∷ codes "  m  waiting for nursery n since 0"
    ∷ codes "  a  sleeping forever since 0"
    ∷ [])
unfolding text_of_story_to digits most_in_cycle
somebody_sleeps_forever = refl
