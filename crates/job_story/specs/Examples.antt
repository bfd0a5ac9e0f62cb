-- Definitions for the worked stories, and three of them, proved by computing: a sibling fails, and a cleanup has a shield; a search and a
-- `need` find no line; each pass of a `repeat over` searches its own cut of the input.
use Rattle.std.specs.Prelude.{◌≡◌, ℕ, true, List, [], ◌∷◌, ◌++◌, codes, refl}
use Rattle.std.specs.Fmt.{digits}
use Rattle.job_tree.specs.declared.format.Format.TheVariants.{Two, Three}
use Rattle.job_tree.specs.Tree.{Step, sleep, forever, find, need, raise, repeat, Tree}
use Rattle.job_meaning.specs.Meaning.{meaning}
use Rattle.job_meaning.specs.Tables.{meaning_tables}
use Rattle.job_meaning.specs.Walk.{walk, and_then, sleep_result, lines_result, raise_result, need_result, cancel_result, set_result, event_wait, block, event_block, with_sign, nursery_result, child, handler_result, cleanup_result}
use Rattle.job_meaning.specs.Examples.{block_of, nursery_of, start_of, timed_shield, try_finally}
use Rattle.job_story.specs.Tell.{tell, then_tale, tell_sleep, tell_lines, tell_need, tell_raise, tell_cancel, tell_set, tell_event_wait, tell_block, tell_event, tell_wait, tell_gathered, tell_child, tell_handled, tell_cleaned, tale_by}
use Rattle.job_story.specs.Sentences.{story_text}

-- a job with this name
abbrev pub job_named : List ℕ → List Step → Tree
job_named name ss = record { format = Two; name = name; steps = block_of ss }

-- each of these on a line
abbrev pub lines_of : List (List ℕ) → List ℕ
lines_of [] = []
lines_of (l ∷ ls) = l ++ codes "\n" ++ lines_of ls

-- the story of the meaning
unfoldable pub text_of_story : Tree → List ℕ → List ℕ
unfolding meaning walk and_then sleep_result lines_result raise_result need_result cancel_result set_result event_wait block event_block with_sign nursery_result child handler_result cleanup_result tell then_tale tell_sleep tell_lines tell_need tell_raise tell_cancel tell_set tell_event_wait tell_block tell_event tell_wait tell_gathered tell_child tell_handled tell_cleaned tale_by
text_of_story job input = story_text (meaning_tables job input) job input

-- job supervisor { nursery workers {
--   start reader { try { forever; } finally { scope flush after 5 shield { sleep 3; } } }
--   start writer { sleep 4; raise DiskFull; }
-- } }
abbrev pub supervisor : Tree
supervisor =
    job_named (codes "supervisor")
    (nursery_of (codes "workers")
    (start_of (codes "reader") (try_finally (forever ∷ []) (timed_shield (codes "flush") 5 (sleep 3 ∷ []) ∷ []) ∷ [])
    ∷ start_of (codes "writer") (sleep 4 ∷ raise (codes "DiskFull") ∷ [])
    ∷ []) ∷ [])

pub a_sibling_fails :
    text_of_story supervisor []
    ≡ lines_of
    (codes "tick 0"
    ∷ codes "  supervisor  starts"
    ∷ codes "  supervisor  enters nursery workers"
    ∷ codes "  reader      starts in nursery workers"
    ∷ codes "  reader      sleeps forever"
    ∷ codes "  writer      starts in nursery workers"
    ∷ codes "  writer      sleeps until 4"
    ∷ codes "  supervisor  waits for nursery workers"
    ∷ codes "tick 4"
    ∷ codes "  writer      raises DiskFull"
    ∷ codes "  writer      ends: raised DiskFull(writer@4); nursery workers is cancelled from 5"
    ∷ codes "tick 5"
    ∷ codes "  reader      is cancelled while sleeping since 0 by nursery workers (writer failed at 4)"
    ∷ codes "  reader      runs cleanup after Cancelled"
    ∷ codes "  reader      enters scope flush (deadline 10, shielded)"
    ∷ codes "  reader      sleeps until 8"
    ∷ codes "tick 8"
    ∷ codes "  reader      leaves scope flush: completed"
    ∷ codes "  reader      ends: cancelled"
    ∷ codes "  supervisor  leaves nursery workers: cancellation caught, workers[DiskFull(writer@4)] propagates"
    ∷ codes "  supervisor  ends: raised workers[DiskFull(writer@4)]"
    ∷ [])
unfolding text_of_story digits
a_sibling_fails = refl

-- job late { find "zz"; need "zz" Gone; }
pub a_need_finds_no_line :
    text_of_story (job_named (codes "late") (find (codes "zz") ∷ need (codes "zz") (codes "Gone") ∷ [])) (lines_of (codes "ok" ∷ []))
    ≡ lines_of
    (codes "tick 0"
    ∷ codes "  late  starts"
    ∷ codes "  late  finds no line"
    ∷ codes "  late  finds no line and raises Gone"
    ∷ codes "  late  ends: raised Gone(late@0)"
    ∷ [])
unfolding text_of_story digits
a_need_finds_no_line = refl

-- job halves { repeat over 2 { find "GET"; } }
pub each_pass_has_its_cut :
    text_of_story (record { format = Three; name = codes "halves"; steps = block_of (repeat 2 true (block_of (find (codes "GET") ∷ [])) ∷ []) })
    (lines_of (codes "GET /a" ∷ codes "GET /b" ∷ codes "PUT /c" ∷ codes "PUT /d" ∷ []))
    ≡ lines_of
    (codes "tick 0"
    ∷ codes "  halves  starts"
    ∷ codes "  halves  finds 2 lines"
    ∷ codes "  halves  finds no line"
    ∷ codes "  halves  ends: done"
    ∷ [])
unfolding text_of_story digits
each_pass_has_its_cut = refl
