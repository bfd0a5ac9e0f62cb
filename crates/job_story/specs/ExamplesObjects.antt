-- Worked stories of a limiter and of a channel, proved by computing: one task gives up, and the next one gets the token; a channel is closed
-- while one task waits to receive, and another one sends to it.
use Rattle.std.specs.Prelude.{◌≡◌, ℕ, List, [], ◌∷◌, codes, refl}
use Rattle.std.specs.Fmt.{digits}
use Rattle.job_tree.specs.declared.format.Format.TheVariants.{Three}
use Rattle.job_tree.specs.Tree.{Step, sleep, close_channel}
use Rattle.job_meaning.specs.Log.{table_of}
use Rattle.job_meaning.specs.Examples.{block_of, nursery_of, start_of, timed_scope, try_except}
use Rattle.job_meaning.specs.ExamplesSharing.{limiter_of, channel_of, acquire_of, send_to, receive_from, walk_with, granted_after}
use Rattle.job_story.specs.Examples.{lines_of}
use Rattle.job_story.specs.Tell.{tell, then_tale, tell_sleep, tell_lines, tell_need, tell_raise, tell_cancel, tell_set, tell_event_wait, tell_ask, with_token_told, tell_close, tell_object, tell_block, tell_event, tell_wait, tell_gathered, tell_child, tell_handled, tell_cleaned, tale_by}
use Rattle.job_story.specs.Sentences.{story_text}
use Rattle.job_story.specs.Deadlock.{most_in_cycle}
use Rattle.job_story.specs.Limit.{story_to}

-- the story of a job by the walk that follows so many others, each by what was granted in the one before
unfoldable pub text_after : ℕ → List Step → List ℕ
unfolding walk_with granted_after tell then_tale tell_sleep tell_lines tell_need tell_raise tell_cancel tell_set tell_event_wait tell_ask with_token_told tell_close tell_object tell_block tell_event tell_wait tell_gathered tell_child tell_handled tell_cleaned tale_by
text_after n ss =
    let grants = granted_after n ss in
    story_text (record { cancelled_from = table_of (walk_with grants ss).log; granted = grants })
    (record { format = Three; name = codes "main"; steps = block_of ss }) []

-- limiter l 1 { nursery n {
--   start a { acquire l { sleep 3; } }
--   start b { sleep 1; scope s after 1 { acquire l { } } }
--   start c { sleep 2; acquire l { } }
-- } }
pub one_gives_up_and_the_next_gets_the_token :
    text_after 2
    (limiter_of (codes "l") 1
    (nursery_of (codes "n")
    (start_of (codes "a") (acquire_of (codes "l") (sleep 3 ∷ []) ∷ [])
    ∷ start_of (codes "b") (sleep 1 ∷ timed_scope (codes "s") 1 (acquire_of (codes "l") [] ∷ []) ∷ [])
    ∷ start_of (codes "c") (sleep 2 ∷ acquire_of (codes "l") [] ∷ [])
    ∷ []) ∷ []) ∷ [])
    ≡ lines_of
    (codes "tick 0"
    ∷ codes "  main  starts"
    ∷ codes "  main  enters limiter l (1 token)"
    ∷ codes "  main  enters nursery n"
    ∷ codes "  main  waits for nursery n"
    ∷ codes "  a     starts in nursery n"
    ∷ codes "  b     starts in nursery n"
    ∷ codes "  b     sleeps until 1"
    ∷ codes "  c     starts in nursery n"
    ∷ codes "  c     sleeps until 2"
    ∷ codes "  a     gets a token of l at once"
    ∷ codes "  a     sleeps until 3"
    ∷ codes "tick 1"
    ∷ codes "  b     enters scope s (deadline 2)"
    ∷ codes "  b     waits for a token of l (1 of 1 in use, first in the queue)"
    ∷ codes "tick 2"
    ∷ codes "  b     is cancelled while waiting for a token of l since 1 by scope s (deadline)"
    ∷ codes "  b     leaves scope s: cancellation caught"
    ∷ codes "  b     ends: done"
    ∷ codes "  c     waits for a token of l (1 of 1 in use, first in the queue)"
    ∷ codes "tick 3"
    ∷ codes "  a     gives its token of l back"
    ∷ codes "  a     ends: done"
    ∷ codes "  c     gets a token of l (given back by a)"
    ∷ codes "  c     gives its token of l back"
    ∷ codes "  c     ends: done"
    ∷ codes "  main  leaves nursery n: completed"
    ∷ codes "  main  ends: done"
    ∷ [])
unfolding text_after digits
one_gives_up_and_the_next_gets_the_token = refl

-- channel q 0 { nursery n {
--   start r { try { receive q { } } except EndOfChannel { } }
--   start s { sleep 1; close q; send q; }
-- } }
pub a_channel_is_closed :
    text_after 2
    (channel_of (codes "q") 0
    (nursery_of (codes "n")
    (start_of (codes "r") (try_except (receive_from (codes "q") [] ∷ []) (codes "EndOfChannel") [] ∷ [])
    ∷ start_of (codes "s") (sleep 1 ∷ close_channel (codes "q") ∷ send_to (codes "q") ∷ [])
    ∷ []) ∷ []) ∷ [])
    ≡ lines_of
    (codes "tick 0"
    ∷ codes "  main  starts"
    ∷ codes "  main  enters channel q (0 places)"
    ∷ codes "  main  enters nursery n"
    ∷ codes "  main  waits for nursery n"
    ∷ codes "  r     starts in nursery n"
    ∷ codes "  r     waits to receive from q (empty)"
    ∷ codes "  s     starts in nursery n"
    ∷ codes "  s     sleeps until 1"
    ∷ codes "tick 1"
    ∷ codes "  s     closes q"
    ∷ codes "  r     finds q closed and empty (closed by s)"
    ∷ codes "  r     handles EndOfChannel(r@1)"
    ∷ codes "  r     ends: done"
    ∷ codes "  s     finds q closed (closed by s)"
    ∷ codes "  s     ends: raised ClosedResource(s@1); nursery n is cancelled from 1"
    ∷ codes "  main  leaves nursery n: n[ClosedResource(s@1)] propagates"
    ∷ codes "  main  ends: raised n[ClosedResource(s@1)]"
    ∷ [])
unfolding text_after digits
a_channel_is_closed = refl

-- the story up to a limit
unfoldable pub text_to : ℕ → ℕ → List Step → List ℕ
unfolding walk_with granted_after tell then_tale tell_sleep tell_lines tell_need tell_raise tell_cancel tell_set tell_event_wait tell_ask with_token_told tell_close tell_object tell_block tell_event tell_wait tell_gathered tell_child tell_handled tell_cleaned tale_by
text_to limit n ss =
    let grants = granted_after n ss in
    story_to (record { cancelled_from = table_of (walk_with grants ss).log; granted = grants }) limit
    (record { format = Three; name = codes "main"; steps = block_of ss }) []

-- limiter a 1 { limiter b 1 { nursery n {
--   start left { acquire a { sleep 1; acquire b { } } }
--   start right { acquire b { sleep 2; acquire a { } } }
-- } } }
pub two_tasks_wait_for_one_another :
    text_to 100 2
    (limiter_of (codes "a") 1
    (limiter_of (codes "b") 1
    (nursery_of (codes "n")
    (start_of (codes "left") (acquire_of (codes "a") (sleep 1 ∷ acquire_of (codes "b") [] ∷ []) ∷ [])
    ∷ start_of (codes "right") (acquire_of (codes "b") (sleep 2 ∷ acquire_of (codes "a") [] ∷ []) ∷ [])
    ∷ []) ∷ []) ∷ []) ∷ [])
    ≡ lines_of
    (codes "tick 0"
    ∷ codes "  main   starts"
    ∷ codes "  main   enters limiter a (1 token)"
    ∷ codes "  main   enters limiter b (1 token)"
    ∷ codes "  main   enters nursery n"
    ∷ codes "  main   waits for nursery n"
    ∷ codes "  left   starts in nursery n"
    ∷ codes "  right  starts in nursery n"
    ∷ codes "  left   gets a token of a at once"
    ∷ codes "  left   sleeps until 1"
    ∷ codes "  right  gets a token of b at once"
    ∷ codes "  right  sleeps until 2"
    ∷ codes "tick 1"
    ∷ codes "  left   waits for a token of b (1 of 1 in use, first in the queue)"
    ∷ codes "tick 2"
    ∷ codes "  right  waits for a token of a (1 of 1 in use, first in the queue)"
    ∷ codes "limit 100"
    ∷ codes "  main   waiting for nursery n since 0"
    ∷ codes "  left   waiting for a token of b since 1"
    ∷ codes "  right  waiting for a token of a since 2"
    ∷ codes "deadlock: left holds a and waits for b; right holds b and waits for a"
    ∷ [])
unfolding text_to digits most_in_cycle
two_tasks_wait_for_one_another = refl

-- limiter l 1 { nursery n {
--   start a { acquire l { sleep 4; } }
--   start b { scope s after 2 { acquire l { } } }
--   start c { acquire l { } }
--   start d { sleep 3; acquire l { } }
-- } }
pub places_in_a_queue :
    text_after 3
    (limiter_of (codes "l") 1
    (nursery_of (codes "n")
    (start_of (codes "a") (acquire_of (codes "l") (sleep 4 ∷ []) ∷ [])
    ∷ start_of (codes "b") (timed_scope (codes "s") 2 (acquire_of (codes "l") [] ∷ []) ∷ [])
    ∷ start_of (codes "c") (acquire_of (codes "l") [] ∷ [])
    ∷ start_of (codes "d") (sleep 3 ∷ acquire_of (codes "l") [] ∷ [])
    ∷ []) ∷ []) ∷ [])
    ≡ lines_of
    (codes "tick 0"
    ∷ codes "  main  starts"
    ∷ codes "  main  enters limiter l (1 token)"
    ∷ codes "  main  enters nursery n"
    ∷ codes "  main  waits for nursery n"
    ∷ codes "  a     starts in nursery n"
    ∷ codes "  b     starts in nursery n"
    ∷ codes "  b     enters scope s (deadline 2)"
    ∷ codes "  b     waits for a token of l (1 of 1 in use, first in the queue)"
    ∷ codes "  c     starts in nursery n"
    ∷ codes "  c     waits for a token of l (1 of 1 in use, second in the queue)"
    ∷ codes "  d     starts in nursery n"
    ∷ codes "  d     sleeps until 3"
    ∷ codes "  a     gets a token of l at once"
    ∷ codes "  a     sleeps until 4"
    ∷ codes "tick 2"
    ∷ codes "  b     is cancelled while waiting for a token of l since 0 by scope s (deadline)"
    ∷ codes "  b     leaves scope s: cancellation caught"
    ∷ codes "  b     ends: done"
    ∷ codes "tick 3"
    ∷ codes "  d     waits for a token of l (1 of 1 in use, second in the queue)"
    ∷ codes "tick 4"
    ∷ codes "  a     gives its token of l back"
    ∷ codes "  a     ends: done"
    ∷ codes "  c     gets a token of l (given back by a)"
    ∷ codes "  c     gives its token of l back"
    ∷ codes "  c     ends: done"
    ∷ codes "  d     gets a token of l (given back by c)"
    ∷ codes "  d     gives its token of l back"
    ∷ codes "  d     ends: done"
    ∷ codes "  main  leaves nursery n: completed"
    ∷ codes "  main  ends: done"
    ∷ [])
unfolding text_after digits
places_in_a_queue = refl

-- channel q 1 { nursery n {
--   start p { send q; send q; send q; close q; }
--   start r over 2 { sleep 1; receive q { } receive q { } }
-- } }
pub parts_are_sent_and_received :
    text_after 5
    (channel_of (codes "q") 1
    (nursery_of (codes "n")
    (start_of (codes "p") (send_to (codes "q") ∷ send_to (codes "q") ∷ [])
    ∷ start_of (codes "s") (send_to (codes "q") ∷ [])
    ∷ start_of (codes "r") (sleep 1 ∷ receive_from (codes "q") [] ∷ receive_from (codes "q") [] ∷ receive_from (codes "q") [] ∷ [])
    ∷ []) ∷ []) ∷ [])
    ≡ lines_of
    (codes "tick 0"
    ∷ codes "  main  starts"
    ∷ codes "  main  enters channel q (1 place)"
    ∷ codes "  main  enters nursery n"
    ∷ codes "  main  waits for nursery n"
    ∷ codes "  p     starts in nursery n"
    ∷ codes "  s     starts in nursery n"
    ∷ codes "  s     waits to send to q (full)"
    ∷ codes "  r     starts in nursery n"
    ∷ codes "  r     sleeps until 1"
    ∷ codes "  p     sends to q"
    ∷ codes "  p     waits to send to q (full, second in the queue)"
    ∷ codes "tick 1"
    ∷ codes "  s     sends to q"
    ∷ codes "  s     ends: done"
    ∷ codes "  r     receives from q (sent by p)"
    ∷ codes "  p     sends to q"
    ∷ codes "  p     ends: done"
    ∷ codes "  r     receives from q (sent by s)"
    ∷ codes "  r     receives from q (sent by p)"
    ∷ codes "  r     ends: done"
    ∷ codes "  main  leaves nursery n: completed"
    ∷ codes "  main  ends: done"
    ∷ [])
unfolding text_after digits
parts_are_sent_and_received = refl
