-- Worked stories, proved by computing: which task cancels which, and attempts that are too slow.
use Rattle.std.specs.Prelude.{◌≡◌, [], ◌∷◌, codes, refl}
use Rattle.std.specs.Fmt.{digits}
use Rattle.job_tree.specs.Tree.{sleep, find, raise, cancel, Tree}
use Rattle.job_meaning.specs.Examples.{repeat_of, nursery_of, start_of, timed_scope, fail_scope, try_except}
use Rattle.job_story.specs.Examples.{job_named, lines_of, text_of_story}

-- job hedge { nursery replicas {
--   start replica_a { sleep 12; find "200"; cancel replicas; }
--   start replica_b { sleep 3; sleep 4; find "200"; cancel replicas; }
-- } }
abbrev pub hedge : Tree
hedge =
    job_named (codes "hedge")
    (nursery_of (codes "replicas")
    (start_of (codes "replica_a") (sleep 12 ∷ find (codes "200") ∷ cancel (codes "replicas") ∷ [])
    ∷ start_of (codes "replica_b") (sleep 3 ∷ sleep 4 ∷ find (codes "200") ∷ cancel (codes "replicas") ∷ [])
    ∷ []) ∷ [])

pub the_first_answer_cancels :
    text_of_story hedge
    (lines_of (codes "GET /a 200" ∷ codes "GET /b 503" ∷ []))
    ≡ lines_of
    (codes "tick 0"
    ∷ codes "  hedge      starts"
    ∷ codes "  hedge      enters nursery replicas"
    ∷ codes "  replica_a  starts in nursery replicas"
    ∷ codes "  replica_a  sleeps until 12"
    ∷ codes "  replica_b  starts in nursery replicas"
    ∷ codes "  replica_b  sleeps until 3"
    ∷ codes "  hedge      waits for nursery replicas"
    ∷ codes "tick 3"
    ∷ codes "  replica_b  sleeps until 7"
    ∷ codes "tick 7"
    ∷ codes "  replica_b  finds 1 line"
    ∷ codes "  replica_b  cancels nursery replicas from 8"
    ∷ codes "  replica_b  ends: done"
    ∷ codes "tick 8"
    ∷ codes "  replica_a  is cancelled while sleeping since 0 by nursery replicas (cancelled by replica_b at 7)"
    ∷ codes "  replica_a  ends: cancelled"
    ∷ codes "  hedge      leaves nursery replicas: cancellation caught"
    ∷ codes "  hedge      ends: done"
    ∷ [])
unfolding text_of_story digits
the_first_answer_cancels = refl

-- job race {
--   nursery calls {
--     start stop { sleep 5; cancel calls; }
--     start answer { sleep 5; find "GET"; }
--     start late { sleep 6; find "GET"; }
--   }
--   scope limit after 5 { sleep 5; find "GET"; }
-- }
abbrev pub race : Tree
race =
    job_named (codes "race")
    (nursery_of (codes "calls")
    (start_of (codes "stop") (sleep 5 ∷ cancel (codes "calls") ∷ [])
    ∷ start_of (codes "answer") (sleep 5 ∷ find (codes "GET") ∷ [])
    ∷ start_of (codes "late") (sleep 6 ∷ find (codes "GET") ∷ [])
    ∷ []) ∷ timed_scope (codes "limit") 5 (sleep 5 ∷ find (codes "GET") ∷ []) ∷ [])

pub a_cancellation_is_seen_a_tick_later :
    text_of_story race
    (lines_of (codes "GET /a" ∷ codes "PUT /b" ∷ []))
    ≡ lines_of
    (codes "tick 0"
    ∷ codes "  race    starts"
    ∷ codes "  race    enters nursery calls"
    ∷ codes "  stop    starts in nursery calls"
    ∷ codes "  stop    sleeps until 5"
    ∷ codes "  answer  starts in nursery calls"
    ∷ codes "  answer  sleeps until 5"
    ∷ codes "  late    starts in nursery calls"
    ∷ codes "  late    sleeps until 6"
    ∷ codes "  race    waits for nursery calls"
    ∷ codes "tick 5"
    ∷ codes "  stop    cancels nursery calls from 6"
    ∷ codes "  stop    ends: done"
    ∷ codes "  answer  finds 1 line"
    ∷ codes "  answer  ends: done"
    ∷ codes "tick 6"
    ∷ codes "  late    is cancelled while sleeping since 0 by nursery calls (cancelled by stop at 5)"
    ∷ codes "  late    ends: cancelled"
    ∷ codes "  race    leaves nursery calls: cancellation caught"
    ∷ codes "  race    enters scope limit (deadline 11)"
    ∷ codes "  race    sleeps until 11"
    ∷ codes "tick 11"
    ∷ codes "  race    is cancelled while sleeping since 6 by scope limit (deadline)"
    ∷ codes "  race    leaves scope limit: cancellation caught"
    ∷ codes "  race    ends: done"
    ∷ [])
unfolding text_of_story digits
a_cancellation_is_seen_a_tick_later = refl

-- job retry { scope budget after 20 fail {
--   try {
--     repeat 5 {
--       try { scope attempt after 4 fail { sleep 9; find "GET"; } raise Answered; } except TooSlow { sleep 2; }
--     }
--   } except Answered { }
-- } }
abbrev pub retry : Tree
retry =
    job_named (codes "retry")
    (fail_scope (codes "budget") 20
    (try_except
    (repeat_of 5
    (try_except
    (fail_scope (codes "attempt") 4 (sleep 9 ∷ find (codes "GET") ∷ []) ∷ raise (codes "Answered") ∷ [])
    (codes "TooSlow") (sleep 2 ∷ []) ∷ []) ∷ [])
    (codes "Answered") [] ∷ []) ∷ [])

pub a_budget_is_spent :
    text_of_story retry
    (lines_of (codes "GET /a" ∷ []))
    ≡ lines_of
    (codes "tick 0"
    ∷ codes "  retry  starts"
    ∷ codes "  retry  enters scope budget (deadline 20)"
    ∷ codes "  retry  enters scope attempt.0 (deadline 4)"
    ∷ codes "  retry  sleeps until 9"
    ∷ codes "tick 4"
    ∷ codes "  retry  is cancelled while sleeping since 0 by scope attempt.0 (deadline)"
    ∷ codes "  retry  leaves scope attempt.0: cancellation caught, raises TooSlow(attempt.0@4)"
    ∷ codes "  retry  handles TooSlow(attempt.0@4)"
    ∷ codes "  retry  sleeps until 6"
    ∷ codes "tick 6"
    ∷ codes "  retry  enters scope attempt.1 (deadline 10)"
    ∷ codes "  retry  sleeps until 15"
    ∷ codes "tick 10"
    ∷ codes "  retry  is cancelled while sleeping since 6 by scope attempt.1 (deadline)"
    ∷ codes "  retry  leaves scope attempt.1: cancellation caught, raises TooSlow(attempt.1@10)"
    ∷ codes "  retry  handles TooSlow(attempt.1@10)"
    ∷ codes "  retry  sleeps until 12"
    ∷ codes "tick 12"
    ∷ codes "  retry  enters scope attempt.2 (deadline 16)"
    ∷ codes "  retry  sleeps until 21"
    ∷ codes "tick 16"
    ∷ codes "  retry  is cancelled while sleeping since 12 by scope attempt.2 (deadline)"
    ∷ codes "  retry  leaves scope attempt.2: cancellation caught, raises TooSlow(attempt.2@16)"
    ∷ codes "  retry  handles TooSlow(attempt.2@16)"
    ∷ codes "  retry  sleeps until 18"
    ∷ codes "tick 18"
    ∷ codes "  retry  enters scope attempt.3 (deadline 22)"
    ∷ codes "  retry  sleeps until 27"
    ∷ codes "tick 20"
    ∷ codes "  retry  is cancelled while sleeping since 18 by scope budget (deadline)"
    ∷ codes "  retry  leaves scope attempt.3: Cancelled propagates"
    ∷ codes "  retry  leaves scope budget: cancellation caught, raises TooSlow(budget@20)"
    ∷ codes "  retry  ends: raised TooSlow(budget@20)"
    ∷ [])
unfolding text_of_story digits
a_budget_is_spent = refl
