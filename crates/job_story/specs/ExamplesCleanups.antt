-- Worked stories, proved by computing: cleanups with and without a shield, and shields with deadlines.
use Rattle.std.specs.Prelude.{◌≡◌, [], ◌∷◌, codes, refl}
use Rattle.std.specs.Fmt.{digits}
use Rattle.job_tree.specs.Tree.{sleep, forever, find, Tree}
use Rattle.job_meaning.specs.Examples.{nursery_of, start_of, timed_scope, shielded_scope, timed_shield, try_finally}
use Rattle.job_story.specs.Examples.{job_named, lines_of, text_of_story}

-- job cleanup { scope stop after 5 { nursery writers {
--   start journal { try { forever; } finally { scope closing shield { find "journal: flush"; sleep 3; find "journal: close"; } } }
--   start cache { try { forever; } finally { find "cache: flush"; sleep 3; find "cache: close"; } }
-- } } }
abbrev pub cleanup : Tree
cleanup =
    job_named (codes "cleanup")
    (timed_scope (codes "stop") 5
    (nursery_of (codes "writers")
    (start_of (codes "journal")
    (try_finally (forever ∷ [])
    (shielded_scope (codes "closing") (find (codes "journal: flush") ∷ sleep 3 ∷ find (codes "journal: close") ∷ []) ∷ []) ∷ [])
    ∷ start_of (codes "cache")
    (try_finally (forever ∷ []) (find (codes "cache: flush") ∷ sleep 3 ∷ find (codes "cache: close") ∷ []) ∷ [])
    ∷ []) ∷ []) ∷ [])

pub a_cleanup_is_cut :
    text_of_story cleanup
    (lines_of (codes "journal: flush" ∷ codes "journal: close" ∷ codes "cache: flush" ∷ codes "cache: close" ∷ []))
    ≡ lines_of
    (codes "tick 0"
    ∷ codes "  cleanup  starts"
    ∷ codes "  cleanup  enters scope stop (deadline 5)"
    ∷ codes "  cleanup  enters nursery writers"
    ∷ codes "  journal  starts in nursery writers"
    ∷ codes "  journal  sleeps forever"
    ∷ codes "  cache    starts in nursery writers"
    ∷ codes "  cache    sleeps forever"
    ∷ codes "  cleanup  waits for nursery writers"
    ∷ codes "tick 5"
    ∷ codes "  journal  is cancelled while sleeping since 0 by scope stop (deadline)"
    ∷ codes "  journal  runs cleanup after Cancelled"
    ∷ codes "  journal  enters scope closing (shielded)"
    ∷ codes "  journal  finds 1 line"
    ∷ codes "  journal  sleeps until 8"
    ∷ codes "  cache    is cancelled while sleeping since 0 by scope stop (deadline)"
    ∷ codes "  cache    runs cleanup after Cancelled"
    ∷ codes "  cache    finds 1 line"
    ∷ codes "  cache    is cancelled during cleanup at a checkpoint by scope stop (deadline)"
    ∷ codes "  cache    replaces Cancelled with Cancelled"
    ∷ codes "  cache    ends: cancelled"
    ∷ codes "tick 8"
    ∷ codes "  journal  finds 1 line"
    ∷ codes "  journal  leaves scope closing: completed"
    ∷ codes "  journal  ends: cancelled"
    ∷ codes "  cleanup  leaves nursery writers: writers[Cancelled, Cancelled] propagates"
    ∷ codes "  cleanup  leaves scope stop: cancellation caught"
    ∷ codes "  cleanup  ends: done"
    ∷ [])
unfolding text_of_story digits
a_cleanup_is_cut = refl

-- job shutdown { scope serving after 6 { nursery workers {
--   start upload { try { forever; } finally { scope drain_upload after 5 shield { sleep 3; find "PUT"; } } }
--   start query { try { forever; } finally { scope drain_query after 5 shield {
--     sleep 4; find "GET /b"; sleep 4; find "GET /d";
--   } } }
-- } } find "EXIT"; }
abbrev pub shutdown : Tree
shutdown =
    job_named (codes "shutdown")
    (timed_scope (codes "serving") 6
    (nursery_of (codes "workers")
    (start_of (codes "upload")
    (try_finally (forever ∷ []) (timed_shield (codes "drain_upload") 5 (sleep 3 ∷ find (codes "PUT") ∷ []) ∷ []) ∷ [])
    ∷ start_of (codes "query")
    (try_finally (forever ∷ [])
    (timed_shield (codes "drain_query") 5 (sleep 4 ∷ find (codes "GET /b") ∷ sleep 4 ∷ find (codes "GET /d") ∷ []) ∷ []) ∷ [])
    ∷ []) ∷ []) ∷ find (codes "EXIT") ∷ [])

pub a_shield_has_a_deadline :
    text_of_story shutdown
    (lines_of (codes "PUT /a" ∷ codes "GET /b" ∷ codes "PUT /c" ∷ codes "GET /d" ∷ codes "EXIT" ∷ []))
    ≡ lines_of
    (codes "tick 0"
    ∷ codes "  shutdown  starts"
    ∷ codes "  shutdown  enters scope serving (deadline 6)"
    ∷ codes "  shutdown  enters nursery workers"
    ∷ codes "  upload    starts in nursery workers"
    ∷ codes "  upload    sleeps forever"
    ∷ codes "  query     starts in nursery workers"
    ∷ codes "  query     sleeps forever"
    ∷ codes "  shutdown  waits for nursery workers"
    ∷ codes "tick 6"
    ∷ codes "  upload    is cancelled while sleeping since 0 by scope serving (deadline)"
    ∷ codes "  upload    runs cleanup after Cancelled"
    ∷ codes "  upload    enters scope drain_upload (deadline 11, shielded)"
    ∷ codes "  upload    sleeps until 9"
    ∷ codes "  query     is cancelled while sleeping since 0 by scope serving (deadline)"
    ∷ codes "  query     runs cleanup after Cancelled"
    ∷ codes "  query     enters scope drain_query (deadline 11, shielded)"
    ∷ codes "  query     sleeps until 10"
    ∷ codes "tick 9"
    ∷ codes "  upload    finds 2 lines"
    ∷ codes "  upload    leaves scope drain_upload: completed"
    ∷ codes "  upload    ends: cancelled"
    ∷ codes "tick 10"
    ∷ codes "  query     finds 1 line"
    ∷ codes "  query     sleeps until 14"
    ∷ codes "tick 11"
    ∷ codes "  query     is cancelled during cleanup while sleeping since 10 by scope drain_query (deadline)"
    ∷ codes "  query     leaves scope drain_query: cancellation caught"
    ∷ codes "  query     ends: cancelled"
    ∷ codes "  shutdown  leaves nursery workers: workers[Cancelled, Cancelled] propagates"
    ∷ codes "  shutdown  leaves scope serving: cancellation caught"
    ∷ codes "  shutdown  finds 1 line"
    ∷ codes "  shutdown  ends: done"
    ∷ [])
unfolding text_of_story digits
a_shield_has_a_deadline = refl
