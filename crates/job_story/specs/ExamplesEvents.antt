-- Worked stories with events, proved by computing: readiness, a waiter that is cancelled, an event that is set already, and a wait that
-- does not end by a limit.
use Rattle.std.specs.Prelude.{◌≡◌, ℕ, false, List, [], ◌∷◌, codes, refl}
use Rattle.std.specs.Fmt.{digits}
use Rattle.job_tree.specs.declared.deadline.Deadline.TheVariants.{After}
use Rattle.job_tree.specs.declared.format.Format.TheVariants.{Three}
use Rattle.job_tree.specs.Tree.{Step, sleep, set_event, wait_for, nursery, Tree}
use Rattle.job_meaning.specs.Examples.{block_of, event_of, nursery_of, start_of, start_over}
use Rattle.job_story.specs.Examples.{lines_of, text_of_story}
use Rattle.job_story.specs.Deadlock.{most_in_cycle}
use Rattle.job_story.specs.ExamplesLimit.{text_of_story_to}

-- a job of format 3 with this name
abbrev pub job_by_rounds : List ℕ → List Step → Tree
job_by_rounds name ss = record { format = Three; name = name; steps = block_of ss }

-- job main { event up { nursery n {
--   start server { sleep 3; set up; sleep 2; }
--   start client over 2 { wait up; sleep 1; }
-- } } }
abbrev pub ready : Tree
ready =
    job_by_rounds (codes "main")
    (event_of (codes "up")
    (nursery_of (codes "n")
    (start_of (codes "server") (sleep 3 ∷ set_event (codes "up") ∷ sleep 2 ∷ [])
    ∷ start_over (codes "client") 2 (wait_for (codes "up") ∷ sleep 1 ∷ [])
    ∷ [])
    ∷ [])
    ∷ [])

pub readiness :
    text_of_story ready []
    ≡ lines_of
    (codes "tick 0"
    ∷ codes "  main      starts"
    ∷ codes "  main      enters event up"
    ∷ codes "  main      enters nursery n"
    ∷ codes "  main      waits for nursery n"
    ∷ codes "  server    starts in nursery n"
    ∷ codes "  server    sleeps until 3"
    ∷ codes "  client.0  starts in nursery n"
    ∷ codes "  client.0  waits for event up"
    ∷ codes "  client.1  starts in nursery n"
    ∷ codes "  client.1  waits for event up"
    ∷ codes "tick 3"
    ∷ codes "  server    sets event up"
    ∷ codes "  server    sleeps until 5"
    ∷ codes "  client.0  goes on: event up was set"
    ∷ codes "  client.0  sleeps until 4"
    ∷ codes "  client.1  goes on: event up was set"
    ∷ codes "  client.1  sleeps until 4"
    ∷ codes "tick 4"
    ∷ codes "  client.0  ends: done"
    ∷ codes "  client.1  ends: done"
    ∷ codes "tick 5"
    ∷ codes "  server    ends: done"
    ∷ codes "  main      leaves nursery n: completed"
    ∷ codes "  main      ends: done"
    ∷ [])
unfolding text_of_story digits
readiness = refl

-- job main { event e { nursery n after 2 { start a { wait e; } } } }
abbrev pub cut_short : Tree
cut_short =
    job_by_rounds (codes "main")
    (event_of (codes "e") (nursery (codes "n") (After 2) false (block_of (start_of (codes "a") (wait_for (codes "e") ∷ []) ∷ [])) ∷ []) ∷ [])

pub the_waiter_is_cancelled :
    text_of_story cut_short []
    ≡ lines_of
    (codes "tick 0"
    ∷ codes "  main  starts"
    ∷ codes "  main  enters event e"
    ∷ codes "  main  enters nursery n (deadline 2)"
    ∷ codes "  main  waits for nursery n"
    ∷ codes "  a     starts in nursery n"
    ∷ codes "  a     waits for event e"
    ∷ codes "tick 2"
    ∷ codes "  a     is cancelled while waiting for event e since 0 by nursery n (deadline)"
    ∷ codes "  a     ends: cancelled"
    ∷ codes "  main  leaves nursery n: cancellation caught"
    ∷ codes "  main  ends: done"
    ∷ [])
unfolding text_of_story digits
the_waiter_is_cancelled = refl

-- job main { event e { set e; wait e; set e; sleep 1; wait e; } }
abbrev pub set_first : Tree
set_first =
    job_by_rounds (codes "main")
    (event_of (codes "e")
    (set_event (codes "e") ∷ wait_for (codes "e") ∷ set_event (codes "e") ∷ sleep 1 ∷ wait_for (codes "e") ∷ [])
    ∷ [])

pub it_is_set_already :
    text_of_story set_first []
    ≡ lines_of
    (codes "tick 0"
    ∷ codes "  main  starts"
    ∷ codes "  main  enters event e"
    ∷ codes "  main  sets event e"
    ∷ codes "  main  goes on: event e was set"
    ∷ codes "  main  sets event e, which is set already"
    ∷ codes "  main  sleeps until 1"
    ∷ codes "tick 1"
    ∷ codes "  main  goes on: event e was set"
    ∷ codes "  main  ends: done"
    ∷ [])
unfolding text_of_story digits
it_is_set_already = refl

-- job main { event e { nursery n { start a { wait e; } start b { sleep 5; } } } }
abbrev pub stuck : Tree
stuck =
    job_by_rounds (codes "main")
    (event_of (codes "e")
    (nursery_of (codes "n") (start_of (codes "a") (wait_for (codes "e") ∷ []) ∷ start_of (codes "b") (sleep 5 ∷ []) ∷ []) ∷ [])
    ∷ [])

pub nobody_sets_it :
    text_of_story_to 100 stuck []
    ≡ lines_of
    (codes "tick 0"
    ∷ codes "  main  starts"
    ∷ codes "  main  enters event e"
    ∷ codes "  main  enters nursery n"
    ∷ codes "  main  waits for nursery n"
    ∷ codes "  a     starts in nursery n"
    ∷ codes "  a     waits for event e"
    ∷ codes "  b     starts in nursery n"
    ∷ codes "  b     sleeps until 5"
    ∷ codes "tick 5"
    ∷ codes "  b     ends: done"
    ∷ codes "limit 100"
    ∷ codes "  main  waiting for nursery n since 0"
    ∷ codes "  a     waiting for event e since 0; nothing sets it"
    ∷ [])
unfolding text_of_story_to digits most_in_cycle
nobody_sets_it = refl
