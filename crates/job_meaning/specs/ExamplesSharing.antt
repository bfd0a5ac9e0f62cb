-- Worked examples of limiters and channels, each a theorem by computing. The expected records were worked out by hand.
use Rattle.std.specs.Prelude.{◌≡◌, ℕ, zero, suc, None, Some, List, [], ◌∷◌, refl, codes}
use Rattle.job_tree.specs.Tree.{Step, sleep, forever, cancel, ask_for, close_channel, object}
use Rattle.job_tree.specs.declared.object.Ask.TheVariants.{Acquire, Send, Receive}
use Rattle.job_tree.specs.declared.object.ObjectKind.TheVariants.{Limiter, Channel}
use Rattle.job_meaning.specs.Log.{Result, nil, task}
use Rattle.job_meaning.specs.Sharing.{Grants, no_grants, grants_of}
use Rattle.job_meaning.specs.Moments.{only_at}
use Rattle.job_meaning.specs.declared.clock.Clock.TheVariants.{ByRounds as by_rounds}
use Rattle.job_meaning.specs.Walk.{two_walks, no_stack, walk, and_then, sleep_result, pace_result, lines_result, raise_result, need_result, cancel_result, set_result, event_wait, close_result, with_token_back, ask_result, block, event_block, with_sign, nursery_result, child, handler_result, cleanup_result}
use Rattle.job_meaning.specs.Meaning.{Record, records_of}
use Rattle.job_meaning.specs.Examples.{block_of, timed_scope, nursery_of, start_of, label_named, raised_by, group_by, scope_caught, nursery_caught, nursery_passed, got, record_of, main_ran}

-- limiter NAME N { .. }, channel NAME N { .. }
abbrev pub limiter_of : List ℕ → ℕ → List Step → Step
limiter_of name tokens ss = object name (Limiter tokens) (block_of ss)

abbrev pub channel_of : List ℕ → ℕ → List Step → Step
channel_of name places ss = object name (Channel places) (block_of ss)

-- acquire NAME { .. }, send NAME;, receive NAME { .. }
abbrev pub acquire_of : List ℕ → List Step → Step
acquire_of name ss = ask_for name Acquire (block_of ss)

abbrev pub send_to : List ℕ → Step
send_to name = ask_for name Send (block_of [])

abbrev pub receive_from : List ℕ → List Step → Step
receive_from name ss = ask_for name Receive (block_of ss)

-- the walk of the steps of a job without input, by what limiters and channels grant
unfoldable pub walk_with : Grants → List Step → Result
unfolding walk and_then sleep_result pace_result lines_result raise_result need_result cancel_result set_result event_wait close_result with_token_back ask_result block event_block with_sign nursery_result child handler_result cleanup_result
walk_with grants ss =
    walk (two_walks grants) (block_of ss)
    (record { clock = by_rounds; input = []; part = record { from = 0; to = 0 }; task = label_named (codes "main"); path = [] }) no_stack (only_at 0)

-- what is granted after some walks, each by what was granted in the one before
unfoldable pub granted_after : ℕ → List Step → Grants
unfolding walk_with
granted_after zero ss = no_grants
granted_after (suc n) ss =
    let r = walk_with (granted_after n ss) ss in grants_of (task (label_named (codes "main")) 0 r.end r.exc r.log nil)

-- the records after so many walks
unfoldable pub records_after : ℕ → List Step → List Record
unfolding granted_after
records_after n ss =
    let r = walk_with (granted_after n ss) ss in records_of by_rounds (task (label_named (codes "main")) 0 r.end r.exc r.log nil)

-- limiter l 1 { nursery n { cancel n; acquire l { } } }
pub its_own_cancel_and_a_token :
    records_after 1 (limiter_of (codes "l") 1 (nursery_of (codes "n") (cancel (codes "n") ∷ acquire_of (codes "l") [] ∷ []) ∷ []) ∷ [])
    ≡ main_ran 0 0 None (nursery_caught (codes "n") 0 ∷ []) ∷ []
unfolding records_after
its_own_cancel_and_a_token = refl

-- limiter l 1 { acquire l { sleep 1; } acquire l { } }
pub a_token_comes_back :
    records_after 2 (limiter_of (codes "l") 1 (acquire_of (codes "l") (sleep 1 ∷ []) ∷ acquire_of (codes "l") [] ∷ []) ∷ [])
    ≡ main_ran 0 1 None (got Acquire (codes "l") 0 ∷ got Acquire (codes "l") 1 ∷ []) ∷ []
unfolding records_after
a_token_comes_back = refl

-- limiter l 1 { nursery n { start a { scope s after 2 { acquire l { forever; } } } start b { sleep 1; acquire l { sleep 1; } } } }
pub cancelled_holder_gives_its_token_back :
    records_after 2
    (limiter_of (codes "l") 1
    (nursery_of (codes "n")
    (start_of (codes "a") (timed_scope (codes "s") 2 (acquire_of (codes "l") (forever ∷ []) ∷ []) ∷ [])
    ∷ start_of (codes "b") (sleep 1 ∷ acquire_of (codes "l") (sleep 1 ∷ []) ∷ [])
    ∷ [])
    ∷ [])
    ∷ [])
    ≡ main_ran 0 3 None (nursery_passed (codes "n") 3 ∷ [])
    ∷ record_of (label_named (codes "a")) 0 2 None (got Acquire (codes "l") 0 ∷ scope_caught (codes "s") 2 ∷ [])
    ∷ record_of (label_named (codes "b")) 0 3 None (got Acquire (codes "l") 2 ∷ [])
    ∷ []
unfolding records_after
cancelled_holder_gives_its_token_back = refl

-- channel q 0 { nursery n { start s { send q; sleep 1; } start r { sleep 5; receive q { } } } }
pub rendezvous :
    records_after 2
    (channel_of (codes "q") 0
    (nursery_of (codes "n")
    (start_of (codes "s") (send_to (codes "q") ∷ sleep 1 ∷ []) ∷ start_of (codes "r") (sleep 5 ∷ receive_from (codes "q") [] ∷ []) ∷ []) ∷ [])
    ∷ [])
    ≡ main_ran 0 6 None (nursery_passed (codes "n") 6 ∷ [])
    ∷ record_of (label_named (codes "s")) 0 6 None (got Send (codes "q") 5 ∷ [])
    ∷ record_of (label_named (codes "r")) 0 5 None (got Receive (codes "q") 5 ∷ [])
    ∷ []
unfolding records_after
rendezvous = refl

-- channel q 0 { nursery n { start r { receive q { } } start s { sleep 1; close q; } } }
pub closed_while_a_receiver_waits :
    records_after 2
    (channel_of (codes "q") 0
    (nursery_of (codes "n")
    (start_of (codes "r") (receive_from (codes "q") [] ∷ []) ∷ start_of (codes "s") (sleep 1 ∷ close_channel (codes "q") ∷ []) ∷ []) ∷ [])
    ∷ [])
    ≡ main_ran 0 1 (Some (group_by (codes "n") (raised_by (codes "EndOfChannel") (codes "r") 1 ∷ []))) (nursery_passed (codes "n") 1 ∷ [])
    ∷ record_of (label_named (codes "r")) 0 1 (Some (raised_by (codes "EndOfChannel") (codes "r") 1)) []
    ∷ record_of (label_named (codes "s")) 0 1 None []
    ∷ []
unfolding records_after
closed_while_a_receiver_waits = refl
