-- Worked turns, each a theorem by computing.
use Rattle.std.specs.Prelude.{◌≡◌, ℕ, true, false, None, Some, List, [], ◌∷◌, refl, codes, length}
use Rattle.job_tree.specs.Tree.{Step, sleep, checkpoint, find, raise, cancel, set_event, wait_for, stop}
use Rattle.job_tree.specs.declared.object.Ask.TheVariants.{Acquire, Receive}
use Rattle.job_tree.specs.declared.object.ObjectKind.TheVariants.{Limiter}
use Rattle.exceptions.specs.Exceptions.{cancelled}
use Rattle.job_meaning.specs.Log.{Result, opens, asks, gives_back, nil, entry, sign, entered, Table, line, waited, scope_left, nursery_left, was_granted}
use Rattle.job_meaning.specs.Sharing.{a_token, a_part, no_grants}
use Rattle.job_meaning.specs.Moments.{only_at}
use Rattle.job_meaning.specs.declared.clock.Clock.TheVariants.{ByTicks as by_ticks, ByRounds as by_rounds}
use Rattle.job_meaning.specs.Walk.{by_table, walk, and_then, sleep_result, lines_result, need_result, cancel_result, block, with_sign, nursery_result, child, handler_result, cleanup_result, Here, here_in}
use Rattle.job_meaning.specs.Asking.{lines, missing, counted, shows, needs, paces}
use Rattle.job_meaning.specs.Asking as ask
use Rattle.job_meaning.specs.Rest.{Event, Rest, rest_at_start, task_comes_to, finish, noted, signs, enters, acts, starts, Frame, steps_left, in_scope, in_event, with_part, Stopped, to_begin, asking, asleep, waiting_for, queued, giving_up, awaiting, at_end}
use Rattle.job_meaning.specs.Examples.{block_of, event_of, scope_of, timed_scope, nursery_of, start_of, label_named, raised_by, group_by}
use Rattle.job_meaning.specs.ExamplesSharing.{limiter_of, acquire_of}
use Rattle.turn_semantics.specs.Midway.{no_outcomes, stack_at, Place, Move}
use Rattle.turn_semantics.specs.Steps.{step_of, turn_of}
use Rattle.turn_semantics.specs.Wakes.{Wake, begins, sees, is_due, has_answer, is_granted, settles, turn_from}

-- a task `main` on the whole of an input
abbrev pub main_at : List ℕ → Here
main_at input = record { clock = by_ticks; input = input; part = record { from = 0; to = length input }; task = label_named (codes "main"); path = [] }

-- no label is cancelled
abbrev pub never : Table
never l = None

-- an enclosing scope or nursery without a shield
abbrev pub place : List ℕ → Place
place name = record { label = label_named name; shield = false; is_event = false }

-- a first turn of `main`, of at most 20 steps, in tick 0 of a world in which nothing is cancelled
unfoldable pub first_turn : List Step → Move
unfolding turn_from turn_of step_of
first_turn ss = turn_from 20 never (only_at 0) (main_at []) begins to_begin (steps_left (block_of ss) ∷ []) [] 0

-- a turn from a stop of `main`, in a tick of a world with these moments of cancellation, with one child started before
unfoldable pub later_turn : Table → ℕ → List ℕ → Wake → Stopped → List Frame → List Place → Move
unfolding turn_from turn_of step_of
later_turn cancelled_from t input w s fs ps = turn_from 20 cancelled_from (only_at t) (main_at input) w s fs ps 1

-- nursery n { start c { checkpoint; } raise E; }: the body starts a child, fails, signs for its nursery, and waits
pub body_fails :
    first_turn (nursery_of (codes "n") (start_of (codes "c") (checkpoint ∷ []) ∷ raise (codes "E") ∷ []) ∷ [])
    ≡ record {
      frames = steps_left stop ∷ [];
      places = place (codes "n") ∷ [];
      exc = None;
      made =
          enters (label_named (codes "n")) 0 None
          ∷ starts 0 (label_named (codes "c")) 0
          ∷ signs (label_named (codes "n")) 0
          ∷ [];
      begun =
          record {
            number = 0;
            here = here_in (label_named (codes "c")) (record { from = 0; to = 0 }) (main_at []);
            places = place (codes "n") ∷ [];
            body = block_of (checkpoint ∷ []);
          }
          ∷ [];
      stopped = Some (awaiting (0 ∷ []) 0 (Some (raised_by (codes "E") (codes "main") 0)));
    }
unfolding first_turn
body_fails = refl

-- and when the child has ended in tick 1, cancelled, `main` leaves the nursery, which catches what was cancelled, and
-- ends
pub nursery_settles :
    later_turn (λ l. Some 1) 1 [] (settles (Some (group_by (codes "n") (raised_by (codes "E") (codes "main") 0 ∷ cancelled ∷ []))))
    (awaiting (0 ∷ []) 0 (Some (raised_by (codes "E") (codes "main") 0))) (steps_left stop ∷ []) (place (codes "n") ∷ [])
    ≡ record {
      frames = [];
      places = [];
      exc = None;
      made = noted 1 (nursery_left (label_named (codes "n")) true) ∷ [];
      begun = [];
      stopped = Some (at_end 1 (Some (group_by (codes "n") (raised_by (codes "E") (codes "main") 0 ∷ []))));
    }
unfolding later_turn
nursery_settles = refl

-- scope s { cancel s; sleep 3; }: a sign is made, which is not seen in its own tick, so the task sleeps
pub cancel_then_sleep :
    first_turn (scope_of (codes "s") (cancel (codes "s") ∷ sleep 3 ∷ []) ∷ [])
    ≡ record {
      frames = steps_left stop ∷ in_scope false ∷ steps_left stop ∷ [];
      places = place (codes "s") ∷ [];
      exc = None;
      made = enters (label_named (codes "s")) 0 None ∷ signs (label_named (codes "s")) 0 ∷ [];
      begun = [];
      stopped = Some (asleep false 3 0);
    }
unfolding first_turn
cancel_then_sleep = refl

-- scope s after 0 { checkpoint; } find "a";: the checkpoint raises, the scope catches, and a kernel is asked
pub caught_then_asks :
    first_turn (timed_scope (codes "s") 0 (checkpoint ∷ []) ∷ find (codes "a") ∷ [])
    ≡ record {
      frames = steps_left stop ∷ [];
      places = [];
      exc = None;
      made = enters (label_named (codes "s")) 0 (Some 0) ∷ noted 0 (scope_left (label_named (codes "s")) true) ∷ [];
      begun = [];
      stopped = Some (asking (ask.find (codes "a")) shows);
    }
unfolding first_turn
caught_then_asks = refl

-- the answer to `find` is noted, and the child that has no more to do ends
pub answer_is_noted :
    later_turn never 2 (codes "a") (has_answer (lines (record { at = 0; len = 1 } ∷ []))) (asking (ask.find (codes "a")) shows)
    (steps_left stop ∷ []) (place (codes "n") ∷ [])
    ≡ record {
      frames = [];
      places = place (codes "n") ∷ [];
      exc = None;
      made = noted 2 (line (record { at = 0; len = 1 })) ∷ [];
      begun = [];
      stopped = Some (at_end 2 None);
    }
unfolding later_turn
answer_is_noted = refl

-- a `need` that misses raises, and the failed child signs for its home nursery as its last event
pub need_misses :
    later_turn never 2 [] (has_answer missing) (asking (ask.need (codes "a")) (needs (codes "E"))) (steps_left stop ∷ [])
    (place (codes "n") ∷ [])
    ≡ record {
      frames = [];
      places = place (codes "n") ∷ [];
      exc = None;
      made = signs (label_named (codes "n")) 2 ∷ [];
      begun = [];
      stopped = Some (at_end 2 (Some (raised_by (codes "E") (codes "main") 2)));
    }
unfolding later_turn
need_misses = refl

-- `pace 2` sleeps by the count: 3 lines take 2 ticks
pub pace_sleeps :
    later_turn never 2 [] (has_answer (counted 3)) (asking ask.count (paces 2)) (steps_left stop ∷ []) []
    ≡ record { frames = steps_left stop ∷ []; places = []; exc = None; made = []; begun = []; stopped = Some (asleep true 2 2) }
unfolding later_turn
pace_sleeps = refl

-- an enclosing event
abbrev pub event_place : List ℕ → Place
event_place name = record { label = label_named name; shield = false; is_event = true }

-- event e { set e; wait e; }: the event is set, and the task waits for the next moment
pub set_then_waits :
    first_turn (event_of (codes "e") (set_event (codes "e") ∷ wait_for (codes "e") ∷ []) ∷ [])
    ≡ record {
      frames = steps_left stop ∷ in_event ∷ steps_left stop ∷ [];
      places = event_place (codes "e") ∷ [];
      exc = None;
      made = enters (label_named (codes "e")) 0 None ∷ signs (label_named (codes "e")) 0 ∷ [];
      begun = [];
      stopped = Some (waiting_for (codes "e") 0);
    }
unfolding first_turn
set_then_waits = refl

-- and when it is set, the wait is noted, and the event is left
pub wait_is_noted :
    later_turn (λ l. Some 1) 1 [] is_due (waiting_for (codes "e") 0) (steps_left stop ∷ in_event ∷ steps_left stop ∷ []) (event_place (codes "e") ∷ [])
    ≡ record {
      frames = [];
      places = [];
      exc = None;
      made = noted 1 (waited (label_named (codes "e"))) ∷ [];
      begun = [];
      stopped = Some (at_end 1 None);
    }
unfolding later_turn
wait_is_noted = refl

-- ---- limiters and channels

-- limiter l 1 { acquire l { raise E } }: the limiter is opened, and the task waits for a token
pub asks_for_a_token :
    first_turn (limiter_of (codes "l") 1 (acquire_of (codes "l") (raise (codes "E") ∷ []) ∷ []) ∷ [])
    ≡ record {
      frames = steps_left stop ∷ in_event ∷ steps_left stop ∷ [];
      places = event_place (codes "l") ∷ [];
      exc = None;
      made = acts (label_named (codes "l")) 0 (opens (Limiter 1)) ∷ enters (label_named (codes "l")) 0 None ∷ [];
      begun = [];
      stopped = Some (queued (codes "l") Acquire 0 (block_of (raise (codes "E") ∷ [])));
    }
unfolding first_turn
asks_for_a_token = refl

-- a turn of `main` that asked for a token in moment 0, to raise E with it
abbrev pub queued_turn : Wake → Move
queued_turn w =
    later_turn never 2 [] w (queued (codes "l") Acquire 0 (block_of (raise (codes "E") ∷ []))) (steps_left stop ∷ in_event ∷ steps_left stop ∷ [])
    (event_place (codes "l") ∷ [])

-- with the token it runs the block, and gives the token back although the block raises
pub token_comes_back :
    queued_turn (is_granted a_token)
    ≡ record {
      frames = [];
      places = [];
      exc = None;
      made =
          acts (label_named (codes "l")) 0 (asks Acquire (record { from = 0; to = 0 }) None)
          ∷ noted 2 (was_granted Acquire (label_named (codes "l")))
          ∷ acts (label_named (codes "l")) 2 gives_back
          ∷ [];
      begun = [];
      stopped = Some (at_end 2 (Some (raised_by (codes "E") (codes "main") 2)));
    }
unfolding later_turn
token_comes_back = refl

-- cancelled in the queue, it leaves it
pub leaves_cancelled :
    queued_turn sees
    ≡ record {
      frames = [];
      places = [];
      exc = None;
      made = acts (label_named (codes "l")) 0 (asks Acquire (record { from = 0; to = 0 }) (Some 2)) ∷ [];
      begun = [];
      stopped = Some (at_end 2 (Some cancelled));
    }
unfolding later_turn
leaves_cancelled = refl

-- channel c 0 { receive c { find "b"; } }: a task that has received a part asks the kernel about it, not about its own
pub received_part_is_asked :
    later_turn never 2 (codes "ab") (is_granted (a_part (record { from = 1; to = 2 }))) (queued (codes "c") Receive 0 (block_of (find (codes "b") ∷ [])))
    (steps_left stop ∷ in_event ∷ steps_left stop ∷ []) (event_place (codes "c") ∷ [])
    ≡ record {
      frames = steps_left stop ∷ with_part (record { from = 1; to = 2 }) ∷ steps_left stop ∷ in_event ∷ steps_left stop ∷ [];
      places = event_place (codes "c") ∷ [];
      exc = None;
      made =
          acts (label_named (codes "c")) 0 (asks Receive (record { from = 0; to = 2 }) None) ∷ noted 2 (was_granted Receive (label_named (codes "c"))) ∷ [];
      begun = [];
      stopped = Some (asking (ask.find (codes "b")) shows);
    }
unfolding later_turn
received_part_is_asked = refl

-- a first turn of `main` where there are rounds
unfoldable pub first_turn_by_rounds : List Step → Move
unfolding turn_from turn_of step_of
first_turn_by_rounds ss =
    turn_from 20 never (only_at 0) (record (main_at []) { clock = by_rounds }) begins to_begin (steps_left (block_of ss) ∷ []) [] 0

-- limiter l 1 { scope s { cancel s; acquire l { } } }: it sees what it has just cancelled, does not ask, and raises two rounds later
pub own_cancel_before_it_asks :
    first_turn_by_rounds (limiter_of (codes "l") 1 (scope_of (codes "s") (cancel (codes "s") ∷ acquire_of (codes "l") [] ∷ []) ∷ []) ∷ [])
    ≡ record {
      frames = steps_left stop ∷ in_scope false ∷ steps_left stop ∷ in_event ∷ steps_left stop ∷ [];
      places = place (codes "s") ∷ event_place (codes "l") ∷ [];
      exc = None;
      made =
          acts (label_named (codes "l")) 0 (opens (Limiter 1))
          ∷ enters (label_named (codes "l")) 0 None
          ∷ enters (label_named (codes "s")) 0 None
          ∷ signs (label_named (codes "s")) 0
          ∷ [];
      begun = [];
      stopped = Some (giving_up 1);
    }
unfolding first_turn_by_rounds
own_cancel_before_it_asks = refl

-- ---- the result of a task, before a turn and after it

-- the result of `main` by a table in which each label is cancelled from tick 1 on, with nothing recorded of children
unfoldable pub final_result_of : List Event → Rest → List Place → Result
unfolding finish walk and_then sleep_result lines_result need_result cancel_result block with_sign nursery_result child handler_result cleanup_result
final_result_of made rest ps = task_comes_to (by_table (λ l. Some 1) no_grants) no_outcomes made rest (main_at []) (stack_at (λ l. Some 1) ps) (only_at 0)

-- it is cancelled in tick 1, and the scope catches that
abbrev pub caught_at_one : Result
caught_at_one =
    record {
      end = 1;
      own = [];
      exc = None;
      members = [];
      log = entered (label_named (codes "s")) 0 None (sign (label_named (codes "s")) 0
          (entry 1 (scope_left (label_named (codes "s")) true) nil));
    }

-- scope s { cancel s; sleep 3; }, before its first turn
pub final_result_before : final_result_of [] (rest_at_start (block_of (scope_of (codes "s") (cancel (codes "s") ∷ sleep 3 ∷ []) ∷ []))) [] ≡ caught_at_one
unfolding final_result_of
final_result_before = refl

-- and after it, with what `cancel_then_sleep` says
pub final_result_after :
    final_result_of (enters (label_named (codes "s")) 0 None ∷ signs (label_named (codes "s")) 0 ∷ [])
    (record { stopped = asleep false 3 0; frames = steps_left stop ∷ in_scope false ∷ steps_left stop ∷ [] }) (place (codes "s") ∷ [])
    ≡ caught_at_one
unfolding final_result_of
final_result_after = refl
