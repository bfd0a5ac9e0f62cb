-- A worked run, in two orders of turns, by computing: a sibling that fails, a shield, and a task that cancels a scope
-- across a `start`.
use Rattle.std.specs.Prelude.{◌≡◌, ℕ, zero, suc, ◌+◌, Option, None, Some, List, [], ◌∷◌, ◌++◌, refl, codes, length}
use Rattle.job_tree.specs.Tree.{Step, sleep, raise, cancel}
use Rattle.exceptions.specs.Exceptions.{Exc, cancelled}
use Rattle.cancel_scopes.specs.Sight.{Tick}
use Rattle.job_meaning.specs.Log.{Table}
use Rattle.job_meaning.specs.Moments.{only_at}
use Rattle.job_meaning.specs.declared.clock.Clock.TheVariants.{ByTicks as by_ticks}
use Rattle.job_meaning.specs.Walk.{Here}
use Rattle.job_meaning.specs.Meaning.{Record, root_here}
use Rattle.job_meaning.specs.Rest.{Event, Rest, rest_at_start, Stopped, to_begin, at_end}
use Rattle.job_meaning.specs.Examples.{block_of, job_of, scope_of, shielded_scope, nursery_of, start_of, label_named, raised_by, group_by, scope_caught, scope_passed, nursery_passed, record_of, main_ran, run_of}
use Rattle.turn_semantics.specs.Midway.{Place, Begun, Move}
use Rattle.turn_semantics.specs.Steps.{step_of, turn_of, cancelled_from_after}
use Rattle.turn_semantics.specs.Wakes.{Wake, begins, is_due, settles, turn_from}
use Rattle.interleavings.specs.Rows.{entries_made}

-- what a program keeps of a task
pub record Kept : Type 0 where
  pub here : Here
  pub places : List Place
  pub rest : Rest
  pub made : List Event
  pub count : ℕ
  pub since : ℕ

-- and of a run: the moments of cancellation, and the tasks by serial number
pub record World : Type 0 where
  pub cancelled_from : Table
  pub tasks : List Kept

abbrev pub stopped_or : Option Stopped → Stopped
stopped_or None = to_begin
stopped_or (Some s) = s

abbrev pub kept_after : Kept → Move → Kept
kept_after q o =
    record {
      here = q.here;
      places = o.places;
      rest = record { stopped = stopped_or o.stopped; frames = o.frames };
      made = q.made ++ o.made;
      count = q.count + length o.begun;
      since = q.since;
    }

abbrev pub kept_begun : ℕ → List Begun → List Kept
kept_begun t [] = []
kept_begun t (b ∷ bs) =
    record { here = b.here; places = b.places; rest = rest_at_start b.body; made = []; count = 0; since = t } ∷ kept_begun t bs

-- the turn of a task in tick t, of at most 20 steps
abbrev pub goes_of : Table → ℕ → Wake → Kept → Move
goes_of cancelled_from t w q = turn_from 20 cancelled_from (only_at t) q.here w q.rest.stopped q.rest.frames q.places q.count

-- the task with that serial number has its turn; those before it are skipped
abbrev pub turn_in : Table → ℕ → Wake → ℕ → List Kept → List Kept → World
turn_in cancelled_from t w n before [] = record { cancelled_from = cancelled_from; tasks = before }
turn_in cancelled_from t w zero before (q ∷ qs) =
    let o = goes_of cancelled_from t w q in
    record { cancelled_from = cancelled_from_after cancelled_from o.made; tasks = before ++ kept_after q o ∷ (qs ++ kept_begun t o.begun) }
turn_in cancelled_from t w (suc n) before (q ∷ qs) = turn_in cancelled_from t w n (before ++ q ∷ []) qs

-- one turn of a run: its tick, the serial number of the task, and why it continues
pub record Pick : Type 0 where
  pub tick : ℕ
  pub serial : ℕ
  pub wake : Wake

abbrev pub at : ℕ → ℕ → Wake → Pick
at t n w = record { tick = t; serial = n; wake = w }

-- a run by these turns
abbrev pub after_picks : World → List Pick → World
after_picks world [] = world
after_picks world (p ∷ ps) = after_picks (turn_in world.cancelled_from p.tick p.wake p.serial [] world.tasks) ps

abbrev pub end_kept : Stopped → ℕ
end_kept to_begin = 0
end_kept (at_end u e) = u
end_kept _ = 0

abbrev pub exc_kept : Stopped → Option Exc
exc_kept to_begin = None
exc_kept (at_end u e) = e
exc_kept _ = None

-- the records of tasks that have ended
abbrev pub records_kept : List Kept → List Record
records_kept [] = []
records_kept (q ∷ qs) = record_of q.here.task q.since (end_kept q.rest.stopped) (exc_kept q.rest.stopped) (entries_made by_ticks q.made) ∷ records_kept qs

-- scope o { nursery n {
--   start a { sleep 1; cancel o; }
--   start b { scope g shield { sleep 3; } sleep 1; }
--   start c { sleep 1; raise E; }
-- } }
abbrev pub three_tasks : List Step
three_tasks =
    scope_of (codes "o")
    (nursery_of (codes "n")
    (start_of (codes "a") (sleep 1 ∷ cancel (codes "o") ∷ [])
    ∷ start_of (codes "b") (shielded_scope (codes "g") (sleep 3 ∷ []) ∷ sleep 1 ∷ [])
    ∷ start_of (codes "c") (sleep 1 ∷ raise (codes "E") ∷ [])
    ∷ []) ∷ []) ∷ []

-- the group of the nursery: c failed, and b was cancelled because of it
abbrev pub members_group : Option Exc
members_group = Some (group_by (codes "n") (cancelled ∷ raised_by (codes "E") (codes "c") 1 ∷ []))

-- a run of the three tasks and the root, by these turns
unfoldable pub run_by : List Pick → World
unfolding turn_from turn_of step_of
run_by picks =
    let root : Kept = record {
      here = root_here (job_of three_tasks) [];
      places = [];
      rest = rest_at_start (block_of three_tasks);
      made =
          [];
      count = 0;
      since = 0;
    } in
    after_picks (record { cancelled_from = (λ l. None); tasks = root ∷ [] }) picks

-- the tasks that are ready together have their turns in the order of their starts
abbrev pub in_order : List Pick
in_order =
    at 0 0 begins
    ∷ at 0 1 begins ∷ at 0 2 begins ∷ at 0 3 begins
    ∷ at 1 1 is_due ∷ at 1 3 is_due
    ∷ at 3 2 is_due
    ∷ at 3 0 (settles members_group)
    ∷ []

-- and in the reverse order
abbrev pub in_reverse : List Pick
in_reverse =
    at 0 0 begins
    ∷ at 0 3 begins ∷ at 0 2 begins ∷ at 0 1 begins
    ∷ at 1 3 is_due ∷ at 1 1 is_due
    ∷ at 3 2 is_due
    ∷ at 3 0 (settles members_group)
    ∷ []

-- The scope is cancelled from tick 2 on, which is seen through the nursery but not through the shield: b is cancelled in
-- tick 3, and the scope catches that. The exception of c propagates.
abbrev pub three_records : List Record
three_records =
    main_ran 0 3 (Some (group_by (codes "n") (raised_by (codes "E") (codes "c") 1 ∷ [])))
    (nursery_passed (codes "n") 3 ∷ scope_caught (codes "o") 3 ∷ [])
    ∷ record_of (label_named (codes "a")) 0 1 None []
    ∷ record_of (label_named (codes "b")) 0 3 (Some cancelled) (scope_passed (codes "g") 3 ∷ [])
    ∷ record_of (label_named (codes "c")) 0 1 (Some (raised_by (codes "E") (codes "c") 1)) []
    ∷ []

-- both orders have these records, and so has the meaning
pub forwards : records_kept (run_by in_order).tasks ≡ three_records
unfolding run_by
forwards = refl

pub backwards : records_kept (run_by in_reverse).tasks ≡ three_records
unfolding run_by
backwards = refl

pub by_meaning : run_of three_tasks [] ≡ three_records
unfolding run_of
by_meaning = refl

-- and both keep the same moments of cancellation: the scope was cancelled by a, the nursery by c
abbrev pub cancelled_from_of_both : World → List Tick
cancelled_from_of_both world = world.cancelled_from (label_named (codes "o")) ∷ world.cancelled_from (label_named (codes "n")) ∷ world.cancelled_from (label_named (codes "g"))
    ∷ []

pub cancelled_from_forwards : cancelled_from_of_both (run_by in_order) ≡ Some 2 ∷ Some 2 ∷ None ∷ []
unfolding run_by
cancelled_from_forwards = refl

pub cancelled_from_backwards : cancelled_from_of_both (run_by in_reverse) ≡ Some 2 ∷ Some 2 ∷ None ∷ []
unfolding run_by
cancelled_from_backwards = refl
