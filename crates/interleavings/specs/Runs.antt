-- Runs of a job in turns, in any interleaving.
use Rattle.std.specs.Prelude.{◌≡◌, ℕ, ◌+◌, ◌≤◌, Some, List, [], ◌∷◌, ◌++◌, length}
use Rattle.job_tree.specs.Tree.{Tree}
use Rattle.job_meaning.specs.Log.{Table}
use Rattle.job_meaning.specs.Moments.{a_round_after, Now}
use Rattle.job_meaning.specs.Rest.{Stopped, rest_weight}
use Rattle.turn_semantics.specs.Midway.{Tables, Move}
use Rattle.turn_semantics.specs.Steps.{cancelled_from_after}
use Rattle.turn_semantics.specs.Wakes.{Wake}
use Rattle.turn_semantics.specs.Turned.{TurnsOver}
use Rattle.interleavings.specs.Interleaving.{Started, Blocked}
use Rattle.interleavings.specs.Going.{root_task, children_from, task_after_turn}
use Rattle.interleavings.specs.Woken.{MayWake}

-- a list of tasks, split into one of them and the others in their order
pub data Front : Started → List Started → List Started → Type 0 where
  is_front : (q : Started) (qs : List Started) → Front q (q ∷ qs) qs
  after_one : (q x : Started) (qs others : List Started) → Front q qs others → Front q (x ∷ qs) (x ∷ others)

-- the moments of cancellation that a run keeps, with the grants of the tables that are followed
abbrev pub keeping : Table → Tables → Tables
keeping f k = record { cancelled_from = f; granted = k.granted }

-- A run of a job: the moments of cancellation that it keeps, the moment, the number of tasks started, and these tasks. It begins
-- with the root. One task that may be woken has its turn, which is any turn that keeps the promise and comes to a stop. Or the
-- clock jumps, if no task is ready. Of the tables that are followed the first only determines what is recorded of the tasks' outcomes; the
-- second says what limiters and channels grant.
pub data Reached (k : Tables) (job : Tree) (input : List ℕ) : Table → ℕ → ℕ → List Started → Type 0 where
  begun : (f : Table) → Reached k job input f 0 1 (root_task k job input ∷ [])
  turn :
      (f : Table) (now : Now) (m : ℕ) (q : Started) (qs others : List Started) (wake : Wake) (o : Move) (s : Stopped) →
      Reached k job input f now.at m qs → Front q qs others → MayWake (keeping f k) (q ∷ others) now q wake q.rest.stopped →
      TurnsOver q.stop now q.here f wake q.rest q.places q.count o → o.stopped ≡ Some s →
      Reached k job input (cancelled_from_after f o.made) now.at (m + length o.begun)
      ((task_after_turn k now m q o s ∷ children_from k (a_round_after q.here.clock now.at) m o.begun) ++ others)
  jump : (f : Table) (t u m : ℕ) (qs : List Started) → Reached k job input f t m qs → t ≤ u → Blocked (keeping f k) qs u → Reached k job input f u m qs

-- how many turns a run took so far
abbrev pub turns_taken : {k : Tables} {job : Tree} {input : List ℕ} {f : Table} {t m : ℕ} {qs : List Started} →
    Reached k job input f t m qs → ℕ
turns_taken (begun f) = 0
turns_taken (turn f now m q qs others wake o s r at may goes stopped) = turns_taken r + 1
turns_taken (jump f t u m qs r le blocked) = turns_taken r

-- the total weight of what all tasks have left
abbrev pub all_weights : List Started → ℕ
all_weights [] = 0
all_weights (q ∷ qs) = rest_weight q.rest + all_weights qs
