-- How a run continues: what is kept of the root before its first turn, and of a task and its new children after a
-- turn.
use Rattle.std.specs.Prelude.{ℕ, suc, ◌+◌, ◌-◌, ◌==◌, nat_lt, if◌then◌else◌, List, [], ◌∷◌, ◌++◌, length}
use Rattle.job_tree.specs.Tree.{Tree}
use Rattle.job_meaning.specs.Log.{Result}
use Rattle.job_meaning.specs.Moments.{a_round_after, Now, only_at}
use Rattle.job_meaning.specs.Meaning.{root_here}
use Rattle.job_meaning.specs.Follow.{follow}
use Rattle.job_meaning.specs.Rest.{ChildOutcomes, Stopped, Rest, rest_comes_to, rest_at_start}
use Rattle.turn_semantics.specs.Midway.{Tables, by_tables, stack_at, Begun, Move, now_after, no_outcomes, begun_comes_to}
use Rattle.interleavings.specs.Interleaving.{Started}

-- The result of the root: that of following a table, where what the root has cancelled itself in the moment of its end does
-- not count any more.
abbrev pub root_result : Tables → Tree → List ℕ → Result
root_result k job input = record (follow k.cancelled_from k.granted job input) { own = [] }

-- the root before its first turn, with the result of following a table
abbrev pub root_task : Tables → Tree → List ℕ → Started
root_task k job input =
    record {
      serial = 0;
      here = root_here job input;
      places = [];
      stop = only_at 0;
      rest = rest_at_start job.steps;
      made = [];
      count = 0;
      child = (λ i. 0);
      outcomes = no_outcomes;
      final_result = root_result k job input;
      left = (root_result k job input).log;
    }

-- a record of outcomes, with the results of following the table for the children that begin in moment t
unfoldable pub outcomes_with : Tables → ℕ → ChildOutcomes → List Begun → ChildOutcomes
outcomes_with k t outcomes [] i = outcomes i
outcomes_with k t outcomes (b ∷ bs) i = if i == b.number then begun_comes_to k t b else outcomes_with k t outcomes bs i

-- the children that begin in moment t as started tasks, with serial numbers from m on
unfoldable pub children_from : Tables → ℕ → ℕ → List Begun → List Started
children_from k t m [] = []
children_from k t m (b ∷ bs) =
    record {
      serial = m;
      here = b.here;
      places = b.places;
      stop = only_at t;
      rest = rest_at_start b.body;
      made = [];
      count = 0;
      child = (λ i. 0);
      outcomes = no_outcomes;
      final_result = begun_comes_to k t b;
      left = (begun_comes_to k t b).log;
    } ∷ children_from k t (suc m) bs

-- the serial numbers of a task's children: those before, and m and on
unfoldable pub child_from : (count : ℕ) → (ℕ → ℕ) → ℕ → ℕ → ℕ
child_from count child m i = if nat_lt i count then child i else (m + (i - count))

-- the task after a turn in this moment that stopped so, where new serial numbers start at m
abbrev pub task_after_turn : Tables → Now → ℕ → Started → Move → Stopped → Started
task_after_turn k now m q o s =
    let outcomes = outcomes_with k (a_round_after q.here.clock now.at) q.outcomes o.begun in
    let rest : Rest = record { stopped = s; frames = o.frames } in
    let stop = now_after q.here.clock now o.made in
    record {
      serial = q.serial;
      here = q.here;
      places = o.places;
      stop = stop;
      rest = rest;
      made = q.made ++ o.made;
      count = q.count + length o.begun;
      child = child_from q.count q.child m;
      outcomes = outcomes;
      final_result = q.final_result;
      left = (rest_comes_to (by_tables k) outcomes rest q.here (stack_at k.cancelled_from o.places) stop).log;
    }
