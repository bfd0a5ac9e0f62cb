-- Where a walk of the code is, in the terms of the meaning, and the events from there on.
use Rattle.std.specs.Prelude.{ℕ, Bool, false, Option, Some, None, ◌+◌, ◌*◌, ◌≤◌, List, length}
use Rattle.input_lines.specs.Lines.{Range}
use Rattle.input_lines.specs.Part.{buffer_of, range_of}
use Rattle.input_lines.specs.Cuts.{cut_of}
use Rattle.cancel_scopes.specs.Sight.{Tick}
use Rattle.exceptions.specs.Exceptions.{Label}
use Rattle.job_tree.specs.Tree.{Step, ask_for, scope, nursery, event, object, start, repeat, attempt, Steps}
use Rattle.job_tree.specs.declared.object.ObjectKind.{ObjectKind}
use Rattle.job_meaning.specs.declared.limits.TheConstants.{MAX_INPUT}
use Rattle.job_meaning.specs.GrantTable.{AreGrantsOf, grants_made}
use Rattle.job_meaning.specs.Log.{Table}
use Rattle.job_meaning.specs.Sharing.{Grants}
use Rattle.job_meaning.specs.Tables.{Tables}
use Rattle.job_meaning.specs.Moments.{Now, only_at, a_round_after, wakes_at}
use Rattle.job_meaning.specs.Walk as meaning
use Rattle.job_meaning.specs.Walk.{Levels, Kind, a_scope, a_nursery, stack_inside, stack_in_event, here_in, home_of, in_pass, label_here, label_over}
use Rattle.job_story.specs.CancelledFrom.{table_in}
use Rattle.job_story.specs.Story.{Tale}
use Rattle.block_exits.specs.declared.kind.Kind as held
use Rattle.job_story.specs.Tell.{Scene, at_place, tell, tell_child, tell_each, tell_gathered, tell_object, tell_pace, tell_wait}
use Rattle.job_story.specs.declared.block.Block.{Block}
use Rattle.job_story.specs.declared.here.Here.{Here}
use Rattle.job_story.specs.Rooms.{reach, span}
use Rattle.job_story.specs.declared.stack.Level.{Level}
use Rattle.job_story.specs.Stacks.{levels_of}

abbrev pub input_of : Here → List ℕ
input_of h = buffer_of h.part

abbrev pub here_of : Here → meaning.Here
here_of h = record { clock = h.clock; input = input_of h; part = range_of h.part; task = h.task.now; path = h.place.now.indices }

abbrev pub scene_of : Here → Scene
scene_of h = record { here = here_of h; in_cleanup = h.in_cleanup }

-- the scopes and nurseries that enclose the task, and the events that do
abbrev pub scopes_of : Here → Levels
scopes_of h = levels_of h.scopes.now

abbrev pub open_events : Here → Levels
open_events h = levels_of h.events.now

abbrev pub stack_of : Here → meaning.Stack
stack_of h = record { scopes = scopes_of h; events = open_events h }

-- from when labels are cancelled, and what limiters and channels grant
abbrev pub table_of : Here → Table
table_of h = table_in h.cancelled_from.now

abbrev pub grants_of : Here → Grants
grants_of h = grants_made h.grants.now

abbrev pub tables_of : Here → Tables
tables_of h = record { cancelled_from = table_of h; granted = grants_of h }

-- the label of a scope, nursery, event or task that is entered or started here
abbrev pub label_in : List ℕ → Here → Label
label_in name h = label_here name (here_of h)

-- the scope or nursery of that name that is entered here
abbrev pub block_in : held.Kind → List ℕ → Tick → Bool → Here → Block
block_in kind name deadline shield h =
    record {
      kind = kind;
      label = label_in name h;
      deadline = deadline;
      shield = shield;
      from = table_of h (label_in name h);
    }

-- the event of that name that is entered here
abbrev pub event_in : List ℕ → Here → Level
event_in name h = record { label = label_in name h; shield = false; from = table_of h (label_in name h) }

-- the inside of a block that is cancelled from a moment on
abbrev pub inside : Kind → Label → Bool → Steps → Here → Now → Tick → Tale
inside (a_scope fail) label shield body h now from =
    tell (tables_of h) body (scene_of h) (stack_inside label shield from (stack_of h)) now
inside a_nursery label shield body h now from =
    tell_gathered h.clock label
    (tell_wait label (tell (tables_of h) body (scene_of h) (stack_inside label shield from (stack_of h)) now))

-- the inside of an event that is set from a moment on
abbrev pub inside_event : Label → Steps → Here → Now → Tick → Tale
inside_event label body h now from = tell (tables_of h) body (scene_of h) (stack_in_event label from (stack_of h)) now

-- a limiter or channel of that name that is entered here, and its inside
abbrev pub told_object : List ℕ → ObjectKind → Steps → Here → Now → Tale
told_object name kind body h now =
    tell_object (table_of h) kind (label_in name h) now.at (inside_event (label_in name h) body h now)

-- the block of a step that asks, where the task has this part
abbrev pub block_of_ask : Steps → Here → meaning.Here → Now → Tale
block_of_ask body h inner later = tell (tables_of h) body (at_place inner (scene_of h)) (stack_of h) later

-- where a child is that is started with a label on a range
abbrev pub scene_in : Label → Range → Here → Scene
scene_in label lent h = at_place (here_in label lent (here_of h)) (scene_of h)

-- and its tale, if it begins in a moment
abbrev pub started_tale : Label → Range → Steps → Here → ℕ → Now → Tale
started_tale label lent body h begins now =
    tell_child label (home_of (scopes_of h)) (scene_in label lent h) begins
    (tell (tables_of h) body (scene_in label lent h) (stack_of h) (only_at begins)) now

-- one of the children of a `start .. over`
abbrev pub started_over : List ℕ → ℕ → Steps → Here → ℕ → Now → ℕ → Tale
started_over name k body h begins now i =
    started_tale (label_over name (here_of h) i) (cut_of (input_of h) (range_of h.part) k i) body h begins now

-- what a `start` starts
abbrev pub started_by : List ℕ → Option ℕ → Steps → Here → Now → Tale
started_by name None body h now = started_tale (label_in name h) (range_of h.part) body h (a_round_after h.clock now.at) now
started_by name (Some k) body h now = tell_each k (started_over name k body h (a_round_after h.clock now.at) now) now

-- a pass of a `repeat`, on its cut of the part if that is divided into cuts
abbrev pub pass : (cuts : Option ℕ) → Steps → Here → ℕ → Now → Tale
pass cuts body h i now = tell (tables_of h) body (at_place (in_pass cuts i (here_of h)) (scene_of h)) (stack_of h) now

-- a `pace` of so many ticks
abbrev pub tell_paced : Here → ℕ → ℕ → Tale
tell_paced h n m = tell_pace h.clock (scopes_of h) h.in_cleanup (Some (wakes_at h.clock n m)) n m

-- The given number of step instances can be walked. They end before any moment is too large, each at most `span` beyond the reach of its
-- start; and the parts that channels granted are of the input.
pub record CanWalk (size : ℕ) (h : Here) (m : ℕ) : Type 0 where
  pub room : reach h.clock m + size * span h.clock ≤ 4611686018427387904
  pub small : length (input_of h) ≤ MAX_INPUT
  pub lent : AreGrantsOf (input_of h) h.grants.now

-- a step with no block of steps in it
abbrev pub IsLeaf : Step → Type 0
IsLeaf (ask_for name ask body) = ⊥
IsLeaf (scope name deadline shield fail body) = ⊥
IsLeaf (nursery name deadline shield body) = ⊥
IsLeaf (event name body) = ⊥
IsLeaf (object name kind body) = ⊥
IsLeaf (start name over body) = ⊥
IsLeaf (repeat count over body) = ⊥
IsLeaf (attempt body handler cleanup) = ⊥
IsLeaf _ = Unit {0}
