-- What contracts see of a task together with the world that it shares.
use Rattle.std.specs.Prelude.{ℕ, Option, List, map}
use Rattle.std.specs.Option.{option_map}
use Rattle.std.specs.List.{last_or}
use Rattle.input_lines.specs.Part.{buffer_of, range_of}
use Rattle.input_lines.specs.declared.part.Part.{Part}
use Rattle.cancel_scopes.specs.Tree.{Stack, Tree, outer_of}
use Rattle.exceptions.specs.Exceptions.{Label}
use Rattle.job_meaning.specs.Moments.{Now}
use Rattle.job_meaning.specs.declared.clock.Clock.{Clock}
use Rattle.job_meaning.specs.Walk.{Here}
use Rattle.nursery_book.specs.declared.book.NurseryBook.{NurseryBook}
use Rattle.task_machine.specs.declared.entry.Entry.{Entry}
use Rattle.task_machine.specs.declared.entry.ScopeFrom.{ScopeFrom}
use Rattle.task_machine.specs.declared.frame.Frame.{Frame}
use Rattle.task_machine.specs.declared.serving.ObjectAct.{ObjectAct}
use Rattle.task_machine.specs.declared.stop.TaskState.{TaskState}
use Rattle.task_machine.specs.declared.task.Home.{Home}
use Rattle.task_machine.specs.declared.task.Own.{Own}
use Rattle.task_machine.specs.declared.task.Task.{Task}
use Rattle.task_machine.specs.declared.world.World.{World}
use Rattle.task_machine.specs.Frames.{passes_onto, Lent, lent_by}
use Rattle.task_machine.specs.Labels.{Labels, Events}
use Rattle.task_machine.specs.Worlds.{label_at, event_at}

-- Of the task: its label and part, where it was started, its unfinished blocks and the scopes that it opened (the innermost
-- last), why it is blocked, what it noted, and what it has cancelled itself in this moment. Of the world: the clock, the moment, the open
-- scopes with their labels and which of them are events, the events that were set and not taken yet, what was done to limiters and
-- channels and not taken yet, the nurseries, and the started tasks that were not taken yet.
pub record State : Type 0 where
  pub label : Label
  pub part : Part
  pub home : Option Home
  pub frames : List Frame
  pub own : List Own
  pub task_state : TaskState
  pub entries : List Entry
  pub cancelled_from : List ScopeFrom
  pub cancelled : List Label
  pub clock : Clock
  pub tick : ℕ
  pub tree : Tree
  pub labels : Labels
  pub events : Events
  pub set : List ℕ
  pub acts : List ObjectAct
  pub book : NurseryBook
  pub started : List Task

abbrev pub state_of : Task → World → State
state_of task world =
    record {
      label = task.label;
      part = task.part;
      home = task.home;
      frames = task.frames.items;
      own = task.own.items;
      task_state = task.task_state;
      entries = task.entries.items;
      cancelled_from = task.cancelled_from.items;
      cancelled = task.cancelled.items;
      clock = world.clock;
      tick = world.tick;
      tree = world.scopes;
      labels = label_at world;
      events = event_at world;
      set = world.set.items;
      acts = world.acts.items;
      book = world.book;
      started = world.started.items;
    }

-- where the task is
abbrev pub here_at : State → Here
here_at s = record { clock = s.clock; input = buffer_of s.part; part = range_of s.part; task = s.label; path = s.label.indices }

-- the path of indices of what the task enters or starts: its own, followed by the numbers of the passes that it is in
abbrev pub path_at : State → List ℕ
path_at s = passes_onto s.frames s.label.indices

-- the part of the input that the task has: its own, cut for each pass of a `repeat over` that it is in
abbrev pub lent_at : State → Lent
lent_at s = lent_by s.part s.frames

-- the innermost scope that encloses the task: the last that it opened itself, or else that of its home nursery
abbrev pub scope_at : State → Option ℕ
scope_at s = last_or (option_map (λ (h : Home). h.scope) s.home) (map (λ (o : Own). o.id) s.own)

-- the open scopes that enclose the task
abbrev pub stack_in : State → Stack
stack_in s = outer_of s.tree (scope_at s)

-- where the task is in time
abbrev pub now_at : State → Now
now_at s = record { at = s.tick; own = s.cancelled }
