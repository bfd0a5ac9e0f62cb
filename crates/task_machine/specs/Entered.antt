-- A task that enters a scope, a nursery or an event, and one that cancels a scope or sets an event.
use Rattle.std.specs.Prelude.{◌≡◌, ℕ, Bool, true, false, Option, Some, None, List, [], ◌∷◌, ◌++◌, map}
use Rattle.turn_semantics.specs.Lists.{IsAmong}
use Rattle.job_tree.specs.Tree.{Steps}
use Rattle.job_tree.specs.Blocks.{steps_of}
use Rattle.nursery_book.specs.Nursery.{new_nursery}
use Rattle.nursery_book.specs.Book.{nursery_at}
use Rattle.nursery_book.specs.Book as book
use Rattle.exceptions.specs.Exceptions.{Label}
use Rattle.cancel_scopes.specs.Sight.{Tick}
use Rattle.job_meaning.specs.Log.{Table, closes}
use Rattle.job_meaning.specs.Walk.{with_own}
use Rattle.turn_semantics.specs.Midway.{Place, label_among}
use Rattle.turn_semantics.specs.Names.{names_at, OwnNames}
use Rattle.turn_semantics.specs.Steps.{cancelled_from_after_entry, signs_to, acts_on, cancelled_from_after}
use Rattle.task_machine.specs.declared.frame.Frame.{Frame}
use Rattle.task_machine.specs.declared.frame.Frame.TheVariants as frame
use Rattle.task_machine.specs.declared.task.Task.{Task}
use Rattle.task_machine.specs.Labels.{scope_named}
use Rattle.task_machine.specs.Acts.{Signed, SetsKey}
use Rattle.task_machine.specs.Serving.{acted_of, acts_to_serve}
use Rattle.task_machine.specs.Stacked.{AreAt}
use Rattle.task_machine.specs.States.{State, scope_at, stack_in}
use Rattle.task_machine.specs.Tasks.{path_of}

-- The places of the task (the scopes, nurseries and events that enclose it) were those of its scopes, and are so with one more: its
-- label is entered, with this deadline. No enclosing one has its name.
abbrev pub EntersAt : State → State → Place → Tick → Type 0
EntersAt before after p deadline =
    (cancelled_from : Table) (ps : List Place) → (IsAmong p.label.name (names_at ps) → ⊥) →
    AreAt before.labels before.events cancelled_from (stack_in before) ps →
    AreAt after.labels after.events (cancelled_from_after_entry cancelled_from p.label deadline) (stack_in after) (p ∷ ps)

-- a scope or nursery that encloses a task, and an event
abbrev pub a_scope_at : Label → (shield : Bool) → Place
a_scope_at label shield = record { label = label; shield = shield; is_event = false }

abbrev pub an_event_at : Label → Place
an_event_at label = record { label = label; shield = false; is_event = true }

-- the label of a scope that a task enters: its own indices, followed by the numbers of the passes that it is in
abbrev pub label_in : Task → List ℕ → Label
label_in task name = record { name = name; indices = path_of task }

-- a frame that holds the steps of a block
abbrev pub IsBlock : Frame → Steps → Type 0
IsBlock (frame.Steps steps) body = steps_of steps.now ≡ body
IsBlock _ body = ⊥

-- the block's body is inside its exit
pub record EntersBlock (before after : List Frame) (exit : Frame) (body : Steps) : Type 0 where
  pub top : Frame
  pub block : IsBlock top body
  pub frames : after ≡ before ++ exit ∷ top ∷ []

-- a nursery was opened with the task's innermost scope
pub record EntersNursery (me : ℕ) (before after : State) (label : Label) (body : Steps) : Type 0 where
  pub id : ℕ
  pub scope : ℕ
  pub inner : scope_at after ≡ Some scope
  pub fresh : nursery_at before.book id ≡ None
  pub stands : book.Updates before.book after.book id (Some (new_nursery scope me label))
  pub frames : EntersBlock before.frames after.frames (frame.Nursery id) body

-- The innermost scope of this name is cancelled, if there is one, and the moments of cancellation of the scopes and nurseries
-- that enclose the task are lowered by that sign. The task itself sees it in this moment, where there are rounds.
abbrev pub CancelsAt : State → State → List ℕ → Type 0
CancelsAt before after name =
    Signed before.tick before.tree after.tree (scope_named false before.labels before.events name (stack_in before))
    × ((cancelled_from : Table) (ps : List Place) → OwnNames (names_at ps) → AreAt before.labels before.events cancelled_from (stack_in before) ps →
    AreAt after.labels after.events (cancelled_from_after cancelled_from (signs_to (label_among false name ps) before.tick)) (stack_in after) ps
    × (after.cancelled ≡ with_own before.clock (label_among false name ps) before.cancelled))

-- The innermost channel of this name is closed, if there is one, which is noted to be served at the end of the round.
abbrev pub ClosesAt : State → State → List ℕ → Type 0
ClosesAt before after name =
    (cancelled_from : Table) (ps : List Place) → AreAt before.labels before.events cancelled_from (stack_in before) ps →
    map acted_of after.acts ≡ map acted_of before.acts ++ acts_to_serve (acts_on (label_among true name ps) before.tick closes)

-- the event with this key is set, or none is
abbrev pub SetAt : State → State → Option ℕ → Type 0
SetAt before after None = (after.events ≡ before.events) × (after.set ≡ before.set)
SetAt before after (Some key) = SetsKey key before.tick before.events after.events before.set after.set

-- The innermost event of this name is set, if there is one, and its from is lowered by that sign, which is kept with what the task has
-- cancelled in this moment.
abbrev pub SetsAt : State → State → List ℕ → Type 0
SetsAt before after name =
    SetAt before after (scope_named true before.labels before.events name (stack_in before))
    × ((cancelled_from : Table) (ps : List Place) → OwnNames (names_at ps) → AreAt before.labels before.events cancelled_from (stack_in before) ps →
    AreAt after.labels after.events (cancelled_from_after cancelled_from (signs_to (label_among true name ps) before.tick)) (stack_in after) ps
    × (after.cancelled ≡ with_own before.clock (label_among true name ps) before.cancelled))
