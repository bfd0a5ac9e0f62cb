-- What clauses state about a world.
use Rattle.std.specs.Prelude.{◌≡◌, ℕ, List, [], ◌∷◌, ◌++◌, Option, Some, None}
use Rattle.std.specs.Global.{Box}
use Rattle.job_tree.specs.declared.object.Ask.{Ask}
use Rattle.exceptions.specs.Exceptions.{Label}
use Rattle.cancel_scopes.specs.Sight.{Tick}
use Rattle.task_machine.specs.Labels.{label_in, event_in}
use Rattle.task_machine.specs.declared.entry.Entry.{Entry}
use Rattle.task_machine.specs.declared.entry.Entry.TheVariants.{Wait, Granted}
use Rattle.task_machine.specs.declared.world.World.{World}

-- the label of the scope with this key, if it has one
abbrev pub label_at : World → ℕ → Option Label
label_at world key = label_in world.labels.items key

-- from when the scope with this key is set, if it is an event
abbrev pub event_at : World → ℕ → Option Tick
event_at world key = event_in world.events.items key

-- the first one was taken, or there was none
abbrev pub TakesFirst : {A : Type 0} → List A → Option A → List A → Type 0
TakesFirst before None after = (before ≡ []) × (after ≡ [])
TakesFirst before (Some first) after = before ≡ first ∷ after

-- what was granted to this task in this tick by the limiter or channel of this label was noted
abbrev pub NotesGrant : Ask → Label → ℕ → List Entry → List Entry → Type 0
NotesGrant ask l tick before after = (label : Box Label) × (label.value ≡ l) × (after ≡ before ++ Granted ask label tick ∷ [])

-- a wait for the event of this label that ended in this tick was noted; where there is no label, nothing was
abbrev pub NotesWait : Option Label → ℕ → List Entry → List Entry → Type 0
NotesWait None tick before after = after ≡ before
NotesWait (Some l) tick before after = (label : Box Label) × (label.value ≡ l) × (after ≡ before ++ Wait label tick ∷ [])
