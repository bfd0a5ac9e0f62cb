-- What a task does to scopes: what it and its world hold of them, and how that changes as events are made.
use Rattle.std.specs.Prelude.{◌≡◌, ℕ, Bool, true, false, ◌||◌, Option, Some, None, List, [], ◌∷◌, ◌++◌, length, slice_get, slice_set}
use Rattle.std.specs.Option.{ForSome, option_map}
use Rattle.exceptions.specs.Exceptions.{Label, Exc}
use Rattle.cancel_scopes.specs.Sight.{Tick, Level, before, earlier, next, sight}
use Rattle.cancel_scopes.specs.Tree.{Stack, Tree, stack_of, outer_of, own_from, after_cancel, is_changed, OthersKeep, SameMarks, OtherMarksKeep, IsInnermost, IsOpen}
use Rattle.job_meaning.specs.Log as log
use Rattle.job_meaning.specs.Rest.{Event, noted, signs, enters, acts, starts}
use Rattle.task_machine.specs.declared.entry.ScopeFrom.{ScopeFrom}
use Rattle.task_machine.specs.declared.task.Own.{Own}
use Rattle.task_machine.specs.declared.task.Task.{Task}
use Rattle.task_machine.specs.declared.world.World.{World}
use Rattle.task_machine.specs.Labels.{Labels, Events, Updates, home_key}
use Rattle.task_machine.specs.States.{State}
use Rattle.task_machine.specs.Worlds.{label_at, event_at}

-- the open scopes of a world, their labels, which of them are events, which events were set in this turn, and the scopes that a
-- task opened, and its moments of cancellation
pub record Scoping : Type 0 where
  pub tree : Tree
  pub labels : Labels
  pub events : Events
  pub set : List ℕ
  pub own : List Own
  pub cancelled_from : List ScopeFrom

abbrev pub scoping_of : Task → World → Scoping
scoping_of task world =
    record {
      tree = world.scopes;
      labels = label_at world;
      events = event_at world;
      set = world.set.items;
      own = task.own.items;
      cancelled_from = task.cancelled_from.items;
    }

-- what a state has of scopes
abbrev pub scoping_in : State → Scoping
scoping_in s = record { tree = s.tree; labels = s.labels; events = s.events; set = s.set; own = s.own; cancelled_from = s.cancelled_from }

-- the scope with this key is cancelled in a moment: this changes it in each stack, and each scope whose effective deadline
-- (`sight`) is lowered by it is marked as changed
pub record Cancels (key tick : ℕ) (old new : Tree) : Type 0 where
  pub stacks : (other : ℕ) → stack_of new other ≡ option_map (after_cancel key tick) (stack_of old other)
  pub marks :
      (other : ℕ) → ForSome (stack_of old other) (λ st. is_changed new other
      ≡ (is_changed old other || before (sight (after_cancel key tick st)) (sight st)))

-- a scope of this label, which is no event, is cancelled in a moment
pub record Signs (tick : ℕ) (label : Label) (old new : Scoping) : Type 0 where
  pub key : ℕ
  pub labelled : old.labels key ≡ Some label
  pub no_event : old.events key ≡ None
  pub cancels : Cancels key tick old.tree new.tree
  pub labels : new.labels ≡ old.labels
  pub events : new.events ≡ old.events
  pub set : new.set ≡ old.set
  pub own : new.own ≡ old.own
  pub cancelled_from : new.cancelled_from ≡ old.cancelled_from

-- the event with this key is set in a moment, which others see from the next one on; it is among those that were set in this turn
pub record SetsKey (key tick : ℕ) (old new : Events) (set more : List ℕ) : Type 0 where
  pub from : Tick
  pub was : old key ≡ Some from
  pub lowered : Updates old new key (Some (earlier from (next (Some tick))))
  pub among : more ≡ set ++ key ∷ []

-- an event of this label is set in a moment
pub record Sets (tick : ℕ) (label : Label) (old new : Scoping) : Type 0 where
  pub key : ℕ
  pub labelled : old.labels key ≡ Some label
  pub opened : IsOpen old.tree key
  pub sets : SetsKey key tick old.events new.events old.set new.set
  pub tree : new.tree ≡ old.tree
  pub labels : new.labels ≡ old.labels
  pub own : new.own ≡ old.own
  pub cancelled_from : new.cancelled_from ≡ old.cancelled_from

-- what is kept of a scope that is entered: of an event, that nothing has set it
abbrev pub set_at_entry : (is_event : Bool) → Option Tick
set_at_entry true = Some None
set_at_entry false = None

-- A scope that was not open is opened with this label and deadline inside the parent, the last that the task opened, with a new
-- place at the end of its moments of cancellation. It is an event, or it is none. Every other scope stays, and keeps its label.
pub record Enters (parent : Option ℕ) (label : Label) (is_event : Bool) (deadline : Tick) (old new : Scoping) : Type 0 where
  pub scope : Own
  pub opened : new.own ≡ old.own ++ scope ∷ []
  pub index : scope.at ≡ length old.cancelled_from
  pub cancelled_from : new.cancelled_from ≡ old.cancelled_from ++ record { label = label; seen = None } ∷ []
  pub fresh : stack_of old.tree scope.id ≡ None
  pub level : Level ℕ
  pub stack : stack_of new.tree scope.id ≡ Some (level ∷ outer_of old.tree parent)
  pub named : level.label ≡ scope.id
  pub from : level.from ≡ deadline
  pub others : OthersKeep old.tree new.tree scope.id
  pub marks : SameMarks old.tree new.tree
  pub labelled : Updates old.labels new.labels scope.id (Some label)
  pub kind : Updates old.events new.events scope.id (set_at_entry is_event)
  -- an event has no deadline
  pub undated : is_event ≡ true → deadline ≡ None
  pub set : new.set ≡ old.set

-- the moment from which a scope was cancelled, or set if it is an event
abbrev pub kept_from : Option Tick → Stack → Tick
kept_from None st = own_from st
kept_from (Some set) st = set

-- The last scope that the task opened is closed, which has no open children, and its from is kept at its place. Every other scope
-- stays, and keeps its label.
pub record Leaves (old new : Scoping) : Type 0 where
  pub scope : Own
  pub taken : old.own ≡ new.own ++ scope ∷ []
  pub innermost : IsInnermost old.tree scope.id
  pub from : Tick
  pub seen : ForSome (stack_of old.tree scope.id) (λ st. from ≡ kept_from (old.events scope.id) st)
  pub entry : ScopeFrom
  pub was : slice_get old.cancelled_from scope.at ≡ Some entry
  pub cancelled_from : new.cancelled_from ≡ slice_set old.cancelled_from scope.at (record entry { seen = from })
  pub closed : stack_of new.tree scope.id ≡ None
  pub others : OthersKeep old.tree new.tree scope.id
  pub marks : OtherMarksKeep old.tree new.tree scope.id
  pub unlabelled : Updates old.labels new.labels scope.id None
  pub no_event : Updates old.events new.events scope.id None
  pub set : new.set ≡ old.set

-- From one state to another in a moment, while these events are made: for each sign a scope is cancelled or an event set, for each
-- scope, nursery or event that is entered one is opened, and between events scopes may be closed.
pub data Acts (tick : ℕ) : Scoping → List Event → Scoping → Type 0 where
  no_act : (s : Scoping) → Acts tick s [] s
  act_noted : (s u : Scoping) (t : ℕ) (e : log.Entry) (es : List Event) → Acts tick s es u → Acts tick s (noted t e ∷ es) u
  act_shared : (s u : Scoping) (l : Label) (t : ℕ) (a : log.Act) (es : List Event) → Acts tick s es u → Acts tick s (acts l t a ∷ es) u
  act_starts : (s u : Scoping) (i : ℕ) (l : Label) (t : ℕ) (es : List Event) → Acts tick s es u → Acts tick s (starts i l t ∷ es) u
  act_signs : (s m u : Scoping) (l : Label) (es : List Event) → Signs tick l s m → Acts tick m es u → Acts tick s (signs l tick ∷ es) u
  act_sets : (s m u : Scoping) (l : Label) (es : List Event) → Sets tick l s m → Acts tick m es u → Acts tick s (signs l tick ∷ es) u
  act_enters : {parent : Option ℕ} {is_event : Bool} (s m u : Scoping) (l : Label) (t : ℕ) (d : Tick) (es : List Event) →
      Enters parent l is_event d s m →
      Acts tick m es u → Acts tick s (enters l t d ∷ es) u
  act_leaves : (s m u : Scoping) (es : List Event) → Leaves s m → Acts tick m es u → Acts tick s es u

-- the scope of this key is cancelled in a moment, or none is
abbrev pub Signed : ℕ → Tree → Tree → Option ℕ → Type 0
Signed tick old new None = new ≡ old
Signed tick old new (Some key) = Cancels key tick old new

-- a task or body that ends with an exception signs for the innermost scope that is no event
abbrev pub key_failed : Option Exc → Events → Stack → Option ℕ
key_failed None events st = None
key_failed (Some e) events st = home_key events st
