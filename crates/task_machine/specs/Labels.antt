-- The labels of the open scopes, and which of them are events, by the keys of the scopes.
use Rattle.std.specs.Prelude.{◌≡◌, ◌≢◌, ◌&&◌, ℕ, Bool, true, false, List, [], ◌∷◌, Option, Some, None, slice_index_or}
use Rattle.std.specs.Option.{option_map}
use Rattle.std.specs.Str.{bytes_eq}
use Rattle.cancel_scopes.specs.Sight.{Tick, earlier}
use Rattle.cancel_scopes.specs.Tree.{Stack}
use Rattle.job_meaning.specs.Walk.{is_among}
use Rattle.exceptions.specs.Exceptions.{Label}
use Rattle.task_machine.specs.declared.events.EventState.{EventState}

-- which label each key has, if it has one
abbrev pub Labels : Type 0
Labels = ℕ → Option Label

-- what is at an index, and none after the last
abbrev pub label_in : List (Option Label) → Labels
label_in labels key = slice_index_or labels key None

-- which keys are events, each with the moment from which it is set, or never
abbrev pub Events : Type 0
Events = ℕ → Option Tick

-- what is at an index, and none after the last
abbrev pub event_in : List (Option EventState) → Events
event_in events key = option_map (λ (e : EventState). e.set) (slice_index_or events key None)

-- the key has this now, or nothing, and every other key keeps its own
pub record Updates {A : Type 0} (old new : ℕ → Option A) (key : ℕ) (value : Option A) : Type 0 where
  pub changed : new key ≡ value
  pub others : (other : ℕ) → other ≢ key → new other ≡ old other

-- the label has that name
abbrev pub is_named : List ℕ → Option Label → Bool
is_named name None = false
is_named name (Some label) = bytes_eq name label.name

abbrev pub key_if : Bool → ℕ → Option ℕ → Option ℕ
key_if true key o = Some key
key_if false key o = o

-- whether a level is an event, or whether it is none
abbrev pub is_sought : (events : Bool) → Option Tick → Bool
is_sought true None = false
is_sought true (Some set) = true
is_sought false None = true
is_sought false (Some set) = false

-- the innermost scope of a stack that has a label of that name and is no event, or the innermost event
abbrev pub scope_named : (events : Bool) → Labels → Events → List ℕ → Stack → Option ℕ
scope_named sought labels events name [] = None
scope_named sought labels events name (l ∷ outer) =
    key_if (is_sought sought (events l.label) && is_named name (labels l.label)) l.label (scope_named sought labels events name outer)

-- the innermost scope of a stack that is no event
abbrev pub home_key : Events → Stack → Option ℕ
home_key events [] = None
home_key events (l ∷ outer) = key_if (is_sought false (events l.label)) l.label (home_key events outer)

-- whether a key with this label, if it has one, has one of these
abbrev pub has_label_among : Option Label → List Label → Bool
has_label_among None own = false
has_label_among (Some label) own = is_among label own

-- the from of a level for a task that has cancelled some labels in this moment
abbrev pub level_from : Bool → ℕ → Tick → Tick
level_from true m from = earlier from (Some m)
level_from false m from = from

-- a stack as a task sees it that has cancelled some labels in this moment; an event is never cancelled
abbrev pub seen_levels : Labels → Events → List Label → ℕ → Stack → Stack
seen_levels labels events own m [] = []
seen_levels labels events own m (l ∷ ls) =
    record l { from = level_from (is_sought false (events l.label) && has_label_among (labels l.label) own) m l.from }
    ∷ seen_levels labels events own m ls
