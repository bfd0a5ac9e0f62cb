-- Which scope or nursery a story may name for a cancellation.
use Rattle.std.specs.Prelude.{◌≡◌, ◌≢◌, ◌⊎◌, ℕ, ◌<◌, ◌≤◌, Bool, false, Option, Some, None, [], ◌∷◌}
use Rattle.exceptions.specs.Exceptions.{Label}
use Rattle.cancel_scopes.specs.Sight.{Tick, sight}
use Rattle.job_meaning.specs.Log.{Table}
use Rattle.job_meaning.specs.Walk.{Levels}
use Rattle.job_story.specs.Story.{During, at_checkpoint, sleeping, waiting_for, in_queue, before_asking, Happening, enters, is_cancelled, leaves, Story, no_more, happened, started}

-- ---- the scopes and nurseries that are open, to which events do not belong

abbrev pub outer : Levels → Levels
outer [] = []
outer (l ∷ ls) = ls

-- the stack inside a scope or nursery
abbrev pub levels_inside : Label → Bool → Tick → Levels → Levels
levels_inside label shield from stack = record { label = label; shield = shield; from = from } ∷ stack

-- After this happened to a task: the one that it entered is the innermost, and the innermost is closed where it left one.
abbrev pub open_after : Table → Happening → Levels → Levels
open_after table (enters kind label deadline shield) stack = levels_inside label shield (table label) stack
open_after table (leaves kind label inside caught outside) stack = outer stack
open_after table _ stack = stack

-- ---- one cancellation

-- The label is that of a level of the stack that is cancelled from this moment on, and no level inside it is shielded or is cancelled
-- from the same moment on.
abbrev pub IsInnermost : Label → ℕ → Levels → Type 0
IsInnermost l from [] = ⊥
IsInnermost l from (k ∷ ks) =
    ((l ≡ k.label) × (k.from ≡ Some from)) ⊎ ((k.shield ≡ false) × (k.from ≢ Some from) × IsInnermost l from ks)

-- When `Cancelled` is raised in moment t: a task that slept or waited since s is cancelled in the first moment of the cancellation, which
-- is after s; at a checkpoint the cancellation began before, or by that moment.
abbrev pub IsRaisedAt : ℕ → ℕ → During → Type 0
IsRaisedAt from t at_checkpoint = from ≤ t
IsRaisedAt from t (sleeping s) = (s < from) × (t ≡ from)
IsRaisedAt from t (waiting_for event s) = (s < from) × (t ≡ from)
IsRaisedAt from t (in_queue ask object s) = (s < from) × (t ≡ from)
IsRaisedAt from t (before_asking ask object) = from ≤ t

-- The story names the innermost scope or nursery that encloses the task, is hidden by no shield, and is cancelled by the table from
-- the effective deadline (`sight`) of the task on.
pub record IsBlamed (table : Table) (stack : Levels) (t : ℕ) (by : Option Label) (during : During) : Type 0 where
  pub label : Label
  pub from : ℕ
  pub named : by ≡ Some label
  pub in_table : table label ≡ Some from
  pub seen : sight stack ≡ Some from
  pub innermost : IsInnermost label from stack
  pub raised : IsRaisedAt from t during

-- ---- all cancellations of a story

-- A task that does not ask sees a cancellation, which may be its own of that moment. Where the story names a scope or nursery, that is it.
abbrev pub IsBlamedIfNamed : Table → Levels → ℕ → Option Label → During → Type 0
IsBlamedIfNamed table stack t None during = Unit {0}
IsBlamedIfNamed table stack t (Some label) during = IsBlamed table stack t (Some label) during

abbrev pub IsBlamedFor : Table → Levels → ℕ → Option Label → During → Type 0
IsBlamedFor table stack t by (before_asking ask object) = IsBlamedIfNamed table stack t by (before_asking ask object)
IsBlamedFor table stack t by during = IsBlamed table stack t by during

abbrev pub IsBlamedIn : Table → Levels → ℕ → Happening → Type 0
IsBlamedIn table stack t (is_cancelled by during in_cleanup) = IsBlamedFor table stack t by during
IsBlamedIn table stack t _ = Unit {0}

-- Each cancellation of a story, which begins where the scopes and nurseries of the stack are open, and is read from its start to its
-- end. A started task begins where the stack is that of the place where it is started.
abbrev pub AllBlamed : Table → Levels → Story → Type 0
AllBlamed table stack no_more = Unit {0}
AllBlamed table stack (happened t what rest) = IsBlamedIn table stack t what × AllBlamed table (open_after table what stack) rest
AllBlamed table stack (started l home part s u e own rest) = AllBlamed table stack own × AllBlamed table stack rest
