-- That the scopes and nurseries of a story are nested, and how they are left.
use Rattle.std.specs.Prelude.{◌≡◌, ℕ, ◌==◌, Bool, Option, Some, None, List, [], ◌∷◌, if◌then◌else◌}
use Rattle.exceptions.specs.Exceptions.{Label, Exc}
use Rattle.cancel_scopes.specs.Sight.{catches}
use Rattle.job_meaning.specs.Log.{Table}
use Rattle.job_meaning.specs.Moments.{tick_of, Now, only_at}
use Rattle.job_meaning.specs.declared.clock.Clock.{Clock}
use Rattle.job_meaning.specs.Walk.{Levels, Kind, home_of, label_on, with_own, from_for, stack_for, left_with, exc_after}
use Rattle.job_story.specs.Story.{Happening, cancels, sets, waits, leaves, Story, no_more, happened, started}
use Rattle.job_story.specs.Blame.{open_after}

-- ---- what a task has itself cancelled in a moment, read from its story

-- in moment t, before what happens then, where the last thing before it was at `now`
abbrev pub own_at : Now → ℕ → List Label
own_at now t = if t == now.at then now.own else []

-- After this happened to it in moment t. The label of an event that it set is kept there too, where names are given once it is the label of no scope or nursery.
abbrev pub now_after : Clock → Happening → ℕ → Now → Now
now_after clock (cancels label) t now = record { at = t; own = with_own clock label (own_at now t) }
now_after clock (sets label) t now = record { at = t; own = with_own clock label (own_at now t) }
now_after clock _ t now = record { at = t; own = own_at now t }

-- ---- one thing

-- A task leaves the innermost of the scopes and nurseries that are open. That one catches the cancellations in the exception of its inside
-- if it is cancelled by then, and is shielded or no cancellation is seen outside of it; the rest propagates. Of what the task has itself
-- cancelled in this moment it sees its own part at once.
abbrev pub IsLeft : Clock → List Label → Levels → ℕ → Kind → Label → Option Exc → Bool → Option Exc → Type 0
IsLeft clock own [] t kind label inside caught outside = ⊥
IsLeft clock own (l ∷ ls) t kind label inside caught outside =
    let left = left_with (catches (from_for own t l.label l.from) l.shield (stack_for own t ls) t) inside in
    (l.label ≡ label) × (caught ≡ left.caught) × (outside ≡ exc_after kind label (tick_of clock t) left)

-- a `cancel` step cancels the innermost of its name that is open, if there is one
abbrev pub IsOpen : Levels → Option Label → Type 0
IsOpen stack None = Unit {0}
IsOpen stack (Some l) = label_on l.name stack ≡ Some l

abbrev pub IsNestedIn : Clock → List Label → Levels → ℕ → Happening → Type 0
IsNestedIn clock own stack t (leaves kind label inside caught outside) = IsLeft clock own stack t kind label inside caught outside
IsNestedIn clock own stack t (waits nursery exc) = home_of stack ≡ Some nursery
IsNestedIn clock own stack t (cancels label) = IsOpen stack label
IsNestedIn clock own stack t _ = Unit {0}

-- Each thing of a story, of which `outside` are open before it begins and after it ends, and before which the task was at `now`. The home
-- of a started task is the innermost that is open where it is started, and it leaves all that it enters.
abbrev pub AllNested : Clock → Table → Now → Levels → Levels → Story → Type 0
AllNested clock table now outside stack no_more = stack ≡ outside
AllNested clock table now outside stack (happened t what rest) =
    IsNestedIn clock (own_at now t) stack t what
    × AllNested clock table (now_after clock what t now) outside (open_after table what stack) rest
AllNested clock table now outside stack (started l home part s u e own rest) =
    (home ≡ home_of stack) × AllNested clock table (only_at s) stack stack own × AllNested clock table now outside stack rest
