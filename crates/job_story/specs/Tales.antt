-- The result of the code, in the terms of the story.
use Rattle.std.specs.Prelude.{◌≡◌, ◌++◌, ℕ, max, List, [], map, reverse}
use Rattle.std.specs.Option.{option_map}
use Rattle.exceptions.specs.Exceptions.{Label}
use Rattle.exceptions.specs.Held.{exc_of}
use Rattle.job_meaning.specs.Moments.{tick_of, Now}
use Rattle.job_meaning.specs.declared.clock.Clock.{Clock}
use Rattle.job_meaning.specs.Walk.{Kind, Left, exc_after, latest, excs_of}
use Rattle.job_story.specs.Events.{events_of}
use Rattle.job_story.specs.Held.{event_of}
use Rattle.job_story.specs.Story.{Story, Tale, leaves}
use Rattle.job_story.specs.Tell.{story_of_one}
use Rattle.job_story.specs.declared.event.Event.{Event}
use Rattle.job_story.specs.declared.progress.Progress.{Progress}
use Rattle.job_story.specs.declared.stretch.Stretch.{Stretch}

-- what a task has cancelled itself in its moment, the last first
abbrev pub own_of : Progress → List Label
own_of p = reverse p.cancelled.items

-- where a task is in this moment
abbrev pub now_in : ℕ → Progress → Now
now_in m p = record { at = m; own = own_of p }

-- what the code recorded is the end of the tale
pub record IsStretchOf (w : Stretch) (a : Tale) : Type 0 where
  pub end : w.end ≡ a.end
  pub exc : option_map exc_of w.exc ≡ a.exc
  pub open_until : (t : ℕ) → latest t a.members ≡ max t w.open_until
  pub open_excs : map exc_of w.open_excs.items ≡ excs_of a.members

-- the events of a task's story were appended to others
pub record Adds (me : Label) (before after : List Event) (story : Story) : Type 0 where
  pub added : map event_of after ≡ map event_of before ++ events_of me story

-- the code appended the events of a tale, and recorded its end and what the task has cancelled itself in this moment
pub record Tells (me : Label) (before : List Event) (w : Stretch) (after : Progress) (a : Tale) : Type 0 where
  pub stretch : IsStretchOf w a
  pub events : Adds me before after.events.items a.story
  pub own : own_of after ≡ a.own

-- a block was left, whose inside has this result
pub record IsLeft (clock : Clock) (me : Label) (before : List Event) (after : Progress) (inner w : Stretch) (kind : Kind) (label : Label)
    (cancelled : List Label) (left : Left) : Type 0 where
  pub end : w.end ≡ inner.end
  pub exc : option_map exc_of w.exc ≡ exc_after kind label (tick_of clock inner.end) left
  pub open_until : w.open_until ≡ 0
  pub open_excs : map exc_of w.open_excs.items ≡ []
  pub events : Adds me before after.events.items
      (story_of_one inner.end
      (leaves kind label (option_map exc_of inner.exc) left.caught (exc_after kind label (tick_of clock inner.end) left)))
  pub own : own_of after ≡ cancelled
