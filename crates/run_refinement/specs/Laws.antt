-- The laws of the tasks of the program. They are the contract of a function that does nothing.
use Rattle.std.specs.Prelude.{◌≡◌, ℕ, suc, ◌+◌, ◌*◌, ◌<◌, ◌≤◌, Option, Some, None, IsSome, List, [], ◌∷◌, length}
use Rattle.turn_semantics.specs.Lists.{IsAmong}
use Rattle.exceptions.specs.Exceptions.{Label, Exc}
use Rattle.job_tree.specs.Tree.{Tree as Job}
use Rattle.job_tree.specs.InRange.{IsInRange}
use Rattle.job_tree.specs.Names.{GivesNamesOnce, size_of}
use Rattle.job_tree.specs.Starting.{StartsInNurseries}
use Rattle.job_meaning.specs.Moments.{clock_of, tick_of}
use Rattle.job_meaning.specs.Meaning.{meaning_end, meaning_grants}
use Rattle.job_meaning.specs.declared.limits.TheConstants.{MAX_INPUT}
use Rattle.turn_semantics.specs.Midway.{Tables}
use Rattle.interleavings.specs.Laws.{IsSettledBy, meaning_tables}
use Rattle.task_machine.specs.States.{state_of}
use Rattle.task_machine.specs.declared.stop.Stop.{Stop}
use Rattle.task_machine.specs.declared.stop.Wake.{Wake}
use Rattle.task_machine.specs.declared.task.Task.{Task}
use Rattle.task_machine.specs.Fitting.{Fits, waits_of}
use Rattle.run_refinement.specs.RunState.{RunState, Refines}
use Rattle.run_refinement.specs.Turn.{IsSound}
use Rattle.run_refinement.specs.Begun.{IsNewRunState}
use Rattle.run_refinement.specs.Step.{TakesTurn, StopSays, StoppedIn}
use Rattle.run_refinement.specs.Leaving.{Leaving}
use Rattle.run_refinement.specs.Moved.{SameTasks, SameObjects, ServesRound, PassesOn, moved_world}
use Rattle.run_refinement.specs.Over.{IsOver}
use Rattle.run_refinement.specs.Ready.{AllStay, HasNext}

-- Before the first turn what the code holds is a run of one task in moment 0, for any table that is followed.
abbrev pub RunStatesBegin : Type 0
RunStatesBegin =
    (k : Tables) (job : Job) (input : List ℕ) (state : RunState) → IsInRange job → GivesNamesOnce job → StartsInNurseries job →
    length input ≤ MAX_INPUT →
    IsNewRunState job input state → Refines k job input 0 1 None state

-- Each task that has not ended has all that a turn of it requires of the world.
abbrev pub TasksFit : Type 0
TasksFit =
    (k : Tables) (job : Job) (input : List ℕ) (t m : ℕ) (leaving : Option ℕ) (state : RunState) → Refines k job input t m leaving state →
    IsSound state.world.scopes →
    (s : ℕ) (task : Task) → state.task s ≡ Some task → Fits (state_of task state.world) (waits_of task.task_state)

-- What holds after each turn of a task.
abbrev pub AfterTurns : (Tables → Job → List ℕ → ℕ → ℕ → ℕ → RunState → Task → Stop → Type 0) → Type 0
AfterTurns Holds =
    (k : Tables) (job : Job) (input : List ℕ) (t m s : ℕ) (old new : RunState) (before after : Task) (wake : Wake) (stop : Stop) →
    IsSettledBy k job input →
    GivesNamesOnce job → StartsInNurseries job → Refines k job input t m None old → TakesTurn t m s old new before after wake stop →
    Holds k job input t m s new after stop

-- For each settled table a turn of one task leaves a run of the definitions, with the tasks that it started: in it the task
-- stopped as the code says.
abbrev pub RunStatesTurn : Type 0
RunStatesTurn = AfterTurns (λ k job input t m s new after stop. StoppedIn k job input t (m + length new.world.started.items) s stop new)

-- And what a stop says of the task is true: a sleep is to a later moment.
abbrev pub StopsSay : Type 0
StopsSay = AfterTurns (λ k job input t m s new after stop. StopSays new.world after stop)

-- A task that has ended leaves, and its end is recorded in its nursery: then no task's end is left to record.
abbrev pub RunStatesLeave : Type 0
RunStatesLeave =
    (k : Tables) (job : Job) (input : List ℕ) (t m s : ℕ) (old new : RunState) (task : Task) (exc : Option Exc) →
    (c : Refines k job input t m (Some s) old) →
    Leaving t s old new (c.interleaving.at s) task exc → Refines k job input t m None new

-- Tasks that were started are taken from the world: it is a run of the same tasks of the definitions.
abbrev pub RunStatesTake : Type 0
RunStatesTake =
    (k : Tables) (job : Job) (input : List ℕ) (t m : ℕ) (leaving : Option ℕ) (old new : RunState) → SameTasks old new → SameObjects old new →
    new.world ≡ moved_world old.world t new.world →
    (c : Refines k job input t m leaving old) → (x : Refines k job input t m leaving new) × (x.interleaving.at ≡ c.interleaving.at)

-- When no task continues in this moment, what was done in it to limiters and channels may be served, in the order of records. What they
-- grant by that is what the tables grant for the next moment.
abbrev pub RunStatesServe : Type 0
RunStatesServe =
    (k : Tables) (job : Job) (input : List ℕ) (t m : ℕ) (old new : RunState) → IsSettledBy k job input → GivesNamesOnce job →
    StartsInNurseries job → SameTasks old new → new.world ≡ old.world → ServesRound t old new → Refines k job input t m None old →
    AllStay old (suc t) → Refines k job input t m None new

-- If no task continues before a later moment, and what was done is served, the clock may jump to it.
abbrev pub RunStatesJump : Type 0
RunStatesJump =
    (k : Tables) (job : Job) (input : List ℕ) (t u m : ℕ) (old new : RunState) → IsSettledBy k job input → GivesNamesOnce job →
    StartsInNurseries job → t < u → SameTasks old new → PassesOn t u old new → new.world ≡ moved_world old.world u new.world →
    Refines k job input t m None old → AllStay old u → Refines k job input u m None new

-- While a task has not ended and none continues before a moment, one has a moment in which it continues.
abbrev pub RunStatesGoOn : Type 0
RunStatesGoOn =
    (k : Tables) (job : Job) (input : List ℕ) (t m : ℕ) (state : RunState) → IsSettledBy k job input → GivesNamesOnce job → StartsInNurseries job →
    Refines k job input t m None state →
    (u : ℕ) → AllStay state u → (s : ℕ) (task : Task) → state.task s ≡ Some task → HasNext state

-- When all tasks have ended, and what they did is served, all that was granted is what the limiters and channels of the meaning grant.
abbrev pub GrantsAreTheMeaning : Type 0
GrantsAreTheMeaning =
    (job : Job) (input : List ℕ) → GivesNamesOnce job → StartsInNurseries job → (t m : ℕ) (state : RunState) →
    Refines (meaning_tables job input) job input t m None state → state.through ≡ suc t → ((p : ℕ) → state.task p ≡ None) →
    (object asker : Label) (u : ℕ) → state.grants object asker u ≡ meaning_grants job input object asker u

-- While a task has not ended, the job does not end before the present tick.
abbrev pub RunStatesAreInTime : Type 0
RunStatesAreInTime =
    (job : Job) (input : List ℕ) (t m : ℕ) (state : RunState) → GivesNamesOnce job → StartsInNurseries job →
    Refines (meaning_tables job input) job input t m None state →
    (s : ℕ) (task : Task) → state.task s ≡ Some task → tick_of (clock_of job.format) t ≤ meaning_end job input

-- There are at most twice as many turns as the job has steps, plus one.
abbrev pub TurnsAreFew : Type 0
TurnsAreFew =
    (k : Tables) (job : Job) (input : List ℕ) (t m : ℕ) (leaving : Option ℕ) (state : RunState) → Refines k job input t m leaving state →
    state.turns ≤ 2 * size_of job.steps + 1

-- no two of the numbers are the same
abbrev pub AreDistinct : List ℕ → Type 0
AreDistinct [] = Unit {0}
AreDistinct (s ∷ ss) = (IsAmong s ss → ⊥) × AreDistinct ss

-- And at most this number of tasks have not ended.
abbrev pub TasksAreFew : Type 0
TasksAreFew =
    (k : Tables) (job : Job) (input : List ℕ) (t m : ℕ) (state : RunState) → Refines k job input t m None state →
    (numbers : List ℕ) → AreDistinct numbers → ((s : ℕ) → IsAmong s numbers → IsSome (state.task s)) → length numbers ≤ 2 * size_of job.steps + 1

-- When all tasks have ended, what is kept of them is what the job means.
abbrev pub RunStatesEnd : Type 0
RunStatesEnd =
    (job : Job) (input : List ℕ) → GivesNamesOnce job → StartsInNurseries job → (t m : ℕ) (state : RunState) →
    Refines (meaning_tables job input) job input t m None state →
    ((p : ℕ) → state.task p ≡ None) → IsOver job input m state
