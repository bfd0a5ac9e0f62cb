-- A task that is granted what it asked for, by what its methods say one after the other: it notes that, and its block begins.
use Rattle.std.proofs.Common.{◌≡◌, ℕ, Some, None, List, [], ap, sym, ◌∙◌, subst}
use Rattle.std.specs.Borrow.{Bor}
use Rattle.job_tree.specs.Tree.{Steps}
use Rattle.job_tree.specs.declared.object.Ask.{Ask}
use Rattle.exceptions.specs.Exceptions.{Label}
use Rattle.input_lines.specs.Part.{buffer_of}
use Rattle.job_meaning.specs.Log.{was_granted}
use Rattle.job_meaning.specs.Moments.{tick_of}
use Rattle.job_meaning.specs.Sharing.{What}
use Rattle.job_meaning.specs.Walk.{Here}
use Rattle.job_meaning.specs.Rest as rest
use Rattle.turn_semantics.specs.Midway.{Place}
use Rattle.turn_semantics.specs.Wakes.{is_granted, goes_on_granted, granted_move}
use Rattle.task_machine.specs.declared.entry.Entry.{Entry}
use Rattle.task_machine.specs.declared.stop.TaskState.TheVariants.{Queued}
use Rattle.task_machine.specs.declared.stop.Moved.TheVariants.{On}
use Rattle.task_machine.specs.declared.task.Task.{Task}
use Rattle.task_machine.specs.declared.world.World.{World}
use Rattle.task_machine.specs.Fitting.{Fits, AreInRangeFrames, StartsFit, AreOf, blocks_of, received_in}
use Rattle.task_machine.specs.Frames.{frames_of}
use Rattle.task_machine.specs.Standing.{Wakens}
use Rattle.task_machine.specs.States.{state_of}
use Rattle.task_machine.specs.Stops.{Numbers}
use Rattle.task_machine.specs.Worlds.{label_at, NotesGrant}
use Rattle.task_machine.proofs.TaskFits.{granted_fits}
use Rattle.task_machine.proofs.Wakens.{wakes_granted}

-- the task before, with the grant noted, and after its block began
module _ (before noted after : Task) (world : World) (first : noted ≡ record before { entries = noted.entries })
    (second : after ≡ record noted { frames = after.frames }) (blocks : blocks_of after.frames.items ≡ blocks_of noted.frames.items) where
  stays : after ≡ record before { frames = after.frames; entries = after.entries }
  stays =
      second ∙ ap (λ (t : Task). record t { frames = after.frames }) first
      ∙ ap (λ (t : Task). record before { frames = after.frames; entries = t.entries }) (sym second)

  same : blocks_of after.frames.items ≡ blocks_of before.frames.items
  same = blocks ∙ ap (λ (t : Task). blocks_of t.frames.items) first

  -- it wakes as the definitions say
  pub begun_wakens : (object : ℕ) (a : Ask) (since : ℕ) (body : Bor Steps) → before.task_state ≡ Queued object a since body → (label : Label) →
      label_at world object ≡ Some label → (what : What) (as_noted : Ask) (inner : List rest.Frame → List rest.Frame) →
      ((here : Here) (t : ℕ) (fs : List rest.Frame) (ps : List Place) →
      granted_move label here a since t body.now what fs ps ≡ goes_on_granted (was_granted as_noted label) label here a since t (inner fs) ps) →
      NotesGrant as_noted label (tick_of world.clock world.tick) before.entries.items noted.entries.items →
      ((numbers : Numbers) → frames_of numbers after.frames.items ≡ inner (frames_of numbers noted.frames.items)) →
      Wakens (state_of before world) (state_of after world) (On None) (is_granted what)
  begun_wakens object a since body queues label found what as_noted inner so notes frames =
      wakes_granted (state_of before world) object a since body queues what label found (state_of after world) as_noted inner so
      (ap (λ (t : Task). state_of t world) stays) same
      (λ numbers. frames numbers ∙ ap (λ (t : Task). inner (frames_of numbers t.frames.items)) first)
      (subst (λ (es : List Entry). NotesGrant as_noted label (tick_of world.clock world.tick) before.entries.items es)
      (sym (ap (λ (t : Task). t.entries.items) second)) notes)

  -- what holds of it is kept
  pub begun_fits : (hs : List rest.Frame) → Fits (state_of before world) None → frames_of (λ id. []) after.frames.items ≡ hs → AreInRangeFrames hs →
      StartsFit hs → AreOf (buffer_of before.part) (received_in after.frames.items) → Fits (state_of after world) None
  begun_fits hs fits frames in_range starts lent =
      granted_fits (state_of before world) (state_of after world) hs fits same frames in_range starts lent (ap (λ (t : Task). state_of t world) stays)
