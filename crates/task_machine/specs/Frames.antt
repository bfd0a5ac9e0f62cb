-- What the code holds of a task's unfinished blocks, the innermost last, as frames, the innermost first.
use Rattle.std.specs.Prelude.{ℕ, List, [], ◌∷◌, ◌++◌, Option, Some, None}
use Rattle.std.specs.Global.{Box}
use Rattle.std.specs.Option.{option_map, option_copied}
use Rattle.job_tree.specs.Blocks.{steps_of, handled_of, cleaned_of}
use Rattle.exceptions.specs.Held.{exc_of}
use Rattle.exceptions.specs.declared.exc.Exc as held
use Rattle.input_lines.specs.Lines.{Range}
use Rattle.input_lines.specs.Part.{buffer_of, range_of}
use Rattle.input_lines.specs.declared.part.Part.{Part}
use Rattle.job_meaning.specs.Walk.{part_in_pass}
use Rattle.job_meaning.specs.Rest as rest
use Rattle.task_machine.specs.declared.frame.Frame.{Frame}
use Rattle.task_machine.specs.declared.frame.Frame.TheVariants.{Steps, Scope, Event, Token, Received, Nursery, Repeat, Try, Handler, Cleanup}

-- the exception in an optional box
abbrev pub unboxed_exc : Option (Box held.Exc) → Option held.Exc
unboxed_exc None = None
unboxed_exc (Some in_box) = Some in_box.value

-- one frame, where the children that were started in each nursery have these numbers
abbrev pub frame_of : (ℕ → List ℕ) → Frame → rest.Frame
frame_of children (Steps steps) = rest.steps_left (steps_of steps.now)
frame_of children (Scope fail) = rest.in_scope fail
frame_of children Event = rest.in_event
frame_of children (Token limiter) = rest.with_token limiter.value
frame_of children (Received lent) = rest.with_part (range_of lent)
frame_of children (Nursery id) = rest.in_nursery (children id)
frame_of children (Repeat pass left cuts body) = rest.in_repeat pass left cuts body.now
frame_of children (Try handler cleanup) = rest.in_try (handled_of (option_copied handler)) (cleaned_of cleanup.now)
frame_of children (Handler others cleanup) = rest.in_handler (option_map exc_of (unboxed_exc others)) (cleaned_of cleanup.now)
frame_of children (Cleanup outcome) = rest.in_cleanup (option_map exc_of (unboxed_exc outcome))

-- those that the code holds, inside the outer ones
abbrev pub frames_onto : (ℕ → List ℕ) → List Frame → List rest.Frame → List rest.Frame
frames_onto children [] outer = outer
frames_onto children (f ∷ fs) outer = frames_onto children fs (frame_of children f ∷ outer)

abbrev pub frames_of : (ℕ → List ℕ) → List Frame → List rest.Frame
frames_of children fs = frames_onto children fs []

-- the part of an input that a task has at some point
pub record Lent : Type 0 where
  pub input : List ℕ
  pub range : Range

-- the range of the part inside these frames, outermost first: each pass of a `repeat over` has its cut, and the block of a `receive`
-- what was received
abbrev pub cuts_onto : List ℕ → List Frame → Range → Range
cuts_onto input [] lent = lent
cuts_onto input (Steps steps ∷ fs) lent = cuts_onto input fs lent
cuts_onto input (Scope fail ∷ fs) lent = cuts_onto input fs lent
cuts_onto input (Event ∷ fs) lent = cuts_onto input fs lent
cuts_onto input (Token limiter ∷ fs) lent = cuts_onto input fs lent
cuts_onto input (Received received ∷ fs) lent = cuts_onto input fs (range_of received)
cuts_onto input (Nursery id ∷ fs) lent = cuts_onto input fs lent
cuts_onto input (Repeat pass left cuts body ∷ fs) lent = cuts_onto input fs (part_in_pass input cuts pass lent)
cuts_onto input (Try handler cleanup ∷ fs) lent = cuts_onto input fs lent
cuts_onto input (Handler others cleanup ∷ fs) lent = cuts_onto input fs lent
cuts_onto input (Cleanup outcome ∷ fs) lent = cuts_onto input fs lent

-- what a task with this part has inside these frames
abbrev pub lent_by : Part → List Frame → Lent
lent_by part fs = record { input = buffer_of part; range = cuts_onto (buffer_of part) fs (range_of part) }

-- the path of indices inside these frames, outermost first: each pass of a `repeat` adds its number
abbrev pub passes_onto : List Frame → List ℕ → List ℕ
passes_onto [] path = path
passes_onto (Steps steps ∷ fs) path = passes_onto fs path
passes_onto (Scope fail ∷ fs) path = passes_onto fs path
passes_onto (Event ∷ fs) path = passes_onto fs path
passes_onto (Token limiter ∷ fs) path = passes_onto fs path
passes_onto (Received received ∷ fs) path = passes_onto fs path
passes_onto (Nursery id ∷ fs) path = passes_onto fs path
passes_onto (Repeat pass left cuts body ∷ fs) path = passes_onto fs (path ++ pass ∷ [])
passes_onto (Try handler cleanup ∷ fs) path = passes_onto fs path
passes_onto (Handler others cleanup ∷ fs) path = passes_onto fs path
passes_onto (Cleanup outcome ∷ fs) path = passes_onto fs path
