-- The steps in the code's types, as the tree of a job.
use Rattle.std.specs.Prelude.{Option, Some, None, List, [], ◌∷◌}
use Rattle.job_tree.specs.declared.step.Step.{Step}
use Rattle.job_tree.specs.declared.step.Handler.{Handler}
use Rattle.job_tree.specs.declared.step.Step.TheVariants.{Sleep, Checkpoint, Forever, Pace, Find, Head, Longest, Need, Raise, Cancel, Set, Wait, Ask, Close, Scope, Nursery, Event, Object, Start, Repeat, Try}
use Rattle.job_tree.specs.Tree as tree

abbrev pub handled_of : Option Handler → tree.Handled
handled_of None = tree.unhandled
handled_of (Some h) = tree.except h.name h.body

abbrev pub cleaned_of : Option tree.Steps → tree.Cleaned
cleaned_of None = tree.uncleaned
cleaned_of (Some body) = tree.finally body

-- one step
abbrev pub step_of : Step → tree.Step
step_of (Sleep n) = tree.sleep n
step_of Checkpoint = tree.checkpoint
step_of Forever = tree.forever
step_of (Pace k) = tree.pace k
step_of (Find text) = tree.find text
step_of (Head n) = tree.head n
step_of Longest = tree.longest
step_of (Need text name) = tree.need text name
step_of (Raise name) = tree.raise name
step_of (Cancel name) = tree.cancel name
step_of (Set name) = tree.set_event name
step_of (Wait name) = tree.wait_for name
step_of (Ask name ask body) = tree.ask_for name ask body
step_of (Close name) = tree.close_channel name
step_of (Scope name deadline shield fail body) = tree.scope name deadline shield fail body
step_of (Nursery name deadline shield body) = tree.nursery name deadline shield body
step_of (Event name body) = tree.event name body
step_of (Object name kind body) = tree.object name kind body
step_of (Start name over body) = tree.start name over body
step_of (Repeat count over body) = tree.repeat count over body
step_of (Try body handler cleanup) = tree.attempt body (handled_of handler) (cleaned_of cleanup)

-- a list of steps as a block
abbrev pub steps_of : List Step → tree.Steps
steps_of [] = tree.stop
steps_of (s ∷ ss) = tree.step (step_of s) (steps_of ss)
