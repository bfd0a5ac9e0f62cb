-- A block is heavier than each block inside it.
use Rattle.std.specs.Prelude.{◌+◌, ◌≤◌, max, Some, None, List, [], ◌∷◌}
use Rattle.std.proofs.Common.{arith}
use denote.Param.Weighed.{most}
use Rattle.job_tree.specs.declared.step.Step.{Step}
use Rattle.job_tree.specs.declared.step.Step.TheVariants.{Sleep, Checkpoint, Forever, Pace, Find, Head, Longest, Need, Raise, Cancel, Set, Wait, Ask, Close, Scope, Nursery, Event, Object, Start, Repeat, Try}
use Rattle.job_tree.specs.declared.step.Body.TheDeep.{deep-Step}
use Rattle.job_tree.specs.Weigh.{weight_of, weight_in}
use Rattle.job_tree.specs.Blocks.{step_of, steps_of}

pub deep_le_weight : (s : Step) → deep-Step s + 1 ≤ weight_in (step_of s)
deep_le_weight (Sleep n) = omega arith
deep_le_weight Checkpoint = omega arith
deep_le_weight Forever = omega arith
deep_le_weight (Pace k) = omega arith
deep_le_weight (Find text) = omega arith
deep_le_weight (Head n) = omega arith
deep_le_weight Longest = omega arith
deep_le_weight (Need text name) = omega arith
deep_le_weight (Raise name) = omega arith
deep_le_weight (Cancel name) = omega arith
deep_le_weight (Set name) = omega arith
deep_le_weight (Wait name) = omega arith
deep_le_weight (Ask name ask body) = omega arith
deep_le_weight (Close name) = omega arith
deep_le_weight (Scope name deadline shield fail body) = omega arith
deep_le_weight (Nursery name deadline shield body) = omega arith
deep_le_weight (Event name body) = omega arith
deep_le_weight (Object name kind body) = omega arith
deep_le_weight (Start name over body) = omega arith
deep_le_weight (Repeat count over body) = omega arith
deep_le_weight (Try body None None) = omega arith
deep_le_weight (Try body None (Some c)) = omega arith
deep_le_weight (Try body (Some h) None) = omega arith
deep_le_weight (Try body (Some h) (Some c)) = omega arith

most_le_weight : (ss : List Step) → most deep-Step ss ≤ weight_of (steps_of ss)
most_le_weight [] = omega arith
most_le_weight (s ∷ ss) = omega (arith, most_le_weight ss, deep_le_weight s)

pub body_falls : (ss : List Step) → max (most deep-Step ss) 0 ≤ weight_of (steps_of ss)
body_falls ss = omega (arith, most_le_weight ss)
