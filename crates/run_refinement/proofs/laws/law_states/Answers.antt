use Rattle.run_refinement.proofs.Begun.{state_begun}
use Rattle.run_refinement.proofs.Blocks.{state_in_time, state_goes_on, state_turns}
use Rattle.run_refinement.proofs.StateFits.{state_fits}
use Rattle.run_refinement.proofs.FewTasks.{state_few}
use Rattle.run_refinement.proofs.Jumped.{state_takes}
use Rattle.run_refinement.proofs.JumpsOn.{jumps}
use Rattle.run_refinement.proofs.Going.{may_wake}
use Rattle.run_refinement.proofs.Left.{state_left}
use Rattle.run_refinement.proofs.Over.{state_over, state_granted}
use Rattle.run_refinement.proofs.SharesServed.{serves}
use Rattle.run_refinement.proofs.Stepped.{stepped, stop_says}
use Rattle.run_refinement.proofs.laws.law_states.Goals as goal

pub returns-clause-begin : goal.returns-clause-begin
returns-clause-begin c =
    λ k job input state in_range names starting small h.
    state_begun k job input state h.root in_range starting names small h.world h.is_root h.first h.others h.ended_task h.start h.children h.turns
    h.path h.through h.object h.round h.granted h.grants

pub returns-clause-fit : goal.returns-clause-fit
returns-clause-fit c = state_fits

pub returns-clause-turn : goal.returns-clause-turn
returns-clause-turn c =
    λ k job input t m s old new before after wake stop settled names starting is x.
    stepped k job input t m s old new before after wake stop settled names starting is x
    (may_wake k job input t m old settled names starting is x.unserved s before x.task wake x.goes)

pub returns-clause-stop : goal.returns-clause-stop
returns-clause-stop c =
    λ k job input t m s old new before after wake stop settled names starting is x.
    stop_says k job input t m s old new before after wake stop settled names starting is x
    (may_wake k job input t m old settled names starting is x.unserved s before x.task wake x.goes)

pub returns-clause-leave : goal.returns-clause-leave
returns-clause-leave c = state_left

pub returns-clause-take : goal.returns-clause-take
returns-clause-take c = state_takes

pub returns-clause-serve : goal.returns-clause-serve
returns-clause-serve c = λ k job input t m old new settled names starting same world x is stay.
    serves k job input t m old new settled names starting is same x stay world

pub returns-clause-jump : goal.returns-clause-jump
returns-clause-jump c = λ k job input t u m old new settled names starting lt same passes world is stay.
    jumps k job input t u m old settled names starting is lt passes.served stay new same passes world

pub returns-clause-go_on : goal.returns-clause-go_on
returns-clause-go_on c = state_goes_on

pub returns-clause-in_time : goal.returns-clause-in_time
returns-clause-in_time c = state_in_time

pub returns-clause-turns : goal.returns-clause-turns
returns-clause-turns c = state_turns

pub returns-clause-tasks : goal.returns-clause-tasks
returns-clause-tasks c = state_few

pub returns-clause-over : goal.returns-clause-over
returns-clause-over c = state_over

pub returns-clause-grants : goal.returns-clause-grants
returns-clause-grants c = state_granted
