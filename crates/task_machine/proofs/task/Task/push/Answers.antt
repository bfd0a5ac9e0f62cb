use Rattle.task_machine.proofs.FrameLemmas.{frames_pushed, blocks_pushed, received_pushed}
use Rattle.task_machine.proofs.task.Task.push.Goals as goal

pub returns-clause-frames : goal.returns-clause-frames
returns-clause-frames c = λ children. frames_pushed children _ _ _ c.in_ok-push.ensures.ok

pub returns-clause-blocks : goal.returns-clause-blocks
returns-clause-blocks c = blocks_pushed _ _ _ c.in_ok-push.ensures.ok

pub returns-clause-received : goal.returns-clause-received
returns-clause-received c = received_pushed _ _ _ c.in_ok-push.ensures.ok
