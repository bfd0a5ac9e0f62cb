use Rattle.exceptions.specs.Labels.{same_label_equiv}
use Rattle.story_index.proofs.Adds.{one_added}
use Rattle.story_index.proofs.task_set.TaskSet.add.Goals as goal

pub returns : goal.returns
returns c = λ l.
    one_added c.args.self.now.all c.insert.new.self c.args.task c.in_ok-insert.ensures.updates l (same_label_equiv.symm c.args.task.now l)
